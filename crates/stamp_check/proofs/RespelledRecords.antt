-- A migrated history is linearized where the old one is, and has the same first fault.
use Rattle.std.proofs.Common.{◌≡◌, ℕ, ◌+◌, ◌-◌, ◌<◌, ◌≤◌, List, [], length, get_or, take, map, refl}
use Rattle.std.proofs.Common.{sym, ◌∙◌, ap, subst, arith, true, false, Option, Some, None, Ok, Err}
use Rattle.std.specs.Prelude.{◌↔◌, slice_get, option_map}
use Rattle.std.specs.List.{All, AllPairs, AllAdjacentBelow}
use Rattle.std.proofs.lemmas.List.{length-map, length-take, get_or-map, take-map}
use Rattle.std.proofs.lemmas.List.Elements.{All-take, All-get_or}
use Rattle.std.proofs.lemmas.Option.{slice_get-map, slice_get_within, get_or_from_slice_get, none-some, same_Some}
use Rattle.stamp_core.specs.Limits.{Bounds, AreInRange}
use Rattle.stamp_core.specs.Content.{zeros}
use Rattle.stamp_core.specs.Record.{Recorded, IsRecorded}
use Rattle.stamp_core.specs.History.{IsLegal}
use Rattle.stamp_core.specs.Linearized.{history_of, HasPointInside, KeepsThreadOrder, AreLinearized}
use Rattle.stamp_core.specs.Linearized.{IsLinearized, RisesAbove, FollowsItsThread}
use Rattle.stamp_core.specs.declared.entry.Entry.{Entry}
use Rattle.stamp_core.specs.declared.layout.Layout.{Layout}
use Rattle.stamp_core.specs.declared.layout.Layout.TheVariants.{One, Two}
use Rattle.stamp_check.specs.declared.checking.Why.{Why}
use Rattle.stamp_check.specs.declared.checking.Why.TheVariants.{Interval, Order, Overlap, Reply}
use Rattle.stamp_check.specs.FirstFault.{Breaks, IsFirstFault}
use Rattle.stamp_check.specs.SameJudgement.{HaveSameJudgement}
use Rattle.stamp_check.specs.Migration.{respelled_entry, respelled_record, widened, migrated}
use Rattle.stamp_check.specs.Migration.{migrated_from, CanRespell, AllCanRespell, CanMigrate}
use Rattle.stamp_check.specs.Migration.{IsFirstForeign}
use Rattle.stamp_check.specs.MigrationLaws.{LinearizedMigrates, MigrationKeepsLinearized}
use Rattle.stamp_check.specs.MigrationLaws.{MigrationKeepsFaults, MigrationKeepsVerdicts}
use Rattle.stamp_check.proofs.RespelledEntries.{legal_alike, legal_can, answered_alike}

-- what is true of respelled entries where it is true of the entries
all_alike : (P Q : Entry → Type 0) (es : List Entry) → ((e : Entry) → P (respelled_entry e) ↔ Q e) →
    All P (map respelled_entry es) ↔ All Q es
all_alike P Q es same = (
  λ all k d lt. (same (get_or es k d)).0 (subst P (get_or-map respelled_entry es k d d lt)
      (all k d (omega (arith, length-map es respelled_entry)))),
  λ all k d lt. let within : k < length es = omega (arith, length-map es respelled_entry) in
      subst P (sym (get_or-map respelled_entry es k d d within)) ((same (get_or es k d)).1 (all k d within)),
)

related_alike : (R : Entry → Entry → Type 0) (es : List Entry) (i j : ℕ) (d : Entry) →
    ((a b : Entry) → R (respelled_entry a) (respelled_entry b) ↔ R a b) → i < length es → j < length es →
    R (get_or (map respelled_entry es) i d) (get_or (map respelled_entry es) j d) ↔ R (get_or es i d) (get_or es j d)
related_alike R es i j d same lt within =
    rw (get_or-map respelled_entry es i d d lt, get_or-map respelled_entry es j d d within)
    (same (get_or es i d) (get_or es j d))

adjacent_alike : (R : Entry → Entry → Type 0) (es : List Entry) →
    ((a b : Entry) → R (respelled_entry a) (respelled_entry b) ↔ R a b) →
    AllAdjacentBelow R (map respelled_entry es) (length (map respelled_entry es)) ↔ AllAdjacentBelow R es (length es)
adjacent_alike R es same = (
  λ all k d lt. (related_alike R es k (k + 1) d same (omega arith) lt).0
      (all k d (omega (arith, length-map es respelled_entry))),
  λ all k d lt. let within : k + 1 < length es = omega (arith, length-map es respelled_entry) in
      (related_alike R es k (k + 1) d same (omega arith) within).1 (all k d within),
)

pairs_alike : (R : Entry → Entry → Type 0) (es : List Entry) →
    ((a b : Entry) → R (respelled_entry a) (respelled_entry b) ↔ R a b) → AllPairs R (map respelled_entry es) ↔
    AllPairs R es
pairs_alike R es same = (
  λ all i j d lt end. (related_alike R es i j d same (omega arith) end).0
      (all i j d lt (omega (arith, length-map es respelled_entry))),
  λ all i j d lt end. let within : j < length es = omega (arith, length-map es respelled_entry) in
      (related_alike R es i j d same (omega arith) within).1 (all i j d lt within),
)

-- thread and positions stay
within_alike : (e : Entry) → HasPointInside (respelled_entry e) ↔ HasPointInside e
within_alike e = (λ h. record { begun = h.begun; ended = h.ended }, λ h. record { begun = h.begun; ended = h.ended })

rises_alike : (before : List Entry) (e : Entry) → RisesAbove (map respelled_entry before) (respelled_entry e) ↔
    RisesAbove before e
rises_alike before e = (
  λ h d some. subst (λ (x : Entry). x.point < e.point) (last d some)
      (h d (omega (arith, length-map before respelled_entry))),
  λ h d some. let here : 0 < length before = omega (arith, length-map before respelled_entry) in
      subst (λ (x : Entry). x.point < e.point) (sym (last d here)) (h d here),
)
  where
    last : (d : Entry) → 0 < length before → get_or (map respelled_entry before)
        (length (map respelled_entry before) - 1) d ≡ respelled_entry (get_or before (length before - 1) d)
    last d some = ap (λ (n : ℕ). get_or (map respelled_entry before) (n - 1) d)
        (length-map before respelled_entry) ∙ get_or-map respelled_entry before (length before - 1) d d (omega arith)

follows_alike : (before : List Entry) (e : Entry) →
    FollowsItsThread (map respelled_entry before) (respelled_entry e) ↔ FollowsItsThread before e
follows_alike before e = all_alike (λ (d : Entry). KeepsThreadOrder d (respelled_entry e))
    (λ (d : Entry). KeepsThreadOrder d e) before (λ d. (λ h. h, λ h. h))

-- the whole
linearized_alike : (limits : Bounds) (width : ℕ) (es : List Entry) → limits.layout ≡ One → AreInRange limits →
    AllCanRespell es → length es ≤ 70368744177662 → AreLinearized (widened limits) width (map respelled_entry es) ↔
    AreLinearized limits width es
linearized_alike limits width es one range can room = (
  λ h. record {
    within = within.0 h.within;
    rising = rising.0 h.rising;
    apart = apart.0 h.apart;
    legal =
        legal.0 h.legal;
  },
  λ h. record {
    within = within.1 h.within;
    rising = rising.1 h.rising;
    apart = apart.1 h.apart;
    legal =
        legal.1 h.legal;
  },
)
  where
    within : All HasPointInside (map respelled_entry es) ↔ All HasPointInside es
    within = all_alike HasPointInside HasPointInside es within_alike

    Below : Entry → Entry → Type 0
    Below e f = e.point < f.point

    rising : AllAdjacentBelow Below (map respelled_entry es) (length (map respelled_entry es)) ↔
        AllAdjacentBelow Below es (length es)
    rising = adjacent_alike Below es (λ a b. (λ h. h, λ h. h))

    apart : AllPairs KeepsThreadOrder (map respelled_entry es) ↔ AllPairs KeepsThreadOrder es
    apart = pairs_alike KeepsThreadOrder es (λ a b. (λ h. h, λ h. h))

    legal : IsLegal (widened limits) width (history_of (map respelled_entry es)) ↔ IsLegal limits width (history_of es)
    legal = legal_alike limits [] (zeros width) es one range can (omega arith)

not_alike : {P Q : Type 0} → P ↔ Q → (¬ P) ↔ (¬ Q)
not_alike same = (λ no h. no (same.1 h), λ no h. no (same.0 h))

breaks_alike : (limits : Bounds) (width : ℕ) (before : List Entry) (e : Entry) (why : Why) → limits.layout ≡ One →
    AreInRange limits → CanRespell e.reply → length before < 70368744177662 →
    Breaks (widened limits) width (map respelled_entry before) (respelled_entry e) why ↔
    Breaks limits width before e why
breaks_alike limits width before e Interval one range can room = not_alike (within_alike e)
breaks_alike limits width before e Order one range can room =
    let w = within_alike e in
    let r = not_alike (rises_alike before e) in
    (λ h. (w.0 h.0, r.0 h.1), λ h. (w.1 h.0, r.1 h.1))
breaks_alike limits width before e Overlap one range can room =
    let w = within_alike e in
    let r = rises_alike before e in
    let f = not_alike (follows_alike before e) in
    (λ h. (w.0 h.0, r.0 h.1, f.0 h.2), λ h. (w.1 h.0, r.1 h.1, f.1 h.2))
breaks_alike limits width before e Reply one range can room =
    let w = within_alike e in
    let r = rises_alike before e in
    let f = follows_alike before e in
    let a = not_alike (answered_alike limits width before e one range can room) in
    (λ h. (w.0 h.0, r.0 h.1, f.0 h.2, a.0 h.3), λ h. (w.1 h.0, r.1 h.1, f.1 h.2, a.1 h.3))

-- an entry of respelled ones is a respelled entry
respelled_of : (es : List Entry) (i : ℕ) (x : Entry) → slice_get (map respelled_entry es) i ≡ Some x → (e : Entry) ×
    ((slice_get es i ≡ Some e) × (respelled_entry e ≡ x))
respelled_of es i x at = by (slice_get es i) refl
  where
    by : (o : Option Entry) → slice_get es i ≡ o → (e : Entry) × ((slice_get es i ≡ Some e) × (respelled_entry e ≡ x))
    by None h = let m = slice_get-map respelled_entry es i in
        absurd (none-some x (sym (sym at ∙ m ∙ ap (option_map respelled_entry) h)))
    by (Some e) h = let m = slice_get-map respelled_entry es i in
        (e, (h, same_Some (respelled_entry e) x (sym (ap (option_map respelled_entry) h) ∙ sym m ∙ at)))

at_respelled : (es : List Entry) (i : ℕ) (e : Entry) → slice_get es i ≡ Some e →
    slice_get (map respelled_entry es) i ≡ Some (respelled_entry e)
at_respelled es i e at = slice_get-map respelled_entry es i ∙ ap (option_map respelled_entry) at

pub can_at : (es : List Entry) (i : ℕ) (e : Entry) → AllCanRespell es → slice_get es i ≡ Some e → CanRespell e.reply
can_at es i e can at = subst (λ (x : Entry). CanRespell x.reply) (get_or_from_slice_get es i e e at)
    (All-get_or (λ (x : Entry). CanRespell x.reply) es i e (slice_get_within es i e at) can)

faults_alike : (r : Recorded) (i : ℕ) (why : Why) → r.limits.layout ≡ One → AreInRange r.limits →
    AllCanRespell r.entries → length r.entries ≤ 640000 → IsFirstFault (respelled_record r) i why ↔
    IsFirstFault r i why
faults_alike r i why one range can few = (
  λ h.
      let e = respelled_of r.entries i h.entry h.is_entry in
      record {
        entry = e.0;
        is_entry = e.1.0;
        before =
            before.0 (subst Linear (take-map respelled_entry i r.entries) h.before);
        breaks =
            (breaks e.0 e.1.0).0 (broken h.entry e.0 e.1.1 h.breaks);
      },
  λ h. record {
    entry = respelled_entry h.entry;
    is_entry = at_respelled r.entries i h.entry h.is_entry;
    before =
        subst Linear (sym (take-map respelled_entry i r.entries)) (before.1 h.before);
    breaks =
        breaking h.entry ((breaks h.entry h.is_entry).1 h.breaks);
  },
)
  where
    Linear : List Entry → Type 0
    Linear es = AreLinearized (widened r.limits) r.width es

    shorter : length (take i r.entries) ≤ 640000
    shorter = omega (arith, length-take i r.entries)

    before : AreLinearized (widened r.limits) r.width (map respelled_entry (take i r.entries)) ↔
        AreLinearized r.limits r.width (take i r.entries)
    before = linearized_alike r.limits r.width (take i r.entries) one range
        (All-take (λ (x : Entry). CanRespell x.reply) i r.entries can) (omega (arith, shorter))

    breaks : (e : Entry) → slice_get r.entries i ≡ Some e →
        Breaks (widened r.limits) r.width (map respelled_entry (take i r.entries)) (respelled_entry e) why ↔
        Breaks r.limits r.width (take i r.entries) e why
    breaks e at = breaks_alike r.limits r.width (take i r.entries) e why one range (can_at r.entries i e can at)
        (omega (arith, shorter))

    broken : (x e : Entry) → respelled_entry e ≡ x →
        Breaks (widened r.limits) r.width (take i (map respelled_entry r.entries)) x why →
        Breaks (widened r.limits) r.width (map respelled_entry (take i r.entries)) (respelled_entry e) why
    broken x e same h =
        subst (λ (es : List Entry). Breaks (widened r.limits) r.width es (respelled_entry e) why)
        (take-map respelled_entry i r.entries)
        (subst (λ (y : Entry). Breaks (widened r.limits) r.width (take i (map respelled_entry r.entries)) y why)
        (sym same) h)

    breaking : (e : Entry) → Breaks (widened r.limits) r.width (map respelled_entry (take i r.entries))
        (respelled_entry e) why → Breaks (widened r.limits) r.width (take i (map respelled_entry r.entries))
        (respelled_entry e) why
    breaking e h = subst (λ (es : List Entry). Breaks (widened r.limits) r.width es (respelled_entry e) why)
        (sym (take-map respelled_entry i r.entries)) h

-- in either layout
pub migration_keeps_linearized : MigrationKeepsLinearized
migration_keeps_linearized r known range can = by r.limits.layout refl
  where
    by : (l : Layout) → r.limits.layout ≡ l → IsLinearized (migrated_from l r) ↔ IsLinearized r
    by One one = linearized_alike r.limits r.width r.entries one range (can one) (omega (arith, known.entries))
    by Two two = (λ h. h, λ h. h)

pub migration_keeps_faults : MigrationKeepsFaults
migration_keeps_faults r i why known range can = by r.limits.layout refl
  where
    by : (l : Layout) → r.limits.layout ≡ l → IsFirstFault (migrated_from l r) i why ↔ IsFirstFault r i why
    by One one = faults_alike r i why one range (can one) known.entries
    by Two two = (λ h. h, λ h. h)

pub linearized_migrates : LinearizedMigrates
linearized_migrates r known range all =
    let can : CanMigrate r = λ one. legal_can r.limits [] (zeros r.width) r.entries one range
    (omega (arith, known.entries)) all.legal in
    (can, (migration_keeps_linearized r known range can).1 all)

as_many : (r : Recorded) (l : Layout) → length (migrated_from l r).entries ≡ length r.entries
as_many r One = length-map r.entries respelled_entry
as_many r Two = refl

pub migration_keeps_verdicts : MigrationKeepsVerdicts
migration_keeps_verdicts r known range can (Ok n) =
    let same = migration_keeps_linearized r known range can in
    let many = as_many r r.limits.layout in
    (λ v. (same.0 v.0, v.1 ∙ many), λ v. (same.1 v.0, v.1 ∙ sym many))
migration_keeps_verdicts r known range can (Err bad) = migration_keeps_faults r bad.entry bad.why known range can

-- by the parts that a program reads
layout_of : (r : Recorded) (limits : Bounds) → limits ≡ r.limits → limits.layout ≡ One → r.limits.layout ≡ One
layout_of r limits same one = ap (λ (b : Bounds). b.layout) (sym same) ∙ one

pub same_judgement : (r m : Recorded) (limits : Bounds) (entries : List Entry) → limits ≡ r.limits → limits.layout ≡
    One → AreInRange limits → IsRecorded r → entries ≡ r.entries → AllCanRespell entries → m ≡ respelled_record r →
    HaveSameJudgement m r
same_judgement r m limits entries same one range known each can e =
    let is : migrated r ≡ m = ap (λ (l : Layout). migrated_from l r) (layout_of r limits same one) ∙ sym e in
    subst (λ (x : Recorded). HaveSameJudgement x r) is
    (migration_keeps_verdicts r known (subst AreInRange same range) (λ _. subst AllCanRespell each can))

pub cannot_migrate : (r : Recorded) (limits : Bounds) (entries : List Entry) (i : ℕ) → limits ≡ r.limits →
    limits.layout ≡ One → entries ≡ r.entries → IsFirstForeign entries i → (false ≡ true) ↔ CanMigrate r
cannot_migrate r limits entries i same one each first = (
  λ h. cc,
  λ can. absurd (first.foreign (can_at entries i first.entry
      (subst AllCanRespell (sym each) (can (layout_of r limits same one))) first.is_entry)),
)

pub is_not_linearized : (r : Recorded) (limits : Bounds) (entries : List Entry) (i : ℕ) → limits ≡ r.limits →
    limits.layout ≡ One → AreInRange limits → IsRecorded r → entries ≡ r.entries → IsFirstForeign entries i →
    IsLinearized r → false ≡ true
is_not_linearized r limits entries i same one range known each first all =
    (cannot_migrate r limits entries i same one each first).1
    (linearized_migrates r known (subst AreInRange same range) all).0
