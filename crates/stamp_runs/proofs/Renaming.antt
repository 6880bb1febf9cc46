-- A run by names of contents that change along it.
use Rattle.std.proofs.Common.{◌≡◌, ◌⊎◌, ◌↔◌, ◌+◌, ◌≤◌, ◌<◌, ℕ, List, [], ◌∷◌, ◌++◌, length, refl, sym, ◌∙◌, ap, subst}
use Rattle.std.proofs.Common.{inl, inr, arith}
use Rattle.std.specs.Prelude.{take}
use Rattle.std.proofs.Math.Seq.{take-nil}
use Rattle.std.proofs.lemmas.Bool.{cases_lt}
use Rattle.std.proofs.lemmas.List.{length-append, take-append-le, take_all}
use Rattle.stamp_core.specs.Limits.{Bounds}
use Rattle.stamp_core.specs.declared.call.Call.{Call}
use Rattle.stamp_core.specs.declared.call.Call.TheVariants.{Put, PutIf}
use Rattle.stamp_core.specs.declared.reply.Reply.{Reply}
use Rattle.stamp_core.specs.declared.reply.Reply.TheVariants.{Content}
use Rattle.stamp_runs.specs.declared.event.Event.{Event}
use Rattle.stamp_runs.specs.Object.{Object}
use Rattle.stamp_runs.specs.BothRun.{Both, State}
use Rattle.stamp_runs.specs.Names.{AreDifferent, EachOfCall, EachOfReply, Names, call_by, event_by, reply_by}
use Rattle.stamp_runs.specs.Renaming.{EachOfPhase, GoesBy, HasOneName}
use Rattle.stamp_runs.specs.Renaming.GoesBy.{from_opening, one_event, other_names}
use Rattle.stamp_runs.specs.Run.{AreExplainedFrom, Lanes, Leads, Phase, all_idle}
use Rattle.stamp_runs.specs.Run.Leads.{leads_nowhere, by_effect, by_event}
use Rattle.stamp_runs.specs.Run.Phase.{Idle, Asks, Gets}
use Rattle.stamp_runs.specs.RunLaws.{NamesMayChange, StuckByChangingNames}
use Rattle.stamp_runs.proofs.Lanes.{leads_on}
use Rattle.stamp_runs.proofs.Naming.{AreNamed, back, first_same, forth, phase_by, rest_same}
use Rattle.stamp_runs.proofs.Ordering.{leads_of, order_on}

-- a way along some events and more, parted there; what takes effect between belongs to the later part
pub record Parted {S : Type 0} (O : Object S) (past more : List Event) (s : S) (a : Lanes) (t : S) (b : Lanes) : Type
    0 where
  pub middle : S
  pub lanes : Lanes
  pub first : Leads O past s a middle lanes
  pub rest : Leads O more middle lanes t b

module _ {S : Type 0} {O : Object S} where
  from_there : {es more : List Event} {s t : S} {a b : Lanes} → Leads O es s a t b → es ≡ more →
      Parted O [] more s a t b
  from_there {s = s} {t = t} {a = a} {b = b} way same = record {
    middle = s;
    lanes = a;
    first = leads_nowhere;
    rest = subst (λ (es : List Event). Leads O es s a t b) same way;
  }

  pub parted : {es : List Event} {s t : S} {a b : Lanes} → Leads O es s a t b → (past more : List Event) →
      es ≡ past ++ more → Parted O past more s a t b
  parted leads_nowhere [] more same = from_there leads_nowhere same
  parted leads_nowhere (e ∷ past) more same = cc
  parted (by_effect lane call reply asks step sets rest) [] more same =
      from_there (by_effect lane call reply asks step sets rest) same
  parted (by_effect lane call reply asks step sets rest) (e ∷ past) more same =
      let on = parted rest (e ∷ past) more same in record {
        middle = on.middle;
        lanes = on.lanes;
        first = by_effect lane call reply asks step sets on.first;
        rest = on.rest;
      }
  parted (by_event event happens rest) [] more same = from_there (by_event event happens rest) same
  parted {s = s} {a = a} (by_event event happens rest) (e ∷ past) more same =
      let on = parted rest past more (rest_same same) in record {
        middle = on.middle;
        lanes = on.lanes;
        first = subst (λ (x : Event). Leads O (x ∷ past) s a on.middle on.lanes) (first_same same)
            (by_event event happens on.first);
        rest = on.rest;
      }

-- what tells no content but such as have one name is the same by both
module _ (name other : Names) where
  call_same : (call : Call) → EachOfCall (HasOneName name other) call → call_by name call ≡ call_by other call
  call_same (Put words) is = ap Put is
  call_same (PutIf expected words) is =
      ap (λ (x : List ℕ). PutIf x (name words)) is.0 ∙ ap (PutIf (other expected)) is.1
  call_same _ is = refl

  answer_same : (reply : Reply) → EachOfReply (HasOneName name other) reply → reply_by name reply ≡ reply_by other reply
  answer_same (Content words) is = ap Content is
  answer_same _ is = refl

  phase_same : (p : Phase) → EachOfPhase (HasOneName name other) p → phase_by name p ≡ phase_by other p
  phase_same Idle is = refl
  phase_same (Asks call) is = ap Asks (call_same call is)
  phase_same (Gets reply) is = ap Gets (answer_same reply is)

module _ (limits : Bounds) (content first : List ℕ) where
  different_so : {name : Names} {told small : List Event} → GoesBy limits content first name told small →
      AreDifferent name
  different_so (from_opening different is) = different
  different_so (one_event event goes) = different_so goes
  different_so (other_names different held goes) = different

  -- each configuration that is possible is so by name, and each that is possible by name is one of these
  record Follows (name : Names) (small : List Event) (s : State) (a : Lanes) : Type 0 where
    pub last : Lanes
    pub way : Leads (Both limits) small ([], first) all_idle (s.0, name s.1) last
    pub named : AreNamed name a last

  record Precedes (name : Names) (told : List Event) (there : State) (b : Lanes) : Type 0 where
    pub state : State
    pub last : Lanes
    pub way : Leads (Both limits) told ([], content) all_idle state last
    pub there_is : there ≡ (state.0, name state.1)
    pub named : AreNamed name last b

  follows : {name : Names} {told small : List Event} → GoesBy limits content first name told small → {s : State}
      {a : Lanes} → Leads (Both limits) told ([], content) all_idle s a → Follows name small s a
  follows {name} (from_opening different is) {s} {a} way =
      let on = forth name different limits way all_idle (λ v. refl) in record {
        last = on.last;
        way = subst (λ (w : List ℕ). Leads (Both limits) [] ([], w) all_idle (s.0, name s.1) on.last) is on.way;
        named = on.named;
      }
  follows {name} (one_event {told = told} event goes) {s} {a} way =
      let parts = parted way told (event ∷ []) refl in
      let front = follows goes parts.first in
      let on = forth name (different_so goes) limits parts.rest front.last front.named in
      record { last = on.last; way = leads_on front.way on.way; named = on.named }
  follows (other_names {name = name} {other = other} {small = small} different held goes) {s} {a} way =
      let on = follows goes way in
      let each = held s a way in record {
        last = on.last;
        way = subst (λ (w : List ℕ). Leads (Both limits) small ([], first) all_idle (s.0, w) on.last) each.content
            on.way;
        named = λ v. on.named v ∙ phase_same name other (a v) (each.phases v);
      }

  precedes : {name : Names} {told small : List Event} → GoesBy limits content first name told small → {there : State}
      {b : Lanes} → Leads (Both limits) small ([], first) all_idle there b → Precedes name told there b
  precedes {name} (from_opening different is) {there} {b} way =
      let order = order_on (Both limits) way 0 in
      let on = back name different limits order.1 [] refl ([], content) (ap (λ (w : List ℕ). ([], w)) (sym is))
      all_idle (λ v. refl) in record {
        state = on.state;
        last = on.last;
        way = leads_of (Both limits) on.way;
        there_is = on.there_is;
        named = on.named;
      }
  precedes {name} (one_event {small = small} event goes) way =
      let parts = parted way small (event_by name event ∷ []) refl in
      let front = precedes goes parts.first in
      let order = order_on (Both limits) parts.rest 0 in
      let on = back name (different_so goes) limits order.1 (event ∷ []) refl front.state front.there_is front.last
      front.named in record {
        state = on.state;
        last = on.last;
        way = leads_on front.way (leads_of (Both limits) on.way);
        there_is = on.there_is;
        named = on.named;
      }
  precedes (other_names {name = name} {other = other} different held goes) {there} {b} way =
      let on = precedes goes way in
      let each = held on.state on.last on.way in record {
        state = on.state;
        last = on.last;
        way = on.way;
        there_is = on.there_is ∙ ap (λ (w : List ℕ). (on.state.0, w)) each.content;
        named = λ v. on.named v ∙ phase_same name other (on.last v) (each.phases v);
      }

  -- the first events go by names, too
  as_many : {name : Names} {told small : List Event} → GoesBy limits content first name told small →
      length small ≡ length told
  as_many (from_opening different is) = refl
  as_many (one_event {name = name} {told = told} {small = small} event goes) =
      length-append small (event_by name event ∷ []) ∙ ap (λ (n : ℕ). n + 1) (as_many goes) ∙
      sym (length-append told (event ∷ []))
  as_many (other_names different held goes) = as_many goes

  record First (k : ℕ) (told small : List Event) : Type 0 where
    pub name : Names
    pub goes : GoesBy limits content first name (take k told) (take k small)

  first_then : (k : ℕ) {name : Names} {told small : List Event} (event : Event) →
      GoesBy limits content first name told small → First k told small → (length told < k) ⊎ (k ≤ length told) →
      First k (told ++ event ∷ []) (small ++ event_by name event ∷ [])
  first_then k {name} {told} {small} event goes on (inr le) = let same = as_many goes in record {
    name = on.name;
    goes = rw (
      take-append-le k told (event ∷ []) le,
      take-append-le k small (event_by name event ∷ [])
          (omega (arith, same, le)),
    ) on.goes;
  }
  first_then k {name} {told} {small} event goes on (inl lt) =
      let same = as_many (one_event event goes) in
      let long = length-append told (event ∷ []) in record {
        name = name;
        goes = rw (
          take_all k (told ++ event ∷ []) (omega (arith, long, lt)),
          take_all k (small ++ event_by name event ∷ []) (omega (arith, long, same, lt)),
        ) (one_event event goes);
      }

  of_first : (k : ℕ) {name : Names} {told small : List Event} → GoesBy limits content first name told small →
      First k told small
  of_first k (from_opening {name = name} different is) = record {
    name = name;
    goes = rw (take-nil {A = Event} k) (from_opening different is);
  }
  of_first k (other_names different held goes) = of_first k goes
  of_first k (one_event {name = name} {told = told} {small = small} event goes) =
      first_then k event goes (of_first k goes) (cases_lt (length told) k)

pub names_may_change : NamesMayChange
names_may_change limits content first name events small goes = (
  (λ explained. let on = follows limits content first goes explained.way in
      record { state = _; last = on.last; way = on.way }),
  λ explained. let on = precedes limits content first goes explained.way in
      record { state = on.state; last = on.last; way = on.way },
)

pub stuck_by_changing_names : StuckByChangingNames
stuck_by_changing_names limits content first name events small k goes = (
  (λ is. record {
    explained = (front k).0 is.explained;
    stuck = λ on. is.stuck ((front (k + 1)).1 on);
  }),
  λ is. record {
    explained = (front k).1 is.explained;
    stuck = λ on. is.stuck ((front (k + 1)).0 on);
  },
)
  where
    front : (n : ℕ) → AreExplainedFrom (Both limits) ([], content) (take n events) ↔
        AreExplainedFrom (Both limits) ([], first) (take n small)
    front n = let on = of_first limits content first n goes in
        names_may_change limits content first on.name (take n events) (take n small) on.goes
