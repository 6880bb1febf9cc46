-- The moments of an observed history by their numbers; and the run of its events is in form.
use Rattle.std.proofs.Common.{◌≡◌, ◌≢◌, ◌⊎◌, ℕ, suc, zero, ◌+◌, ◌<◌, ◌≤◌, List, [], ◌∷◌, refl, sym, ◌∙◌, get_or}
use Rattle.std.proofs.Common.{ap, subst, inl, inr, arith, Option, Some, None}
use Rattle.std.specs.Prelude.{slice_get, is_some, IsSome, MatchOption}
use Rattle.std.specs.List.{AllZip, Contains}
use Rattle.std.proofs.lemmas.Bool.{cases_eq, false≢true}
use Rattle.std.proofs.lemmas.Option.{get_or_from_slice_get, slice_get-get_or, slice_get_within, none-some, same_Some}
use Rattle.stamp_core.specs.declared.call.Call.{Call}
use Rattle.stamp_explain.specs.declared.observed.Observation.{Observation}
use Rattle.stamp_explain.specs.declared.observed.Returned.{Returned}
use Rattle.stamp_explain.specs.Observed.{ObservedHistory, IsObserved, IsBefore, IsInterval, DoNotOverlap}
use Rattle.stamp_runs.specs.declared.event.Event.{Event}
use Rattle.stamp_runs.specs.declared.event.Event.TheVariants.{Begins, Returns}
use Rattle.stamp_runs.specs.Own.{AreInForm, AreInFormFrom, MayCome, none_open, open_then}
use Rattle.stamp_runs.proofs.Owning.{Calls, in_lane}
use Rattle.stamp_watch.specs.declared.moments.Moment.{Moment}
use Rattle.stamp_watch.specs.AsEvents.{beginning_of, return_of, ComesFirst}
use Rattle.stamp_watch.specs.AsEvents.{IsEventAt, AreEventsOf}
use Rattle.stamp_watch.proofs.Form.{open_other}

-- of two moments one comes first at most
first_once : (m n : Moment) → ComesFirst m n → ComesFirst n m → ⊥
first_once m n (inl less) (inl more) = omega (arith, less, more)
first_once m n (inl less) (inr same) = omega (arith, less, same.0)
first_once m n (inr same) (inl more) = omega (arith, same.0, more)
first_once m n (inr same) (inr other) = omega (arith, same.1, other.1)

pub three_ways : (p q : ℕ) → (p < q) ⊎ ((p ≡ q) ⊎ (q < p))
three_ways p q = grind arith

-- the return that a call before another has
abbrev pub ReturnedBelow : Option Returned → ℕ → Type 0
ReturnedBelow o first = (r : Returned) × ((o ≡ Some r) × (r.last < first))

returned_below : (o : Option Returned) (first : ℕ) → MatchOption o ⊥ (λ (r : Returned). r.last < first) →
    ReturnedBelow o first
returned_below None first before = absurd before
returned_below (Some r) first before = (r, (refl, before))

pub before_returned : (a b : Observation) → IsBefore a b → ReturnedBelow a.returned b.first
before_returned a b before = returned_below a.returned b.first before

pub returned_before : (a b : Observation) (r : Returned) → a.returned ≡ Some r → r.last < b.first → IsBefore a b
returned_before a b r back less =
    subst (λ (o : Option Returned). MatchOption o ⊥ (λ (r : Returned). r.last < b.first)) (sym back) less

interval_ends : (e : Observation) (r : Returned) → IsInterval e → e.returned ≡ Some r → e.first ≤ r.last
interval_ends e r interval back =
    subst (λ (o : Option Returned). MatchOption o (Unit {0}) (λ (r : Returned). e.first ≤ r.last)) back interval

-- what a list has at a number
pub zip_at : {X Y : Type 0} (R : X → Y → Type 0) (k : ℕ) (xs : List X) (ys : List Y) (y : Y) → AllZip R xs ys →
    slice_get ys k ≡ Some y → (x : X) × ((slice_get xs k ≡ Some x) × R x y)
zip_at R zero [] [] y zip at = absurd (none-some y at)
zip_at R (suc k) [] [] y zip at = absurd (none-some y at)
zip_at R k [] (z ∷ ys) y zip at = absurd zip
zip_at R k (x ∷ xs) [] y zip at = absurd zip
zip_at R zero (x ∷ xs) (z ∷ ys) y zip at = (x, (refl, subst (R x) (same_Some z y at) zip.0))
zip_at R (suc k) (x ∷ xs) (z ∷ ys) y zip at = zip_at R k xs ys y zip.1 at

pub zip_there : {X Y : Type 0} (R : X → Y → Type 0) (k : ℕ) (xs : List X) (ys : List Y) (x : X) → AllZip R xs ys →
    slice_get xs k ≡ Some x → (y : Y) × ((slice_get ys k ≡ Some y) × R x y)
zip_there R zero [] [] x zip at = absurd (none-some x at)
zip_there R (suc k) [] [] x zip at = absurd (none-some x at)
zip_there R k [] (z ∷ ys) x zip at = absurd zip
zip_there R k (z ∷ xs) [] x zip at = absurd zip
zip_there R zero (z ∷ xs) (y ∷ ys) x zip at = (y, (refl, subst (λ (v : _). R v y) (same_Some z x at) zip.0))
zip_there R (suc k) (z ∷ xs) (y ∷ ys) x zip at = zip_there R k xs ys x zip.1 at

pub place_in : {X : Type 0} (xs : List X) (x : X) → Contains xs x → (k : ℕ) × (slice_get xs k ≡ Some x)
place_in xs x has =
    (has.0, slice_get-get_or xs has.0 x has.1 ∙ ap (λ (v : _). Some v) has.2)

module _ (h : ObservedHistory) (observed : IsObserved h) (moments : List Moment) (events : List Event)
    (of : AreEventsOf h moments events)
  where
    -- the moment with this number
    abbrev pub IsAt : ℕ → Moment → Type 0
    IsAt p m = slice_get moments p ≡ Some m

    abbrev pub IsEntry : ℕ → Observation → Type 0
    IsEntry i e = slice_get h.entries i ≡ Some e

    pub comes_first : (p q : ℕ) (m n : Moment) → IsAt p m → IsAt q n → p < q → ComesFirst m n
    comes_first p q m n at_p at_q less = subst (λ (x : Moment). ComesFirst x n)
        (get_or_from_slice_get moments p m m at_p)
        (subst (ComesFirst (get_or moments p m)) (get_or_from_slice_get moments q n m at_q)
        (of.are.in_order p q m less (slice_get_within moments q n at_q)))

    pub numbered_first : (p q : ℕ) (m n : Moment) → IsAt p m → IsAt q n → ComesFirst m n → p < q
    numbered_first p q m n at_p at_q first = by (three_ways p q)
      where
        by : (p < q) ⊎ ((p ≡ q) ⊎ (q < p)) → p < q
        by (inl less) = less
        by (inr (inl same)) = absurd (first_once m m (is same) (is same))
          where
            is : p ≡ q → ComesFirst m m
            is same = subst (ComesFirst m) (same_Some n m (sym at_q ∙ ap (slice_get moments) (sym same) ∙ at_p)) first
        by (inr (inr more)) = absurd (first_once m n first (comes_first q p n m at_q at_p more))

    pub one_number : (p q : ℕ) (m : Moment) → IsAt p m → IsAt q m → p ≡ q
    one_number p q m at_p at_q = by (three_ways p q)
      where
        by : (p < q) ⊎ ((p ≡ q) ⊎ (q < p)) → p ≡ q
        by (inl less) =
            absurd (first_once m m (comes_first p q m m at_p at_q less) (comes_first p q m m at_p at_q less))
        by (inr (inl same)) = same
        by (inr (inr more)) =
            absurd (first_once m m (comes_first q p m m at_q at_p more) (comes_first q p m m at_q at_p more))

    pub one_moment : (p : ℕ) (m n : Moment) → IsAt p m → IsAt p n → m ≡ n
    one_moment p m n at_m at_n = same_Some m n (sym at_m ∙ at_n)

    pub one_entry_at : (i j : ℕ) (e f : Observation) → IsEntry i e → IsEntry j f → i ≡ j → e ≡ f
    one_entry_at i j e f at_e at_f same = same_Some e f (sym at_e ∙ ap (slice_get h.entries) same ∙ at_f)

    pub begun : (i : ℕ) (e : Observation) → IsEntry i e → (p : ℕ) × IsAt p (beginning_of i e)
    begun i e is = place_in moments (beginning_of i e) (of.are.begun i e is)

    pub returned : (i : ℕ) (e : Observation) (r : Returned) → IsEntry i e → e.returned ≡ Some r →
        (q : ℕ) × IsAt q (return_of i r)
    returned i e r is back = place_in moments (return_of i r)
        (of.are.returned i (record { entry = e; return = r; is_entry = is; returned = back }))

    -- a call begins before it returns
    pub begins_first : (i p q : ℕ) (e : Observation) (r : Returned) → IsEntry i e → e.returned ≡ Some r →
        IsAt p (beginning_of i e) → IsAt q (return_of i r) → p < q
    begins_first i p q e r is back at_p at_q =
        numbered_first p q (beginning_of i e) (return_of i r) at_p at_q (inl (omega (arith, low)))
      where
        low : e.first ≤ r.last
        low = interval_ends e r (subst IsInterval (get_or_from_slice_get h.entries i e e is)
            (observed.intervals i e (slice_get_within h.entries i e is))) back

    -- and returns before one begins that it is before
    pub before_numbered : (i j p q : ℕ) (f : Observation) (r : Returned) → IsAt q (return_of i r) →
        IsAt p (beginning_of j f) → r.last < f.first → q < p
    before_numbered i j p q f r at_q at_p less =
        numbered_first q p (return_of i r) (beginning_of j f) at_q at_p (inl (omega (arith, less)))

    pub numbered_before : (i j p q : ℕ) (f : Observation) (r : Returned) → IsAt q (return_of i r) →
        IsAt p (beginning_of j f) → q < p → r.last < f.first
    numbered_before i j p q f r at_q at_p less = by (comes_first q p (return_of i r) (beginning_of j f) at_q at_p less)
      where
        by : ComesFirst (return_of i r) (beginning_of j f) → r.last < f.first
        by (inl first) = omega (arith, first)
        by (inr same) = omega (arith, same.0)

    -- calls of one thread do not overlap
    pub apart : (i j : ℕ) (e f : Observation) → IsEntry i e → IsEntry j f → e.thread ≡ f.thread → i ≢ j →
        IsBefore e f ⊎ IsBefore f e
    apart i j e f at_i at_j thread differ = by (three_ways i j)
      where
        pair : (k l : ℕ) (a b : Observation) → IsEntry k a → IsEntry l b → k < l → DoNotOverlap a b
        pair k l a b at_k at_l less = subst (λ (o : Observation). DoNotOverlap o b)
            (get_or_from_slice_get h.entries k a a at_k)
            (subst (DoNotOverlap (get_or h.entries k a)) (get_or_from_slice_get h.entries l b a at_l)
            (observed.apart k l a less (slice_get_within h.entries l b at_l)))

        flip : IsBefore f e ⊎ IsBefore e f → IsBefore e f ⊎ IsBefore f e
        flip (inl before) = inr before
        flip (inr before) = inl before

        by : (i < j) ⊎ ((i ≡ j) ⊎ (j < i)) → IsBefore e f ⊎ IsBefore f e
        by (inl less) = pair i j e f at_i at_j less thread
        by (inr (inl same)) = absurd (differ same)
        by (inr (inr more)) = flip (pair j i f e at_j at_i more (sym thread))

    -- the call of this lane has begun, and not returned, before the moment of this number
    pub record IsOpenIn (n lane : ℕ) : Type 0 where
      pub index : ℕ
      pub entry : Observation
      pub is_entry : IsEntry index entry
      pub its_lane : entry.thread ≡ lane
      pub number : ℕ
      pub at : IsAt number (beginning_of index entry)
      pub low : number < n
      pub still : (q : ℕ) (r : Returned) → entry.returned ≡ Some r → IsAt q (return_of index r) → n ≤ q

    -- those calls are open
    pub record AreOpenBy (n : ℕ) (calls : Calls) : Type 0 where
      pub opens : (lane : ℕ) → IsSome (calls lane) → IsOpenIn n lane
      pub is_open : (lane : ℕ) → IsOpenIn n lane → IsSome (calls lane)

    -- a call that is open before another of its lane begins is that one's own
    none_beside : (n i : ℕ) (e : Observation) → IsEntry i e → IsAt n (beginning_of i e) → ¬ IsOpenIn n e.thread
    none_beside n i e is at_n open_now = by (cases_eq open_now.index i)
      where
        by : (open_now.index ≡ i) ⊎ (open_now.index ≢ i) → ⊥
        by (inl same) = omega (
          arith,
          open_now.low,
          one_number n open_now.number (beginning_of i e) at_n
              (subst (λ (o : Observation). IsAt open_now.number (beginning_of i o))
              (one_entry_at open_now.index i open_now.entry e open_now.is_entry is same)
              (subst (λ (j : ℕ). IsAt open_now.number (beginning_of j open_now.entry)) same open_now.at)),
        )
        by (inr differ) = one (apart open_now.index i open_now.entry e open_now.is_entry is open_now.its_lane differ)
          where
            one : IsBefore open_now.entry e ⊎ IsBefore e open_now.entry → ⊥
            one (inl before) =
                let back = before_returned open_now.entry e before in
                let at_q = returned open_now.index open_now.entry back.0 open_now.is_entry back.1.0 in
                omega (
                  arith,
                  open_now.still at_q.0 back.0 back.1.0 at_q.1,
                  before_numbered open_now.index i n at_q.0 e back.0 at_q.1 at_n back.1.1,
                )
            one (inr before) =
                let back = before_returned e open_now.entry before in
                let at_q = returned i e back.0 is back.1.0 in
                omega (
                  arith,
                  open_now.low,
                  begins_first i n at_q.0 e back.0 is back.1.0 at_n at_q.1,
                  before_numbered i open_now.index open_now.number at_q.0 open_now.entry back.0 at_q.1 open_now.at
                      back.1.1,
                )

    -- none is open behind the return of a call of its lane
    none_behind : (n i : ℕ) (e : Observation) (r : Returned) → IsEntry i e → e.returned ≡ Some r →
        IsAt n (return_of i r) → ¬ IsOpenIn (suc n) e.thread
    none_behind n i e r is back at_n open_now = by (cases_eq open_now.index i)
      where
        by : (open_now.index ≡ i) ⊎ (open_now.index ≢ i) → ⊥
        by (inl same) =
            let one_entry = one_entry_at open_now.index i open_now.entry e open_now.is_entry is same in
            let at_j = subst (λ (j : ℕ). IsAt n (return_of j r)) (sym same) at_n in
            let later = open_now.still n r (ap (λ (o : Observation). o.returned) one_entry ∙ back) at_j in
            omega (arith, later)
        by (inr differ) = one (apart open_now.index i open_now.entry e open_now.is_entry is open_now.its_lane differ)
          where
            mine : (p : ℕ) × IsAt p (beginning_of i e)
            mine = begun i e is

            one : IsBefore open_now.entry e ⊎ IsBefore e open_now.entry → ⊥
            one (inl before) =
                let its = before_returned open_now.entry e before in
                let at_q = returned open_now.index open_now.entry its.0 open_now.is_entry its.1.0 in
                omega (
                  arith,
                  open_now.still at_q.0 its.0 its.1.0 at_q.1,
                  before_numbered open_now.index i mine.0 at_q.0 e its.0 at_q.1 mine.1 its.1.1,
                  begins_first i mine.0 n e r is back mine.1 at_n,
                )
            one (inr before) =
                let its = before_returned e open_now.entry before in
                let same : its.0 ≡ r = same_Some its.0 r (sym its.1.0 ∙ back) in
                omega (
                  arith,
                  open_now.low,
                  before_numbered i open_now.index open_now.number n open_now.entry r at_n
                      open_now.at (subst (λ (q : Returned). q.last < open_now.entry.first) same its.1.1),
                )

    -- events of other lanes leave it open or not
    open_on : (n lane : ℕ) (m : Moment) → IsAt n m → ((i : ℕ) (e : Observation) → IsEntry i e → e.thread ≡ lane →
        m.entry ≢ i) → IsOpenIn n lane → IsOpenIn (suc n) lane
    open_on n lane m at_n other open_now = record {
      index = open_now.index;
      entry = open_now.entry;
      is_entry = open_now.is_entry;
      its_lane = open_now.its_lane;
      number = open_now.number;
      at = open_now.at;
      low = omega (arith, open_now.low);
      still = λ q r back at_q. later q r (open_now.still q r back at_q) (λ same. other open_now.index open_now.entry
          open_now.is_entry open_now.its_lane (ap (λ (x : Moment). x.entry) (one_moment n m
          (return_of open_now.index r) at_n (subst (λ (p : ℕ). IsAt p (return_of open_now.index r)) same at_q))));
    }
      where
        later : (q : ℕ) (r : Returned) → n ≤ q → q ≢ n → suc n ≤ q
        later q r low differ = by (three_ways q n)
          where
            by : (q < n) ⊎ ((q ≡ n) ⊎ (n < q)) → suc n ≤ q
            by (inl less) = absurd (omega arith)
            by (inr (inl same)) = absurd (differ same)
            by (inr (inr more)) = omega arith

    open_back : (n lane : ℕ) (m : Moment) → IsAt n m → ((i : ℕ) (e : Observation) → IsEntry i e → e.thread ≡ lane →
        m.entry ≢ i) → IsOpenIn (suc n) lane → IsOpenIn n lane
    open_back n lane m at_n other open_now = record {
      index = open_now.index;
      entry = open_now.entry;
      is_entry = open_now.is_entry;
      its_lane = open_now.its_lane;
      number = open_now.number;
      at = open_now.at;
      low = lower (three_ways open_now.number n);
      still = λ q r back at_q. let high = open_now.still q r back at_q in omega arith;
    }
      where
        lower : (open_now.number < n) ⊎ ((open_now.number ≡ n) ⊎ (n < open_now.number)) → open_now.number < n
        lower (inl less) = less
        lower (inr (inl same)) = absurd (other open_now.index open_now.entry open_now.is_entry open_now.its_lane
            (ap (λ (x : Moment). x.entry) (one_moment n m (beginning_of open_now.index open_now.entry) at_n
            (subst (λ (p : ℕ). IsAt p (beginning_of open_now.index open_now.entry)) same open_now.at))))
        lower (inr (inr more)) = absurd (omega (arith, open_now.low, more))

    -- an event of one lane
    others_open : (n : ℕ) (m : Moment) (i : ℕ) (e : Observation) (calls after : Calls) → IsAt n m → m.entry ≡ i →
        IsEntry i e → ((lane : ℕ) → e.thread ≢ lane → after lane ≡ calls lane) → AreOpenBy n calls →
        (IsSome (after e.thread) → IsOpenIn (suc n) e.thread) →
        (IsOpenIn (suc n) e.thread → IsSome (after e.thread)) → AreOpenBy (suc n) after
    others_open n m i e calls after at_n its is same are here_opens here_is = record {
      opens = λ lane some. opens lane (cases_eq e.thread lane) some;
      is_open = λ lane open_now. is_open lane (cases_eq e.thread lane) open_now;
    }
      where
        other : (lane : ℕ) → e.thread ≢ lane → (j : ℕ) (f : Observation) → IsEntry j f → f.thread ≡ lane → m.entry ≢ j
        other lane differ j f at_j thread same_entry = differ (ap (λ (o : Observation). o.thread)
            (one_entry_at i j e f is at_j (sym its ∙ same_entry)) ∙ thread)

        opens : (lane : ℕ) → (e.thread ≡ lane) ⊎ (e.thread ≢ lane) → IsSome (after lane) → IsOpenIn (suc n) lane
        opens lane (inl its_lane) some =
            subst (IsOpenIn (suc n)) its_lane (here_opens (subst (λ (v : ℕ). IsSome (after v)) (sym its_lane) some))
        opens lane (inr differ) some = open_on n lane m at_n (other lane differ)
            (are.opens lane (subst IsSome (same lane differ) some))

        is_open : (lane : ℕ) → (e.thread ≡ lane) ⊎ (e.thread ≢ lane) → IsOpenIn (suc n) lane → IsSome (after lane)
        is_open lane (inl its_lane) open_now =
            subst (λ (v : ℕ). IsSome (after v)) its_lane (here_is (subst (IsOpenIn (suc n)) (sym its_lane) open_now))
        is_open lane (inr differ) open_now = subst IsSome (sym (same lane differ))
            (are.is_open lane (open_back n lane m at_n (other lane differ) open_now))

    -- the event at a moment may come, and then those calls are open
    abbrev Comes : ℕ → Calls → Event → Type 0
    Comes n calls event = MayCome calls event × AreOpenBy (suc n) (open_then calls event)

    comes : (n : ℕ) (m : Moment) (event : Event) (calls : Calls) → IsAt n m → IsEventAt h.entries m event →
        AreOpenBy n calls → Comes n calls event
    comes n m event calls at_n (inl begins) are = subst (λ (x : Event). Comes n calls x) (sym begins.event_is) (
      none (calls e.thread) refl,
      others_open n m m.entry e calls (open_then calls (Begins e.thread e.call)) at_n refl
          begins.is_entry (λ lane differ. open_other lane calls (Begins e.thread e.call) differ) are
          (λ some. its) (λ open_now. ap is_some (in_lane (Some e.call) (calls e.thread) refl)),
    )
      where
        e : Observation
        e = begins.entry

        at : IsAt n (beginning_of m.entry begins.entry)
        at = at_n ∙ ap (λ (x : Moment). Some x) begins.moment

        none : (o : Option Call) → calls begins.entry.thread ≡ o → calls begins.entry.thread ≡ None
        none None is = is
        none (Some call) is = absurd (none_beside n m.entry begins.entry begins.is_entry at
            (are.opens begins.entry.thread (ap is_some is)))

        its : IsOpenIn (suc n) begins.entry.thread
        its = record {
          index = m.entry;
          entry = begins.entry;
          is_entry = begins.is_entry;
          its_lane = refl;
          number = n;
          at = at;
          low = omega arith;
          still = λ q r back at_q. begins_first m.entry n q begins.entry r begins.is_entry back at at_q;
        }
    comes n m event calls at_n (inr returns) are = subst (λ (x : Event). Comes n calls x) (sym returns.event_is) (
      are.is_open e.thread its,
      others_open n m m.entry e calls (open_then calls (Returns e.thread r.reply)) at_n refl
          is_entry (λ lane differ. open_other lane calls (Returns e.thread r.reply) differ) are
          (λ some. absurd (false≢true (sym (ap is_some (in_lane None (calls e.thread) refl)) ∙ some)))
          (λ open_now. absurd (none_behind n m.entry e r is_entry back at open_now)),
    )
      where
        e : Observation
        e = returns.at.entry

        r : Returned
        r = returns.at.return

        is_entry : IsEntry m.entry returns.at.entry
        is_entry = returns.at.is_entry

        back : returns.at.entry.returned ≡ Some returns.at.return
        back = returns.at.returned

        at : IsAt n (return_of m.entry returns.at.return)
        at = at_n ∙ ap (λ (x : Moment). Some x) returns.moment

        mine : (p : ℕ) × IsAt p (beginning_of m.entry returns.at.entry)
        mine = begun m.entry returns.at.entry returns.at.is_entry

        its : IsOpenIn n returns.at.entry.thread
        its = record {
          index = m.entry;
          entry = returns.at.entry;
          is_entry = returns.at.is_entry;
          its_lane = refl;
          number = mine.0;
          at = mine.1;
          low = begins_first m.entry mine.0 n returns.at.entry returns.at.return is_entry back mine.1 at;
          still = λ q r2 back2 at_q. let same = one_number n q (return_of m.entry returns.at.return) at
              (subst (λ (x : Returned). IsAt q (return_of m.entry x)) (same_Some r2 returns.at.return
              (sym back2 ∙ returns.at.returned)) at_q) in omega arith;
        }

    form_on : (n : ℕ) (ms : List Moment) (later : List Event) (calls : Calls) →
        ((j : ℕ) (m : Moment) → slice_get ms j ≡ Some m → IsAt (n + j) m) → AllZip (IsEventAt h.entries) ms later →
        AreOpenBy n calls → AreInFormFrom calls later
    form_on n [] [] calls place zip are = tt
    form_on n [] (event ∷ later) calls place zip are = absurd zip
    form_on n (m ∷ ms) [] calls place zip are = absurd zip
    form_on n (m ∷ ms) (event ∷ later) calls place zip are = (
      first.0,
      form_on (suc n) ms later (open_then calls event)
          (λ j x at. subst (λ (p : ℕ). IsAt p x) (omega arith) (place (suc j) x at)) zip.1 first.1,
    )
      where
        first : MayCome calls event × AreOpenBy (suc n) (open_then calls event)
        first = comes n m event calls (subst (λ (p : ℕ). IsAt p m) (omega arith) (place 0 m refl)) zip.0 are

    pub in_form : AreInForm events
    in_form = form_on 0 moments events none_open (λ j m at. subst (λ (p : ℕ). IsAt p m) (omega arith) at)
        of.events_are (record {
          opens = λ lane some. absurd (false≢true some);
          is_open = λ lane open_now. absurd (omega (arith, open_now.low));
        })
