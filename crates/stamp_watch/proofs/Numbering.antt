-- The entries of a history with the numbers of its moments for positions: they are those of the run of its events.
use Rattle.std.proofs.Common.{◌≡◌, ◌≢◌, ◌⊎◌, ℕ, suc, ◌+◌, ◌<◌, ◌≤◌, List, refl, sym, ◌∙◌, length}
use Rattle.std.proofs.Common.{ap, subst, inl, inr, arith, false, Option, Some, None}
use Rattle.std.specs.Prelude.{slice_get, drop, take, option_map}
use Rattle.std.specs.List.{Contains}
use Rattle.std.proofs.lemmas.Bool.{cases_eq, false≢true}
use Rattle.std.proofs.lemmas.List.{length-take}
use Rattle.std.proofs.lemmas.Option.{none-some, same_Some}
use Rattle.stamp_core.specs.Limits.{Bounds}
use Rattle.stamp_core.specs.declared.call.Call.{Call}
use Rattle.stamp_explain.specs.declared.observed.Observation.{Observation}
use Rattle.stamp_explain.specs.declared.observed.Returned.{Returned}
use Rattle.stamp_explain.specs.Observed.{ObservedHistory, observed_as, IsObserved, IsBefore}
use Rattle.stamp_watch.specs.Corresponding.{Correspond}
use Rattle.stamp_runs.specs.declared.event.Event.{Event}
use Rattle.stamp_runs.specs.declared.event.Event.TheVariants.{Begins, Returns}
use Rattle.stamp_runs.specs.Run.{IsEndOf, lane_of}
use Rattle.stamp_watch.specs.declared.moments.Moment.{Moment}
use Rattle.stamp_watch.specs.AsEvents.{beginning_of, return_of, IsEventAt, AreEventsOf}
use Rattle.stamp_watch.specs.AsObserved.{Ending, ending_of, entries_from}
use Rattle.stamp_explain.proofs.Lists.{contains_at}
use Rattle.stamp_watch.proofs.Numbered.{IsEntryOf, one_entry}
use Rattle.stamp_watch.proofs.Planning.{IsLate}
use Rattle.stamp_watch.proofs.AsObserved.{AreOfRun}
use Rattle.stamp_watch.proofs.Ranking.{three_ways, zip_at, zip_there, begun, returned, begins_first, one_number}
use Rattle.stamp_watch.proofs.Ranking.{one_moment, one_entry_at, before_returned, returned_before, before_numbered}
use Rattle.stamp_watch.proofs.Ranking.{numbered_before, apart}
use Rattle.stamp_watch.proofs.ByNumber.{in_take, take_has, in_drop, drop_has, BeginsThere, entry_begins, begins_entry}
use Rattle.stamp_watch.proofs.ByNumber.{ending_at, ending_none, AreChosen, choose, gap, entry_is, told_so}

module _ (h : ObservedHistory) (observed : IsObserved h) (moments : List Moment) (events : List Event)
    (of : AreEventsOf h moments events)
  where
    -- behind its beginning a call's lane has no end before its return
    ends_from : (i p j : ℕ) (e : Observation) (event : Event) → slice_get h.entries i ≡ Some e →
        slice_get moments p ≡ Some (beginning_of i e) → p < j → slice_get events j ≡ Some event →
        IsEndOf e.thread event → (r : Returned) × ((e.returned ≡ Some r) ×
        ((q : ℕ) → slice_get moments q ≡ Some (return_of i r) → q ≤ j))
    ends_from i p j e event at_i at_p less at_j end =
        let found = zip_at (IsEventAt h.entries) j moments events event of.events_are at_j in
        by found.0 found.1.0 found.1.1
      where
        by : (m : Moment) → slice_get moments j ≡ Some m → IsEventAt h.entries m event → (r : Returned) ×
            ((e.returned ≡ Some r) × ((q : ℕ) → slice_get moments q ≡ Some (return_of i r) → q ≤ j))
        by m at_m (inl begins) = absurd (subst (IsEndOf e.thread) begins.event_is end)
        by m at_m (inr returns) = one (cases_eq m.entry i)
          where
            at : slice_get moments j ≡ Some (return_of m.entry returns.at.return)
            at = at_m ∙ ap (λ (x : Moment). Some x) returns.moment

            thread : returns.at.entry.thread ≡ e.thread
            thread = subst (IsEndOf e.thread) returns.event_is end

            one : (m.entry ≡ i) ⊎ (m.entry ≢ i) → (r : Returned) × ((e.returned ≡ Some r) ×
                ((q : ℕ) → slice_get moments q ≡ Some (return_of i r) → q ≤ j))
            one (inl same) = (
              returns.at.return,
              (
                ap (λ (o : Observation). o.returned) (sym (one_entry_at h observed moments events of m.entry i
                    returns.at.entry e returns.at.is_entry at_i same)) ∙ returns.at.returned,
                λ q at_q. let is = one_number h observed moments events of q j (return_of i returns.at.return) at_q
                    (subst (λ (v : ℕ). slice_get moments j ≡ Some (return_of v returns.at.return)) same at) in
                    omega arith,
              ),
            )
            one (inr differ) = two (apart h observed moments events of i m.entry e returns.at.entry at_i
                returns.at.is_entry (sym thread) (λ same. differ (sym same)))
              where
                two : IsBefore e returns.at.entry ⊎ IsBefore returns.at.entry e → (r : Returned) ×
                    ((e.returned ≡ Some r) × ((q : ℕ) → slice_get moments q ≡ Some (return_of i r) → q ≤ j))
                two (inl before) =
                    let back = before_returned e returns.at.entry before in
                    let its = begun h observed moments events of m.entry returns.at.entry returns.at.is_entry in (
                      back.0,
                      (
                        back.1.0,
                        λ q at_q. omega (
                          arith,
                          before_numbered h observed moments events of i m.entry its.0 q returns.at.entry back.0 at_q
                              its.1 back.1.1,
                          begins_first h observed moments events of m.entry its.0 j returns.at.entry returns.at.return
                              returns.at.is_entry returns.at.returned its.1 at,
                        ),
                      ),
                    )
                two (inr before) =
                    let back = before_returned returns.at.entry e before in
                    let same : back.0 ≡ returns.at.return =
                    same_Some back.0 returns.at.return (sym back.1.0 ∙ returns.at.returned) in
                    absurd (omega (
                      arith,
                      less,
                      before_numbered h observed moments events of m.entry i p j e
                          returns.at.return at at_p (subst (λ (x : Returned). x.last < e.first) same back.1.1),
                    ))

    -- the event at the moment of an entry
    begins_by : (i p : ℕ) (e : Observation) → slice_get h.entries i ≡ Some e →
        slice_get moments p ≡ Some (beginning_of i e) → slice_get events p ≡ Some (Begins e.thread e.call)
    begins_by i p e at_i at_p =
        let found = zip_there (IsEventAt h.entries) p moments events (beginning_of i e) of.events_are at_p in
        found.1.0 ∙ ap (λ (x : Event). Some x) (by found.0 found.1.1)
      where
        by : (event : Event) → IsEventAt h.entries (beginning_of i e) event → event ≡ Begins e.thread e.call
        by event (inl begins) = begins.event_is ∙ ap (λ (o : Observation). Begins o.thread o.call)
            (same_Some begins.entry e (sym begins.is_entry ∙ at_i))
        by event (inr returns) = absurd (false≢true (ap (λ (m : Moment). m.is_return) returns.moment))

    returns_by : (i q : ℕ) (e : Observation) (r : Returned) → slice_get h.entries i ≡ Some e →
        e.returned ≡ Some r → slice_get moments q ≡ Some (return_of i r) →
        slice_get events q ≡ Some (Returns e.thread r.reply)
    returns_by i q e r at_i back at_q =
        let found = zip_there (IsEventAt h.entries) q moments events (return_of i r) of.events_are at_q in
        found.1.0 ∙ ap (λ (x : Event). Some x) (by found.0 found.1.1)
      where
        by : (event : Event) → IsEventAt h.entries (return_of i r) event → event ≡ Returns e.thread r.reply
        by event (inl begins) = absurd (false≢true (sym (ap (λ (m : Moment). m.is_return) begins.moment)))
        by event (inr returns) = returns.event_is ∙ ap (λ (o : Observation). Returns o.thread returns.at.return.reply)
            same ∙ ap (λ (x : Returned). Returns e.thread x.reply) (same_Some returns.at.return r
            (sym returns.at.returned ∙ ap (λ (o : Observation). o.returned) same ∙ back))
          where
            same : returns.at.entry ≡ e
            same = same_Some returns.at.entry e (sym returns.at.is_entry ∙ at_i)

    -- an entry of a history that is cut before the moment of number k
    pub record IsCutEntry (k i : ℕ) (e c : Observation) : Type 0 where
      pub thread : c.thread ≡ e.thread
      pub call : c.call ≡ e.call
      pub first : c.first ≡ e.first
      pub kept : (r : Returned) (q : ℕ) → e.returned ≡ Some r → slice_get moments q ≡ Some (return_of i r) → q < k →
          c.returned ≡ Some r
      pub had : (r : Returned) → c.returned ≡ Some r → e.returned ≡ Some r
      pub below : (r : Returned) (q : ℕ) → c.returned ≡ Some r → slice_get moments q ≡ Some (return_of i r) → q < k

    -- with the numbers of its moments
    abbrev IsNumberedReturn : ℕ → Option Returned → Option Returned → Type 0
    IsNumberedReturn i None o = o ≡ None
    IsNumberedReturn i (Some r) o = (q : ℕ) × ((slice_get moments q ≡ Some (return_of i r)) ×
        (o ≡ Some (record { last = q; reply = r.reply })))

    record IsNumbered (i : ℕ) (c f : Observation) : Type 0 where
      thread : f.thread ≡ c.thread
      call : f.call ≡ c.call
      first : slice_get moments f.first ≡ Some (beginning_of i c)
      returns : IsNumberedReturn i c.returned f.returned

    module _ (k : ℕ) (cut : List Observation) (are : AreChosen (IsCutEntry k) h.entries cut) where
      -- of an entry and its cut
      record HasCut (i : ℕ) (c : Observation) : Type 0 where
        entry : Observation
        is_entry : slice_get h.entries i ≡ Some entry
        is : IsCutEntry k i entry c

      has_cut : (i : ℕ) (c : Observation) → slice_get cut i ≡ Some c → HasCut i c
      has_cut i c at = let its = are.back i c at in record { entry = its.0; is_entry = its.1.0; is = its.1.1 }

      same_beginning : (i : ℕ) (e c : Observation) → IsCutEntry k i e c → beginning_of i e ≡ beginning_of i c
      same_beginning i e c is = ap (λ (p : ℕ). record { entry = i; position = p; is_return = false }) (sym is.first)

      number : (i : ℕ) (c : Observation) → slice_get cut i ≡ Some c → (f : Observation) × IsNumbered i c f
      number i c at = with_return c.returned refl
        where
          its : HasCut i c
          its = has_cut i c at

          place : (p : ℕ) × (slice_get moments p ≡ Some (beginning_of i its.entry))
          place = begun h observed moments events of i its.entry its.is_entry

          first : slice_get moments place.0 ≡ Some (beginning_of i c)
          first = place.1 ∙ ap (λ (m : Moment). Some m) (same_beginning i its.entry c its.is)

          with_return : (o : Option Returned) → c.returned ≡ o → (f : Observation) × IsNumbered i c f
          with_return None back = (
            record { thread = c.thread; call = c.call; first = place.0; returned = None },
            record {
              thread = refl;
              call = refl;
              first = first;
              returns = subst (λ (o : Option Returned). IsNumberedReturn i o None) (sym back) refl;
            },
          )
          with_return (Some r) back =
              let q = returned h observed moments events of i its.entry r its.is_entry (its.is.had r back) in (
                record {
                  thread = c.thread;
                  call = c.call;
                  first = place.0;
                  returned = Some (record { last = q.0; reply = r.reply });
                },
                record {
                  thread = refl;
                  call = refl;
                  first = first;
                  returns = subst (λ (o : Option Returned). IsNumberedReturn i o
                      (Some (record { last = q.0; reply = r.reply }))) (sym back) (q.0, (q.1, refl));
                },
              )

      pub numbered : List Observation
      numbered = (choose IsNumbered cut number).0

      are_numbered : AreChosen IsNumbered cut numbered
      unfolding numbered
      are_numbered = (choose IsNumbered cut number).1

      -- it tells of the same calls in the same order
      numbered_reply : (i : ℕ) (o p : Option Returned) → IsNumberedReturn i o p →
          option_map (λ (r : Returned). r.reply) o ≡ option_map (λ (r : Returned). r.reply) p
      numbered_reply i None p is = ap (option_map (λ (r : Returned). r.reply)) (sym is)
      numbered_reply i (Some r) p is = ap (option_map (λ (r : Returned). r.reply)) (sym is.1.1)

      number_of_return : (i : ℕ) (c f : Observation) (r : Returned) → IsNumbered i c f → c.returned ≡ Some r →
          (q : ℕ) × ((slice_get moments q ≡ Some (return_of i r)) ×
          (f.returned ≡ Some (record { last = q; reply = r.reply })))
      number_of_return i c f r is back =
          subst (λ (o : Option Returned). IsNumberedReturn i o f.returned) back is.returns

      still_open : (i : ℕ) (c f : Observation) → IsNumbered i c f → c.returned ≡ None → f.returned ≡ None
      still_open i c f is back = subst (λ (o : Option Returned). IsNumberedReturn i o f.returned) back is.returns

      numbered_of : (i : ℕ) (c f : Observation) → slice_get cut i ≡ Some c → slice_get numbered i ≡ Some f →
          IsNumbered i c f
      numbered_of i c f at_c at_f =
          let its = are_numbered.forth i c at_c in
          subst (IsNumbered i c) (same_Some its.0 f (sym its.1.0 ∙ at_f)) its.1.1

      before_there : (i j : ℕ) (a b c d : Observation) → IsNumbered i a c → IsNumbered j b d → IsBefore a b →
          IsBefore c d
      before_there i j a b c d first second before =
          let back = before_returned a b before in
          let q = number_of_return i a c back.0 first back.1.0 in
          returned_before c d (record { last = q.0; reply = back.0.reply }) q.1.1
          (before_numbered h observed moments events of i j d.first q.0 b back.0 q.1.0 second.first back.1.1)

      before_back : (i j : ℕ) (a b c d : Observation) → IsNumbered i a c → IsNumbered j b d → IsBefore c d →
          IsBefore a b
      before_back i j a b c d first second before = by a.returned refl
        where
          back : (r : Returned) × ((c.returned ≡ Some r) × (r.last < d.first))
          back = before_returned c d before

          by : (o : Option Returned) → a.returned ≡ o → IsBefore a b
          by None is = absurd (none-some back.0 (sym (still_open i a c first is) ∙ back.1.0))
          by (Some r) is =
              let q = number_of_return i a c r first is in
              let same : back.0 ≡ record { last = q.0; reply = r.reply } =
              same_Some back.0 (record { last = q.0; reply = r.reply }) (sym back.1.0 ∙ q.1.1) in
              returned_before a b r is (numbered_before h observed moments events of i j d.first q.0 b r q.1.0
              second.first (subst (λ (x : Returned). x.last < d.first) same back.1.1))

      pub correspond : (limits : Bounds) (width : ℕ) →
          Correspond (observed_as limits width cut) (observed_as limits width numbered)
      correspond limits width = record {
        limits = refl;
        width = refl;
        there = λ i. i;
        back = λ i. i;
        forth = record {
          each = λ i c at. let its = are_numbered.forth i c at in record {
            entry = its.0;
            is_entry = its.1.0;
            same = record {
              call = sym its.1.1.call;
              reply = numbered_reply i c.returned its.0.returned its.1.1.returns;
            };
          };
          own = λ i c at. refl;
        };
        rear = record {
          each = λ i f at. let its = are_numbered.back i f at in record {
            entry = its.0;
            is_entry = its.1.0;
            same = record {
              call = its.1.1.call;
              reply = sym (numbered_reply i its.0.returned f.returned its.1.1.returns);
            };
          };
          own = λ i f at. refl;
        };
        before = λ i j a b c d at_a at_b at_c at_d.
            let first = numbered_of i a c at_a at_c in
            let second = numbered_of j b d at_b at_d in (
              (λ before. before_there i j a b c d first second before),
              (λ before. before_back i j a b c d first second before),
            );
      }

      -- each entry has its own index
      pub same_index : (limits : Bounds) (width i : ℕ) → (correspond limits width).back i ≡ i
      unfolding correspond
      same_index limits width i = refl

      -- the numbers of an entry tell its lane and its moments before the cut
      pub record IsPlaced (i : ℕ) (c f : Observation) : Type 0 where
        pub thread : c.thread ≡ f.thread
        pub first : slice_get moments f.first ≡ Some (beginning_of i c)
        pub returns : (q : ℕ) (r : Returned) → q < k → slice_get moments q ≡ Some (return_of i r) →
            (s : Returned) × ((f.returned ≡ Some s) × (s.last ≡ q))

      pub placed : (i : ℕ) (c f : Observation) → slice_get cut i ≡ Some c → slice_get numbered i ≡ Some f →
          IsPlaced i c f
      placed i c f at_c at_f = record { thread = sym its.thread; first = its.first; returns = returns }
        where
          its : IsNumbered i c f
          its = numbered_of i c f at_c at_f

          of_entry : HasCut i c
          of_entry = has_cut i c at_c

          returns : (q : ℕ) (r : Returned) → q < k → slice_get moments q ≡ Some (return_of i r) →
              (s : Returned) × ((f.returned ≡ Some s) × (s.last ≡ q))
          returns q r less at_q =
              let found = zip_there (IsEventAt h.entries) q moments events (return_of i r) of.events_are at_q in
              by found.0 found.1.1
            where
              by : (event : Event) → IsEventAt h.entries (return_of i r) event →
                  (s : Returned) × ((f.returned ≡ Some s) × (s.last ≡ q))
              by event (inl begins) = absurd (false≢true (sym (ap (λ (m : Moment). m.is_return) begins.moment)))
              by event (inr back) =
                  let s = number_of_return i c f back.at.return its kept in
                  (_, (s.1.1, one_number h observed moments events of s.0 q (return_of i back.at.return) s.1.0 at_r))
                where
                  at_r : slice_get moments q ≡ Some (return_of i back.at.return)
                  at_r = at_q ∙ ap (λ (m : Moment). Some m) back.moment

                  kept : c.returned ≡ Some back.at.return
                  kept = of_entry.is.kept back.at.return q (ap (λ (o : Observation). o.returned)
                      (same_Some of_entry.entry back.at.entry (sym of_entry.is_entry ∙ back.at.is_entry)) ∙
                      back.at.returned) at_r less

      -- it is of the run of the events before the cut
      ending_here : (i : ℕ) (e c f : Observation) → slice_get h.entries i ≡ Some e → IsCutEntry k i e c →
          IsNumbered i c f → IsEntryOf e.thread e.call f.first
          (ending_of e.thread (f.first + 1) (drop (suc f.first) (take k events))) f
      ending_here i e c f at_i is of_cut = by c.returned refl
        where
          first : slice_get moments f.first ≡ Some (beginning_of i e)
          first = of_cut.first ∙ ap (λ (m : Moment). Some m) (sym (same_beginning i e c is))

          its : (o : Option Returned) → f.returned ≡ o →
              f ≡ record { thread = e.thread; call = e.call; first = f.first; returned = o }
          its o back =
              entry_is f e.thread f.first e.call o (of_cut.thread ∙ is.thread) (of_cut.call ∙ is.call) refl back

          there : (j : ℕ) (event : Event) → slice_get (drop (suc f.first) (take k events)) j ≡ Some event →
              (suc f.first + j < k) × (slice_get events (suc f.first + j) ≡ Some event)
          there j event at = in_take k (suc f.first + j) events event
              (in_drop (suc f.first) j (suc f.first + j) (take k events) event refl at)

          by : (o : Option Returned) → c.returned ≡ o → IsEntryOf e.thread e.call f.first
              (ending_of e.thread (f.first + 1) (drop (suc f.first) (take k events))) f
          by None back = subst (λ (x : Ending). IsEntryOf e.thread e.call f.first x f) (sym (ending_none e.thread
              (f.first + 1) (drop (suc f.first) (take k events)) spared)) (its None (still_open i c f of_cut back))
            where
              spared : (j : ℕ) (event : Event) → slice_get (drop (suc f.first) (take k events)) j ≡ Some event →
                  ¬ IsEndOf e.thread event
              spared j event at end =
                  let place = there j event at in
                  let end_is = ends_from i f.first (suc f.first + j) e event at_i first (omega arith) place.1 end in
                  let q = returned h observed moments events of i e end_is.0 at_i end_is.1.0 in
                  let low = end_is.1.1 q.0 q.1 in
                  none-some end_is.0 (sym back ∙ is.kept end_is.0 q.0 end_is.1.0 q.1 (omega (arith, low, place.0)))
          by (Some r) back = subst (λ (x : Ending). IsEntryOf e.thread e.call f.first x f) (sym (ending_at e.thread
              (f.first + 1) d.0 q.0 (drop (suc f.first) (take k events)) r.reply (omega (arith, d.1))
              (drop_has (suc f.first) d.0 q.0 (take k events) (Returns e.thread r.reply) d.1
              (take_has k q.0 events (Returns e.thread r.reply) (is.below r q.0 back q.1.0)
              (returns_by i q.0 e r at_i (is.had r back) q.1.0))) spared))
              (its (Some (record { last = q.0; reply = r.reply })) q.1.1)
            where
              q : (n : ℕ) × ((slice_get moments n ≡ Some (return_of i r)) ×
                  (f.returned ≡ Some (record { last = n; reply = r.reply })))
              q = number_of_return i c f r of_cut back

              d : (n : ℕ) × (q.0 ≡ suc f.first + n)
              d = gap f.first q.0 (begins_first h observed moments events of i f.first q.0 e r at_i (is.had r back)
                  first q.1.0)

              spared : (j : ℕ) (event : Event) → j < d.0 →
                  slice_get (drop (suc f.first) (take k events)) j ≡ Some event → ¬ IsEndOf e.thread event
              spared j event less at end =
                  let place = there j event at in
                  let end_is = ends_from i f.first (suc f.first + j) e event at_i first (omega arith) place.1 end in
                  let low = end_is.1.1 q.0 (subst (λ (x : Returned). slice_get moments q.0 ≡ Some (return_of i x))
                  (same_Some r end_is.0 (sym (is.had r back) ∙ end_is.1.0)) q.1.0) in
                  omega (arith, low, d.1, less)

      -- of an event that begins a call
      record IsOfEvent (p lane : ℕ) (call : Call) : Type 0 where
        index : ℕ
        entry : Observation
        is_entry : slice_get h.entries index ≡ Some entry
        its_lane : lane ≡ entry.thread
        its_call : call ≡ entry.call
        at : slice_get moments p ≡ Some (beginning_of index entry)

      of_event : (p lane : ℕ) (call : Call) → slice_get events p ≡ Some (Begins lane call) → IsOfEvent p lane call
      of_event p lane call at_p =
          let found = zip_at (IsEventAt h.entries) p moments events (Begins lane call) of.events_are at_p in
          by found.0 found.1.0 found.1.1
        where
          by : (m : Moment) → slice_get moments p ≡ Some m → IsEventAt h.entries m (Begins lane call) →
              IsOfEvent p lane call
          by m at_m (inl begins) = record {
            index = m.entry;
            entry = begins.entry;
            is_entry = begins.is_entry;
            its_lane = ap lane_of begins.event_is;
            its_call = let same = begins.event_is in cc;
            at = at_m ∙ ap (λ (x : Moment). Some x) begins.moment;
          }
          by m at_m (inr returns) = absurd (let same = returns.event_is in cc)

      inside : (f : Observation) → Contains (entries_from 0 (take k events)) f → Contains numbered f
      inside f has = subst (Contains numbered) same (contains_at numbered its.index g.0 g.1.0)
        where
          there : BeginsThere 0 (take k events) f
          there = entry_begins 0 (take k events) f has

          place : (there.number < k) × (slice_get events there.number ≡ Some (Begins there.lane there.call))
          place = in_take k there.number events (Begins there.lane there.call) there.at

          its : IsOfEvent there.number there.lane there.call
          its = of_event there.number there.lane there.call place.1

          c : (c : Observation) × ((slice_get cut its.index ≡ Some c) × IsCutEntry k its.index its.entry c)
          c = are.forth its.index its.entry its.is_entry

          g : (g : Observation) × ((slice_get numbered its.index ≡ Some g) × IsNumbered its.index c.0 g)
          g = are_numbered.forth its.index c.0 c.1.0

          number_is : there.number ≡ g.0.first
          number_is = one_number h observed moments events of there.number g.0.first (beginning_of its.index its.entry)
              its.at (g.1.1.first ∙ ap (λ (m : Moment). Some m) (sym (same_beginning its.index its.entry c.0 c.1.1)))

          first_is : there.first ≡ g.0.first
          first_is = omega (arith, there.first_is, number_is)

          entry_of : IsEntryOf there.lane there.call there.first (ending_of there.lane (there.first + 1)
              (drop (suc there.number) (take k events))) g.0
          entry_of = told_so (take k events) g.0 its.its_lane its.its_call number_is first_is
              (ending_here its.index its.entry c.0 g.0 its.is_entry c.1.1 g.1.1)

          same : g.0 ≡ f
          same = one_entry there.lane there.call there.first (ending_of there.lane (there.first + 1)
              (drop (suc there.number) (take k events))) g.0 f entry_of there.is

      each : (i : ℕ) (f : Observation) → slice_get numbered i ≡ Some f →
          Contains (entries_from 0 (take k events)) f ⊎ IsLate (length (take k events)) f
      each i f at = by (three_ways f.first k)
        where
          c : (c : Observation) × ((slice_get cut i ≡ Some c) × IsNumbered i c f)
          c = are_numbered.back i f at

          its : HasCut i c.0
          its = has_cut i c.0 c.1.0

          first : slice_get moments f.first ≡ Some (beginning_of i its.entry)
          first = c.1.1.first ∙ ap (λ (m : Moment). Some m) (sym (same_beginning i its.entry c.0 its.is))

          late : k ≤ f.first → IsLate (length (take k events)) f
          late low = record {
            begins = omega (arith, length-take k events, low);
            open_still = none c.0.returned refl;
          }
            where
              none : (o : Option Returned) → c.0.returned ≡ o → f.returned ≡ None
              none None back = still_open i c.0 f c.1.1 back
              none (Some r) back =
                  let q = number_of_return i c.0 f r c.1.1 back in
                  absurd (omega (
                    arith,
                    low,
                    its.is.below r q.0 back q.1.0,
                    begins_first h observed moments events of i
                        f.first q.0 its.entry r its.is_entry (its.is.had r back) first q.1.0,
                  ))

          by : (f.first < k) ⊎ ((f.first ≡ k) ⊎ (k < f.first)) →
              Contains (entries_from 0 (take k events)) f ⊎ IsLate (length (take k events)) f
          by (inl less) = inl (begins_entry 0 f.first f.first its.entry.thread its.entry.call (take k events) f
              (omega arith) (take_has k f.first events (Begins its.entry.thread its.entry.call) less
              (begins_by i f.first its.entry its.is_entry first))
              (ending_here i its.entry c.0 f its.is_entry its.is c.1.1))
          by (inr (inl same)) = inr (late (omega (arith, same)))
          by (inr (inr more)) = inr (late (omega (arith, more)))

      single : (i j : ℕ) (f : Observation) → slice_get numbered i ≡ Some f → slice_get numbered j ≡ Some f → i ≡ j
      single i j f at_i at_j =
          let a = are_numbered.back i f at_i in
          let b = are_numbered.back j f at_j in
          ap (λ (m : Moment). m.entry) (one_moment h observed moments events of f.first (beginning_of i a.0)
          (beginning_of j b.0) a.1.1.first b.1.1.first)

      pub are_of_run : AreOfRun numbered (take k events)
      are_of_run = record { inside = inside; each = each; single = single }
