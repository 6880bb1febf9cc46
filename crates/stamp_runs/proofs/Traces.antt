-- Traces that go on, move by move.
use Rattle.std.proofs.Common.{◌≡◌, ◌≢◌, ◌⊎◌, ℕ, Bool, true, false, List, [], ◌∷◌, ◌++◌, None, Some, length, refl}
use Rattle.std.proofs.Common.{sym, ◌∙◌, ap, subst, inl, inr}
use Rattle.std.specs.List.{All}
use Rattle.std.proofs.lemmas.Bool.{cases_eq, cases_Bool}
use Rattle.std.proofs.lemmas.List.Elements.{All-cons, All-head, All-nil, All-tail}
use Rattle.stamp_core.specs.declared.call.Call.{Call}
use Rattle.stamp_core.specs.declared.reply.Reply.{Reply}
use Rattle.stamp_runs.specs.declared.event.Event.{Event}
use Rattle.stamp_runs.specs.Object.{Object}
use Rattle.stamp_runs.specs.Run.{Happens, Lanes, Sets, lane_of}
use Rattle.stamp_runs.specs.Run.Phase.{Asks, Gets}
use Rattle.stamp_runs.specs.Position.{Hidden, Overwrites, Position, SameFree}
use Rattle.stamp_runs.specs.Position.Hidden.{no_more, overwrites, sees}
use Rattle.stamp_runs.specs.Returning.{IsReached}
use Rattle.stamp_runs.specs.Returning.IsReached.{from_old, by_changing, by_overwriting}
use Rattle.stamp_runs.specs.Trace.{FreesNoMore, IsTrace, IsTraced, Move, hidden_calls}
use Rattle.stamp_runs.specs.Trace.{taken_at}
use Rattle.stamp_runs.specs.Trace.IsTrace.{in_opening, with_event, with_effect, with_overwriting, with_hidden}
use Rattle.stamp_runs.specs.Trace.Move.{Takes, Frees, Hides}
use Rattle.stamp_runs.proofs.Lanes.{set_of, sets_of}
use Rattle.stamp_runs.proofs.Lanes.{true_or_false}

module _ {S : Type 0} (O : Object S) (start : S) where
  not_freed : {free then_free : ℕ → Bool} (v : ℕ) → ((u : ℕ) → then_free u ≡ true → free u ≡ true) →
      free v ≡ false → then_free v ≡ false
  not_freed {then_free = then_free} v fewer none = by (cases_Bool (then_free v))
    where
      by : (then_free v ≡ true) ⊎ (then_free v ≡ false) → then_free v ≡ false
      by (inl free) = absurd (true_or_false (fewer v free) none)
      by (inr same) = same

  -- a position of which less is free has the same trace
  pub trace_fewer : {past : List Event} {moves : List Move} (p q : Position S) → IsTrace O start past moves p →
      p.state ≡ q.state → p.lanes ≡ q.lanes → FreesNoMore p q → IsTrace O start past moves q
  trace_fewer p q (in_opening itself is idle none) same alike fewer =
      in_opening q (sym same ∙ is) (sym alike ∙ idle) (λ v. not_freed v fewer (none v))
  trace_fewer p q (with_event o itself event trace is happens apart less) same alike fewer =
      with_event o q event trace (is ∙ same) (subst (λ (l : Lanes). Happens event o.lanes l) alike happens)
      (not_freed (lane_of event) fewer apart) (λ v free. less v (fewer v free))
  trace_fewer p q (with_effect o itself lane call reply trace asks step sets apart less) same alike fewer =
      with_effect o q lane call reply trace asks (subst (λ (s : S). O o.state call reply s) same step)
      (subst (λ (l : Lanes). Sets o.lanes l lane (Gets reply)) alike sets) (not_freed lane fewer apart)
      (λ v free. less v (fewer v free))
  trace_fewer p q (with_overwriting o itself lane call reply trace asks over sets apart) same alike fewer =
      with_overwriting o q lane call reply trace asks (subst (λ (s : S). Overwrites O call reply s) same over)
      (subst (λ (l : Lanes). Sets o.lanes l lane (Gets reply)) alike sets) (not_freed lane fewer apart)
  trace_fewer p q (with_hidden o itself calls trace is hidden are less) same alike fewer =
      let there = subst (λ (l : Lanes). (all : Hidden O o.free None o.lanes l) × (hidden_calls all ≡ calls)) alike
      (hidden, are) in
      with_hidden o q calls trace (is ∙ same) there.0 there.1 (λ v free. less v (fewer v free))

  -- calls of these lanes take effect in this state one after the other, each with this reply, and change nothing
  abbrev pub ReadInTurn : S → Lanes → List (ℕ × Reply) → Lanes → Type 0
  ReadInTurn t l [] last = l ≡ last
  ReadInTurn t l (x ∷ readers) last = (call : Call) × (l x.0 ≡ Asks call) × O t call x.1 t ×
      ReadInTurn t (set_of l x.0 (Gets x.1)) readers last

  -- so it is in whatever order they stand
  pub record IsRead (t : S) (l last : Lanes) (x : ℕ × Reply) : Type 0 where
    pub call : Call
    pub asks : l x.0 ≡ Asks call
    pub step : O t call x.1 t
    pub gets : last x.0 ≡ Gets x.1

  abbrev pub NotIts : ℕ → ℕ × Reply → Type 0
  NotIts v x = v ≢ x.0

  abbrev pub AreOfOwnLanes : List (ℕ × Reply) → Type 0
  AreOfOwnLanes [] = Unit {0}
  AreOfOwnLanes (x ∷ readers) = All (λ (y : ℕ × Reply). NotIts y.0 x) readers × AreOfOwnLanes readers

  pub read_in_turn : (t : S) (l last : Lanes) (readers : List (ℕ × Reply)) → AreOfOwnLanes readers →
      All (IsRead t l last) readers → ((v : ℕ) → All (NotIts v) readers → last v ≡ l v) →
      ReadInTurn t l readers last
  read_in_turn t l last [] own each others = λ i v. sym (others v (All-nil (NotIts v))) i
  read_in_turn t l last (x ∷ readers) own each others = (
    one.call,
    one.asks,
    one.step,
    read_in_turn t then last readers own.1 (λ k d lt. still _ (own.0 k d lt)
        (All-tail (IsRead t l last) x readers each k d lt)) (λ v none. by v none (cases_eq v x.0)),
  )
    where
      then : Lanes
      then = set_of l x.0 (Gets x.1)

      sets : Sets l then x.0 (Gets x.1)
      sets = sets_of l x.0 (Gets x.1)

      one : IsRead t l last x
      one = All-head (IsRead t l last) x readers each

      still : (y : ℕ × Reply) → NotIts y.0 x → IsRead t l last y → IsRead t then last y
      still y apart is = record {
        call = is.call;
        asks = sets.others y.0 apart ∙ is.asks;
        step = is.step;
        gets = is.gets;
      }

      by : (v : ℕ) → All (NotIts v) readers → (v ≡ x.0) ⊎ (v ≢ x.0) → last v ≡ then v
      by v none (inl same) = subst (λ (w : ℕ). last w ≡ then w) (sym same) (one.gets ∙ sym sets.here)
      by v none (inr apart) = others v (All-cons (NotIts v) x readers apart none) ∙ sym (sets.others v apart)

  abbrev pub taken_in_turn : ℕ → List (ℕ × Reply) → List Move → List Move
  taken_in_turn point [] moves = moves
  taken_in_turn point (x ∷ readers) moves = taken_in_turn point readers (Takes (taken_at point x) ∷ moves)

  -- so they do after what was done before
  pub trace_readers : {past : List Event} {moves : List Move} (p q : Position S) (readers : List (ℕ × Reply)) →
      IsTrace O start past moves p → p.state ≡ q.state → ReadInTurn p.state p.lanes readers q.lanes →
      All (λ (x : ℕ × Reply). q.free x.0 ≡ false) readers → FreesNoMore p q →
      IsTrace O start past (taken_in_turn (length past) readers moves) q
  trace_readers p q [] trace same reads none fewer = trace_fewer p q trace same reads fewer
  trace_readers p q (x ∷ readers) trace same reads none fewer = trace_readers then q readers
      (with_effect p then x.0 reads.0 x.1 trace reads.1 reads.2 (sets_of p.lanes x.0 (Gets x.1))
      (All-head (λ (y : ℕ × Reply). q.free y.0 ≡ false) x readers none) fewer) same reads.3
      (All-tail (λ (y : ℕ × Reply). q.free y.0 ≡ false) x readers none) (λ v free. free)
    where
      then : Position S
      then = record { state = p.state; lanes = set_of p.lanes x.0 (Gets x.1); free = q.free }

  -- and behind a call that is hidden
  pub hidden_readers : {free : ℕ → Bool} (t : S) (l last : Lanes) (readers : List (ℕ × Reply)) →
      All (λ (x : ℕ × Reply). free x.0 ≡ true) readers → ReadInTurn t l readers last →
      (all : Hidden O free (Some t) l last) × (hidden_calls all ≡ readers)
  hidden_readers {free} t l last [] are reads =
      subst (λ (m : Lanes). (all : Hidden O free (Some t) l m) × (hidden_calls all ≡ [])) reads (no_more, refl)
  hidden_readers {free} t l last (x ∷ readers) are reads =
      let on = hidden_readers t (set_of l x.0 (Gets x.1)) last readers
      (All-tail (λ (y : ℕ × Reply). free y.0 ≡ true) x readers are) reads.3 in (
        sees x.0 reads.0 x.1 (All-head (λ (y : ℕ × Reply). free y.0 ≡ true) x readers are) reads.1 reads.2
            (sets_of l x.0 (Gets x.1)) on.0,
        ap (λ (calls : List (ℕ × Reply)). x ∷ calls) on.1,
      )

  pub trace_hidden : {past : List Event} {moves : List Move} (p q : Position S) (lane : ℕ) (call : Call) (reply : Reply)
      (t : S) (readers : List (ℕ × Reply)) → IsTrace O start past moves p → p.state ≡ q.state →
      p.free lane ≡ true → p.lanes lane ≡ Asks call → Overwrites O call reply t →
      All (λ (x : ℕ × Reply). p.free x.0 ≡ true) readers →
      ReadInTurn t (set_of p.lanes lane (Gets reply)) readers q.lanes → FreesNoMore p q →
      IsTrace O start past (Hides ((lane, reply) ∷ readers) ∷ moves) q
  trace_hidden p q lane call reply t readers trace same free asks over are reads fewer =
      let on = hidden_readers t (set_of p.lanes lane (Gets reply)) q.lanes readers are reads in
      with_hidden p q ((lane, reply) ∷ readers) trace same
      (overwrites lane call reply t free asks over (sets_of p.lanes lane (Gets reply)) on.0)
      (ap (λ (calls : List (ℕ × Reply)). (lane, reply) ∷ calls) on.1) fewer

  -- what is reached from traced positions is traced
  module _ (past : List Event) (old : Position S → Type 0)
      (traced : (p : Position S) → old p → IsTraced O start past p) where
    pub reached_traced : (q : Position S) → IsReached O old q → IsTraced O start past q
    reached_traced q (from_old p itself there same hidden more) = let before = traced p there in record {
      moves = Hides (hidden_calls hidden) ∷ before.moves;
      trace = with_hidden p q (hidden_calls hidden) before.trace same hidden refl more;
    }
    reached_traced q (by_changing p itself lane call reply reached asks step sets apart fewer) =
        let before = reached_traced p reached in record {
          moves = Takes (taken_at (length past) (lane, reply)) ∷ before.moves;
          trace = with_effect p q lane call reply before.trace asks step sets apart fewer;
        }
    reached_traced q (by_overwriting p itself lane call reply reached asks over sets apart) =
        let before = reached_traced p reached in record {
          moves = Frees (taken_at (length past) (lane, reply)) ∷ before.moves;
          trace = with_overwriting p q lane call reply before.trace asks over sets apart;
        }

    -- and so is what comes of them by an event
    pub event_traced : (event : Event) (p q : Position S) → old p → p.state ≡ q.state →
        Happens event p.lanes q.lanes → SameFree p.free q.free (lane_of event) →
        IsTraced O start (past ++ event ∷ []) q
    event_traced event p q there same happens frees = let before = traced p there in record {
      moves = before.moves;
      trace = with_event p q event before.trace same happens frees.not_it (λ v free. by v free (cases_eq v u));
    }
      where
        u : ℕ
        u = lane_of event

        by : (v : ℕ) → q.free v ≡ true → (v ≡ u) ⊎ (v ≢ u) → p.free v ≡ true
        by v free (inl here) = absurd (true_or_false free (subst (λ (w : ℕ). q.free w ≡ false) (sym here) frees.not_it))
        by v free (inr apart) = sym (frees.others v apart) ∙ free
