-- A lock call from one access to the next.
use Rattle.std.proofs.Common.{◌≡◌, ℕ, ◌==◌, Bool, true, false, Option, Some, None}
use Rattle.std.proofs.Common.{List, [], ◌∷◌, ◌++◌, refl, ap, sym, ◌∙◌, subst, if◌then◌else◌}
use Rattle.std.proofs.Common.{append-nil, append_assoc, arith}
use Rattle.std.specs.Prelude.{IsTrue}
use Rattle.std.proofs.lemmas.Bool.Decides.{nat_tests}
use Rattle.stamp_core.specs.Call.{is_lock_call}
use Rattle.stamp_core.specs.Limits.{Bounds}
use Rattle.stamp_core.specs.Word.{LockWord, word_at}
use Rattle.stamp_core.specs.Decision.{Answers, Changes, HasNone}
use Rattle.stamp_core.specs.CountedDecision.{decision}
use Rattle.stamp_core.specs.declared.call.Call.{Call}
use Rattle.stamp_core.specs.declared.reply.Reply.{Reply}
use Rattle.stamp_core.specs.declared.decision.Decision.{Decision}
use Rattle.stamp_core.specs.declared.decision.Decision.TheVariants.{Answer, Change, Wait}
use Rattle.stamp_machines.specs.Job.{Job}
use Rattle.stamp_machines.specs.LockPhase as phases
use Rattle.stamp_machines.specs.LockPhase.{turn_on}
use Rattle.stamp_machines.specs.Machine.{Finds, after_access, lock_turn}
use Rattle.stamp_machines.specs.MachineState.{MachineState, start, first_stage}
use Rattle.stamp_machines.specs.MachineState.{lock_alone, on_lock_alone}
use Rattle.stamp_machines.specs.declared.machine.Turn.{Turn}
use Rattle.stamp_machines.specs.declared.machine.Turn.TheVariants.{Going, Done}
use Rattle.stamp_machines.proofs.TwoKindsOfCall.{lock_none}
use Rattle.stamp_threads.specs.LockPass.{LockPassView}
use Rattle.stamp_threads.specs.inner.LockRule.{Loaded, Won}
use Rattle.stamp_threads.specs.PassView.{entry, HasFound}
use Rattle.stamp_threads.specs.Made.{Made}
use Rattle.stamp_threads.specs.GoesAsMachine.{GoesAsMachine}
use Rattle.stamp_threads.specs.inner.GoesAsMachine.{IsToDecide, TriedInVain, WentOn}
use Rattle.stamp_threads.proofs.Beginnings.{begins_all, begins_further}
use Rattle.stamp_threads.proofs.CallSteps.{by_answer, by_change, by_change_made, by_wait}
use Rattle.stamp_threads.proofs.Found.{found_by_load, found_by_win}
use Rattle.stamp_threads.proofs.SamePass.{same_further, no_call_yet, no_call_further}

-- a machine that goes on finds one word more
finds_more : (words : List ℕ) (turn : Turn) (m : MachineState) (word : ℕ) (after : Turn) →
    Finds words turn (Going m) → after_access m word ≡ after → Finds (words ++ word ∷ []) turn after
finds_more [] turn m word after is next =
    subst (λ (t : Turn). Finds (word ∷ []) t after) (sym is) next
finds_more (first ∷ words) (Going s) m word after is next =
    finds_more words (after_access s first) m word after is next
finds_more (first ∷ words) (Done reply) m word after is next = absurd is

-- a pass that has tried in vain, and one more access that made no call
tries_more : (limits : Bounds) (v u : LockPassView) (words : List ℕ) (found : ℕ) (w : LockPassView) →
    TriedInVain v words u → WentOn limits u found w → HasFound u (found ∷ []) w →
    TriedInVain v (words ++ found ∷ []) w
tries_more limits v u words found w in_vain went has_found = record {
  begins = begins_further v.known u.known w.known in_vain.begins went.left.begins;
  has_found = has_found ∙ (ap (λ (l : List ℕ). l ++ found ∷ []) in_vain.has_found ∙
      append_assoc v.found words (found ∷ []));
  no_call = no_call_further v u w in_vain.no_call went.no_call;
}

-- a call that was tried in vain, and is made by the next access
made_after : (limits : Bounds) (call : Call) (reply : Reply) (v u : LockPassView) (words : List ℕ)
    (w : LockPassView) → TriedInVain v words u → Made limits call reply u w →
    Made limits call reply v w
made_after limits call reply v u words w in_vain a = record {
  log = a.log;
  word = a.word;
  left = record {
    begins = begins_further v.known u.known a.log in_vain.begins a.left.begins;
    legal = a.left.legal;
    represents = a.left.represents;
  };
  earlier = words ++ a.earlier;
  last = a.last ∙ (ap (λ (l : List ℕ). l ++ (a.earlier ++ a.word ∷ [])) in_vain.has_found ∙
      (append_assoc v.found words (a.earlier ++ a.word ∷ []) ∙
      ap (λ (l : List ℕ). v.found ++ l) (sym (append_assoc words a.earlier (a.word ∷ [])))));
  known = a.known ∙ ap (λ (n : List ℕ). a.log ++ entry n (call, reply) ∷ []) in_vain.no_call.same.name;
  own = a.own ∙ ap (λ (l : List (Call × Reply)). l ++ (call, reply) ∷ []) in_vain.no_call.own;
  same = same_further v u w in_vain.no_call.same a.same;
  consistent = a.consistent;
}

-- the first load of a call
pub begins : (limits : Bounds) (call : Call) (v : LockPassView) (found : ℕ) (w : LockPassView) →
    IsTrue (is_lock_call call) → Loaded limits call v found w → IsToDecide limits call v found w
begins limits call v found w lock loaded = record {
  before = v;
  words = [];
  in_vain = record {
    begins = begins_all v.known;
    has_found = sym (append-nil v.found);
    no_call = no_call_yet v;
  };
  loaded = loaded;
  machine = ap (λ (j : Option Job). after_access (record {
    shape = lock_alone limits;
    call = call;
    stage = first_stage j;
  }) found) (lock_none call lock);
}

module _ (limits : Bounds) (call : Call) (v : LockPassView) (found : ℕ) (w : LockPassView)
    (to_decide : IsToDecide limits call v found w) where
  found_so_far : HasFound v (to_decide.words ++ found ∷ []) w
  found_so_far =
      found_by_load limits call to_decide.before found w to_decide.loaded ∙
      (ap (λ (l : List ℕ). l ++ found ∷ []) to_decide.in_vain.has_found ∙
      append_assoc v.found to_decide.words (found ∷ []))

  -- the machine stands where the decision on the word found leads
  turns : (d : Decision) → d ≡ decision limits found call →
      Finds (to_decide.words ++ found ∷ []) (Going (start (lock_alone limits) call))
      (lock_turn (lock_alone limits) call (turn_on found d))
  turns d is = subst (λ (e : Decision). Finds (to_decide.words ++ found ∷ [])
      (Going (start (lock_alone limits) call))
      (lock_turn (lock_alone limits) call (turn_on found e))) (sym is) to_decide.machine

  -- the word found answers the call
  pub is_made_by_answer : (reply : Reply) → Answers limits (word_at limits found) call reply →
      Made limits call reply v w
  is_made_by_answer reply answers = made_after limits call reply v to_decide.before to_decide.words w
      to_decide.in_vain (by_answer limits call to_decide.before found w reply to_decide.loaded answers)

  pub ends_by_answer : (reply : Reply) → Answer reply ≡ decision limits found call →
      GoesAsMachine limits call v w (Done reply)
  ends_by_answer reply is = (to_decide.words ++ found ∷ [], found_so_far, turns (Answer reply) is)

  module _ (new : LockWord) (reply : Reply)
      (changes : Changes limits (word_at limits found) call new reply)
      (is : Change new reply ≡ decision limits found call) where
    went : WentOn limits to_decide.before found w
    went = by_change limits call to_decide.before found w new reply to_decide.loaded changes

    in_vain : TriedInVain v (to_decide.words ++ found ∷ []) w
    in_vain = tries_more limits v to_decide.before to_decide.words found w to_decide.in_vain went
        (found_by_load limits call to_decide.before found w to_decide.loaded)

    -- where the machine stands after its exchange has found this word
    exchanged : (word : ℕ) (b : Bool) → (word == found) ≡ b →
        after_access (on_lock_alone limits call (Some found)) word ≡ lock_turn (lock_alone limits) call
        (if b then phases.Done reply else turn_on word (decision limits word call))
    exchanged word b same =
        ap (λ (d : Decision). lock_turn (lock_alone limits) call (phases.tried limits call found word d))
        (sym is) ∙
        ap (λ (c : Bool). lock_turn (lock_alone limits) call
        (if c then phases.Done reply else turn_on word (decision limits word call))) same

    -- the exchange found the same word
    pub is_made_by_change : (u : LockPassView) → Won limits call w found u → Made limits call reply v u
    is_made_by_change u won = made_after limits call reply v w (to_decide.words ++ found ∷ []) u in_vain
        (by_change_made limits call w found u new reply won changes)

    pub ends_by_change : (u : LockPassView) → Won limits call w found u →
        GoesAsMachine limits call v u (Done reply)
    ends_by_change u won = (
      (to_decide.words ++ found ∷ []) ++ found ∷ [],
      found_by_win limits call w found u won ∙
          (ap (λ (l : List ℕ). l ++ found ∷ []) in_vain.has_found ∙
          append_assoc v.found (to_decide.words ++ found ∷ []) (found ∷ [])),
      finds_more (to_decide.words ++ found ∷ []) (Going (start (lock_alone limits) call))
          (on_lock_alone limits call (Some found)) found (Done reply) (turns (Change new reply) is)
          (exchanged found true (grind (arith, nat_tests))),
    )

    -- the exchange found another word
    pub loses_exchange : (word : ℕ) (u : LockPassView) → (word == found) ≡ false →
        Loaded limits call w word u → IsToDecide limits call v word u
    loses_exchange word u other loaded = record {
      before = w;
      words = to_decide.words ++ found ∷ [];
      in_vain = in_vain;
      loaded = loaded;
      machine = finds_more (to_decide.words ++ found ∷ []) (Going (start (lock_alone limits) call))
          (on_lock_alone limits call (Some found)) word
          (lock_turn (lock_alone limits) call (turn_on word (decision limits word call)))
          (turns (Change new reply) is) (exchanged word false other);
    }

  -- the call waits, and loads the word again
  pub loads_again : HasNone limits (word_at limits found) call → Wait ≡ decision limits found call →
      (word : ℕ) (u : LockPassView) → Loaded limits call w word u → IsToDecide limits call v word u
  loads_again none is word u loaded = record {
    before = w;
    words = to_decide.words ++ found ∷ [];
    in_vain = tries_more limits v to_decide.before to_decide.words found w to_decide.in_vain
        (by_wait limits call to_decide.before found w to_decide.loaded none)
        (found_by_load limits call to_decide.before found w to_decide.loaded);
    loaded = loaded;
    machine = finds_more (to_decide.words ++ found ∷ []) (Going (start (lock_alone limits) call))
        (on_lock_alone limits call None) word
        (lock_turn (lock_alone limits) call (turn_on word (decision limits word call)))
        (turns Wait is) refl;
  }

-- the call is to change the word found
pub goes_to_change : (limits : Bounds) (call : Call) (v : LockPassView) (found : ℕ) (w : LockPassView)
    (new : LockWord) (reply : Reply) → IsToDecide limits call v found w →
    Change new reply ≡ decision limits found call →
    GoesAsMachine limits call v w (Going (on_lock_alone limits call (Some found)))
goes_to_change limits call v found w new reply to_decide is = (
  to_decide.words ++ found ∷ [],
  found_so_far limits call v found w to_decide,
  turns limits call v found w to_decide (Change new reply) is,
)
