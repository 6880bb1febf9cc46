-- What calls of the lock do, by what was decided.
use Rattle.std.proofs.Common.{ℕ, ◌≡◌, List, ◌++◌, [], Option, Some, refl, sym, ◌∙◌, ap, subst, append-nil}
use Rattle.stamp_core.specs.LockEvent.{LockEvent}
use Rattle.stamp_core.specs.Limits.{Bounds}
use Rattle.stamp_core.specs.Word.{LockWord, Represents, word_at}
use Rattle.stamp_core.specs.Transition.{Transition, transition}
use Rattle.stamp_core.specs.History.{Replies, appended_by}
use Rattle.stamp_core.specs.Decision.{Answers, Changes, Decides}
use Rattle.stamp_core.specs.LockDecision.{reply_as}
use Rattle.stamp_core.specs.declared.decision.Decision.{Decision}
use Rattle.stamp_core.specs.declared.call.Call.{Call}
use Rattle.stamp_core.specs.declared.lock_decision.LockReply.{LockReply}
use Rattle.stamp_core.specs.declared.reply.Reply.{Reply}
use Rattle.stamp_runs.specs.Object.{LockStep}
use Rattle.stamp_sets.specs.declared.small_call.SmallReply.TheVariants.{OfLock}
use Rattle.stamp_sets.specs.Judged.{lock}
use Rattle.stamp_sets.proofs.Answers.{IsAnswered, Stays}

pub decides_at : (limits : Bounds) (w v : LockWord) (k j : Call) (d : Decision) → w ≡ v → k ≡ j →
    Decides limits w k d → Decides limits v j d
decides_at limits w v k j d words calls decides = subst (λ (x : Call). Decides limits v x d) calls
    (subst (λ (y : LockWord). Decides limits y k d) words decides)

module _ (limits : Bounds) (word : ℕ) (call : Call) where
  -- a step of which the transition is known
  replied : (t : Transition) (s next : List LockEvent) (reply : Reply) → transition limits s call ≡ Some t →
      LockStep limits s call reply next → (reply ≡ t.reply) × (next ≡ s ++ t.appended)
  replied t s next reply is step = (
    sym (subst (λ (x : Option Transition). Replies x reply) is step.replies),
    step.appends ∙ ap (λ (x : Option Transition). s ++ appended_by x) is,
  )

  stepped : (t : Transition) (s : List LockEvent) → transition limits s call ≡ Some t →
      LockStep limits s call t.reply (s ++ t.appended)
  stepped t s is = record {
    replies = subst (λ (x : Option Transition). Replies x t.reply) (sym is) refl;
    appends = ap (λ (x : Option Transition). s ++ appended_by x) (sym is);
  }

  pub stays : (reply : Reply) → Answers limits (word_at limits word) call reply → Stays (lock limits) word call
  stays reply answers s next other holds step =
      (replied (record { appended = []; reply = reply }) s next other (answers s holds) step).1 ∙ append-nil s

  pub answered : (reply : LockReply) → Answers limits (word_at limits word) call (reply_as reply) →
      IsAnswered (lock limits) word call (OfLock reply) word
  answered reply answers = record {
    some = λ s holds. (
      s ++ [],
      (
        stepped (record { appended = []; reply = reply_as reply }) s (answers s holds),
        subst (λ (v : List LockEvent). Represents limits (word_at limits word) v) (sym (append-nil s)) holds,
      ),
    );
    only = λ s next other holds step. (
      (replied (record { appended = []; reply = reply_as reply }) s next other (answers s holds) step).0,
      subst (λ (v : List LockEvent). Represents limits (word_at limits word) v)
          (sym (stays (reply_as reply) answers s next other holds step)) holds,
    );
  }

  pub changed : (next : LockWord) (reply : LockReply) (bits : ℕ) →
      Changes limits (word_at limits word) call next (reply_as reply) → bits ≡ next.bits →
      IsAnswered (lock limits) word call (OfLock reply) bits
  changed next reply bits changes same = record {
    some = λ s holds. let moves = changes s holds in (
      s ++ moves.appended,
      (
        stepped (record { appended = moves.appended; reply = reply_as reply }) s moves.transition_is,
        there s holds,
      ),
    );
    only = λ s then other holds step. let moves = changes s holds in
        let its = replied (record { appended = moves.appended; reply = reply_as reply }) s then other
        moves.transition_is step in (
          its.0,
          subst (λ (v : List LockEvent). Represents limits (word_at limits bits) v) (sym its.1) (there s holds),
        );
  }
    where
      there : (s : List LockEvent) (holds : Represents limits (word_at limits word) s) →
          Represents limits (word_at limits bits) (s ++ (changes s holds).appended)
      there s holds = let moves = changes s holds in rw same (record {
        well_formed = moves.represented.well_formed;
        layout = refl;
        spelled = moves.represented.spelled;
      })
