-- Lock and record by their transitions: state, call and reply, next state.
use Rattle.std.specs.Prelude.{ℕ, ◌≡◌, ◌++◌, true, false, List, [], ◌∷◌}
use Rattle.stamp_core.specs.LockEvent.{LockEvent}
use Rattle.stamp_core.specs.Call.{is_lock_call}
use Rattle.stamp_core.specs.Limits.{Bounds}
use Rattle.stamp_core.specs.Content.{content_next, RecordReplies}
use Rattle.stamp_core.specs.Transition.{transition}
use Rattle.stamp_core.specs.History.{History, IsReply, Replies, appended_by}
use Rattle.stamp_core.specs.declared.call.Call.{Call}
use Rattle.stamp_core.specs.declared.reply.Reply.{Reply}

-- the calls have these replies, one after the other from this state on
abbrev pub Runs : {S : Type 0} → (S → Call × Reply → S → Type 0) → S → History → Type 0
Runs Goes s [] = Unit {0}
Runs {S} Goes s (x ∷ xs) = (t : S) × (Goes s x t × Runs Goes t xs)

-- lock and record by their transitions: the events so far and the content
abbrev pub LockState : Type 0
LockState = List LockEvent × List ℕ

abbrev pub after_call : Bounds → LockState → Call × Reply → LockState
after_call limits s x = (s.0 ++ appended_by (transition limits s.0 x.0), content_next s.1 x.0 x.1)

pub record StateTransition (limits : Bounds) (s : LockState) (x : Call × Reply) (t : LockState) : Type 0 where
  pub replies : IsReply limits s.0 s.1 x.0 x.1
  pub next : t ≡ after_call limits s x

-- the lock alone, and the record alone
pub record LockAlone (limits : Bounds) (events : List LockEvent) (x : Call × Reply) (next : List LockEvent) : Type 0
  where
    pub lock : is_lock_call x.0 ≡ true
    pub replies : Replies (transition limits events x.0) x.1
    pub appends : next ≡ events ++ appended_by (transition limits events x.0)

pub record RecordAlone (content : List ℕ) (x : Call × Reply) (next : List ℕ) : Type 0 where
  pub guarded : is_lock_call x.0 ≡ false
  pub replies : RecordReplies content x.0 x.1
  pub leaves : next ≡ content_next content x.0 x.1
