-- What is known of a call that is tried until a time is over.
use Rattle.std.specs.Prelude.{◌≡◌, ℕ, ◌++◌, replicate}
use mathlib.Core.List.{IsPrefix}
use Rattle.lent_table.specs.Table.{none}
use Rattle.stamp_core.specs.declared.call.Call.{Call}
use Rattle.stamp_core.specs.declared.reply.Reply.{Reply}
use Rattle.stamp_core.specs.declared.reply.Reply.TheVariants.{Stamp}
use Rattle.stamp_threads.specs.PassView.{IsSamePass}
use Rattle.stamped_value.specs.declared.view.Held.TheVariants.{Free}
use Rattle.stamped_value.specs.ValueMade.{Seen}
use Rattle.stamped_value.specs.ValueLock.{ValueToken}
use Rattle.stamped_value.specs.ValueCalls.{Calls}

module _ {T : Type 0} where
  -- it holds no mode, and has nothing of the value
  abbrev pub HoldsNothing : Seen T → Type 0
  HoldsNothing v = (v.0.held ≡ Free) × (v.1 ≡ none)

  -- The token has made this call some times, and no other: each was answered that the mode isn't free. It knows all
  -- that it knew, and holds nothing
  pub record NotFree (call : Call) (a b : ValueToken T) : Type 0 where
    pub lock : b.lock ≡ a.lock
    pub begins : IsPrefix a.me.0.pass.known b.me.0.pass.known
    pub values : IsPrefix a.me.0.values b.me.0.values
    pub times : ℕ
    pub own : b.me.0.pass.own ≡ a.me.0.pass.own ++ replicate times (call, Stamp 0)
    pub same_pass : IsSamePass a.me.0.pass b.me.0.pass
    pub nothing : HoldsNothing b.me

  -- and then once more, with this reply
  pub record TriedAtLast (call : Call) (reply : Reply) (a b : ValueToken T) : Type 0 where
    pub between : ValueToken T
    pub before : NotFree call a between
    pub made : Calls call reply between b
