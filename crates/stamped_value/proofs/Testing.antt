-- Sections in write mode where a test holds: the value that is written is the one that was tested.
use Rattle.std.proofs.Common.{◌≡◌, ℕ, refl, ◌∙◌, subst}
use Rattle.lent_table.specs.Table.{Hold, reads, writes}
use Rattle.stamp_core.specs.declared.call.Call.TheVariants.{UnlockWrite}
use Rattle.stamp_core.specs.declared.reply.Reply.TheVariants.{Done}
use Rattle.stamped_value.specs.Values.{IsLastOf}
use Rattle.stamped_value.specs.ValueMade.{Seen}
use Rattle.stamped_value.specs.ValueLock.{ValueLock, ValueToken}
use Rattle.stamped_value.specs.ValueCalls.{Calls}
use Rattle.stamped_value.specs.Outcomes.{WritesWhatRead, LeavesWhatWritten}
use Rattle.stamped_value.specs.Sections.{EndsWriting}
use Rattle.stamped_value.specs.inner.ValueLock.{token}

module _ {T : Type 0} where
  pub one_written : (hold : Hold T) (x y : T) → hold ≡ writes x → hold ≡ writes y → x ≡ y
  one_written hold x y a b = cc

  one_read : (hold : Hold T) (x y : T) → hold ≡ reads x → hold ≡ reads y → x ≡ y
  one_read hold x y a b = cc

  -- an upgrade keeps the value that was read
  pub still_same : (v w : Seen T) (x y : T) → WritesWhatRead v w → v.1 ≡ reads x → w.1 ≡ writes y → y ≡ x
  still_same v w x y kept read written =
      one_written w.1 y kept.0 written kept.2 ∙ one_read v.1 kept.0 x kept.1 read

  module _ {Test : T → Type 0} (stamp : ℕ) (lock : ValueLock T) (v : Seen T) (b : ValueToken T) (x : T)
      (has : v.1 ≡ writes x) (test : Test x) where
    -- the closure wrote the value that was tested
    pub ends_tested : {Write : T → T → Type 0} → EndsWriting Write stamp (token lock v) b →
        EndsWriting (λ x y. Test x × Write x y) stamp (token lock v) b
    ends_tested ends = record {
      found = ends.found;
      has = ends.has;
      last = ends.last;
      left = ends.left;
      written = (subst Test (one_written v.1 x ends.found has ends.has) test, ends.written);
      released = ends.released;
      leaves = ends.leaves;
    }

    -- it was left as it was found
    pub ends_unwritten : IsLastOf v.0.values x → Calls (UnlockWrite stamp) Done (token lock v) b →
        LeavesWhatWritten v b.me → EndsWriting (λ x y. Test x × (y ≡ x)) stamp (token lock v) b
    ends_unwritten last released leaves = record {
      found = x;
      has = has;
      last = last;
      left = x;
      written = (test, refl);
      released = subst (λ (h : Hold T). Calls (UnlockWrite stamp) Done (token lock (v.0, h)) b) has released;
      leaves = subst (IsLastOf b.me.0.values) (one_written v.1 leaves.0 x leaves.1 has) leaves.2;
    }
