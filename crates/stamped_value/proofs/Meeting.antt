-- A load beside another seat keeps the rule, where the seat comes to know all, or just what the other does.
use Rattle.std.proofs.Common.{Bool, ◌≡◌, ℕ, List, [], refl}
use mathlib.Core.Option.{some}
use mathlib.Core.List.{IsPrefix}
use lib.ListN.{get_elem?}
use Rattle.lent_table.specs.Table.{State, LearnsBeside, stepped, stays}
use Rattle.stamp_core.specs.Limits.{Bounds}
use Rattle.stamp_core.specs.LockEvent.{counts}
use Rattle.stamp_core.specs.declared.reply.Reply.TheVariants.{Done}
use Rattle.stamp_threads.specs.PassView.{IsPart, every}
use Rattle.stamp_threads.specs.inner.PassView.{knowing}
use Rattle.stamp_threads.specs.LockLog.{LockLog, events_after}
use Rattle.stamp_threads.proofs.Beginnings.{begins_all}
use Rattle.stamped_value.specs.declared.view.ValueView.{ValueView}
use Rattle.stamped_value.specs.declared.view.Held.TheVariants.{Free}
use Rattle.stamped_value.specs.ValueMade.{Seen}
use Rattle.stamped_value.specs.inner.VersionRule.{IsKept, Fits, MeetTells, FollowTells}
use Rattle.stamped_value.proofs.HeldCounts.{counted_still}
use Rattle.stamped_value.proofs.Passing.{part_now, knows_part, names_apart}
use Rattle.stamped_value.proofs.Seats.{after_one}

module _ {T : Type 0} {enterable : Bool} {first : T} (limits : Bounds) where
  module _ (s : State T (ValueView T)) (r : IsKept enterable limits first s) where
    part_of : (id : ℕ) (v : ValueView T) → get_elem? s.views id ≡ some v → IsPart every r.log v.pass
    part_of = part_now limits r.log r.roots s.views r.legal r.passes

    -- the seat, where it knows just this much
    module _ (id : ℕ) (v : ValueView T) (at : get_elem? s.views id ≡ some v) (known : LockLog) (values : List T) where
      abbrev told : ValueView T
      told = record { pass = knowing v.pass known; values = values; held = v.held }

      keeps : IsPrefix known r.log → Fits limits r.log r.values told →
          IsKept enterable limits first (stepped s s.word id told stays)
      keeps begins fits =
          let part = part_of id v at in
          let counted = counted_still (λ (u : ValueView T). u.held) limits (counts (events_after limits r.log)) s.views
          r.readers_are r.writers_are id v told at [] Done tt refl in
          record {
            log = r.log;
            values = r.values;
            roots = r.roots;
            one_root = r.one_root;
            legal = r.legal;
            represents = r.represents;
            passes = knows_part limits r.log r.roots s.views r.legal r.passes id v at told
                (record { known = begins; own = part.own; given = part.given })
                (record { name = refl; splits = refl });
            are = r.are;
            opens = r.opens;
            home = r.home;
            fits = after_one (Fits limits r.log r.values) s.views id told fits (λ k u _ h. r.fits k u h);
            readers_are = counted.0;
            writers_are = counted.1;
          }

  module _ (id : ℕ) (me : Seen T) (other : ℕ) (u : ValueView T) where
    pub meets : LearnsBeside (IsKept enterable limits first) id me other u (λ _ w. MeetTells limits u me w)
    meets s f beside =
        let r = f.rule in let own = r.fits id me.0 f.view in let part = part_of s r id me.0 f.view in (
          told s r id me.0 f.view r.log r.values,
          keeps s r id me.0 f.view r.log r.values (begins_all r.log)
              (record { begins = begins_all r.values; matches = own.matches; all = λ _. refl }),
          record {
            pass = refl;
            legal = r.legal;
            parts = (part, part_of s r other u beside.1);
            apart = names_apart limits r.log r.roots s.views r.legal r.passes id me.0 f.view other u beside.1 beside.0;
            begin = (own.begins, (r.fits other u beside.1).begins);
            are = r.are;
            same = (refl, refl);
          },
        )

    pub follows : me.0.held ≡ Free →
        LearnsBeside (IsKept enterable limits first) id me other u (λ _ w. FollowTells u me w)
    follows free s f beside =
        let r = f.rule in let own = r.fits id me.0 f.view in let theirs = r.fits other u beside.1 in (
          told s r id me.0 f.view u.pass.known u.values,
          keeps s r id me.0 f.view u.pass.known u.values (part_of s r other u beside.1).known
              (record { begins = theirs.begins; matches = own.matches; all = λ holds. absurd (holds free) }),
          refl,
        )
