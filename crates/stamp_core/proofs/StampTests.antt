-- The tests of stamps are their relations.
use Rattle.std.proofs.Common.{◌≡◌, ◌⊎◌, ℕ, ◌-◌, ◌≤◌, ◌==◌, inl, inr, arith, true}
use Rattle.std.specs.Prelude.{◌||◌, nat_lt}
use Rattle.std.proofs.lemmas.Bool.Decides.{nat_tests}
use Rattle.std.proofs.lemmas.Bool.{and_parts, and_from, or_cases, or_left, or_right}
use Rattle.std.proofs.lemmas.Bool.{eqb-true, eq-eqb, ltb-true, lt-ltb}
use Rattle.stamp_core.specs.LockEvent.{counts}
use Rattle.stamp_core.specs.Layout.{Units}
use Rattle.stamp_core.specs.Limits.{units}
use Rattle.stamp_core.specs.IsWellFormed.{CountsAreWithin}
use Rattle.stamp_core.specs.Stamp.{optimistic_stamp, IsWriteStamp, IsReadStamp, IsStamp}
use Rattle.stamp_core.specs.Stamp.{IsHeldWrite, IsHeldRead, IsValid, is_write_stamp, is_read_stamp}
use Rattle.stamp_core.specs.Stamp.{is_stamp, is_valid, is_held_write, is_held_read}
use Rattle.stamp_core.specs.Laws.{TestsAreExact}
use Rattle.stamp_core.proofs.WellFormedPush.{obeys_now}

write_of : (u : Units) (k s : ℕ) → k ≤ u.versions → is_write_stamp u k s ≡ true → IsWriteStamp u k s
write_of u k s most h = record { some = grind (arith, nat_tests); most = most; number = grind (arith, nat_tests) }

of_write : (u : Units) (k s : ℕ) → IsWriteStamp u k s → is_write_stamp u k s ≡ true
of_write u k s w = let some = w.some in let e = w.number in grind (arith, nat_tests)

read_of : (u : Units) (k s : ℕ) → k ≤ u.versions → is_read_stamp u k s ≡ true → IsReadStamp u k s
read_of u k s most h = record {
  nth = s - optimistic_stamp u k;
  some = grind (arith, nat_tests);
  most =
      grind (arith, nat_tests);
  version = most;
  number = grind (arith, nat_tests);
}

of_read : (u : Units) (k s : ℕ) → IsReadStamp u k s → is_read_stamp u k s ≡ true
of_read u k s r = let some = r.some in let few = r.most in let e = r.number in grind (arith, nat_tests)

stamp_of : (u : Units) (k s : ℕ) → k ≤ u.versions → is_stamp u k s ≡ true → IsStamp u k s
stamp_of u k s most h = by (or_cases (is_write_stamp u k s || is_read_stamp u k s) (s == optimistic_stamp u k) h)
  where
    by_first : (is_write_stamp u k s ≡ true) ⊎ (is_read_stamp u k s ≡ true) → IsStamp u k s
    by_first (inl w) = inl (write_of u k s most w)
    by_first (inr r) = inr (inl (read_of u k s most r))

    by : ((is_write_stamp u k s || is_read_stamp u k s) ≡ true) ⊎ ((s == optimistic_stamp u k) ≡ true) → IsStamp u k s
    by (inl first) = by_first (or_cases (is_write_stamp u k s) (is_read_stamp u k s) first)
    by (inr o) = inr (inr (record { version = most; number = grind (arith, nat_tests) }))

of_stamp : (u : Units) (k s : ℕ) → IsStamp u k s → is_stamp u k s ≡ true
of_stamp u k s (inl w) = let h = of_write u k s w in grind (arith, nat_tests)
of_stamp u k s (inr (inl r)) = let h = of_read u k s r in grind (arith, nat_tests)
of_stamp u k s (inr (inr o)) = let e = o.number in grind (arith, nat_tests)

pub tests_are_exact : TestsAreExact
tests_are_exact limits events s range well_formed =
    ((valid_of, of_valid), (write_held, of_write_held), (read_held, of_read_held))
  where
    within : CountsAreWithin limits (counts events)
    within = (obeys_now limits events well_formed).within

    most : (counts events).write_count ≤ (units limits).versions
    most = omega (arith, within.versions, range.versions)

    free_or : (((counts events).writers == 0) ≡ true) ⊎
        (is_write_stamp (units limits) (counts events).write_count s ≡ true) → ((counts events).writers ≡ 0) ⊎
        IsWriteStamp (units limits) (counts events).write_count s
    free_or (inl z) = inl (eqb-true (counts events).writers 0 z)
    free_or (inr w) = inr (write_of (units limits) (counts events).write_count s most w)

    valid_of : is_valid (units limits) (counts events) s ≡ true → IsValid limits events s
    valid_of h = let parts = and_parts (is_stamp (units limits) (counts events).write_count s)
        (((counts events).writers == 0) || is_write_stamp (units limits) (counts events).write_count s) h in (
          stamp_of (units limits) (counts events).write_count s most parts.0,
          free_or (or_cases ((counts events).writers == 0)
              (is_write_stamp (units limits) (counts events).write_count s) parts.1),
        )

    or_free : ((counts events).writers ≡ 0) ⊎ IsWriteStamp (units limits) (counts events).write_count s →
        (((counts events).writers == 0) || is_write_stamp (units limits) (counts events).write_count s) ≡ true
    or_free (inl z) = or_left ((counts events).writers == 0)
        (is_write_stamp (units limits) (counts events).write_count s) (eq-eqb (counts events).writers 0 z)
    or_free (inr w) = or_right ((counts events).writers == 0)
        (is_write_stamp (units limits) (counts events).write_count s)
        (of_write (units limits) (counts events).write_count s w)

    of_valid : IsValid limits events s → is_valid (units limits) (counts events) s ≡ true
    of_valid v = and_from (is_stamp (units limits) (counts events).write_count s)
        (((counts events).writers == 0) || is_write_stamp (units limits) (counts events).write_count s)
        (of_stamp (units limits) (counts events).write_count s v.0) (or_free v.1)

    write_held : is_held_write (units limits) (counts events) s ≡ true → IsHeldWrite limits events s
    write_held h = let parts = and_parts ((counts events).writers == 1)
        (is_write_stamp (units limits) (counts events).write_count s) h in (
          write_of (units limits) (counts events).write_count s most parts.1,
          eqb-true (counts events).writers 1 parts.0,
        )

    read_held : is_held_read (units limits) (counts events) s ≡ true → IsHeldRead limits events s
    read_held h = let parts = and_parts (nat_lt 0 (counts events).readers)
        (is_read_stamp (units limits) (counts events).write_count s) h in (
          read_of (units limits) (counts events).write_count s most parts.1,
          ltb-true 0 (counts events).readers parts.0,
        )

    of_write_held : IsHeldWrite limits events s → is_held_write (units limits) (counts events) s ≡ true
    of_write_held w = and_from ((counts events).writers == 1)
        (is_write_stamp (units limits) (counts events).write_count s) (eq-eqb (counts events).writers 1 w.1)
        (of_write (units limits) (counts events).write_count s w.0)

    of_read_held : IsHeldRead limits events s → is_held_read (units limits) (counts events) s ≡ true
    of_read_held r = and_from (nat_lt 0 (counts events).readers)
        (is_read_stamp (units limits) (counts events).write_count s) (lt-ltb 0 (counts events).readers r.1)
        (of_read (units limits) (counts events).write_count s r.0)
