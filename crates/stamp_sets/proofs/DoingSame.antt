-- Calls that do the same: releases of read mode by stamps of one version.
use Rattle.std.proofs.Common.{◌≡◌, ℕ, Bool, true, false, ◌+◌, ◌*◌, ◌≤◌, ◌==◌, Option}
use Rattle.std.proofs.Common.{[], refl, sym, ◌∙◌, ap, arith}
use Rattle.std.specs.Prelude.{MatchOption, ⊤, Some, None, ◌&&◌, ◌∷◌, nat_lt, if◌then◌else◌}
use Rattle.std.proofs.lemmas.Bool.Decides.{nat_tests}
use Rattle.std.proofs.lemmas.Bool.{false_from_ne_true}
use Rattle.stamp_core.specs.LockEvent.{Counts, counts}
use Rattle.stamp_core.specs.LockEvent.LockEvent.{ReadReleased, WriteReleased}
use Rattle.stamp_core.specs.Layout.{units_of, narrow, wide}
use Rattle.stamp_core.specs.Limits.{Bounds, units}
use Rattle.stamp_core.specs.Stamp.{is_held_read, is_held_write, is_read_stamp, is_write_stamp}
use Rattle.stamp_core.specs.Transition.{Transition, row, answer, change}
use Rattle.stamp_core.specs.declared.call.Call.{Call}
use Rattle.stamp_core.specs.declared.layout.Layout.{Layout}
use Rattle.stamp_core.specs.declared.layout.Layout.TheVariants.{One, Two}
use Rattle.stamp_core.specs.declared.reply.Reply.TheVariants.{Done, Mismatch}
use Rattle.stamp_runs.specs.LockRun.{DoSame}
use Rattle.stamp_sets.specs.inner.Alike.{IsReadOf, ReleasesRead}
use Rattle.stamp_sets.specs.inner.Alike.ReleasesRead.{by_unlock_read, by_unlock}
use Rattle.stamp_sets.proofs.Reading.{same_bits}

-- a read stamp is one of this version alone
read_here : (layout : Layout) (j k s : ℕ) → IsReadOf (units_of layout) k s →
    is_read_stamp (units_of layout) j s ≡ (j == k)
unfolding units_of
read_here One j k s is = same_bits (is_read_stamp narrow j s) (j == k) (λ h. grind (arith, nat_tests))
    (λ h. grind (arith, nat_tests))
  where
    some : 1 ≤ is.nth
    some = is.kind.0

    most : is.nth ≤ 127
    most = is.kind.1

    number : s ≡ 256 * (k + 1) + is.nth
    number = is.kind.3
read_here Two j k s is = same_bits (is_read_stamp wide j s) (j == k) (λ h. grind (arith, nat_tests))
    (λ h. grind (arith, nat_tests))
  where
    some : 1 ≤ is.nth
    some = is.kind.0

    most : is.nth ≤ 65535
    most = is.kind.1

    number : s ≡ 131072 * (k + 1) + is.nth
    number = is.kind.3

-- and no write stamp
not_write : (layout : Layout) (j k s : ℕ) → IsReadOf (units_of layout) k s →
    is_write_stamp (units_of layout) j s ≡ false
unfolding units_of
not_write One j k s is = false_from_ne_true (is_write_stamp narrow j s)
    (λ h. let at : s ≡ 256 * j + 128 = grind (arith, nat_tests) in omega (arith, at, some, most, number))
  where
    some : 1 ≤ is.nth
    some = is.kind.0

    most : is.nth ≤ 127
    most = is.kind.1

    number : s ≡ 256 * (k + 1) + is.nth
    number = is.kind.3
not_write Two j k s is = false_from_ne_true (is_write_stamp wide j s)
    (λ h. let at : s ≡ 131072 * j + 65536 = grind (arith, nat_tests) in omega (arith, at, some, most, number))
  where
    some : 1 ≤ is.nth
    some = is.kind.0

    most : is.nth ≤ 65535
    most = is.kind.1

    number : s ≡ 131072 * (k + 1) + is.nth
    number = is.kind.3

-- what a release of read mode by a stamp of this version does
abbrev released_row : Bool → Option Transition
released_row held = if held then change (ReadReleased ∷ []) Done else answer Mismatch

and_false : (b : Bool) → (b && false) ≡ false
and_false true = refl
and_false false = refl

release_row : (l : Bounds) (c : Counts) (k : ℕ) (call : Call) → ReleasesRead (units l) k call →
    row l c call ≡ released_row (nat_lt 0 c.readers && (c.write_count == k))
release_row l c k call (by_unlock_read s is) =
    ap (λ (here : Bool). released_row (nat_lt 0 c.readers && here)) (read_here l.layout c.write_count k s is)
release_row l c k call (by_unlock s is) =
    ap (λ (held : Bool). if held then change (WriteReleased ∷ []) Done
    else released_row (is_held_read (units l) c s)) free ∙
    ap (λ (here : Bool). released_row (nat_lt 0 c.readers && here)) (read_here l.layout c.write_count k s is)
  where
    free : is_held_write (units l) c s ≡ false
    free = ap (λ (b : Bool). (c.writers == 1) && b) (not_write l.layout c.write_count k s is) ∙ and_false
        (c.writers == 1)

pub releases_same : (l : Bounds) (k : ℕ) (call other : Call) → ReleasesRead (units l) k call →
    ReleasesRead (units l) k other → DoSame l call other
releases_same l k call other first second s = release_row l (counts s) k call first ∙
    sym (release_row l (counts s) k other second)

-- a call with a read stamp of some version releases it
pub some_released : (layout : Layout) (found : Option ℕ) (s : ℕ) (call : Call) →
    ((k : ℕ) → IsReadOf (units_of layout) k s → ReleasesRead (units_of layout) k call) →
    MatchOption found ⊤ (λ (k : ℕ). IsReadOf (units_of layout) k s) →
    MatchOption found ⊤ (λ (k : ℕ). ReleasesRead (units_of layout) k call)
some_released layout None s call does is = is
some_released layout (Some k) s call does is = does k is

-- what does the same gets the same
pub same_back : (l : Bounds) (call other : Call) → DoSame l call other → DoSame l other call
same_back l call other same s = sym (same s)
