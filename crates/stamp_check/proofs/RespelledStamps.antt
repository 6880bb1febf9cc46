-- What a stamp of layout 1 is respelled to, and which tests tell it from others in both layouts.
use Rattle.std.proofs.Common.{zero, suc, ◌≡◌, ◌⊎◌, ℕ, ◌+◌, ◌-◌, ◌*◌, ◌/◌, ◌%◌, ◌<◌, ◌≤◌, ◌==◌, refl}
use Rattle.std.proofs.Common.{sym, ◌∙◌, inl, inr, arith, Bool, true, false}
use Rattle.std.specs.Prelude.{if◌then◌else◌, ◌&&◌, nat_lt, nat_le}
use Rattle.std.proofs.lemmas.Bool.Decides.{nat_tests}
use Rattle.stamp_core.specs.Layout.{narrow, wide}
use Rattle.stamp_core.specs.Decoded.{counts_of}
use Rattle.stamp_core.specs.Stamp.{write_stamp, read_stamp, optimistic_stamp, IsWriteStamp, IsStamp}
use Rattle.stamp_core.specs.Stamp.{is_write_stamp, is_read_stamp}
use Rattle.stamp_core.specs.StampKind.{HasKind}
use Rattle.stamp_core.specs.Respelling.{if_version, IsRespelled}
use Rattle.stamp_core.specs.declared.stamps.StampKind.{StampKind}
use Rattle.stamp_core.specs.declared.stamps.StampKind.TheVariants.{Write, Read, Optimistic, Neither}
use Rattle.stamp_check.specs.Migration.{fits_layout_two, respelling}
use Rattle.stamp_check.specs.MigrationLaws.{RespellingIsOfStamps}

-- the write stamps of version k, in either layout
pub record AreWrites (k s t : ℕ) : Type 0 where
  pub some : 1 ≤ k
  pub most : k ≤ 70368744177662
  pub narrow_is : s ≡ 256 * k + 128
  pub wide_is : t ≡ 131072 * k + 65536

-- the stamps of version k with c readers, or of an optimistic read with none
pub record AreReads (k c s t : ℕ) : Type 0 where
  pub few : c ≤ 127
  pub most : k ≤ 70368744177662
  pub narrow_is : s ≡ 256 * (k + 1) + c
  pub wide_is : t ≡ 131072 * (k + 1) + c

-- no stamp of layout 1 whose version layout 2 has
pub record IsForeign (s t : ℕ) : Type 0 where
  pub none : (k : ℕ) → k ≤ 70368744177662 → IsStamp narrow k s → ⊥
  pub zero : t ≡ 0

pub data Respells (s t : ℕ) : Type 0 where
  writes : (k : ℕ) → AreWrites k s t → Respells s t
  reads : (k c : ℕ) → AreReads k c s t → Respells s t
  foreign : IsForeign s t → Respells s t

write_parts : (s : ℕ) → fits_layout_two s ≡ true → (s % 256 == 128) ≡ true → AreWrites (s / 256) s (respelling s)
unfolding respelling counts_of
write_parts s h e = record {
  some = grind (arith, nat_tests);
  most = grind (arith, nat_tests);
  narrow_is =
      grind (arith, nat_tests);
  wide_is = grind (arith, nat_tests);
}

read_parts : (s : ℕ) → fits_layout_two s ≡ true → (s % 256 == 128) ≡ false →
    AreReads (s / 256 - 1) (s % 256) s (respelling s)
unfolding respelling counts_of
read_parts s h e = record {
  few = grind (arith, nat_tests);
  most = grind (arith, nat_tests);
  narrow_is =
      grind (arith, nat_tests);
  wide_is = grind (arith, nat_tests);
}

no_write : (s k : ℕ) → fits_layout_two s ≡ false → k ≤ 70368744177662 → IsWriteStamp narrow k s → ⊥
unfolding counts_of
no_write s k h most w = let some = w.some in let e = w.number in grind (arith, nat_tests)

no_read : (s k c : ℕ) → fits_layout_two s ≡ false → k ≤ 70368744177662 → c ≤ 127 → s ≡ 256 * (k + 1) + c → ⊥
unfolding counts_of
no_read s k c h most few e = grind (arith, nat_tests)

foreign_parts : (s : ℕ) → fits_layout_two s ≡ false → IsForeign s (respelling s)
unfolding respelling
foreign_parts s h = record { none = none; zero = rw h refl }
  where
    none : (k : ℕ) → k ≤ 70368744177662 → IsStamp narrow k s → ⊥
    none k most (inl w) = no_write s k h most w
    none k most (inr (inl r)) = no_read s k r.nth h most r.most r.number
    none k most (inr (inr o)) = no_read s k 0 h most (omega arith) (omega (arith, o.number))

pub respells : (s : ℕ) → Respells s (respelling s)
respells s = by (fits_layout_two s) (s % 256 == 128) refl refl
  where
    by : (b w : Bool) → fits_layout_two s ≡ b → (s % 256 == 128) ≡ w → Respells s (respelling s)
    by true true h e = writes (s / 256) (write_parts s h e)
    by true false h e = let r = read_parts s h e in reads (s / 256 - 1) (s % 256) r
    by false w h e = foreign (foreign_parts s h)

-- the stamps of the lock's own
pub respelled_write : (s k : ℕ) → 1 ≤ k → k ≤ 70368744177662 → s ≡ 256 * k + 128 → respelling s ≡ 131072 * k + 65536
respelled_write s k some most e = by (respelling s) (respells s)
  where
    by : (t : ℕ) → Respells s t → t ≡ 131072 * k + 65536
    by t (writes j w) = omega (arith, w.narrow_is, w.wide_is)
    by t (reads j c r) = absurd (omega (arith, r.few, r.narrow_is))
    by t (foreign f) = absurd (f.none k most (inl (record { some = some; most = omega arith; number = e })))

pub respelled_read : (s k c : ℕ) → c ≤ 127 → k ≤ 70368744177662 → s ≡ 256 * (k + 1) + c → respelling s ≡
    131072 * (k + 1) + c
respelled_read s k c few most e = by (respelling s) (respells s)
  where
    a_stamp : (d : ℕ) → c ≡ d → IsStamp narrow k s
    a_stamp zero same = inr (inr (record { version = omega arith; number = omega arith }))
    a_stamp (suc d) same = inr (inl (record {
      nth = c;
      some = omega arith;
      most = omega arith;
      version =
          omega arith;
      number = e;
    }))

    by : (t : ℕ) → Respells s t → t ≡ 131072 * (k + 1) + c
    by t (writes j w) = absurd (omega (arith, w.narrow_is))
    by t (reads j d r) = omega (arith, r.few, r.narrow_is, r.wide_is)
    by t (foreign f) = absurd (f.none k most (a_stamp c refl))

pub respelled_foreign : (s : ℕ) → ((k : ℕ) → k ≤ 70368744177662 → IsStamp narrow k s → ⊥) → respelling s ≡ 0
respelled_foreign s none = by (respelling s) (respells s)
  where
    by : (t : ℕ) → Respells s t → t ≡ 0
    by t (writes k w) = absurd (none k w.most
        (inl (record { some = w.some; most = omega (arith, w.most); number = w.narrow_is })))
    by t (reads k c r) = at c refl
      where
        at : (d : ℕ) → c ≡ d → t ≡ 0
        at zero same = absurd (none k r.most (inr
            (inr (record { version = omega (arith, r.most); number = omega (arith, r.narrow_is) }))))
        at (suc d) same = absurd (none k r.most
            (inr (inl (record {
              nth = c;
              some = omega arith;
              most = r.few;
              version = omega (arith, r.most);
              number =
                  r.narrow_is;
            }))))
    by t (foreign f) = f.zero

pub respelled_zero : respelling 0 ≡ 0
unfolding respelling
respelled_zero = refl

low : (k s : ℕ) → IsStamp narrow k s → 256 * k + 128 ≤ s
low k s (inl w) = omega (arith, w.number)
low k s (inr (inl r)) = omega (arith, r.number)
low k s (inr (inr o)) = omega (arith, o.number)

high : (k s : ℕ) → IsStamp narrow k s → s ≤ 256 * k + 383
high k s (inl w) = omega (arith, w.number)
high k s (inr (inl r)) = omega (arith, r.number, r.most)
high k s (inr (inr o)) = omega (arith, o.number)

far : (s k : ℕ) → 70368744177662 < k → IsStamp narrow k s → respelling s ≡ 0
far s k above stamp = respelled_foreign s (λ j most other. let a = low k s stamp in let b = high j s other in
    omega arith)

if_version_is : (k s t : ℕ) → (k ≤ 70368744177662 → t ≡ s) → (70368744177662 < k → t ≡ 0) → t ≡ if_version k s
if_version_is k s t near beyond = by (nat_le k 70368744177662) refl
  where
    by : (b : Bool) → nat_le k 70368744177662 ≡ b → t ≡ (if b then s else 0)
    by true h = near (grind (arith, nat_tests))
    by false h = beyond (grind (arith, nat_tests))

pub respelling_is_of_stamps : RespellingIsOfStamps
respelling_is_of_stamps s (Write k) w = if_version_is k (write_stamp wide k) (respelling s)
    (λ most. respelled_write s k w.some most w.number) (λ beyond. far s k beyond (inl w))
respelling_is_of_stamps s (Read k c) r =
    if_version_is k (read_stamp wide k c) (respelling s) (λ most. respelled_read s k c r.1 most r.3)
    (λ beyond. far s k beyond (inr (inl (record { nth = c; some = r.0; most = r.1; version = r.2; number = r.3 }))))
respelling_is_of_stamps s (Optimistic k) o = if_version_is k (optimistic_stamp wide k) (respelling s)
    (λ most. let r : respelling s ≡ 131072 * (k + 1) + 0 =
    respelled_read s k 0 (omega arith) most (omega (arith, o.number)) in omega arith)
    (λ beyond. far s k beyond (inr (inr o)))
respelling_is_of_stamps s Neither none = respelled_foreign s (λ k most stamp. none k stamp)

-- each number is of some kind
write_number : (s : ℕ) → (nat_le 256 s && nat_lt s 9223372036854775680) ≡ true → (s % 256 == 128) ≡ true →
    HasKind narrow s (Write (s / 256))
write_number s h e = record {
  some = grind (arith, nat_tests);
  most = grind (arith, nat_tests);
  number =
      grind (arith, nat_tests);
}

optimistic_number : (s : ℕ) → (nat_le 256 s && nat_lt s 9223372036854775680) ≡ true → s % 256 ≡ 0 →
    HasKind narrow s (Optimistic (s / 256 - 1))
optimistic_number s h e = record { version = grind (arith, nat_tests); number = grind (arith, nat_tests) }

read_number : (s : ℕ) → (nat_le 256 s && nat_lt s 9223372036854775680) ≡ true → 1 ≤ s % 256 → s % 256 < 128 →
    HasKind narrow s (Read (s / 256 - 1) (s % 256))
read_number s h some few = (omega arith, omega arith, grind (arith, nat_tests), grind (arith, nat_tests))

beyond : (s : ℕ) → (nat_le 256 s && nat_lt s 9223372036854775680) ≡ false → 256 ≤ s → s < 9223372036854775680 → ⊥
beyond s h low high = grind (arith, nat_tests)

no_number : (s : ℕ) → (nat_le 256 s && nat_lt s 9223372036854775680) ≡ false → HasKind narrow s Neither
no_number s h k (inl w) = let some = w.some in let most = w.most in let e = w.number in
    beyond s h (omega arith) (omega arith)
no_number s h k (inr (inl r)) = let e = r.number in let few = r.most in let most = r.version in
    beyond s h (omega arith) (omega arith)
no_number s h k (inr (inr o)) = let e = o.number in let most = o.version in beyond s h (omega arith) (omega arith)

no_kind : (s : ℕ) → 128 < s % 256 → HasKind narrow s Neither
no_kind s far k (inl w) = let e = w.number in omega arith
no_kind s far k (inr (inl r)) = let e = r.number in let few = r.most in omega arith
no_kind s far k (inr (inr o)) = let e = o.number in omega arith

some_kind : (s : ℕ) → (kind : StampKind) × HasKind narrow s kind
some_kind s = by (nat_le 256 s && nat_lt s 9223372036854775680) refl (rests (s % 256))
  where
    rests : (m : ℕ) → (m ≡ 128) ⊎ (m ≡ 0) ⊎ ((1 ≤ m) × (m < 128)) ⊎ (128 < m)
    rests m = grind arith

    by : (b : Bool) → (nat_le 256 s && nat_lt s 9223372036854775680) ≡ b → (s % 256 ≡ 128) ⊎ (s % 256 ≡ 0) ⊎
        ((1 ≤ s % 256) × (s % 256 < 128)) ⊎ (128 < s % 256) → (kind : StampKind) × HasKind narrow s kind
    by false h rest = (Neither, no_number s h)
    by true h (inl writer) = (Write (s / 256), write_number s h (grind (arith, nat_tests)))
    by true h (inr (inl none)) = (Optimistic (s / 256 - 1), optimistic_number s h none)
    by true h (inr (inr (inl some))) = (Read (s / 256 - 1) (s % 256), read_number s h some.0 some.1)
    by true h (inr (inr (inr far))) = (Neither, no_kind s far)

-- so there is one number that it is respelled to
pub one_respelling : (s t : ℕ) → IsRespelled s t → t ≡ respelling s
one_respelling s t is = let kind = some_kind s in is kind.0 kind.1 ∙ sym (respelling_is_of_stamps s kind.0 kind.1)

-- two tests that follow from one another
same_test : (a b : Bool) → (a ≡ true → b ≡ true) → (b ≡ true → a ≡ true) → a ≡ b
same_test true true f g = refl
same_test true false f g = sym (f refl)
same_test false true f g = g refl
same_test false false f g = refl

-- the tests tell a stamp and what it is respelled to alike
pub record TestsAgree (k s t : ℕ) : Type 0 where
  pub write : is_write_stamp wide k t ≡ is_write_stamp narrow k s
  pub read : is_read_stamp wide k t ≡ is_read_stamp narrow k s
  pub optimistic : (t == optimistic_stamp wide k) ≡ (s == optimistic_stamp narrow k)

writes_agree : (k j s t : ℕ) → s ≡ 256 * j + 128 → t ≡ 131072 * j + 65536 → TestsAgree k s t
writes_agree k j s t e f = record {
  write = grind (arith, nat_tests);
  read = grind (arith, nat_tests);
  optimistic =
      grind (arith, nat_tests);
}

reads_agree : (k j c s t : ℕ) → c ≤ 127 → s ≡ 256 * (j + 1) + c → t ≡ 131072 * (j + 1) + c → TestsAgree k s t
reads_agree k j c s t few e f = record {
  write = grind (arith, nat_tests);
  read = grind (arith, nat_tests);
  optimistic = grind (arith, nat_tests);
}

foreign_agrees : (k s t : ℕ) → k ≤ 70368744177662 → IsForeign s t → TestsAgree k s t
foreign_agrees k s t most f =
    let zero = f.zero in
    record {
      write = same_test (is_write_stamp wide k t) (is_write_stamp narrow k s)
          (λ h. absurd (grind (arith, nat_tests)))
          (λ h. absurd (f.none k most (inl (record
          { some = grind (arith, nat_tests); most = omega arith; number = grind (arith, nat_tests) }))));
      read = same_test (is_read_stamp wide k t) (is_read_stamp narrow k s) (λ h. absurd (grind (arith, nat_tests)))
          (λ h. absurd (f.none k most (inr (inl
          (record {
            nth = s - 256 * (k + 1);
            some = grind (arith, nat_tests);
            most = grind (arith, nat_tests);
            version = omega arith;
            number = grind (arith, nat_tests);
          })))));
      optimistic = same_test (t == optimistic_stamp wide k) (s == optimistic_stamp narrow k)
          (λ h. absurd (grind (arith, nat_tests)))
          (λ h. absurd (f.none k most (inr (inr
          (record { version = omega arith; number = grind (arith, nat_tests) })))));
    }

pub tests_agree : (k s : ℕ) → k ≤ 70368744177662 → TestsAgree k s (respelling s)
tests_agree k s most = by (respelling s) (respells s)
  where
    by : (t : ℕ) → Respells s t → TestsAgree k s t
    by t (writes j w) = writes_agree k j s t w.narrow_is w.wide_is
    by t (reads j c r) = reads_agree k j c s t r.few r.narrow_is r.wide_is
    by t (foreign f) = foreign_agrees k s t most f
