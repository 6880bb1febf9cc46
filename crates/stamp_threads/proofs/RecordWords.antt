-- Lock words of a record, in either layout. Each fact is shown for both layouts by their numbers.
use Rattle.std.proofs.Common.{◌≡◌, ℕ, ◌+◌, ◌-◌, ◌^◌, ◌%◌, ◌/◌, ◌<◌, ◌≤◌, Bool, true, false, refl}
use Rattle.std.proofs.Common.{true≢false, arith, eqb, eq-eqb, ne_eqb, if◌then◌else◌}
use Rattle.stamp_core.specs.Layout.{units_of}
use Rattle.stamp_core.specs.Limits.{Bounds, AreInRange}
use Rattle.stamp_core.specs.declared.layout.Layout.{Layout}
use Rattle.stamp_core.specs.declared.layout.Layout.TheVariants.{One, Two}
use Rattle.stamp_threads.specs.RecordWord.{writer_unit, word_with}
use Rattle.stamp_threads.specs.inner.RecordWord.{version_unit}

-- the word of a record that is not locked tells so, and its puts
pub free_of : (l : Layout) (b : Bool) (p n : ℕ) → word_with l n false ≡ word_with l p b →
    (b ≡ false) × (p ≡ n)
unfolding units_of
free_of One true p n e = absurd (omega arith)
free_of One false p n e = (refl, omega arith)
free_of Two true p n e = absurd (omega arith)
free_of Two false p n e = (refl, omega arith)

pub same_word : (l : Layout) (p q : ℕ) (b c : Bool) → p ≡ q → b ≡ c →
    word_with l p b ≡ word_with l q c
same_word l p q b c e f = λ i. word_with l (e i) (f i)

-- getting write mode, and releasing it
pub held_is : (l : Layout) (p : ℕ) → word_with l p true ≡ word_with l p false + writer_unit l
unfolding units_of
held_is One p = omega arith
held_is Two p = omega arith

pub released_is : (l : Layout) (p : ℕ) →
    word_with l (p + 1) false ≡ word_with l p true + writer_unit l
unfolding units_of
released_is One p = omega arith
released_is Two p = omega arith

tells_true : (l : Layout) (p : ℕ) → word_with l p true % version_unit l ≡ writer_unit l
unfolding units_of
tells_true One p = omega arith
tells_true Two p = omega arith

tells_false : (l : Layout) (p : ℕ) {A : Type 0} →
    word_with l p false % version_unit l ≡ writer_unit l → A
unfolding units_of
tells_false One p e = absurd (omega arith)
tells_false Two p e = absurd (omega arith)

-- the code's test tells whether write mode is held
pub held_test : (l : Layout) (b : Bool) (word p : ℕ) → word ≡ word_with l p b →
    eqb (word % version_unit l) (writer_unit l) ≡ b
held_test l true word p is = eq-eqb _ _ (rw is (tells_true l p))
held_test l false word p is = ne_eqb _ _ (λ e.
    let f : word_with l p false % version_unit l ≡ writer_unit l = rw (← is) e in
    tells_false l p f)

puts_false : (l : Layout) (p : ℕ) → word_with l p false / version_unit l ≡ p + 1
unfolding units_of
puts_false One p = omega arith
puts_false Two p = omega arith

-- the code's count of the write acquisitions
abbrev pub writes_in : Layout → ℕ → ℕ
writes_in l word = if eqb (word % version_unit l) (writer_unit l) then word / version_unit l
    else word / version_unit l - 1

-- where nobody has write mode, these are the puts
pub puts_of : (l : Layout) (b : Bool) (word p : ℕ) → word ≡ word_with l p b → b ≡ false → writes_in l word ≡ p
puts_of l true word p is e = absurd (true≢false e)
puts_of l false word p is e =
    let free = held_test l false word p is in
    let all : word / version_unit l ≡ p + 1 = rw is (puts_false l p) in
    rw free (omega arith)

by_layout : (l : Layout) (b : Bool) (word p versions : ℕ) → word ≡ word_with l p b →
    p ≤ versions → versions ≤ (units_of l).versions → word < 2 ^ 63
unfolding units_of
by_layout One true word p versions is few room = omega arith
by_layout One false word p versions is few room = omega arith
by_layout Two true word p versions is few room = omega arith
by_layout Two false word p versions is few room = omega arith

pub word_small : (limits : Bounds) (b : Bool) (word p : ℕ) → AreInRange limits →
    word ≡ word_with limits.layout p b → p ≤ limits.versions → word < 2 ^ 63
word_small limits b word p range is few =
    by_layout limits.layout b word p limits.versions is few range.versions

pub word_large : (l : Layout) (b : Bool) (word p : ℕ) → word ≡ word_with l p b → version_unit l ≤ word
unfolding units_of
word_large One true word p is = omega arith
word_large One false word p is = omega arith
word_large Two true word p is = omega arith
word_large Two false word p is = omega arith

pub unit_small : (l : Layout) → writer_unit l ≤ 65536
unfolding units_of
unit_small One = omega arith
unit_small Two = omega arith
