-- The reads or writes of a call so far, and one more.
use Rattle.std.proofs.Common.{◌≡◌, ◌<◌, ◌+◌, ℕ, [], ◌∷◌, ◌++◌, length, drop, Bool, true, false, ◌||◌}
use Rattle.std.proofs.Common.{Result, Ok, Err, inl, refl, ap, ◌∙◌, arith, append_assoc, length-append}
use Rattle.std.specs.Prelude.{is_err}
use Rattle.std.specs.List.{list_any}
use Rattle.std.specs.declared.io.Error.{Error}
use Rattle.std.proofs.lemmas.Bool.Decides.{nat_tests}
use Rattle.std.proofs.lemmas.List.Elements.{All-append}
use Rattle.std.proofs.lemmas.List.Folds.{list_any-append, list_any_none}
use Rattle.std.proofs.lemmas.List.Sums.{sum_by_push}
use Rattle.std.proofs.Math.Seq.{drop-append_seam}
use Rattle.stamp_cli.specs.Results.{Results, bytes_of, EachTakes, Makes, ReadsToTheEnd, any_since, taken_since}
use Rattle.stamp_cli.specs.TakesNone.{takes_none}

each_of_one : (one : Result ℕ Error) → takes_none one ≡ false → EachTakes (one ∷ [])
each_of_one one takes k d below = let first : k ≡ 0 = omega arith in rw first takes

some_of : (one : Result ℕ Error) → takes_none one ≡ false → 0 < bytes_of one
some_of (Ok n) takes = grind arith
some_of (Err e) takes = cc

pub more :
    (old mid new : Results) (n m : ℕ) (one : Result ℕ Error) →
    Makes old mid n → new ≡ mid ++ one ∷ [] → takes_none one ≡ false → m ≡ n + bytes_of one → Makes old new m
more old mid new n m one so_far added takes count = record {
  made = so_far.made ++ one ∷ [];
  added =
      added ∙ ap (λ (rs : Results). rs ++ one ∷ []) so_far.added ∙ append_assoc old so_far.made (one ∷ []);
  few = omega (arith, length-append so_far.made (one ∷ []), so_far.few, some_of one takes);
  took = omega (arith, sum_by_push bytes_of so_far.made one, so_far.took);
  each = All-append (λ r. takes_none r ≡ false) so_far.made (one ∷ []) so_far.each (each_of_one one takes);
}

-- all that were made, where one more came
with_last : (old mid new : Results) (n : ℕ) (one : Result ℕ Error) (so_far : Makes old mid n) →
    new ≡ mid ++ one ∷ [] → drop (length old) new ≡ so_far.made ++ one ∷ []
with_last old mid new n one so_far added = rw (added, so_far.added, append_assoc, drop-append_seam) refl

-- how many bytes they took together, without one more and with it
pub all_taken : (old new : Results) (n : ℕ) → Makes old new n → taken_since old new ≡ n
all_taken old new n so_far = rw (so_far.added, drop-append_seam) so_far.took

pub taken_with_last : (old mid new : Results) (n : ℕ) (one : Result ℕ Error) →
    Makes old mid n → new ≡ mid ++ one ∷ [] → taken_since old new ≡ n + bytes_of one
taken_with_last old mid new n one so_far added =
    let sum = sum_by_push bytes_of so_far.made one in
    rw (with_last old mid new n one so_far added) (sum ∙ ap (λ k. k + bytes_of one) so_far.took)

-- one that took no byte, and is no fault, ends them
none_left : (one : Result ℕ Error) → takes_none one ≡ true → is_err one ≡ false → one ≡ Ok 0
none_left (Ok n) takes fine = grind (arith, nat_tests)
none_left (Err e) takes fine = cc

pub to_the_end : (old mid new : Results) (n most : ℕ) (one : Result ℕ Error) → Makes old mid n →
    new ≡ mid ++ one ∷ [] → takes_none one ≡ true → is_err one ≡ false → ReadsToTheEnd old new most
to_the_end old mid new n most one so_far added takes fine =
    let last = ap (λ (r : Result ℕ Error). so_far.made ++ r ∷ []) (none_left one takes fine) in
    inl (so_far.made, with_last old mid new n one so_far added ∙ last)

-- only one that took no byte passes the test
abbrev pub IsOfNone : (Result ℕ Error → Bool) → Type 0
IsOfNone test = (one : Result ℕ Error) → takes_none one ≡ false → test one ≡ false

pub fails_of_none : IsOfNone is_err
fails_of_none (Ok n) takes = refl
fails_of_none (Err e) takes = cc

others : (test : Result ℕ Error → Bool) (old new : Results) (n : ℕ) →
    IsOfNone test → (so_far : Makes old new n) → list_any test so_far.made ≡ false
others test old new n of_none so_far = list_any_none test so_far.made (λ k d below. of_none _ (so_far.each k d below))

pub none_passes : (test : Result ℕ Error → Bool) (old new : Results) (n : ℕ) →
    IsOfNone test → Makes old new n → any_since test old new ≡ false
none_passes test old new n of_none so_far =
    rw (so_far.added, drop-append_seam) (others test old new n of_none so_far)

-- so that one more tells whether any passes
pub last_tells : (test : Result ℕ Error → Bool) (old mid new : Results) (n : ℕ) (one : Result ℕ Error) →
    IsOfNone test → Makes old mid n → new ≡ mid ++ one ∷ [] → any_since test old new ≡ test one
last_tells test old mid new n one of_none so_far added =
    let alone : (test one || false) ≡ test one = grind (arith, nat_tests) in
    rw (with_last old mid new n one so_far added, list_any-append, others test old mid n of_none so_far) alone
