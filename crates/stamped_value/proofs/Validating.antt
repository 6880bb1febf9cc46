-- What the answers of Validate and Optimistic tell of the value that the stamp stands for.
use Rattle.std.proofs.Common.{◌≡◌, ◌≢◌, ◌⊎◌, ◌≤◌, ℕ, zero, suc, ◌+◌, ◌*◌, ◌-◌, ◌/◌, ◌%◌, ◌==◌, Bool, true, false}
use Rattle.std.proofs.Common.{List, refl, ap, sym, ◌∙◌, subst, arith, inl, inr, if◌then◌else◌}
use Rattle.std.specs.Prelude.{◌↔◌, IsTrue}
use Rattle.std.proofs.lemmas.Bool.Decides.{nat_tests}
use Rattle.stamp_core.specs.Layout.{Units, units_of}
use Rattle.stamp_core.specs.Limits.{Bounds, AreInRange, units}
use Rattle.stamp_core.specs.LockEvent.{LockEvent, Counts, counts, writers, write_count}
use Rattle.stamp_core.specs.IsWellFormed.{CountsAreWithin}
use Rattle.stamp_core.specs.Word.{Represents, word_at, word_number}
use Rattle.stamp_core.specs.Decoded.{counts_in}
use Rattle.stamp_core.specs.Decision.{Answers}
use Rattle.stamp_core.specs.Stamp.{IsWriteStamp, IsReadStamp, IsOptimisticStamp, IsStamp, IsValid}
use Rattle.stamp_core.specs.Stamp.{is_valid, optimistic_stamp}
use Rattle.stamp_core.specs.declared.call.Call.TheVariants.{Optimistic, Validate}
use Rattle.stamp_core.specs.declared.reply.Reply.{Reply}
use Rattle.stamp_core.specs.declared.reply.Reply.TheVariants.{Stamp, Yes, No}
use Rattle.stamp_core.specs.declared.layout.Layout.{Layout}
use Rattle.stamp_core.proofs.Deciding.{decides}
use Rattle.stamp_core.proofs.StampTests.{tests_are_exact}
use Rattle.stamp_core.proofs.TwoLayouts.{either_layout}
use Rattle.stamp_core.proofs.WordCounts.{counts_in-represented}
use Rattle.stamp_core.proofs.WellFormedPush.{obeys_now}
use Rattle.stamp_threads.specs.LockLog.{events_after}
use Rattle.stamp_threads.proofs.Replying.{replies_of}
use Rattle.stamped_value.specs.ValueMade.{Seen, ValueMade}
use Rattle.stamped_value.specs.Asks.{Asks, AsksIsLast}
use Rattle.stamped_value.specs.ValueLock.{ValueToken}
use Rattle.stamped_value.specs.OfStamp.{IsOfLast, IsSomeWriteStamp, IsYesButForWriters}
use Rattle.stamped_value.specs.inner.Questions.{IsReadersStamp}
use Rattle.stamped_value.proofs.OfStamp.{is_of_last}
use Rattle.stamped_value.proofs.StillLast.{log_is_well_formed}

yes_if : (b : Bool) → (if b then Yes else No) ≡ Yes → b ≡ true
yes_if true e = refl
yes_if false e = cc

stamp_if : (b : Bool) (n s : ℕ) → s ≢ 0 → Stamp (if b then n else 0) ≡ Stamp s → (b ≡ true) × (s ≡ n)
stamp_if true n s some e = (refl, cc)
stamp_if false n s some e = absurd (some cc)

-- a stamp that is valid and no write stamp is of a version that no writer has left
not_writers : (u : Units) (k s writing : ℕ) → IsStamp u k s → ((writing ≡ 0) ⊎ IsWriteStamp u k s) →
    (IsSomeWriteStamp u s → ⊥) →
    (writing ≡ 0) × (IsReadStamp u k s ⊎ IsOptimisticStamp u k s)
not_writers u k s writing (inl w) free not = absurd (not (k, w))
not_writers u k s writing (inr r) (inl free) not = (free, r)
not_writers u k s writing (inr r) (inr w) not = absurd (not (k, w))

module _ {T : Type 0} (limits : Bounds) (s : ℕ) (v w : Seen T) (range : AreInRange limits) where
  pub validated : ValueMade limits (Validate s) Yes v w →
      (IsSomeWriteStamp (units limits) s → ⊥) → IsOfLast limits w.0.values s
  validated m not =
      let events = events_after limits m.made.log in
      let legal = m.made.left.legal in
      let is_so = yes_if (is_valid (units limits) (counts events) s)
      (replies_of limits (Validate s) Yes v.0.pass w.0.pass refl m.made) in
      let valid : IsValid limits events s =
      (tests_are_exact limits events s range (log_is_well_formed limits m.made.log range legal)).0.0 is_so in
      let t = not_writers (units limits) (write_count events) s (writers events) valid.0 valid.1 not in
      subst (λ (l : List T). IsOfLast limits l s) (sym m.does.2)
      (is_of_last limits m.made.log m.values s range legal m.are t.0 t.1)

  pub observed : ValueMade limits Optimistic (Stamp s) v w → s ≢ 0 → IsOfLast limits w.0.values s
  observed m some =
      let events = events_after limits m.made.log in
      let legal = m.made.left.legal in
      let t = stamp_if (writers events == 0) (optimistic_stamp (units limits) (write_count events)) s some
      (replies_of limits Optimistic (Stamp s) v.0.pass w.0.pass refl m.made) in
      let free : writers events ≡ 0 = grind (arith, nat_tests, t.0) in
      let most = (obeys_now limits events (log_is_well_formed limits m.made.log range legal)).within.versions in
      let room = range.versions in
      subst (λ (l : List T). IsOfLast limits l s) (sym m.does.2)
      (is_of_last limits m.made.log m.values s range legal m.are free
      (inr record { version = omega arith; number = t.1 }))

-- a word without a writer, in version k
module _ (l : Layout) (k r n s : ℕ) (few : r ≤ (units_of l).readers)
    (number : n ≡ (units_of l).version * (k + 1) + r) where
  no_writer_in : (n % (units_of l).version == (units_of l).writer) ≡ false
  no_writer_in =
      let units = either_layout l in
      let end : n % (units_of l).version ≡ r = grind arith in grind (arith, nat_tests)

  -- its readers' stamps and its optimistic stamp have the same upper bits as the word, and no others have them
  of_version : k ≤ (units_of l).versions → n / (units_of l).writer ≡ s / (units_of l).writer →
      IsReadStamp (units_of l) k s ⊎ IsOptimisticStamp (units_of l) k s
  of_version most same = by (s - (units_of l).version * (k + 1)) refl
    where
      by : (nth : ℕ) → s - (units_of l).version * (k + 1) ≡ nth →
          IsReadStamp (units_of l) k s ⊎ IsOptimisticStamp (units_of l) k s
      by zero is = let units = either_layout l in inr (record { version = most; number = grind arith })
      by (suc c) is =
          let units = either_layout l in
          inl (record { nth = suc c; some = omega arith; most = grind arith; version = most; number = grind arith })

  has_version : IsReadStamp (units_of l) k s ⊎ IsOptimisticStamp (units_of l) k s →
      n / (units_of l).writer ≡ s / (units_of l).writer
  has_version (inl stamp) =
      let units = either_layout l in
      let most = stamp.most in
      let is = stamp.number in grind arith
  has_version (inr stamp) =
      let units = either_layout l in
      let is = stamp.number in grind arith

writer_in : (l : Layout) (k n : ℕ) → n ≡ (units_of l).version * k + (units_of l).writer →
    (n % (units_of l).version == (units_of l).writer) ≡ true
writer_in l k n number =
    let units = either_layout l in
    let end : n % (units_of l).version ≡ (units_of l).writer = grind arith in grind (arith, nat_tests)

no_write_stamp : (l : Layout) (k s : ℕ) → IsReadStamp (units_of l) k s ⊎ IsOptimisticStamp (units_of l) k s →
    IsSomeWriteStamp (units_of l) s → ⊥
no_write_stamp l k s (inl stamp) some =
    absurd (grind (arith, either_layout l, stamp.number, stamp.most, some.1.number))
no_write_stamp l k s (inr stamp) some = absurd (grind (arith, either_layout l, stamp.number, some.1.number))

spelled_free : (u : Units) (c : Counts) (n : ℕ) → c.writers ≡ 0 → n ≡ word_number u c →
    n ≡ u.version * (c.write_count + 1) + c.readers
spelled_free u c n free number = let t : (c.writers == 0) ≡ true = grind (arith, nat_tests) in rw t at number

spelled_writing : (u : Units) (c : Counts) (n : ℕ) → c.writers ≢ 0 → n ≡ word_number u c →
    n ≡ u.version * c.write_count + u.writer
spelled_writing u c n some number = let t : (c.writers == 0) ≡ false = grind (arith, nat_tests) in rw t at number

yes_of : (b : Bool) → b ≡ true → (if b then Yes else No) ≡ Yes
yes_of true e = refl
yes_of false e = cc

module _ (limits : Bounds) (found s : ℕ) (range : AreInRange limits) where
  -- what this word answers, by the counts of its number
  abbrev pub says : Reply
  says = if is_valid (units limits) (counts_in (word_at limits found)) s then Yes else No

  pub says_so : Answers limits (word_at limits found) (Validate s) says
  says_so = decides limits (word_at limits found) (Validate s) range

  module _ (events : List LockEvent) (represents : Represents limits (word_at limits found) events) where
    abbrev c : Counts
    c = counts events

    within : CountsAreWithin limits c
    within = (obeys_now limits events represents.well_formed).within

    same : is_valid (units limits) (counts_in (word_at limits found)) s ≡ is_valid (units limits) c s
    same = ap (λ (d : Counts). is_valid (units limits) d s)
        (counts_in-represented limits (word_at limits found) events range represents)

    exact : is_valid (units limits) c s ≡ true ↔ IsValid limits events s
    exact = (tests_are_exact limits events s range represents.well_formed).0

    few : c.readers ≤ (units limits).readers
    few = omega (arith, within.readers, range.readers)

    no_writer : ((found % (units limits).version == (units limits).writer) ≡ false) → c.writers ≡ 0
    no_writer without = by c.writers refl
      where
        by : (n : ℕ) → c.writers ≡ n → n ≡ 0
        by zero is = refl
        by (suc n) is =
            let number = spelled_writing (units limits) c found (λ none. absurd (omega (arith, is, none)))
            represents.spelled in
            let yes = writer_in limits.layout c.write_count found number in absurd cc

    -- where no writer is in the word, and the stamp has its upper bits, the stamp is a reader's and valid
    reads : IsReadersStamp (units limits) found s → (says ≡ Yes) × (IsSomeWriteStamp (units limits) s → ⊥)
    reads test =
        let free = no_writer test.0 in
        let most : c.write_count ≤ (units limits).versions = omega (arith, within.versions, range.versions) in
        let stamp = of_version limits.layout c.write_count c.readers found s few
        (spelled_free (units limits) c found free represents.spelled) most test.1 in
        (yes_of _ (same ∙ exact.1 (inr stamp, inl free)), no_write_stamp limits.layout c.write_count s stamp)

    is_read : (says ≡ Yes) × (IsSomeWriteStamp (units limits) s → ⊥) → IsReadersStamp (units limits) found s
    is_read told =
        let valid = exact.0 (sym same ∙ yes_if _ told.0) in
        let t = not_writers (units limits) c.write_count s c.writers valid.0 valid.1 told.1 in
        let number = spelled_free (units limits) c found t.0 represents.spelled in (
          no_writer_in limits.layout c.write_count c.readers found s few number,
          has_version limits.layout c.write_count c.readers found s few number t.1,
        )

    -- so that one test of the word tells what the lock answers, but for write stamps
    pub told_by_test : (result : Bool) → (IsTrue result ↔ IsReadersStamp (units limits) found s) →
        IsYesButForWriters limits s says result
    told_by_test result test = (λ t. reads (test.0 t), λ told. test.1 (is_read told))

-- what is_last tells, by what the lock answered
pub asks_is_last : {T : Type 0} (a b : ValueToken T) (s : ℕ) (result : Bool) (reply : Reply) →
    AreInRange b.lock.limits → Asks a b → ValueMade b.lock.limits (Validate s) reply a.me b.me →
    IsYesButForWriters b.lock.limits s reply result → AsksIsLast s result a b
asks_is_last a b s result reply range asks made told = record {
  asks = asks;
  answer = (reply, made, told);
  last = λ said. let t = told.0 said in
      validated b.lock.limits s a.me b.me range
      (subst (λ (r : Reply). ValueMade b.lock.limits (Validate s) r a.me b.me) t.0 made) t.1;
}
