-- One read more of a stream.
use Rattle.std.proofs.Common.{ℕ, ◌≡◌, ◌≢◌, ◌⊎◌, ◌↔◌, ◌-◌, true, false, List, [], ◌∷◌, ◌++◌, length, Option, None}
use Rattle.std.proofs.Common.{Result, Ok}
use Rattle.std.proofs.Common.{Err, refl, sym, ◌∙◌, ap, subst, arith, inl, inr, append-nil, append_assoc, IsErrAnd}
use Rattle.std.specs.Prelude.{drop, is_err, take}
use Rattle.std.specs.Io.KnownBytes.{Consumes, IsAtEnd}
use Rattle.std.specs.declared.io.Error.{Error}
use Rattle.std.proofs.KnownBytes.{Consumes-nil, Consumes-trans, Keeps-refl}
use Rattle.std.proofs.lemmas.Bool.{false≢true}
use Rattle.std.proofs.lemmas.List.{length-append}
use Rattle.std.proofs.Math.Seq.{drop-append_seam, take-append_seam}
use Rattle.stamp_cli.specs.Results.{EachTakes, Makes, Results, bytes_of, taken_since}
use Rattle.stamp_cli.specs.declared.faults.ServeFault.{ServeFault}
use Rattle.stamp_cli.specs.Serving.{HasWritten}
use Rattle.stamp_cli.specs.TakesNone.{takes_none}
use Rattle.stamp_cli.specs.declared.faults.ServeFault.TheVariants.{Memory, ReadFault, WriteFault}
use Rattle.stamp_cli.proofs.MadeSoFar.{all_taken, fails_of_none, last_tells, none_passes, taken_with_last}
use Rattle.stamped_watch.specs.declared.finding.Finding.{Finding}
use Rattle.stamped_watch.specs.declared.orders.Watching.{Watching}
use Rattle.stamped_watch.specs.declared.stream_judge.StreamJudge.{StreamJudge}
use Rattle.stamped_watch.specs.Finding.{IsFindingOf, IsFoundOf, IsSoFar}
use Rattle.stamped_watch.specs.Served.{HasReadOn, IsFoundOfSource, IsReadInNeed}
use Rattle.stamped_watch.specs.inner.Served.{IsFedSoFar}

-- one read more, of these bytes, behind reads that each took some
pub record ReadsOnceMore (left mid left' : Option (List ℕ)) (old before new : Results) (bytes more : List ℕ)
    (one : Result ℕ Error) : Type 0 where
  pub so_far : Makes old before (length bytes)
  pub took : Consumes left mid bytes
  pub added : new ≡ before ++ one ∷ []
  pub takes : Consumes mid left' more
  pub many : length more ≡ bytes_of one

-- the judge was fed what came before
pub reads_once : {left mid left' : Option (List ℕ)} {old before new : Results} {more : List ℕ} {one : Result ℕ Error}
    {asked : Watching} {judge : StreamJudge} {chunk : List ℕ} (is : IsFedSoFar asked left mid old before judge chunk) →
    new ≡ before ++ one ∷ [] → Consumes mid left' more → length more ≡ bytes_of one →
    ReadsOnceMore left mid left' old before new is.bytes more one
reads_once is added takes many =
    record { so_far = is.reads; took = is.took; added = added; takes = takes; many = many }

module _ {left mid left' : Option (List ℕ)} {old before new : Results} {bytes more : List ℕ} {one : Result ℕ Error}
    (is : ReadsOnceMore left mid left' old before new bytes more one) where
  pub all_took : Consumes left left' (bytes ++ more)
  all_took = Consumes-trans left mid left' bytes more is.took is.takes

  pub all_counted : length (bytes ++ more) ≡ taken_since old new
  all_counted = let long = length-append bytes more in
      let taken = taken_with_last old before new (length bytes) one is.so_far is.added in
      let many : length more ≡ bytes_of one = is.many in omega (arith, long, taken, many)

  -- however it goes on
  pub has_read_on : {A E : Type 0} (fault : E) (result : Result A E) →
      ((result ≡ Err fault) ↔ (is_err one ≡ true)) → HasReadOn fault left left' old new result
  has_read_on fault result fails = record {
    made = is.so_far.made ++ one ∷ [];
    added = is.added ∙ ap (λ (rs : Results). rs ++ one ∷ []) is.so_far.added ∙
        append_assoc old is.so_far.made (one ∷ []);
    to_end = subst EachTakes (sym front) is.so_far.each;
    bytes = bytes ++ more;
    took = all_took;
    count = all_counted;
    failed = rw (last_tells is_err old before new (length bytes) one fails_of_none is.so_far is.added) fails;
  }
    where
      low : length (is.so_far.made ++ one ∷ []) - 1 ≡ length is.so_far.made
      low = let long = length-append is.so_far.made (one ∷ []) in omega (arith, long)

      front : take (length (is.so_far.made ++ one ∷ []) - 1) (is.so_far.made ++ one ∷ []) ≡ is.so_far.made
      front = ap (λ (n : ℕ). take n (is.so_far.made ++ one ∷ [])) low ∙ take-append_seam is.so_far.made (one ∷ [])

  in_need : (asked : Watching) → IsSoFar asked.most asked.ahead bytes None → IsReadInNeed asked old new (bytes ++ more)
  in_need asked going = record {
    earlier = before;
    last = one;
    reads_are = is.added;
    before = bytes;
    after = more;
    bytes_are = refl;
    count = sym (all_taken old before (length bytes) is.so_far);
    so_far = going;
  }

  -- something is found of all bytes
  pub found_of_all : (asked : Watching) (finding : Finding) → IsSoFar asked.most asked.ahead bytes None →
      IsFoundOf asked.most asked.ahead (bytes ++ more) finding → IsFoundOfSource asked left left' old new finding
  found_of_all asked finding going found = record {
    bytes = bytes ++ more;
    took = all_took;
    count = all_counted;
    needed = in_need asked going;
    found = inl found;
  }

  -- or at the end
  pub found_at_end : (asked : Watching) (finding : Finding) → IsSoFar asked.most asked.ahead bytes None → one ≡ Ok 0 →
      IsAtEnd left' → IsFindingOf asked.most asked.ahead (bytes ++ more) finding →
      IsFoundOfSource asked left left' old new finding
  found_at_end asked finding going none at_end found = record {
    bytes = bytes ++ more;
    took = all_took;
    count = all_counted;
    needed = in_need asked going;
    found = inr (record { last = (is.so_far.made, last); at_end = at_end; found = found });
  }
    where
      last : drop (length old) new ≡ is.so_far.made ++ Ok 0 ∷ []
      last = rw (is.added, is.so_far.added, append_assoc, drop-append_seam)
          (ap (λ (r : Result ℕ Error). is.so_far.made ++ r ∷ []) none)

-- memory is not the fault of reading
pub not_of_reading : {A : Type 0} (result : Result A ServeFault) → IsErrAnd result (λ e. e ≡ Memory) →
    (result ≡ Err ReadFault) ↔ (false ≡ true)
not_of_reading (Ok x) is = absurd is
not_of_reading (Err e) is = ((λ same. absurd (cc)), (λ no_one. absurd (false≢true no_one)))

-- nothing is read
pub makes_none : (old : Results) → Makes old old 0
makes_none old = record {
  made = [];
  added = sym (append-nil old);
  few = omega arith;
  took = refl;
  each = λ k d below. absurd (omega (arith, below));
}

pub reads_none : {A : Type 0} (left : Option (List ℕ)) (old : Results) (result : Result A ServeFault) →
    IsErrAnd result (λ e. e ≡ Memory) → HasReadOn ReadFault left left old old result
reads_none left old result is = record {
  made = [];
  added = sym (append-nil old);
  to_end = λ k d below. absurd (omega (arith, below));
  bytes = [];
  took = Consumes-nil left;
  count = sym (all_taken old old 0 (makes_none old));
  failed = rw (none_passes is_err old old 0 fails_of_none (makes_none old)) (not_of_reading result is);
}

-- and nothing is written, unless a write failed
pub writes_no_more : {A : Type 0} (sent : Option (List ℕ)) (old : Results) (result : Result A ServeFault) →
    result ≢ Err WriteFault → HasWritten WriteFault sent sent old old result
writes_no_more sent old (Ok x) none = record {
  failed = (
    (λ same. absurd (none same)),
    (λ some. absurd (false≢true (sym (none_passes takes_none old old 0 (λ write takes. takes) (makes_none old)) ∙
        some))),
  );
  silent = tt;
}
writes_no_more sent old (Err e) none = record {
  failed = (
    (λ same. absurd (none same)),
    (λ some. absurd (false≢true (sym (none_passes takes_none old old 0 (λ write takes. takes) (makes_none old)) ∙
        some))),
  );
  silent = λ other. (Keeps-refl sent, refl);
}

pub writes_none : {A : Type 0} (sent : Option (List ℕ)) (old : Results) (result : Result A ServeFault) →
    IsErrAnd result (λ e. e ≡ Memory) → HasWritten WriteFault sent sent old old result
writes_none sent old (Ok x) is = absurd is
writes_none sent old (Err e) is = writes_no_more sent old (Err e) (λ same. cc)

-- so it is where a read failed
pub writes_not : {A : Type 0} (sent : Option (List ℕ)) (old : Results) (result : Result A ServeFault) →
    IsErrAnd result (λ e. (e ≡ ReadFault) ⊎ (e ≡ Memory)) → HasWritten WriteFault sent sent old old result
writes_not sent old (Ok x) is = absurd is
writes_not sent old (Err e) (inl is) = writes_no_more sent old (Err e) (λ same. cc)
writes_not sent old (Err e) (inr is) = writes_no_more sent old (Err e) (λ same. cc)
