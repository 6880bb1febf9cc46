-- The entry of each lane that begins last among some moments.
use Rattle.std.proofs.Common.{◌≡◌, ◌≢◌, ◌⊎◌, ℕ, suc, zero, ◌+◌, ◌<◌, ◌≤◌, List, [], ◌∷◌, ◌++◌, length, get_or, set}
use Rattle.std.proofs.Common.{refl, sym, ◌∙◌, ap, subst, inl, inr, arith, append_assoc, true, false, Some}
use Rattle.std.specs.Prelude.{slice_get, take}
use Rattle.std.specs.List.{All, AllZip}
use Rattle.std.proofs.lemmas.Bool.{cases_eq, false≢true}
use Rattle.std.proofs.lemmas.List.{get_or-set_same, get_or-set_other, length-set, take_more}
use Rattle.std.proofs.lemmas.Option.{get_or_from_slice_get, none-some, same_Some, slice_get_within}
use Rattle.stamp_explain.specs.declared.observed.Observation.{Observation}
use Rattle.stamp_watch.specs.declared.moments.Moment.{Moment}
use Rattle.stamp_sets.specs.declared.order.EffectAt.{EffectAt}
use Rattle.stamp_watch.specs.AsEvents.{IsMomentOf, beginning_of}
use Rattle.stamp_watch.specs.inner.Ordering.{AreLastBegun, IsLastBegun}

-- each of these effects has the index of that entry at its point
abbrev pub IsLastAt : List Observation → List Moment → EffectAt → ℕ → Type 0
IsLastAt entries moments x index = (i : ℕ) → IsLastBegun entries x.lane (take x.point moments) i → index ≡ i

abbrev pub AreLastAt : List Observation → List Moment → List EffectAt → List ℕ → Type 0
AreLastAt entries moments effects indices = AllZip (IsLastAt entries moments) effects indices

-- the elements of a list with one more
pub push_cases : {X : Type 0} (xs : List X) (y : X) (k : ℕ) (x : X) → slice_get (xs ++ y ∷ []) k ≡ Some x →
    (slice_get xs k ≡ Some x) ⊎ ((k ≡ length xs) × (y ≡ x))
push_cases [] y zero x at = inr (refl, same_Some y x at)
push_cases [] y (suc k) x at = absurd (none-some x at)
push_cases (z ∷ xs) y zero x at = inl at
push_cases (z ∷ xs) y (suc k) x at = by (push_cases xs y k x at)
  where
    by : (slice_get xs k ≡ Some x) ⊎ ((k ≡ length xs) × (y ≡ x)) →
        (slice_get xs k ≡ Some x) ⊎ ((suc k ≡ suc (length xs)) × (y ≡ x))
    by (inl there) = inl there
    by (inr last) = inr (ap suc last.0, last.1)

pub push_keeps : {X : Type 0} (xs : List X) (y : X) (k : ℕ) (x : X) → slice_get xs k ≡ Some x →
    slice_get (xs ++ y ∷ []) k ≡ Some x
push_keeps [] y k x at = absurd (none-some x at)
push_keeps (z ∷ xs) y zero x at = at
push_keeps (z ∷ xs) y (suc k) x at = push_keeps xs y k x at

pub push_last : {X : Type 0} (xs : List X) (y : X) → slice_get (xs ++ y ∷ []) (length xs) ≡ Some y
push_last [] y = refl
push_last (z ∷ xs) y = push_last xs y

-- none begins among no moments
pub none_begun : (entries : List Observation) (last : List ℕ) → length last ≡ 64 → AreLastBegun entries [] last
none_begun entries last many = record {
  many = many;
  are = λ lane i d low is. absurd (none-some (beginning_of i is.entry) is.at);
}

module _ (entries : List Observation) (moments : List Moment) (m : Moment) where
  -- a moment that is no beginning in the lane changes nothing there
  abbrev IsOther : ℕ → Type 0
  IsOther lane = (j : ℕ) (e : Observation) → slice_get entries j ≡ Some e → e.thread ≡ lane → m ≢ beginning_of j e

  other_back : (lane i : ℕ) → IsOther lane → IsLastBegun entries lane (moments ++ m ∷ []) i →
      IsLastBegun entries lane moments i
  other_back lane i other is = record {
    entry = is.entry;
    is_entry = is.is_entry;
    its_lane = is.its_lane;
    number = is.number;
    at = by (push_cases moments m is.number (beginning_of i is.entry) is.at);
    last = λ j k e at thread at_k. is.last j k e at thread (push_keeps moments m k (beginning_of j e) at_k);
  }
    where
      by : (slice_get moments is.number ≡ Some (beginning_of i is.entry)) ⊎
          ((is.number ≡ length moments) × (m ≡ beginning_of i is.entry)) →
          slice_get moments is.number ≡ Some (beginning_of i is.entry)
      by (inl there) = there
      by (inr here) = absurd (other i is.entry is.is_entry is.its_lane here.1)

  pub return_passes : (last : List ℕ) → m.is_return ≡ true → AreLastBegun entries moments last →
      AreLastBegun entries (moments ++ m ∷ []) last
  return_passes last returns are = record {
    many = are.many;
    are = λ lane i d low is. are.are lane i d low (other_back lane i (λ j e at thread same.
        false≢true (sym (ap (λ (x : Moment). x.is_return) same) ∙ returns)) is);
  }

  -- one that is makes its entry the last one
  pub begin_passes : (last : List ℕ) (e : Observation) → slice_get entries m.entry ≡ Some e →
      m ≡ beginning_of m.entry e → e.thread < 64 → AreLastBegun entries moments last →
      AreLastBegun entries (moments ++ m ∷ []) (set last e.thread m.entry)
  begin_passes last e at_e begins low are = record {
    many = length-set last e.thread m.entry ∙ are.many;
    are = λ lane i d less is. by lane i d less is (cases_eq lane e.thread);
  }
    where
      by : (lane i d : ℕ) → lane < 64 → IsLastBegun entries lane (moments ++ m ∷ []) i →
          (lane ≡ e.thread) ⊎ (lane ≢ e.thread) → get_or (set last e.thread m.entry) lane d ≡ i
      by lane i d less is (inl same) = subst (λ (n : ℕ). get_or (set last e.thread m.entry) n d ≡ i) (sym same)
          (get_or-set_same last e.thread m.entry d (omega (arith, are.many, low)) ∙
          here (push_cases moments m is.number (beginning_of i is.entry) is.at))
        where
          newest : length moments ≤ is.number
          newest = is.last m.entry (length moments) e at_e (sym same)
              (push_last moments m ∙ ap (λ (x : Moment). Some x) begins)

          here : (slice_get moments is.number ≡ Some (beginning_of i is.entry)) ⊎
              ((is.number ≡ length moments) × (m ≡ beginning_of i is.entry)) → m.entry ≡ i
          here (inl there) = absurd (omega (
            arith,
            newest,
            slice_get_within moments is.number (beginning_of i is.entry) there,
          ))
          here (inr its) = ap (λ (x : Moment). x.entry) its.1
      by lane i d less is (inr apart) = get_or-set_other last e.thread lane m.entry d apart ∙
          are.are lane i d less (other_back lane i other is)
        where
          other : IsOther lane
          other j f at_f thread is_it = apart (sym thread ∙ ap (λ (o : Observation). o.thread)
              (same_Some f e (sym at_f ∙ ap (slice_get entries) (sym (ap (λ (x : Moment). x.entry) is_it)) ∙ at_e)))

-- the moments that have passed
pub passed_so : (entries : List Observation) (past moments : List Moment) (k : ℕ) (d : Moment) (last : List ℕ) →
    k < length moments → AreLastBegun entries ((past ++ take k moments) ++ get_or moments k d ∷ []) last →
    AreLastBegun entries (past ++ take (k + 1) moments) last
passed_so entries past moments k d last less are = subst (λ (ms : List Moment). AreLastBegun entries ms last)
    (append_assoc past (take k moments) (get_or moments k d ∷ []) ∙
    ap (λ (ms : List Moment). past ++ ms) (sym (take_more moments k d less))) are

-- a moment of these entries that is no return begins a call
pub record IsBegun (entries : List Observation) (m : Moment) : Type 0 where
  pub entry : Observation
  pub is_entry : slice_get entries m.entry ≡ Some entry
  pub begins : m ≡ beginning_of m.entry entry

pub begun_there : (entries : List Observation) (m : Moment) → IsMomentOf entries m → m.is_return ≡ false →
    IsBegun entries m
begun_there entries m (event, inl begins) open_now = record {
  entry = begins.entry;
  is_entry = begins.is_entry;
  begins = begins.moment;
}
begun_there entries m (event, inr returns) open_now =
    absurd (false≢true (sym open_now ∙ ap (λ (x : Moment). x.is_return) returns.moment))

-- its entry is there
pub entry_within : (entries : List Observation) (moments : List Moment) (k : ℕ) (d : Moment) → k < length moments →
    All (IsMomentOf entries) moments → (get_or moments k d).is_return ≡ false →
    (get_or moments k d).entry < length entries
entry_within entries moments k d less each open_now =
    let its = begun_there entries (get_or moments k d) (each k d less) open_now in
    slice_get_within entries (get_or moments k d).entry its.entry its.is_entry

pub lane_low : (entries others : List Observation) (moments : List Moment) (k : ℕ) (d : Moment) (e : Observation) →
    others ≡ entries → k < length moments → All (IsMomentOf entries) moments →
    (get_or moments k d).is_return ≡ false → All (λ (o : Observation). o.thread < 64) entries →
    (get_or others (get_or moments k d).entry e).thread < 64
lane_low entries others moments k d e same less each open_now low =
    subst (λ (es : List Observation). (get_or es (get_or moments k d).entry e).thread < 64) (sym same)
    (low (get_or moments k d).entry e (entry_within entries moments k d less each open_now))

-- one moment more
module _ (entries : List Observation) (past moments : List Moment) (k : ℕ) (d : Moment) (last : List ℕ)
    (less : k < length moments) (each : All (IsMomentOf entries) moments)
    (are : AreLastBegun entries (past ++ take k moments) last)
  where
    pub return_next : (get_or moments k d).is_return ≡ true → AreLastBegun entries (past ++ take (k + 1) moments) last
    return_next returns = passed_so entries past moments k d last less
        (return_passes entries (past ++ take k moments) (get_or moments k d) last returns are)

    pub begin_next : (e : Observation) → (get_or moments k d).is_return ≡ false →
        All (λ (o : Observation). o.thread < 64) entries → AreLastBegun entries (past ++ take (k + 1) moments)
        (set last (get_or entries (get_or moments k d).entry e).thread (get_or moments k d).entry)
    begin_next e open_now low = passed_so entries past moments k d
        (set last (get_or entries (get_or moments k d).entry e).thread (get_or moments k d).entry) less
        (subst (λ (o : Observation). AreLastBegun entries ((past ++ take k moments) ++ get_or moments k d ∷ [])
        (set last o.thread (get_or moments k d).entry)) (sym entry_is)
        (begin_passes entries (past ++ take k moments) (get_or moments k d) last its.entry its.is_entry its.begins
        (subst (λ (o : Observation). o.thread < 64) entry_is (low (get_or moments k d).entry e
        (slice_get_within entries (get_or moments k d).entry its.entry its.is_entry))) are))
      where
        its : IsBegun entries (get_or moments k d)
        its = begun_there entries (get_or moments k d) (each k d less) open_now

        entry_is : get_or entries (get_or moments k d).entry e ≡ its.entry
        entry_is = get_or_from_slice_get entries (get_or moments k d).entry its.entry e its.is_entry
