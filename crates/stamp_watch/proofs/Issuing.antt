-- Which versions the stamps of calls tell that begin and return among events.
use Rattle.std.proofs.Common.{◌≡◌, ◌⊎◌, ◌+◌, ◌<◌, ◌≤◌, ℕ, suc, List, [], ◌∷◌, ◌++◌, length, get_or, Option}
use Rattle.std.proofs.Common.{Some, None, sym, ◌∙◌, ap, subst, inl, inr, arith, append_assoc}
use Rattle.std.specs.Prelude.{drop, nat_lt, take, MatchOption}
use Rattle.std.specs.Bool.{IsTrue}
use Rattle.std.proofs.lemmas.Bool.{cases_lt, lt-ltb, ltb-true}
use Rattle.std.proofs.lemmas.List.{length-append, length_push, length-take-le, get_or-take, get_or_append_left}
use Rattle.std.proofs.lemmas.List.{get_or_default, take-append-drop}
use Rattle.std.proofs.Math.Seq.{drop-append_seam, drop-cons, get_or-append_seam}
use Rattle.stamp_core.specs.Limits.{Bounds, units}
use Rattle.stamp_core.specs.Stamp.{IsStamp}
use Rattle.stamp_core.specs.declared.call.Call.{Call}
use Rattle.stamp_core.specs.declared.reply.Reply.TheVariants.{Stamp}
use Rattle.stamp_runs.specs.Run.{lane_of}
use Rattle.stamp_runs.specs.declared.event.Event.{Event}
use Rattle.stamp_runs.specs.declared.event.Event.TheVariants.{Begins, Returns}
use Rattle.stamp_watch.specs.Issued.{IssuesOf, IssuesOlder, IssuesStamp, ReturnsOlder}
use Rattle.stamp_watch.specs.Ahead.{IsSpared}
use Rattle.stamp_watch.specs.inner.Delay.{IsFirstOfLaneAt}
use Rattle.stamp_watch.proofs.TellingVersions.{one_version}

same_returned : {l m s t : ℕ} → Returns l (Stamp s) ≡ Returns m (Stamp t) → (l ≡ m) × (s ≡ t)
same_returned is = (cc, cc)

-- the version of a stamp that is returned is that of the call
pub issued_by : (limits : Bounds) (b e : Event) (lane other : ℕ) (call : Call) (stamp : ℕ) → b ≡ Begins lane call →
    e ≡ Returns other (Stamp stamp) → other ≡ lane → IssuesStamp call → (found : Option ℕ) →
    MatchOption found ((k : ℕ) → ¬ IsStamp (units limits) k stamp) (λ k. IsStamp (units limits) k stamp) →
    MatchOption found ((k : ℕ) → ¬ IssuesOf limits k b e) (λ k. IssuesOf limits k b e)
issued_by limits b e lane other call stamp begins returns same issues None none =
    λ k is. none k (subst (IsStamp (units limits) k) (same_returned (sym is.returns ∙ returns)).1 is.is_of)
issued_by limits b e lane other call stamp begins returns same issues (Some k) is = record {
  lane = lane;
  call = call;
  stamp = stamp;
  begins = begins;
  returns = returns ∙ ap (λ (l : ℕ). Returns l (Stamp stamp)) same;
  issues = issues;
  is_of = is;
}

-- a stamp that is issued is of one version
pub issued_once : (limits : Bounds) (b e : Event) (j k : ℕ) → IssuesOf limits j b e → IssuesOf limits k b e → j ≡ k
issued_once limits b e j k one other = one_version limits.layout k other.stamp other.is_of j
    (subst (IsStamp (units limits) j) (same_returned (sym one.returns ∙ other.returns)).1 one.is_of)

-- both events are of one lane
pub issued_lane : (limits : Bounds) (b e : Event) (k : ℕ) → IssuesOf limits k b e → lane_of e ≡ lane_of b
issued_lane limits b e k is = ap lane_of is.returns ∙ sym (ap lane_of is.begins)

-- the first event of a lane has one place
first_place : (events between rest : List Event) (e : Event) (lane place : ℕ) → events ≡ between ++ e ∷ rest →
    IsSpared between lane → lane_of e ≡ lane → IsFirstOfLaneAt events lane place → place ≡ length between
first_place events between rest e lane place parts spared same first = by (cases_lt place (length between))
  where
    at_end : get_or events (length between) e ≡ e
    at_end = ap (λ (xs : List Event). get_or xs (length between) e) parts ∙ get_or-append_seam between e rest e

    by : (place < length between) ⊎ (length between ≤ place) → place ≡ length between
    by (inl less) = absurd (spared place e less (ap lane_of (sym (ap (λ (xs : List Event). get_or xs place e) parts ∙
        get_or_append_left between (e ∷ rest) e place less)) ∙ first.0.1 e))
    by (inr more) = at_least (cases_lt (length between) place)
      where
        at_least : (length between < place) ⊎ (place ≤ length between) → place ≡ length between
        at_least (inl less) = absurd (first.1 (length between) e
            (let long : length (take place events) ≡ place = length-take-le place events
            (let within : place < length events = first.0.0 in omega (arith, within)) in omega (arith, long, less))
            (ap lane_of (get_or-take place events (length between) e less ∙ at_end) ∙ same))
        at_least (inr within) = omega (arith, more, within)

-- the events around the one at a place
around : (events : List Event) (place : ℕ) (e : Event) → place < length events → get_or events place e ≡ e →
    events ≡ take place events ++ e ∷ drop (suc place) events
around events place e less read = sym (take-append-drop place events) ∙
    ap (λ (xs : List Event). take place events ++ xs) (drop-cons events place e less ∙
    ap (λ (d : Event). d ∷ drop (suc place) events) read)

module _ (limits : Bounds) (version : ℕ) (b : Event) (behind : List Event) where
  -- where no event behind it is of its lane
  pub none_of_lane : IsSpared behind (lane_of b) → ¬ IssuesOlder limits version b behind
  none_of_lane spared is = spared (length is.between) is.end
      (let long : length (is.between ++ is.end ∷ is.rest) ≡ length is.between + suc (length is.rest) =
      length-append is.between (is.end ∷ is.rest) in
      let same : length behind ≡ length (is.between ++ is.end ∷ is.rest) = ap length is.behind_is in
      omega (arith, long, same))
      (ap lane_of (ap (λ (xs : List Event). get_or xs (length is.between) is.end) is.behind_is ∙
      get_or-append_seam is.between is.end is.rest is.end) ∙ issued_lane limits b is.end is.of is.issues)

  -- where the first event of its lane is at this place
  module _ (place : ℕ) (e : Event) (first : IsFirstOfLaneAt behind (lane_of b) place)
      (read : get_or behind place e ≡ e) where
    end_is : (is : IssuesOlder limits version b behind) → e ≡ is.end
    end_is is = sym read ∙ get_or_default behind place e is.end first.0.0 ∙
        ap (λ (n : ℕ). get_or behind n is.end) (first_place behind is.between is.rest is.end (lane_of b) place
        is.behind_is
        is.spared (issued_lane limits b is.end is.of is.issues) first) ∙
        ap (λ (xs : List Event). get_or xs (length is.between) is.end) is.behind_is ∙
        get_or-append_seam is.between is.end is.rest is.end

    pub older_none : ((k : ℕ) → ¬ IssuesOf limits k b e) → ¬ IssuesOlder limits version b behind
    older_none none is = none is.of (subst (IssuesOf limits is.of b) (sym (end_is is)) is.issues)

    pub older_some : (k : ℕ) → IssuesOf limits k b e →
        (IsTrue (nat_lt k version) → IssuesOlder limits version b behind) ×
        (IssuesOlder limits version b behind → IsTrue (nat_lt k version))
    older_some k issues = (
      (λ less. record {
        between = take place behind;
        end = e;
        rest = drop (suc place) behind;
        of = k;
        behind_is = around behind place e first.0.0 read;
        spared = first.1;
        issues = issues;
        older = ltb-true k version less;
      }),
      (λ is. lt-ltb k version (subst (λ (n : ℕ). n < version) (issued_once limits b e is.of k
          (subst (IssuesOf limits is.of b) (sym (end_is is)) is.issues) issues) is.older)),
    )

pub no_older : (limits : Bounds) (version : ℕ) (events : List Event) → ((k : ℕ) (d : Event) → k < length events →
    ¬ IssuesOlder limits version (get_or events k d) (drop (suc k) events)) → ¬ ReturnsOlder limits version events
no_older limits version events none is = none (length is.before) is.begun
    (let long : length (is.before ++ is.begun ∷ is.behind) ≡ length is.before + suc (length is.behind) =
    length-append is.before (is.begun ∷ is.behind) in
    let same : length events ≡ length (is.before ++ is.begun ∷ is.behind) = ap length is.events_are in
    omega (arith, long, same))
    (subst (λ (x : Event). IssuesOlder limits version x (drop (suc (length is.before)) events)) (sym read)
    (subst (IssuesOlder limits version is.begun) (sym behind_is) is.one))
  where
    read : get_or events (length is.before) is.begun ≡ is.begun
    read = ap (λ (xs : List Event). get_or xs (length is.before) is.begun) is.events_are ∙
        get_or-append_seam is.before is.begun is.behind is.begun

    long : length (is.before ++ is.begun ∷ []) ≡ suc (length is.before)
    long = let one_more : length (is.before ++ is.begun ∷ []) ≡ length is.before + 1 = length_push is.before is.begun
        in
        omega (arith, one_more)

    behind_is : drop (suc (length is.before)) events ≡ is.behind
    behind_is = ap (λ (n : ℕ). drop n events) (sym long) ∙
        ap (λ (xs : List Event). drop (length (is.before ++ is.begun ∷ [])) xs)
        (is.events_are ∙ sym (append_assoc is.before (is.begun ∷ []) is.behind)) ∙
        drop-append_seam (is.before ++ is.begun ∷ []) is.behind
