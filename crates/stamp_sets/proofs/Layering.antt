-- Layers of positions on the way to a return.
use Rattle.std.proofs.Common.{ℕ, ◌≡◌, ◌≢◌, ◌⊎◌, ◌+◌, ◌<◌, ◌≤◌, List, [], ◌∷◌, ◌++◌, length, Option}
use Rattle.std.proofs.Common.{get_or, set, Bool, true, false, refl, sym, ◌∙◌, subst, inl, inr, arith, append-nil}
use Rattle.std.specs.Prelude.{take, drop}
use Rattle.std.specs.Int.{bit_at}
use Rattle.std.specs.List.{All, Contains}
use Rattle.std.proofs.lemmas.Bool.{cases_eq, cases_lt}
use Rattle.std.proofs.lemmas.List.{take-append-drop, length-set, get_or-set_same, get_or-set_other, get_or_default}
use Rattle.std.proofs.lemmas.List.Elements.{Contains-push, Contains-push_cases, Contains-append_left}
use Rattle.std.proofs.lemmas.List.Elements.{Contains-append_right, Contains-append_cases, All-contains, All-nil}
use Rattle.std.proofs.lemmas.List.Elements.{All-head, All-weaker, All-contains_itself, Contains-get_or}
use Rattle.stamp_sets.specs.declared.open_call.OpenCall.{OpenCall}
use Rattle.stamp_sets.specs.declared.position.Position.{Position}
use Rattle.stamp_sets.specs.Judged.{Judged}
use Rattle.stamp_sets.specs.inner.State.{IsState}
use Rattle.stamp_sets.specs.inner.Effect.{Settles}
use Rattle.stamp_sets.specs.inner.Effect.Settles.{as_it_is, one_more}
use Rattle.stamp_sets.specs.inner.Lanes.{lanes_in}
use Rattle.stamp_sets.specs.inner.Layer.{Adds, AreReturned, Expands, FollowsIt, FollowsOne, IsComeTo}
use Rattle.stamp_sets.specs.Tracing.{IsReturnedFrom}
use Rattle.stamp_sets.specs.inner.Layer.{IsLookedAt, IsUnderWay, LooksAt, LooksThrough}
use Rattle.stamp_sets.specs.inner.Layer.{MoreFollow, ReturnsFromOne, ReturnsTo}
use Rattle.stamp_sets.specs.inner.Layer.IsComeTo.{by_effect, from_start}
use Rattle.stamp_sets.specs.inner.Start.{Includes}
use Rattle.stamp_sets.proofs.CountingLanes.{lanes_in_beyond, lanes_in_le, lanes_in_more}
use Rattle.stamp_sets.proofs.Effects.{state_after}
use Rattle.stamp_sets.proofs.Expanding.{tried_more}

pub none_in_nil : (x : Position) → ¬ Contains [] x
none_in_nil x (k, less, e) = absurd (omega arith)

pub contains_one : (p x : Position) → Contains (p ∷ []) x → p ≡ x
contains_one p x among = by (Contains-push_cases [] p x among)
  where
    by : Contains [] x ⊎ (p ≡ x) → p ≡ x
    by (inl none) = absurd (none_in_nil x none)
    by (inr same) = same

pub all_from : (P : Position → Type 0) (xs : List Position) → ((x : Position) → Contains xs x → P x) → All P xs
all_from P xs each = All-weaker (Contains xs) P each xs (All-contains_itself xs)

contains_take : (n : ℕ) (xs : List Position) (x : Position) → Contains (take n xs) x → Contains xs x
contains_take n xs x among = subst (λ (ys : List Position). Contains ys x) (take-append-drop n xs)
    (Contains-append_left (take n xs) (drop n xs) x among)

module _ {S : Type 0} (o : Judged S) (table : List (Option OpenCall)) where
  settled_more : (Lane : ℕ → Type 0) (p q : Position) → Settles o table Lane p q → lanes_in p.in_effect ≤ lanes_in
      q.in_effect
  settled_more Lane p q as_it_is = omega arith
  settled_more Lane p q (one_more x y rest last) = by (cases_lt last.lane 64) (settled_more Lane p x rest)
    where
      by : (last.lane < 64) ⊎ (64 ≤ last.lane) → lanes_in p.in_effect ≤ lanes_in x.in_effect →
          lanes_in p.in_effect ≤ lanes_in q.in_effect
      by (inl within) low = omega (
        arith,
        low,
        lanes_in_more x.in_effect q.in_effect last.lane within last.takes.sets
            last.takes.free,
      )
      by (inr beyond) low = omega (
        arith,
        low,
        lanes_in_beyond x.in_effect q.in_effect last.lane 1 beyond
            last.takes.sets,
      )

  -- each effect adds a lane
  follows_more : (awaited : ℕ) (p q : Position) → FollowsIt o table awaited p q → lanes_in p.in_effect + 1 ≤ lanes_in
      q.in_effect
  follows_more awaited p q follows = omega (
    arith,
    lanes_in_more p.in_effect follows.after.between.in_effect follows.lane follows.within follows.after.takes.sets
        follows.after.takes.free,
    settled_more (λ l. Unit {0}) follows.after.between q follows.after.settles,
  )

  -- what is come to from states tells states
  pub state_come : (awaited : ℕ) (start : List Position) → All (λ (p : Position). IsState o p.state) start →
      (x : Position) → IsComeTo o table awaited start x → IsState o x.state
  state_come awaited start all x (from_start p among) = All-contains (λ (p : Position). IsState o p.state) start x all
      among
  state_come awaited start all x (by_effect p q rest follows) =
      state_after o table awaited p x follows.lane (state_come awaited start all p rest) follows.after

  module _ (lane : ℕ) where
    looked_more : (x : Position) (d e n m : List Position) → Includes d e → Includes n m →
        IsLookedAt o table lane x d n → IsLookedAt o table lane x e m
    looked_more x d e n m grows grows_too (inl to) = inl (record {
      position = to.position;
      among = grows to.position to.among;
      returned = to.returned;
    })
    looked_more x d e n m grows grows_too (inr is) = inr (record {
      free = is.free;
      whole = λ u below. tried_more o table lane x u n m grows_too (is.whole u below);
    })

    pub looks_none : (done next : List Position) → LooksAt o table lane [] done done next next
    looks_none done next = record {
      done_grows = λ x is. is;
      next_grows = λ x is. is;
      done_only = λ x is. inl is;
      next_only = λ x is. inl is;
      different = λ are. are;
      each = λ x is. absurd (none_in_nil x is);
    }

    returns_among : (xs ys : List Position) (x : Position) → Includes xs ys → ReturnsFromOne lane xs x →
        ReturnsFromOne lane ys x
    returns_among xs ys x grows from =
        record { from = from.from; among = grows from.from from.among; returned = from.returned }

    follows_among : (xs ys : List Position) (x : Position) → Includes xs ys → FollowsOne o table lane xs x →
        FollowsOne o table lane ys x
    follows_among xs ys x grows from =
        record { from = from.from; among = grows from.from from.among; follows = from.follows }

    pub looks_more : (xs : List Position) (p : Position) (d e f m n w : List Position) →
        LooksAt o table lane xs d e m n → LooksAt o table lane (p ∷ []) e f n w →
        LooksAt o table lane (xs ++ p ∷ []) d f m w
    looks_more xs p d e f m n w first more = record {
      done_grows = λ x is. more.done_grows x (first.done_grows x is);
      next_grows = λ x is. more.next_grows x (first.next_grows x is);
      done_only = λ x is. returned x (more.done_only x is);
      next_only = λ x is. followed x (more.next_only x is);
      different = λ are. more.different (first.different are);
      each = λ x is. by x (Contains-append_cases xs (p ∷ []) x is);
    }
      where
        left : Includes xs (xs ++ p ∷ [])
        left x is = Contains-append_left xs (p ∷ []) x is

        right : Includes (p ∷ []) (xs ++ p ∷ [])
        right x is = Contains-append_right xs (p ∷ []) x is

        returned_before : (x : Position) → Contains d x ⊎ ReturnsFromOne lane xs x →
            Contains d x ⊎ ReturnsFromOne lane (xs ++ p ∷ []) x
        returned_before x (inl is) = inl is
        returned_before x (inr from) = inr (returns_among xs (xs ++ p ∷ []) x left from)

        returned : (x : Position) → Contains e x ⊎ ReturnsFromOne lane (p ∷ []) x →
            Contains d x ⊎ ReturnsFromOne lane (xs ++ p ∷ []) x
        returned x (inl is) = returned_before x (first.done_only x is)
        returned x (inr from) = inr (returns_among (p ∷ []) (xs ++ p ∷ []) x right from)

        followed_before : (x : Position) → Contains m x ⊎ FollowsOne o table lane xs x →
            Contains m x ⊎ FollowsOne o table lane (xs ++ p ∷ []) x
        followed_before x (inl is) = inl is
        followed_before x (inr from) = inr (follows_among xs (xs ++ p ∷ []) x left from)

        followed : (x : Position) → Contains n x ⊎ FollowsOne o table lane (p ∷ []) x →
            Contains m x ⊎ FollowsOne o table lane (xs ++ p ∷ []) x
        followed x (inl is) = followed_before x (first.next_only x is)
        followed x (inr from) = inr (follows_among (p ∷ []) (xs ++ p ∷ []) x right from)

        by : (x : Position) → Contains xs x ⊎ Contains (p ∷ []) x → IsLookedAt o table lane x f w
        by x (inl among) = looked_more x e f n w more.done_grows more.next_grows (first.each x among)
        by x (inr among) = more.each x among

    pub look_returned : (p q : Position) (d e n : List Position) → IsReturnedFrom lane p q → Adds d e q →
        LooksAt o table lane (p ∷ []) d e n n
    look_returned p q d e n returned adds = record {
      done_grows = adds.grows;
      next_grows = λ x is. is;
      done_only = λ x is. by x (adds.only x is);
      next_only = λ x is. inl is;
      different = λ are. are;
      each = λ x is. subst (λ (y : Position). IsLookedAt o table lane y e n) (contains_one p x is)
          (inl (record { position = q; among = adds.has; returned = returned }));
    }
      where
        by : (x : Position) → Contains d x ⊎ (x ≡ q) → Contains d x ⊎ ReturnsFromOne lane (p ∷ []) x
        by x (inl is) = inl is
        by x (inr same) = inr (subst (λ (y : Position). ReturnsFromOne lane (p ∷ []) y) (sym same)
            (record { from = p; among = Contains-push [] p; returned = returned }))

    pub look_expanded : (p : Position) (d m n : List Position) → bit_at p.in_effect lane ≡ 0 →
        Expands o table lane p (λ (l : ℕ). l < 64) m n → LooksAt o table lane (p ∷ []) d d m n
    look_expanded p d m n free expands = record {
      done_grows = λ x is. is;
      next_grows = expands.grows;
      done_only = λ x is. inl is;
      next_only = λ x is. by x (expands.only x is);
      different = expands.different;
      each = λ x is. subst (λ (y : Position). IsLookedAt o table lane y d n) (contains_one p x is)
          (inr (record { free = free; whole = expands.whole }));
    }
      where
        by : (x : Position) → Contains m x ⊎ FollowsIt o table lane p x → Contains m x ⊎ FollowsOne o table lane
            (p ∷ []) x
        by x (inl is) = inl is
        by x (inr follows) = inr (record { from = p; among = Contains-push [] p; follows = follows })

    under_way_first : (start : List Position) → IsUnderWay o table lane start [] start 0
    under_way_first start = record {
      seen = [];
      starts = λ x is. is;
      come = λ x is. from_start x is;
      each = λ x is. absurd (none_in_nil x is);
      done_only = λ x is. absurd (none_in_nil x is);
      more = λ k d less. omega arith;
    }

    under_way_more : (start done layer then_done next : List Position) (depth : ℕ) →
        IsUnderWay o table lane start done layer depth → LooksAt o table lane layer done then_done [] next →
        IsUnderWay o table lane start then_done next (depth + 1)
    under_way_more start done layer then_done next depth under looks = record {
      seen = under.seen ++ layer;
      starts = λ x is. before x (under.starts x is);
      come = λ x is. comes x (Contains-append_cases (under.seen ++ layer) next x is);
      each = λ x is. looked x (Contains-append_cases under.seen layer x is);
      done_only = λ x is. returned x (looks.done_only x is);
      more = all_from (λ (p : Position). depth + 1 ≤ lanes_in p.in_effect) next
          (λ x is. let low : depth ≤ lanes_in (from x is).from.in_effect =
          All-contains (λ (p : Position). depth ≤ lanes_in p.in_effect) layer (from x is).from under.more
          (from x is).among in let high = follows_more lane (from x is).from x (from x is).follows in omega (
            arith,
            low,
            high,
          ));
    }
      where
        before : Includes (under.seen ++ layer) ((under.seen ++ layer) ++ next)
        before x is = Contains-append_left (under.seen ++ layer) next x is

        later : Includes next ((under.seen ++ layer) ++ next)
        later x is = Contains-append_right (under.seen ++ layer) next x is

        one_of : (x : Position) → Contains [] x ⊎ FollowsOne o table lane layer x → FollowsOne o table lane layer x
        one_of x (inl none) = absurd (none_in_nil x none)
        one_of x (inr follows) = follows

        from : (x : Position) → Contains next x → FollowsOne o table lane layer x
        from x is = one_of x (looks.next_only x is)

        comes : (x : Position) → Contains (under.seen ++ layer) x ⊎ Contains next x → IsComeTo o table lane start x
        comes x (inl is) = under.come x is
        comes x (inr is) = by_effect (from x is).from x (under.come (from x is).from
            (Contains-append_right under.seen layer (from x is).from (from x is).among)) (from x is).follows

        looked : (x : Position) → Contains under.seen x ⊎ Contains layer x →
            IsLookedAt o table lane x then_done ((under.seen ++ layer) ++ next)
        looked x (inl is) = looked_more x done then_done (under.seen ++ layer) ((under.seen ++ layer) ++ next)
            looks.done_grows before (under.each x is)
        looked x (inr is) = looked_more x then_done then_done next ((under.seen ++ layer) ++ next) (λ y one. one) later
            (looks.each x is)

        returned : (x : Position) → Contains done x ⊎ ReturnsFromOne lane layer x →
            ReturnsFromOne lane (under.seen ++ layer) x
        returned x (inl is) = returns_among under.seen (under.seen ++ layer) x
            (λ y one. Contains-append_left under.seen layer y one) (under.done_only x is)
        returned x (inr one) = returns_among layer (under.seen ++ layer) x
            (λ y one. Contains-append_right under.seen layer y one) one

    pub under_way_end : (start done layer : List Position) (depth : ℕ) → layer ≡ [] →
        IsUnderWay o table lane start done layer depth → IsUnderWay o table lane start done [] 0
    under_way_end start done layer depth empty under = record {
      seen = under.seen;
      starts = λ x is. subst (λ (ys : List Position). Contains (under.seen ++ ys) x) empty (under.starts x is);
      come = λ x is. under.come x (subst (λ (ys : List Position). Contains (under.seen ++ ys) x) (sym empty) is);
      each = λ x is. subst (λ (ys : List Position). IsLookedAt o table lane x done (under.seen ++ ys)) empty
          (under.each x is);
      done_only = under.done_only;
      more = All-nil (λ (p : Position). 0 ≤ lanes_in p.in_effect);
    }

    pub returned_one : (start done : List Position) → AreReturned lane start done → (x : Position) →
        Contains done x → ReturnsFromOne lane start x
    returned_one start done are x (k, less, same) =
        let low : k < length start = let many = are.many in omega (arith, many, less) in record {
          from = get_or start k x;
          among = Contains-get_or start k x low;
          returned = subst (λ (y : Position). IsReturnedFrom lane (get_or start k x) y) same (are.each k x low);
        }

    -- where it is in effect in each position it returns from each
    pub under_way_returned : (start done : List Position) → AreReturned lane start done →
        IsUnderWay o table lane start done [] 0
    under_way_returned start done are = record {
      seen = start;
      starts = λ x is. Contains-append_left start [] x is;
      come = λ x is. from_start x (subst (λ (ys : List Position). Contains ys x) (append-nil start) is);
      each = λ x is. inl (to x is);
      done_only = returned_one start done are;
      more = All-nil (λ (p : Position). 0 ≤ lanes_in p.in_effect);
    }
      where
        to : (x : Position) → Contains start x → ReturnsTo lane x done
        to x (k, less, same) = record {
          position = get_or done k x;
          among = Contains-get_or done k x (let many = are.many in omega (arith, many, less));
          returned = subst (λ (y : Position). IsReturnedFrom lane y (get_or done k x)) same (are.each k x less);
        }

    -- so it is in effect in each
    pub taken_each : (start done : List Position) → AreReturned lane start done → (x : Position) → Contains start x →
        bit_at x.in_effect lane ≡ 1
    taken_each start done are x (k, less, same) =
        subst (λ (y : Position). bit_at y.in_effect lane ≡ 1) same (are.each k x less).taken

    pub under_way_deep : (start done layer : List Position) (depth : ℕ) → 65 ≤ depth →
        IsUnderWay o table lane start done layer depth → IsUnderWay o table lane start done [] 0
    under_way_deep start done layer depth deep under =
        under_way_end start done layer depth (none layer under.more) under
      where
        none : (xs : List Position) → All (λ (p : Position). depth ≤ lanes_in p.in_effect) xs → xs ≡ []
        none [] all = refl
        none (x ∷ xs) all =
            let high : depth ≤ lanes_in x.in_effect =
            All-head (λ (p : Position). depth ≤ lanes_in p.in_effect) x xs all in
            let low : lanes_in x.in_effect ≤ 64 = lanes_in_le x.in_effect in
            absurd (omega (arith, high, low, deep))

    more_follow : (start done layer then_done next : List Position) (depth seen most : ℕ) →
        IsUnderWay o table lane start done layer depth →
        LooksAt o table lane (take seen layer) done then_done [] next → most < length next →
        MoreFollow o table lane start most
    more_follow start done layer then_done next depth seen most under looks many = record {
      many = next;
      more = many;
      different = looks.different (λ i j d below within. absurd (omega arith));
      come = λ x is. on x (looks.next_only x is);
    }
      where
        on : (x : Position) → Contains [] x ⊎ FollowsOne o table lane (take seen layer) x → IsComeTo o table lane start
            x
        on x (inl none) = absurd (none_in_nil x none)
        on x (inr one) = by_effect one.from x (under.come one.from (Contains-append_right under.seen layer one.from
            (contains_take seen layer one.from one.among))) one.follows

    -- the same by what the code reads
    pub first_layer : (start done layer : List Position) → done ≡ [] → layer ≡ start →
        IsUnderWay o table lane start done layer 0
    first_layer start done layer none same =
        subst (λ (xs : List Position). IsUnderWay o table lane start xs layer 0) (sym none)
        (subst (λ (xs : List Position). IsUnderWay o table lane start [] xs 0) (sym same) (under_way_first start))

    pub next_layer : (start done layer slice then_done first next : List Position) (depth most : ℕ) (all : Bool) →
        IsUnderWay o table lane start done layer depth → slice ≡ layer → first ≡ [] →
        LooksThrough o table lane slice done then_done first next most all → all ≡ true →
        IsUnderWay o table lane start then_done next (depth + 1)
    next_layer start done layer slice then_done first next depth most all under same none looks whole =
        under_way_more start done layer then_done next depth under
        (subst (λ (xs : List Position). LooksAt o table lane layer done then_done xs next) none
        (subst (λ (xs : List Position). LooksAt o table lane xs done then_done first next)
        (looks.whole whole ∙ same) looks.looks))

    pub too_many : (start done layer slice then_done first next : List Position) (depth most : ℕ) (all : Bool) →
        IsUnderWay o table lane start done layer depth → slice ≡ layer → first ≡ [] →
        LooksThrough o table lane slice done then_done first next most all → all ≡ false →
        MoreFollow o table lane start most
    too_many start done layer slice then_done first next depth most all under same none looks part =
        more_follow start done layer then_done next depth looks.seen most under
        (subst (λ (xs : List Position). LooksAt o table lane (take looks.seen layer) done then_done xs next) none
        (subst (λ (xs : List Position). LooksAt o table lane (take looks.seen xs) done then_done first next) same
        looks.looks)) (looks.many part)

    pub layer_states : (start done layer slice : List Position) (depth : ℕ) →
        IsUnderWay o table lane start done layer depth → slice ≡ layer →
        All (λ (p : Position). IsState o p.state) start → All (λ (p : Position). IsState o p.state) slice
    layer_states start done layer slice depth under same all = all_from (λ (p : Position). IsState o p.state) slice
        (λ x is. state_come lane start all x (under.come x (Contains-append_right under.seen layer x
        (subst (λ (ys : List Position). Contains ys x) same is))))

-- it has returned from the first of these
pub record ReturnedSoFar (lane n : ℕ) (old now : List Position) : Type 0 where
  pub many : length now ≡ length old
  pub each : (k : ℕ) (d : Position) → k < n → k < length old → IsReturnedFrom lane (get_or old k d) (get_or now k d)
  pub rest : (k : ℕ) (d : Position) → n ≤ k → get_or now k d ≡ get_or old k d

pub returned_none : (lane : ℕ) (xs : List Position) → ReturnedSoFar lane 0 xs xs
returned_none lane xs = record {
  many = refl;
  each = λ k d none less. absurd (omega arith);
  rest = λ k d low. refl;
}

pub returned_more : (lane n : ℕ) (old now : List Position) (d q : Position) → n < length now →
    IsReturnedFrom lane (get_or now n d) q → ReturnedSoFar lane n old now →
    ReturnedSoFar lane (n + 1) old (set now n q)
returned_more lane n old now d q within returns so_far = record {
  many = length-set now n q ∙ so_far.many;
  each = λ k e below less. each k e below less (cases_eq k n);
  rest = λ k e low. get_or-set_other now n k q e (λ same. absurd (omega arith)) ∙ so_far.rest k e (omega arith);
}
  where
    each : (k : ℕ) (e : Position) → k < n + 1 → k < length old → (k ≡ n) ⊎ (k ≢ n) →
        IsReturnedFrom lane (get_or old k e) (get_or (set now n q) k e)
    each k e below less (inr apart) = subst (λ (x : Position). IsReturnedFrom lane (get_or old k e) x)
        (sym (get_or-set_other now n k q e apart)) (so_far.each k e (omega arith) less)
    each k e below less (inl same) =
        subst (λ (i : ℕ). IsReturnedFrom lane (get_or old i e) (get_or (set now n q) i e)) (sym same)
        (subst (λ (x : Position). IsReturnedFrom lane (get_or old n e) x) (sym (get_or-set_same now n q e within))
        (subst (λ (x : Position). IsReturnedFrom lane x q)
        (get_or_default now n d e within ∙ so_far.rest n e (omega arith)) returns))

pub taken_rest : (lane n : ℕ) (old now : List Position) (d : Position) → n < length old →
    ReturnedSoFar lane n old now → All (λ (p : Position). bit_at p.in_effect lane ≡ 1) old →
    bit_at (get_or now n d).in_effect lane ≡ 1
taken_rest lane n old now d less so_far are =
    subst (λ (x : Position). bit_at x.in_effect lane ≡ 1) (sym (so_far.rest n d (omega arith))) (are n d less)

pub all_returned : (lane n : ℕ) (old now : List Position) → length now ≤ n → ReturnedSoFar lane n old now →
    AreReturned lane old now
all_returned lane n old now all so_far = record {
  many = so_far.many;
  each = λ k d less. let many = so_far.many in so_far.each k d (omega (arith, many)) less;
}
