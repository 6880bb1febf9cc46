-- Calls that read and took effect between two positions, in the order of their lanes.
use Rattle.std.proofs.Common.{ℕ, zero, suc, ◌≡◌, ◌≢◌, ◌⊎◌, ◌<◌, ◌≤◌, ◌+◌, Bool, true, false, List, [], ◌∷◌, length}
use Rattle.std.proofs.Common.{Option, Some, None, refl, sym, ◌∙◌, ap, subst, inl, inr, arith, eqb-true}
use Rattle.std.specs.Prelude.{◌==◌, ◌&&◌, not, map, if◌then◌else◌}
use Rattle.std.specs.Int.{bit_at}
use Rattle.std.specs.List.{All}
use Rattle.std.proofs.lemmas.Bool.{and_parts, cases_eq, eq-eqb}
use Rattle.std.proofs.lemmas.Option.{none-some}
use Rattle.std.proofs.lemmas.List.Elements.{All-cons, All-nil, All-head, All-tail, All-weaker}
use Rattle.std.specs.Cmp.Derive.{both_true}
use Rattle.stamp_core.specs.declared.call.Call.{Call}
use Rattle.stamp_core.specs.declared.reply.Reply.{Reply}
use Rattle.stamp_core.specs.declared.reply.Reply.TheVariants.{Done}
use Rattle.stamp_runs.specs.Object.{Object}
use Rattle.stamp_runs.specs.Run.{Lanes, Phase}
use Rattle.stamp_runs.specs.Run.Phase.{Asks, Gets}
use Rattle.stamp_runs.specs.Position as run
use Rattle.stamp_runs.proofs.Lanes.{asks_or_gets, sets_of, true_or_false}
use Rattle.stamp_runs.proofs.Traces.{AreOfOwnLanes, IsRead, NotIts, ReadInTurn, read_in_turn}
use Rattle.stamp_sets.specs.declared.open_call.OpenCall.{OpenCall}
use Rattle.stamp_sets.specs.declared.position.Position.{Position}
use Rattle.stamp_sets.specs.declared.trail.Link.{Link}
use Rattle.stamp_sets.specs.declared.trail.Way.{Way}
use Rattle.stamp_sets.specs.Judged.{Judged}
use Rattle.stamp_sets.specs.Kept.{Reads}
use Rattle.stamp_sets.specs.Lanes.{SetsBit}
use Rattle.stamp_sets.specs.Told.{open_at}
use Rattle.stamp_sets.specs.inner.Effect.{Settles}
use Rattle.stamp_sets.specs.inner.Effect.Settles.{as_it_is, one_more}
use Rattle.stamp_sets.specs.Tracing.{is_reader, lane_in, readers_from, readers_of}
use Rattle.stamp_sets.proofs.Reading.{AsksIn, asked_at, asks_at, gets_at, moved, taken_at, unfree_at}
use Rattle.stamp_sets.proofs.Settled.{Sees, SettledTo}
use Rattle.stamp_sets.proofs.Settled.Sees.{sees_more, sees_none}
use Rattle.stamp_sets.proofs.Tables.{idle_apart, open_at_within}

-- a call of the lane was seen to take effect
pub record WasSeen {S : Type 0} (O : Object S) (Lane : ℕ → Type 0) (t : S) (v : ℕ) (before after : Phase) : Type 0
  where
    pub call : Call
    pub reply : Reply
    pub among : Lane v
    pub asks : before ≡ Asks call
    pub step : O t call reply t
    pub gets : after ≡ Gets reply

pub seen_at : {S : Type 0} (O : Object S) (Lane : ℕ → Type 0) (t : S) (a c : Lanes) → Sees O Lane t a c → (v : ℕ) →
    (c v ≡ a v) ⊎ WasSeen O Lane t v (a v) (c v)
seen_at O Lane t a c sees_none v = inl refl
seen_at O Lane t a c (sees_more b itself lane call reply before among asks step sets) v =
    by v (cases_eq v lane) (seen_at O Lane t a b before v)
  where
    here : (b lane ≡ a lane) ⊎ WasSeen O Lane t lane (a lane) (b lane) → WasSeen O Lane t lane (a lane) (c lane)
    here (inl same) = record {
      call = call;
      reply = reply;
      among = among;
      asks = sym same ∙ asks;
      step = step;
      gets = sets.here;
    }
    here (inr seen) = absurd (asks_or_gets asks seen.gets)

    by : (v : ℕ) → (v ≡ lane) ⊎ (v ≢ lane) → (b v ≡ a v) ⊎ WasSeen O Lane t v (a v) (b v) →
        (c v ≡ a v) ⊎ WasSeen O Lane t v (a v) (c v)
    by v (inl same) was = inr (subst (λ (w : ℕ). WasSeen O Lane t w (a w) (c w)) (sym same)
        (here (subst (λ (w : ℕ). (b w ≡ a w) ⊎ WasSeen O Lane t w (a w) (b w)) same was)))
    by v (inr apart) (inl same) = inl (sets.others v apart ∙ same)
    by v (inr apart) (inr seen) = inr (record {
      call = seen.call;
      reply = seen.reply;
      among = seen.among;
      asks = seen.asks;
      step = seen.step;
      gets = sets.others v apart ∙ seen.gets;
    })

-- a lane whose bit was set has an open call
open_settled : {S : Type 0} (o : Judged S) (table : List (Option OpenCall)) (Lane : ℕ → Type 0) (p q : Position) →
    Settles o table Lane p q → (v : ℕ) →
    (bit_at q.in_effect v ≡ bit_at p.in_effect v) ⊎ ((begun : OpenCall) × (open_at table v ≡ Some begun))
open_settled o table Lane p q as_it_is v = inl refl
open_settled o table Lane p q (one_more x y rest last) v =
    by (cases_eq v last.lane) (open_settled o table Lane p x rest v)
  where
    by : (v ≡ last.lane) ⊎ (v ≢ last.lane) →
        (bit_at x.in_effect v ≡ bit_at p.in_effect v) ⊎ ((begun : OpenCall) × (open_at table v ≡ Some begun)) →
        (bit_at q.in_effect v ≡ bit_at p.in_effect v) ⊎ ((begun : OpenCall) × (open_at table v ≡ Some begun))
    by (inl same) was = inr (
      last.takes.begun,
      subst (λ (w : ℕ). open_at table w ≡ Some last.takes.begun) (sym same) last.takes.is_open,
    )
    by (inr apart) (inl same) = inl (last.takes.sets.others v apart ∙ same)
    by (inr apart) (inr opens) = inr opens

-- so those without one stay as they were
pub idle_settled : {S : Type 0} (o : Judged S) (table : List (Option OpenCall)) (Lane : ℕ → Type 0)
    (x there p : Position) (lane : ℕ) (begun : OpenCall) → open_at table lane ≡ Some begun →
    SetsBit x.in_effect there.in_effect lane 1 → Settles o table Lane there p →
    ((v : ℕ) → open_at table v ≡ None → bit_at x.in_effect v ≡ 0) → (v : ℕ) → open_at table v ≡ None →
    bit_at p.in_effect v ≡ 0
idle_settled o table Lane x there p lane begun is_open sets settles idle v none =
    by (open_settled o table Lane there p settles v)
  where
    by : (bit_at p.in_effect v ≡ bit_at there.in_effect v) ⊎ ((other : OpenCall) × (open_at table v ≡ Some other)) →
        bit_at p.in_effect v ≡ 0
    by (inl same) = same ∙
        sets.others v (λ at. idle_apart table v lane begun none is_open (sym at)) ∙ idle v none
    by (inr (other, opens)) = absurd (none-some other (sym none ∙ opens))

not_eq : (a b : ℕ) → not (a == b) ≡ true → a ≢ b
not_eq a b differ same = by (a == b) differ (eq-eqb a b same)
  where
    by : (c : Bool) → not c ≡ true → c ≡ true → ⊥
    by true differs is = true_or_false differs refl
    by false differs is = true_or_false is refl

eq_not : (a b : ℕ) → a ≢ b → not (a == b) ≡ true
eq_not a b apart = by (a == b) refl
  where
    by : (c : Bool) → (a == b) ≡ c → not c ≡ true
    by true is = absurd (apart (eqb-true a b is))
    by false is = refl

-- so is a lane among the readers of a link
pub record ReadsIn (link : Link) (v : ℕ) : Type 0 where
  pub apart : v ≢ link.lane
  pub taken : bit_at link.to.in_effect v ≡ 1
  pub waited : bit_at link.from.in_effect v ≡ 0

reader_in : (link : Link) (v : ℕ) → is_reader link v ≡ true → ReadsIn link v
reader_in link v is =
    let one = and_parts (not (v == link.lane)) ((bit_at link.to.in_effect v == 1) && (bit_at link.from.in_effect v
    == 0))
    is in
    let two = and_parts (bit_at link.to.in_effect v == 1) (bit_at link.from.in_effect v == 0) one.1 in record {
      apart = not_eq v link.lane one.0;
      taken = eqb-true (bit_at link.to.in_effect v) 1 two.0;
      waited = eqb-true (bit_at link.from.in_effect v) 0 two.1;
    }

in_reader : (link : Link) (v : ℕ) → ReadsIn link v → is_reader link v ≡ true
in_reader link v is = both_true (eq_not v link.lane is.apart) (both_true
    (eq-eqb (bit_at link.to.in_effect v) 1 is.taken) (eq-eqb (bit_at link.from.in_effect v) 0 is.waited))

-- the readers of a link, each with its reply
module _ (link : Link) (told : ℕ → Reply) where
  abbrev answered : ℕ → ℕ × Reply
  answered v = (v, told v)

  pub lanes_answered : (vs : List ℕ) → map lane_in (map answered vs) ≡ vs
  lanes_answered [] = refl
  lanes_answered (v ∷ vs) = ap (λ (ws : List ℕ). v ∷ ws) (lanes_answered vs)

  abbrev later : ℕ → ℕ → List (ℕ × Reply)
  later k n = map answered (readers_from link k n)

  -- lane by lane
  turns : (P : ℕ → ℕ → List (ℕ × Reply) → Type 0) → ((k : ℕ) → P k zero []) →
      ((k n : ℕ) → is_reader link k ≡ true → P (k + 1) n (later (k + 1) n) →
      P k (suc n) (answered k ∷ later (k + 1) n)) →
      ((k n : ℕ) → is_reader link k ≡ false → P (k + 1) n (later (k + 1) n) → P k (suc n) (later (k + 1) n)) →
      (n k : ℕ) → P k n (later k n)
  unfolding readers_from
  turns P none takes skips zero k = none k
  turns P none takes skips (suc n) k = by (is_reader link k) refl (turns P none takes skips n (k + 1))
    where
      by : (b : Bool) → is_reader link k ≡ b → P (k + 1) n (later (k + 1) n) →
          P k (suc n) (map answered (if b then k ∷ readers_from link (k + 1) n else readers_from link (k + 1) n))
      by true is rest = takes k n is rest
      by false is rest = skips k n is rest

  each_turn : (P : ℕ × Reply → Type 0) → ((v : ℕ) → is_reader link v ≡ true → P (answered v)) → (n k : ℕ) →
      All P (later k n)
  each_turn P each = turns (λ k n xs. All P xs) (λ k. All-nil P)
      (λ k n is rest. All-cons P (answered k) (later (k + 1) n) (each k is) rest) (λ k n is rest. rest)

  from_turn : (n k : ℕ) → All (λ (x : ℕ × Reply). k ≤ x.0) (later k n)
  from_turn = turns (λ k n xs. All (λ (x : ℕ × Reply). k ≤ x.0) xs) (λ k. All-nil (λ (x : ℕ × Reply). k ≤ x.0))
      (λ k n is rest. All-cons (λ (x : ℕ × Reply). k ≤ x.0) (answered k) (later (k + 1) n) (omega arith)
      (λ i d less. let high = rest i d less in omega (arith, high)))
      (λ k n is rest i d less. let high = rest i d less in omega (arith, high))

  among_turn : (v n k : ℕ) → k ≤ v → v < k + n → All (λ (x : ℕ × Reply). v ≢ x.0) (later k n) →
      is_reader link v ≡ false
  among_turn v = turns (λ k n xs. k ≤ v → v < k + n → All (λ (x : ℕ × Reply). v ≢ x.0) xs → is_reader link v ≡ false)
      (λ k low high none. absurd (omega (arith, low, high)))
      (λ k n is rest low high none. by k n (cases_eq v k)
      (λ same. absurd (All-head (λ (x : ℕ × Reply). v ≢ x.0) (answered k) (later (k + 1) n) none same))
      (λ apart. rest (omega (arith, low, apart)) (omega (arith, high))
      (All-tail (λ (x : ℕ × Reply). v ≢ x.0) (answered k) (later (k + 1) n) none)))
      (λ k n is rest low high none. by k n (cases_eq v k)
      (λ same. subst (λ (w : ℕ). is_reader link w ≡ false) (sym same) is)
      (λ apart. rest (omega (arith, low, apart)) (omega (arith, high)) none))
    where
      by : (k n : ℕ) → (v ≡ k) ⊎ (v ≢ k) → (v ≡ k → is_reader link v ≡ false) →
          (v ≢ k → is_reader link v ≡ false) → is_reader link v ≡ false
      by k n (inl same) one other = one same
      by k n (inr apart) one other = other apart

-- between the first position and the last a call of this lane took effect, and z what settled
module _ {S : Type 0} (o : Judged S) (table : List (Option OpenCall)) (full : length table ≡ 64)
    (Lane : ℕ → Type 0) (way : Way) (x y there z : Position) (lane : ℕ) (p : run.Position S)
    (reads : Reads o table x p) (reply : Reply) (next : S) (free : ℕ) (sets : SetsBit x.in_effect there.in_effect
    lane 1)
    (settles : Settles o table Lane there z) (same : y.in_effect ≡ z.in_effect)
    (to : SettledTo o table Lane z (moved p lane (Gets reply) next free))
  where
    abbrev pub link : Link
    link = record { way = way; lane = lane; from = x; to = y }

    abbrev first : run.Position S
    first = moved p lane (Gets reply) next free

    seen : (v : ℕ) → (to.then.lanes v ≡ first.lanes v) ⊎ WasSeen o.step Lane next v (first.lanes v) (to.then.lanes v)
    seen = seen_at o.step Lane next first.lanes to.then.lanes to.sees

    told_by : (v : ℕ) →
        (to.then.lanes v ≡ first.lanes v) ⊎ WasSeen o.step Lane next v (first.lanes v) (to.then.lanes v) → Reply
    told_by v (inl still) = Done
    told_by v (inr was) = was.reply

    told : ℕ → Reply
    told v = told_by v (seen v)

    -- what is known of a reader
    pub record ReadsAt (r : ℕ × Reply) : Type 0 where
      pub read : IsRead o.step o.start next first.lanes to.then.lanes r
      pub among : Lane r.0
      pub not_free : to.then.free r.0 ≡ false

    -- its lane is open, asked before, and gets z
    reads_at : (v : ℕ) → ReadsIn link v → ReadsAt (v, told v)
    unfolding told told_by
    reads_at v is = by (open_settled o table Lane there z settles v)
      where
        took : bit_at z.in_effect v ≡ 1
        took = subst (λ (n : ℕ). bit_at n v ≡ 1) same is.taken

        waited : bit_at there.in_effect v ≡ 0
        waited = sets.others v is.apart ∙ is.waited

        known : (begun : OpenCall) → open_at table v ≡ Some begun →
            (at : (to.then.lanes v ≡ first.lanes v) ⊎
            WasSeen o.step Lane next v (first.lanes v) (to.then.lanes v)) → ReadsAt (v, told_by v at)
        known begun is_open (inl still) = absurd (asks_or_gets (still ∙ (sets_of p.lanes lane (Gets reply)).others v
            is.apart ∙ asks_at o table reads v begun is_open is.waited) (gets_at o table to.reads v begun is_open
            took).gets)
        known begun is_open (inr was) = record {
          read = record { call = was.call; asks = was.asks; step = was.step; gets = was.gets };
          among = was.among;
          not_free = unfree_at o table z to.then v to.reads
              (λ free. let waits = (to.reads.kinds v free).waits in omega (arith, waits, took));
        }

        by : (bit_at z.in_effect v ≡ bit_at there.in_effect v) ⊎
            ((begun : OpenCall) × (open_at table v ≡ Some begun)) → ReadsAt (v, told_by v (seen v))
        by (inl still) = absurd (omega (arith, still, took, waited))
        by (inr (begun, is_open)) = known begun is_open (seen v)

    -- who was seen is among the readers
    seen_in : (v : ℕ) → WasSeen o.step Lane next v (first.lanes v) (to.then.lanes v) → (v < 64) × ReadsIn link v
    seen_in v was = (
      (let low = open_at_within table v asked.begun asked.is_open in omega (arith, low, full)),
      record {
        apart = apart;
        taken = subst (λ (n : ℕ). bit_at n v ≡ 1) (sym same) (taken_at o table to.reads v asked.begun
            asked.is_open was.reply was.gets);
        waited = asked.free;
      },
    )
      where
        apart : v ≢ lane
        apart e = asks_or_gets was.asks (subst (λ (w : ℕ). first.lanes w ≡ Gets reply) (sym e)
            (sets_of p.lanes lane (Gets reply)).here)

        asked : AsksIn (open_at table v) (bit_at x.in_effect v) was.call
        asked = asked_at o table reads v was.call (sym ((sets_of p.lanes lane (Gets reply)).others v apart) ∙ was.asks)

    -- the readers in turn
    pub record AreRead : Type 0 where
      pub readers : List (ℕ × Reply)
      pub lanes : map lane_in readers ≡ readers_of link
      pub in_turn : ReadInTurn o.step o.start next first.lanes readers to.then.lanes
      pub among : All (λ (r : ℕ × Reply). Lane r.0) readers
      pub unfree : All (λ (r : ℕ × Reply). to.then.free r.0 ≡ false) readers

    own : (n k : ℕ) → AreOfOwnLanes o.step o.start (later link told k n)
    own = turns link told (λ k n xs. AreOfOwnLanes o.step o.start xs) (λ k. tt)
        (λ k n is rest. (
          (λ i d less same. let high = from_turn link told n (k + 1) i d less in
              omega (arith, high, same)),
          rest,
        )) (λ k n is rest. rest)

    pub are_read : AreRead
    unfolding readers_of
    are_read = record {
      readers = later link told 0 64;
      lanes = lanes_answered link told (readers_from link 0 64);
      in_turn = read_in_turn o.step o.start next first.lanes to.then.lanes (later link told 0 64) (own 64 0)
          (All-weaker ReadsAt (IsRead o.step o.start next first.lanes to.then.lanes) (λ r is. is.read)
          (later link told 0 64) each) others;
      among = All-weaker ReadsAt (λ (r : ℕ × Reply). Lane r.0) (λ r is. is.among) (later link told 0 64) each;
      unfree = All-weaker ReadsAt (λ (r : ℕ × Reply). to.then.free r.0 ≡ false) (λ r is. is.not_free)
          (later link told 0 64) each;
    }
      where
        each : All ReadsAt (later link told 0 64)
        each = each_turn link told ReadsAt (λ v is. reads_at v (reader_in link v is)) 64 0

        others : (v : ℕ) → All (NotIts o.step o.start v) (later link told 0 64) → to.then.lanes v ≡ first.lanes v
        others v none = by (seen v)
          where
            by : (to.then.lanes v ≡ first.lanes v) ⊎
                WasSeen o.step Lane next v (first.lanes v) (to.then.lanes v) → to.then.lanes v ≡ first.lanes v
            by (inl still) = still
            by (inr was) = let it = seen_in v was in absurd (true_or_false (in_reader link v it.1)
                (among_turn link told v 64 0 (omega arith) (let low = it.0 in omega (arith, low)) none))
