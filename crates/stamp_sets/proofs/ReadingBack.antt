-- An order that is read back from a trail.
use Rattle.std.proofs.Common.{ℕ, suc, ◌≡◌, ◌<◌, ◌≤◌, ◌+◌, ◌-◌, Bool, true, false, List, [], ◌∷◌, ◌++◌}
use Rattle.std.proofs.Common.{◌≢◌, ◌⊎◌, inl, inr, refl, sym, ◌∙◌, ap, subst, arith, append-nil, append_assoc}
use Rattle.std.specs.Prelude.{map, reverse, take, if◌then◌else◌}
use Rattle.std.proofs.lemmas.Bool.{cases_eq}
use Rattle.std.proofs.lemmas.List.{map-append, reverse-append, reverse-reverse, take_more}
use Rattle.std.specs.Int.{bit_at}
use Rattle.stamp_core.specs.declared.reply.Reply.{Reply}
use Rattle.stamp_runs.specs.Trace.{Move, Taken, order_from, order_of, taken_at}
use Rattle.stamp_runs.specs.Trace.Move.{Takes as taking, Frees as freeing}
use Rattle.stamp_sets.specs.declared.order.EffectAt.{EffectAt}
use Rattle.stamp_sets.specs.declared.order.Walk.{Walk}
use Rattle.stamp_sets.specs.declared.position.Position.{Position}
use Rattle.stamp_sets.specs.declared.trail.Entry.{Entry}
use Rattle.stamp_sets.specs.declared.trail.Entry.TheVariants.{Begins, Comes, Returns}
use Rattle.stamp_sets.specs.declared.trail.Link.{Link}
use Rattle.stamp_sets.specs.Tracing.{IsReturnedFrom}
use Rattle.stamp_sets.specs.Order.{effect_at}
use Rattle.stamp_sets.specs.inner.Order.{WalksTo, at_point, lanes_at, turns_of}
use Rattle.stamp_sets.specs.Lanes.{SetsBit}
use Rattle.stamp_sets.specs.declared.trail.Way.{Way}
use Rattle.stamp_sets.specs.declared.trail.Way.TheVariants.{Takes, Frees, Hides}
use Rattle.stamp_sets.specs.Tracing.{IsSaidBy, Says, events_in, is_reader, lane_in, moves_by, read_at}
use Rattle.stamp_sets.specs.Tracing.{readers_from, readers_of}
use Rattle.stamp_sets.specs.declared.open_call.OpenCall.{OpenCall}
use Rattle.stamp_sets.specs.Judged.{Judged}
use Rattle.stamp_sets.specs.inner.Order.{IsOrderOf}
use Rattle.stamp_sets.specs.Tracing.{IsTracedBy}
use Rattle.std.proofs.Common.{Option, length, get_or}
use Rattle.std.proofs.lemmas.Nat.Bits.{same_from_bits}
use Rattle.stamp_runs.specs.Position.Hidden.{no_more}
use Rattle.stamp_runs.specs.declared.event.Event.{Event}
use Rattle.stamp_runs.proofs.Tracing.{trace_leads}

-- the last element before a place is the first one of those read back
pub last_first : {X : Type 0} (xs : List X) (place : ℕ) (d : X) → 0 < place → place ≤ length xs →
    reverse (take place xs) ≡ get_or xs (place - 1) d ∷ reverse (take (place - 1) xs)
last_first {X} xs place d some within =
    ap (λ (n : ℕ). reverse (take n xs)) (omega (arith, some)) ∙
    ap (λ (ys : List X). reverse ys) (take_more xs (place - 1) d (omega (arith, some, within))) ∙
    reverse-append (take (place - 1) xs) (get_or xs (place - 1) d ∷ [])

readers_by : (link : Link) (k n : ℕ) (b : Bool) → is_reader link k ≡ b → readers_from link k (suc n) ≡
    (if b then k ∷ readers_from link (k + 1) n else readers_from link (k + 1) n)
unfolding readers_from
readers_by link k n b is =
    ap (λ (c : Bool). if c then k ∷ readers_from link (k + 1) n else readers_from link (k + 1) n) is

-- the calls of a link so far, from the last one on
module _ (link : Link) (point : ℕ) where
  abbrev pub turns_from : ℕ → List EffectAt
  turns_from step = reverse (map (at_point point) (readers_from link (64 - step) step))

  pub turns_first : (xs : List EffectAt) → xs ≡ xs ++ turns_from 0
  unfolding readers_from
  turns_first xs = sym (append-nil xs)

  from_next : (step : ℕ) → step < 64 → (b : Bool) → is_reader link (63 - step) ≡ b →
      readers_from link (64 - (step + 1)) (step + 1) ≡
      (if b then (63 - step) ∷ readers_from link (64 - step) step else readers_from link (64 - step) step)
  from_next step below b is =
      ap (λ (k : ℕ). readers_from link k (step + 1)) (omega (arith, below)) ∙
      ap (λ (n : ℕ). readers_from link (63 - step) n) (omega arith) ∙
      readers_by link (63 - step) step b is ∙
      ap (λ (k : ℕ). if b then (63 - step) ∷ readers_from link k step else readers_from link k step)
      (omega (arith, below))

  pub turns_take : (step : ℕ) (xs ys zs : List EffectAt) → step < 64 → is_reader link (63 - step) ≡ true →
      xs ≡ ys ++ turns_from step → zs ≡ xs ++ at_point point (63 - step) ∷ [] → zs ≡ ys ++ turns_from (step + 1)
  turns_take step xs ys zs below is so_far pushed = pushed ∙
      ap (λ (es : List EffectAt). es ++ at_point point (63 - step) ∷ []) so_far ∙
      append_assoc ys (turns_from step) (at_point point (63 - step) ∷ []) ∙
      ap (λ (es : List EffectAt). ys ++ es)
      (sym (reverse-append (at_point point (63 - step) ∷ []) (map (at_point point)
      (readers_from link (64 - step) step))) ∙
      ap (λ (vs : List ℕ). reverse (map (at_point point) vs)) (sym (from_next step below true is)))

  pub turns_skip : (step : ℕ) (xs ys : List EffectAt) → step < 64 → is_reader link (63 - step) ≡ false →
      xs ≡ ys ++ turns_from step → xs ≡ ys ++ turns_from (step + 1)
  turns_skip step xs ys below is so_far = so_far ∙ ap (λ (es : List EffectAt). ys ++ es)
      (ap (λ (vs : List ℕ). reverse (map (at_point point) vs)) (sym (from_next step below false is)))

  pub turns_end : (step : ℕ) (xs ys zs : List EffectAt) → step ≤ 64 → 64 ≤ step → xs ≡ ys ++ turns_from step →
      zs ≡ xs ++ at_point point link.lane ∷ [] → zs ≡ ys ++ reverse (turns_of point link)
  unfolding readers_of
  turns_end step xs ys zs low high so_far pushed = pushed ∙
      ap (λ (es : List EffectAt). es ++ at_point point link.lane ∷ []) so_far ∙
      append_assoc ys (turns_from step) (at_point point link.lane ∷ []) ∙
      ap (λ (es : List EffectAt). ys ++ es)
      (ap (λ (n : ℕ). turns_from n ++ at_point point link.lane ∷ []) (let full : step ≡ 64 = omega (
        arith,
        low,
        high,
      ) in
      full) ∙
      sym (reverse-append (at_point point link.lane ∷ []) (map (at_point point) (readers_from link 0 64))))

pub map_reverse : {A B : Type 0} (f : A → B) (xs : List A) → map f (reverse xs) ≡ reverse (map f xs)
map_reverse f [] = refl
map_reverse f (x ∷ xs) = ap (map f) (reverse-append (x ∷ []) xs) ∙ map-append f (reverse xs) (x ∷ []) ∙
    ap (λ ys. ys ++ f x ∷ []) (map_reverse f xs) ∙ sym (reverse-append (f x ∷ []) (map f xs))

-- the effects of some calls at one point, by their lanes
effects_at : (point : ℕ) (calls : List (ℕ × Reply)) →
    map effect_at (map (taken_at point) calls) ≡ map (at_point point) (map lane_in calls)
effects_at point [] = refl
effects_at point (x ∷ calls) = ap (λ (es : List EffectAt). at_point point x.0 ∷ es) (effects_at point calls)

same_lanes : (point : ℕ) (xs : List EffectAt) →
    lanes_at point xs ≡ map (at_point point) (map (λ (x : EffectAt). x.lane) xs)
same_lanes point [] = refl
same_lanes point (x ∷ xs) = ap (λ (es : List EffectAt). at_point point x.lane ∷ es) (same_lanes point xs)

lanes_back : (point : ℕ) (vs : List ℕ) → map (λ (x : EffectAt). x.lane) (map (at_point point) vs) ≡ vs
lanes_back point [] = refl
lanes_back point (v ∷ vs) = ap (λ (ws : List ℕ). v ∷ ws) (lanes_back point vs)

read_order : (hidden : List (ℕ × Reply)) (point : ℕ) (readers : List (ℕ × Reply)) (moves : List Move) →
    order_from hidden (read_at point readers moves) ≡ order_from hidden moves ++ map (taken_at point) readers
read_order hidden point [] moves = sym (append-nil (order_from hidden moves))
read_order hidden point (x ∷ readers) moves = read_order hidden point readers (taking (taken_at point x) ∷ moves) ∙
    append_assoc (order_from hidden moves) (taken_at point x ∷ []) (map (taken_at point) readers)

-- what is read last stands first
out_on : (order : List EffectAt) (a b : List Taken) (out later es : List EffectAt) → later ≡ out ++ es →
    map effect_at b ≡ reverse es → order ≡ map effect_at (a ++ b) ++ reverse out →
    order ≡ map effect_at a ++ reverse later
out_on order a b out later es pushed same is = is ∙
    ap (λ (xs : List EffectAt). xs ++ reverse out) (map-append effect_at a b) ∙
    append_assoc (map effect_at a) (map effect_at b) (reverse out) ∙
    ap (λ (xs : List EffectAt). map effect_at a ++ xs) (ap (λ (xs : List EffectAt). xs ++ reverse out) same ∙
    sym (reverse-append out es) ∙ ap (λ (xs : List EffectAt). reverse xs) (sym pushed))

-- back over the beginning of a call
module _ (older : List Entry) (order : List EffectAt) (walk : Walk) (lane : ℕ)
    (walks : WalksTo (Begins lane ∷ older) order walk) (point : ℕ) (less : point ≡ walk.point - 1) where
  before : events_in older ≡ point
  before = let at = walks.events in omega (arith, at, less)

  -- it took effect at once
  pub back_taken : (next : Walk) → bit_at walk.position.in_effect lane ≡ 1 →
      next.position.state ≡ walk.position.state →
      SetsBit walk.position.in_effect next.position.in_effect lane 0 → next.position.free ≡ walk.position.free →
      next.point ≡ point → next.pending ≡ walk.pending →
      next.out.items ≡ walk.out.items ++ at_point walk.point lane ∷ [] → WalksTo older order next
  back_taken next taken state clears free at pend pushed = by walks.says.1
    where
      by : ((bit_at walk.position.in_effect lane ≢ 1) × Says older walk.position walks.moves) ⊎ ((y : Position) ×
          (rest : List Move) × (reply : Reply) × IsReturnedFrom lane walk.position y ×
          (walks.moves ≡ taking (taken_at (events_in older + 1) (lane, reply)) ∷ rest) × Says older y rest) →
          WalksTo older order next
      by (inl waits) = absurd (waits.0 taken)
      by (inr (y, rest, reply, from, are, says)) = record {
        events = before ∙ sym at;
        moves = rest;
        hidden = walks.hidden;
        says = subst (λ (z : Position). Says older z rest) same says;
        pending = ap (λ xs. map (λ (x : EffectAt). x.lane) xs.items) pend ∙ walks.pending;
        out = out_on order (order_from walks.hidden rest) (taken_at (events_in older + 1) (lane, reply) ∷ [])
            walk.out.items next.out.items (at_point walk.point lane ∷ []) pushed
            (ap (λ (n : ℕ). at_point n lane ∷ []) walks.events)
            (walks.out ∙ ap (λ (moves : List Move). map effect_at (order_from walks.hidden moves) ++
            reverse walk.out.items) are);
      }
        where
          numbers : y.in_effect ≡ next.position.in_effect
          numbers = same_from_bits y.in_effect next.position.in_effect (λ v. bits v (cases_eq v lane))
            where
              bits : (v : ℕ) → (v ≡ lane) ⊎ (v ≢ lane) → bit_at y.in_effect v ≡ bit_at next.position.in_effect v
              bits v (inl here) = subst (λ (w : ℕ). bit_at y.in_effect w ≡ bit_at next.position.in_effect w) (sym here)
                  (from.clears.here ∙ sym clears.here)
              bits v (inr apart) = from.clears.others v apart ∙ sym (clears.others v apart)

          same : y ≡ next.position
          same = λ i. record {
            state = (from.state ∙ sym state) i;
            in_effect = numbers i;
            free = (from.free ∙ sym free) i;
          }

-- back over a return
pub back_returned : (older : List Entry) (order : List EffectAt) (walk next : Walk) (lane : ℕ) →
    WalksTo (Returns lane ∷ older) order walk → next.position.state ≡ walk.position.state →
    SetsBit walk.position.in_effect next.position.in_effect lane 1 → next.position.free ≡ walk.position.free →
    next.point ≡ walk.point - 1 → next.pending ≡ walk.pending → next.out ≡ walk.out → WalksTo older order next
back_returned older order walk next lane walks state sets free less pend out = record {
  events = let at = walks.events in omega (arith, at, less);
  moves = walks.moves;
  hidden = walks.hidden;
  says = subst (λ (z : Position). Says older z walks.moves) same walks.says.3;
  pending = ap (λ xs. map (λ (x : EffectAt). x.lane) xs.items) pend ∙ walks.pending;
  out = walks.out ∙ ap (λ xs. map effect_at (order_from walks.hidden walks.moves) ++ reverse xs.items) (sym out);
}
  where
    y : Position
    y = walks.says.1

    from : IsReturnedFrom lane y walk.position
    from = walks.says.2

    numbers : y.in_effect ≡ next.position.in_effect
    numbers = same_from_bits y.in_effect next.position.in_effect (λ v. bits v (cases_eq v lane))
      where
        bits : (v : ℕ) → (v ≡ lane) ⊎ (v ≢ lane) → bit_at y.in_effect v ≡ bit_at next.position.in_effect v
        bits v (inl here) = subst (λ (w : ℕ). bit_at y.in_effect w ≡ bit_at next.position.in_effect w) (sym here)
            (from.taken ∙ sym sets.here)
        bits v (inr apart) = sym (from.clears.others v apart) ∙ sym (sets.others v apart)

    same : y ≡ next.position
    same = λ i. record {
      state = (sym from.state ∙ sym state) i;
      in_effect = numbers i;
      free = (sym from.free ∙ sym free) i;
    }

-- back over a link to the position
module _ (older : List Entry) (order : List EffectAt) (walk next : Walk) (link : Link)
    (walks : WalksTo (Comes link ∷ older) order walk) (same : link.to ≡ walk.position)
    (position : next.position ≡ link.from) (point : next.point ≡ walk.point) where
  record IsSaid : Type 0 where
    rest : List Move
    said : IsSaidBy (events_in older) link rest walks.moves
    says : Says older link.from rest

  is_said : IsSaid
  is_said = by walks.says
    where
      by : ((walk.position ≢ link.to) × Says older walk.position walks.moves) ⊎ ((walk.position ≡ link.to) ×
          (rest : List Move) × IsSaidBy (events_in older) link rest walks.moves × Says older link.from rest) → IsSaid
      by (inl (apart, says)) = absurd (apart (sym same))
      by (inr (at, rest, said, says)) = record { rest = rest; said = said; says = says }

  are_by : (way : Way) → link.way ≡ way → walks.moves ≡
      moves_by way (events_in older) link.lane is_said.said.reply is_said.said.readers is_said.rest
  are_by way is = is_said.said.are ∙ ap (λ (w : Way). moves_by w (events_in older) link.lane is_said.said.reply
      is_said.said.readers is_said.rest) is

  turns : map effect_at (taken_at (events_in older) (link.lane, is_said.said.reply) ∷
      map (taken_at (events_in older)) is_said.said.readers) ≡ turns_of walk.point link
  turns = ap (λ (es : List EffectAt). at_point (events_in older) link.lane ∷ es)
      (effects_at (events_in older) is_said.said.readers ∙
      ap (λ (vs : List ℕ). map (at_point (events_in older)) vs) is_said.said.lanes) ∙
      ap (λ (n : ℕ). turns_of n link) walks.events

  then_says : Says older next.position is_said.rest
  then_says = subst (λ (z : Position). Says older z is_said.rest) (sym position) is_said.says

  pub back_took : link.way ≡ Takes → next.pending ≡ walk.pending →
      next.out.items ≡ walk.out.items ++ reverse (turns_of walk.point link) → WalksTo older order next
  back_took way pend pushed = record {
    events = walks.events ∙ sym point;
    moves = is_said.rest;
    hidden = walks.hidden;
    says = then_says;
    pending = ap (λ xs. map (λ (x : EffectAt). x.lane) xs.items) pend ∙ walks.pending;
    out = out_on order (order_from walks.hidden is_said.rest) (one ∷ many) walk.out.items next.out.items
        (reverse (turns_of walk.point link)) pushed (turns ∙ sym (reverse-reverse (turns_of walk.point link)))
        (walks.out ∙ ap (λ (xs : List Taken). map effect_at xs ++ reverse walk.out.items)
        (ap (order_from walks.hidden) (are_by Takes way) ∙
        read_order walks.hidden (events_in older) is_said.said.readers (taking one ∷ is_said.rest) ∙
        append_assoc (order_from walks.hidden is_said.rest) (one ∷ []) many));
  }
    where
      one : Taken
      one = taken_at (events_in older) (link.lane, is_said.said.reply)

      many : List Taken
      many = map (taken_at (events_in older)) is_said.said.readers

  pub back_hid : link.way ≡ Hides → next.out ≡ walk.out →
      next.pending.items ≡ walk.pending.items ++ reverse (turns_of walk.point link) → WalksTo older order next
  back_hid way out pushed = record {
    events = walks.events ∙ sym point;
    moves = is_said.rest;
    hidden = calls ++ walks.hidden;
    says = then_says;
    pending = ap (map lane_at) pushed ∙ map-append lane_at walk.pending.items (reverse (turns_of walk.point link)) ∙
        ap (λ (vs : List ℕ). vs ++ map lane_at (reverse (turns_of walk.point link))) walks.pending ∙
        ap (λ (vs : List ℕ). reverse (map lane_in walks.hidden) ++ vs) (map_reverse lane_at (turns_of walk.point
        link) ∙
        ap (λ (vs : List ℕ). reverse vs) (lanes_back walk.point (link.lane ∷ readers_of link) ∙
        ap (λ (vs : List ℕ). link.lane ∷ vs) (sym is_said.said.lanes))) ∙
        sym (reverse-append (map lane_in calls) (map lane_in walks.hidden)) ∙
        ap (λ (vs : List ℕ). reverse vs) (sym (map-append lane_in calls walks.hidden));
    out = walks.out ∙ ap (λ (moves : List Move). map effect_at (order_from walks.hidden moves) ++
        reverse walk.out.items) (are_by Hides way) ∙
        ap (λ xs. map effect_at (order_from (calls ++ walks.hidden) is_said.rest) ++ reverse xs.items) (sym out);
  }
    where
      lane_at : EffectAt → ℕ
      lane_at = λ x. x.lane

      calls : List (ℕ × Reply)
      calls = (link.lane, is_said.said.reply) ∷ is_said.said.readers

  pub back_freed : link.way ≡ Frees → next.pending.items ≡ [] → next.out.items ≡
      (walk.out.items ++ reverse (turns_of walk.point link)) ++ lanes_at walk.point walk.pending.items →
      WalksTo older order next
  back_freed way none pushed = record {
    events = walks.events ∙ sym point;
    moves = is_said.rest;
    hidden = [];
    says = then_says;
    pending = ap (map (λ (x : EffectAt). x.lane)) none;
    out = out_on order (order_from [] is_said.rest) (hid ++ one ∷ many) walk.out.items next.out.items
        (reverse (turns_of walk.point link) ++ lanes_at walk.point walk.pending.items)
        (pushed ∙ append_assoc walk.out.items (reverse (turns_of walk.point link))
        (lanes_at walk.point walk.pending.items)) mapped
        (walks.out ∙ ap (λ (xs : List Taken). map effect_at xs ++ reverse walk.out.items)
        (ap (order_from walks.hidden) (are_by Frees way) ∙
        read_order walks.hidden (events_in older) is_said.said.readers (freeing one ∷ is_said.rest) ∙
        append_assoc (order_from [] is_said.rest) (hid ++ one ∷ []) many ∙
        ap (λ (xs : List Taken). order_from [] is_said.rest ++ xs) (append_assoc hid (one ∷ []) many)));
  }
    where
      one : Taken
      one = taken_at (events_in older) (link.lane, is_said.said.reply)

      many : List Taken
      many = map (taken_at (events_in older)) is_said.said.readers

      hid : List Taken
      hid = map (taken_at (events_in older)) walks.hidden

      back : reverse (lanes_at walk.point walk.pending.items) ≡ map effect_at hid
      back = ap (λ (es : List EffectAt). reverse es) (same_lanes walk.point walk.pending.items ∙
          ap (map (at_point walk.point)) walks.pending ∙
          map_reverse (at_point walk.point) (map lane_in walks.hidden)) ∙
          reverse-reverse (map (at_point walk.point) (map lane_in walks.hidden)) ∙
          ap (λ (n : ℕ). map (at_point n) (map lane_in walks.hidden)) (sym walks.events) ∙
          sym (effects_at (events_in older) walks.hidden)

      mapped : map effect_at (hid ++ one ∷ many) ≡
          reverse (reverse (turns_of walk.point link) ++ lanes_at walk.point walk.pending.items)
      mapped = map-append effect_at hid (one ∷ many) ∙
          ap (λ (es : List EffectAt). map effect_at hid ++ es) (turns ∙
          sym (reverse-reverse (turns_of walk.point link))) ∙
          ap (λ (es : List EffectAt). es ++ reverse (reverse (turns_of walk.point link))) (sym back) ∙
          sym (reverse-append (reverse (turns_of walk.point link)) (lanes_at walk.point walk.pending.items))

-- the order of what is traced
pub traced_order : {S : Type 0} (o : Judged S) (past : List Event) (table : List (Option OpenCall))
    (entries : List Entry) (x : Position) (effects : List EffectAt) → IsTracedBy o past table entries x →
    ((moves : List Move) → Says entries x moves → map effect_at (order_of moves) ≡ reverse effects) →
    IsOrderOf o past effects
traced_order o past table entries x effects is same = record {
  order = order_of is.moves;
  state = is.position.state;
  lanes = is.position.lanes;
  leads = trace_leads o.step o.start is.position is.trace is.position.lanes no_more;
  effects_are = same is.moves is.says;
}
