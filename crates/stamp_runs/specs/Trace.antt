-- How a position was come to, and the order in which calls took effect on the way, read back from that.
use Rattle.std.specs.Prelude.{ℕ, ◌≡◌, ◌+◌, ◌++◌, Bool, true, false, List, [], ◌∷◌, map, length, Option, None}
use Rattle.stamp_core.specs.declared.call.Call.{Call}
use Rattle.stamp_core.specs.declared.reply.Reply.{Reply}
use Rattle.stamp_runs.specs.declared.event.Event.{Event}
use Rattle.stamp_runs.specs.Object.{Object}
use Rattle.stamp_runs.specs.Run.{Happens, Lanes, Sets, all_idle, lane_of}
use Rattle.stamp_runs.specs.Run.Phase.{Asks, Gets}
use Rattle.stamp_runs.specs.Position.{Hidden, Overwrites, Position}
use Rattle.stamp_runs.specs.Position.Hidden.{no_more, overwrites, sees}

-- a call takes effect: its lane, its reply, and the number of the event before which it does
pub record Taken : Type 0 where
  pub lane : ℕ
  pub reply : Reply
  pub point : ℕ

abbrev pub taken_at : ℕ → ℕ × Reply → Taken
taken_at point answered = record { lane = answered.0; reply = answered.1; point = point }

-- from the one configuration object and lanes come to the other along these events, the first of which has this
-- number; calls that have begun take effect between them, in this order
pub data LeadsBy {S : Type 0} (O : Object S) : ℕ → List Taken → List Event → S → Lanes → S → Lanes → Type 0 where
  led_nowhere : {n : ℕ} {s : S} {lanes : Lanes} → LeadsBy O n [] [] s lanes s lanes
  by_taken : {n : ℕ} {order : List Taken} {events : List Event} {s next t : S} {lanes after last : Lanes} →
      (lane : ℕ) (call : Call) (reply : Reply) → lanes lane ≡ Asks call → O s call reply next →
      Sets lanes after lane (Gets reply) → LeadsBy O n order events next after t last →
      LeadsBy O n (taken_at n (lane, reply) ∷ order) events s lanes t last
  by_next : {n : ℕ} {order : List Taken} {events : List Event} {s t : S} {lanes after last : Lanes} →
      (event : Event) → Happens event lanes after → LeadsBy O (n + 1) order events s after t last →
      LeadsBy O n order (event ∷ events) s lanes t last

-- the calls that are hidden, in their order
abbrev pub hidden_calls : {S : Type 0} {O : Object S} {free : ℕ → Bool} {at : Option S} {lanes last : Lanes} →
    Hidden O free at lanes last → List (ℕ × Reply)
hidden_calls no_more = []
hidden_calls (overwrites lane call reply t free asks over sets rest) = (lane, reply) ∷ hidden_calls rest
hidden_calls (sees lane call reply free asks step sets rest) = (lane, reply) ∷ hidden_calls rest

-- a move on the way: a call takes effect; one does that overwrites, after which others may be free; free calls are
-- hidden before the last such one
pub data Move : Type 0 where
  Takes : Taken → Move
  Frees : Taken → Move
  Hides : List (ℕ × Reply) → Move

-- what was free still may be
abbrev pub FreesNoMore : {S : Type 0} → Position S → Position S → Type 0
FreesNoMore {S} p q = (v : ℕ) → q.free v ≡ true → p.free v ≡ true

-- by these moves, the newest first, and these events the opening leads to the position
pub data IsTrace {S : Type 0} (O : Object S) (start : S) : List Event → List Move → Position S → Type 0 where
  in_opening : (p : Position S) → p.state ≡ start → p.lanes ≡ all_idle → ((v : ℕ) → p.free v ≡ false) →
      IsTrace O start [] [] p
  with_event : {past : List Event} {moves : List Move} (p q : Position S) (event : Event) →
      IsTrace O start past moves p → p.state ≡ q.state → Happens event p.lanes q.lanes →
      q.free (lane_of event) ≡ false → FreesNoMore p q → IsTrace O start (past ++ event ∷ []) moves q
  with_effect : {past : List Event} {moves : List Move} (p q : Position S) (lane : ℕ) (call : Call) (reply : Reply) →
      IsTrace O start past moves p → p.lanes lane ≡ Asks call → O p.state call reply q.state →
      Sets p.lanes q.lanes lane (Gets reply) → q.free lane ≡ false → FreesNoMore p q →
      IsTrace O start past (Takes (taken_at (length past) (lane, reply)) ∷ moves) q
  with_overwriting : {past : List Event} {moves : List Move} (p q : Position S) (lane : ℕ) (call : Call)
      (reply : Reply) → IsTrace O start past moves p → p.lanes lane ≡ Asks call → Overwrites O call reply q.state →
      Sets p.lanes q.lanes lane (Gets reply) → q.free lane ≡ false →
      IsTrace O start past (Frees (taken_at (length past) (lane, reply)) ∷ moves) q
  with_hidden : {past : List Event} {moves : List Move} (p q : Position S) (calls : List (ℕ × Reply)) →
      IsTrace O start past moves p → p.state ≡ q.state → (hidden : Hidden O p.free None p.lanes q.lanes) →
      hidden_calls hidden ≡ calls → FreesNoMore p q → IsTrace O start past (Hides calls ∷ moves) q

-- the order of the effects, with these calls hidden at last: a hidden call takes effect just before the last one that
-- overwrote, behind those that were hidden there sooner
abbrev pub order_from : List (ℕ × Reply) → List Move → List Taken
order_from hidden [] = []
order_from hidden (Takes x ∷ older) = order_from hidden older ++ x ∷ []
order_from hidden (Frees x ∷ older) = order_from [] older ++ (map (taken_at x.point) hidden ++ x ∷ [])
order_from hidden (Hides calls ∷ older) = order_from (calls ++ hidden) older

abbrev pub order_of : List Move → List Taken
order_of moves = order_from [] moves

-- by some moves the opening leads to the position
pub record IsTraced {S : Type 0} (O : Object S) (start : S) (past : List Event) (p : Position S) : Type 0 where
  pub moves : List Move
  pub trace : IsTrace O start past moves p
