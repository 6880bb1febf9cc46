-- Which observed histories are explained by an order in which their calls took effect: those that are linearizable
-- (Herlihy and Wing).
use Rattle.std.specs.Prelude.{ℕ, ◌≡◌, ◌≢◌, List, map, slice_get, Some}
use Rattle.std.specs.List.{All, AllPairs, Contains}
use Rattle.stamp_core.specs.History.{History, IsLegal}
use Rattle.stamp_core.specs.declared.reply.Reply.{Reply}
use Rattle.stamp_explain.specs.declared.observed.Observation.{Observation}
use Rattle.stamp_explain.specs.Observed.{ObservedHistory, IsBefore, AllowsReply, HasReturned}

-- a call that takes effect: where it stands in the history, and its reply
pub record Effect : Type 0 where
  pub index : ℕ
  pub entry : Observation
  pub reply : Reply

pub record IsEffectOf (entries : List Observation) (x : Effect) : Type 0 where
  pub is_entry : slice_get entries x.index ≡ Some x.entry
  pub replies : AllowsReply x.entry x.reply

abbrev pub history_of : List Effect → History
history_of order = map (λ (x : Effect). (x.entry.call, x.reply)) order

abbrev pub indices_of : List Effect → List ℕ
indices_of order = map (λ (x : Effect). x.index) order

abbrev pub AreOfTwoEntries : Effect → Effect → Type 0
AreOfTwoEntries x y = x.index ≢ y.index

-- the earlier of two effects is of a call that did not begin after the other's return
abbrev pub RespectsBefore : Effect → Effect → Type 0
RespectsBefore earlier later = ¬ IsBefore later.entry earlier.entry

-- each call takes effect once at most, and each that returned does; what had returned before another began
-- comes before it; the history in this order is legal
pub record IsExplainedBy (h : ObservedHistory) (order : List Effect) : Type 0 where
  pub effects : All (IsEffectOf h.entries) order
  pub once : AllPairs AreOfTwoEntries order
  pub returned : (i : ℕ) (e : Observation) → slice_get h.entries i ≡ Some e → HasReturned e →
      Contains (indices_of order) i
  pub ordered : AllPairs RespectsBefore order
  pub legal : IsLegal h.limits h.width (history_of order)

pub record IsExplained (h : ObservedHistory) : Type 0 where
  pub order : List Effect
  pub by : IsExplainedBy h order

-- these are the entries of the calls, in their order, of one that explains the history
pub record IsOrderIn (h : ObservedHistory) (indices : List ℕ) : Type 0 where
  pub order : List Effect
  pub by : IsExplainedBy h order
  pub are : indices_of order ≡ indices
