-- Events whose contents go by other names.
use Rattle.std.proofs.Common.{ℕ, ◌≡◌, ◌<◌, Bool, true, false, List, [], ◌∷◌, Option, Some, None, refl, ◌∙◌, ap}
use Rattle.std.specs.Prelude.{◌==◌, if◌then◌else◌, is_some, map}
use Rattle.std.specs.List.{All, fold}
use Rattle.std.proofs.lemmas.Bool.{and_from}
use Rattle.std.proofs.lemmas.List.Elements.{All-cons, All-head, All-nil, All-tail}
use Rattle.stamp_core.specs.declared.call.Call.{Call}
use Rattle.stamp_core.specs.declared.call.Call.TheVariants as call
use Rattle.stamp_core.specs.declared.reply.Reply.{Reply}
use Rattle.stamp_core.specs.declared.reply.Reply.TheVariants as reply
use Rattle.stamp_runs.specs.Names.{EachOfCall, EachOfEvent, EachOfReply, Names, call_by, event_by, reply_by}
use Rattle.stamp_runs.specs.OneWord.{has_one_word, is_small_call, is_small_reply}
use Rattle.stamp_runs.specs.Own.{AreInFormFrom, MayCome, none_open, open_then}
use Rattle.stamp_runs.specs.Run.{lane_of}
use Rattle.stamp_runs.specs.declared.event.Event.{Event}
use Rattle.stamp_runs.specs.declared.event.Event.TheVariants.{Begins, Returns, Withdraws}
use Rattle.stamp_runs.proofs.Owning.{Calls}
use Rattle.stamp_watch.specs.Form.{is_busy_after}
use Rattle.stamp_watch.specs.Verdict.{AreOfLanes, IsOfLane}
use Rattle.stamp_watch.proofs.Form.{none_is}

-- what holds of each content, where it follows from another thing that does
module _ {P Q : List ℕ → Type 0} (goes : (words : List ℕ) → P words → Q words) where
  each_call : (c : Call) → EachOfCall P c → EachOfCall Q c
  each_call (call.Put words) is = goes words is
  each_call (call.PutIf expected words) is = (goes expected is.0, goes words is.1)
  each_call _ is = tt

  pub each_reply : (r : Reply) → EachOfReply P r → EachOfReply Q r
  each_reply (reply.Content words) is = goes words is
  each_reply _ is = tt

  pub each_event : (e : Event) → EachOfEvent P e → EachOfEvent Q e
  each_event (Begins lane c) is = each_call c is
  each_event (Returns lane r) is = each_reply r is
  each_event (Withdraws lane) is = tt

-- where the contents have the same names an event has
module _ (name other : Names) where
  same_call : (c : Call) → EachOfCall (λ (words : List ℕ). name words ≡ other words) c →
      call_by name c ≡ call_by other c
  same_call (call.Put words) same = ap call.Put same
  same_call (call.PutIf expected words) same =
      ap (λ (w : List ℕ). call.PutIf w (name words)) same.0 ∙ ap (call.PutIf (other expected)) same.1
  same_call _ same = refl

  pub same_reply : (r : Reply) → EachOfReply (λ (words : List ℕ). name words ≡ other words) r →
      reply_by name r ≡ reply_by other r
  same_reply (reply.Content words) same = ap reply.Content same
  same_reply _ same = refl

  pub same_event : (e : Event) → EachOfEvent (λ (words : List ℕ). name words ≡ other words) e →
      event_by name e ≡ event_by other e
  same_event (Begins lane c) same = ap (Begins lane) (same_call c same)
  same_event (Returns lane r) same = ap (Returns lane) (same_reply r same)
  same_event (Withdraws lane) same = refl

  abbrev HasSame : Event → Type 0
  HasSame e = EachOfEvent (λ (words : List ℕ). name words ≡ other words) e

  pub same_events : (events : List Event) → All (EachOfEvent (λ (words : List ℕ). name words ≡ other words)) events →
      map (event_by name) events ≡ map (event_by other) events
  same_events [] same = refl
  same_events (e ∷ events) same =
      ap (λ (x : Event). x ∷ map (event_by name) events) (same_event e (All-head HasSame e events same)) ∙
      ap (λ (xs : List Event). event_by other e ∷ xs) (same_events events (All-tail HasSame e events same))

-- where each content has a name of one word
abbrev pub HasShortName : Names → List ℕ → Type 0
HasShortName name words = has_one_word (name words) ≡ true

module _ (name : Names) where
  small_call : (c : Call) → EachOfCall (HasShortName name) c → is_small_call (call_by name c) ≡ true
  small_call (call.Put words) short = short
  small_call (call.PutIf expected words) short = and_from _ _ short.0 short.1
  small_call _ short = refl

  small_reply : (r : Reply) → EachOfReply (HasShortName name) r → is_small_reply (reply_by name r) ≡ true
  small_reply (reply.Content words) short = short
  small_reply _ short = refl

  pub of_lane_by : (e : Event) → lane_of e < 64 → EachOfEvent (HasShortName name) e → IsOfLane (event_by name e)
  of_lane_by (Begins lane c) low short = (low, small_call c short)
  of_lane_by (Returns lane r) low short = (low, small_reply r short)
  of_lane_by (Withdraws lane) low short = low

  -- the same lanes have open calls by other names
  abbrev AreAlike : Calls → Calls → Type 0
  AreAlike calls named = (lane : ℕ) → is_some (named lane) ≡ is_some (calls lane)

  chosen_alike : (b : Bool) (o p m n : Option Call) → is_some o ≡ is_some p → is_some m ≡ is_some n →
      is_some (if b then o else m) ≡ is_some (if b then p else n)
  chosen_alike true o p m n is other = is
  chosen_alike false o p m n is other = other

  alike_then : (calls named : Calls) (e : Event) → AreAlike calls named →
      AreAlike (open_then calls e) (open_then named (event_by name e))
  alike_then calls named (Begins u c) alike lane =
      chosen_alike (u == lane) (Some (call_by name c)) (Some c) (named lane) (calls lane) refl (alike lane)
  alike_then calls named (Returns u r) alike lane =
      chosen_alike (u == lane) None None (named lane) (calls lane) refl (alike lane)
  alike_then calls named (Withdraws u) alike lane =
      chosen_alike (u == lane) None None (named lane) (calls lane) refl (alike lane)

  may_come_by : (calls named : Calls) (e : Event) → AreAlike calls named → MayCome calls e →
      MayCome named (event_by name e)
  may_come_by calls named (Begins u c) alike may = none_is (named u) (alike u ∙ ap is_some may)
  may_come_by calls named (Returns u r) alike may = alike u ∙ may
  may_come_by calls named (Withdraws u) alike may = alike u ∙ may

  form_by : (calls named : Calls) (events : List Event) → AreAlike calls named → AreInFormFrom calls events →
      AreInFormFrom named (map (event_by name) events)
  form_by calls named [] alike form = tt
  form_by calls named (e ∷ events) alike form = (
    may_come_by calls named e alike form.0,
    form_by (open_then calls e) (open_then named (event_by name e)) events (alike_then calls named e alike) form.1,
  )

  abbrev IsLow : Event → Type 0
  IsLow e = lane_of e < 64

  abbrev HasShort : Event → Type 0
  HasShort e = EachOfEvent (HasShortName name) e

  lanes_by : (events : List Event) → All (λ (e : Event). lane_of e < 64) events →
      All (EachOfEvent (HasShortName name)) events → All IsOfLane (map (event_by name) events)
  lanes_by [] low short = All-nil IsOfLane
  lanes_by (e ∷ events) low short = All-cons IsOfLane (event_by name e) (map (event_by name) events)
      (of_lane_by e (All-head IsLow e events low) (All-head HasShort e events short))
      (lanes_by events (All-tail IsLow e events low) (All-tail HasShort e events short))

  pub of_lanes_by : (events : List Event) → AreInFormFrom none_open events →
      All (λ (e : Event). lane_of e < 64) events → All (EachOfEvent (HasShortName name)) events →
      AreOfLanes (map (event_by name) events)
  of_lanes_by events form low short = record {
    form = form_by none_open none_open events (λ lane. refl) form;
    lanes = lanes_by events low short;
  }

  -- so a lane has an open call by other names too
  open_by : (calls named : Calls) (events : List Event) → AreAlike calls named →
      AreAlike (fold open_then calls events) (fold open_then named (map (event_by name) events))
  open_by calls named [] alike = alike
  open_by calls named (e ∷ events) alike = open_by (open_then calls e) (open_then named (event_by name e)) events
      (alike_then calls named e alike)

  pub busy_by : (events : List Event) (lane : ℕ) →
      is_busy_after (map (event_by name) events) lane ≡ is_busy_after events lane
  busy_by events lane = open_by none_open none_open events (λ lane. refl) lane
