-- A call of a seat from one access of the word to the next, and that it is made.
use Rattle.std.proofs.Common.{◌≡◌, ◌≢◌, ℕ, ◌==◌, Bool, true, false, MatchBool, Option, Some, None}
use Rattle.std.proofs.Common.{List, [], ◌∷◌, ◌++◌, length, refl, ap, sym, ◌∙◌, subst, arith, length-append}
use Rattle.std.specs.Prelude.{IsTrue}
use Rattle.std.proofs.lemmas.Bool.Decides.{nat_tests}
use mathlib.Core.List.{IsPrefix}
use Rattle.lent_table.specs.Table.{step}
use Rattle.stamp_core.specs.Call.{is_lock_call}
use Rattle.stamp_core.specs.Limits.{Bounds, AreInRange}
use Rattle.stamp_core.specs.LockEvent.{LockEvent}
use Rattle.stamp_core.specs.LockEvent.LockEvent.{WriteAcquired, WriteReleased, ReadAcquired, ReadReleased}
use Rattle.stamp_core.specs.Word.{LockWord, word_at}
use Rattle.stamp_core.specs.Transition.{Transition}
use Rattle.stamp_core.specs.Decision.{Answers, Changes, HasNone}
use Rattle.stamp_core.specs.CountedDecision.{decision}
use Rattle.stamp_core.specs.declared.call.Call.{Call}
use Rattle.stamp_core.specs.declared.reply.Reply.{Reply}
use Rattle.stamp_core.specs.declared.reply.Reply.TheVariants.{Stamp}
use Rattle.stamp_core.specs.declared.decision.Decision.TheVariants.{Change, Wait}
use Rattle.stamp_threads.specs.declared.pass_view.LogEntry.{LogEntry}
use Rattle.stamp_threads.specs.inner.PassView.{finding}
use Rattle.stamp_threads.specs.LockLog.{LockLog, events_after, transition_after}
use Rattle.stamp_threads.specs.LockPass.{LockPassView}
use Rattle.stamp_threads.specs.inner.LockRule.{making, reading}
use Rattle.stamp_threads.specs.Made.{Made}
use Rattle.stamp_threads.proofs.Beginnings.{begins_all, begins_further}
use Rattle.stamp_threads.proofs.GoingAsMachine as passes
use Rattle.stamped_value.specs.Values.{HasValues}
use Rattle.stamped_value.specs.Held.{HasHold, Matches}
use Rattle.stamped_value.specs.inner.Held.{MayCall}
use Rattle.stamped_value.specs.ValueMade.{Seen, Does, DoesBy, ValueMade}
use Rattle.stamped_value.specs.Stands.{Stands}
use Rattle.stamped_value.specs.inner.VersionRule.{LoadTells, WonTells, ExchangeTells}
use Rattle.stamped_value.specs.inner.Deciding.{HoldsStill, IsToDecide}
use Rattle.stamped_value.proofs.StillLast.{has_still}

-- what comes before the last one
same_before : {A : Type 0} (xs ys : List A) (a b : A) → xs ++ a ∷ [] ≡ ys ++ b ∷ [] → xs ≡ ys
same_before [] [] a b e = refl
same_before [] (y ∷ ys) a b e = absurd (omega (arith, ap length e, length-append ys (b ∷ [])))
same_before (x ∷ xs) [] a b e = absurd (omega (arith, ap length e, length-append xs (a ∷ [])))
same_before (x ∷ xs) (y ∷ ys) a b e =
    let rest : xs ++ a ∷ [] ≡ ys ++ b ∷ [] = cc in let same = same_before xs ys a b rest in cc

module _ {T : Type 0} where
  -- what a call does is by what the seat held before it, and by nothing else of the seat
  does_as : (appended : List LockEvent) (reply : Reply) (v w : Seen T) (values : List T) (u : Seen T) →
      w.0.held ≡ v.0.held → w.1 ≡ v.1 → Does appended reply w values u → Does appended reply v values u
  does_as [] reply v w values u held hold does = (does.0 ∙ held, does.1 ∙ hold, does.2)
  does_as (WriteAcquired ∷ []) (Stamp s) v w values u held hold does = does
  does_as (ReadAcquired ∷ []) (Stamp s) v w values u held hold does = does
  does_as (ReadReleased ∷ []) reply v w values u held hold does = does
  does_as (WriteReleased ∷ []) reply v w values u held hold does = (does.0, sym hold ∙ does.1, does.2)
  does_as (ReadReleased ∷ WriteAcquired ∷ []) (Stamp s) v w values u held hold does =
      (does.0, does.1, sym hold ∙ does.2, does.3)
  does_as (WriteReleased ∷ ReadAcquired ∷ []) (Stamp s) v w values u held hold does =
      (does.0, sym hold ∙ does.1, does.2)
  does_as _ reply v w values u held hold does = absurd does

  does_by : (t : Option Transition) (v w : Seen T) (values : List T) (u : Seen T) →
      w.0.held ≡ v.0.held → w.1 ≡ v.1 → DoesBy t w values u → DoesBy t v values u
  does_by None v w values u held hold does = (does.0 ∙ held, does.1 ∙ hold, does.2)
  does_by (Some t) v w values u held hold does = does_as t.appended t.reply v w values u held hold does

  still_yet : (v : Seen T) → HoldsStill v v
  still_yet v = record { begins = begins_all v.0.values; held = refl; hold = refl }

  still_further : (u v w : Seen T) → HoldsStill u v → HoldsStill v w → HoldsStill u w
  still_further u v w a b = record {
    begins = begins_further u.0.values v.0.values w.0.values a.begins b.begins;
    held = b.held ∙ a.held;
    hold = b.hold ∙ a.hold;
  }

  still_by_load : (limits : Bounds) (call : Call) (v : Seen T) (found : ℕ) (w : Seen T) →
      LoadTells limits call v found w → HoldsStill v w
  still_by_load limits call v found w tells = record { begins = tells.begins; held = tells.same.0; hold = tells.same.1 }

  -- the first load of a call
  pub begins : (limits : Bounds) (call : Call) (v : Seen T) (found : ℕ) (w : Seen T) →
      IsTrue (is_lock_call call) → LoadTells limits call v found w → IsToDecide limits call v found w
  begins limits call v found w lock tells = record {
    pass = passes.begins limits call v.0.pass found w.0.pass lock tells.pass;
    before = v;
    still = still_yet v;
    tells = tells;
  }

  -- an exchange that found the old word
  pub exchange_won : (limits : Bounds) (call : Call) (old new : ℕ) (v : Seen T) (found : ℕ) (w : Seen T) →
      found ≡ old → ExchangeTells limits call (step old new) v found w → WonTells limits call v old w
  exchange_won limits call old new v found w same learned =
      let yes : (found == old) ≡ true = grind (arith, nat_tests) in
      let won : WonTells limits call v found w =
      subst (λ (b : Bool). MatchBool b (WonTells limits call v found w) (LoadTells limits call v found w)) yes
      learned in
      subst (λ (n : ℕ). WonTells limits call v n w) same won

  -- an exchange that found another word
  pub exchange_lost : (limits : Bounds) (call : Call) (old new : ℕ) (v : Seen T) (found : ℕ) (w : Seen T) →
      found ≢ old → ExchangeTells limits call (step old new) v found w →
      ((found == old) ≡ false) × LoadTells limits call v found w
  exchange_lost limits call old new v found w other learned =
      let no : (found == old) ≡ false = grind (arith, nat_tests) in (
        no,
        subst (λ (b : Bool). MatchBool b (WonTells limits call v found w) (LoadTells limits call v found w)) no learned,
      )

  module _ (limits : Bounds) (call : Call) (v : Seen T) (found : ℕ) (w : Seen T)
      (to_decide : IsToDecide limits call v found w) where
    pub still_now : HoldsStill v w
    still_now = still_further v to_decide.before w to_decide.still
        (still_by_load limits call to_decide.before found w to_decide.tells)

    -- its mode allows the call still
    pub may_still : MayCall call v.0.held → MayCall call w.0.held
    may_still may = subst (MayCall call) (sym still_now.held) may

    matches_now : Matches limits (events_after limits to_decide.tells.pass.log) v.0.held
    matches_now = subst (Matches limits (events_after limits to_decide.tells.pass.log)) to_decide.still.held
        to_decide.tells.matches

    -- and it has of the value what it had
    pub has_now : AreInRange limits → Stands limits v → HasHold w.0.held w.0.values w.1
    has_now range stands = rw (still_now.held, still_now.hold)
        (has_still limits range v.0.pass.known to_decide.tells.pass.log v.0.values w.0.values stands.consistent.legal
        to_decide.tells.pass.left.legal stands.are to_decide.tells.are still_now.begins v.0.held v.1 stands.matches
        matches_now stands.hold)

    -- a call that was made after this history did this to the seat
    made_at : (reply : Reply) (u : Seen T) → Made limits call reply v.0.pass u.0.pass → (log : LockLog)
        (last : LogEntry (Call × Reply)) → u.0.pass.known ≡ log ++ last ∷ [] →
        Matches limits (events_after limits log) v.0.held → (values : List T) → IsPrefix v.0.values values →
        HasValues limits log values → DoesBy (transition_after limits log call) v values u →
        ValueMade limits call reply v u
    made_at reply u made log last known matches values begins are does =
        let same : log ≡ made.log = same_before log made.log last _ (sym known ∙ made.known) in
        record {
          made = made;
          matches = subst (λ (l : LockLog). Matches limits (events_after limits l) v.0.held) same matches;
          values = values;
          begins = begins;
          are = subst (λ (l : LockLog). HasValues limits l values) same are;
          does = subst (λ (l : LockLog). DoesBy (transition_after limits l call) v values u) same does;
        }

    -- the word found answers the call
    pub is_made_by_answer : (reply : Reply) → Answers limits (word_at limits found) call reply →
        ValueMade limits call reply v w
    is_made_by_answer reply answers =
        let tells = to_decide.tells in
        let p = to_decide.before.0.pass in
        let stays = answers (events_after limits tells.pass.log) tells.pass.left.represents in
        let known = ap (λ (u : LockPassView). u.known) (tells.pass.after ∙
        ap (λ (o : Option Transition). reading o call (finding p found) tells.pass.log) stays) in
        made_at reply w
        (passes.is_made_by_answer limits call v.0.pass found w.0.pass to_decide.pass reply answers)
        tells.pass.log _ known matches_now w.0.values still_now.begins tells.are
        (subst (λ (o : Option Transition). DoesBy o v w.0.values w) (sym stays) (still_now.held, still_now.hold, refl))

    module _ (new : LockWord) (reply : Reply) (changes : Changes limits (word_at limits found) call new reply)
        (is : Change new reply ≡ decision limits found call) where
      -- the exchange found the same word
      pub is_made_by_change : (u : Seen T) → WonTells limits call w found u → ValueMade limits call reply v u
      is_made_by_change u won =
          let moves = changes (events_after limits won.pass.log) won.pass.left.represents in
          let known = ap (λ (u : LockPassView). u.known) (won.pass.after ∙
          ap (λ (o : Option Transition). making o call (finding w.0.pass found) won.pass.log) moves.transition_is) in
          made_at reply u
          (passes.is_made_by_change limits call v.0.pass found w.0.pass to_decide.pass new reply changes is u.0.pass
          won.pass) won.pass.log _ known
          (subst (Matches limits (events_after limits won.pass.log)) still_now.held won.matches) won.values
          (begins_further v.0.values w.0.values won.values still_now.begins won.begins) won.are
          (does_by (transition_after limits won.pass.log call) v w won.values u still_now.held still_now.hold won.does)

      -- the exchange found another word
      pub loses_exchange : (word : ℕ) (u : Seen T) → (word == found) ≡ false → LoadTells limits call w word u →
          IsToDecide limits call v word u
      loses_exchange word u other tells = record {
        pass = passes.loses_exchange limits call v.0.pass found w.0.pass to_decide.pass new reply changes is word
            u.0.pass other tells.pass;
        before = w;
        still = still_now;
        tells = tells;
      }

    -- the call waits, and loads the word again
    pub loads_again : HasNone limits (word_at limits found) call → Wait ≡ decision limits found call →
        (word : ℕ) (u : Seen T) → LoadTells limits call w word u → IsToDecide limits call v word u
    loads_again none is word u tells = record {
      pass = passes.loads_again limits call v.0.pass found w.0.pass to_decide.pass none is word u.0.pass tells.pass;
      before = w;
      still = still_now;
      tells = tells;
    }
