-- What single entries of a schedule are answered.
use Rattle.std.proofs.Common.{◌≡◌, ℕ, Bool, true, false, List, [], ◌∷◌, ◌++◌, refl, sym, ◌∙◌, subst}
use Rattle.std.proofs.Common.{if◌then◌else◌}
use Rattle.std.specs.Prelude.{◌↔◌}
use Rattle.std.proofs.lemmas.List.{map-append}
use Rattle.stamp_core.specs.LockEvent.{LockEvent, counts}
use Rattle.stamp_core.specs.Limits.{Bounds, AreInRange, units}
use Rattle.stamp_core.specs.Content.{zeros}
use Rattle.stamp_core.specs.Stamp.{IsValid, is_valid}
use Rattle.stamp_core.specs.IsWellFormed.{IsWellFormed}
use Rattle.stamp_core.specs.History.{History, IsReply, IsLegal, events_of, content_after}
use Rattle.stamp_core.specs.Linearized.{history_of, IsAnswered}
use Rattle.stamp_core.specs.declared.entry.Entry.{Entry}
use Rattle.stamp_core.specs.declared.call.Call.TheVariants.{Validate, Get}
use Rattle.stamp_core.specs.declared.reply.Reply.{Reply}
use Rattle.stamp_core.specs.declared.reply.Reply.TheVariants.{Yes, No}
use Rattle.stamp_core.proofs.StampValidity.{legal_first, legal_rest, stamp_validity}
use Rattle.stamp_core.proofs.StampValidity.{legal_is_well_formed}
use Rattle.stamp_core.proofs.StampTests.{tests_are_exact}
use Rattle.stamp_machines.specs.Laws.{StampsValidateAlways, GetsAnswerContentAlways}
use Rattle.stamp_machines.proofs.StepsKeep.{always-kept}

-- the history before an entry is legal, and the entry is answered after it
pub record Splits (limits : Bounds) (width : ℕ) (before : List Entry) (e : Entry) : Type 0 where
  pub legal : IsLegal limits width (history_of before)
  pub answered : IsAnswered limits width before e

split : (limits : Bounds) (width : ℕ) (before after : List Entry) (e : Entry) →
    IsLegal limits width (history_of (before ++ e ∷ after)) → Splits limits width before e
split limits width before after e legal =
    let parts : history_of (before ++ e ∷ after) ≡ history_of before ++ history_of (e ∷ after) =
    map-append (λ (x : Entry). (x.call, x.reply)) before (e ∷ after) in
    let whole : IsLegal limits width (history_of before ++ history_of (e ∷ after)) =
    subst (λ (h : History). IsLegal limits width h) parts legal in
    record {
      legal = legal_first limits [] (zeros width) (history_of before) (history_of (e ∷ after))
          whole;
      answered = (legal_rest limits [] (zeros width) (history_of before) (history_of (e ∷ after))
          whole).0;
    }

yes_exactly : (b : Bool) (r : Reply) → (if b then Yes else No) ≡ r → (r ≡ Yes) ↔ (b ≡ true)
yes_exactly true r is = (λ yes. refl, λ holds. sym is)
yes_exactly false r is = (λ yes. absurd (apart (is ∙ yes)), λ holds. absurd (other holds))
  where
    apart : No ≡ Yes → ⊥
    apart e = cc

    other : false ≡ true → ⊥
    other e = cc

-- a validation is answered yes exactly where the stamp is valid
validates : (limits : Bounds) (width : ℕ) (before : List Entry) (check : Entry) (s : ℕ) →
    AreInRange limits → Splits limits width before check → check.call ≡ Validate s →
    (check.reply ≡ Yes) ↔ IsValid limits (events_of limits (history_of before)) s
validates limits width before check s range split is =
    let events : List LockEvent = events_of limits (history_of before) in
    let well_formed : IsWellFormed limits events =
    legal_is_well_formed limits width (history_of before) range split.legal in
    let exact = (tests_are_exact limits events s range well_formed).0 in
    let answered : IsReply limits events (content_after width (history_of before)) (Validate s)
    check.reply = rw is at split.answered in
    let told : (if is_valid (units limits) (counts events) s then Yes else No) ≡ check.reply =
    answered in
    let either = yes_exactly (is_valid (units limits) (counts events) s) check.reply told in
    (λ yes. exact.0 (either.0 yes), λ valid. either.1 (exact.1 valid))

pub stamps_validate : StampsValidateAlways
stamps_validate script steps before between after issue check s sound few is issued some asks =
    let limits : Bounds = script.limits in
    let legal : IsLegal limits script.width
    (history_of ((before ++ issue ∷ between) ++ check ∷ after)) =
    subst (λ (es : List Entry). IsLegal limits script.width (history_of es)) is
    (always-kept script steps sound few).legal in
    let parts : Splits limits script.width (before ++ issue ∷ between) check =
    split limits script.width (before ++ issue ∷ between) after check legal in
    let here = validates limits script.width (before ++ issue ∷ between) check s sound.range parts
    asks in
    let spread : history_of (before ++ issue ∷ between) ≡ history_of before
    ++ (issue.call, issue.reply) ∷ history_of between =
    map-append (λ (x : Entry). (x.call, x.reply)) before (issue ∷ between) in
    let start : history_of (before ++ issue ∷ []) ≡ history_of before
    ++ (issue.call, issue.reply) ∷ [] =
    map-append (λ (x : Entry). (x.call, x.reply)) before (issue ∷ []) in
    let law = stamp_validity limits script.width (history_of before) (issue.call, issue.reply)
    (history_of between) s sound.range
    (subst (λ (h : History). IsLegal limits script.width h) spread parts.legal) issued some in
    rw start (
      λ yes. law.0
          (subst (λ (h : History). IsValid limits (events_of limits h) s) spread (here.0 yes)),
      λ none. here.1
          (subst (λ (h : History). IsValid limits (events_of limits h) s) (sym spread)
          (law.1 none)),
    )

pub gets_answer_content : GetsAnswerContentAlways
gets_answer_content script steps before after get sound few is asks =
    let legal : IsLegal script.limits script.width (history_of (before ++ get ∷ after)) =
    subst (λ (es : List Entry). IsLegal script.limits script.width (history_of es)) is
    (always-kept script steps sound few).legal in
    let answered : IsReply script.limits (events_of script.limits (history_of before))
    (content_after script.width (history_of before)) Get get.reply =
    rw asks at (split script.limits script.width before after get legal).answered in
    answered
