-- What is told ahead, one event on.
use Rattle.std.proofs.Common.{ℕ, ◌≡◌, ◌≢◌, ◌⊎◌, ◌≤◌, List, ◌∷◌, Option, Some, None, sym, ◌∙◌, ap, subst}
use Rattle.std.proofs.Common.{inl, inr, arith}
use Rattle.std.specs.Prelude.{slice_set}
use Rattle.std.proofs.lemmas.Bool.{cases_eq}
use Rattle.std.proofs.lemmas.List.Elements.{All-cons}
use Rattle.stamp_core.specs.declared.call.Call.{Call}
use Rattle.stamp_core.specs.declared.reply.Reply.{Reply}
use Rattle.stamp_runs.specs.Run.{IsEndOf, ReturnsSooner}
use Rattle.stamp_runs.specs.Run.EndsBy.{ends_later, ends_next}
use Rattle.stamp_runs.specs.Run.ReturnsSooner.{sooner_later, sooner_next}
use Rattle.stamp_runs.specs.declared.event.Event.{Event}
use Rattle.stamp_runs.specs.declared.event.Event.TheVariants as event
use Rattle.stamp_sets.specs.declared.small_call.SmallReply.{SmallReply}
use Rattle.stamp_sets.specs.declared.ending.Ending.{Ending}
use Rattle.stamp_sets.specs.declared.ending.Ending.TheVariants.{Returns, Withdraws, Never}
use Rattle.stamp_sets.specs.declared.open_call.OpenCall.{OpenCall}
use Rattle.stamp_sets.specs.Told.{ComesAsTold, EndsSo, ReturnsBefore, open_at}
use Rattle.stamp_sets.specs.SmallCall.{reply_of}
use Rattle.stamp_sets.proofs.Tables.{idle_apart, one_open, open_at_set_other}

-- an event that ends no call of the lane may come first
pub ends_past : (u : ℕ) (ends : Ending) (event : Event) (events : List Event) →
    ¬ IsEndOf u event → EndsSo u ends events → EndsSo u ends (event ∷ events)
ends_past u (Returns told place) event events not is = ends_later event not is
ends_past u Withdraws event events not is = ends_later event not is
ends_past u Never event events not is = All-cons (λ (e : Event). ¬ IsEndOf u e) event events not is

-- the tables have the same open calls but for this lane
pub record Beside (table later : List (Option OpenCall)) (lane : ℕ) : Type 0 where
  pub same : (other : ℕ) → other ≢ lane → open_at later other ≡ open_at table other

pub beside_set : (table : List (Option OpenCall)) (lane : ℕ) (slot : Option OpenCall) →
    Beside table (slice_set table lane slot) lane
beside_set table lane slot = record { same = λ other apart. open_at_set_other table lane other slot apart }

pub told_begins : (table later : List (Option OpenCall)) (last lane : ℕ) (call : Call)
    (events : List Event) →
    open_at table lane ≡ None → Beside table later lane → ComesAsTold (open_at later) last events →
    ComesAsTold (open_at table) last (event.Begins lane call ∷ events)
told_begins table later last lane call events idle beside told = record {
  ends = λ u o is. ends_past u o.ends (event.Begins lane call) events (λ h. h) (told.ends u o (there u o is));
  sooner = λ u v first other is also before. sooner_later (event.Begins lane call) (λ h. h) (λ h. h)
      (told.sooner u v first other (there u first is) (there v other also) before);
  due = λ u o reply place is ends. told.due u o reply place (there u o is) ends;
}
  where
    there : (u : ℕ) (o : OpenCall) → open_at table u ≡ Some o → open_at later u ≡ Some o
    there u o is = beside.same u (idle_apart table lane u o idle is) ∙ is

pub one_ending : (a b : Ending) (told reply : SmallReply) (place at : ℕ) → a ≡ b → a ≡ Returns told place →
    b ≡ Returns reply at → place ≡ at
one_ending a b told reply place at same first second = cc

pub told_returns : (table later : List (Option OpenCall)) (last lane : ℕ)
    (o : OpenCall) (told : SmallReply)
    (place : ℕ) (reply : Reply) (events : List Event) → open_at table lane ≡ Some o → o.ends ≡ Returns told place →
    reply_of told ≡ reply → last ≤ place → Beside table later lane → ComesAsTold (open_at later) place events →
    ComesAsTold (open_at table) last (event.Returns lane reply ∷ events)
told_returns table later last lane o told place reply events is_open ends same due beside comes = record {
  ends = λ u b is. ended u b is (cases_eq u lane);
  sooner = λ u v first other is also before. sooner u v first other is also before (cases_eq u lane) (cases_eq v lane);
  due = λ u b answer at is also. still u b answer at is also (cases_eq u lane);
}
  where
    there : (u : ℕ) (b : OpenCall) → open_at table u ≡ Some b → u ≢ lane → open_at later u ≡ Some b
    there u b is apart = beside.same u apart ∙ is

    here : (u : ℕ) (b : OpenCall) → open_at table u ≡ Some b → u ≡ lane → b ≡ o
    here u b is at = one_open table lane b o (subst (λ (x : ℕ). open_at table x ≡ Some b) at is) is_open

    ended : (u : ℕ) (b : OpenCall) → open_at table u ≡ Some b → (u ≡ lane) ⊎ (u ≢ lane) →
        EndsSo u b.ends (event.Returns lane reply ∷ events)
    ended u b is (inl at) = subst (λ (x : ℕ). EndsSo x b.ends (event.Returns lane reply ∷ events)) (sym at)
        (subst (λ (e : Ending). EndsSo lane e (event.Returns lane reply ∷ events))
        (sym (ap (λ (x : OpenCall). x.ends) (here u b is at) ∙ ends))
        (subst (λ (r : Reply). EndsSo lane (Returns told place)
        (event.Returns lane r ∷ events)) same ends_next))
    ended u b is (inr apart) = ends_past u b.ends (event.Returns lane reply) events (λ e. apart (sym e))
        (comes.ends u b (there u b is apart))

    sooner : (u v : ℕ) (first other : OpenCall) → open_at table u ≡ Some first → open_at table v ≡ Some other →
        ReturnsBefore first.ends other.ends → (u ≡ lane) ⊎ (u ≢ lane) → (v ≡ lane) ⊎ (v ≢ lane) →
        ReturnsSooner u v (event.Returns lane reply ∷ events)
    sooner u v first other is also before (inl at) _ =
        subst (λ (x : ℕ). ReturnsSooner x v (event.Returns lane reply ∷ events)) (sym at) (sooner_next reply)
    sooner u v first other is also before (inr apart) (inl at) =
        let low : place ≤ before.place =
        comes.due u first before.reply before.place (there u first is apart) before.first_is in
        let high : before.later ≡ place = one_ending other.ends o.ends before.answer told before.later place
        (ap (λ (x : OpenCall). x.ends) (here v other also at)) before.other_is ends in
        let less = before.sooner in
        absurd (omega (arith, low, high, less))
    sooner u v first other is also before (inr apart) (inr beyond) =
        sooner_later (event.Returns lane reply) (λ e. apart (sym e)) (λ e. beyond (sym e))
        (comes.sooner u v first other (there u first is apart) (there v other also beyond) before)

    still : (u : ℕ) (b : OpenCall) (answer : SmallReply) (at : ℕ) → open_at table u ≡ Some b →
        b.ends ≡ Returns answer at → (u ≡ lane) ⊎ (u ≢ lane) → last ≤ at
    still u b answer at is also (inl here_u) =
        let same_place : at ≡ place = one_ending b.ends o.ends answer told at place
        (ap (λ (x : OpenCall). x.ends) (here u b is here_u)) also ends in
        omega (arith, same_place, due)
    still u b answer at is also (inr apart) =
        let low : place ≤ at = comes.due u b answer at (there u b is apart) also in omega (arith, low, due)

pub no_return : (a b : Ending) (told : SmallReply) (place : ℕ) → a ≡ b → a ≡ Returns told place → b ≡ Withdraws → ⊥
no_return a b told place same first second = cc

pub told_withdraws : (table later : List (Option OpenCall)) (last lane : ℕ)
    (o : OpenCall) (events : List Event) →
    open_at table lane ≡ Some o → o.ends ≡ Withdraws → Beside table later lane →
    ComesAsTold (open_at later) last events →
    ComesAsTold (open_at table) last (event.Withdraws lane ∷ events)
told_withdraws table later last lane o events is_open ends beside comes = record {
  ends = λ u b is. ended u b is (cases_eq u lane);
  sooner = λ u v first other is also before. sooner_later (event.Withdraws lane)
      (λ e. apart_from u first before.reply before.place is before.first_is (sym e))
      (λ e. apart_from v other before.answer before.later also before.other_is (sym e))
      (comes.sooner u v first other
      (there u first is (apart_from u first before.reply before.place is before.first_is))
      (there v other also (apart_from v other before.answer before.later also before.other_is)) before);
  due = λ u b answer at is also. comes.due u b answer at (there u b is (apart_from u b answer at is also)) also;
}
  where
    there : (u : ℕ) (b : OpenCall) → open_at table u ≡ Some b → u ≢ lane → open_at later u ≡ Some b
    there u b is apart = beside.same u apart ∙ is

    here : (u : ℕ) (b : OpenCall) → open_at table u ≡ Some b → u ≡ lane → b ≡ o
    here u b is at = one_open table lane b o (subst (λ (x : ℕ). open_at table x ≡ Some b) at is) is_open

    apart_from : (u : ℕ) (b : OpenCall) (told : SmallReply) (place : ℕ) → open_at table u ≡ Some b →
        b.ends ≡ Returns told place → u ≢ lane
    apart_from u b told place is returns at = no_return b.ends o.ends told place
        (ap (λ (x : OpenCall). x.ends) (here u b is at)) returns ends

    ended : (u : ℕ) (b : OpenCall) → open_at table u ≡ Some b → (u ≡ lane) ⊎ (u ≢ lane) →
        EndsSo u b.ends (event.Withdraws lane ∷ events)
    ended u b is (inl at) = subst (λ (x : ℕ). EndsSo x b.ends (event.Withdraws lane ∷ events)) (sym at)
        (subst (λ (e : Ending). EndsSo lane e (event.Withdraws lane ∷ events))
        (sym (ap (λ (x : OpenCall). x.ends) (here u b is at) ∙ ends)) ends_next)
    ended u b is (inr apart) = ends_past u b.ends (event.Withdraws lane) events (λ e. apart (sym e))
        (comes.ends u b (there u b is apart))
