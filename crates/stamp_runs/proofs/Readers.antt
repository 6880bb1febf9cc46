-- Calls that read what a hidden one left.
use Rattle.std.proofs.Common.{◌≡◌, ◌≢◌, ◌⊎◌, ℕ, Bool, true, false, Option, Some, refl, sym, ◌∙◌, ap, subst, inl, inr}
use Rattle.std.proofs.lemmas.Bool.{cases_eq, cases_Bool}
use Rattle.std.proofs.lemmas.Option.{same_Some}
use Rattle.stamp_core.specs.declared.call.Call.{Call}
use Rattle.stamp_core.specs.declared.reply.Reply.{Reply}
use Rattle.stamp_runs.specs.Object.{Object}
use Rattle.stamp_runs.specs.Run.{Lanes, Sets}
use Rattle.stamp_runs.specs.Run.Phase.{Asks, Gets}
use Rattle.stamp_runs.specs.Position.{Hidden, Overwrites, ReadsOrOverwrites, Shows}
use Rattle.stamp_runs.specs.Position.Hidden.{no_more, overwrites, sees}
use Rattle.stamp_runs.specs.Watching.{MayGet, Told}
use Rattle.stamp_runs.proofs.Lanes.{asks_or_gets, set_of, sets_of, true_or_false}
use Rattle.stamp_runs.proofs.Hiding.{stays_in_effect}

module _ {S : Type 0} (O : Object S) (ahead : ℕ → Told) (free then_free readers : ℕ → Bool)
    (told : ℕ → Reply) (lane : ℕ) (reply : Reply) (t : S)
    (freed : (v : ℕ) → v ≢ lane → readers v ≡ false → free v ≡ true → then_free v ≡ true) where
  abbrev ShownAs : Lanes → Lanes → Type 0
  ShownAs = Shows lane reply readers told

  abbrev pub Each : Lanes → Type 0
  Each a = (v : ℕ) (call : Call) → free v ≡ true → a v ≡ Asks call → v ≢ lane →
      ReadsOrOverwrites O ahead t readers v call

  abbrev pub Mine : Lanes → Type 0
  Mine a = (call : Call) → a lane ≡ Asks call → Overwrites O call reply t

  still : {a after : Lanes} (u : ℕ) (r : Reply) → Sets a after u (Gets r) → (v : ℕ) (c : Call) → after v ≡ Asks c →
      a v ≡ Asks c
  still {a} {after} u r sets v c asks = sym (sets.others v (λ e. asks_or_gets asks
      (subst (λ (w : ℕ). after w ≡ Gets r) (sym e) sets.here))) ∙ asks

  each_then : {a after : Lanes} (u : ℕ) (r : Reply) → Sets a after u (Gets r) → Each a → Each after
  each_then u r sets each v c is asks = each v c is (still u r sets v c asks)

  mine_then : {a after : Lanes} (u : ℕ) (r : Reply) → Sets a after u (Gets r) → Mine a → Mine after
  mine_then u r sets mine c asks = mine c (still u r sets lane c asks)

  shows_one : {a b c : Lanes} → ShownAs a b → ShownAs a c → b ≡ c
  shows_one {a} {b} {c} one other = λ i v. by v (cases_eq v lane) (cases_Bool (readers v)) i
    where
      by : (v : ℕ) → (v ≡ lane) ⊎ (v ≢ lane) → (readers v ≡ true) ⊎ (readers v ≡ false) → b v ≡ c v
      by v (inl same) either = subst (λ (w : ℕ). b w ≡ c w) (sym same) (one.here ∙ sym other.here)
      by v (inr apart) (inl is) = one.readers_get v apart is ∙ sym (other.readers_get v apart is)
      by v (inr apart) (inr not) = one.others v apart not ∙ sym (other.others v apart not)

  -- a lane that is shown otherwise in any case takes effect
  shows_more : {a after shown : Lanes} (u : ℕ) (r : Reply) → Sets a after u (Gets r) → ShownAs a shown →
      ((u ≡ lane) ⊎ (readers u ≡ true)) → ShownAs after shown
  shows_more {a} {after} {shown} u r sets shows which = record {
    here = shows.here;
    readers_get = shows.readers_get;
    others = λ v apart not. shows.others v apart not ∙ sym (sets.others v (λ e. by v apart not e which));
  }
    where
      by : (v : ℕ) → v ≢ lane → readers v ≡ false → v ≡ u → ((u ≡ lane) ⊎ (readers u ≡ true)) → ⊥
      by v apart not e (inl same) = apart (e ∙ same)
      by v apart not e (inr is) = true_or_false (subst (λ (w : ℕ). readers w ≡ true) (sym e) is) not

  -- and one that is shown as it is
  shows_it : {a after shown : Lanes} (u : ℕ) (r : Reply) → Sets a after u (Gets r) → ShownAs a shown → u ≢ lane →
      readers u ≡ false → ShownAs after (set_of shown u (Gets r))
  shows_it {a} {after} {shown} u r sets shows other no_reader = record {
    here = (sets_of shown u (Gets r)).others lane (λ e. other (sym e)) ∙ shows.here;
    readers_get = λ v apart is. (sets_of shown u (Gets r)).others v (λ e. true_or_false is
        (subst (λ (w : ℕ). readers w ≡ false) (sym e) no_reader)) ∙ shows.readers_get v apart is;
    others = λ v apart not. by v apart not (cases_eq v u);
  }
    where
      by : (v : ℕ) → v ≢ lane → readers v ≡ false → (v ≡ u) ⊎ (v ≢ u) → set_of shown u (Gets r) v ≡ after v
      by v apart not (inl same) = subst (λ (w : ℕ). set_of shown u (Gets r) w ≡ after w) (sym same)
          ((sets_of shown u (Gets r)).here ∙ sym sets.here)
      by v apart not (inr beyond) = (sets_of shown u (Gets r)).others v beyond ∙ shows.others v apart not ∙
          sym (sets.others v beyond)

  -- the call and its readers are hidden first
  pub readers_first : {at : Option S} {a l : Lanes} → Hidden O free at a l → Each a → Mine a → (at' : Option S) →
      ((at' ≡ at) ⊎ (at ≡ Some t)) → (a' l' : Lanes) → ShownAs a a' → ShownAs l l' → l lane ≡ Gets reply →
      ((v : ℕ) (r : Reply) → l v ≡ Gets r → MayGet (ahead v) r) → Hidden O then_free at' a' l'
  readers_first no_more each mine at' where_at a' l' shows shows_l gets ok =
      subst (λ (m : Lanes). Hidden O then_free at' a' m) (shows_one shows shows_l) no_more
  readers_first {at} {a = a} {l = l} (overwrites {after = after} u c r v is_free asks over sets rest) each mine at'
      where_at a' l' shows shows_l gets ok = by (cases_eq u lane) (cases_Bool (readers u))
      (λ at1 here shown. readers_first rest (each_then u r sets each) (mine_then u r sets mine) at1 here shown l')
    where
      by : (u ≡ lane) ⊎ (u ≢ lane) → (readers u ≡ true) ⊎ (readers u ≡ false) →
          ((at1 : Option S) → ((at1 ≡ Some v) ⊎ (Some v ≡ Some t)) → (shown : Lanes) → ShownAs after shown →
          ShownAs l l' → l lane ≡ Gets reply → ((w : ℕ) (q : Reply) → l w ≡ Gets q → MayGet (ahead w) q) →
          Hidden O then_free at1 shown l') → Hidden O then_free at' a' l'
      by (inl same) either on = on at' (inr (ap Some ((mine c (subst (λ (w : ℕ). a w ≡ Asks c) same asks)).leaves v v r
          (over.may v)))) a' (shows_more u r sets shows (inl same)) shows_l gets ok
      by (inr apart) (inl is) on = absurd ((each u c is_free asks apart).apart is r v over)
      by (inr apart) (inr not) on = overwrites u c r v (freed u apart not is_free) (shows.others u apart not ∙ asks)
          over
          (sets_of a' u (Gets r)) (on (Some v) (inl refl) (set_of a' u (Gets r)) (shows_it u r sets shows apart not)
          shows_l gets ok)
  readers_first {a = a} {l = l} (sees {after = after} {t = v} u c r is_free asks step sets rest) each mine at'
      where_at a' l' shows shows_l gets ok = by (cases_eq u lane) (cases_Bool (readers u))
      (λ at1 here shown. readers_first rest (each_then u r sets each) (mine_then u r sets mine) at1 here shown l')
    where
      by : (u ≡ lane) ⊎ (u ≢ lane) → (readers u ≡ true) ⊎ (readers u ≡ false) →
          ((at1 : Option S) → ((at1 ≡ Some v) ⊎ (Some v ≡ Some t)) → (shown : Lanes) → ShownAs after shown →
          ShownAs l l' → l lane ≡ Gets reply → ((w : ℕ) (q : Reply) → l w ≡ Gets q → MayGet (ahead w) q) →
          Hidden O then_free at1 shown l') → Hidden O then_free at' a' l'
      by (inl same) either on = on at' (inr (ap Some ((mine c (subst (λ (w : ℕ). a w ≡ Asks c) same asks)).leaves v v r
          step))) a' (shows_more u r sets shows (inl same)) shows_l gets ok
      by (inr apart) (inl is) on = on at' where_at a' (shows_more u r sets shows (inr is)) shows_l gets ok
      by (inr apart) (inr not) on = kind (each u c is_free asks apart).which where_at
        where
          then_on : Hidden O then_free (Some v) (set_of a' u (Gets r)) l'
          then_on = on (Some v) (inl refl) (set_of a' u (Gets r)) (shows_it u r sets shows apart not) shows_l gets ok

          kind : ((reply : Reply) × (w : S) × Overwrites O c reply w) ⊎
              ((reply : Reply) → O t c reply t → MayGet (ahead u) reply → readers u ≡ true) → ((at' ≡ Some v) ⊎ (Some v
              ≡ Some t)) → Hidden O then_free at' a' l'
          kind (inl it) either = overwrites u c r v (freed u apart not is_free) (shows.others u apart not ∙ asks)
              (subst (λ (w : S). Overwrites O c r w) (sym (it.2.leaves v v r step))
              (subst (λ (w : Reply). Overwrites O c w it.1) (sym (it.2.answer v v r step)) it.2))
              (sets_of a' u (Gets r)) then_on
          kind (inr reads) (inl same) = subst (λ (w : Option S). Hidden O then_free w a' l') (sym same)
              (sees u c r (freed u apart not is_free) (shows.others u apart not ∙ asks) step (sets_of a' u (Gets r))
              then_on)
          kind (inr reads) (inr there) = absurd (true_or_false (reads r
              (subst (λ (w : S). O w c r w) (same_Some _ _ there) step)
              (ok u r (stays_in_effect O u r rest sets.here))) not)
