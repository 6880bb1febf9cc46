-- What is hidden where calls that read are in effect at once, or calls that never end ask again.
use Rattle.std.proofs.Common.{◌≡◌, ◌≢◌, ◌⊎◌, ℕ, Bool, true, false, Option, Some, sym}
use Rattle.std.proofs.Common.{◌∙◌, subst, inl, inr}
use Rattle.std.proofs.lemmas.Bool.{cases_eq, cases_Bool}
use Rattle.stamp_core.specs.declared.call.Call.{Call}
use Rattle.stamp_core.specs.declared.reply.Reply.{Reply}
use Rattle.stamp_runs.specs.Object.{Object}
use Rattle.stamp_runs.specs.Run.{Lanes, Sets}
use Rattle.stamp_runs.specs.Run.Phase.{Asks, Gets}
use Rattle.stamp_runs.specs.Position.{AreShown, AskAgain, Hidden, OverwritesNever}
use Rattle.stamp_runs.specs.Position.Hidden.{no_more, overwrites, sees}
use Rattle.stamp_runs.proofs.Endless.{asking_on}
use Rattle.stamp_runs.proofs.Lanes.{asks_or_gets, set_of, sets_of, true_or_false}

-- what reads is in effect at once
module _ {S : Type 0} (O : Object S) (free then_free readers : ℕ → Bool) (told : ℕ → Reply)
    (freed : (v : ℕ) → readers v ≡ false → free v ≡ true → then_free v ≡ true) where
  abbrev Settles : Lanes → Lanes → Type 0
  Settles = AreShown readers told

  abbrev pub NoneOverwrites : Lanes → Type 0
  NoneOverwrites a = (v : ℕ) → readers v ≡ true → (c : Call) → a v ≡ Asks c → OverwritesNever O c

  none_then : {a after : Lanes} (u : ℕ) (r : Reply) → Sets a after u (Gets r) → NoneOverwrites a →
      NoneOverwrites after
  none_then {a} {after} u r sets none v is c asks = none v is c (sym (sets.others v (λ e. asks_or_gets asks
      (subst (λ (w : ℕ). after w ≡ Gets r) (sym e) sets.here))) ∙ asks)

  settled_one : {a b c : Lanes} → Settles a b → Settles a c → b ≡ c
  settled_one {a} {b} {c} one other = λ i v. by v (cases_Bool (readers v)) i
    where
      by : (v : ℕ) → (readers v ≡ true) ⊎ (readers v ≡ false) → b v ≡ c v
      by v (inl is) = one.read v is ∙ sym (other.read v is)
      by v (inr not) = one.others v not ∙ sym (other.others v not)

  settles_it : {a after shown : Lanes} (u : ℕ) (r : Reply) → Sets a after u (Gets r) → Settles a shown →
      readers u ≡ false → Settles after (set_of shown u (Gets r))
  settles_it {a} {after} {shown} u r sets settles no_reader = record {
    read = λ v is. (sets_of shown u (Gets r)).others v (λ e. true_or_false is
        (subst (λ (w : ℕ). readers w ≡ false) (sym e) no_reader)) ∙ settles.read v is;
    others = λ v not. by v not (cases_eq v u);
  }
    where
      by : (v : ℕ) → readers v ≡ false → (v ≡ u) ⊎ (v ≢ u) → set_of shown u (Gets r) v ≡ after v
      by v not (inl same) = subst (λ (w : ℕ). set_of shown u (Gets r) w ≡ after w) (sym same)
          ((sets_of shown u (Gets r)).here ∙ sym sets.here)
      by v not (inr beyond) = (sets_of shown u (Gets r)).others v beyond ∙ settles.others v not ∙
          sym (sets.others v beyond)

  pub settled_hidden : {at : Option S} {a l : Lanes} → Hidden O free at a l → NoneOverwrites a → (a' l' : Lanes) →
      Settles a a' → Settles l l' → Hidden O then_free at a' l'
  settled_hidden {at} no_more none a' l' settles settles_l =
      subst (λ (m : Lanes). Hidden O then_free at a' m) (settled_one settles settles_l) no_more
  settled_hidden {at} {a} {l} (overwrites {after = after} u c r v is_free asks over sets rest) none a' l' settles
      settles_l =
      by (cases_Bool (readers u)) (λ no_reader. settled_hidden rest (none_then u r sets none) (set_of a' u (Gets r)) l'
      (settles_it u r sets settles no_reader) settles_l)
    where
      by : (readers u ≡ true) ⊎ (readers u ≡ false) →
          (readers u ≡ false → Hidden O then_free (Some v) (set_of a' u (Gets r)) l') → Hidden O then_free at a' l'
      by (inl is) on = absurd (none u is c asks r v over)
      by (inr not) on = overwrites u c r v (freed u not is_free) (settles.others u not ∙ asks) over
          (sets_of a' u (Gets r)) (on not)
  settled_hidden {a = a} {l} (sees {after = after} {t = v} u c r is_free asks step sets rest) none a' l' settles
      settles_l =
      by (cases_Bool (readers u)) (λ no_reader. settled_hidden rest (none_then u r sets none) (set_of a' u (Gets r)) l'
      (settles_it u r sets settles no_reader) settles_l) (λ is. settled_hidden rest (none_then u r sets none) a' l'
      (record {
        read = settles.read;
        others = λ w not. settles.others w not ∙ sym (sets.others w (λ e. true_or_false is
            (subst (λ (x : ℕ). readers x ≡ false) e not)));
      }) settles_l)
    where
      by : (readers u ≡ true) ⊎ (readers u ≡ false) →
          (readers u ≡ false → Hidden O then_free (Some v) (set_of a' u (Gets r)) l') →
          (readers u ≡ true → Hidden O then_free (Some v) a' l') → Hidden O then_free (Some v) a' l'
      by (inl is) on drop = drop is
      by (inr not) on drop = sees u c r (freed u not is_free) (settles.others u not ∙ asks) step
          (sets_of a' u (Gets r)) (on not)

-- calls that are in effect ask again
module _ {S : Type 0} (O : Object S) (free then_free endless : ℕ → Bool)
    (freed : (v : ℕ) → endless v ≡ false → free v ≡ true → then_free v ≡ true) where
  -- the same lanes but for those, which are the same in both
  pub record Undone (a l b m : Lanes) : Type 0 where
    pub before : AskAgain endless a b
    pub after : AskAgain endless l m
    pub alike : (v : ℕ) → endless v ≡ true → m v ≡ b v

  undone_one : {a b m : Lanes} → Undone a a b m → b ≡ m
  undone_one {a} {b} {m} undone = λ i v. by v (cases_Bool (endless v)) i
    where
      by : (v : ℕ) → (endless v ≡ true) ⊎ (endless v ≡ false) → b v ≡ m v
      by v (inl is) = sym (undone.alike v is)
      by v (inr not) = undone.before.others v not ∙ sym (undone.after.others v not)

  not_endless : {a l b m : Lanes} {u : ℕ} {c : Call} → Undone a l b m → a u ≡ Asks c → endless u ≡ false
  not_endless {u = u} undone asks = by (cases_Bool (endless u))
    where
      by : (endless u ≡ true) ⊎ (endless u ≡ false) → endless u ≡ false
      by (inl is) = absurd (asks_or_gets asks (undone.before.in_effect u is).1)
      by (inr not) = not

  undone_on : {a after l b m : Lanes} {u : ℕ} {r : Reply} → endless u ≡ false → Sets a after u (Gets r) →
      Undone a l b m → Undone after l (set_of b u (Gets r)) m
  undone_on {a} {after} {l} {b} {m} {u} {r} not sets undone = record {
    before = asking_on u not sets undone.before;
    after = undone.after;
    alike = λ v is. undone.alike v is ∙ sym ((sets_of b u (Gets r)).others v (λ e. true_or_false is
        (subst (λ (w : ℕ). endless w ≡ false) (sym e) not)));
  }

  pub undone_hidden : {at : Option S} {a l : Lanes} → Hidden O free at a l → (b m : Lanes) → Undone a l b m →
      Hidden O then_free at b m
  undone_hidden {at} no_more b m undone =
      subst (λ (x : Lanes). Hidden O then_free at b x) (undone_one undone) no_more
  undone_hidden (overwrites u c r t is asks over sets rest) b m undone =
      let not = not_endless undone asks in
      overwrites u c r t (freed u not is) (undone.before.others u not ∙ asks) over (sets_of b u (Gets r))
      (undone_hidden rest (set_of b u (Gets r)) m (undone_on not sets undone))
  undone_hidden (sees u c r is asks step sets rest) b m undone =
      let not = not_endless undone asks in
      sees u c r (freed u not is) (undone.before.others u not ∙ asks) step (sets_of b u (Gets r))
      (undone_hidden rest (set_of b u (Gets r)) m (undone_on not sets undone))
