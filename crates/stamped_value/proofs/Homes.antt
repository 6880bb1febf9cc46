-- Where the value is, by the counts: away while there is a writer, else lent, and the last of the values.
use Rattle.std.proofs.Common.{◌≡◌, ℕ, List, [], ◌∷◌, ◌++◌, reverse, refl, ap, sym, ◌∙◌, subst, MatchBool, ◌==◌}
use Rattle.std.proofs.lemmas.List.{reverse-append}
use Rattle.lent_table.specs.Table.{Home, away, lent}
use Rattle.stamp_core.specs.LockEvent.{Counts}
use Rattle.stamped_value.specs.Values.{IsLastOf}
use Rattle.stamped_value.specs.inner.VersionRule.{HomeIs}

module _ {T : Type 0} where
  -- it is the last value, and lent to as many readers as are counted
  abbrev pub LentBy : Counts → List T → Home T → Type 0
  LentBy c values home = (x : T) × IsLastOf values x × (home ≡ lent c.readers x)

  -- HomeIs, at this number of writers
  abbrev HomeAt : Counts → List T → Home T → ℕ → Type 0
  HomeAt c values home n = MatchBool (n == 0) (LentBy c values home) (home ≡ away)

  pub is_lent : (c : Counts) (values : List T) (home : Home T) → c.writers ≡ 0 → HomeIs c values home →
      LentBy c values home
  is_lent c values home none h = subst (HomeAt c values home) none h

  pub is_away : (c : Counts) (values : List T) (home : Home T) → c.writers ≡ 1 → HomeIs c values home → home ≡ away
  is_away c values home one h = subst (HomeAt c values home) one h

  pub lent_again : (c : Counts) (values : List T) (home : Home T) (x : T) → c.writers ≡ 0 → IsLastOf values x →
      home ≡ lent c.readers x → HomeIs c values home
  lent_again c values home x none last is = subst (HomeAt c values home) (sym none) (x, last, is)

  pub last_pushed : (values : List T) (y : T) → IsLastOf (values ++ y ∷ []) y
  last_pushed values y = (values, refl)

  -- there is one last value
  pub one_last : (values : List T) (x y : T) → IsLastOf values x → IsLastOf values y → x ≡ y
  one_last values x y a b =
      let backwards : x ∷ reverse a.0 ≡ y ∷ reverse b.0 = sym (reverse-append a.0 (x ∷ [])) ∙
      (ap reverse (sym a.1 ∙ b.1) ∙ reverse-append b.0 (y ∷ [])) in
      cc
