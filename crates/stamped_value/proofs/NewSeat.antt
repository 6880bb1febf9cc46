-- A seat that enters by a load keeps the rule: it knows the whole history and all values, and holds no mode.
use Rattle.std.proofs.Common.{◌≡◌, ℕ, ◌+◌, [], ◌∷◌, ◌++◌, refl, sym, ◌∙◌, subst, ⊎_elim, append-nil, length}
use Rattle.std.proofs.Common.{Bool, true, false, true≢false, Some, arith}
use Rattle.std.proofs.lemmas.List.{map-append}
use Rattle.std.specs.Prelude.{count_by}
use mathlib.Core.Option.{some}
use lib.ListN.{get_elem?}
use Rattle.lent_table.specs.Table.{State, Enters}
use Rattle.stamp_core.specs.Limits.{Bounds}
use Rattle.stamp_threads.specs.PassView.{IsPart, every, entering}
use Rattle.stamp_threads.specs.inner.Seats.{AreSeated}
use Rattle.stamp_threads.proofs.ListElements.{at_end}
use Rattle.stamp_threads.proofs.NewComers.{comes, new_part}
use Rattle.stamped_value.specs.declared.view.ValueView.{ValueView}
use Rattle.stamped_value.specs.declared.view.Held.TheVariants.{Free}
use Rattle.stamped_value.specs.Held.{is_writing}
use Rattle.stamped_value.specs.inner.Held.{is_reading}
use Rattle.stamped_value.specs.inner.VersionRule.{IsKept, Fits, EnterTells, passes_of}
use Rattle.stamped_value.proofs.Counted.{count_by-one}

module _ {T : Type 0} {first : T} (limits : Bounds) (s : State T (ValueView T)) (r : IsKept true limits first s) where
  abbrev newcomer : ValueView T
  newcomer = record { pass = entering r.roots tt r.log s.word; values = r.values; held = Free }

  part : IsPart every r.log newcomer.pass
  part = new_part every r.roots tt r.log s.word r.passes.entries

  seated : AreSeated (IsPart every r.log) (r.roots + 1) r.log (passes_of (s.views ++ newcomer ∷ []))
  seated = subst (AreSeated (IsPart every r.log) (r.roots + 1) r.log)
      (sym (map-append (λ (u : ValueView T). u.pass ∷ []) s.views (newcomer ∷ [])))
      (comes (IsPart every r.log) r.roots r.log (passes_of s.views) r.passes tt s.word part)

  all_fit : (k : ℕ) (u : ValueView T) → get_elem? (s.views ++ newcomer ∷ []) k ≡ some u →
      Fits limits r.log r.values u
  all_fit k u e = ⊎_elim (λ (h : get_elem? s.views k ≡ some u). r.fits k u h)
      (λ (t : (k ≡ length s.views) × (newcomer ≡ u)). subst (Fits limits r.log r.values) t.1
      (record { begins = ([], append-nil r.values); matches = tt; all = λ _. refl }))
      (at_end s.views newcomer u k e)

  -- a seat that holds no mode isn't counted
  uncounted : (f : ValueView T → Bool) → f newcomer ≡ false →
      count_by f (s.views ++ newcomer ∷ []) ≡ count_by f s.views
  uncounted f not = omega (arith, rw not at (count_by-one f s.views newcomer))

  enters : IsKept true limits first (record { word = s.word; home = s.home; views = s.views ++ newcomer ∷ [] })
  enters = record {
    log = r.log;
    values = r.values;
    roots = r.roots + 1;
    one_root = λ shut. absurd (true≢false shut);
    legal = r.legal;
    represents = r.represents;
    passes = seated;
    are = r.are;
    opens = r.opens;
    home = r.home;
    fits = all_fit;
    readers_are = uncounted (λ (u : ValueView T). is_reading u.held) refl ∙ r.readers_are;
    writers_are = uncounted (λ (u : ValueView T). is_writing u.held) refl ∙ r.writers_are;
  }

pub enters_by_load : {T : Type 0} (limits : Bounds) (first : T) →
    Enters (IsKept true limits first) (λ n w. EnterTells limits (Some first) w)
enters_by_load limits first s r _ = (
  newcomer limits s r,
  enters limits s r,
  record {
    pass = record {
      root = r.roots;
      word = s.word;
      view = refl;
      represents = r.represents;
      new = r.passes.entries;
      consistent = let p = part limits s r in record { legal = r.legal; own = p.own; given = p.given };
    };
    are = r.are;
    opens = r.opens;
    free = (refl, refl);
  },
)
