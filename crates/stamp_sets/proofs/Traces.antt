-- A half of which each position is traced.
use Rattle.std.proofs.Common.{ℕ, ◌≡◌, ◌<◌, true, List, [], ◌∷◌, ◌++◌, length, get_or, Option, Some, None, refl, sym}
use Rattle.std.proofs.Common.{◌∙◌, ap, subst, arith}
use Rattle.std.specs.Prelude.{slice_set, replicate, reverse}
use Rattle.std.specs.Int.{bit_at}
use Rattle.std.specs.List.{Contains}
use Rattle.std.proofs.lemmas.List.{length-replicate, reverse-append}
use Rattle.std.proofs.lemmas.List.Elements.{Contains-get_or}
use Rattle.std.proofs.lemmas.Nat.Bits.{bit_at-zero}
use Rattle.stamp_runs.specs.Position.{opening_position}
use Rattle.stamp_runs.specs.Trace.IsTrace.{in_opening}
use Rattle.stamp_runs.specs.declared.event.Event.{Event}
use Rattle.stamp_runs.specs.declared.event.Event.TheVariants as event
use Rattle.stamp_sets.specs.declared.ending.Ending.TheVariants.{Returns, Withdraws}
use Rattle.stamp_sets.specs.declared.half.Half.{Half}
use Rattle.stamp_sets.specs.declared.object.Object.{Object}
use Rattle.stamp_sets.specs.declared.open_call.OpenCall.{OpenCall}
use Rattle.stamp_sets.specs.declared.position.Position.{Position}
use Rattle.stamp_sets.specs.declared.small_call.SmallReply.{SmallReply}
use Rattle.stamp_sets.specs.declared.trail.Entry.{Entry}
use Rattle.stamp_sets.specs.declared.trail.Entry.TheVariants as entry
use Rattle.stamp_sets.specs.declared.trace.Trace.{Trace}
use Rattle.stamp_sets.specs.Judged.{Judged, judged}
use Rattle.stamp_sets.specs.SmallCall.{call_of, reply_of}
use Rattle.stamp_sets.specs.Told.{IsTold, open_at}
use Rattle.stamp_sets.specs.inner.Step.{AreBegun, IsOpening}
use Rattle.stamp_sets.specs.inner.Trail.{AreReturnedBy, GoesOnTo, IsNew, IsTracedIn, ReturnsOn}
use Rattle.stamp_sets.specs.Tracing.{IsTracedBy, KeepsTrace}
use Rattle.stamp_sets.proofs.Layering.{contains_one}
use Rattle.stamp_sets.proofs.Overwriting.{judged_lawful}
use Rattle.stamp_sets.proofs.Stepping.{opening_reads}
use Rattle.stamp_sets.proofs.Trailed.{begun_traced, return_traced, withdrawal_traced}

first_traced : {S : Type 0} (o : Judged S) (table : List (Option OpenCall)) (p : Position) →
    table ≡ replicate 64 None → IsOpening o p → IsTracedBy o [] table [] p
first_traced o table p idle is = record {
  full = ap length idle ∙ length-replicate {A = Option OpenCall} 64 None;
  events = refl;
  position = opening_position o.start;
  reads = opening_reads o table p idle is;
  moves = [];
  trace = in_opening (opening_position o.start) refl refl (λ v. refl);
  says = refl;
  idle = λ v none. subst (λ (n : ℕ). bit_at n v ≡ 0) (sym is.none) (bit_at-zero v);
}

-- the same as another half and another trail have it
retold : (past : List Event) (object other : Object) (table later : List (Option OpenCall)) (es fs : List Entry)
    (x : Position) → other ≡ object → later ≡ table → es ≡ fs → IsTracedBy (judged object) past table es x →
    IsTracedBy (judged other) past later fs x
retold past object other table later es fs x objects tables trails is =
    subst (λ (ob : Object). IsTracedBy (judged ob) past later fs x) (sym objects)
    (subst (λ (t : List (Option OpenCall)). IsTracedBy (judged object) past t fs x) (sym tables)
    (subst (λ (ts : List Entry). IsTracedBy (judged object) past table ts x) trails is))

pub new_trace : (half : Half) (trace : Trace) → IsNew half → trace.is_on ≡ true → trace.entries ≡ [] →
    KeepsTrace [] half trace
new_trace half trace is on none = record {
  on = on;
  each = λ x among. subst (λ (y : Position).
      IsTracedBy (judged half.object) [] half.table.items (reverse trace.entries) y)
      (contains_one is.first x (subst (λ (xs : List Position). Contains xs x) is.only among))
      (subst (λ (es : List Entry). IsTracedBy (judged half.object) [] half.table.items (reverse es) is.first)
      (sym none) (first_traced (judged half.object) half.table.items is.first is.idle is.opening));
}

-- the entries of a trace that goes on, the newest one first
gone_on : (old new : Trace) (entries : List Entry) (number : ℕ) → GoesOnTo old new entries number →
    old.is_on ≡ true → reverse entries ++ reverse old.entries ≡ reverse new.entries
gone_on old new entries number goes on = sym (ap (λ (es : List Entry). reverse es) (goes.added on) ∙
    reverse-append old.entries entries)

module _ (past : List Event) (lane number : ℕ) (h g : Half) (t u : Trace) (same : g.object ≡ h.object)
    (old : KeepsTrace past h t) where
  pub begun_trace : (begun : OpenCall) → lane < 64 → open_at h.table.items lane ≡ None →
      GoesOnTo t u (entry.Begins lane ∷ []) number →
      AreBegun (judged h.object) begun lane h.positions.items g.positions.items →
      g.table.items ≡ slice_set h.table.items lane (Some begun) →
      KeepsTrace (past ++ event.Begins lane (call_of begun.asks) ∷ []) g u
  begun_trace begun below idle goes are put = record {
    on = goes.on ∙ old.on;
    each = λ x among. at x among;
  }
    where
      at : (x : Position) → Contains g.positions.items x → IsTracedBy (judged g.object)
          (past ++ event.Begins lane (call_of begun.asks) ∷ []) g.table.items (reverse u.entries) x
      at x (k, less, is) = subst (λ (y : Position). IsTracedBy (judged g.object)
          (past ++ event.Begins lane (call_of begun.asks) ∷ []) g.table.items (reverse u.entries) y) is
          (let low : k < length h.positions.items = let many = are.many in omega (arith, many, less) in
          retold (past ++ event.Begins lane (call_of begun.asks) ∷ []) h.object g.object
          (slice_set h.table.items lane (Some begun)) g.table.items (entry.Begins lane ∷ reverse t.entries)
          (reverse u.entries) (get_or g.positions.items k x) same put
          (gone_on t u (entry.Begins lane ∷ []) number goes old.on)
          (begun_traced (judged h.object) past h.table.items lane (reverse t.entries) begun below idle
          (get_or h.positions.items k x) (get_or g.positions.items k x) (are.each k x low)
          (old.each (get_or h.positions.items k x) (Contains-get_or h.positions.items k x low))))

  pub withdrawn_trace : IsTold (open_at h.table.items) lane Withdraws →
      GoesOnTo t u (entry.Withdraws ∷ []) number →
      g.positions.items ≡ h.positions.items → g.table.items ≡ slice_set h.table.items lane None →
      KeepsTrace (past ++ event.Withdraws lane ∷ []) g u
  withdrawn_trace told goes are put = record {
    on = goes.on ∙ old.on;
    each = λ x among. retold (past ++ event.Withdraws lane ∷ []) h.object g.object
        (slice_set h.table.items lane None) g.table.items (entry.Withdraws ∷ reverse t.entries)
        (reverse u.entries) x same put (gone_on t u (entry.Withdraws ∷ []) number goes old.on)
        (withdrawal_traced (judged h.object) past h.table.items lane (reverse t.entries) told.begun told.is_open
        (judged_lawful h.object) x told.ends (old.each x
        (subst (λ (xs : List Position). Contains xs x) are among)));
  }

  pub returned_trace : (reply : SmallReply) (place : ℕ) → IsTold (open_at h.table.items) lane (Returns reply place) →
      ReturnsOn lane number h g t u → g.table.items ≡ slice_set h.table.items lane None →
      KeepsTrace (past ++ event.Returns lane (reply_of reply) ∷ []) g u
  returned_trace reply place told returns put = record {
    on = by.goes_on.on ∙ old.on;
    each = λ x among.
        let from = by.returns.each past (reverse t.entries) (by.on ∙ old.on) start x (returns.only x among) in
        retold (past ++ event.Returns lane (reply_of reply) ∷ []) h.object g.object
        (slice_set h.table.items lane None) g.table.items
        (entry.Returns lane ∷ (reverse by.then.entries.items ++ reverse t.entries)) (reverse u.entries) x same put
        (ap (λ (es : List Entry). es ++ reverse t.entries)
        (sym (reverse-append by.then.entries.items (entry.Returns lane ∷ []))) ∙
        gone_on t u (by.then.entries.items ++ entry.Returns lane ∷ []) number by.goes_on old.on)
        (return_traced (judged h.object) past h.table.items lane (reverse by.then.entries.items ++ reverse t.entries)
        told.begun told.is_open (reply_of reply) reply place from.0 x told.ends refl from.1 from.2);
  }
    where
      by : AreReturnedBy (judged h.object) h.table.items lane number t u h.positions.items returns.positions
      by = returns.returns

      start : (p : Position) → Contains h.positions.items p →
          IsTracedIn (judged h.object) past h.table.items (reverse t.entries) by.first p
      start p among = subst (λ (es : List Entry). IsTracedBy (judged h.object) past h.table.items
          (reverse es ++ reverse t.entries) p) (sym by.none) (old.each p among)
