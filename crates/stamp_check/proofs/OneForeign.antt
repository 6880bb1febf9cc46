-- Of a record there is one first bad reply at most, and none where it can migrate.
use Rattle.std.proofs.Common.{◌≡◌, ◌⊎◌, ℕ, ◌<◌, List, length, get_or, take, ◌∙◌, subst, inl, inr, arith}
use Rattle.std.proofs.lemmas.List.{length-take, get_or-take}
use Rattle.std.proofs.lemmas.Option.{get_or_from_slice_get, slice_get_within}
use Rattle.stamp_core.specs.Record.{Recorded}
use Rattle.stamp_core.specs.declared.entry.Entry.{Entry}
use Rattle.stamp_check.specs.Migration.{CanRespell, CanMigrate, IsFirstForeign, IsBadReply}
use Rattle.stamp_check.proofs.RespelledRecords.{can_at}

no_foreign_before : (es : List Entry) (i j : ℕ) → IsFirstForeign es i → IsFirstForeign es j → i < j → ⊥
no_foreign_before es i j x y lt =
    let e = x.entry in
    let inside : i < length es = slice_get_within es i e x.is_entry in
    let within : i < length (take j es) = omega (arith, length-take j es) in
    let is : get_or (take j es) i e ≡ e = get_or-take j es i e lt ∙ get_or_from_slice_get es i e e x.is_entry in
    x.foreign (subst (λ (d : Entry). CanRespell d.reply) is (y.before i e within))

pub one_bad_reply : (r : Recorded) (i j : ℕ) → IsBadReply r i → IsBadReply r j → i ≡ j
one_bad_reply r i j x y = by (order i j)
  where
    order : (n m : ℕ) → (n < m) ⊎ (m < n) ⊎ (n ≡ m)
    order n m = grind arith

    by : (i < j) ⊎ (j < i) ⊎ (i ≡ j) → i ≡ j
    by (inl lt) = absurd (no_foreign_before r.entries i j x.first y.first lt)
    by (inr (inl gt)) = absurd (no_foreign_before r.entries j i y.first x.first gt)
    by (inr (inr e)) = e

pub migrates_or_not : (r : Recorded) (i : ℕ) → CanMigrate r → IsBadReply r i → ⊥
migrates_or_not r i can bad =
    bad.first.foreign (can_at r.entries i bad.first.entry (can bad.layout) bad.first.is_entry)
