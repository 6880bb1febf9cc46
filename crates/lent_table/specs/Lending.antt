-- What a `Shared` and a `Seat` own. The table lends its memory for a lifetime of its own, the age, whose token it
-- keeps. While the value is lent, it is shared for a round, a lifetime within the age. Of the round's token each
-- reader has one part in 2 ^ 63, and the table the rest; the round's name is agreed upon in the same parts. Readers
-- are counted by parts too. Whoever has the whole round ends it.
use Rattle.std.specs.Prelude.{◌≡◌, ℕ, ◌-◌, ◌^◌, [], ◌∷◌, ◌++◌, Bool, true, false, List}
use mir.Syntax.{Ty}
use mir.Raw.{raw}
use base.Fraction.{full_share}
use base.Share.{three_quarters}
use base.Stored.{Gv, Coded, coded×, coded_ℕ, coded_via}
use base.Fml.{Lft, Fml, ftrue, fsep, fex, fbor, flent, flft, finv, fobs}
use types.SemTy.{Body}
use denote.RattleType.{RattleType}
use denote.Memory.{mem, lone, shared_of}
use denote.RawPtr.{Ptr, block_ptr, block_of, count_of, InBlock}
use denote.Sharing as sharing
use denote.Hidden as hidden
use Rattle.core.specs.Sync.RawAtomic.{word}
use Rattle.atomic_table.specs.Seated.{fact, seen, roster}
use Rattle.counted_slot.specs.Counting.{tag, parts}
use Rattle.lent_table.specs.Table.{Home, away, lent, Hold, none, reads, writes, State, Me}

-- which table it is: what no other table shares with it
pub record TableId : Type 0 where
  pub atom : ℕ
  pub block : ℕ
  pub offset : ℕ
  pub views_name : ℕ
  pub round_name : ℕ
  pub value_name : ℕ
  pub count_atom : ℕ
  pub count_name : ℕ

abbrev pub table_id_coded : Coded TableId
table_id_coded =
    let four = coded× coded_ℕ (coded× coded_ℕ (coded× coded_ℕ coded_ℕ)) in
    coded_via (coded× four four)
    (λ (z : TableId). (
      (z.atom, (z.block, (z.offset, z.views_name))),
      (z.round_name, (z.value_name, (z.count_atom, z.count_name))),
    ))
    (λ x y e i. let u = e i in record {
      atom = u.0.0;
      block = u.0.1.0;
      offset = u.0.1.1.0;
      views_name = u.0.1.1.1;
      round_name = u.1.0;
      value_name = u.1.1.0;
      count_atom = u.1.1.1.0;
      count_name = u.1.1.1.1;
    })

-- where its value lies
abbrev pub place : TableId → Ptr
place z = block_ptr z.block z.offset

-- its age: for that lifetime it lends its memory
abbrev pub age : TableId → Lft
age z = z.atom ∷ []

module _ (R : RattleType) (z : TableId) where
  -- the value in its place, as its name says it is
  abbrev pub kept : Fml
  kept = Body (mem R) z.block z.offset z.value_name

  -- the value x, for reading
  abbrev pub shows : R.Denot → Lft → Fml
  shows x = shared_of R x z.block z.offset

  -- the borrow of the value comes back after the round a
  abbrev pub waits : ℕ → Fml
  waits a = flent (a ∷ age z) (fbor (age z) kept)

  -- what there is of the round a beside its token
  abbrev pub round_of : ℕ → R.Denot → Fml
  round_of a x = fsep (shows x (a ∷ age z)) (fsep (fobs z.value_name (R.coded.code x)) (waits a))

  -- m readers have their parts of the round a
  abbrev pub lends : ℕ → R.Denot → ℕ → Fml
  lends m x a = fsep (parts z.round_name a (2 ^ 63 - m)) (round_of a x)

  -- one of them
  abbrev pub reading : R.Denot → ℕ → Fml
  reading x a = fsep (parts z.round_name a 1) (shows x (a ∷ age z))

  -- no round: the borrow of the value, and the name of the last round
  abbrev pub writing : R.Denot → ℕ → Fml
  writing x a = fsep (tag z.round_name full_share a) (fsep (fobs z.value_name (R.coded.code x)) (fbor (age z) kept))

  -- so many of the parts by which readers are counted, which nobody ever has all but the table
  abbrev pub counted : ℕ → Fml
  counted k = parts z.count_name z.count_atom k

  abbrev pub home_owns : Home R.Denot → Fml
  home_owns away = fsep ftrue (counted (2 ^ 63 - 0))
  home_owns (lent m x) = fsep (fex ℕ (lends m x)) (counted (2 ^ 63 - m))

  abbrev pub hold_owns : Hold R.Denot → Fml
  hold_owns none = ftrue
  hold_owns (reads x) = fsep (fex ℕ (reading x)) (counted 1)
  hold_owns (writes x) = fex ℕ (writing x)

  -- what a `&` to a seat that reads shows
  abbrev pub lit : R.Denot → ℕ → Lft → Fml
  lit x a = sharing.beside (sharing.one (λ q. flft (a ∷ []) q)) (sharing.within (a ∷ age z) (shows x))

  -- what a writer has, borrowed for κ; or the value, shared for κ since a reference to it was asked for
  abbrev pub stage : R.Denot → Lft → Bool → Fml
  stage x κ false = fbor κ (fex ℕ (writing x))
  stage x κ true = shows x (κ ++ age z)

  -- what a `&` to a seat that writes shows. The thread's token opens it, since a `&` to a seat stays in its thread
  abbrev pub staged : R.Denot → Lft → Lft → Fml
  staged x κ = sharing.beside (sharing.ends κ) (hidden.kept (z.block, z.offset) (fex Bool (stage x κ)))

  abbrev pub hold_shares : Hold R.Denot → Lft → Fml
  hold_shares none = sharing.nothing
  hold_shares (reads x) = sharing.some ℕ (lit x)
  hold_shares (writes x) = sharing.some Lft (staged x)

abbrev pub Placed : Ptr → Ptr → TableId → Type 0
Placed w p z = InBlock w × (p ≡ place z)

abbrev pub seat_owns : (R : RattleType) {V : Type 0} → (V → Gv) → TableId → ℕ → Me R.Denot V → Fml
seat_owns R c z id me = fsep (hold_owns R z me.1) (seen c z.views_name id three_quarters me.0)

-- the seat left with this view, for good: nobody has it now, and nobody can make a step by it
abbrev pub has_left : {V : Type 0} → (V → Gv) → TableId → ℕ → V → Fml
has_left c z id v = finv (seen c z.views_name id three_quarters v)

-- the table ended, and these are the last views of all seats that it ever had, by their order. Nobody can say so of
-- another list: the views are those that the seats themselves had, or left with
abbrev pub has_ended : {V : Type 0} → (V → Gv) → TableId → List V → Fml
has_ended c z views = finv (roster c z.views_name 0 views)

module _ (R : RattleType) {V : Type 0} (c : V → Gv) (holds : State R.Denot V → Type 0) (w p : Ptr) (z : TableId) where
  abbrev pub standing : State R.Denot V → Fml
  standing s = fsep (word (block_of w) (count_of w) s.word)
      (fsep (fsep (home_owns R z s.home) (roster c z.views_name 0 s.views)) (fact (holds s)))

  abbrev pub inner : Fml
  inner = fex (State R.Denot V) standing

  -- what everybody knows
  abbrev pub common : Fml
  common = fsep (fact (Placed w p z)) (finv (fbor (age z) inner))

  -- the rights to have the word and the value back
  abbrev pub rights : Fml
  rights = fsep (flent (age z) inner) (flent (age z) (kept R z))

-- It keeps the rule in sight as an argument, where `search` can match it
unfoldable pub under : (X : Type 1) → X → (X → Fml) → Fml
under X x F = F x

abbrev pub table_owns : (R : RattleType) {V : Type 0} → (V → Gv) → (State R.Denot V → Type 0) → Ptr → Ptr → TableId
    → Fml
table_owns R {V} c holds w p z = under (State R.Denot V → Type 0) holds
    (λ h. fsep (flft (age z) full_share) (fsep (common R c h w p z) (rights R c h w p z)))

abbrev pub table_shares : (R : RattleType) {V : Type 0} → (V → Gv) → (State R.Denot V → Type 0) → Ptr → Ptr
    → TableId → Lft → Fml
table_shares R {V} c holds w p z κ = under (State R.Denot V → Type 0) holds
    (λ h. fsep (sharing.one (λ q. flft (age z) q) κ) (common R c h w p z))

-- the right to free the memory of a value
abbrev pub deed_owns : (Ty → Ptr → Fml) → RattleType → Ptr → Fml
deed_owns frees R p = fsep (fact (InBlock p)) (frees (raw (lone R.mir)) p)
