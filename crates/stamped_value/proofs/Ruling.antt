-- Sections of a value that keeps to a rule, by what its closure is known to do.
use Rattle.std.proofs.Common.{ℕ, Bool, true, false, Option, Some, None, IfSome, Bor, inl, inr}
use Rattle.std.specs.Prelude.{Result, Ok, Err}
use Rattle.std.specs.Fn.{Shared, FnReturnsAt}
use Rattle.stamped_value.specs.declared.spent.Spent.{Spent}
use Rattle.stamped_value.specs.ValueLock.{ValueToken}
use Rattle.stamped_value.specs.Sections.{BeginsReading, ReadSection, ReadsByStamp, EndsWriting, WriteSection}
use Rattle.stamped_value.specs.WriteIf.{UpgradeSection, NotUpgraded, WriteWhere, WriteAtOnce, WriteIfSection}

module _ {T : Type 0} where
  pub begins_so : {P Q : T → Type 0} {s : ℕ} {a b : ValueToken T} → ((x : T) → P x → Q x) → BeginsReading P s a b
      → BeginsReading Q s a b
  begins_so says r =
      record { acquired = r.acquired; value = r.value; has = r.has; last = r.last; read = says r.value r.read }

  pub reads_so : {P Q : T → Type 0} {a b : ValueToken T} → ((x : T) → P x → Q x) → ReadSection P a b
      → ReadSection Q a b
  reads_so says s =
      record { stamp = s.stamp; reader = s.reader; begins = begins_so says s.begins; released = s.released }

  -- the same, with its stamp
  pub reads_so_by : {P Q : T → Type 0} {s : ℕ} {a b : ValueToken T} → ((x : T) → P x → Q x) → ReadsByStamp P s a b
      → ReadsByStamp Q s a b
  unfolding begins_so reads_so
  reads_so_by says t = (reads_so says t.0, t.1, t.2)

  pub ends_so : {P Q : T → T → Type 0} {s : ℕ} {a b : ValueToken T} → ((x y : T) → P x y → Q x y)
      → EndsWriting P s a b → EndsWriting Q s a b
  ends_so says w = record {
    found = w.found;
    has = w.has;
    last = w.last;
    left = w.left;
    written = says w.found w.left w.written;
    released = w.released;
    leaves = w.leaves;
  }

  pub writes_so : {P Q : T → T → Type 0} {a b : ValueToken T} → ((x y : T) → P x y → Q x y) → WriteSection P a b
      → WriteSection Q a b
  writes_so says s =
      record { stamp = s.stamp; writer = s.writer; acquired = s.acquired; ends = ends_so says s.ends }

  -- the same, where it was written
  pub writes_so_if : {A : Type 0} (P Q : A → T → T → Type 0) (a b : ValueToken T)
      → ((r : A) (x y : T) → P r x y → Q r x y) → (o : Option A) → IfSome o (λ r. WriteSection (P r) a b)
      → IfSome o (λ r. WriteSection (Q r) a b)
  writes_so_if P Q a b says None s = tt
  writes_so_if P Q a b says (Some r) s = writes_so (says r) s

  pub upgrades_so : {P P' : T → Type 0} {Q Q' : T → T → Type 0} {a b : ValueToken T} → ((x : T) → P x → P' x)
      → ((x y : T) → Q x y → Q' x y) → UpgradeSection P Q a b → UpgradeSection P' Q' a b
  unfolding begins_so ends_so
  upgrades_so tests says u = record {
    reading = u.reading;
    reader = u.reader;
    tested = begins_so tests u.tested;
    writing = u.writing;
    writer = u.writer;
    upgraded = u.upgraded;
    ends = ends_so says u.ends;
    same = u.same;
  }

  pub not_upgraded_so : {P P' : T → Type 0} {a b : ValueToken T} → ((x : T) → P x → P' x) → NotUpgraded P a b
      → NotUpgraded P' a b
  not_upgraded_so tests n =
      record { reading = n.reading; reader = n.reader; tested = begins_so tests n.tested; gives_up = n.gives_up }

  module _ {A : Type 0} (P P' : Bool → T → Type 0) (Q Q' : A → T → T → Type 0)
      (tests : (yes : Bool) (x : T) → P yes x → P' yes x) (says : (r : A) (x y : T) → Q r x y → Q' r x y) where
    writes_where_so : (o : Result (Option A) Spent) (a b : ValueToken T) → WriteWhere P Q o a b → WriteWhere P' Q' o a b
    writes_where_so (Ok (Some r)) a b s = writes_so (λ x y w. (tests true x w.0, says r x y w.1)) s
    writes_where_so (Ok None) a b s = writes_so (λ x y w. (tests false x w.0, w.1)) s
    writes_where_so (Err _) a b s = s

    writes_at_once_so : (o : Result (Option A) Spent) (a b : ValueToken T) → WriteAtOnce P Q o a b
        → WriteAtOnce P' Q' o a b
    writes_at_once_so (Ok (Some r)) a b s = upgrades_so (tests true) (says r) s
    writes_at_once_so (Ok None) a b s = reads_so (tests false) s
    writes_at_once_so (Err _) a b s = s

    writes_if_so : (o : Result (Option A) Spent) (a b : ValueToken T) → WriteIfSection P Q o a b
        → WriteIfSection P' Q' o a b
    writes_if_so o a b (inl s) = inl (writes_at_once_so o a b s)
    writes_if_so o a b (inr s) = inr (s.0, not_upgraded_so (tests true) s.1, writes_where_so o s.0 b s.2)

  -- the same of a section with a test, where that also tells the rule, and what another test answers
  pub writes_ruled_if : {A C D : Type 0} (test : Shared C (Bor T × Unit {0}) Bool) (f : C) (Rule : T → Type 0)
      (inner : Shared D (Bor T × Unit {0}) Bool) (d : D) (Q Q' : A → T → T → Type 0) (o : Result (Option A) Spent)
      (a b : ValueToken T)
      → ((yes : Bool) (x : T) → FnReturnsAt test f x yes → Rule x × FnReturnsAt inner d x yes)
      → ((r : A) (x y : T) → Q r x y → Q' r x y)
      → WriteIfSection (λ yes x. FnReturnsAt test f x yes) Q o a b
      → WriteIfSection (λ yes x. Rule x × FnReturnsAt inner d x yes) Q' o a b
  writes_ruled_if test f Rule inner d Q Q' o a b tests says s =
      writes_if_so (λ yes x. FnReturnsAt test f x yes) (λ yes x. Rule x × FnReturnsAt inner d x yes) Q Q' tests says
      o a b s
