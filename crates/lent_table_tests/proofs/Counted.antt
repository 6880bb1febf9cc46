-- Each step keeps the word a count of who has the value.
use Rattle.std.proofs.Common.{◌≡◌, ℕ, suc, ◌+◌, ◌-◌, ◌%◌, ◌^◌, ◌<◌, ◌≤◌, zero, ◌==◌, Bool, true, false}
use Rattle.std.proofs.Common.{refl, sym, subst, arith, eqb-true, eq-eqb, true≢false, ◌∙◌}
use prog.Atomic.{either}
use Rattle.lent_table.specs.Table.{Home, away, lent, Hold, none, reads, Act, stays, comes, goes, takes, gives}
use Rattle.lent_table.specs.Table.{home_after, hold_after, Valid, Fits, State, Me, Finds, Allows, Learns, Enters}
use Rattle.lent_table.specs.Table.{step, stepped, LearnsBeside}
use Rattle.lent_table_tests.specs.Count.{Counts, Idles, Reads, Writes, Looked, Brings, Frees}

unequal : (n k : ℕ) → (n == k) ≡ false → n ≡ k → ⊥
unequal n k other same = true≢false (sym (eq-eqb n k same) ∙ other)

not_read : {T : Type 0} (x : T) → none ≡ reads x → ⊥
not_read x e = cc

module _ {T : Type 0} (id : ℕ) (me : Me T (Unit {0})) where
  abbrev rule : State T (Unit {0}) → Type 0
  rule s = Counts s.home s.word

  -- an act that keeps the rule where the old word becomes the new one
  abbrev Made : ℕ → (Hold T → Type 0) → Home T → Type 0
  Made new this h = (a : Act T) × Valid h me.1 a × Counts (home_after h a) new × this (hold_after me.1 a)

  come : Idles me.1 → (n : ℕ) → 0 < n → n ≤ 100 → (h : Home T) → Counts h n → Fits h me.1 → Made (n + 1) Reads h
  come idle n some few away c fit = absurd (omega arith)
  come idle n some few (lent m x) c fit = (comes m x, (refl, idle, omega arith), (omega arith, omega arith), (x, refl))

  leave : Reads me.1 → (n : ℕ) → (h : Home T) → Counts h n → Fits h me.1 → Made (n - 1) Idles h
  leave has n h c fit =
      let k = subst (Fits h) has.1 fit in let d = subst (λ (i : Home T). Counts i n) k.1.1 c in
      (goes k.0 k.1.0, (k.1.1, omega arith, has), (omega arith, omega arith), refl)

  take : Idles me.1 → (h : Home T) → Counts h 1 → Fits h me.1 → Made 0 Writes h
  take idle away c fit = absurd (omega arith)
  take idle (lent zero x) c fit = (takes x, (refl, idle), refl, (x, refl))
  take idle (lent (suc m) x) c fit = absurd (omega arith)

  at_word : (old new : ℕ) (this : Hold T → Type 0) → ((h : Home T) → Counts h old → Fits h me.1 → Made new this h)
      → (s : State T (Unit {0})) → Finds rule id me s → (b : Bool) → (s.word == old) ≡ b
      → (w : Unit {0}) × (a : Act T) × Valid s.home me.1 a × rule (stepped s (either b new s.word) id w a)
      × Brings this (step old new) me s.word (w, hold_after me.1 a)
  at_word old new this made s f true is =
      let same = eqb-true s.word old is in
      let r = made s.home (subst (Counts s.home) same f.rule) f.hold in
      (tt, r.0, r.1, r.2, (λ _. r.3, λ other. absurd (other same)))
  at_word old new this made s f false is =
      (tt, stays, tt, f.rule, (λ same. absurd (unequal s.word old is same), λ _. refl))

  exchanges : (old new : ℕ) (this : Hold T → Type 0) → ((h : Home T) → Counts h old → Fits h me.1 → Made new this h)
      → Allows rule id me (λ n. either (n == old) new n) (Brings this (step old new) me)
  exchanges old new this made s f = at_word old new this made s f (s.word == old) refl

  pub comes_in : Idles me.1 → (n : ℕ) → 0 < n → n ≤ 100
      → Allows rule id me (λ k. either (k == n) (n + 1) k) (Brings Reads (step n (n + 1)) me)
  comes_in idle n some few = exchanges n (n + 1) Reads (come idle n some few)

  pub goes_out : Reads me.1 → (n : ℕ)
      → Allows rule id me (λ k. either (k == n) (n - 1) k) (Brings Idles (step n (n - 1)) me)
  goes_out has n = exchanges n (n - 1) Idles (leave has n)

  pub leaves_now : Reads me.1 → Allows rule id me (λ n. (n + (2 ^ 64 - 1)) % 2 ^ 64) (Frees (step 0 1) me)
  leaves_now has s f =
      let k = subst (Fits s.home) has.1 f.hold in let d = subst (λ (i : Home T). Counts i s.word) k.1.1 f.rule in
      let less : (s.word + (2 ^ 64 - 1)) % 2 ^ 64 ≡ s.word - 1 = omega (arith, d.0, d.1) in
      let r = leave has s.word s.home f.rule f.hold in
      (tt, r.0, r.1, subst (Counts (home_after s.home r.0)) (sym less) r.2, r.3)

  pub takes_all : Idles me.1 → Allows rule id me (λ k. either (k == 1) 0 k) (Brings Writes (step 1 0) me)
  takes_all idle = exchanges 1 0 Writes (take idle)

  pub gives_all : Writes me.1 → Allows rule id me (λ k. either (k == 0) 1 k) (Frees (step 0 1) me)
  gives_all has s f =
      let gone = subst (Fits s.home) has.1 f.hold in
      let at = subst (λ (h : Home T). Counts h s.word) gone f.rule in
      (tt, gives has.0, (gone, has.1), (subst (λ (k : ℕ). either (k == 0) 1 k ≡ 1) (sym at) refl, omega arith), refl)

  pub looks : Learns rule id me (Looked (step 0 0) me)
  looks s f = (
    tt,
    f.rule,
    (
      refl,
      λ has. let k = subst (Fits s.home) has.1 f.hold in
          let at = subst (λ (h : Home T). Counts h s.word) k.1.1 f.rule in omega arith,
    ),
  )

  pub looks_beside : (other : ℕ) → LearnsBeside rule id me other tt (Looked (step 0 0) me)
  looks_beside other s f _ = looks s f

pub enters : {T : Type 0} (v : Unit {0})
    → Enters (λ (s : State T (Unit {0})). Counts s.home s.word) (Looked (step 0 0) (v, none))
enters v s r small = (tt, r, (refl, λ has. absurd (not_read has.0 has.1)))
