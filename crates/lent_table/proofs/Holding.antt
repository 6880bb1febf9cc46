-- A function is proved by a walk that holds its thread's token, and gives it back. Assumes `Logic`.
use Rattle.std.proofs.Common.{ℕ, List, subst}
use seplogic.Ra.Ura.{Ura}
use mir.Syntax.{Fn, Callee}
use base.Logic.{ent, sep}
use base.Mask.{every}
use prog.Model.{Model}
use prog.Routine.{over, ◌≼⁺◌}
use prog.Wp.{Calls, Loops, Tables, WpFn}
use types.Logic.{Logic}
use contract.Beside.{Carries}
use contract.Lifetimes.{Lfts, Shares, AllOutlive}
use contract.Named.{bare_unfolds}
use contract.Running.{Running, tables_of, bare_tables}
use sound.WpLaws.{WpFn-mono}
use denote.RattleType.{RattleType, flat}
use denote.Laws.{Are, Ises, Spells, Tellss, valss}
use denote.Signature.{types_at}
use denote.Triple.Clauses.{Clauses, Ended, closing}
use denote.Triple.Entry.{Args, on_entry}
use denote.Triple.Handed.{holding, hands}
use denote.Triple.Spec.{Meets, triple_of}
use denote.Triple.Table.{entered}
use denote.Triple.Walked.{AllGo, Stays, walk_Meets, walk_of, walked}

module _ {M : Type 1} {𝓤 : Ura M} (𝓛 : Logic 𝓤) (T : Ended) (hs : Stays T.signature.params T.kept)
    (c : Clauses 𝓤 T) where
  open 𝓛 use {H, A}

  abbrev Ls : ℕ
  Ls = T.signature.lifetimes

  abbrev Ts : Lfts Ls → List RattleType
  Ts κs = types_at T.signature.params κs

  -- the contract, with the token in both of its clauses
  abbrev pub with_token : Clauses 𝓤 T
  with_token = holding 𝓤 T (A.tok every) c

  module _ (sp : (κs : Lfts Ls) → Spells (Ts κs)) where
    -- what a walk begins with, and is to be, at what is bound outside
    abbrev pub Walk : (C : Calls 𝓤 H) (Λ : Loops 𝓤 H) → Fn → Type 1
    Walk C Λ e = (κs : Lfts Ls) (qs : Shares Ls) (bounds : AllOutlive Ls T.signature.outlives κs)
        (a : Args T.signature κs) (g : (with_token κs a).ghost) → let vss = valss (Ts κs) (sp κs) a in
        Are (Ts κs) (Ises (Ts κs)) a vss
        → ent 𝓤 (sep 𝓤 (on_entry 𝓛 T.signature κs qs a vss) ((with_token κs a).requires g))
        (WpFn 𝓤 H C Λ e (flat (Ts κs) vss) ((walk_of 𝓛 T hs with_token).post ((κs, qs, bounds, a, vss), g)))

    pub proved_holding : (𝓜 : Model 𝓤 H) (𝓡 : Running 𝓤 H 𝓜) → AllGo 𝓛 Ls T.signature.params T.kept hs
        → (k : Callee) (e : Fn) → over 𝓡.env e ≼⁺ 𝓡.env k → ((κs : Lfts Ls) → Tellss (Ts κs) (Ises (Ts κs)) (sp κs))
        → ((C : Calls 𝓤 H) (Λ : Loops 𝓤 H) → Walk C Λ e) → Meets 𝓛 T.signature (𝓡.run (𝓡.env k)) (closing 𝓛 T c)
    unfolding tables_of
    proved_holding 𝓜 𝓡 go k e is tells walk =
        let 𝓒 : Carries 𝓤 H 𝓜 (A.tok every) = subst (Carries 𝓤 H 𝓜) 𝓛.turn_is 𝓡.carries in
        let 𝓣 : Tables 𝓤 H = tables_of 𝓤 H 𝓒.inner (bare_tables 𝓤 H 𝓒.inner 𝓡.allowed 𝓡.how 𝓡.env) in
        let run = WpFn 𝓤 H 𝓣.C 𝓣.Λ e in
        let met = walk_Meets 𝓛 T hs go with_token run (WpFn-mono 𝓤 H 𝓛.laws 𝓣 e)
        (walked 𝓛 T hs with_token run sp tells (walk 𝓣.C 𝓣.Λ)) in
        hands 𝓛 T (A.tok every) c 𝓜 𝓒 𝓡 (𝓡.env k) (entered 𝓤 H (triple_of 𝓛 T.signature (closing 𝓛 T with_token))
        𝓣.C 𝓣.Λ k e (bare_unfolds 𝓤 H 𝓒.inner 𝓡.allowed 𝓡.how 𝓡.env k e is) met)
