-- A new record: the first pass alone; no history and zeros, or one put and its words.
use Rattle.std.proofs.Common.{◌≡◌, ℕ, ◌+◌, ◌≤◌, List, [], ◌∷◌, replicate, take, get_or}
use Rattle.std.proofs.Common.{false, true≢false, refl, sym, ◌∙◌, arith, length-take-le}
use Rattle.std.proofs.Common.{add-one, length, Some, Bool}
use Rattle.std.proofs.lemmas.List.{get_or-take, get_or-replicate, length-replicate}
use Rattle.atomic_table.specs.Table.{opening}
use Rattle.stamp_core.specs.Limits.{Bounds}
use Rattle.stamp_core.specs.declared.call.Call.TheVariants.{Put}
use Rattle.stamp_core.specs.declared.reply.Reply.TheVariants.{Done}
use Rattle.stamp_threads.specs.declared.record_view.RecordEvent.TheVariants.{Mark}
use Rattle.stamp_threads.specs.declared.record_view.RecordShape.{RecordShape}
use Rattle.stamp_threads.specs.PassName.{HasGivenAll}
use Rattle.stamp_threads.specs.PassView.{entry}
use Rattle.stamp_threads.specs.RecordWord.{word_with}
use Rattle.stamp_threads.specs.RecordLog.{RecordLog, IsLegalLog}
use Rattle.stamp_threads.specs.RecordPass.{RecordPassView, IsConsistentWith, first_pass}
use Rattle.stamp_threads.proofs.RecordLogs.{legal_marked, legal_longer}
use Rattle.stamp_threads.specs.RecordRule.{opening_log, opening_pass}
use Rattle.stamp_threads.specs.inner.RecordRule.{KnowsPart, IsKept}
use Rattle.stamp_threads.proofs.Beginnings.{begins_all}
use Rattle.stamp_threads.proofs.GivenNames.{not_longer}
use Rattle.stamp_threads.proofs.NewComers.{stands_alone}

later : (x : ℕ) (xs : List ℕ) (i : ℕ) → get_or (x ∷ xs) (i + 1) 0 ≡ get_or xs i 0
later x xs i = rw add-one refl

pub first_consistent : (width : ℕ) → IsConsistentWith width first_pass
first_consistent width = record {
  legal = record { calls = tt; legal = λ limits. tt };
  own = refl;
  marks = refl;
  given = tt;
}

pub record_opens : {enterable : Bool} (shape : RecordShape) (first : ℕ) →
    first ≡ word_with shape.limits.layout 0 false → shape.width ≤ 16 → IsKept enterable (λ _. Unit {0}) shape
    (opening (take (shape.width + 1) (first ∷ replicate 16 0)) [] (first_pass ∷ []))
record_opens shape first is narrow =
    let table_words : List ℕ = take (shape.width + 1) (first ∷ replicate 16 0) in
    let fits : KnowsPart (λ _. Unit {0}) shape.width table_words [] first_pass = record {
      part = record { known = begins_all []; own = refl; given = tt };
      marks = refl;
      knows = tt;
    } in
    record {
      log = [];
      roots = 1;
      one_root = λ _. refl;
      legal = (first_consistent shape.width).legal;
      wide = length-take-le (shape.width + 1) (first ∷ replicate 16 0) (omega arith);
      word_is = get_or-take (shape.width + 1) (first ∷ replicate 16 0) 0 0 (omega arith) ∙ is;
      few = omega arith;
      fewer = λ e. absurd (true≢false (sym e));
      rests = λ _ i l.
          get_or-take (shape.width + 1) (first ∷ replicate 16 0) (i + 1) 0 (omega arith) ∙
          (later first (replicate 16 0) i ∙ (get_or-replicate 16 i 0 0 (omega arith) ∙
          sym (get_or-replicate shape.width i 0 0 l)));
      long = length-replicate shape.width 0;
      rule = tt;
      passes = stands_alone (KnowsPart (λ _. Unit {0}) shape.width table_words []) [] first_pass refl refl
          fits tt;
      writer = λ e. absurd (true≢false (sym e));
    }

-- and where the first pass has put these words
module _ (words : List ℕ) where
  abbrev log : RecordLog
  log = opening_log (Some words)

  abbrev holder : RecordPassView
  holder = opening_pass (Some words)

  one_put : (width : ℕ) → IsLegalLog width log
  one_put width = legal_longer width (entry first_pass.name Mark ∷ []) first_pass.name (Put words)
      Done refl refl
      (legal_marked width [] first_pass.name (first_consistent width).legal)

  none_given : HasGivenAll first_pass.name 0 log
  none_given = (not_longer first_pass.name 0, (not_longer first_pass.name 0, tt))

  pub holder_consistent : (width : ℕ) → IsConsistentWith width holder
  holder_consistent width = record {
    legal = one_put width;
    own = refl;
    marks = refl;
    given = none_given;
  }

  pub opens_holding : {enterable : Bool} (P : List ℕ → Type 0) (limits : Bounds) (first : ℕ) →
      first ≡ word_with limits.layout 1 false → 1 ≤ limits.versions → P words →
      IsKept enterable P (record { limits = limits; width = length words })
      (opening (first ∷ words) [] (holder ∷ []))
  opens_holding P limits first is version rule =
      let width : ℕ = length words in
      let fits : KnowsPart P width (first ∷ words) log holder = record {
        part = record { known = begins_all log; own = refl; given = none_given };
        marks = refl;
        knows = tt;
      } in
      record {
        log = log;
        roots = 1;
        one_root = λ _. refl;
        legal = one_put width;
        wide = omega arith;
        word_is = is;
        few = omega arith;
        fewer = λ e. absurd (true≢false (sym e));
        rests = λ _ i l. later first words i;
        long = refl;
        rule = rule;
        passes = stands_alone (KnowsPart P width (first ∷ words) log) log holder refl refl fits
            (omega arith, (omega arith, tt));
        writer = λ e. absurd (true≢false (sym e));
      }
