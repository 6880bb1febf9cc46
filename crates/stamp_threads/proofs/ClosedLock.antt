-- The last state of a lock's table.
use Rattle.std.proofs.Common.{◌≡◌, ℕ, List, [], ◌∷◌, get_or, refl, ap, sym, ◌∙◌, subst}
use mathlib.Core.Option.{some, some-injective, some-ne-none}
use lib.ListN.{get_elem?}
use Rattle.atomic_table.specs.Table.{Final, Seen}
use Rattle.stamp_machines.specs.LockNumber.{RepresentsAt}
use Rattle.stamp_threads.specs.Seats.{alone}
use Rattle.stamp_threads.specs.LockLog.{events_after}
use Rattle.stamp_threads.specs.LockPass.{LockPassView, LockView}
use Rattle.stamp_threads.specs.inner.LockPass.{Seated}
use Rattle.stamp_threads.specs.inner.LockRule.{IsKept}
use Rattle.stamp_threads.specs.Closes.{Closes}

word_there : (words : List ℕ) (n : ℕ) → get_elem? words 0 ≡ some n → get_or words 0 0 ≡ n
word_there [] n e = absurd (some-ne-none n (sym e))
word_there (x ∷ words) n e = some-injective x n e

pub closes : (lock : LockView) (id : ℕ) (v : LockPassView) (me : Seated)
    (words : List ℕ) (slots : List (Unit {0})) (word : ℕ) → me ≡ alone v →
    Final (Seen (IsKept lock.enterable lock.limits) id me.0) words slots → get_elem? words 0 ≡ some word →
    Closes lock v word
closes lock id v me words slots word is end at =
    let s = end.0 in
    let r = end.1.0 in
    let here : get_elem? s.views id ≡ some (v ∷ []) =
    end.1.1 ∙ ap (λ (m : Seated). some m.0) is in
    let part = r.passes.fits id 0 v (v ∷ [], here, refl) in
    let last : get_or s.words 0 0 ≡ word =
    word_there s.words word (ap (λ (l : List ℕ). get_elem? l 0) end.2 ∙ at) in
    record {
      log = r.log;
      left = record {
        begins = part.known;
        legal = r.legal;
        represents =
            subst (λ (n : ℕ). RepresentsAt lock.limits n (events_after lock.limits r.log)) last r.represents;
      };
      own = part.own;
      given = part.given;
      roots = r.roots;
      rooted = r.passes.entries;
      one_root = r.one_root;
    }
