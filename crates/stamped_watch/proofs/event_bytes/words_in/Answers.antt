use Rattle.std.proofs.Common.{◌≡◌, ◌<◌, ◌+◌, ◌-◌, ◌++◌, ◌∙◌, ℕ, List, ap, arith, length, rules, subst, sym}
use Rattle.std.specs.Prelude.{drop, slice_set, take}
use Rattle.std.specs.Int.{from_le_bytes, w64}
use Rattle.std.proofs.lemmas.List.{length-drop, length-set}
use Rattle.stamped_watch.specs.EventBytes.{words_in}
use Rattle.stamped_watch.proofs.WordsRead.{words_step}
use Rattle.stamped_watch.proofs.event_bytes.words_in.Goals as goal

pub loop-i-preserved : goal.loop-i-preserved
loop-i-preserved c =
    let cases = c.in-Some.ensures.cases in
    let less : c.loop-i.i < c.args.len = search rules in
    let whole = c.loop-i.invariant.2 in
    let room : c.loop-i.i < length c.loop-i.words = let few = c.requires.few in omega (arith, less, whole, few) in
    let is : c.from_le_bytes.result ≡ from_le_bytes w64 (take 8 c.loop-i.rest.now) =
    subst (λ (xs : List ℕ). c.from_le_bytes.result ≡ from_le_bytes w64 xs) cases.0 c.from_le_bytes.ensures in
    let many = c.loop-i.invariant.0 in
    let long = length-drop 8 c.loop-i.rest.now in
    let left : length c.in-Some.behind.now ≡ length (drop 8 c.loop-i.rest.now) = ap length cases.1 in (
      omega (arith, less, many, long, left),
      subst (λ (rest : List ℕ). take (c.loop-i.i + 1) (slice_set c.loop-i.words c.loop-i.i c.from_le_bytes.result) ++
          words_in (c.args.len - (c.loop-i.i + 1)) rest ≡ words_in c.args.len c.args.bytes.now) (sym cases.1)
          (words_step c.loop-i.i c.args.len c.from_le_bytes.result c.loop-i.words c.loop-i.rest.now
          (words_in c.args.len c.args.bytes.now) less room c.loop-i.invariant.1 is),
      length-set c.loop-i.words c.loop-i.i c.from_le_bytes.result ∙ whole,
    )
