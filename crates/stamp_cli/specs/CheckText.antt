-- The line of a judgement of a history, and its verdict.
use Rattle.std.specs.Prelude.{ℕ, List, ◌++◌, codes, decimal, Result, Ok, Err}
use Rattle.stamp_check.specs.declared.checking.Bad.{Bad}
use Rattle.stamp_check.specs.declared.checking.Why.{Why}
use Rattle.stamp_check.specs.declared.checking.Why.TheVariants.{Interval, Order, Overlap, Reply}
use Rattle.stamp_cli.specs.declared.line.Verdict.{Verdict}
use Rattle.stamp_cli.specs.declared.line.Verdict.TheVariants as verdict

abbrev pub why_text : Why → List ℕ
why_text Interval = codes "interval"
why_text Order = codes "order"
why_text Overlap = codes "overlap"
why_text Reply = codes "reply"

abbrev pub ok_text : ℕ → List ℕ
ok_text n = codes "ok " ++ decimal n

abbrev pub bad_text : Bad → List ℕ
bad_text bad = codes "bad " ++ decimal bad.entry ++ codes " " ++ why_text bad.why

abbrev pub judgement_text : Result ℕ Bad → List ℕ
judgement_text (Ok n) = ok_text n
judgement_text (Err bad) = bad_text bad

abbrev pub verdict_of : Result ℕ Bad → Verdict
verdict_of (Ok n) = verdict.Accepted
verdict_of (Err bad) = verdict.Bad
