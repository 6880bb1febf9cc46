-- The line of what is found of a stream, and what it says.
use Rattle.std.specs.Prelude.{ℕ, List, ◌++◌, codes, decimal}
use Rattle.stamp_cli.specs.declared.line.Verdict.{Verdict}
use Rattle.stamp_cli.specs.declared.line.Verdict.TheVariants.{Accepted, Bad}
use Rattle.stamped_watch.specs.declared.event_bytes.BadEvent.{BadEvent}
use Rattle.stamped_watch.specs.declared.event_bytes.BadEvent.TheVariants.{Kind, Zeros, Number}
use Rattle.stamped_watch.specs.declared.header.BadHeader.{BadHeader}
use Rattle.stamped_watch.specs.declared.header.BadHeader.TheVariants.{Letters, Form, Layout, Limits, Width}
use Rattle.stamped_watch.specs.declared.finding.Finding.{Finding}
use Rattle.stamped_watch.specs.declared.finding.Finding.TheVariants.{Explained, Stuck, StuckWithin, Undecided}
use Rattle.stamped_watch.specs.declared.finding.Finding.TheVariants as found
use Rattle.stamped_watch.specs.declared.misplaced.Misplaced.{Misplaced}
use Rattle.stamped_watch.specs.declared.misplaced.Misplaced.TheVariants.{Lane, Open, Idle}

abbrev pub place_text : Misplaced → List ℕ
place_text Lane = codes "lane"
place_text Open = codes "open"
place_text Idle = codes "idle"

abbrev pub kind_text : BadEvent → List ℕ
kind_text Kind = codes "kind"
kind_text Zeros = codes "zeros"
kind_text Number = codes "number"

abbrev pub header_text : BadHeader → List ℕ
header_text Letters = codes "letters"
header_text Form = codes "form"
header_text Layout = codes "layout"
header_text Limits = codes "limits"
header_text Width = codes "width"

abbrev pub bad_text : ℕ → List ℕ → List ℕ
bad_text k why = codes "bad " ++ decimal k ++ codes " " ++ why

abbrev pub finding_text : Finding → List ℕ
finding_text (Explained calls) = codes "ok " ++ decimal calls
finding_text (Stuck k) = codes "stuck " ++ decimal k
finding_text (StuckWithin k m) = codes "undecided " ++ decimal k
finding_text (Undecided k why) = codes "undecided " ++ decimal k
finding_text (found.Late k) = codes "undecided " ++ decimal k
finding_text (found.Misplaced k why) = bad_text k (place_text why)
finding_text (found.BadEvent k why) = bad_text k (kind_text why)
finding_text (found.Cut k) = bad_text k (codes "cut")
finding_text (found.BadHeader why) = codes "bad header " ++ header_text why
finding_text found.NoHeader = codes "bad header cut"
finding_text found.Full = codes "undecided " ++ decimal 18446744073709551615

abbrev pub finding_verdict : Finding → Verdict
finding_verdict (Explained calls) = Accepted
finding_verdict _ = Bad
