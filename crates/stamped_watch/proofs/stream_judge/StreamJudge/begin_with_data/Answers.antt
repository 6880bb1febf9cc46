use Rattle.std.proofs.Common.{inl, inr, refl, rules, sym}
use Rattle.std.proofs.lemmas.List.{take-append-drop}
use Rattle.stamped_watch.proofs.stream_judge.StreamJudge.begin_with_data.Goals as goal

pub returns-in_default-width_in : goal.returns-in_default-width_in
returns-in_default-width_in c =
    let cases = c.in-Some.ensures.cases in record {
      unit = c.in-Some.words.now;
      many = search rules;
      parts = rw (cases.0, cases.1) (sym (take-append-drop 8 c.args.bytes.now));
      then_is = inr (c.in_default-width_in.ensures, refl);
    }

pub returns : goal.returns
returns c =
    let cases = c.in-Some.ensures.cases in record {
      unit = c.in-Some.words.now;
      many = search rules;
      parts = rw (cases.0, cases.1) (sym (take-append-drop 8 c.args.bytes.now));
      then_is = inl (c.in-Some-width_in.width, c.in-Some-width_in.ensures, c.in_ok-open.ensures.opened);
    }
