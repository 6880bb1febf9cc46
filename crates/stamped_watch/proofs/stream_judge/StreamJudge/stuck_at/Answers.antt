use Rattle.std.proofs.Common.{◌≡◌, Option, Some, refl, subst, sym}
use Rattle.std.specs.Prelude.{MatchOption, ⊤}
use Rattle.stamp_watch.specs.declared.ended_call.EndedCall.{EndedCall}
use Rattle.stamped_watch.specs.declared.finding.Finding.TheVariants.{Stuck}
use Rattle.stamped_watch.specs.declared.run_judge.RunJudge.{RunJudge}
use Rattle.stamped_watch.specs.Note.{EndsThere}
use Rattle.stamped_watch.specs.Possible.{AreToldOf, KeepsOf, items_in}
use Rattle.stamped_watch.specs.StreamJudge.{EndsInStream, KeepsEndAt, ended_of}
use Rattle.stamped_watch.specs.inner.StreamJudge.{ended_in}
use Rattle.stamped_watch.proofs.InWords.{ended_in_words}
use Rattle.stamped_watch.proofs.Replying.{possible_told, told_in_words}
use Rattle.stamped_watch.proofs.stream_judge.StreamJudge.stuck_at.Goals as goal

pub possible_at-requires : goal.possible_at-requires
possible_at-requires c =
    let keeps = subst (λ (o : Option RunJudge). MatchOption o ⊤
    (λ i. KeepsOf c.requires.keeps.most c.requires.keeps.ahead c.requires.keeps.fed i)) c.in-Some.is
    c.requires.keeps.keeps in
    record { limits = keeps.header.limits; run = keeps.run; keeps = keeps.keeps }

pub returns : goal.returns
returns c most ahead fed keeps ends =
    let inner = c.in-Some.inner in
    let small = c.ended_by_numbers-ended.result in
    let kept = subst (λ (o : Option RunJudge). MatchOption o ⊤ (λ i. KeepsOf most ahead fed i)) c.in-Some.is keeps in
    let of : ended_of inner.judge c.args.number ≡ Some small =
    subst (λ (o : Option RunJudge). ended_in o c.args.number ≡ Some small) c.in-Some.is
    c.ended_by_numbers-ended.ensures in
    let end = subst (λ (o : Option RunJudge). KeepsEndAt o c.args.number) c.in-Some.is c.requires.end in
    let there = (subst (λ (o : Option RunJudge). EndsInStream fed o (Stuck c.args.number)) c.in-Some.is ends)
    c.args.number refl small of in
    let words = ended_in_words inner.names there.stream.events there.run there.stream.named there.stream.run_is
    c.args.number small there.ends in
    let same : c.in_words.result ≡ words.told = c.in_words.ensures words.told words.by in record {
      there = subst (EndsThere fed c.args.number) (sym same) (record {
        header = there.header;
        events = there.stream.events;
        rest = there.rest;
        stream = there.stream.stream;
        ends = words.ends;
      });
      told = subst (λ (x : EndedCall). AreToldOf most ahead fed c.args.number x (items_in c.in_ok-replies.replies))
          (sym same) (told_in_words most ahead fed c.args.number inner.names words.told small words.by
          (items_in c.in_ok-replies.replies)
          (possible_told most ahead fed inner kept c.args.number small end of c.in_ok-replies.replies
          c.in_ok-replies.ensures));
    }
