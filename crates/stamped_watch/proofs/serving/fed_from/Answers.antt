use Rattle.std.proofs.Common.{ℕ, ◌≡◌, ◌++◌, [], Ok, false, List, Option}
use Rattle.std.specs.Prelude.{⊤, MatchOption}
use Rattle.std.proofs.Common.{append-nil, arith, refl, rules, subst, sym, ◌∙◌, ap, take}
use Rattle.std.specs.declared.io.Error.{Error}
use Rattle.std.proofs.KnownBytes.{Consumes-kept, Consumes-nil, Consumes-trans}
use Rattle.std.proofs.lemmas.Bool.Decides.{nat_tests}
use Rattle.std.proofs.lemmas.Grind.{common_steps}
use Rattle.std.proofs.lemmas.List.{length-append}
use Rattle.stamp_cli.specs.TakesNone.{takes_none}
use Rattle.stamp_cli.proofs.MadeSoFar as so_far
use Rattle.stamped_watch.specs.declared.finding.Finding.{Finding}
use Rattle.stamped_watch.specs.Finding.{IsFindingOf, IsSoFar}
use Rattle.stamped_watch.specs.StreamJudge.{EndsInStream, KeepsCall, KeepsFed}
use Rattle.stamped_watch.proofs.ReadingOn.{all_counted, all_took, found_at_end, found_of_all, has_read_on, makes_none}
use Rattle.stamped_watch.proofs.ReadingOn.{not_of_reading, reads_once}
use Rattle.stamped_watch.proofs.Ending.{in_form}
use Rattle.stamped_watch.proofs.Streaming.{fed_short}
use Rattle.stamped_watch.proofs.Taking.{keeps_fed, there_fed}
use Rattle.stamped_watch.proofs.LinesTold.{all_of_err, has_told, tells_more, told_at_first, told_to_end}
use Rattle.stamped_watch.proofs.serving.fed_from.Goals as goal

pub source-init : goal.source-init
source-init g c = record {
  fed_so = record {
    bytes = [];
    took = Consumes-nil (g.S.Source.left c.args.source.now);
    reads = makes_none (g.S.Source.reads c.args.source.now);
    fed = c.requires.new;
    none = c.requires.none;
    room = c.requires.room;
  };
  few = c.requires.few;
  told = told_at_first c.args.asked c.args.telling.now (g.T.Sink.sent c.args.told.now)
      (g.T.Sink.writes c.args.told.now) c.requires.telling;
}

pub returns-in_default-clause-told : goal.returns-in_default-clause-told
returns-in_default-clause-told g c =
    let inv = c.source.invariant.fed_so in
    let once = reads_once inv c.in_default.ensures.kept (Consumes-kept _ _ _ []
    (Consumes-nil (g.S.Source.left c.source.source)) c.in_default.ensures.bytes) refl in
    has_told c.args.asked _ _ _ _ (g.T.Sink.sent c.args.told.now) (g.T.Sink.sent c.source.told) _ _
    (inv.bytes ++ []) _ (all_took once) (all_counted once)
    (tells_more c.args.asked inv.bytes [] _ _ _ _ c.source.invariant.told.tells) tt

pub returns-in_default-clause-reads : goal.returns-in_default-clause-reads
returns-in_default-clause-reads g c =
    let inv = c.source.invariant.fed_so in
    let once = reads_once inv c.in_default.ensures.kept (Consumes-kept _ _ _ []
    (Consumes-nil (g.S.Source.left c.source.source)) c.in_default.ensures.bytes) refl in
    has_read_on once _ _ ((λ same. refl), (λ same. refl))

pub end-requires : goal.end-requires
end-requires g c = let inv = c.source.invariant.fed_so in
    record { most = c.args.asked.most; ahead = c.args.asked.ahead; fed = inv.bytes; is = inv.fed }

pub returns-in_err-end-clause-reads : goal.returns-in_err-end-clause-reads
returns-in_err-end-clause-reads g c =
    let inv = c.source.invariant.fed_so in
    let once = reads_once inv c.in-Ok.ensures.kept c.in-Ok.ensures.bytes.0 (sym c.in-Ok.ensures.bound.1) in
    has_read_on once _ _ (not_of_reading c.from_residual.result c.from_residual.ensures.1)

pub returns-then-taken-eq0-clause-reads : goal.returns-then-taken-eq0-clause-reads
returns-then-taken-eq0-clause-reads g c =
    let inv = c.source.invariant.fed_so in
    let once = reads_once inv c.in-Ok.ensures.kept c.in-Ok.ensures.bytes.0 (sym c.in-Ok.ensures.bound.1) in
    has_read_on once _ _ ((λ same. absurd (cc)), (λ same. absurd (cc)))

pub returns-then-taken-eq0-clause-found : goal.returns-then-taken-eq0-clause-found
returns-then-taken-eq0-clause-found g c =
    let inv = c.source.invariant.fed_so in
    let once = reads_once inv c.in-Ok.ensures.kept c.in-Ok.ensures.bytes.0 (sym c.in-Ok.ensures.bound.1) in
    let none : take c.in-Ok.taken c.read.new.buffer ≡ [] = rw c.if-taken-eq0.true refl in
    found_at_end once c.args.asked c.in_ok-end.field-0
    (in_form c.args.asked.most c.args.asked.ahead inv.bytes c.source.judge inv.fed inv.none)
    (ap Ok c.if-taken-eq0.true) (c.in-Ok.ensures.bytes.1 c.if-taken-eq0.true (grind (arith, common_steps)))
    (subst (λ (xs : List ℕ). IsFindingOf c.args.asked.most c.args.asked.ahead xs c.in_ok-end.field-0)
    (sym (append-nil inv.bytes) ∙ ap (λ (xs : List ℕ). inv.bytes ++ xs) (sym none))
    (c.in_ok-end.ensures.found c.args.asked.most c.args.asked.ahead inv.bytes inv.fed))

pub feed-requires-clause-before : goal.feed-requires-clause-before
feed-requires-clause-before g c =
    let inv = c.source.invariant.fed_so in
    let told = c.source.invariant.told in record {
      most = c.args.asked.most;
      ahead = c.args.asked.ahead;
      fed = inv.bytes;
      is = inv.fed;
      none = inv.none;
      marks = told.tells.marks;
      place = λ on. told.place (sym told.asked_is ∙ on);
      missing = told.missing;
    }

pub returns-in_err-finding-clause-reads : goal.returns-in_err-finding-clause-reads
returns-in_err-finding-clause-reads g c =
    let inv = c.source.invariant.fed_so in
    let once = reads_once inv c.in-Ok.ensures.kept c.in-Ok.ensures.bytes.0 (sym c.in-Ok.ensures.bound.1) in
    has_read_on once _ _
    (not_of_reading c.from_residual-in_err-finding.result c.from_residual-in_err-finding.ensures.1)

pub returns-in-Some-clause-reads : goal.returns-in-Some-clause-reads
returns-in-Some-clause-reads g c =
    let inv = c.source.invariant.fed_so in
    let once = reads_once inv c.in-Ok.ensures.kept c.in-Ok.ensures.bytes.0 (sym c.in-Ok.ensures.bound.1) in
    has_read_on once _ _ ((λ same. absurd (cc)), (λ same. absurd (cc)))

pub returns-in-Some-clause-found : goal.returns-in-Some-clause-found
returns-in-Some-clause-found g c =
    let inv = c.source.invariant.fed_so in
    let once = reads_once inv c.in-Ok.ensures.kept c.in-Ok.ensures.bytes.0 (sym c.in-Ok.ensures.bound.1) in
    found_of_all once c.args.asked c.in-Some.finding
    (in_form c.args.asked.most c.args.asked.ahead inv.bytes c.source.judge inv.fed inv.none)
    (subst (λ (o : Option Finding). IsSoFar c.args.asked.most c.args.asked.ahead
    (inv.bytes ++ take c.in-Ok.taken c.read.new.buffer) o) c.in-Some.is
    (c.in_ok-finding.ensures.found c.args.asked.most c.args.asked.ahead inv.bytes inv.fed))

pub source-smaller : goal.source-smaller
source-smaller g c =
    let inv = c.source.invariant.fed_so in
    let before = so_far.all_taken _ _ _ inv.reads in
    let after = so_far.taken_with_last _ _ _ _ _ inv.reads c.in-Ok.ensures.kept in
    let short = fed_short c.args.asked.most c.args.asked.ahead inv.bytes c.source.judge inv.none inv.fed in
    omega (arith, before, after, short, c.if-taken-eq0.false)

pub source-preserved : goal.source-preserved
source-preserved g c =
    let inv = c.source.invariant.fed_so in
    let many = sym c.in-Ok.ensures.bound.1 in
    let long = length-append inv.bytes (take c.in-Ok.taken c.read.new.buffer) in
    let takes : takes_none {E = Error} (Ok c.in-Ok.taken) ≡ false = grind (arith, nat_tests) in record {
      fed_so = record {
        bytes = inv.bytes ++ take c.in-Ok.taken c.read.new.buffer;
        took = Consumes-trans _ (g.S.Source.left c.source.source) _ inv.bytes _ inv.took c.in-Ok.ensures.bytes.0;
        reads = so_far.more _ _ _ _ _ _ inv.reads c.in-Ok.ensures.kept takes (omega (arith, long, many));
        fed = c.in_ok-finding.ensures.fed c.args.asked.most c.args.asked.ahead inv.bytes inv.fed;
        none = c.in_ok-finding.ensures.state ∙ c.in_default-2.is;
        room = grind (arith, common_steps);
      };
      few = grind (arith, common_steps);
      told = (c.feed.ensures.told c.args.asked inv.bytes (g.T.Sink.sent c.args.told.now)
          (g.T.Sink.writes c.args.told.now)
          inv.fed c.source.invariant.told).going (cc);
    }

pub returns-in_err-end-clause-told : goal.returns-in_err-end-clause-told
returns-in_err-end-clause-told g c =
    let inv = c.source.invariant.fed_so in
    let once = reads_once inv c.in-Ok.ensures.kept c.in-Ok.ensures.bytes.0 (sym c.in-Ok.ensures.bound.1) in
    has_told c.args.asked _ _ _ _ (g.T.Sink.sent c.args.told.now) _ _ _
    (inv.bytes ++ take c.in-Ok.taken c.read.new.buffer) _ (all_took once) (all_counted once)
    (tells_more c.args.asked inv.bytes (take c.in-Ok.taken c.read.new.buffer) _ _ _ _ c.source.invariant.told.tells)
    (all_of_err _ _ c.from_residual.result c.from_residual.ensures.1)

pub returns-then-taken-eq0-clause-told : goal.returns-then-taken-eq0-clause-told
returns-then-taken-eq0-clause-told g c =
    let inv = c.source.invariant.fed_so in
    let once = reads_once inv c.in-Ok.ensures.kept c.in-Ok.ensures.bytes.0 (sym c.in-Ok.ensures.bound.1) in
    has_told c.args.asked _ _ _ _ (g.T.Sink.sent c.args.told.now) _ _ _
    (inv.bytes ++ take c.in-Ok.taken c.read.new.buffer) _ (all_took once) (all_counted once)
    (tells_more c.args.asked inv.bytes (take c.in-Ok.taken c.read.new.buffer) _ _ _ _ c.source.invariant.told.tells)
    (told_to_end c.args.asked inv.bytes (take c.in-Ok.taken c.read.new.buffer) c.source.telling _ _ _ _
    c.source.invariant.told (rw c.if-taken-eq0.true refl))

pub returns-in_err-finding-clause-told : goal.returns-in_err-finding-clause-told
returns-in_err-finding-clause-told g c =
    let inv = c.source.invariant.fed_so in
    let once = reads_once inv c.in-Ok.ensures.kept c.in-Ok.ensures.bytes.0 (sym c.in-Ok.ensures.bound.1) in
    has_told c.args.asked _ _ _ _ (g.T.Sink.sent c.args.told.now) _ _ _
    (inv.bytes ++ take c.in-Ok.taken c.read.new.buffer) _ (all_took once) (all_counted once)
    (c.feed.ensures.told c.args.asked inv.bytes (g.T.Sink.sent c.args.told.now) (g.T.Sink.writes c.args.told.now)
    inv.fed c.source.invariant.told).tells
    (all_of_err _ _ c.from_residual-in_err-finding.result c.from_residual-in_err-finding.ensures.1)

pub returns-in-Some-clause-told : goal.returns-in-Some-clause-told
returns-in-Some-clause-told g c =
    let inv = c.source.invariant.fed_so in
    let once = reads_once inv c.in-Ok.ensures.kept c.in-Ok.ensures.bytes.0 (sym c.in-Ok.ensures.bound.1) in
    has_told c.args.asked _ _ _ _ (g.T.Sink.sent c.args.told.now) _ _ _
    (inv.bytes ++ take c.in-Ok.taken c.read.new.buffer) _ (all_took once) (all_counted once)
    (c.feed.ensures.told c.args.asked inv.bytes (g.T.Sink.sent c.args.told.now) (g.T.Sink.writes c.args.told.now)
    inv.fed c.source.invariant.told).tells
    ((c.feed.ensures.told c.args.asked inv.bytes (g.T.Sink.sent c.args.told.now) (g.T.Sink.writes c.args.told.now)
    inv.fed c.source.invariant.told).found c.in-Some.finding (search rules))

pub returns-then-taken-eq0-clause-keeps : goal.returns-then-taken-eq0-clause-keeps
returns-then-taken-eq0-clause-keeps g c =
    let inv = c.source.invariant.fed_so in
    let once = reads_once inv c.in-Ok.ensures.kept c.in-Ok.ensures.bytes.0 (sym c.in-Ok.ensures.bound.1) in
    record {
      bytes = inv.bytes ++ take c.in-Ok.taken c.read.new.buffer;
      took = all_took once;
      count = all_counted once;
      keeps = let none : take c.in-Ok.taken c.read.new.buffer ≡ [] = rw c.if-taken-eq0.true refl in
          subst (λ (xs : List ℕ). KeepsFed c.args.asked.most c.args.asked.ahead xs c.end.new.self)
          (sym (append-nil inv.bytes) ∙ ap (λ (xs : List ℕ). inv.bytes ++ xs) (sym none))
          (c.in_ok-end.ensures.kept c.args.asked.most c.args.asked.ahead inv.bytes inv.fed);
      there = let none : take c.in-Ok.taken c.read.new.buffer ≡ [] = rw c.if-taken-eq0.true refl in
          subst (λ (xs : List ℕ). EndsInStream xs c.end.new.self.judge c.in_ok-end.field-0)
          (sym (append-nil inv.bytes) ∙ ap (λ (xs : List ℕ). inv.bytes ++ xs) (sym none))
          (c.in_ok-end.ensures.there c.args.asked.most c.args.asked.ahead inv.bytes inv.fed);
    }

pub returns-in-Some-clause-keeps : goal.returns-in-Some-clause-keeps
returns-in-Some-clause-keeps g c =
    let inv = c.source.invariant.fed_so in
    let once = reads_once inv c.in-Ok.ensures.kept c.in-Ok.ensures.bytes.0 (sym c.in-Ok.ensures.bound.1) in
    record {
      bytes = inv.bytes ++ take c.in-Ok.taken c.read.new.buffer;
      took = all_took once;
      count = all_counted once;
      keeps = keeps_fed c.args.asked.most c.args.asked.ahead _ c.feed.new.judge
          (c.in_ok-finding.ensures.fed c.args.asked.most c.args.asked.ahead inv.bytes inv.fed);
      there = there_fed c.args.asked.most c.args.asked.ahead _ c.feed.new.judge
          (c.in_ok-finding.ensures.fed c.args.asked.most c.args.asked.ahead inv.bytes inv.fed) c.in-Some.finding
          (c.in_ok-finding.ensures.state ∙ c.in-Some.is);
    }

pub returns-in-Some-clause-tells : goal.returns-in-Some-clause-tells
returns-in-Some-clause-tells g c =
    subst (λ (o : Option Finding). MatchOption o ⊤ (KeepsCall c.feed.new.judge.judge))
    (c.in_ok-finding.ensures.state ∙ c.in-Some.is) c.in_ok-finding.ensures.known.is.has_taken.tells
