use Rattle.std.proofs.Common.{◌≡◌, ◌+◌, ◌∷◌, [], ◌++◌, List, Option, Vec, Global, Err, sym, ◌∙◌, ap, subst, arith}
use Rattle.std.proofs.Common.{rules}
use Rattle.std.specs.Prelude.{take}
use Rattle.std.proofs.lemmas.List.{take_all}
use Rattle.std.proofs.lemmas.Bool.{false≢true}
use Rattle.stamp_core.specs.declared.reply.Reply.{Reply}
use Rattle.stamp_explain.specs.Possible.{ArePossible, IsPossible}
use Rattle.stamp_explain.proofs.Lists.{contains_at}
use Rattle.stamp_explain.proofs.Choosing.{AreChosen, chosen, one_chosen, none_more_chosen}
use Rattle.stamp_watch.specs.declared.replies.PossibleError.TheVariants.{Undecided}
use Rattle.stamp_watch.specs.declared.trial.Trial.{Trial}
use Rattle.stamp_watch.specs.inner.Trial.{IsTrialOrNone}
use Rattle.stamp_watch.proofs.Reading.{up_to}
use Rattle.stamp_watch.proofs.AllTried.{none_chosen, none_possible}
use Rattle.stamp_watch.proofs.Trying.{trial_still}
use Rattle.stamp_watch.proofs.replies.possible_among.Goals as goal
use Rattle.stamp_watch.proofs.replies.possible_among.Goals.{then-branch+in_ok-push, else-branch}

pub returns-in_default-clause-possible : goal.returns-in_default-clause-possible
returns-in_default-clause-possible c = subst (ArePossible c.args.observed.now c.args.entry c.args.replies.now)
    (sym c.new-found.ensures.items) (none_possible c.args.observed.now c.args.entry c.args.replies.now
    (subst (λ (o : Option Trial). IsTrialOrNone c.args.observed.now c.args.entry c.args.most
    c.trial_at.new.names o) c.in_default.is
    c.in_ok-trial.ensures.trial))

pub loop-k-init : goal.loop-k-init
loop-k-init c = record {
  trial = subst (λ (o : Option Trial). IsTrialOrNone c.args.observed.now c.args.entry c.args.most
      c.trial_at.new.names o) c.in-Some.is
      c.in_ok-trial.ensures.trial;
  chosen = subst (AreChosen (IsPossible c.args.observed.now c.args.entry) []) (sym c.new-found.ensures.items)
      (none_chosen (IsPossible c.args.observed.now c.args.entry));
}

pub is_possible-requires : goal.is_possible-requires
is_possible-requires c = (c.args.entry, c.args.most, c.loop-k.invariant.trial)

pub loop-k-preserved : goal.loop-k-preserved
loop-k-preserved c =
    let P : Reply → Type 0 = IsPossible c.args.observed.now c.args.entry in
    let reply : Reply = c.tried_at-reply.result in
    let tried : List Reply = take c.loop-k.k c.args.replies.now in
    let found : List Reply = c.loop-k.found.items in
    let so_far = c.loop-k.invariant.chosen in
    let answer = c.in_ok-is_possible.ensures.possible c.args.entry c.args.most c.loop-k.invariant.trial in
    let more : take (c.loop-k.k + 1) c.args.replies.now ≡ tried ++ reply ∷ [] =
    up_to c.args.replies.now c.loop-k.k reply c.tried_at-reply.ensures in
    record {
      trial = trial_still c.in_ok-is_possible.ensures.grows c.args.observed.now c.args.entry c.args.most
          c.in-Some.trial c.in_ok-is_possible.ensures.wide c.loop-k.invariant.trial;
      chosen = subst (λ (rs : List Reply). AreChosen P rs c.if-branch.found.items) (sym more)
          (elim c.if-branch.branch [
            | then-branch+in_ok-push w ↦ subst (AreChosen P (tried ++ reply ∷ []))
                (sym (ap (λ (v : Vec Reply Global). v.items) w.found-is ∙ w.in_ok-push.ensures))
                (one_chosen P tried found reply so_far (answer.0 w.if-branch.true))
            | else-branch w ↦ subst (AreChosen P (tried ++ reply ∷ []))
                (sym (ap (λ (v : Vec Reply Global). v.items) w.found-is))
                (none_more_chosen P tried found reply so_far
                (λ is. false≢true (sym w.if-branch.false ∙ answer.1 is)))
          ]);
    }

pub returns-clause-possible : goal.returns-clause-possible
returns-clause-possible c =
    let P : Reply → Type 0 = IsPossible c.args.observed.now c.args.entry in
    let are : AreChosen P c.args.replies.now c.loop-k.found.items =
    subst (λ (rs : List Reply). AreChosen P rs c.loop-k.found.items)
    (take_all c.loop-k.k c.args.replies.now (omega (arith, c.loop-k-test.false)))
    c.loop-k.invariant.chosen in
    record { each = chosen P c.args.replies.now c.loop-k.found.items are; once = are.once }

pub returns-in_err-is_possible-clause-undecided : goal.returns-in_err-is_possible-clause-undecided
returns-in_err-is_possible-clause-undecided c is_err =
    let same : c.is_possible.result ≡ Err Undecided = search rules in (
      c.tried_at-reply.result,
      (
        contains_at c.args.replies.now c.loop-k.k c.tried_at-reply.result c.tried_at-reply.ensures,
        c.is_possible.ensures.undecided same c.args.entry c.args.most c.loop-k.invariant.trial,
      ),
    )
