use Rattle.std.proofs.Common.{ℕ, ◌≡◌, ◌+◌, ◌-◌, ◌<◌, ◌≤◌, ◌++◌, ◌∙◌, List, true, length, arith}
use Rattle.std.proofs.Common.{refl, rules, subst, sym}
use Rattle.std.specs.Prelude.{take}
use Rattle.std.proofs.lemmas.List.{length-append, take-append-drop}
use Rattle.std.proofs.lemmas.Result.{IfOk-weaker, on_ok_weaker}
use Rattle.stamped_watch.specs.Finding.{IsSoFar}
use Rattle.stamped_watch.specs.Progress.{mark}
use Rattle.stamped_watch.specs.StreamJudge.{IsFed}
use Rattle.stamped_watch.proofs.LinesTold.{fed_both, fed_longer, found_both, found_longer, no_finding}
use Rattle.stamped_watch.proofs.LinesTold.{told_at_mark, told_before_mark, told_of_err, told_of_none, told_until}
use Rattle.stamped_watch.proofs.telling.Telling.feed.Goals as goal

pub returns-then-not-self-clause-told : goal.returns-then-not-self-clause-told
returns-then-not-self-clause-told g c asked fed sent writes is so_far =
    told_of_none asked fed c.args.bytes.now c.args.self.now sent _ writes _ so_far (search rules) c.feed.result

pub returns-in_default-clause-told : goal.returns-in_default-clause-told
returns-in_default-clause-told g c asked fed sent writes is so_far =
    let few : length c.args.bytes.now < c.args.self.now.missing = c.in_default.ensures.cases in
    told_before_mark asked fed c.args.bytes.now c.args.self.now sent _ writes _ so_far
    (record c.args.self.now { missing = c.args.self.now.missing - length c.args.bytes.now }) refl refl few
    (omega (arith, few)) c.feed-in_default.result

pub returns-in_err-found-clause-told : goal.returns-in_err-found-clause-told
returns-in_err-found-clause-told g c asked fed sent writes is so_far =
    told_of_err asked fed c.args.bytes.now c.args.self.now sent _ writes _ so_far c.args.self.now
    c.from_residual.result (search rules)

pub returns-then-is_some-clause-found : goal.returns-then-is_some-clause-found
returns-then-is_some-clause-found g c most ahead fed is =
    let cases = c.in-Some.ensures.cases in
    let parts : c.args.bytes.now ≡ c.in-Some.front.now ++ c.in-Some.rest.now =
    rw (cases.1, cases.2) (sym (take-append-drop c.args.self.now.missing c.args.bytes.now)) in
    found_longer most ahead fed c.in-Some.front.now c.in-Some.rest.now c.args.bytes.now parts c.in_ok-found.found
    (search rules) (c.in_ok-found.ensures.found most ahead fed is)

pub returns-then-is_some-clause-fed : goal.returns-then-is_some-clause-fed
returns-then-is_some-clause-fed g c most ahead fed is =
    let cases = c.in-Some.ensures.cases in
    let parts : c.args.bytes.now ≡ c.in-Some.front.now ++ c.in-Some.rest.now =
    rw (cases.1, cases.2) (sym (take-append-drop c.args.self.now.missing c.args.bytes.now)) in
    fed_longer most ahead fed c.in-Some.front.now c.in-Some.rest.now c.args.bytes.now parts _ c.in_ok-found.found
    c.in_ok-found.ensures.told (search rules) (c.in_ok-found.ensures.fed most ahead fed is)

pub returns-then-is_some-clause-told : goal.returns-then-is_some-clause-told
returns-then-is_some-clause-told g c asked fed sent writes is so_far =
    let cases = c.in-Some.ensures.cases in
    let on : c.args.self.now.asked ≡ true = search rules in
    told_until asked fed c.args.bytes.now c.args.self.now sent _ writes _ so_far (sym so_far.asked_is ∙ on) cases.0
    c.args.self.now c.in_ok-found.found (search rules)
    (subst (λ (xs : List ℕ). IsSoFar asked.most asked.ahead (fed ++ xs) c.in_ok-found.found) cases.1
    (c.in_ok-found.ensures.found asked.most asked.ahead fed is)) _ refl

pub tell-requires : goal.tell-requires
tell-requires g c =
    let before = c.requires.before in
    let cases = c.in-Some.ensures.cases in
    let on : c.args.self.now.asked ≡ true = search rules in
    let place : length before.fed + c.args.self.now.missing ≡ mark (before.marks + 1) = before.place on in
    let long : length (before.fed ++ c.in-Some.front.now) ≡ length before.fed + length c.in-Some.front.now =
    length-append before.fed c.in-Some.front.now in
    let many : length c.in-Some.front.now ≡ c.args.self.now.missing = cases.3 in record {
      most = before.most;
      ahead = before.ahead;
      fed = before.fed ++ c.in-Some.front.now;
      is = c.in_ok-found.ensures.fed before.most before.ahead before.fed before.is;
      none = c.in_ok-found.ensures.told ∙ no_finding c.in_ok-found.found (search rules);
      many = omega (arith, place, long, many);
    }

pub returns-in_err-tell-clause-told : goal.returns-in_err-tell-clause-told
returns-in_err-tell-clause-told g c asked fed sent writes is so_far =
    rw c.in_err-tell.ensures.err (told_of_err asked fed c.args.bytes.now c.args.self.now sent _ writes _ so_far
    c.tell.new.self c.from_residual-in_err-tell.result (search rules))

pub returns-clause-found : goal.returns-clause-found
returns-clause-found g c = IfOk-weaker c.feed-3.result _ _ (λ found so most ahead fed is.
    let cases = c.in-Some.ensures.cases in
    let parts : c.args.bytes.now ≡ c.in-Some.front.now ++ c.in-Some.rest.now =
    rw (cases.1, cases.2) (sym (take-append-drop c.args.self.now.missing c.args.bytes.now)) in
    found_both most ahead fed c.in-Some.front.now c.in-Some.rest.now c.args.bytes.now parts found
    (so most ahead (fed ++ c.in-Some.front.now) (c.in_ok-found.ensures.fed most ahead fed is))) c.feed-3.ensures.found

pub returns-clause-fed : goal.returns-clause-fed
returns-clause-fed g c = on_ok_weaker c.feed-3.result (λ so most ahead fed is.
    let cases = c.in-Some.ensures.cases in
    let parts : c.args.bytes.now ≡ c.in-Some.front.now ++ c.in-Some.rest.now =
    rw (cases.1, cases.2) (sym (take-append-drop c.args.self.now.missing c.args.bytes.now)) in
    fed_both most ahead fed c.in-Some.front.now c.in-Some.rest.now c.args.bytes.now parts _
    (so most ahead (fed ++ c.in-Some.front.now) (c.in_ok-found.ensures.fed most ahead fed is))) c.feed-3.ensures.fed

pub returns-clause-told : goal.returns-clause-told
returns-clause-told g c asked fed sent writes is so_far =
    let cases = c.in-Some.ensures.cases in
    let on : c.args.self.now.asked ≡ true = search rules in
    let few : length c.args.bytes.now ≤ 65536 = c.requires.few in
    let left : length c.in-Some.rest.now + c.args.self.now.missing ≡ length c.args.bytes.now = cases.4 in
    told_at_mark asked fed c.args.bytes.now c.args.self.now sent _ writes _ so_far (sym so_far.asked_is ∙ on) cases.0
    _ _ c.tell.new.self.is_whole
    (c.in_ok-tell.ensures.told asked.most asked.ahead (fed ++ take c.args.self.now.missing c.args.bytes.now)
    (subst (λ (xs : List ℕ). IsFed asked.most asked.ahead (fed ++ xs) c.feed-2.new.self) cases.1
    (c.in_ok-found.ensures.fed asked.most asked.ahead fed is)))
    (record c.tell.new.self { missing = 268435456 - length c.in-Some.rest.now }) c.tell.ensures.same.asked_is refl
    (omega (arith, left, few)) (omega (arith, left, few)) c.feed-3.result
