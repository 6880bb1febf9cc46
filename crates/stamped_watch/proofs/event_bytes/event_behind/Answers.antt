use Rattle.std.proofs.Common.{ℕ, ◌≡◌, ◌*◌, ◌++◌, List, refl, rules, Some, subst, sym}
use Rattle.std.proofs.lemmas.List.{take-append-drop}
use Rattle.stamp_core.specs.declared.call.Call.TheVariants.{Put, PutIf}
use Rattle.stamp_core.specs.declared.reply.Reply.TheVariants.{Content}
use Rattle.stamp_runs.specs.declared.event.Event.TheVariants.{Begins, Returns}
use Rattle.stamped_watch.specs.EventBytes.{HasBytes, lane_in, words_in}
use Rattle.stamped_watch.proofs.WordsRead.{content_bytes, content_long, put_bytes, put_if_bytes}
use Rattle.stamped_watch.proofs.event_bytes.event_behind.Goals as goal

pub words_in-requires-in_default-clause-many : goal.words_in-requires-in_default-clause-many
words_in-requires-in_default-clause-many c = content_long c.args.width c.args.front.now c.told-front c.args.behind.now
    c.requires.front.1 (search rules) (search rules)

pub returns-in-18 : goal.returns-in-18
returns-in-18 c = subst (λ (words : List ℕ). HasBytes (Some c.args.width)
    (Begins (lane_in c.args.front.now) (Put words)) (c.args.front.now ++ c.args.behind.now)) (sym c.words_in.ensures)
    (put_bytes c.args.width c.args.front.now c.told-front c.args.behind.now c.requires.front.1
    (lane_in c.args.front.now) refl c.in-18.is)

pub returns-in-19 : goal.returns-in-19
returns-in-19 c =
    let parts : c.args.behind.now ≡ c.split_at.result.0.now ++ c.split_at.result.1.now =
    rw (c.split_at.ensures.front, c.split_at.ensures.back)
    (sym (take-append-drop (8 * c.args.width) c.args.behind.now)) in
    subst (λ (words : List ℕ). HasBytes (Some c.args.width)
    (Begins (lane_in c.args.front.now) (PutIf c.words_in-in-19.result words)) (c.args.front.now ++ c.args.behind.now))
    (sym c.words_in-in-19-2.ensures)
    (subst (λ (words : List ℕ). HasBytes (Some c.args.width)
    (Begins (lane_in c.args.front.now) (PutIf words (words_in c.args.width c.split_at.result.1.now)))
    (c.args.front.now ++ c.args.behind.now)) (sym c.words_in-in-19.ensures)
    (put_if_bytes c.args.width c.args.front.now c.told-front c.args.behind.now c.requires.front.1
    (lane_in c.args.front.now) c.split_at.result.0.now c.split_at.result.1.now refl c.in-19.is
    parts c.split_at.ensures.front_len))

pub returns-in_default : goal.returns-in_default
returns-in_default c = subst (λ (words : List ℕ). HasBytes (Some c.args.width)
    (Returns (lane_in c.args.front.now) (Content words)) (c.args.front.now ++ c.args.behind.now))
    (sym c.words_in-in_default.ensures)
    (content_bytes c.args.width c.args.front.now c.told-front c.args.behind.now c.requires.front.1
    (lane_in c.args.front.now) refl (search rules) (search rules))
