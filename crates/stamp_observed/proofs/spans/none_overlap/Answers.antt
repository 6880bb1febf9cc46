use Rattle.stamp_observed.proofs.Meeting.{told_by_slice}
use Rattle.stamp_observed.proofs.spans.none_overlap.Goals as goal

pub follow-requires : goal.follow-requires
follow-requires c =
    let told = told_by_slice c.args.entries.now c.in_ok-spans.spans.items c.in_ok-sorted.sorted.items
    c.as_slice.result.now c.requires.low c.requires.intervals c.requires.threads c.in_ok-spans.ensures
    c.in_ok-sorted.ensures c.as_slice.ensures.value in
    record { threads = told.threads; rising = told.rising }

pub returns : goal.returns
returns c =
    let told = told_by_slice c.args.entries.now c.in_ok-spans.spans.items c.in_ok-sorted.sorted.items
    c.as_slice.result.now c.requires.low c.requires.intervals c.requires.threads c.in_ok-spans.ensures
    c.in_ok-sorted.ensures c.as_slice.ensures.value in
    (λ yes. told.follow (c.follow.ensures.0 yes), λ none. c.follow.ensures.1 (told.none_overlap none))
