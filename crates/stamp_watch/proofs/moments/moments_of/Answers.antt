use Rattle.std.proofs.Common.{◌≡◌, rules}
use Rattle.std.proofs.lemmas.Fn.{always_returns_same}
use Rattle.stamp_watch.proofs.Listing.{sorted_moments, key_of}
use Rattle.stamp_watch.proofs.moments.moments_of.Goals as goal

pub returns : goal.returns
returns c = sorted_moments c.args.observed.now.entries c.in_ok-moments.moments.items c.sort_by_key.new.self.items
    (rw c.entries.ensures.entries at c.in_ok-moments.ensures) c.sort_by_key.ensures.permutation
    (c.in_ok-sort_by_key.ensures.sorted key_of (always_returns_same _ (λ a r. r ≡ key_of a.0.now) _
    (λ a r q k. search rules)))
