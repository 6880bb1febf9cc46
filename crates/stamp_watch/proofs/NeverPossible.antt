-- Replies that are never possible: the record can't hold their content, or that of a reply before.
use Rattle.std.proofs.Common.{ℕ, ◌≡◌, ◌≢◌, ◌+◌, ◌<◌, List, Some, refl, ◌∙◌, ap, inr}
use Rattle.std.proofs.Common.{arith}
use Rattle.std.specs.Prelude.{slice_get, take}
use Rattle.std.specs.List.{AllZip}
use Rattle.stamp_core.specs.declared.reply.Reply.{Reply}
use Rattle.stamp_explain.specs.declared.observed.Returned.{Returned}
use Rattle.stamp_explain.specs.Observed.{ObservedHistory, IsObserved, IsReturnAt}
use Rattle.stamp_explain.specs.Possible.{IsPossible, returned_with, with_reply}
use Rattle.stamp_runs.specs.Names.{EachOfReply}
use Rattle.stamp_runs.specs.declared.event.Event.{Event}
use Rattle.stamp_watch.specs.AsEvents.{AreEventsOf, AreMomentsOf, IsEventAt, return_of}
use Rattle.stamp_watch.specs.ReplyLaws.{IsContentOf}
use Rattle.stamp_watch.specs.declared.moments.Moment.{Moment}
use Rattle.stamp_watch.specs.inner.Trial.{HasForeign}
use Rattle.stamp_watch.proofs.AsEvents.{told_test, tells_after}
use Rattle.stamp_watch.proofs.ByNumber.{in_take}
use Rattle.stamp_watch.proofs.Foreign.{cut_replies_known}
use Rattle.stamp_watch.proofs.OtherReply.{its_entry, other_entry, other_observed, possible_as_cut}
use Rattle.stamp_watch.proofs.Ranking.{one_number, place_in}
use Rattle.stamp_watch.proofs.Renamed.{each_reply}
use Rattle.stamp_watch.proofs.Trying.{all_events}

module _ (h : ObservedHistory) (observed : IsObserved h) (i : ℕ) (at : IsReturnAt h.entries i) (reply : Reply) where
  abbrev other : ObservedHistory
  other = with_reply i at.entry at.return reply h

  -- a reply that is possible tells a content of the record
  pub possible_is_known : IsPossible h i reply → EachOfReply (IsContentOf h.width) reply
  possible_is_known possible = cut_replies_known other at.return.last (i + 1)
      (other_observed h i at reply observed).suit ((possible_as_cut h i at reply).0 possible) i
      (record {
        entry = returned_with at.entry at.return reply;
        return = record at.return { reply = reply };
        is_entry = its_entry h i at reply;
        returned = refl;
      }) (told_test at.return.last at.return.last i (i + 1) (inr (refl, omega arith)))

  module _ (moments : List Moment) (are : AreMomentsOf h.entries moments) (k : ℕ)
      (there : slice_get moments k ≡ Some (return_of i at.return))
    where
      abbrev all : (events : List Event) × AllZip (IsEventAt h.entries) moments events
      all = all_events h.entries moments are.each

      of : AreEventsOf h moments all.0
      of = record { are = are; events_are = all.1 }

      -- behind one that can't no reply is possible
      pub none_behind_foreign : HasForeign h (take k moments) → ¬ IsPossible h i reply
      none_behind_foreign foreign possible = foreign.foreign (each_reply (λ words its. its.wide)
          foreign.at.return.reply (cut_replies_known other at.return.last (i + 1)
          (other_observed h i at reply observed).suit ((possible_as_cut h i at reply).0 possible)
          foreign.index (record {
            entry = foreign.at.entry;
            return = foreign.at.return;
            is_entry = other_entry h i at reply foreign.index foreign.at.entry apart foreign.at.is_entry;
            returned = foreign.at.returned;
          }) (told_test foreign.at.return.last at.return.last foreign.index (i + 1)
          ((tells_after h observed moments all.0 of i k at.return there foreign.index number.0 foreign.at.return
          number.1.1).0 (let less = number.1.0 in omega (arith, less))))))
        where
          number : (q : ℕ) × ((q < k) × (slice_get moments q ≡ Some (return_of foreign.index foreign.at.return)))
          number =
              let found = place_in (take k moments) (return_of foreign.index foreign.at.return) foreign.there in
              (found.0, in_take k found.0 moments (return_of foreign.index foreign.at.return) found.1)

          same_entry : foreign.index ≡ i → foreign.at.return ≡ at.return
          same_entry same = cc

          apart : foreign.index ≢ i
          apart same =
              let one = one_number h observed moments all.0 of number.0 k (return_of i at.return)
              (number.1.1 ∙ ap (λ (j : ℕ). Some (return_of j foreign.at.return)) same ∙
              ap (λ (q : Returned). Some (return_of i q)) (same_entry same)) there in
              let less = number.1.0 in omega (arith, one, less)
