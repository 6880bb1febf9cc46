-- Where no version is left out, renumbering changes nothing.
use Rattle.std.proofs.Common.{◌≡◌, ℕ, List, [], ◌∷◌, map, refl, ◌∙◌, ap, subst, arith}
use Rattle.std.specs.Prelude.{◌*◌, ◌-◌, nat_lt, if◌then◌else◌}
use Rattle.std.proofs.lemmas.Bool.Decides.{nat_tests}
use Rattle.std.proofs.lemmas.List.Elements.{Contains-get_or}
use Rattle.stamp_core.specs.Layout.{Units}
use Rattle.stamp_core.specs.declared.call.Call.{Call}
use Rattle.stamp_core.specs.declared.call.Call.TheVariants.{Validate, UnlockWrite, UnlockRead}
use Rattle.stamp_core.specs.declared.call.Call.TheVariants.{Unlock, ToWrite, ToRead, ToOptimistic}
use Rattle.stamp_core.specs.declared.reply.Reply.{Reply}
use Rattle.stamp_core.specs.declared.reply.Reply.TheVariants.{Stamp}
use Rattle.stamp_observed.specs.Renumbering.{renumbered_stamp, renumbered_call, renumbered_reply}
use Rattle.stamp_observed.specs.Small.{HaveSame}

pub stamp_stays : (u : Units) (s : ℕ) → s ≡ renumbered_stamp u 0 s
stamp_stays u s = by u.version
  where
    less : (v n : ℕ) → n ≡ 0 → s ≡ (if nat_lt s v then s else if nat_lt (s - v) n then 0 else s - n)
    less v n is = grind (arith, nat_tests)

    by : (v : ℕ) → s ≡ (if nat_lt s v then s else if nat_lt (s - v) (0 * v) then 0 else s - 0 * v)
    by v = less v (0 * v) (omega arith)

pub call_stays : (u : Units) (call : Call) → call ≡ renumbered_call u 0 call
call_stays u (Validate s) = ap Validate (stamp_stays u s)
call_stays u (UnlockWrite s) = ap UnlockWrite (stamp_stays u s)
call_stays u (UnlockRead s) = ap UnlockRead (stamp_stays u s)
call_stays u (Unlock s) = ap Unlock (stamp_stays u s)
call_stays u (ToWrite s) = ap ToWrite (stamp_stays u s)
call_stays u (ToRead s) = ap ToRead (stamp_stays u s)
call_stays u (ToOptimistic s) = ap ToOptimistic (stamp_stays u s)
call_stays u call = refl

pub reply_stays : (u : Units) (reply : Reply) → reply ≡ renumbered_reply u 0 reply
reply_stays u (Stamp s) = ap Stamp (stamp_stays u s)
reply_stays u reply = refl

replies_stay : (u : Units) (replies : List Reply) → replies ≡ map (renumbered_reply u 0) replies
replies_stay u [] = refl
replies_stay u (reply ∷ replies) =
    ap (λ (x : Reply). x ∷ replies) (reply_stays u reply) ∙
    ap (λ (xs : List Reply). renumbered_reply u 0 reply ∷ xs) (replies_stay u replies)

-- so the replies are the same ones
pub same_replies : (u : Units) (replies : List Reply) → HaveSame (map (renumbered_reply u 0) replies) replies
same_replies u replies = subst (λ (xs : List Reply). HaveSame xs replies) (replies_stay u replies) (record {
  first = λ k d lt. Contains-get_or replies k d lt;
  second = λ k d lt. Contains-get_or replies k d lt;
})
