-- The calls of a replay are the lock's.
use Rattle.std.proofs.Common.{◌≡◌, ℕ, ◌+◌, List, [], ◌∷◌, Bool, true, false, refl, subst, Option}
use Rattle.std.proofs.Common.{Some, None, Ok, option_and_then}
use Rattle.std.specs.Prelude.{IsTrue, if◌then◌else◌}
use Rattle.std.specs.List.{All}
use Rattle.std.proofs.lemmas.List.Elements.{All-nil, All-cons}
use Rattle.serde_json.specs.Data.{Data, Items, no_items, item}
use Rattle.stamp_core.specs.Call.{is_lock_call}
use Rattle.stamp_core.specs.declared.call.Call.{Call}
use Rattle.stamp_history.specs.declared.text_kind.TextKind.TheVariants as text
use Rattle.stamp_history.specs.HistoryCall.{history_call}
use Rattle.stamp_history.specs.LockCall.{if_of_lock, lock_call}
use Rattle.stamp_history.specs.JsonReading.{◌>>=◌, json_of, each}
use Rattle.stamp_history.specs.LimitFields.{limits}
use Rattle.stamp_history.specs.Replay.{Replay, replay_in, replay_of}
use Rattle.stamp_history.specs.ReplayFields.{top, call_at, calls, listed_calls}
use Rattle.stamp_history.proofs.EachItem.{bind_ok, found_call}

-- what was found, if anything, is a call of the lock
pub record IsOfLock (found : Option Call) : Type 0 where
  pub is : (call : Call) → found ≡ Some call → IsTrue (is_lock_call call)

one : (k : Call) → IsTrue (is_lock_call k) → IsOfLock (Some k)
one k lock = record {
  is = λ call e. let same : k ≡ call = cc in
      subst (λ (c : Call). IsTrue (is_lock_call c)) same lock;
}

nothing : IsOfLock None
nothing = record { is = λ call e. cc }

of_lock_alone : (call : Call) → IsOfLock (if_of_lock call)
of_lock_alone call = by (is_lock_call call) refl
  where
    by : (b : Bool) → is_lock_call call ≡ b → IsOfLock (if b then Some call else None)
    by true is = one call is
    by false is = nothing

lock_call_of_lock : (d : Data) → IsOfLock (lock_call d)
lock_call_of_lock d = by (history_call d)
  where
    by : (found : Option Call) → IsOfLock (option_and_then if_of_lock found)
    by None = nothing
    by (Some call) = of_lock_alone call

each_of_lock : (i : ℕ) (ds : Items) (found : List Call) → each call_at i ds ≡ Ok found →
    All (λ call. IsTrue (is_lock_call call)) found
each_of_lock i no_items found e = let none : [] ≡ found = cc in
    subst (All (λ call. IsTrue (is_lock_call call))) none (All-nil (λ call. IsTrue (is_lock_call call)))
each_of_lock i (item d ds) found e =
    let first = bind_ok (call_at i d) (λ x. each call_at (i + 1) ds >>= λ later. Ok (x ∷ later)) found e in
    let rest = bind_ok (each call_at (i + 1) ds) (λ later. Ok (first.0 ∷ later)) found first.2 in
    let last : Ok (first.0 ∷ rest.0) ≡ Ok found = rest.2 in
    let all : first.0 ∷ rest.0 ≡ found = cc in
    subst (All (λ call. IsTrue (is_lock_call call))) all
    (All-cons (λ call. IsTrue (is_lock_call call)) first.0 rest.0
    ((lock_call_of_lock d).is first.0 (found_call i d first.0 first.1)) (each_of_lock (i + 1) ds rest.0 rest.1))

calls_of_lock : (d : Data) (found : List Call) → calls d ≡ Ok found → All (λ call. IsTrue (is_lock_call call)) found
unfolding calls
calls_of_lock d found e = let list = bind_ok (listed_calls d) (each call_at 0) found e in
    each_of_lock 0 list.0 found list.2

pub replay_of_lock : (bytes : List ℕ) (replay : Replay) → replay_of bytes ≡ Ok replay →
    All (λ call. IsTrue (is_lock_call call)) replay.calls
unfolding replay_of replay_in
replay_of_lock bytes replay e =
    let value = bind_ok (json_of bytes) replay_in replay e in
    let keys = bind_ok (top value.0) (λ _. limits text.Replay value.0 >>= λ found_limits. calls value.0 >>=
    λ found_calls. Ok (record { limits = found_limits; calls = found_calls })) replay value.2 in
    let bounds = bind_ok (limits text.Replay value.0) (λ found_limits. calls value.0 >>= λ found_calls. Ok
    (record { limits = found_limits; calls = found_calls })) replay keys.2 in
    let found = bind_ok (calls value.0) (λ found_calls. Ok (record { limits = bounds.0; calls = found_calls }))
    replay bounds.2 in
    let made : Ok (record { limits = bounds.0; calls = found.0 }) ≡ Ok replay = found.2 in
    let same : record { limits = bounds.0; calls = found.0 } ≡ replay = cc in
    subst (λ (r : Replay). All (λ call. IsTrue (is_lock_call call)) r.calls) same
    (calls_of_lock value.0 found.0 found.1)
