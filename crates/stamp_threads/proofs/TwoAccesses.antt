-- A call of two accesses: a load, which went on, and an exchange.
use Rattle.std.proofs.Common.{◌≢◌, ℕ, [], ◌∷◌}
use Rattle.stamp_core.specs.Limits.{Bounds}
use Rattle.stamp_core.specs.Word.{LockWord, word_at}
use Rattle.stamp_core.specs.Decision.{Answers, Changes, Moves}
use Rattle.stamp_core.specs.declared.call.Call.{Call}
use Rattle.stamp_core.specs.declared.reply.Reply.{Reply}
use Rattle.stamp_machines.specs.LockNumber.{RepresentsAt}
use Rattle.stamp_threads.specs.LockLog.{LockLog, events_after, Appends}
use Rattle.stamp_threads.specs.LockPass.{LockPassView}
use Rattle.stamp_threads.specs.inner.LockRule.{Loaded, Won}
use Rattle.stamp_threads.specs.PassView.{entry, HasFound}
use Rattle.stamp_threads.specs.Made.{Made, AccessesTwice}
use Rattle.stamp_threads.specs.LostExchange.{LostExchange}
use Rattle.stamp_threads.specs.inner.GoesAsMachine.{WentOn}
use Rattle.stamp_threads.proofs.Beginnings.{begins_further}
use Rattle.stamp_threads.proofs.CallSteps.{by_answer, by_change, by_change_made}
use Rattle.stamp_threads.proofs.Found.{found_by_load, found_by_win, found_twice}
use Rattle.stamp_threads.proofs.SamePass.{no_call_further}

appends : (limits : Bounds) (call : Call) (word : ℕ) (new : LockWord) (reply : Reply) →
    Changes limits (word_at limits word) call new reply → (log : LockLog) →
    RepresentsAt limits word (events_after limits log) → Appends limits log call
appends limits call word new reply changes log represents =
    let m : Moves limits (events_after limits log) call (word_at limits word) new reply =
    changes (events_after limits log) represents in
    record { appended = m.appended; some = m.some; reply = reply; transition_is = m.transition_is }

-- the load found a word that the call is to change
module _ (limits : Bounds) (call : Call) (v : LockPassView) (loaded : ℕ) (u : LockPassView) (new : LockWord)
    (reply : Reply) (load : Loaded limits call v loaded u)
    (changes : Changes limits (word_at limits loaded) call new reply) where
  went : WentOn limits v loaded u
  went = by_change limits call v loaded u new reply load changes

  first : HasFound v (loaded ∷ []) u
  first = found_by_load limits call v loaded u load

  twice : (found : ℕ) (w : LockPassView) (reply' : Reply) → HasFound u (found ∷ []) w →
      Made limits call reply' u w → AccessesTwice limits v w
  twice found w reply' second a = record {
    loaded = loaded;
    found = found;
    has_found = found_twice v u w loaded found first second;
    first = u.known;
    at_first = went.left;
    log = a.log;
    longer = a.left.begins;
    made = entry u.name (call, reply');
    known = a.known;
  }

  pub twice_by_win : (w : LockPassView) → Won limits call u loaded w → AccessesTwice limits v w
  twice_by_win w won = twice loaded w reply (found_by_win limits call u loaded w won)
      (by_change_made limits call u loaded w new reply won changes)

  pub twice_by_answer : (found : ℕ) (w : LockPassView) (reply' : Reply) → Loaded limits call u found w →
      Answers limits (word_at limits found) call reply' → AccessesTwice limits v w
  twice_by_answer found w reply' load' answers =
      twice found w reply' (found_by_load limits call u found w load')
      (by_answer limits call u found w reply' load' answers)

  -- the exchange found another word, which the call is to change too
  pub loses : (found : ℕ) (w : LockPassView) (new' : LockWord) (reply' : Reply) → loaded ≢ found →
      Loaded limits call u found w → Changes limits (word_at limits found) call new' reply' →
      LostExchange limits call loaded found v w
  loses found w new' reply' differ load' changes' =
      let later : WentOn limits u found w =
      by_change limits call u found w new' reply' load' changes' in
      record {
        differ = differ;
        has_found = found_twice v u w loaded found first (found_by_load limits call u found w load');
        first = u.known;
        at_first = went.left;
        at_second =
            record {
              begins = begins_further v.known u.known w.known went.left.begins
                  later.left.begins;
              legal = later.left.legal;
              represents = later.left.represents;
            };
        longer = later.left.begins;
        first_appends = appends limits call loaded new reply changes u.known went.left.represents;
        second_appends = appends limits call found new' reply' changes' w.known
            later.left.represents;
        no_call = no_call_further v u w went.no_call later.no_call;
        consistent = later.consistent;
      }
