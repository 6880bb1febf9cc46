-- What is accepted is migrated, and the line of a migration is checked as its input is.
use Rattle.std.proofs.Common.{◌≡◌, ◌⊎◌, ◌≤◌, ◌<◌, ℕ, List, [], ◌∷◌, ◌++◌, length, refl, sym, ◌∙◌, ap, subst, inl}
use Rattle.std.proofs.Common.{inr, arith, lit<, Result, Ok, Err}
use Rattle.std.proofs.lemmas.List.Elements.{All-map, All-weaker}
use Rattle.stamp_core.specs.Linearized.{IsLinearized}
use Rattle.stamp_core.specs.Record.{Recorded, HasFewWords}
use Rattle.stamp_core.specs.declared.call.Call.{Call}
use Rattle.stamp_core.specs.declared.call.Call.TheVariants.{Validate, UnlockWrite, UnlockRead}
use Rattle.stamp_core.specs.declared.call.Call.TheVariants.{Unlock, ToWrite, ToRead, ToOptimistic}
use Rattle.stamp_core.specs.declared.entry.Entry.{Entry}
use Rattle.stamp_core.specs.declared.layout.Layout.{Layout}
use Rattle.stamp_core.specs.declared.layout.Layout.TheVariants.{One, Two}
use Rattle.stamp_core.specs.declared.reply.Reply.{Reply}
use Rattle.stamp_core.specs.declared.reply.Reply.TheVariants.{Stamp}
use Rattle.stamp_check.specs.declared.checking.Bad.{Bad}
use Rattle.stamp_check.specs.Judgement.{IsJudgement}
use Rattle.stamp_check.specs.Migration.{respelling, respelled_call, respelled_reply, respelled_entry}
use Rattle.stamp_check.specs.Migration.{respelled_record, migrated_from, migrated, CanMigrate}
use Rattle.stamp_check.proofs.RespelledParts.{widened_in_range, respelled_recorded}
use Rattle.stamp_check.proofs.RespelledRecords.{linearized_migrates, migration_keeps_verdicts}
use Rattle.stamp_check.proofs.RespelledStamps.{Respells, respells}
use Rattle.stamp_check.proofs.RespelledStamps.Respells.{writes, reads, foreign}
use Rattle.stamp_history.specs.History.{recorded_of}
use Rattle.stamp_history.specs.HistoryText.{history_text}
use Rattle.stamp_history.specs.declared.read_error.ReadError.{ReadError}
use Rattle.stamp_history.specs.HistoryLaws.{IsU64, CallIsU64, ReplyIsU64, EntryIsU64}
use Rattle.stamp_history.proofs.FieldsReadAgain.{small}
use Rattle.stamp_history.proofs.HistoryNumbers.{IsProgramHistory, program_history}
use Rattle.stamp_history.proofs.HistoryReadsAgain.{lines_read_again}
use Rattle.stamp_cli.specs.declared.faults.ServeFault.TheVariants.{TooLong}
use Rattle.stamp_cli.specs.declared.line.Verdict.TheVariants.{Accepted}
use Rattle.stamp_cli.specs.declared.orders.Order.TheVariants as order
use Rattle.stamp_cli.specs.Answer.{LineView, IsCheckAnswer, IsMigrateAnswer, IsOrderAnswer, with_line_feed}
use Rattle.stamp_cli.specs.CheckText.{verdict_of}
use Rattle.stamp_cli.specs.Laws.{AcceptedMigrates, MigrationKeepsLines, migrated_line}
use Rattle.stamp_cli.specs.Source.{most_bytes}
use Rattle.stamp_cli.proofs.OneAnswer.{long_or_not, ok_not_err, alone}

-- a respelled history is one of program values
stamp_fits : (s : ℕ) → IsU64 (respelling s)
stamp_fits s = by (respelling s) (respells s)
  where
    by : (t : ℕ) → Respells s t → IsU64 t
    by t (writes k w) = small t 9223372036854775807 (omega (arith, w.wide_is, w.most)) (lit< tt)
    by t (reads k c r) = small t 9223372036854775807 (omega (arith, r.wide_is, r.most, r.few)) (lit< tt)
    by t (foreign f) = small t 0 (omega (arith, f.zero)) (lit< tt)

call_fits : (call : Call) → CallIsU64 call → CallIsU64 (respelled_call call)
call_fits (Validate s) is = stamp_fits s
call_fits (UnlockWrite s) is = stamp_fits s
call_fits (UnlockRead s) is = stamp_fits s
call_fits (Unlock s) is = stamp_fits s
call_fits (ToWrite s) is = stamp_fits s
call_fits (ToRead s) is = stamp_fits s
call_fits (ToOptimistic s) is = stamp_fits s
call_fits _ is = is

reply_fits : (reply : Reply) → ReplyIsU64 reply → ReplyIsU64 (respelled_reply reply)
reply_fits (Stamp s) is = stamp_fits s
reply_fits _ is = is

few_words : (reply : Reply) → HasFewWords reply → HasFewWords (respelled_reply reply)
few_words (Stamp s) few = tt
few_words _ few = few

entry_fits : (e : Entry) → EntryIsU64 e → EntryIsU64 (respelled_entry e)
entry_fits e is = record {
  call = call_fits e.call is.call;
  first = is.first;
  last = is.last;
  point = is.point;
  reply = reply_fits e.reply is.reply;
}

respelled_program : (r : Recorded) → IsProgramHistory r → IsProgramHistory (respelled_record r)
respelled_program r is = record {
  range = widened_in_range r.limits is.range;
  known = respelled_recorded r is.known;
  replies = All-map (λ (e : Entry). HasFewWords e.reply) respelled_entry r.entries
      (All-weaker (λ (e : Entry). HasFewWords e.reply) (λ (e : Entry). HasFewWords (respelled_reply e.reply))
      (λ e few. few_words e.reply few) r.entries is.replies);
  numbers = record {
    entries = All-map EntryIsU64 respelled_entry r.entries
        (All-weaker EntryIsU64 (λ (e : Entry). EntryIsU64 (respelled_entry e)) entry_fits r.entries
        is.numbers.entries);
    report = is.numbers.report;
  };
}

migrated_program : (r : Recorded) → IsProgramHistory r → IsProgramHistory (migrated r)
migrated_program r is = by r.limits.layout
  where
    by : (l : Layout) → IsProgramHistory (migrated_from l r)
    by One = respelled_program r is
    by Two = is

-- what was read, if anything, is a history of program values
abbrev IsProgram : Result Recorded ReadError → Type 0
IsProgram found = (history : Recorded) → found ≡ Ok history → IsProgramHistory history

accepted_is_linearized : (history : Recorded) (found : Result ℕ Bad) → IsJudgement history found →
    verdict_of found ≡ Accepted → IsLinearized history
accepted_is_linearized history (Ok n) is accepted = is.0
accepted_is_linearized history (Err bad) is accepted = cc

-- what was read of an input that is accepted: a history that can be migrated
record IsAcceptedAs (found : Result Recorded ReadError) : Type 0 where
  history : Recorded
  read : found ≡ Ok history
  linearized : IsLinearized history
  can : CanMigrate history

accepted_as : (found : Result Recorded ReadError) (line : LineView) → IsProgram found →
    IsCheckAnswer found (Ok line) → line.verdict ≡ Accepted → IsAcceptedAs found
accepted_as (Err e) line known check accepted = cc
accepted_as (Ok history) line known check accepted =
    let k = known history refl in
    let all = accepted_is_linearized history check.found check.is (sym check.verdict ∙ accepted) in
    record {
      history = history;
      read = refl;
      linearized = all;
      can = (linearized_migrates history k.known k.range all).0;
    }

checked_alike : (found : Result Recorded ReadError) (line written : LineView) → IsProgram found →
    IsCheckAnswer found (Ok line) → IsMigrateAnswer found (Ok written.text) →
    IsCheckAnswer (recorded_of (with_line_feed written)) (Ok line)
checked_alike (Err e) line written known check migrate = cc
checked_alike (Ok history) line written known check migrate =
    let k = known history refl in
    let m = migrated_program history k in
    let read : recorded_of (with_line_feed written) ≡ Ok (migrated history) =
    ap (λ (text : List ℕ). recorded_of (text ++ 10 ∷ [])) migrate.1 ∙
    lines_read_again (migrated history) m.range m.known m.replies m.numbers in
    let same = migration_keeps_verdicts history k.known k.range migrate.0 check.found in
    subst (λ (r : Result Recorded ReadError). IsCheckAnswer r (Ok line)) (sym read)
    (record { found = check.found; is = same.1 check.is; says = check.says; verdict = check.verdict })

-- a line is no answer to what is too long
fits : (input : List ℕ) (line : LineView) → (most_bytes < length input → Ok line ≡ Err TooLong) →
    length input ≤ most_bytes
fits input line long = by (long_or_not most_bytes (length input))
  where
    by : (most_bytes < length input) ⊎ (length input ≤ most_bytes) → length input ≤ most_bytes
    by (inl h) = absurd (ok_not_err (long h))
    by (inr h) = h

-- the answer to a history that can be migrated
line_of_migration : (input : List ℕ) (history : Recorded) → length input ≤ most_bytes →
    recorded_of input ≡ Ok history → CanMigrate history →
    IsOrderAnswer order.Migrate input (Ok (migrated_line history))
line_of_migration input history few read can = record {
  too_long = λ long. absurd (omega arith);
  read = λ _. (
    subst (λ (r : Result Recorded ReadError). IsMigrateAnswer r (Ok (history_text (migrated history)))) (sym read)
        (can, refl),
    refl,
  );
}

pub accepted_migrates : AcceptedMigrates
accepted_migrates input line check accepted =
    let few = fits input line check.too_long in
    let is = accepted_as (recorded_of input) line (program_history input) (check.read few) accepted in
    let answer = line_of_migration input is.history few is.read is.can in
    record {
      history = is.history;
      read = is.read;
      linearized = is.linearized;
      answered = alone order.Migrate input (Ok (migrated_line is.history)) answer;
    }

pub migration_keeps_lines : MigrationKeepsLines
migration_keeps_lines input line written check migrate short =
    let few = fits input line check.too_long in
    alone order.Check (with_line_feed written) (Ok line) (record {
      too_long = λ long. absurd (omega arith);
      read = λ _. checked_alike (recorded_of input) line written (program_history input) (check.read few)
          (migrate.read few).0;
    })
