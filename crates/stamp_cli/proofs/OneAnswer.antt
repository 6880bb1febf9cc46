-- A command and what was read of an input have one answer.
use Rattle.std.proofs.Common.{◌≡◌, ◌≤◌, ◌<◌, ◌⊎◌, ℕ, List, length, ◌∙◌, refl, sym, ap, subst, inl, inr}
use Rattle.std.proofs.Common.{Bool, true, false, Result, Ok, Err, nat_lt}
use Rattle.std.proofs.lemmas.Bool.{ltb-true, ltb-false}
use Rattle.stamp_core.specs.declared.layout.Layout.{Layout}
use Rattle.stamp_core.specs.declared.layout.Layout.TheVariants.{One}
use Rattle.stamp_core.specs.declared.reply.Reply.{Reply}
use Rattle.stamp_core.specs.Record.{Recorded}
use Rattle.stamp_check.proofs.OneFault.{one_verdict}
use Rattle.stamp_check.proofs.OneForeign.{one_bad_reply, migrates_or_not}
use Rattle.stamp_history.specs.History.{recorded_of}
use Rattle.stamp_history.specs.ReplayText.{replayed_text}
use Rattle.stamp_history.specs.declared.read_error.ReadError.{ReadError}
use Rattle.stamp_history.specs.Replay.{Replay, replay_of}
use Rattle.stamp_history.specs.ReplayAnswer.{IsReplayedText}
use Rattle.stamp_history.proofs.OnlyLockCalls.{replay_of_lock}
use Rattle.stamp_cli.specs.declared.faults.ServeFault.{ServeFault}
use Rattle.stamp_cli.specs.declared.faults.ServeFault.TheVariants.{Waits, BadReply}
use Rattle.stamp_cli.specs.declared.orders.Order.{Order}
use Rattle.stamp_cli.specs.declared.orders.Order.TheVariants as order
use Rattle.stamp_cli.specs.Answer.{LineView, IsWaitFault, IsReplayAnswer, IsInputAnswer, IsCheckAnswer}
use Rattle.stamp_cli.specs.Answer.{IsMigrateAnswer}
use Rattle.stamp_cli.specs.Answer.{AnswersReplay, AnswersRun, AnswersReportedRun, AnswersCheck, AnswersMigrate}
use Rattle.stamp_cli.specs.Answer.{IsStampAnswer, IsAccepted, AnswersOrder, IsOrderAnswer}
use Rattle.stamp_cli.specs.CheckText.{judgement_text, verdict_of}
use Rattle.stamp_cli.specs.Laws.{AnswersAlone}
use Rattle.stamp_cli.specs.Source.{most_bytes}
use Rattle.stamp_cli.specs.StampText.{kind_text}
use Rattle.stamp_core.proofs.OneStampKind.{one_kind}
use Rattle.stamp_cli.proofs.OneReplay.{AreOfLock, of_all, one_replayed, one_wait, waits_or_replayed}

-- the calls of a replay are the lock's
abbrev pub AreOfLockIn : Result Replay ReadError → Type 0
AreOfLockIn (Ok replay) = AreOfLock replay.calls
AreOfLockIn (Err e) = Unit {0}

one_line : (replay : Replay) (a b : List ℕ) → AreOfLock replay.calls → IsReplayedText replay a →
    IsReplayedText replay b → a ≡ b
one_line replay a b lock x y =
    let same = one_replayed replay.limits replay.calls x.replies y.replies x.word y.word lock x.replayed y.replayed in
    x.is ∙ ap (λ (rs : List Reply). replayed_text rs x.word.bits) same.0 ∙ ap (replayed_text y.replies) same.1 ∙
    sym y.is

line_or_wait : (replay : Replay) (a : List ℕ) (e : ServeFault) → AreOfLock replay.calls → IsReplayedText replay a →
    IsWaitFault replay e → ⊥
line_or_wait replay a e lock x y = waits_or_replayed replay.limits replay.calls y.call x.replies x.word lock y.waits
    x.replayed

one_reading : (r : Result Replay ReadError) (a b : Result (List ℕ) ServeFault) → AreOfLockIn r →
    IsReplayAnswer r a → IsReplayAnswer r b → a ≡ b
one_reading (Ok replay) (Ok a) (Ok b) lock x y = ap Ok (one_line replay a b lock x y)
one_reading (Ok replay) (Ok a) (Err e) lock x y = absurd (line_or_wait replay a e lock x y)
one_reading (Ok replay) (Err e) (Ok b) lock x y = absurd (line_or_wait replay b e lock y x)
one_reading (Ok replay) (Err d) (Err e) lock x y =
    ap Err (x.named ∙ ap Waits (one_wait replay.limits replay.calls x.call y.call lock x.waits y.waits) ∙ sym y.named)
one_reading (Err e) a b lock x y = x ∙ sym y

of_lock_in : (input : List ℕ) → AreOfLockIn (replay_of input)
of_lock_in input = by (replay_of input) refl
  where
    by : (r : Result Replay ReadError) → replay_of input ≡ r → AreOfLockIn r
    by (Ok replay) e = of_all replay.calls (replay_of_lock input replay e)
    by (Err e) _ = tt

pub long_or_not : (n m : ℕ) → (n < m) ⊎ (m ≤ n)
long_or_not n m = by_test (nat_lt n m) refl
  where
    by_test : (b : Bool) → nat_lt n m ≡ b → (n < m) ⊎ (m ≤ n)
    by_test true e = inl (ltb-true n m e)
    by_test false e = inr (ltb-false n m e)

pub ok_inj : {A : Type 0} {a b : A} → Path (Result A ServeFault) (Ok a) (Ok b) → a ≡ b
ok_inj e = cc

err_inj : {A : Type 0} {d e : ServeFault} → Path (Result A ServeFault) (Err d) (Err e) → d ≡ e
err_inj e = cc

pub ok_not_err : {A : Type 0} {a : A} {e : ServeFault} → Path (Result A ServeFault) (Ok a) (Err e) → ⊥
ok_not_err e = cc

same_line : (a b : LineView) → a.text ≡ b.text → a.verdict ≡ b.verdict → a ≡ b
same_line a b t v = let parts : record { text = a.text; verdict = a.verdict } ≡
    record { text = b.text; verdict = b.verdict } = cc in parts

-- there is one answer of this kind to an input
abbrev pub IsOnce : {A : Type 0} → (List ℕ → Result A ServeFault → Type 0) → Type 0
IsOnce {A} IsSo = (input : List ℕ) (a b : Result A ServeFault) → IsSo input a → IsSo input b → a ≡ b

one_to_input : {A : Type 0} (IsSo : List ℕ → Result A ServeFault → Type 0) → IsOnce IsSo → IsOnce (IsInputAnswer IsSo)
one_to_input IsSo once input a b x y = by (long_or_not most_bytes (length input))
  where
    by : (most_bytes < length input) ⊎ (length input ≤ most_bytes) → a ≡ b
    by (inl long) = x.too_long long ∙ sym (y.too_long long)
    by (inr fits) = once input a b (x.read fits) (y.read fits)

-- a text or a refusal, as a line that is accepted
one_accepted : (IsSo : Result (List ℕ) ServeFault → Type 0) →
    ((a b : Result (List ℕ) ServeFault) → IsSo a → IsSo b → a ≡ b) → (a b : Result LineView ServeFault) →
    IsAccepted IsSo a → IsAccepted IsSo b → a ≡ b
one_accepted IsSo once (Ok a) (Ok b) x y = ap Ok
    (same_line a b (ok_inj (once (Ok a.text) (Ok b.text) x.0 y.0)) (x.1 ∙ sym y.1))
one_accepted IsSo once (Ok a) (Err e) x y = absurd (ok_not_err (once (Ok a.text) (Err e) x.0 y))
one_accepted IsSo once (Err d) (Ok b) x y = absurd (ok_not_err (once (Ok b.text) (Err d) y.0 x))
one_accepted IsSo once (Err d) (Err e) x y = ap Err (err_inj (once (Err d) (Err e) x y))

one_to_replay : IsOnce AnswersReplay
one_to_replay input a b x y = one_reading (replay_of input) a b (of_lock_in input) x y

one_to_run : IsOnce AnswersRun
one_to_run input a b x y = x ∙ sym y

one_to_reported_run : IsOnce AnswersReportedRun
one_to_reported_run input a b x y = x ∙ sym y

one_to_stamp : (layout : Layout) (n : ℕ) (a b : Result (List ℕ) ServeFault) → IsStampAnswer layout n a →
    IsStampAnswer layout n b → a ≡ b
one_to_stamp layout n a b x y =
    let same = one_kind layout n x.text.kind y.text.kind x.text.has y.text.has in
    x.is ∙ ap Ok (x.text.says ∙ ap kind_text same ∙ sym y.text.says) ∙ sym y.is

one_check : (r : Result Recorded ReadError) (a b : Result LineView ServeFault) → IsCheckAnswer r a →
    IsCheckAnswer r b → a ≡ b
one_check (Ok h) (Ok a) (Ok b) x y =
    let same = one_verdict h x.found y.found x.is y.is in
    ap Ok (same_line a b (x.says ∙ ap judgement_text same ∙ sym y.says)
    (x.verdict ∙ ap verdict_of same ∙ sym y.verdict))
one_check (Ok h) (Ok a) (Err e) x y = absurd y
one_check (Ok h) (Err e) b x y = absurd x
one_check (Err e) a b x y = x ∙ sym y

one_to_check : IsOnce AnswersCheck
one_to_check input a b x y = one_check (recorded_of input) a b x y

one_migration : (r : Result Recorded ReadError) (a b : Result (List ℕ) ServeFault) → IsMigrateAnswer r a →
    IsMigrateAnswer r b → a ≡ b
one_migration (Ok h) (Ok a) (Ok b) x y = ap Ok (x.1 ∙ sym y.1)
one_migration (Ok h) (Ok a) (Err e) x y = absurd (migrates_or_not h y.entry x.0 y.foreign)
one_migration (Ok h) (Err e) (Ok b) x y = absurd (migrates_or_not h x.entry y.0 x.foreign)
one_migration (Ok h) (Err d) (Err e) x y = ap Err
    (x.named ∙ ap BadReply (one_bad_reply h x.entry y.entry x.foreign y.foreign) ∙ sym y.named)
one_migration (Err e) a b x y = x ∙ sym y

one_to_migrate : IsOnce AnswersMigrate
one_to_migrate input a b x y = one_migration (recorded_of input) a b x y

one_to_order : (o : Order) → IsOnce (AnswersOrder o)
one_to_order order.Replay input a b x y = one_accepted (AnswersReplay input) (one_to_replay input) a b x y
one_to_order order.Run input a b x y = one_accepted (AnswersRun input) (one_to_run input) a b x y
one_to_order order.RunReported input a b x y =
    one_accepted (AnswersReportedRun input) (one_to_reported_run input) a b x y
one_to_order order.Check input a b x y = one_to_check input a b x y
one_to_order order.Migrate input a b x y = one_accepted (AnswersMigrate input) (one_to_migrate input) a b x y
one_to_order (order.Stamp n) input a b x y = one_accepted (IsStampAnswer One n) (one_to_stamp One n) a b x y
one_to_order (order.StampIn layout n) input a b x y =
    one_accepted (IsStampAnswer layout n) (one_to_stamp layout n) a b x y

pub one_answer : (o : Order) (input : List ℕ) (a b : Result LineView ServeFault) → IsOrderAnswer o input a →
    IsOrderAnswer o input b → a ≡ b
one_answer o input a b x y = one_to_input (AnswersOrder o) (one_to_order o) input a b x y

-- so what is an answer is the only one
pub alone : (o : Order) (input : List ℕ) (answer : Result LineView ServeFault) → IsOrderAnswer o input answer →
    AnswersAlone o input answer
alone o input answer is a = (λ x. one_answer o input a answer x is, λ e. subst (IsOrderAnswer o input) (sym e) is)
