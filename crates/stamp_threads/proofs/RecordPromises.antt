-- What a pass learns by the steps of a call of a record, put together.
use Rattle.std.proofs.Common.{◌≡◌, ◌≢◌, ℕ, ◌+◌, ◌<◌, ◌≤◌, ◌%◌, ◌^◌, eqb, Bool, true, false}
use Rattle.std.proofs.Common.{if◌then◌else◌, MatchBool, List, [], refl, ap, sym, ◌∙◌, subst, length, true≢false}
use Rattle.std.proofs.Common.{◌∷◌, ◌++◌, append_assoc, arith, eq-eqb, ne_eqb}
use Rattle.stamp_core.specs.declared.call.Call.{Call}
use Rattle.stamp_core.specs.declared.call.Call.TheVariants.{Get, Put, PutIf}
use Rattle.stamp_core.specs.declared.reply.Reply.{Reply}
use Rattle.stamp_core.specs.declared.reply.Reply.TheVariants.{Content, Done, Yes, No}
use Rattle.stamp_threads.specs.declared.record_view.RecordPhase.{RecordPhase}
use Rattle.stamp_core.specs.Limits.{AreInRange}
use Rattle.stamp_threads.specs.declared.record_view.RecordShape.{RecordShape}
use Rattle.stamp_threads.specs.declared.record_view.RecordPhase.TheVariants.{Idle, Loading, Writing}
use Rattle.stamp_threads.specs.declared.record_view.RecordEvent.TheVariants.{Mark, Called}
use Rattle.stamp_threads.specs.PassView.{entry, HasFound}
use Rattle.stamp_threads.specs.inner.PassView.{knowing, finding}
use Rattle.stamp_threads.specs.Seats.{alone}
use Rattle.stamp_threads.specs.inner.Seats.{both}
use Rattle.stamp_threads.specs.RecordWord.{writer_unit, word_with}
use Rattle.stamp_threads.specs.inner.RecordWord.{version_unit}
use Rattle.stamp_threads.specs.RecordLog.{RecordLog, put_in, puts, is_locked, content_in}
use Rattle.stamp_threads.specs.RecordPass.{RecordPassView, LeavesWord, first_of}
use Rattle.stamp_threads.specs.inner.RecordPass.{Seated, second_of}
use Rattle.stamp_threads.specs.inner.RecordRule.{with_phase, starting_to_load, acquiring, LoadedForPut, Acquired}
use Rattle.stamp_threads.specs.inner.RecordRule.{LoadedForGet, Released, Confirmed, Saw, Overtaken, word_to_confirm}
use Rattle.stamp_threads.specs.inner.RecordRule.{Met}
use Rattle.stamp_threads.specs.RecordCall.{MadeOnRecord, KnowsWord, WasBusy, WasLost, WasSpent}
use Rattle.stamp_threads.specs.RecordCall.{words_found, last_found}
use Rattle.stamp_threads.specs.RecordCall.{RecordPassesMet, HasSeen, StandsAtWord, NoneLeft, WasOvertaken}
use Rattle.stamp_threads.proofs.Beginnings.{begins_further, begins_more}
use Rattle.stamp_threads.proofs.SamePass.{no_call_by}
use Rattle.stamp_threads.proofs.RecordLogs.{puts_longer, puts_marked, content_marked, content_same}
use Rattle.stamp_threads.proofs.RecordWords.{held_test, writes_in, puts_of, held_is, same_word, word_small, word_large}
use Rattle.stamp_threads.proofs.RecordWords.{free_of}

-- two seats after a meeting
pub have_met : (shape : RecordShape) (v u : RecordPassView) (me : Seated)
    (v' u' : RecordPassView) → Met shape v u me → v' ≡ first_of me.0 → u' ≡ second_of me.0 →
    RecordPassesMet shape.width v u v' u'
have_met shape v u me v' u' m first second =
    let a : v' ≡ knowing v m.log = first ∙ ap (λ (n : Seated). first_of n.0) m.after in
    let b : u' ≡ knowing u m.log = second ∙ ap (λ (n : Seated). second_of n.0) m.after in
    subst (λ (p : RecordPassView × RecordPassView). RecordPassesMet shape.width v u p.0 p.1)
    (λ i. (sym a i, sym b i)) (record {
      met = record {
        first_begins = m.first_begins;
        second_begins = m.second_begins;
        alike = refl;
        apart = m.apart;
        no_calls = (no_call_by v _ refl refl refl, no_call_by u _ refl refl refl);
        finds = (refl, refl);
      };
      idle = (refl, refl);
      all_consistent = (m.first_consistent, m.second_consistent);
    })

pub still_both : (shape : RecordShape) (v u : RecordPassView) (me : Seated) → Met shape v u me →
    me ≡ both (first_of me.0) (second_of me.0)
still_both shape v u me m =
    m.after ∙ (λ i. both (first_of (sym m.after i).0) (second_of (sym m.after i).0))

pub still_idle : (shape : RecordShape) (v u : RecordPassView) (me : Seated) →
    Met shape v u me → v.phase ≡ Idle → u.phase ≡ Idle →
    ((first_of me.0).phase ≡ Idle) × ((second_of me.0).phase ≡ Idle)
still_idle shape v u me m a b = (
  ap (λ (n : Seated). (first_of n.0).phase) m.after ∙ a,
  ap (λ (n : Seated). (second_of n.0).phase) m.after ∙ b,
)

module _ (shape : RecordShape) (v : RecordPassView) (found : ℕ) where
  -- nobody has write mode where the test says so
  is_free : (log : RecordLog) → LeavesWord shape v found log →
      eqb (found % version_unit shape.limits.layout) (writer_unit shape.limits.layout) ≡ false →
      is_locked log ≡ false
  is_free log left test =
      sym (held_test shape.limits.layout (is_locked log) found (puts log) left.word_is) ∙ test

  free_word : (log : RecordLog) → LeavesWord shape v found log → is_locked log ≡ false →
      found ≡ word_with shape.limits.layout (puts log) false
  free_word log left free = left.word_is ∙
      same_word shape.limits.layout (puts log) (puts log) (is_locked log) false refl free

  -- a put goes on
  pub put_goes_on : (me : Seated) (t : LoadedForPut shape v found me) →
      eqb (found % version_unit shape.limits.layout) (writer_unit shape.limits.layout) ≡ false →
      writes_in shape.limits.layout found < shape.limits.versions →
      (is_locked t.log ≡ false) × (found ≡ word_with shape.limits.layout (puts t.log) false) ×
      (puts t.log < shape.limits.versions)
  put_goes_on me t test less =
      let free = is_free t.log t.left test in
      let p = puts_of shape.limits.layout (is_locked t.log) found (puts t.log) t.left.word_is free
      in
      (free, free_word t.log t.left free, omega arith)

  pub acquired_word : (me : Seated) (xs : List ℕ) (t : Acquired shape v found me xs) →
      eqb (found % version_unit shape.limits.layout) (writer_unit shape.limits.layout) ≡ false →
      found + writer_unit shape.limits.layout ≡ word_with shape.limits.layout (puts t.log) true
  acquired_word me xs t test =
      let is = free_word t.log t.left (is_free t.log t.left test) in
      ap (λ (n : ℕ). n + writer_unit shape.limits.layout) is ∙
      sym (held_is shape.limits.layout (puts t.log))

  pub found_large : (log : RecordLog) → LeavesWord shape v found log → version_unit shape.limits.layout ≤ found
  found_large log left = word_large shape.limits.layout (is_locked log) found (puts log) left.word_is

  pub found_small : (log : RecordLog) → LeavesWord shape v found log →
      AreInRange shape.limits → found < 2 ^ 63
  found_small log left range =
      word_small shape.limits (is_locked log) found (puts log) range left.word_is left.few

  -- and with write mode held it is small, too
  pub held_small : (log : RecordLog) → LeavesWord shape v found log → AreInRange shape.limits →
      eqb (found % version_unit shape.limits.layout) (writer_unit shape.limits.layout) ≡ false →
      found + writer_unit shape.limits.layout < 2 ^ 63
  held_small log left range test =
      word_small shape.limits true _ (puts log) range
      (ap (λ (n : ℕ). n + writer_unit shape.limits.layout) (free_word log left (is_free log left test)) ∙
      sym (held_is shape.limits.layout (puts log))) left.few

  -- a get goes on
  pub get_goes_on : (me : Seated) (t : LoadedForGet shape v found me) →
      eqb (found % version_unit shape.limits.layout) (writer_unit shape.limits.layout) ≡ false →
      (first_of me.0).phase ≡ Loading (puts t.log) []
  get_goes_on me t test =
      let free = is_free t.log t.left test in
      ap (λ (m : Seated). (first_of m.0).phase) t.after ∙
      ap (λ (b : Bool). (if b then knowing (finding v found) t.log
      else starting_to_load (finding v found) t.log).phase) free

abbrev HeldTest : RecordShape → ℕ → Bool → Type 0
HeldTest shape word b =
    eqb (word % version_unit shape.limits.layout) (writer_unit shape.limits.layout) ≡ b

-- refusals, and a get that is made; v is the pass before the call
module _ (shape : RecordShape) (v : RecordPassView) (loaded : ℕ) where
  knows_by_load : (me : Seated) → LoadedForPut shape v loaded me → v.phase ≡ Idle →
      KnowsWord shape v loaded (first_of me.0)
  knows_by_load me t idle =
      subst (λ (m : Seated). KnowsWord shape v loaded (first_of m.0)) (sym t.after) (record {
        left = t.left;
        others = t.others;
        no_call = no_call_by v _ refl refl refl;
        idle = idle;
        consistent = t.consistent;
      })

  locked_of : (log : RecordLog) → LeavesWord shape v loaded log → HeldTest shape loaded true →
      is_locked log ≡ true
  locked_of log left test =
      sym (held_test shape.limits.layout (is_locked log) loaded (puts log) left.word_is) ∙ test

  put_busy : (me : Seated) → LoadedForPut shape v loaded me → v.phase ≡ Idle →
      HeldTest shape loaded true → WasBusy shape v loaded (first_of me.0)
  put_busy me t idle test = record {
    has_found = ap (λ (m : Seated). (first_of m.0).found) t.after;
    knows = knows_by_load me t idle;
    locked = ap (λ (m : Seated). is_locked (first_of m.0).known) t.after ∙
        locked_of t.log t.left test;
  }

  put_spent : (me : Seated) → LoadedForPut shape v loaded me → v.phase ≡ Idle →
      HeldTest shape loaded false →
      shape.limits.versions ≤ writes_in shape.limits.layout loaded →
      WasSpent shape v loaded (first_of me.0)
  put_spent me t idle test more =
      let free = is_free shape v loaded t.log t.left test in
      let p = puts_of shape.limits.layout (is_locked t.log) loaded (puts t.log) t.left.word_is free
      in
      let few = t.left.few in
      let all : puts t.log ≡ shape.limits.versions = omega arith in
      record {
        has_found = ap (λ (m : Seated). (first_of m.0).found) t.after;
        knows = knows_by_load me t idle;
        free = ap (λ (m : Seated). is_locked (first_of m.0).known) t.after ∙ free;
        all = ap (λ (m : Seated). puts (first_of m.0).known) t.after ∙ all;
        last = free_word shape v loaded t.log t.left free ∙
            ap (λ (n : ℕ). word_with shape.limits.layout n false) all;
      }

  -- the pass that knew the first history has come to know a longer one
  lost_after : (first : RecordLog) (phase : RecordPhase) (found : ℕ) (w : RecordPassView) →
      LeavesWord shape v loaded first → is_locked first ≡ false → found ≢ loaded →
      KnowsWord shape (with_phase (knowing (finding v loaded) first) phase) found w →
      HasFound (finding v loaded) (found ∷ []) w → WasLost shape v loaded found w
  lost_after first phase found w left free differ knows has_found = record {
    differ = λ e. differ (sym e);
    has_found = has_found ∙ append_assoc v.found (loaded ∷ []) (found ∷ []);
    first = first;
    at_first = left;
    free = free;
    longer = knows.left.begins;
    knows = record {
      left = record {
        begins = begins_further v.known first w.known left.begins knows.left.begins;
        legal = knows.left.legal;
        word_is = knows.left.word_is;
        few = knows.left.few;
      };
      others = knows.others;
      no_call = no_call_by v w knows.no_call.same.name knows.no_call.same.splits knows.no_call.own;
      idle = knows.idle;
      consistent = knows.consistent;
    };
  }

  get_busy : (me : Seated) → LoadedForGet shape v loaded me → v.phase ≡ Idle →
      HeldTest shape loaded true → WasBusy shape v loaded (first_of me.0)
  get_busy me t idle test =
      let locked = locked_of t.log t.left test in
      let after = t.after ∙
      ap (λ (b : Bool). alone (if b then knowing (finding v loaded) t.log
      else starting_to_load (finding v loaded) t.log)) locked in
      put_busy me (record {
        log = t.log;
        left = t.left;
        after = after;
        others = t.others;
        consistent = t.consistent;
      }) idle test

  -- what the pass knows when it has loaded the words
  module _ (P : List ℕ → Type 0) (me me2 : Seated) (words : List ℕ) (t : LoadedForGet shape v loaded me)
      (test : HeldTest shape loaded false)
      (loads : (puts_before : ℕ) → (first_of me.0).phase ≡ Loading puts_before [] →
      me2 ≡ alone (with_phase (first_of me.0) (Loading puts_before words))) where
    free_now : is_locked t.log ≡ false
    free_now = is_free shape v loaded t.log t.left test

    abbrev reads : RecordPassView
    reads = with_phase (knowing (finding v loaded) t.log) (Loading (puts t.log) words)

    opens : me ≡ alone (starting_to_load (finding v loaded) t.log)
    opens = t.after ∙ ap (λ (b : Bool). alone (if b then knowing (finding v loaded) t.log
        else starting_to_load (finding v loaded) t.log)) free_now

    reads_is : first_of me2.0 ≡ reads
    reads_is = ap (λ (m : Seated). first_of m.0)
        (loads (puts t.log) (ap (λ (m : Seated). (first_of m.0).phase) opens) ∙
        ap (λ (m : Seated). alone (with_phase (first_of m.0) (Loading (puts t.log) words))) opens)

    -- where the last load finds the word again, it tells this
    module _ (Told : RecordPassView → ℕ → Seated → Type 0) where
      abbrev Learned : ℕ → Seated → RecordPassView → Type 0
      Learned found me3 u = MatchBool (eqb found (word_to_confirm shape.limits.layout u.phase))
          (Told u found me3) (Overtaken shape u found me3)

      abbrev LearnedBy : ℕ → Seated → Bool → Type 0
      LearnedBy found me3 b = MatchBool b (Told reads found me3) (Overtaken shape reads found me3)

      learned_by : (found : ℕ) (me3 : Seated) (b : Bool) → eqb found loaded ≡ b →
          Learned found me3 (first_of me2.0) → LearnedBy found me3 b
      learned_by found me3 b is learned =
          subst (LearnedBy found me3)
          (ap (λ (n : ℕ). eqb found n) (sym (free_word shape v loaded t.log t.left free_now)) ∙ is)
          (subst (Learned found me3) reads_is learned)

    abbrev TellsGot : RecordPassView → ℕ → Seated → Type 0
    TellsGot u found me3 = Confirmed shape u found me3 P words Get (Content words)

    abbrev TellsSeen : RecordPassView → ℕ → Seated → Type 0
    TellsSeen u found me3 = Saw shape u found me3 P words

    get_lost : (Told : RecordPassView → ℕ → Seated → Type 0) (found : ℕ) (me3 : Seated) →
        Learned Told found me3 (first_of me2.0) → found ≢ loaded →
        WasLost shape v loaded found (first_of me3.0)
    get_lost Told found me3 learned differ =
        let o : Overtaken shape reads found me3 =
        learned_by Told found me3 false (ne_eqb found loaded differ) learned in
        subst (λ (m : Seated). WasLost shape v loaded found (first_of m.0)) (sym o.after)
        (lost_after t.log (Loading (puts t.log) words) found _ t.left free_now differ (record {
          left = o.left;
          others = o.others;
          no_call = no_call_by _ _ refl refl refl;
          idle = refl;
          consistent = o.consistent;
        }) refl)

    -- a call that puts nothing is made
    module _ (call : Call) (reply : Reply)
        (two : words_found shape.limits.layout call reply loaded ≡ loaded ∷ loaded ∷ [])
        (last : last_found shape.limits.layout call reply loaded ≡ loaded)
        (none : put_in (Called call reply) ≡ 0) where
      abbrev TellsMade : RecordPassView → ℕ → Seated → Type 0
      TellsMade u found me3 = Confirmed shape u found me3 P words call reply

      made : (found : ℕ) (me3 : Seated) → Learned TellsMade found me3 (first_of me2.0) → found ≡ loaded →
          MadeOnRecord shape call reply v (first_of me3.0)
      made found me3 learned same =
          let o : TellsMade reads found me3 =
          learned_by TellsMade found me3 true (eq-eqb found loaded same) learned in
          subst (λ (m : Seated). MadeOnRecord shape call reply v (first_of m.0)) (sym o.after)
          (record {
            log = o.log;
            first = t.log;
            at_first = t.left;
            longer = o.left.begins;
            left = last ∙ (sym same ∙ o.left.word_is);
            replies = o.replies;
            known = refl;
            own = refl;
            same = record { name = refl; splits = refl };
            idle = refl;
            few = (let p = puts_longer o.log v.name (Called call reply) in
                let l = o.left.few in omega (arith, p, none));
            consistent = o.consistent;
            word = loaded;
            has_found = append_assoc v.found (loaded ∷ []) (found ∷ []) ∙
                (ap (λ (n : ℕ). v.found ++ loaded ∷ n ∷ []) same ∙
                ap (λ (ns : List ℕ). v.found ++ ns) (sym two));
          })

    get_rule : (found : ℕ) (me3 : Seated) → Learned TellsGot found me3 (first_of me2.0) → found ≡ loaded →
        P words
    get_rule found me3 learned same =
        let o : TellsGot reads found me3 =
        learned_by TellsGot found me3 true (eq-eqb found loaded same) learned in
        o.rule

    has_seen : (found : ℕ) (me3 : Seated) → Learned TellsSeen found me3 (first_of me2.0) → found ≡ loaded →
        length words ≡ shape.width → HasSeen P shape loaded words v (first_of me3.0)
    has_seen found me3 learned same long =
        let o : TellsSeen reads found me3 =
        learned_by TellsSeen found me3 true (eq-eqb found loaded same) learned in
        subst (λ (m : Seated). HasSeen P shape loaded words v (first_of m.0)) (sym o.after)
        (record {
          has_found = append_assoc v.found (loaded ∷ []) (found ∷ []) ∙
              ap (λ (n : ℕ). v.found ++ loaded ∷ n ∷ []) same;
          knows = record {
            left = record {
              begins = begins_further v.known t.log o.log t.left.begins o.left.begins;
              legal = o.left.legal;
              word_is = sym same ∙ o.left.word_is;
              few = o.left.few;
            };
            others = λ l. absurd (true≢false (sym l ∙ o.free));
            no_call = no_call_by _ _ refl refl refl;
            idle = refl;
            consistent = o.consistent;
          };
          free = o.free;
          content = o.content;
          long = long;
          rule = o.rule;
        })

  put_made : (me me2 me3 me4 : Seated) (words : List ℕ) (found held : ℕ)
      (t : LoadedForPut shape v loaded me) (got : Acquired shape (first_of me.0) found me2 words) →
      found ≡ loaded →
      me3 ≡ alone (with_phase (first_of me2.0) (Writing (puts got.log) words shape.width)) →
      held ≡ loaded + writer_unit shape.limits.layout →
      Released shape (first_of me3.0) held me4 (Put words) Done →
      MadeOnRecord shape (Put words) Done v (first_of me4.0)
  put_made me me2 me3 me4 words found held t got hit stored up learned =
      let u : RecordPassView = knowing (finding v loaded) t.log in
      let is : first_of me.0 ≡ u = ap (λ (m : Seated). first_of m.0) t.after in
      let a : Acquired shape u found me2 words =
      subst (λ (x : RecordPassView). Acquired shape x found me2 words) is got in
      let x : RecordPassView = with_phase (acquiring (finding u found) a.log words)
      (Writing (puts got.log) words shape.width) in
      let x_is : first_of me3.0 ≡ x = ap (λ (m : Seated). first_of m.0) stored ∙
      ap (λ (m : Seated). with_phase (first_of m.0) (Writing (puts got.log) words shape.width))
      a.after in
      let o : Released shape x held me4 (Put words) Done =
      subst (λ (y : RecordPassView). Released shape y held me4 (Put words) Done) x_is learned in
      let mark = entry v.name Mark in
      subst (λ (m : Seated). MadeOnRecord shape (Put words) Done v (first_of m.0)) (sym o.after) (record {
        word = loaded;
        has_found = ap (λ (l : List ℕ). l ++ held ∷ [])
            (append_assoc v.found (loaded ∷ []) (found ∷ [])) ∙
            (append_assoc v.found (loaded ∷ found ∷ []) (held ∷ []) ∙
            (λ i. v.found ++ loaded ∷ hit i ∷ up i ∷ []));
        first = a.log;
        at_first = record {
          begins = begins_further v.known t.log a.log t.left.begins a.left.begins;
          legal = a.left.legal;
          word_is = sym hit ∙ a.left.word_is;
          few = a.left.few;
        };
        log = o.log;
        longer = begins_further a.log (a.log ++ mark ∷ []) o.log (begins_more a.log (mark ∷ [])) o.begins;
        left = sym up ∙ o.word_is;
        replies = refl;
        known = refl;
        own = refl;
        same = record { name = refl; splits = refl };
        idle = refl;
        few = o.few;
        consistent = o.consistent;
      })

  put_lost : (me : Seated) (t : LoadedForPut shape v loaded me) → v.phase ≡ Idle →
      HeldTest shape loaded false → (found : ℕ) (me2 : Seated) →
      LoadedForPut shape (first_of me.0) found me2 → found ≢ loaded →
      WasLost shape v loaded found (first_of me2.0)
  put_lost me t idle test found me2 learned differ =
      let u : RecordPassView = knowing (finding v loaded) t.log in
      let is : first_of me.0 ≡ u = ap (λ (m : Seated). first_of m.0) t.after in
      let o : LoadedForPut shape u found me2 =
      subst (λ (x : RecordPassView). LoadedForPut shape x found me2) is learned in
      subst (λ (m : Seated). WasLost shape v loaded found (first_of m.0)) (sym o.after)
      (lost_after t.log v.phase found _ t.left (is_free shape v loaded t.log t.left test) differ
      (record {
        left = o.left;
        others = o.others;
        no_call = no_call_by _ _ refl refl refl;
        idle = idle;
        consistent = o.consistent;
      }) refl)

-- the same where the code has a copy of the table's key
module _ (key shape : RecordShape) (same : key ≡ shape) (v : RecordPassView) (loaded : ℕ) where
  pub put_busy_of : (me : Seated) → LoadedForPut key v loaded me → v.phase ≡ Idle →
      HeldTest shape loaded true → WasBusy shape v loaded (first_of me.0)
  put_busy_of me t idle =
      subst (λ (z : RecordShape). HeldTest z loaded true → WasBusy z v loaded (first_of me.0)) same
      (put_busy key v loaded me t idle)

  pub put_spent_of : (me : Seated) → LoadedForPut key v loaded me → v.phase ≡ Idle →
      HeldTest shape loaded false →
      shape.limits.versions ≤ writes_in shape.limits.layout loaded →
      WasSpent shape v loaded (first_of me.0)
  put_spent_of me t idle =
      subst (λ (z : RecordShape). HeldTest z loaded false →
      z.limits.versions ≤ writes_in z.limits.layout loaded →
      WasSpent z v loaded (first_of me.0)) same
      (put_spent key v loaded me t idle)

  pub put_lost_of : (me : Seated) → LoadedForPut key v loaded me → v.phase ≡ Idle →
      HeldTest shape loaded false → (found : ℕ) (me2 : Seated) →
      LoadedForPut key (first_of me.0) found me2 → found ≢ loaded →
      WasLost shape v loaded found (first_of me2.0)
  put_lost_of me t idle test found me2 learned differ =
      subst (λ (z : RecordShape). HeldTest z loaded false →
      WasLost z v loaded found (first_of me2.0)) same
      (λ f. put_lost key v loaded me t idle f found me2 learned differ) test

  pub put_made_of : (me me2 me3 me4 : Seated) (words : List ℕ) (found held : ℕ)
      (t : LoadedForPut key v loaded me) (got : Acquired key (first_of me.0) found me2 words) →
      found ≡ loaded →
      me3 ≡ alone (with_phase (first_of me2.0) (Writing (puts got.log) words key.width)) →
      held ≡ loaded + writer_unit shape.limits.layout →
      Released key (first_of me3.0) held me4 (Put words) Done →
      MadeOnRecord shape (Put words) Done v (first_of me4.0)
  put_made_of me me2 me3 me4 words found held t got hit stored up learned =
      subst (λ (z : RecordShape). held ≡ loaded + writer_unit z.limits.layout →
      MadeOnRecord z (Put words) Done v (first_of me4.0)) same
      (λ is. put_made key v loaded me me2 me3 me4 words found held t got hit stored is learned) up

  pub get_busy_of : (me : Seated) → LoadedForGet key v loaded me → v.phase ≡ Idle →
      HeldTest shape loaded true → WasBusy shape v loaded (first_of me.0)
  get_busy_of me t idle =
      subst (λ (z : RecordShape). HeldTest z loaded true → WasBusy z v loaded (first_of me.0)) same
      (get_busy key v loaded me t idle)

  module _ (P : List ℕ → Type 0) (me me2 : Seated) (words : List ℕ) (t : LoadedForGet key v loaded me)
      (test : HeldTest shape loaded false)
      (loads : (puts_before : ℕ) → (first_of me.0).phase ≡ Loading puts_before [] →
      me2 ≡ alone (with_phase (first_of me.0) (Loading puts_before words))) (found : ℕ)
      (me3 : Seated)
      (learned : MatchBool
      (eqb found (word_to_confirm key.limits.layout (first_of me2.0).phase))
      (Confirmed key (first_of me2.0) found me3 P words Get (Content words))
      (Overtaken key (first_of me2.0) found me3)) where
    pub get_lost_of : found ≢ loaded → WasLost shape v loaded found (first_of me3.0)
    get_lost_of differ =
        subst (λ (z : RecordShape). HeldTest z loaded false →
        WasLost z v loaded found (first_of me3.0)) same
        (λ f. get_lost key v loaded P me me2 words t f loads
        (λ u n m. Confirmed key u n m P words Get (Content words)) found me3 learned differ) test

    pub get_made_of : found ≡ loaded → MadeOnRecord shape Get (Content words) v (first_of me3.0)
    get_made_of hit =
        subst (λ (z : RecordShape). HeldTest z loaded false →
        MadeOnRecord z Get (Content words) v (first_of me3.0)) same
        (λ f. made key v loaded P me me2 words t f loads Get (Content words) refl refl refl found me3 learned
        hit) test

    pub get_rule_of : found ≡ loaded → P words
    get_rule_of hit =
        subst (λ (z : RecordShape). HeldTest z loaded false → P words) same
        (λ f. get_rule key v loaded P me me2 words t f loads found me3 learned hit) test

  module _ (P : List ℕ → Type 0) (me me2 : Seated) (words : List ℕ) (t : LoadedForGet key v loaded me)
      (test : HeldTest shape loaded false)
      (loads : (puts_before : ℕ) → (first_of me.0).phase ≡ Loading puts_before [] →
      me2 ≡ alone (with_phase (first_of me.0) (Loading puts_before words))) (found : ℕ)
      (me3 : Seated)
      (learned : MatchBool
      (eqb found (word_to_confirm key.limits.layout (first_of me2.0).phase))
      (Saw key (first_of me2.0) found me3 P words)
      (Overtaken key (first_of me2.0) found me3)) where
    pub see_lost_of : found ≢ loaded → WasLost shape v loaded found (first_of me3.0)
    see_lost_of differ =
        subst (λ (z : RecordShape). HeldTest z loaded false →
        WasLost z v loaded found (first_of me3.0)) same
        (λ f. get_lost key v loaded P me me2 words t f loads
        (λ u n m. Saw key u n m P words) found me3 learned differ) test

    pub has_seen_of : found ≡ loaded → length words ≡ shape.width →
        HasSeen P shape loaded words v (first_of me3.0)
    has_seen_of hit =
        subst (λ (z : RecordShape). HeldTest z loaded false → length words ≡ z.width →
        HasSeen P z loaded words v (first_of me3.0)) same
        (λ f long. has_seen key v loaded P me me2 words t f loads found me3 learned hit long) test

-- a put_if of other words than the record's
module _ (key shape : RecordShape) (same : key ≡ shape) (v : RecordPassView) (loaded : ℕ)
    (P : List ℕ → Type 0) (me me2 : Seated) (words expected wanted : List ℕ)
    (t : LoadedForGet key v loaded me) (test : HeldTest shape loaded false)
    (loads : (puts_before : ℕ) → (first_of me.0).phase ≡ Loading puts_before [] →
    me2 ≡ alone (with_phase (first_of me.0) (Loading puts_before words))) (found : ℕ) (me3 : Seated)
    (learned : MatchBool (eqb found (word_to_confirm key.limits.layout (first_of me2.0).phase))
    (Confirmed key (first_of me2.0) found me3 P words (PutIf expected wanted) No)
    (Overtaken key (first_of me2.0) found me3)) where
  pub deny_lost_of : found ≢ loaded → WasLost shape v loaded found (first_of me3.0)
  deny_lost_of differ =
      subst (λ (z : RecordShape). HeldTest z loaded false → WasLost z v loaded found (first_of me3.0)) same
      (λ f. get_lost key v loaded P me me2 words t f loads
      (λ u n m. Confirmed key u n m P words (PutIf expected wanted) No) found me3 learned differ) test

  pub denied_of : found ≡ loaded → MadeOnRecord shape (PutIf expected wanted) No v (first_of me3.0)
  denied_of hit =
      subst (λ (z : RecordShape). HeldTest z loaded false →
      MadeOnRecord z (PutIf expected wanted) No v (first_of me3.0)) same
      (λ f. made key v loaded P me me2 words t f loads (PutIf expected wanted) No refl refl refl found me3
      learned hit) test

-- words are put over those of the history that the pass knows
module _ (shape : RecordShape) (v : RecordPassView) (word : ℕ) (at : StandsAtWord shape word v) where
  pub stands_free : word ≡ word_with shape.limits.layout (puts v.known) false
  stands_free = at.word_is ∙
      same_word shape.limits.layout (puts v.known) (puts v.known) (is_locked v.known) false refl at.free

  pub stands_large : version_unit shape.limits.layout ≤ word
  stands_large = word_large shape.limits.layout (is_locked v.known) word (puts v.known) at.word_is

  pub stands_small : AreInRange shape.limits → word < 2 ^ 63
  stands_small range =
      word_small shape.limits (is_locked v.known) word (puts v.known) range at.word_is at.few

  pub stands_held_small : AreInRange shape.limits → word + writer_unit shape.limits.layout < 2 ^ 63
  stands_held_small range = word_small shape.limits true _ (puts v.known) range
      (ap (λ (n : ℕ). n + writer_unit shape.limits.layout) stands_free ∙
      sym (held_is shape.limits.layout (puts v.known))) at.few

  stands_puts : writes_in shape.limits.layout word ≡ puts v.known
  stands_puts = puts_of shape.limits.layout (is_locked v.known) word (puts v.known) at.word_is at.free

  pub goes_over : writes_in shape.limits.layout word < shape.limits.versions →
      puts v.known < shape.limits.versions
  goes_over less = (let p = stands_puts in omega arith)

  pub none_left : shape.limits.versions ≤ writes_in shape.limits.layout word → NoneLeft shape word v v
  none_left more =
      let p = stands_puts in
      let few = at.few in
      let all : puts v.known ≡ shape.limits.versions = omega arith in
      record {
        same = refl;
        all = all;
        last = stands_free ∙ ap (λ (n : ℕ). word_with shape.limits.layout n false) all;
      }

  pub overtaken : (found : ℕ) (me2 : Seated) → LoadedForPut shape v found me2 → v.phase ≡ Idle → found ≢ word →
      WasOvertaken shape v word found (first_of me2.0)
  overtaken found me2 learned idle differ =
      subst (λ (m : Seated). WasOvertaken shape v word found (first_of m.0)) (sym learned.after) (record {
        differ = λ e. differ (sym e);
        has_found = refl;
        knows = record {
          left = learned.left;
          others = learned.others;
          no_call = no_call_by _ _ refl refl refl;
          idle = idle;
          consistent = learned.consistent;
        };
      })

  -- the exchange found the word, so nothing was put since
  module _ (found : ℕ) (me2 : Seated) (words : List ℕ) (got : Acquired shape v found me2 words)
      (hit : found ≡ word) where
    unchanged : (is_locked got.log ≡ false) × (puts got.log ≡ puts v.known)
    unchanged = free_of shape.limits.layout (is_locked got.log) (puts got.log) (puts v.known)
        (sym stands_free ∙ (sym hit ∙ got.left.word_is))

    pub held_word : word + writer_unit shape.limits.layout ≡
        word_with shape.limits.layout (puts got.log) true
    held_word = ap (λ (n : ℕ). n + writer_unit shape.limits.layout)
        (stands_free ∙ ap (λ (n : ℕ). word_with shape.limits.layout n false) (sym unchanged.1)) ∙
        sym (held_is shape.limits.layout (puts got.log))

    abbrev writer : RecordPassView
    writer = with_phase (acquiring (finding v found) got.log words)
        (Writing (puts got.log) words shape.width)

    module _ (me3 : Seated)
        (stored : me3 ≡ alone (with_phase (first_of me2.0) (Writing (puts got.log) words shape.width)))
      where
        writer_is : first_of me3.0 ≡ writer
        writer_is = ap (λ (m : Seated). first_of m.0) stored ∙
            ap (λ (m : Seated). with_phase (first_of m.0) (Writing (puts got.log) words shape.width))
            got.after

        pub writer_puts : puts (first_of me3.0).known ≡ puts got.log
        writer_puts = ap (λ (u : RecordPassView). puts u.known) writer_is ∙ puts_marked got.log v.name

        content_is : content_in shape.width (first_of me3.0).known ≡ content_in shape.width v.known
        content_is = ap (λ (u : RecordPassView). content_in shape.width u.known) writer_is ∙
            (content_marked shape.width got.log v.name ∙
            content_same shape.width v.known got.log got.left.begins unchanged.1)

        pub replaced : (held : ℕ) (me4 : Seated) → held ≡ word + writer_unit shape.limits.layout →
            Released shape (first_of me3.0) held me4
            (PutIf (content_in shape.width (first_of me3.0).known) words) Yes →
            MadeOnRecord shape (PutIf (content_in shape.width v.known) words) Yes v (first_of me4.0)
        replaced held me4 up learned =
            let old = content_in shape.width v.known in
            let o : Released shape writer held me4 (PutIf old words) Yes =
            subst (λ (y : RecordPassView). Released shape y held me4 (PutIf old words) Yes) writer_is
            (subst (λ (c : List ℕ). Released shape (first_of me3.0) held me4 (PutIf c words) Yes) content_is
            learned) in
            let mark = entry v.name Mark in
            subst (λ (m : Seated). MadeOnRecord shape (PutIf old words) Yes v (first_of m.0)) (sym o.after)
            (record {
              word = word;
              has_found = append_assoc v.found (found ∷ []) (held ∷ []) ∙
                  (λ i. v.found ++ hit i ∷ up i ∷ []);
              first = got.log;
              at_first = record {
                begins = got.left.begins;
                legal = got.left.legal;
                word_is = sym hit ∙ got.left.word_is;
                few = got.left.few;
              };
              log = o.log;
              longer = begins_further got.log (got.log ++ mark ∷ []) o.log (begins_more got.log (mark ∷ []))
                  o.begins;
              left = sym up ∙ o.word_is;
              replies = o.replies;
              known = refl;
              own = refl;
              same = record { name = refl; splits = refl };
              idle = refl;
              few = o.few;
              consistent = o.consistent;
            })

-- the same where the code has a copy of the table's key
pub acquired_word_of : (key shape : RecordShape) → key ≡ shape → (v : RecordPassView)
    (found loaded : ℕ) (me : Seated) (xs : List ℕ) (t : Acquired key v found me xs) →
    found ≡ loaded →
    eqb (loaded % version_unit shape.limits.layout) (writer_unit shape.limits.layout) ≡ false →
    loaded + writer_unit shape.limits.layout ≡ word_with key.limits.layout (puts t.log) true
acquired_word_of key shape same v found loaded me xs t hit =
    subst (λ (z : RecordShape).
    eqb (loaded % version_unit z.limits.layout) (writer_unit z.limits.layout) ≡ false →
    loaded + writer_unit z.limits.layout ≡ word_with key.limits.layout (puts t.log) true) same
    (subst (λ (n : ℕ).
    eqb (n % version_unit key.limits.layout) (writer_unit key.limits.layout) ≡ false →
    n + writer_unit key.limits.layout ≡ word_with key.limits.layout (puts t.log) true) hit
    (acquired_word key v found me xs t))
