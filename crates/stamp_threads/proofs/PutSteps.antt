-- Each step of a put keeps the rule, and tells what it is to tell.
use Rattle.std.proofs.Common.{◌≡◌, ◌≢◌, ℕ, ◌+◌, ◌<◌, ◌≤◌, ◌==◌, eqb, Bool, true, false, true≢false, List}
use Rattle.std.proofs.Common.{MatchBool, [], ◌∷◌, ◌++◌, length, set, get_or, refl, ap, sym, ◌∙◌}
use Rattle.std.proofs.Common.{subst, arith, length-set, get_or-set_same, get_or-set_other, le_refl}
use Rattle.std.proofs.Common.{eq-eqb, append-nil, inl, inr}
use Rattle.std.proofs.lemmas.Bool.{eqb-true}
use mathlib.Core.Logic.{dite}
use native.Mathlib.Decide.{ℕ_discrete}
use mathlib.Core.Option.{none, some}
use lib.ListN.{get_elem?}
use prog.Atomic.{either}
use Rattle.atomic_table.specs.Table.{State, keeps, step, Allows}
use Rattle.stamp_core.specs.declared.call.Call.{Call}
use Rattle.stamp_core.specs.declared.call.Call.TheVariants.{Put, PutIf}
use Rattle.stamp_core.specs.declared.reply.Reply.{Reply}
use Rattle.stamp_core.specs.declared.reply.Reply.TheVariants.{Done, Yes}
use Rattle.stamp_threads.specs.declared.record_view.RecordShape.{RecordShape}
use Rattle.stamp_threads.specs.declared.record_view.RecordEvent.{RecordEvent}
use Rattle.stamp_threads.specs.declared.record_view.RecordEvent.TheVariants.{Mark, Called}
use Rattle.stamp_threads.specs.declared.record_view.RecordPhase.{RecordPhase}
use Rattle.stamp_threads.specs.declared.record_view.RecordPhase.TheVariants.{Idle, Writing}
use Rattle.stamp_threads.specs.PassView.{entry}
use Rattle.stamp_threads.specs.inner.PassView.{knowing, finding}
use Rattle.stamp_threads.specs.Seats.{alone}
use Rattle.stamp_threads.specs.inner.Seats.{StandsAt}
use Rattle.stamp_threads.specs.RecordWord.{word_with, writer_unit}
use Rattle.stamp_threads.specs.RecordLog.{puts, puts_in, content_in, is_locked, is_call}
use Rattle.stamp_threads.specs.RecordPass.{RecordPassView, IsConsistentWith, marks_ahead, first_of}
use Rattle.stamp_threads.specs.inner.RecordPass.{Seated}
use Rattle.stamp_threads.specs.inner.RecordRule.{KnowsWriting, Knows, IsWriting, IsKept, acquiring, calling}
use Rattle.stamp_threads.specs.inner.RecordRule.{LoadedForPut, Acquired, Released, storing_one, stored_one}
use Rattle.stamp_threads.specs.inner.RecordRule.{LoadForPutTells, AcquireTells, StoreWordTells, ReleaseTells}
use Rattle.stamp_threads.specs.inner.RecordRule.{ReleaseOverTells}
use Rattle.stamp_threads.proofs.Beginnings.{begins_all}
use Rattle.stamp_threads.proofs.MadeBy.{grows_none, grows_one, made_by-same}
use Rattle.stamp_threads.proofs.RecordWords.{free_of, same_word, held_is, released_is}
use Rattle.stamp_threads.proofs.RecordLogs.{locked_longer, marker_longer, content_marked}
use Rattle.stamp_threads.proofs.RecordLogs.{content_longer, legal_marked, legal_longer}
use Rattle.stamp_threads.proofs.RecordLogs.{marks_marked, marks_called, puts_marked, puts_longer}
use Rattle.stamp_threads.proofs.RecordLogs.{puts_in-append, content_same, Writes, put_writes}
use Rattle.stamp_threads.proofs.RecordLogs.{over_writes}
use Rattle.stamp_threads.proofs.RecordSteps.{Brings, OthersKnow, fits_here, leaves_now, not_other}
use Rattle.stamp_threads.proofs.RecordSteps.{one_after, one_consistent, one_stands}
use Rattle.stamp_threads.proofs.RecordSteps.{knowing_brings, load_knows}
use Rattle.stamp_threads.proofs.RecordSteps.{locked_by, quiet_knows, idle_quiet, KeptBy}
use Rattle.stamp_threads.proofs.RecordSteps.{Leaves}

module _ {enterable : Bool} (P : List ℕ → Type 0) (shape : RecordShape) (s : State (Unit {0}) (List RecordPassView))
    (r : IsKept enterable P shape s)
    (id : ℕ) (v : RecordPassView) (here : get_elem? s.views id ≡ some (v ∷ [])) where
  -- write mode is got
  acquires : (n held : ℕ) (xs : List ℕ) → v.phase ≡ Idle →
      get_or s.words 0 0 ≡ word_with shape.limits.layout n false →
      held ≡ word_with shape.limits.layout n true → n < shape.limits.versions →
      length xs ≡ shape.width → P xs →
      KeptBy enterable P shape s id (acquiring (finding v (get_or s.words 0 0)) r.log xs)
      (set s.words 0 held)
  acquires n held xs idle at is room long rule =
      let w = acquiring (finding v (get_or s.words 0 0)) r.log xs in
      let log' = r.log ++ entry v.name Mark ∷ [] in
      let table_words' : List ℕ = set s.words 0 held in
      let free = free_of shape.limits.layout (is_locked r.log) (puts r.log) n
      (sym at ∙ r.word_is) in
      let f = fits_here P shape s r id v here in
      let same = puts_marked r.log v.name in
      let now = locked_longer r.log v.name Mark in
      let whose = marker_longer r.log v.name Mark in
      let grows = grows_one v r.log Mark in
      let knows : Knows P shape.width table_words' log' v.name w.phase = record {
        locked = now;
        puts_are = same;
        marker = whose;
        long = long;
        rule = rule;
        few = omega arith;
        stand = λ j l. absurd (omega arith);
      } in
      let quiet : marks_ahead v.phase ≡ 0 = ap marks_ahead idle in
      let had = f.marks in
      let brings : Brings P shape.width table_words' log' w = record {
        known = begins_all log';
        own = made_by-same is_call v.name r.log Mark ∙ (append-nil _ ∙ f.part.own);
        marks = (let m = marks_marked v.name r.log in omega arith);
        knows = knows;
      } in
      let others : OthersKnow P shape s r.log id table_words' log' =
      λ i k u away st h. quiet_knows P shape.width s.words table_words' r.log log' u.name u.phase
      (omega (arith, same)) (inl now)
      (λ t. true≢false (sym (locked_by P shape.width s.words r.log u.name u.phase t h).0 ∙ free.0))
      h in
      record {
        log = log';
        roots = r.roots;
        one_root = r.one_root;
        legal = legal_marked shape.width r.log v.name r.legal;
        wide = length-set s.words 0 held ∙ r.wide;
        word_is = get_or-set_same s.words 0 held 0 (let z = r.wide in omega arith) ∙
            (is ∙ sym (same_word shape.limits.layout (puts log') n (is_locked log') true
            (same ∙ free.1) now));
        few = (let z = r.few in omega (arith, same));
        fewer = λ _. (let z = free.1 in omega (arith, same));
        rests = λ e. absurd (true≢false (sym now ∙ e));
        long = ap length (content_marked shape.width r.log v.name) ∙ r.long;
        rule = subst P (sym (content_marked shape.width r.log v.name)) r.rule;
        passes = one_after P shape s r id v here w refl refl table_words' log' grows brings others;
        writer = λ _. record {
          seat = id;
          index = 0;
          writer = w;
          stands = one_stands P shape s r id v here w refl refl table_words' log' grows brings others;
          writes = tt;
          marker = whose;
        };
      }

  module _ (puts_before stored : ℕ) (xs : List ℕ) (writing : v.phase ≡ Writing puts_before xs stored)
    where
      what : KnowsWriting P shape.width s.words r.log v.name puts_before xs stored
      what = subst (Knows P shape.width s.words r.log v.name) writing
          (fits_here P shape s r id v here).knows

      alone_writes : (i j : ℕ) (u : RecordPassView) → i ≢ id → StandsAt s.views i j u →
          Knows P shape.width s.words r.log u.name u.phase → IsWriting u.phase → ⊥
      alone_writes i j u away st h t = not_other P shape s r id v here i j u away st
          (locked_by P shape.width s.words r.log u.name u.phase t h).1 what.marker

      -- one more word is stored
      stores : (x : ℕ) → stored < shape.width → x ≡ get_or xs stored 0 →
          KeptBy enterable P shape s id (stored_one v) (set s.words (stored + 1) x)
      stores x inside right =
          let w = stored_one v in
          let table_words' : List ℕ = set s.words (stored + 1) x in
          let f = fits_here P shape s r id v here in
          let z = r.wide in
          let grows = grows_none (v ∷ []) r.log in
          let k = what in
          let more : KnowsWriting P shape.width table_words' r.log v.name puts_before xs (stored + 1) = record {
            locked = k.locked;
            puts_are = k.puts_are;
            marker = k.marker;
            long = k.long;
            rule = k.rule;
            few = omega arith;
            stand = λ j l. dite (ℕ_discrete j stored)
                (λ e. ap (λ (y : ℕ). get_or table_words' (y + 1) 0) e ∙
                (get_or-set_same s.words (stored + 1) x 0 (omega arith) ∙
                (right ∙ ap (λ (y : ℕ). get_or xs y 0) (sym e))))
                (λ ne. get_or-set_other s.words (stored + 1) (j + 1) x 0 (λ e. ne (omega arith)) ∙
                k.stand j (omega arith));
          } in
          let knows : Knows P shape.width table_words' r.log v.name w.phase =
          subst (Knows P shape.width table_words' r.log v.name) (sym (ap storing_one writing)) more in
          let ahead : marks_ahead v.phase ≡ marks_ahead w.phase =
          ap marks_ahead writing ∙
          sym (ap (λ (p : RecordPhase). marks_ahead (storing_one p)) writing) in
          let brings : Brings P shape.width table_words' r.log w = record {
            known = f.part.known;
            own = f.part.own;
            marks = f.marks ∙ ap (λ (n : ℕ). puts_in v.own + n)
                ahead;
            knows = knows;
          } in
          let others : OthersKnow P shape s r.log id table_words' r.log =
          λ i j u away st h. quiet_knows P shape.width s.words table_words' r.log r.log u.name u.phase
          (le_refl (puts r.log)) (inl k.locked) (alone_writes i j u away st h) h in
          record {
            log = r.log;
            roots = r.roots;
            one_root = r.one_root;
            legal = r.legal;
            wide = length-set s.words (stored + 1) x ∙ r.wide;
            word_is = get_or-set_other s.words (stored + 1) 0 x 0 (λ e. omega arith) ∙ r.word_is;
            few = r.few;
            fewer = r.fewer;
            rests = λ e. absurd (true≢false (sym k.locked ∙ e));
            long = r.long;
            rule = r.rule;
            passes = one_after P shape s r id v here w refl refl table_words' r.log grows brings others;
            writer = λ _. record {
              seat = id;
              index = 0;
              writer = w;
              stands = one_stands P shape s r id v here w refl refl table_words' r.log grows brings others;
              writes = subst IsWriting (sym (ap storing_one writing)) tt;
              marker = k.marker;
            };
          }

  -- the words are the record's
  releases : (puts_before free : ℕ) (xs : List ℕ) → v.phase ≡ Writing puts_before xs shape.width →
      free ≡ word_with shape.limits.layout (puts_before + 1) false →
      (held : ℕ) (call : Call) (reply : Reply) → Writes (content_in shape.width r.log) xs call reply →
      KeptBy enterable P shape s id (calling (finding v held) r.log (Called call reply)) (set s.words 0 free) ×
      IsConsistentWith shape.width (calling (finding v held) r.log (Called call reply)) ×
      (puts (r.log ++ entry v.name (Called call reply) ∷ []) ≤ shape.limits.versions)
  releases puts_before free xs writing is held call reply writes =
      let e = Called call reply in
      let w = calling (finding v held) r.log e in
      let log' = r.log ++ entry v.name e ∷ [] in
      let table_words' : List ℕ = set s.words 0 free in
      let f = fits_here P shape s r id v here in
      let k = what puts_before shape.width xs writing in
      let z = r.wide in
      let more : puts log' ≡ puts r.log + 1 =
      puts_longer r.log v.name e ∙ ap (λ (n : ℕ). puts r.log + n) writes.spends in
      let now = locked_longer r.log v.name e ∙ writes.frees (is_locked r.log) in
      let holds = content_longer shape.width r.log v.name call reply ∙ writes.leaves in
      let grows = grows_one v r.log e in
      let ahead : marks_ahead v.phase ≡ 1 = ap marks_ahead writing in
      let had = f.marks in
      let brings : Brings P shape.width table_words' log' w = record {
        known = begins_all log';
        own = made_by-same is_call v.name r.log e ∙
            ap (λ (l : List RecordEvent). l ++ e ∷ []) f.part.own;
        marks = (let m = marks_called v.name r.log call reply in
            let p : puts_in (v.own ++ e ∷ []) ≡ puts_in v.own + 1 =
            puts_in-append v.own e ∙ ap (λ (n : ℕ). puts_in v.own + n) writes.spends in omega arith);
        knows = tt;
      } in
      let others : OthersKnow P shape s r.log id table_words' log' =
      λ i j u away st h. quiet_knows P shape.width s.words table_words' r.log log' u.name u.phase
      (omega (arith, more)) (inr (omega (arith, more)))
      (alone_writes puts_before shape.width xs writing i j u away st h) h in
      let few : puts log' ≤ shape.limits.versions =
      (let l = r.fewer k.locked in omega (arith, more)) in
      let legal = legal_longer shape.width r.log v.name call reply writes.ours writes.replies r.legal in (
        record {
          log = log';
          roots = r.roots;
          one_root = r.one_root;
          legal = legal;
          wide = length-set s.words 0 free ∙ r.wide;
          word_is = get_or-set_same s.words 0 free 0 (omega arith) ∙
              (is ∙ sym (same_word shape.limits.layout (puts log') (puts_before + 1) (is_locked log')
              false (more ∙ ap (λ (y : ℕ). y + 1) k.puts_are) now));
          few = few;
          fewer = λ e. absurd (true≢false (sym e ∙ now));
          rests = λ _ i l. get_or-set_other s.words 0 (i + 1) free 0 (λ e. omega arith) ∙
              (k.stand i l ∙ ap (λ (c : List ℕ). get_or c i 0) (sym holds));
          long = ap length holds ∙ k.long;
          rule = subst P (sym holds) k.rule;
          passes = one_after P shape s r id v here w refl refl table_words' log' grows brings others;
          writer = λ e. absurd (true≢false (sym e ∙ now));
        },
        one_consistent P shape s r id v here w refl refl table_words' log' grows brings others legal refl,
        few,
      )

-- a load that a put begins with
load_for_put_at : {enterable : Bool} (P : List ℕ → Type 0) (shape : RecordShape)
    (s : State (Unit {0}) (List RecordPassView)) (r : IsKept enterable P shape s)
    (id : ℕ) (me : Seated) → me ≡ alone (first_of me.0) → (first_of me.0).phase ≡ Idle →
    get_elem? s.views id ≡ some (first_of me.0 ∷ []) →
    Leaves enterable P shape s id me 0 (get_or s.words 0 0)
    (LoadedForPut shape (first_of me.0) (get_or s.words 0 0))
load_for_put_at P shape s r id me is idle here =
    let v : RecordPassView = first_of me.0 in
    let word : ℕ = get_or s.words 0 0 in
    load_knows P shape s r id me is here (idle_quiet v.phase idle) (knowing (finding v word))
    refl refl refl (knowing_brings P shape s r id v here word)

pub allows_load_for_put : {enterable : Bool} (P : List ℕ → Type 0) (shape : RecordShape) (slots id : ℕ) (me : Seated) →
    me ≡ alone (first_of me.0) → (first_of me.0).phase ≡ Idle →
    Allows (IsKept enterable P shape) slots id me 0 (λ n. n) (LoadForPutTells shape (step slots 0 0 0 none) me)
allows_load_for_put P shape slots id me is idle s r _ at _ =
    load_for_put_at P shape s r id me is idle (at ∙ ap (λ (m : Seated). some m.0) is)

-- the exchange that gets write mode, by whether the word found is the old one
acquire_at : {enterable : Bool} (P : List ℕ → Type 0) (shape : RecordShape)
    (s : State (Unit {0}) (List RecordPassView))
    (r : IsKept enterable P shape s) (id : ℕ) (me : Seated) (n old held : ℕ) (xs : List ℕ) →
    me ≡ alone (first_of me.0) → (first_of me.0).phase ≡ Idle →
    get_elem? s.views id ≡ some (first_of me.0 ∷ []) →
    old ≡ word_with shape.limits.layout n false →
    held ≡ old + writer_unit shape.limits.layout → n < shape.limits.versions →
    length xs ≡ shape.width → P xs → (b : Bool) → eqb (get_or s.words 0 0) old ≡ b →
    Leaves enterable P shape s id me 0 (either b held (get_or s.words 0 0)) (λ m. MatchBool b
    (Acquired shape (first_of me.0) (get_or s.words 0 0) m xs)
    (LoadedForPut shape (first_of me.0) (get_or s.words 0 0) m))
acquire_at P shape s r id me n old held xs is idle here free up room long rule true e =
    let v : RecordPassView = first_of me.0 in
    let w = acquiring (finding v (get_or s.words 0 0)) r.log xs in
    let hit : get_or s.words 0 0 ≡ old = eqb-true _ _ e in
    let up' : held ≡ word_with shape.limits.layout n true =
    up ∙ (ap (λ (y : ℕ). y + writer_unit shape.limits.layout) free ∙
    sym (held_is shape.limits.layout n)) in (
      w ∷ [],
      keeps,
      tt,
      acquires P shape s r id v here n held xs idle (hit ∙ free) up' room long rule,
      record {
        log = r.log;
        left = leaves_now P shape s r id v here;
        after = λ i. (w ∷ [], (is i).1);
      },
    )
acquire_at P shape s r id me n old held xs is idle here free up room long rule false e =
    load_for_put_at P shape s r id me is idle here

pub allows_acquire : {enterable : Bool} (P : List ℕ → Type 0) (shape : RecordShape) (slots id : ℕ) (me : Seated)
    (n old held : ℕ)
    (xs : List ℕ) → me ≡ alone (first_of me.0) → (first_of me.0).phase ≡ Idle →
    old ≡ word_with shape.limits.layout n false →
    held ≡ old + writer_unit shape.limits.layout → n < shape.limits.versions →
    length xs ≡ shape.width → P xs →
    Allows (IsKept enterable P shape) slots id me 0 (λ m. either (m == old) held m)
    (AcquireTells shape xs (step slots 0 old held none) me)
allows_acquire P shape slots id me n old held xs is idle free up room long rule s r _ at _ =
    acquire_at P shape s r id me n old held xs is idle (at ∙ ap (λ (m : Seated). some m.0) is) free
    up room long rule (eqb (get_or s.words 0 0) old) refl

-- a store of a word of the record
pub allows_store_word : {enterable : Bool} (P : List ℕ → Type 0) (shape : RecordShape) (slots id : ℕ) (me : Seated)
    (puts_before stored x : ℕ)
    (xs : List ℕ) → me ≡ alone (first_of me.0) →
    (first_of me.0).phase ≡ Writing puts_before xs stored → stored < shape.width →
    x ≡ get_or xs stored 0 →
    Allows (IsKept enterable P shape) slots id me (stored + 1) (λ _. x)
    (λ _. StoreWordTells (step slots (stored + 1) x 0 none) me x)
allows_store_word P shape slots id me puts_before stored x xs is writing inside right s r _ there _ =
    let v : RecordPassView = first_of me.0 in
    let here : get_elem? s.views id ≡ some (v ∷ []) =
    there ∙ ap (λ (m : Seated). some m.0) is in (
      stored_one v ∷ [],
      keeps,
      tt,
      stores P shape s r id v here puts_before stored xs writing x inside right,
      λ i. (stored_one v ∷ [], (is i).1),
    )

-- the exchange that releases, by the call that it makes
release_at : (enterable : Bool) (P : List ℕ → Type 0) (shape : RecordShape)
    (s : State (Unit {0}) (List RecordPassView)) (r : IsKept enterable P shape s) (id : ℕ) (me : Seated)
    (puts_before held free : ℕ) (xs : List ℕ) → me ≡ alone (first_of me.0) →
    get_elem? s.views id ≡ some (first_of me.0 ∷ []) →
    (first_of me.0).phase ≡ Writing puts_before xs shape.width →
    held ≡ word_with shape.limits.layout puts_before true →
    free ≡ held + writer_unit shape.limits.layout →
    (call : Call) (reply : Reply) → Writes (content_in shape.width r.log) xs call reply →
    Leaves enterable P shape s id me 0 (either (eqb (get_or s.words 0 0) held) free (get_or s.words 0 0))
    (λ m. Released shape (first_of me.0) held m call reply)
release_at enterable P shape s r id me puts_before held free xs is here writing down up call reply writes =
    let v : RecordPassView = first_of me.0 in
    let w = calling (finding v held) r.log (Called call reply) in
    let k = what P shape s r id v here puts_before shape.width xs writing in
    let same : get_or s.words 0 0 ≡ held =
    r.word_is ∙ (same_word shape.limits.layout (puts r.log) puts_before (is_locked r.log) true
    k.puts_are k.locked ∙ sym down) in
    let up' : free ≡ word_with shape.limits.layout (puts_before + 1) false =
    up ∙ (ap (λ (y : ℕ). y + writer_unit shape.limits.layout) down ∙
    sym (released_is shape.limits.layout puts_before)) in
    let t = releases P shape s r id v here puts_before free xs writing up' held call reply writes in (
      w ∷ [],
      keeps,
      tt,
      subst (λ (b : Bool). KeptBy enterable P shape s id w
          (set s.words 0 (either b free (get_or s.words 0 0)))) (sym (eq-eqb _ _ same)) t.0,
      record {
        log = r.log;
        begins = (fits_here P shape s r id v here).part.known;
        word_is = sym same ∙ r.word_is;
        replies = writes.replies;
        after = λ i. (w ∷ [], (is i).1);
        few = t.2;
        consistent = t.1;
      },
    )

pub allows_release : (enterable : Bool) (P : List ℕ → Type 0) (shape : RecordShape) (slots id : ℕ) (me : Seated)
    (puts_before held free : ℕ)
    (xs : List ℕ) → me ≡ alone (first_of me.0) →
    (first_of me.0).phase ≡ Writing puts_before xs shape.width →
    held ≡ word_with shape.limits.layout puts_before true →
    free ≡ held + writer_unit shape.limits.layout →
    Allows (IsKept enterable P shape) slots id me 0 (λ m. either (m == held) free m)
    (ReleaseTells shape xs (step slots 0 held free none) me)
allows_release enterable P shape slots id me puts_before held free xs is writing down up s r _ there _ =
    release_at enterable P shape s r id me puts_before held free xs is
    (there ∙ ap (λ (m : Seated). some m.0) is) writing down up (Put xs) Done
    (put_writes (content_in shape.width r.log) xs)

-- nothing was put since the pass got write mode, so the record's content is the one that the pass knows
pub allows_release_over : (enterable : Bool) (P : List ℕ → Type 0) (shape : RecordShape) (slots id : ℕ)
    (me : Seated) (puts_before held free : ℕ)
    (xs : List ℕ) → me ≡ alone (first_of me.0) →
    (first_of me.0).phase ≡ Writing puts_before xs shape.width →
    held ≡ word_with shape.limits.layout puts_before true →
    free ≡ held + writer_unit shape.limits.layout →
    puts (first_of me.0).known ≡ puts_before →
    Allows (IsKept enterable P shape) slots id me 0 (λ m. either (m == held) free m)
    (ReleaseOverTells shape xs (step slots 0 held free none) me)
allows_release_over enterable P shape slots id me puts_before held free xs is writing down up at s r _ there _ =
    let v : RecordPassView = first_of me.0 in
    let here : get_elem? s.views id ≡ some (v ∷ []) =
    there ∙ ap (λ (m : Seated). some m.0) is in
    let k = what P shape s r id v here puts_before shape.width xs writing in
    let same : content_in shape.width r.log ≡ content_in shape.width v.known =
    content_same shape.width v.known r.log (fits_here P shape s r id v here).part.known
    (k.puts_are ∙ sym at) in
    let old = content_in shape.width v.known in
    release_at enterable P shape s r id me puts_before held free xs is here writing down up
    (PutIf old xs) Yes
    (subst (λ (c : List ℕ). Writes c xs (PutIf old xs) Yes) (sym same) (over_writes old xs))
