-- Each step of a get keeps the rule, and tells what it is to tell.
use Rattle.std.proofs.Common.{◌≡◌, ◌≢◌, ℕ, ◌+◌, ◌<◌, eqb, Bool, true, false, true≢false, MatchBool}
use Rattle.std.proofs.Common.{if◌then◌else◌, List, [], ◌∷◌, ◌++◌, length, get_or, refl, ap, sym}
use Rattle.std.proofs.Common.{◌∙◌, subst, arith, le_refl, length-append}
use Rattle.std.proofs.lemmas.Bool.{eqb-true}
use Rattle.std.proofs.lemmas.List.{ext_get_or, get_or_push, get_or_append_left}
use mathlib.Core.Logic.{dite}
use native.Mathlib.Decide.{ℕ_discrete}
use mathlib.Core.Option.{none, some}
use lib.ListN.{get_elem?}
use Rattle.atomic_table.specs.Table.{State, step, carried_after, Allows}
use Rattle.stamp_core.specs.declared.call.Call.{Call}
use Rattle.stamp_core.specs.declared.call.Call.TheVariants.{Get, PutIf}
use Rattle.stamp_core.specs.declared.reply.Reply.{Reply}
use Rattle.stamp_core.specs.declared.reply.Reply.TheVariants.{Content, No}
use Rattle.stamp_core.specs.Content.{RecordReplies}
use Rattle.stamp_threads.specs.declared.record_view.RecordShape.{RecordShape}
use Rattle.stamp_threads.specs.declared.record_view.RecordEvent.{RecordEvent}
use Rattle.stamp_threads.specs.declared.record_view.RecordEvent.TheVariants.{Called}
use Rattle.stamp_threads.specs.declared.record_view.RecordPhase.{RecordPhase}
use Rattle.stamp_threads.specs.declared.record_view.RecordPhase.TheVariants.{Idle, Loading}
use Rattle.stamp_threads.specs.PassView.{entry}
use Rattle.stamp_threads.specs.inner.PassView.{knowing, finding}
use Rattle.stamp_threads.specs.Seats.{alone}
use Rattle.stamp_threads.specs.RecordWord.{word_with}
use Rattle.stamp_threads.specs.RecordLog.{puts, puts_in, content_in, is_locked, is_call}
use Rattle.stamp_threads.specs.RecordPass.{RecordPassView, IsConsistentWith, marks_ahead, first_of}
use Rattle.stamp_threads.specs.inner.RecordPass.{Seated}
use Rattle.stamp_threads.specs.inner.RecordRule.{KnowsLoading, Knows, IsWriting, IsKept, calling, starting_to_load}
use Rattle.stamp_threads.specs.inner.RecordRule.{stopping, loading_one, loaded_one, Confirmed, Saw, Overtaken}
use Rattle.stamp_threads.specs.inner.RecordRule.{LoadedForGet, word_to_confirm, LoadForGetTells, LoadWordTells}
use Rattle.stamp_threads.specs.inner.RecordRule.{ConfirmTells, SeeTells, DenyTells}
use Rattle.stamp_threads.proofs.Beginnings.{begins_all}
use Rattle.stamp_threads.proofs.MadeBy.{grows_one, made_by-same}
use Rattle.stamp_threads.proofs.RecordWords.{free_of, same_word}
use Rattle.stamp_threads.proofs.RecordLogs.{locked_longer, marker_longer, content_longer}
use Rattle.stamp_threads.proofs.RecordLogs.{legal_longer, marks_called, puts_longer, puts_in-append}
use Rattle.stamp_threads.proofs.RecordLogs.{Reads, get_reads, no_reads}
use Rattle.stamp_threads.proofs.RecordSteps.{Brings, OthersKnow, fits_here, leaves_now}
use Rattle.stamp_threads.proofs.RecordSteps.{others_mark, one_after, one_consistent, only_views}
use Rattle.stamp_threads.proofs.RecordSteps.{only_consistent, knowing_brings, same_knows}
use Rattle.stamp_threads.proofs.RecordSteps.{idle_quiet, KeptBy, Leaves, load_leaves, load_knows}

module _ {enterable : Bool} (P : List ℕ → Type 0) (shape : RecordShape) (s : State (Unit {0}) (List RecordPassView))
    (r : IsKept enterable P shape s)
    (id : ℕ) (v : RecordPassView) (here : get_elem? s.views id ≡ some (v ∷ [])) (puts_before : ℕ)
    (xs : List ℕ) (loading : v.phase ≡ Loading puts_before xs) where
  pub loading_quiet : IsWriting v.phase → ⊥
  loading_quiet w = subst IsWriting loading w

  none_ahead : marks_ahead v.phase ≡ 0
  none_ahead = ap marks_ahead loading

  what : KnowsLoading shape.width r.log puts_before xs
  what = subst (Knows P shape.width s.words r.log v.name) loading
      (fits_here P shape s r id v here).knows

  -- one more word is loaded
  loads : (k : ℕ) → length xs ≡ k → k < shape.width →
      KeptBy enterable P shape s id (loaded_one v (get_or s.words (k + 1) 0)) s.words
  loads k long inside =
      let x : ℕ = get_or s.words (k + 1) 0 in
      let w = loaded_one v x in
      let f = fits_here P shape s r id v here in
      let h = what in
      let more : length (xs ++ x ∷ []) ≡ k + 1 =
      length-append xs (x ∷ []) ∙ ap (λ (n : ℕ). n + 1) long in
      let loaded : KnowsLoading shape.width r.log puts_before (xs ++ x ∷ []) = record {
        before = h.before;
        few = omega arith;
        stand = λ e p j l. dite (ℕ_discrete j k)
            (λ (i : j ≡ k). ap (λ (y : ℕ). get_or (xs ++ x ∷ []) y 0) i ∙
            (get_or_push xs x 0 k long ∙ (r.rests e k inside ∙
            ap (λ (y : ℕ). get_or (content_in shape.width r.log) y 0) (sym i))))
            (λ (ne : j ≢ k). get_or_append_left xs (x ∷ []) 0 j (omega arith) ∙
            h.stand e p j (omega arith));
      } in
      let ahead : marks_ahead v.phase ≡ marks_ahead w.phase =
      ap marks_ahead loading ∙
      sym (ap (λ (p : RecordPhase). marks_ahead (loading_one p x)) loading) in
      only_views P shape s r id v here loading_quiet w refl refl (record {
        known = f.part.known;
        own = f.part.own;
        marks = f.marks ∙ ap (λ (n : ℕ). puts_in v.own + n) ahead;
        knows = subst (Knows P shape.width s.words r.log v.name)
            (sym (ap (λ (z : RecordPhase). loading_one z x) loading)) loaded;
      })

  -- the lock word is as it was, and the words are the content
  sees : length xs ≡ shape.width →
      get_or s.words 0 0 ≡ word_with shape.limits.layout puts_before false →
      (is_locked r.log ≡ false) × (xs ≡ content_in shape.width r.log) × P xs
  sees long same =
      let h = what in
      let free = free_of shape.limits.layout (is_locked r.log) (puts r.log) puts_before
      (sym same ∙ r.word_is) in
      let whole : xs ≡ content_in shape.width r.log =
      ext_get_or 0 xs (content_in shape.width r.log) (long ∙ sym r.long)
      (h.stand free.0 free.1) in
      (free.0, whole, subst P (sym whole) r.rule)

  -- and a call that puts nothing is made
  confirms : length xs ≡ shape.width →
      get_or s.words 0 0 ≡ word_with shape.limits.layout puts_before false →
      (call : Call) (reply : Reply) → Reads xs call reply →
      KeptBy enterable P shape s id (calling (finding v (get_or s.words 0 0)) r.log (Called call reply)) s.words ×
      IsConsistentWith shape.width (calling (finding v (get_or s.words 0 0)) r.log (Called call reply))
  confirms long same call reply about_xs =
      let e = Called call reply in
      let w = calling (finding v (get_or s.words 0 0)) r.log e in
      let log' = r.log ++ entry v.name e ∷ [] in
      let f = fits_here P shape s r id v here in
      let t = sees long same in
      let reads = subst (λ (content : List ℕ). Reads content call reply) t.1 about_xs in
      let p : puts log' ≡ puts r.log =
      (let h : puts log' ≡ puts r.log + 0 =
      puts_longer r.log v.name e ∙ ap (λ (n : ℕ). puts r.log + n) reads.spends in omega (arith, h)) in
      let l = locked_longer r.log v.name e ∙ reads.keeps (is_locked r.log) in
      let m = marker_longer r.log v.name e in
      let c = content_longer shape.width r.log v.name call reply ∙ reads.leaves in
      let grows = grows_one v r.log e in
      let had = f.marks in
      let quiet = none_ahead in
      let brings : Brings P shape.width s.words log' w = record {
        known = begins_all log';
        own = made_by-same is_call v.name r.log e ∙
            ap (λ (z : List RecordEvent). z ++ e ∷ []) f.part.own;
        marks = (let a = marks_called v.name r.log call reply in
            let b : puts_in (v.own ++ e ∷ []) ≡ puts_in v.own + 0 =
            puts_in-append v.own e ∙ ap (λ (n : ℕ). puts_in v.own + n) reads.spends in omega arith);
        knows = tt;
      } in
      let others : OthersKnow P shape s r.log id s.words log' =
      λ i k u away st g. same_knows P shape.width s.words r.log log' u.name u.phase p l m c g in
      let legal = legal_longer shape.width r.log v.name call reply reads.ours reads.replies r.legal in (
        record {
          log = log';
          roots = r.roots;
          one_root = r.one_root;
          legal = legal;
          wide = r.wide;
          word_is = r.word_is ∙ sym (same_word shape.limits.layout (puts log') (puts r.log)
              (is_locked log') (is_locked r.log) p l);
          few = (let z = r.few in omega (arith, p));
          fewer = λ e. absurd (true≢false (sym e ∙ (l ∙ t.0)));
          rests = λ e i b. r.rests (sym l ∙ e) i b ∙
              ap (λ (d : List ℕ). get_or d i 0) (sym c);
          long = ap length c ∙ r.long;
          rule = subst P (sym c) r.rule;
          passes = one_after P shape s r id v here w refl refl s.words log' grows brings others;
          writer = λ e. absurd (true≢false (sym e ∙ (l ∙ t.0)));
        },
        one_consistent P shape s r id v here w refl refl s.words log' grows brings others legal refl,
      )

  stopping_brings : (word : ℕ) → Brings P shape.width s.words r.log (stopping (finding v word) r.log)
  stopping_brings word =
      let f = fits_here P shape s r id v here in
      record {
        known = begins_all r.log;
        own = f.part.own;
        marks = f.marks ∙ ap (λ (n : ℕ). puts_in v.own + n) none_ahead;
        knows = tt;
      }

-- the first load of a get, by whether somebody has write mode
load_for_get_at : {enterable : Bool} (P : List ℕ → Type 0) (shape : RecordShape)
    (s : State (Unit {0}) (List RecordPassView)) (r : IsKept enterable P shape s)
    (id : ℕ) (v : RecordPassView) → get_elem? s.views id ≡ some (v ∷ []) → v.phase ≡ Idle →
    (b : Bool) → is_locked r.log ≡ b →
    (word : ℕ) → KeptBy enterable P shape s id (if b then knowing (finding v word) r.log
    else starting_to_load (finding v word) r.log) s.words
load_for_get_at P shape s r id v here idle true e word =
    only_views P shape s r id v here (idle_quiet v.phase idle) (knowing (finding v word) r.log)
    refl refl (knowing_brings P shape s r id v here word)
load_for_get_at P shape s r id v here idle false e word =
    let f = fits_here P shape s r id v here in
    only_views P shape s r id v here (idle_quiet v.phase idle) (starting_to_load (finding v word) r.log)
    refl refl (record {
      known = begins_all r.log;
      own = f.part.own;
      marks = f.marks ∙ ap (λ (n : ℕ). puts_in v.own + n) (ap marks_ahead idle);
      knows = record {
        before = le_refl (puts r.log);
        few = omega arith;
        stand = λ _ _ j l. absurd (omega arith);
      };
    })

pub allows_load_for_get : {enterable : Bool} (P : List ℕ → Type 0) (shape : RecordShape) (slots id : ℕ) (me : Seated) →
    me ≡ alone (first_of me.0) → (first_of me.0).phase ≡ Idle →
    Allows (IsKept enterable P shape) slots id me 0 (λ n. n) (LoadForGetTells shape (step slots 0 0 0 none) me)
allows_load_for_get P shape slots id me is idle s r _ at _ =
    let v : RecordPassView = first_of me.0 in
    let here : get_elem? s.views id ≡ some (v ∷ []) =
    at ∙ ap (λ (m : Seated). some m.0) is in
    let word : ℕ = get_or s.words 0 0 in
    let w : RecordPassView = if is_locked r.log then knowing (finding v word) r.log
    else starting_to_load (finding v word) r.log in
    let quiet = idle_quiet v.phase idle in
    load_leaves P shape s id me 0 w (LoadedForGet shape v word)
    (load_for_get_at P shape s r id v here idle (is_locked r.log) refl word) (record {
      log = r.log;
      left = leaves_now P shape s r id v here;
      after = λ i. (w ∷ [], (is i).1);
      others = others_mark P shape s r id v here quiet;
      consistent = only_consistent P shape s r id v here quiet (knowing (finding v word) r.log)
          refl refl (knowing_brings P shape s r id v here word) refl;
    })

-- a load of a word of the record
pub allows_load_word : {enterable : Bool} (P : List ℕ → Type 0) (shape : RecordShape) (slots id : ℕ) (me : Seated)
    (puts_before k : ℕ)
    (xs : List ℕ) → me ≡ alone (first_of me.0) → (first_of me.0).phase ≡ Loading puts_before xs →
    length xs ≡ k → k < shape.width →
    Allows (IsKept enterable P shape) slots id me (k + 1) (λ n. n)
    (LoadWordTells (step slots (k + 1) 0 0 none) me)
allows_load_word P shape slots id me puts_before k xs is loading long inside s r _ there _ =
    let v : RecordPassView = first_of me.0 in
    let here : get_elem? s.views id ≡ some (v ∷ []) =
    there ∙ ap (λ (m : Seated). some m.0) is in
    let w = loaded_one v (get_or s.words (k + 1) 0) in
    load_leaves P shape s id me (k + 1) w (λ m. m ≡ alone w)
    (loads P shape s r id v here puts_before xs loading k long inside) (λ i. (w ∷ [], (is i).1))

-- the second load of the lock word, by whether it is the word of the first, where a call is made then
confirm_at : {enterable : Bool} (P : List ℕ → Type 0) (shape : RecordShape)
    (s : State (Unit {0}) (List RecordPassView))
    (r : IsKept enterable P shape s) (id : ℕ) (me : Seated) (puts_before : ℕ) (xs : List ℕ) →
    me ≡ alone (first_of me.0) → get_elem? s.views id ≡ some (first_of me.0 ∷ []) →
    (first_of me.0).phase ≡ Loading puts_before xs → length xs ≡ shape.width →
    (call : Call) (reply : Reply) → Reads xs call reply → (b : Bool) →
    eqb (get_or s.words 0 0) (word_with shape.limits.layout puts_before false) ≡ b →
    Leaves enterable P shape s id me 0 (get_or s.words 0 0) (λ m. MatchBool b
    (Confirmed shape (first_of me.0) (get_or s.words 0 0) m P xs call reply)
    (Overtaken shape (first_of me.0) (get_or s.words 0 0) m))
confirm_at P shape s r id me puts_before xs is here loading long call reply reads true e =
    let v : RecordPassView = first_of me.0 in
    let w = calling (finding v (get_or s.words 0 0)) r.log (Called call reply) in
    let seen = sees P shape s r id v here puts_before xs loading long (eqb-true _ _ e) in
    let t = confirms P shape s r id v here puts_before xs loading long (eqb-true _ _ e) call reply reads in
    load_leaves P shape s id me 0 w (λ m. Confirmed shape v (get_or s.words 0 0) m P xs call reply) t.0
    (record {
      log = r.log;
      content = seen.1;
      rule = seen.2;
      left = leaves_now P shape s r id v here;
      replies = subst (λ (content : List ℕ). RecordReplies content call reply) seen.1 reads.replies;
      after = λ i. (w ∷ [], (is i).1);
      consistent = t.1;
    })
confirm_at P shape s r id me puts_before xs is here loading long call reply reads false e =
    let v : RecordPassView = first_of me.0 in
    let word : ℕ = get_or s.words 0 0 in
    load_knows P shape s r id me is here (loading_quiet P shape s r id v here puts_before xs loading)
    (stopping (finding v word)) refl refl refl
    (stopping_brings P shape s r id v here puts_before xs loading word)

-- and where none is made
see_at : {enterable : Bool} (P : List ℕ → Type 0) (shape : RecordShape)
    (s : State (Unit {0}) (List RecordPassView))
    (r : IsKept enterable P shape s) (id : ℕ) (me : Seated) (puts_before : ℕ) (xs : List ℕ) →
    me ≡ alone (first_of me.0) → get_elem? s.views id ≡ some (first_of me.0 ∷ []) →
    (first_of me.0).phase ≡ Loading puts_before xs → length xs ≡ shape.width → (b : Bool) →
    eqb (get_or s.words 0 0) (word_with shape.limits.layout puts_before false) ≡ b →
    Leaves enterable P shape s id me 0 (get_or s.words 0 0) (λ m. MatchBool b
    (Saw shape (first_of me.0) (get_or s.words 0 0) m P xs)
    (Overtaken shape (first_of me.0) (get_or s.words 0 0) m))
see_at P shape s r id me puts_before xs is here loading long true e =
    let v : RecordPassView = first_of me.0 in
    let word : ℕ = get_or s.words 0 0 in
    let w : RecordPassView = stopping (finding v word) r.log in
    let t = sees P shape s r id v here puts_before xs loading long (eqb-true _ _ e) in
    let quiet = loading_quiet P shape s r id v here puts_before xs loading in
    let brings = stopping_brings P shape s r id v here puts_before xs loading word in
    load_leaves P shape s id me 0 w (λ m. Saw shape v word m P xs)
    (only_views P shape s r id v here quiet w refl refl brings) (record {
      log = r.log;
      content = t.1;
      rule = t.2;
      left = leaves_now P shape s r id v here;
      free = t.0;
      after = λ i. (w ∷ [], (is i).1);
      consistent = only_consistent P shape s r id v here quiet w refl refl brings refl;
    })
see_at P shape s r id me puts_before xs is here loading long false e =
    let v : RecordPassView = first_of me.0 in
    let word : ℕ = get_or s.words 0 0 in
    load_knows P shape s r id me is here (loading_quiet P shape s r id v here puts_before xs loading)
    (stopping (finding v word)) refl refl refl
    (stopping_brings P shape s r id v here puts_before xs loading word)

-- what the last load tells, by whether it finds the word of the first
abbrev TellsBy : RecordShape → Seated → (ℕ → Seated → Type 0) → Bool → ℕ → Seated → Type 0
TellsBy shape me Told b n m = MatchBool b (Told n m) (Overtaken shape (first_of me.0) n m)

-- the word of the first is that of the phase
by_phase : (enterable : Bool) (P : List ℕ → Type 0) (shape : RecordShape)
    (s : State (Unit {0}) (List RecordPassView)) (id : ℕ) (me : Seated) (puts_before : ℕ) (xs : List ℕ) →
    (first_of me.0).phase ≡ Loading puts_before xs → (Told : ℕ → Seated → Type 0) →
    Leaves enterable P shape s id me 0 (get_or s.words 0 0) (TellsBy shape me Told
    (eqb (get_or s.words 0 0) (word_with shape.limits.layout puts_before false)) (get_or s.words 0 0)) →
    Leaves enterable P shape s id me 0 (get_or s.words 0 0) (TellsBy shape me Told
    (eqb (get_or s.words 0 0) (word_to_confirm shape.limits.layout (first_of me.0).phase))
    (get_or s.words 0 0))
by_phase enterable P shape s id me puts_before xs loading Told t =
    let n : ℕ = get_or s.words 0 0 in (
      t.0,
      t.1,
      t.2,
      t.3,
      subst (λ (b : Bool). TellsBy shape me Told b n (t.0, carried_after me.1 t.1))
          (ap (λ (z : RecordPhase). eqb n (word_to_confirm shape.limits.layout z)) (sym loading)) t.4,
    )

pub allows_confirm : {enterable : Bool} (P : List ℕ → Type 0) (shape : RecordShape) (slots id : ℕ) (me : Seated)
    (puts_before : ℕ)
    (xs : List ℕ) → me ≡ alone (first_of me.0) → (first_of me.0).phase ≡ Loading puts_before xs →
    length xs ≡ shape.width →
    Allows (IsKept enterable P shape) slots id me 0 (λ n. n)
    (ConfirmTells P shape xs (step slots 0 0 0 none) me)
allows_confirm {enterable} P shape slots id me puts_before xs is loading long s r _ there _ =
    by_phase enterable P shape s id me puts_before xs loading
    (λ n m. Confirmed shape (first_of me.0) n m P xs Get (Content xs))
    (confirm_at P shape s r id me puts_before xs is (there ∙ ap (λ (m : Seated). some m.0) is) loading long
    Get (Content xs) (get_reads xs) _ refl)

pub allows_see : {enterable : Bool} (P : List ℕ → Type 0) (shape : RecordShape) (slots id : ℕ) (me : Seated)
    (puts_before : ℕ)
    (xs : List ℕ) → me ≡ alone (first_of me.0) → (first_of me.0).phase ≡ Loading puts_before xs →
    length xs ≡ shape.width →
    Allows (IsKept enterable P shape) slots id me 0 (λ n. n)
    (SeeTells P shape xs (step slots 0 0 0 none) me)
allows_see {enterable} P shape slots id me puts_before xs is loading long s r _ there _ =
    by_phase enterable P shape s id me puts_before xs loading
    (λ n m. Saw shape (first_of me.0) n m P xs)
    (see_at P shape s r id me puts_before xs is (there ∙ ap (λ (m : Seated). some m.0) is) loading long
    _ refl)

pub allows_deny : {enterable : Bool} (P : List ℕ → Type 0) (shape : RecordShape) (slots id : ℕ) (me : Seated)
    (puts_before : ℕ)
    (xs expected words : List ℕ) → me ≡ alone (first_of me.0) →
    (first_of me.0).phase ≡ Loading puts_before xs →
    length xs ≡ shape.width → xs ≢ expected →
    Allows (IsKept enterable P shape) slots id me 0 (λ n. n)
    (DenyTells P shape xs expected words (step slots 0 0 0 none) me)
allows_deny {enterable} P shape slots id me puts_before xs expected words is loading long differ s r _ there _ =
    by_phase enterable P shape s id me puts_before xs loading
    (λ n m. Confirmed shape (first_of me.0) n m P xs (PutIf expected words) No)
    (confirm_at P shape s r id me puts_before xs is (there ∙ ap (λ (m : Seated). some m.0) is) loading long
    (PutIf expected words) No (no_reads xs expected words differ) _ refl)
