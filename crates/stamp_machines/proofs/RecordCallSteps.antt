-- What the access of a record call does.
use Rattle.std.proofs.Common.{◌≡◌, ℕ, ◌+◌, ◌-◌, ◌*◌, ◌<◌, ◌≤◌, ◌==◌, nat_lt, Bool, true, false}
use Rattle.std.proofs.Common.{List, [], ◌∷◌, ◌++◌, length, take, drop, Option, Some, None}
use Rattle.std.proofs.Common.{if◌then◌else◌, refl, sym, ◌∙◌, ap, subst, arith, add-one, length-set}
use Rattle.std.proofs.Common.{◌⊎◌, inl, inr, zero, suc}
use Rattle.std.specs.Prelude.{slice_index, slice_set}
use Rattle.std.proofs.lemmas.Grind.{common_steps}
use Rattle.std.proofs.lemmas.List.{take_more, take_all, drop_all, append-nil}
use Rattle.std.proofs.lemmas.Bool.Decides.{nat_tests}
use Rattle.stamp_core.specs.LockEvent.{Counts, counts}
use Rattle.stamp_core.specs.LockEvent.LockEvent.{WriteAcquired, WriteReleased, ReadReleased}
use Rattle.stamp_core.specs.Limits.{Bounds, AreInRange, units}
use Rattle.stamp_core.specs.IsWellFormed.{CountsAreWithin}
use Rattle.stamp_core.specs.Decoded.{after_events}
use Rattle.stamp_core.specs.Stamp.{write_stamp, read_stamp}
use Rattle.stamp_core.specs.Word.{word_number}
use Rattle.stamp_core.specs.declared.call.Call.{Call}
use Rattle.stamp_core.specs.declared.call.Call.TheVariants.{ReadLock, WriteLock, UnlockRead}
use Rattle.stamp_core.specs.declared.call.Call.TheVariants.{ToWrite}
use Rattle.stamp_core.specs.declared.decision.Decision.{Decision}
use Rattle.stamp_core.specs.declared.decision.Decision.TheVariants.{Answer, Change, Wait}
use Rattle.stamp_core.specs.declared.reply.Reply.{Reply}
use Rattle.stamp_core.specs.declared.reply.Reply.TheVariants as reply
use Rattle.stamp_core.proofs.TwoLayouts.{either_layout}
use Rattle.stamp_core.proofs.WellFormedPush.{push_all, obeys_now}
use Rattle.stamp_core.specs.Decision.{stamp_in}
use Rattle.stamp_machines.specs.LockNumber.{IsAdmittedAt, RepresentsAt, counts_at}
use Rattle.stamp_core.specs.CountedDecision.{decision}
use Rattle.stamp_machines.specs.Job.{Job, Getting, Putting, PuttingIf, new_words, expects, is_get, stored_reply}
use Rattle.stamp_machines.specs.inner.Job.{content_with, reply_to}
use Rattle.stamp_machines.specs.RecordStage.{Going, Done, RecordStage, OwnLockCall, LoadingLock, Copying, Locking}
use Rattle.stamp_machines.specs.RecordStage.{Reading, Checking, Storing, Releasing, Share}
use Rattle.stamp_machines.specs.RecordStage.{Leave, Refuse, Upgrade, ReleaseFirst, Claim, plan}
use Rattle.stamp_machines.specs.RecordStage.{after, call_for, passed, own_call_done, all_read}
use Rattle.stamp_machines.specs.RecordStage.{unchanged}
use Rattle.stamp_machines.specs.LockPhase as phases
use Rattle.stamp_machines.specs.LockPhase.{plan_on, phase_plan, phase_after}
use Rattle.stamp_machines.specs.LockPhase.{PhaseTurn}
use Rattle.stamp_machines.specs.LocalAccess.{LoadLock, LoadWord}
use Rattle.stamp_machines.specs.inner.LocalAccess.{lock_after, record_words_after, local_found}
use Rattle.stamp_machines.specs.inner.RecordKept.{read_by, written_by, FitsRecordStage, SameFor, AloneFor}
use Rattle.stamp_machines.specs.inner.RecordKept.{MovedRightly, Stands, IsRead}
use Rattle.stamp_machines.proofs.LockPhaseSteps.{PhaseLeaves, phase-leaves, CallLeaves, left-admitted}
use Rattle.stamp_machines.proofs.LockPhaseSteps.{counts-of, shared_at, left_at, claimed_at}
use Rattle.stamp_machines.proofs.LockPhaseSteps.{upgraded_at}

-- an access that changes nothing, after which the call holds what it held
stays : (limits : Bounds) (job : Job) (stage to : RecordStage) (lock : ℕ) (record_words content : List ℕ) →
    Stands limits job stage lock record_words content → read_by to ≡ read_by stage →
    written_by to ≡ written_by stage →
    FitsRecordStage limits (counts_at limits lock).write_count (counts_at limits lock).writers content record_words
    job to → MovedRightly limits job stage lock record_words content lock record_words (Going to)
stays limits job stage to lock record_words content s r w f = (
  record {
    admitted = s.admitted;
    writers = omega (arith, w);
    readers = omega (arith, r);
    width = s.width;
    same_width = refl;
    free = s.free;
    fits = (s.some, s.words, f);
    effect = inl (refl, refl, refl, refl);
  },
  tt,
)

-- one more word of the content
begins_more : (loaded record_words content : List ℕ) → record_words ≡ content →
    loaded ≡ take (length loaded) content → length loaded < length content →
    loaded ++ slice_index record_words (length loaded) ∷ []
    ≡ take (length (loaded ++ slice_index record_words (length loaded) ∷ [])) content
begins_more loaded record_words content e b h =
    let m = take_more content (length loaded) 0 h in
    let n : length (loaded ++ slice_index record_words (length loaded) ∷ []) ≡ length loaded + 1 =
    grind (arith, common_steps) in
    rw (n, e) (ap (λ l. l ++ slice_index content (length loaded) ∷ []) b ∙ sym m)

all_of : (loaded content : List ℕ) → loaded ≡ take (length loaded) content →
    length content ≤ length loaded → loaded ≡ content
all_of loaded content b h = grind (arith, common_steps)

loading-lock : (limits : Bounds) (n : ℕ) (job : Job) (lock : ℕ) (record_words content : List ℕ) →
    Stands limits job LoadingLock lock record_words content → n ≡ length content →
    MovedRightly limits job LoadingLock lock record_words content lock record_words
    (after limits n job LoadingLock lock)
loading-lock limits n job lock record_words content s e = go ((counts_at limits lock).writers == 0) refl
  where
    go : (b : Bool) → ((counts_at limits lock).writers == 0) ≡ b →
        MovedRightly limits job LoadingLock lock record_words content lock record_words
        (if b then Going (Copying lock []) else Going (Locking Share None))
    go true q =
        let z : (counts_at limits lock).writers ≡ 0 = grind (arith, q) in
        stays limits job LoadingLock (Copying lock []) lock record_words content s refl refl
        (s.fits, omega arith, omega arith, λ _. (z, refl))
    go false q = stays limits job LoadingLock (Locking Share None) lock record_words content s refl refl tt

copying : (limits : Bounds) (n : ℕ) (job : Job) (first : ℕ) (loaded : List ℕ) (lock : ℕ)
    (record_words content : List ℕ) → Stands limits job (Copying first loaded) lock record_words content →
    n ≡ length content →
    MovedRightly limits job (Copying first loaded) lock record_words content
    (lock_after (plan limits n job (Copying first loaded)) lock)
    (record_words_after (plan limits n job (Copying first loaded)) record_words)
    (after limits n job (Copying first loaded)
    (local_found (plan limits n job (Copying first loaded)) lock record_words))
copying limits n job first loaded lock record_words content s e = go (nat_lt (length loaded) n) refl
  where
    right : (job : Job) → is_get job ≡ true → loaded ≡ content →
        (reply.Content loaded ≡ reply_to content job) × (content_with content job ≡ content)
    right Getting g q = (ap reply.Content q, refl)
    right (Putting a) g q = cc
    right (PuttingIf a b) g q = cc

    validated : (b : Bool) → unchanged limits first lock ≡ b → length content ≤ length loaded →
        MovedRightly limits job (Copying first loaded) lock record_words content lock record_words (if b
        then Done (reply.Content loaded) else Going (Locking Share None))
    validated false q h =
        stays limits job (Copying first loaded) (Locking Share None) lock record_words content s refl
        refl tt
    validated true q h =
        let same : (counts_at limits lock).write_count ≡ (counts_at limits first).write_count =
        grind (arith, q) in
        let known = s.fits.3 (sym same) in
        let all : loaded ≡ content = all_of loaded content known.1 h in
        let r = right job s.fits.0 all in (
          record {
            admitted = s.admitted;
            writers = refl;
            readers = refl;
            width = rw r.1 s.width;
            same_width = ap length r.1;
            free = rw r.1 s.free;
            fits = tt;
            effect = inl (refl, refl, r.1, refl);
          },
          r.0,
        )

    go : (b : Bool) → nat_lt (length loaded) n ≡ b →
        MovedRightly limits job (Copying first loaded) lock record_words content
        (lock_after (if b then LoadWord (length loaded) else LoadLock) lock)
        (record_words_after (if b then LoadWord (length loaded) else LoadLock) record_words) (if b
        then Going (Copying first
        (loaded ++ local_found (if b then LoadWord (length loaded) else LoadLock) lock
        record_words ∷ []))
        else (if unchanged limits first
        (local_found (if b then LoadWord (length loaded) else LoadLock) lock record_words)
        then Done (reply.Content loaded) else Going (Locking Share None)))
    go true q =
        let h : length loaded < length content = grind (arith, q, e) in
        stays limits job (Copying first loaded)
        (Copying first (loaded ++ slice_index record_words (length loaded) ∷ [])) lock record_words content s
        refl refl (
          s.fits.0,
          s.fits.1,
          grind (arith, common_steps),
          λ p. let k = s.fits.3 p in
              (k.0, begins_more loaded record_words content (s.free k.0) k.1 h),
        )
    go false q = validated (unchanged limits first lock) refl (grind (arith, q, e))

within_of : (limits : Bounds) (lock : ℕ) → AreInRange limits → IsAdmittedAt limits lock →
    CountsAreWithin limits (counts_at limits lock)
within_of limits lock range w =
    rw (counts-of limits lock w.events range w.represented)
    (obeys_now limits w.events w.represented.well_formed).within

no_writer : (limits : Bounds) (lock : ℕ) → AreInRange limits → IsAdmittedAt limits lock →
    0 < (counts_at limits lock).readers → (counts_at limits lock).writers ≡ 0
no_writer limits lock range a h = let w = within_of limits lock range a in grind (arith, w.apart)

no_reader : (limits : Bounds) (lock : ℕ) → AreInRange limits → IsAdmittedAt limits lock →
    1 ≤ (counts_at limits lock).writers → ((counts_at limits lock).writers ≡ 1)
    × ((counts_at limits lock).readers ≡ 0)
no_reader limits lock range a h = let w = within_of limits lock range a in
    (omega (arith, w.one_writer), w.apart (omega arith))

reading : (limits : Bounds) (n : ℕ) (job : Job) (t : ℕ) (loaded : List ℕ) (lock : ℕ)
    (record_words content : List ℕ) → Stands limits job (Reading t loaded) lock record_words content →
    n ≡ length content →
    MovedRightly limits job (Reading t loaded) lock record_words content lock record_words
    (after limits n job (Reading t loaded) (slice_index record_words (length loaded)))
reading limits n job t loaded lock record_words content s e = go (nat_lt (length loaded + 1) n) refl
  where
    more : loaded ++ slice_index record_words (length loaded) ∷ []
        ≡ take (length (loaded ++ slice_index record_words (length loaded) ∷ [])) content
    more = begins_more loaded record_words content
        (s.free (no_writer limits lock s.range s.admitted (omega (arith, s.reads)))) s.fits.1.1
        s.fits.2

    count : length (loaded ++ slice_index record_words (length loaded) ∷ []) ≡ length loaded + 1
    count = grind (arith, common_steps)

    done : (g x : Bool) → is_get job ≡ g →
        expects job (loaded ++ slice_index record_words (length loaded) ∷ []) ≡ x →
        loaded ++ slice_index record_words (length loaded) ∷ [] ≡ content →
        MovedRightly limits job (Reading t loaded) lock record_words content lock record_words (if g
        then Going (Locking (Leave t (loaded ++ slice_index record_words (length loaded) ∷ [])) None)
        else (if x then Going (Locking (Upgrade t) None)
        else Going (Locking (Refuse t) None)))
    done true x g q all =
        stays limits job (Reading t loaded)
        (Locking (Leave t (loaded ++ slice_index record_words (length loaded) ∷ [])) None) lock record_words
        content s refl refl (g, s.fits.0, all)
    done false true g q all =
        stays limits job (Reading t loaded) (Locking (Upgrade t) None) lock record_words content s refl
        refl (g, s.fits.0, rw all at q)
    done false false g q all =
        stays limits job (Reading t loaded) (Locking (Refuse t) None) lock record_words content s refl
        refl (g, s.fits.0, rw all at q)

    go : (b : Bool) → nat_lt (length loaded + 1) n ≡ b →
        MovedRightly limits job (Reading t loaded) lock record_words content lock record_words (if b
        then Going (Reading t (loaded ++ slice_index record_words (length loaded) ∷ []))
        else all_read job t (loaded ++ slice_index record_words (length loaded) ∷ []))
    go true q =
        stays limits job (Reading t loaded)
        (Reading t (loaded ++ slice_index record_words (length loaded) ∷ [])) lock record_words content s refl
        refl
        (s.fits.0, (rw count (omega (arith, s.fits.2)), more), rw count (grind (arith, q, e)))
    go false q =
        done (is_get job) (expects job (loaded ++ slice_index record_words (length loaded) ∷ [])) refl refl
        (all_of _ content more (rw count (grind (arith, q, e))))

-- the words while a writer stores, after one more word is stored
stored_at : (words content : List ℕ) (i : ℕ) → i < length content → length words ≡ length content →
    slice_set (take i words ++ drop i content) i (slice_index words i) ≡ take (suc i) words
    ++ drop (suc i) content
stored_at [] [] i h l = absurd (omega arith)
stored_at [] (y ∷ content) i h l = absurd (omega arith)
stored_at (x ∷ words) [] i h l = absurd (omega arith)
stored_at (x ∷ words) (y ∷ content) zero h l = refl
stored_at (x ∷ words) (y ∷ content) (suc i) h l =
    ap (λ xs. x ∷ xs) (stored_at words content i (omega arith) (omega arith))

stored_more : (words record_words content : List ℕ) (i : ℕ) → record_words ≡ take i words ++ drop i content →
    i < length content → length words ≡ length content →
    slice_set record_words i (slice_index words i) ≡ take (i + 1) words ++ drop (i + 1) content
stored_more words record_words content i e h l = rw (add-one, e) (stored_at words content i h l)

put_words : (job : Job) (content : List ℕ) → is_get job ≡ false → (is_get job ≡ true)
    ⊎ (length (new_words job) ≡ length content) → length (new_words job) ≡ length content
put_words job content g (inl h) = cc
put_words job content g (inr h) = h

stored_right : (job : Job) (content : List ℕ) → is_get job ≡ false → expects job content ≡ true →
    (stored_reply job ≡ reply_to content job) × (content_with content job ≡ new_words job)
stored_right Getting content g x = cc
stored_right (Putting a) content g x = (refl, refl)
stored_right (PuttingIf a b) content g x = (rw x refl, rw x refl)

storing : (limits : Bounds) (n : ℕ) (job : Job) (t i : ℕ) (lock : ℕ) (record_words content : List ℕ) →
    Stands limits job (Storing t i) lock record_words content → n ≡ length content →
    MovedRightly limits job (Storing t i) lock record_words content lock
    (slice_set record_words i (slice_index (new_words job) i))
    (after limits n job (Storing t i) (slice_index record_words i))
storing limits n job t i lock record_words content s e = go (nat_lt (i + 1) n) refl
  where
    alone : ((counts_at limits lock).writers ≡ 1) × ((counts_at limits lock).readers ≡ 0)
    alone = no_reader limits lock s.range s.admitted s.writes

    words : length (new_words job) ≡ length content
    words = put_words job content s.fits.0 s.words

    more : slice_set record_words i (slice_index (new_words job) i) ≡ take (i + 1) (new_words job)
        ++ drop (i + 1) content
    more = stored_more (new_words job) record_words content i s.fits.4 s.fits.3 words

    moved : (to : RecordStage) → read_by to ≡ 0 → written_by to ≡ 1 →
        FitsRecordStage limits (counts_at limits lock).write_count (counts_at limits lock).writers content
        (slice_set record_words i (slice_index (new_words job) i)) job to →
        MovedRightly limits job (Storing t i) lock record_words content lock
        (slice_set record_words i (slice_index (new_words job) i)) (Going to)
    moved to r w f = (
      record {
        admitted = s.admitted;
        writers = omega (arith, w);
        readers = omega (arith, r);
        width = length-set record_words i _ ∙ s.width;
        same_width = refl;
        free = λ z. absurd (omega (arith, alone.0));
        fits = (s.some, s.words, f);
        effect = inr (alone.0, alone.1, inr (alone.0, refl));
      },
      tt,
    )

    go : (b : Bool) → nat_lt (i + 1) n ≡ b →
        MovedRightly limits job (Storing t i) lock record_words content lock
        (slice_set record_words i (slice_index (new_words job) i)) (if b then Going (Storing t (i + 1))
        else Going (Releasing t (stored_reply job)))
    go true q = moved (Storing t (i + 1)) refl refl
        (s.fits.0, s.fits.1, s.fits.2, grind (arith, q, e), more)
    go false q =
        let right = stored_right job content s.fits.0 s.fits.2 in
        let whole : take (i + 1) (new_words job) ++ drop (i + 1) content ≡ new_words job =
        rw (
          take_all (i + 1) (new_words job) (grind (arith, q, e, words)),
          drop_all (i + 1) content (grind (arith, q, e)),
        ) (append-nil (new_words job)) in
        moved (Releasing t (stored_reply job)) refl refl
        (s.fits.1, right.0, more ∙ whole ∙ sym right.1)

checking : (limits : Bounds) (n : ℕ) (job : Job) (t : ℕ) (loaded : List ℕ) (lock : ℕ)
    (record_words content : List ℕ) → Stands limits job (Checking t loaded) lock record_words content →
    n ≡ length content →
    MovedRightly limits job (Checking t loaded) lock record_words content lock record_words
    (after limits n job (Checking t loaded) (slice_index record_words (length loaded)))
checking limits n job t loaded lock record_words content s e = go (nat_lt (length loaded + 1) n) refl
  where
    more : loaded ++ slice_index record_words (length loaded) ∷ []
        ≡ take (length (loaded ++ slice_index record_words (length loaded) ∷ [])) content
    more = begins_more loaded record_words content s.fits.2 s.fits.3.1 s.fits.4

    count : length (loaded ++ slice_index record_words (length loaded) ∷ []) ≡ length loaded + 1
    count = grind (arith, common_steps)

    refused : (job : Job) → is_get job ≡ false → expects job content ≡ false →
        (reply.No ≡ reply_to content job) × (content_with content job ≡ content)
    refused Getting g x = cc
    refused (Putting a) g x = cc
    refused (PuttingIf a b) g x = (rw x refl, rw x refl)

    done : (x : Bool) → expects job (loaded ++ slice_index record_words (length loaded) ∷ []) ≡ x →
        loaded ++ slice_index record_words (length loaded) ∷ [] ≡ content →
        MovedRightly limits job (Checking t loaded) lock record_words content lock record_words (if x
        then Going (Storing t 0) else Going (Releasing t reply.No))
    done true q all =
        stays limits job (Checking t loaded) (Storing t 0) lock record_words content s refl refl
        (s.fits.0, s.fits.1, rw all at q, s.some, s.fits.2)
    done false q all =
        let r = refused job s.fits.0 (rw all at q) in
        stays limits job (Checking t loaded) (Releasing t reply.No) lock record_words content s refl refl
        (s.fits.1, r.0, s.fits.2 ∙ sym r.1)

    go : (b : Bool) → nat_lt (length loaded + 1) n ≡ b →
        MovedRightly limits job (Checking t loaded) lock record_words content lock record_words (if b
        then Going (Checking t (loaded ++ slice_index record_words (length loaded) ∷ []))
        else (if expects job (loaded ++ slice_index record_words (length loaded) ∷ [])
        then Going (Storing t 0) else Going (Releasing t reply.No)))
    go true q =
        stays limits job (Checking t loaded)
        (Checking t (loaded ++ slice_index record_words (length loaded) ∷ [])) lock record_words content s
        refl refl (
          s.fits.0,
          s.fits.1,
          s.fits.2,
          (rw count (omega (arith, s.fits.4)), more),
          rw count (grind (arith, q, e)),
        )
    go false q =
        done (expects job (loaded ++ slice_index record_words (length loaded) ∷ [])) refl
        (all_of _ content more (rw count (grind (arith, q, e))))

-- the word that a release leaves
word_held : (limits : Bounds) (c : Counts) → c.writers ≡ 1 →
    word_number (units limits) c ≡ write_stamp (units limits) c.write_count
word_held limits c h = rw h refl

ended_counts : (c : Counts) (k : ℕ) → c.write_count ≡ k → c.readers ≡ 0 →
    after_events c (WriteReleased ∷ []) ≡ record { write_count = k; writers = 0; readers = 0 }
ended_counts c k p q = rw (p, q) refl

released_number : (limits : Bounds) (k t : ℕ) → t ≡ write_stamp (units limits) k →
    t + (units limits).writer ≡ (units limits).version * (k + 1) + 0
released_number limits k t e =
    elim (either_layout limits.layout)
    [ inl h ↦ rw (e, h.0, h.1) (omega arith) | inr h ↦ rw (e, h.0, h.1) (omega arith) ]

released : (limits : Bounds) (lock t : ℕ) → AreInRange limits → IsAdmittedAt limits lock →
    (counts_at limits lock).writers ≡ 1 →
    t ≡ write_stamp (units limits) (counts_at limits lock).write_count → (lock ≡ t)
    × (counts_at limits (t + (units limits).writer)
    ≡ record { write_count = (counts_at limits lock).write_count; writers = 0; readers = 0 })
    × IsAdmittedAt limits (t + (units limits).writer)
released limits lock t range w h e =
    let same : counts_at limits lock ≡ counts w.events =
    counts-of limits lock w.events range w.represented in
    let none : (counts_at limits lock).readers ≡ 0 =
    (within_of limits lock range w).apart (omega (arith, h)) in
    let one : (counts w.events).writers ≡ 1 = ap (λ (c : Counts). c.writers) (sym same) ∙ h in
    let unread : (counts w.events).readers ≡ 0 = ap (λ (c : Counts). c.readers) (sym same) ∙ none in
    let k : (counts w.events).write_count ≡ (counts_at limits lock).write_count =
    ap (λ (c : Counts). c.write_count) (sym same) in
    let more = push_all limits (WriteReleased ∷ []) w.events w.represented.well_formed
    ((one, unread), tt) in
    let now : counts (w.events ++ WriteReleased ∷ [])
    ≡ record { write_count = (counts_at limits lock).write_count; writers = 0; readers = 0 } =
    more.1 ∙ ended_counts (counts w.events) (counts_at limits lock).write_count k unread in
    let number : t + (units limits).writer
    ≡ word_number (units limits) (counts (w.events ++ WriteReleased ∷ [])) =
    released_number limits (counts_at limits lock).write_count t e
    ∙ sym (ap (λ (c : Counts). word_number (units limits) c) now) in
    let represented : RepresentsAt limits (t + (units limits).writer)
    (w.events ++ WriteReleased ∷ []) =
    record { well_formed = more.0; layout = refl; spelled = number } in (
      w.represented.spelled ∙ word_held limits (counts w.events) one
          ∙ ap (λ (n : ℕ). write_stamp (units limits) n) k ∙ sym e,
      counts-of limits _ _ range represented ∙ now,
      record { events = w.events ++ WriteReleased ∷ []; represented = represented },
    )

pub releasing-wins : (limits : Bounds) (job : Job) (t : ℕ) (a : Reply) (lock : ℕ)
    (record_words content : List ℕ) → Stands limits job (Releasing t a) lock record_words content → lock ≡ t
releasing-wins limits job t a lock record_words content s =
    let alone = no_reader limits lock s.range s.admitted s.writes in
    (released limits lock t s.range s.admitted alone.0 s.fits.0).0

releasing : (limits : Bounds) (n : ℕ) (job : Job) (t : ℕ) (a : Reply) (lock : ℕ)
    (record_words content : List ℕ) → Stands limits job (Releasing t a) lock record_words content →
    n ≡ length content →
    MovedRightly limits job (Releasing t a) lock record_words content (if lock == t then t + (units limits).writer
    else lock) record_words (Done a)
releasing limits n job t a lock record_words content s e =
    let alone = no_reader limits lock s.range s.admitted s.writes in
    let r = released limits lock t s.range s.admitted alone.0 s.fits.0 in
    let won : (lock == t) ≡ true = grind (arith, r.0) in
    rw won (
      record {
        admitted = r.2;
        writers = rw (r.1, alone.0) refl;
        readers = rw (r.1, alone.1) refl;
        width = ap length s.fits.2;
        same_width = sym (ap length s.fits.2) ∙ s.width;
        free = λ _. s.fits.2;
        fits = tt;
        effect = inr (alone.0, alone.1, inr (alone.0, rw r.1 refl));
      },
      s.fits.1,
    )

items_same : (limits : Bounds) (call : Call) (seen : Option ℕ) (record_words : List ℕ) →
    record_words_after (phase_plan limits call seen) record_words ≡ record_words
items_same limits call None record_words = refl
items_same limits call (Some word) record_words = go (decision limits word call)
  where
    go : (d : Decision) → record_words_after (plan_on word d) record_words ≡ record_words
    go (Answer r) = refl
    go (Change new r) = refl
    go Wait = refl

-- a lock step goes on with another word seen
still : (limits : Bounds) (job : Job) (e : OwnLockCall) (seen now : Option ℕ) (lock : ℕ)
    (record_words content : List ℕ) → Stands limits job (Locking e seen) lock record_words content →
    MovedRightly limits job (Locking e seen) lock record_words content lock record_words (Going (Locking e now))
still limits job Share seen now lock record_words content s =
    stays limits job (Locking Share seen) (Locking Share now) lock record_words content s refl refl
    s.fits
still limits job (Leave t loaded) seen now lock record_words content s =
    stays limits job (Locking (Leave t loaded) seen) (Locking (Leave t loaded) now) lock record_words
    content s refl refl s.fits
still limits job (Refuse t) seen now lock record_words content s =
    stays limits job (Locking (Refuse t) seen) (Locking (Refuse t) now) lock record_words content s
    refl refl s.fits
still limits job (Upgrade t) seen now lock record_words content s =
    stays limits job (Locking (Upgrade t) seen) (Locking (Upgrade t) now) lock record_words content s
    refl refl s.fits
still limits job (ReleaseFirst t) seen now lock record_words content s =
    stays limits job (Locking (ReleaseFirst t) seen) (Locking (ReleaseFirst t) now) lock record_words content s
    refl refl s.fits
still limits job Claim seen now lock record_words content s =
    stays limits job (Locking Claim seen) (Locking Claim now) lock record_words content s refl refl
    s.fits

-- an exchange on the lock, after which the call goes on
goes : (limits : Bounds) (job : Job) (stage to : RecordStage) (lock lock' : ℕ) (record_words content : List ℕ) →
    Stands limits job stage lock record_words content → IsAdmittedAt limits lock' →
    (counts_at limits lock').writers + written_by stage ≡ (counts_at limits lock).writers
    + written_by to → (counts_at limits lock').readers + read_by stage
    ≡ (counts_at limits lock).readers + read_by to →
    ((counts_at limits lock').writers ≡ 0 → record_words ≡ content) →
    FitsRecordStage limits (counts_at limits lock').write_count (counts_at limits lock').writers content record_words
    job to → SameFor limits lock record_words content lock' record_words content
    ⊎ AloneFor limits stage lock lock' →
    MovedRightly limits job stage lock record_words content lock' record_words (Going to)
goes limits job stage to lock lock' record_words content s a w r f g e = (
  record {
    admitted = a;
    writers = w;
    readers = r;
    width = s.width;
    same_width = refl;
    free = f;
    fits = (s.some, s.words, g);
    effect = e;
  },
  tt,
)

is_read : (limits : Bounds) (k k' r s : ℕ) → AreInRange limits → r < limits.readers → k' ≡ k →
    s ≡ read_stamp (units limits) k (r + 1) → IsRead limits k' s
is_read limits k k' r s range h e st = rw (e, st) (omega arith, omega (arith, range.readers))

write_some : (limits : Bounds) (k s : ℕ) → s ≡ write_stamp (units limits) k → (s == 0) ≡ false
write_some limits k s e =
    elim (either_layout limits.layout) [
      | inl h ↦ rw (e, h.0, h.1) (grind (arith, nat_tests))
      | inr h ↦ rw (e, h.0, h.1)
          (grind (arith, nat_tests))
    ]

read_locked : (limits : Bounds) (job : Job) (seen : Option ℕ) (lock lock' : ℕ) (record_words content : List ℕ)
    (r : Reply) → Stands limits job (Locking Share seen) lock record_words content →
    CallLeaves limits ReadLock lock lock' r →
    MovedRightly limits job (Locking Share seen) lock record_words content lock' record_words
    (Going (Reading (stamp_in r) []))
read_locked limits job seen lock lock' record_words content r s t =
    let h = shared_at limits (counts_at limits lock) t.taken t.transition in
    let cs : counts_at limits lock' ≡ record {
      write_count = (counts_at limits lock).write_count;
      writers = (counts_at limits lock).writers;
      readers = (counts_at limits lock).readers + 1;
    } =
    t.counts ∙ ap (after_events (counts_at limits lock)) h.2 in
    let k : (counts_at limits lock').write_count ≡ (counts_at limits lock).write_count =
    ap (λ (c : Counts). c.write_count) cs in
    let w : (counts_at limits lock').writers ≡ (counts_at limits lock).writers =
    ap (λ (c : Counts). c.writers) cs in
    let n : (counts_at limits lock').readers ≡ (counts_at limits lock).readers + 1 =
    ap (λ (c : Counts). c.readers) cs in
    let st : stamp_in r ≡ read_stamp (units limits) (counts_at limits lock).write_count
    ((counts_at limits lock).readers + 1) = ap stamp_in (sym t.reply ∙ h.3) in
    goes limits job (Locking Share seen) (Reading (stamp_in r) []) lock lock' record_words content s
    (left-admitted _ _ _ _ _ s.admitted t) (omega (arith, w)) (omega (arith, n)) (λ _. s.free h.0)
    (is_read limits _ _ _ _ s.range h.1 k st, (omega arith, refl), s.some)
    (inl (k, w, refl, refl))

-- after an unlock
left_counts : (limits : Bounds) (lock lock' t : ℕ) (r : Reply) →
    CallLeaves limits (UnlockRead t) lock lock' r → IsRead limits (counts_at limits lock).write_count t →
    0 < (counts_at limits lock).readers →
    ((counts_at limits lock').write_count ≡ (counts_at limits lock).write_count)
    × ((counts_at limits lock').writers ≡ (counts_at limits lock).writers)
    × ((counts_at limits lock').readers + 1 ≡ (counts_at limits lock).readers)
left_counts limits lock lock' t r u i h =
    let appended = left_at limits (counts_at limits lock) t u.taken u.transition i h in
    let cs : counts_at limits lock' ≡ record {
      write_count = (counts_at limits lock).write_count;
      writers = (counts_at limits lock).writers;
      readers = (counts_at limits lock).readers - 1;
    } =
    u.counts ∙ ap (after_events (counts_at limits lock)) appended in (
      ap (λ (c : Counts). c.write_count) cs,
      ap (λ (c : Counts). c.writers) cs,
      omega (arith, ap (λ (c : Counts). c.readers) cs, h),
    )

-- an unlock that ends a call which changes nothing
leaves : (limits : Bounds) (job : Job) (stage : RecordStage) (lock lock' t : ℕ) (record_words content : List ℕ)
    (r : Reply) (a : Reply) → Stands limits job stage lock record_words content → read_by stage ≡ 1 →
    written_by stage ≡ 0 → CallLeaves limits (UnlockRead t) lock lock' r →
    IsRead limits (counts_at limits lock).write_count t → a ≡ reply_to content job →
    content_with content job ≡ content →
    MovedRightly limits job stage lock record_words content lock' record_words (Done a)
leaves limits job stage lock lock' t record_words content r a s rd wr u i right same =
    let l = left_counts limits lock lock' t r u i (omega (arith, s.reads, rd)) in
    let free : record_words ≡ content =
    s.free (no_writer limits lock s.range s.admitted (omega (arith, s.reads, rd))) in (
      record {
        admitted = left-admitted _ _ _ _ _ s.admitted u;
        writers = omega (arith, l.1, wr);
        readers = omega (arith, l.2, rd);
        width = rw same s.width;
        same_width = ap length same;
        free = λ _. rw same free;
        fits = tt;
        effect = inl (l.0, l.1, same, refl);
      },
      right,
    )

got_content : (job : Job) (loaded content : List ℕ) → is_get job ≡ true → loaded ≡ content →
    (reply.Content loaded ≡ reply_to content job) × (content_with content job ≡ content)
got_content Getting loaded content g q = (ap reply.Content q, refl)
got_content (Putting a) loaded content g q = cc
got_content (PuttingIf a b) loaded content g q = cc

refused_no : (job : Job) (content : List ℕ) → is_get job ≡ false → expects job content ≡ false →
    (reply.No ≡ reply_to content job) × (content_with content job ≡ content)
refused_no Getting content g x = cc
refused_no (Putting a) content g x = cc
refused_no (PuttingIf a b) content g x = (rw x refl, rw x refl)

-- write mode was got, by a call that holds nothing or the only read lock
claims : (limits : Bounds) (job : Job) (stage to : RecordStage) (lock lock' st : ℕ)
    (record_words content : List ℕ) → Stands limits job stage lock record_words content →
    IsAdmittedAt limits lock' → written_by stage ≡ 0 → (counts_at limits lock).writers ≡ 0 →
    (counts_at limits lock).readers ≡ read_by stage →
    counts_at limits lock' ≡ record {
      write_count = (counts_at limits lock).write_count + 1;
      writers = 1;
      readers = 0;
    } → read_by to ≡ 0 → written_by to ≡ 1 →
    FitsRecordStage limits ((counts_at limits lock).write_count + 1) 1 content record_words job to →
    MovedRightly limits job stage lock record_words content lock' record_words (Going to)
claims limits job stage to lock lock' st record_words content s a wr free alone cs r w f =
    let k : (counts_at limits lock').write_count ≡ (counts_at limits lock).write_count + 1 =
    ap (λ (c : Counts). c.write_count) cs in
    let n : (counts_at limits lock').writers ≡ 1 = ap (λ (c : Counts). c.writers) cs in
    let m : (counts_at limits lock').readers ≡ 0 = ap (λ (c : Counts). c.readers) cs in
    let P : ℕ → ℕ → Type 0 = λ x y. FitsRecordStage limits x y content record_words job to in
    goes limits job stage to lock lock' record_words content s a (omega (arith, n, wr, free, w))
    (omega (arith, m, alone, r)) (λ z. absurd (omega (arith, n, z)))
    (subst (λ (x : ℕ). FitsRecordStage limits x (counts_at limits lock').writers content record_words job to) (sym k)
    (subst (λ (y : ℕ). FitsRecordStage limits ((counts_at limits lock).write_count + 1) y content record_words
    job to) (sym n) f))
    (inr (free ∙ sym wr, alone, inl k))

upgrade_counts : (c : Counts) → c.writers ≡ 0 → c.readers ≡ 1 →
    after_events c (ReadReleased ∷ WriteAcquired ∷ [])
    ≡ record { write_count = c.write_count + 1; writers = 1; readers = 0 }
upgrade_counts c w r = rw r refl

claim_counts : (c : Counts) → c.writers ≡ 0 → c.readers ≡ 0 →
    after_events c (WriteAcquired ∷ [])
    ≡ record { write_count = c.write_count + 1; writers = 1; readers = 0 }
claim_counts c w r = rw r refl

upgraded : (limits : Bounds) (job : Job) (u : ℕ) (seen : Option ℕ) (lock lock' : ℕ)
    (record_words content : List ℕ) (r : Reply) →
    Stands limits job (Locking (Upgrade u) seen) lock record_words content →
    CallLeaves limits (ToWrite u) lock lock' r →
    MovedRightly limits job (Locking (Upgrade u) seen) lock record_words content lock' record_words
    (own_call_done job (Upgrade u) (stamp_in r))
upgraded limits job u seen lock lock' record_words content r s t =
    go (upgraded_at limits (counts_at limits lock) u t.taken t.transition free
    (omega (arith, s.reads)))
  where
    free : (counts_at limits lock).writers ≡ 0
    free = no_writer limits lock s.range s.admitted (omega (arith, s.reads))

    go : (((counts_at limits lock).readers ≡ 1)
        × (t.taken.appended ≡ ReadReleased ∷ WriteAcquired ∷ [])
        × (t.taken.reply
        ≡ reply.Stamp (write_stamp (units limits) ((counts_at limits lock).write_count + 1))))
        ⊎ ((t.taken.appended ≡ []) × (t.taken.reply ≡ reply.Stamp 0)) →
        MovedRightly limits job (Locking (Upgrade u) seen) lock record_words content lock' record_words
        (own_call_done job (Upgrade u) (stamp_in r))
    go (inl h) =
        let st : stamp_in r ≡ write_stamp (units limits) ((counts_at limits lock).write_count + 1) =
        ap stamp_in (sym t.reply ∙ h.2) in
        let some : (stamp_in r == 0) ≡ false = write_some limits _ _ st in
        rw some (claims limits job (Locking (Upgrade u) seen) (Storing (stamp_in r) 0) lock lock'
        0 record_words content s (left-admitted _ _ _ _ _ s.admitted t) refl free h.0
        (t.counts ∙ ap (after_events (counts_at limits lock)) h.1
        ∙ upgrade_counts (counts_at limits lock) free h.0) refl refl
        (s.fits.0, st, s.fits.2, s.some, s.free free))
    go (inr h) =
        let st : stamp_in r ≡ 0 = ap stamp_in (sym t.reply ∙ h.1) in
        let cs : counts_at limits lock' ≡ counts_at limits lock =
        t.counts ∙ ap (after_events (counts_at limits lock)) h.0 in
        let k : (counts_at limits lock').write_count ≡ (counts_at limits lock).write_count =
        ap (λ (c : Counts). c.write_count) cs in
        let w : (counts_at limits lock').writers ≡ (counts_at limits lock).writers =
        ap (λ (c : Counts). c.writers) cs in
        let n : (counts_at limits lock').readers ≡ (counts_at limits lock).readers =
        ap (λ (c : Counts). c.readers) cs in
        rw st (goes limits job (Locking (Upgrade u) seen) (Locking (ReleaseFirst u) None) lock lock'
        record_words content s (left-admitted _ _ _ _ _ s.admitted t) (omega (arith, w))
        (omega (arith, n)) (λ _. s.free free)
        (s.fits.0, rw k s.fits.1) (inl (k, w, refl, refl)))

claim-ends : (limits : Bounds) (job : Job) (seen : Option ℕ) (lock lock' : ℕ) (record_words content : List ℕ)
    (r : Reply) → Stands limits job (Locking Claim seen) lock record_words content →
    CallLeaves limits WriteLock lock lock' r →
    MovedRightly limits job (Locking Claim seen) lock record_words content lock' record_words
    (own_call_done job Claim (stamp_in r))
claim-ends limits Getting seen lock lock' record_words content r s t = absurd (true_false s.fits)
  where
    true_false : true ≡ false → ⊥
    true_false e = cc
claim-ends limits (Putting a) seen lock lock' record_words content r s t =
    let h = claimed_at limits (counts_at limits lock) t.taken t.transition s.room in
    claims limits (Putting a) (Locking Claim seen) (Storing (stamp_in r) 0) lock lock' 0 record_words
    content s (left-admitted _ _ _ _ _ s.admitted t) refl h.0 h.1
    (t.counts ∙ ap (after_events (counts_at limits lock)) h.2
    ∙ claim_counts (counts_at limits lock) h.0 h.1) refl refl
    (refl, ap stamp_in (sym t.reply ∙ h.3), refl, s.some, s.free h.0)
claim-ends limits (PuttingIf a b) seen lock lock' record_words content r s t =
    let h = claimed_at limits (counts_at limits lock) t.taken t.transition s.room in
    claims limits (PuttingIf a b) (Locking Claim seen) (Checking (stamp_in r) []) lock lock' 0
    record_words content s (left-admitted _ _ _ _ _ s.admitted t) refl h.0 h.1
    (t.counts ∙ ap (after_events (counts_at limits lock)) h.2
    ∙ claim_counts (counts_at limits lock) h.0 h.1) refl refl
    (refl, ap stamp_in (sym t.reply ∙ h.3), s.free h.0, (omega arith, refl), s.some)

ended : (limits : Bounds) (job : Job) (e : OwnLockCall) (seen : Option ℕ) (lock lock' : ℕ)
    (record_words content : List ℕ) (r : Reply) → Stands limits job (Locking e seen) lock record_words content →
    CallLeaves limits (call_for e) lock lock' r →
    MovedRightly limits job (Locking e seen) lock record_words content lock' record_words
    (own_call_done job e (stamp_in r))
ended limits job Share seen lock lock' record_words content r s t =
    read_locked limits job seen lock lock' record_words content r s t
ended limits job (Leave u loaded) seen lock lock' record_words content r s t =
    let g = got_content job loaded content s.fits.0 s.fits.2 in
    leaves limits job (Locking (Leave u loaded) seen) lock lock' u record_words content r
    (reply.Content loaded) s refl refl t s.fits.1 g.0 g.1
ended limits job (Refuse u) seen lock lock' record_words content r s t =
    let g = refused_no job content s.fits.0 s.fits.2 in
    leaves limits job (Locking (Refuse u) seen) lock lock' u record_words content r reply.No s refl refl
    t s.fits.1 g.0 g.1
ended limits job (ReleaseFirst u) seen lock lock' record_words content r s t =
    let l = left_counts limits lock lock' u r t s.fits.1 s.reads in
    goes limits job (Locking (ReleaseFirst u) seen) (Locking Claim None) lock lock' record_words content s
    (left-admitted _ _ _ _ _ s.admitted t) (omega (arith, l.1)) (omega (arith, l.2))
    (λ z. s.free (sym l.1 ∙ z)) s.fits.0 (inl (l.0, l.1, refl, refl))
ended limits job (Upgrade u) seen lock lock' record_words content r s t =
    upgraded limits job u seen lock lock' record_words content r s t
ended limits job Claim seen lock lock' record_words content r s t =
    claim-ends limits job seen lock lock' record_words content r s t

locking : (limits : Bounds) (job : Job) (e : OwnLockCall) (seen : Option ℕ) (lock : ℕ)
    (record_words content : List ℕ) → Stands limits job (Locking e seen) lock record_words content →
    MovedRightly limits job (Locking e seen) lock record_words content
    (lock_after (phase_plan limits (call_for e) seen) lock)
    (record_words_after (phase_plan limits (call_for e) seen) record_words)
    (passed job e
    (phase_after limits (call_for e) seen
    (local_found (phase_plan limits (call_for e) seen) lock record_words)))
locking limits job e seen lock record_words content s =
    rw (items_same limits (call_for e) seen record_words)
    (go _ _ (phase-leaves limits (call_for e) lock record_words seen s.range s.admitted))
  where
    go : (lock' : ℕ) (p : PhaseTurn) → PhaseLeaves limits (call_for e) lock lock' p →
        MovedRightly limits job (Locking e seen) lock record_words content lock' record_words (passed job e p)
    go lock' (phases.Going now) l = rw l (still limits job e seen now lock record_words content s)
    go lock' (phases.Done r) t = ended limits job e seen lock lock' record_words content r s t

-- one access of a record call
pub own-step : (limits : Bounds) (n : ℕ) (job : Job) (stage : RecordStage) (lock : ℕ)
    (record_words content : List ℕ) → Stands limits job stage lock record_words content → n ≡ length content →
    MovedRightly limits job stage lock record_words content (lock_after (plan limits n job stage) lock)
    (record_words_after (plan limits n job stage) record_words)
    (after limits n job stage (local_found (plan limits n job stage) lock record_words))
own-step limits n job LoadingLock lock record_words content s e =
    loading-lock limits n job lock record_words content s e
own-step limits n job (Copying first loaded) lock record_words content s e =
    copying limits n job first loaded lock record_words content s e
own-step limits n job (Locking own_call seen) lock record_words content s e =
    locking limits job own_call seen lock record_words content s
own-step limits n job (Reading t loaded) lock record_words content s e =
    reading limits n job t loaded lock record_words content s e
own-step limits n job (Checking t loaded) lock record_words content s e =
    checking limits n job t loaded lock record_words content s e
own-step limits n job (Storing t i) lock record_words content s e =
    storing limits n job t i lock record_words content s e
own-step limits n job (Releasing t a) lock record_words content s e =
    releasing limits n job t a lock record_words content s e
