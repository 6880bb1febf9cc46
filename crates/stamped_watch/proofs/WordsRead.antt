-- The words of an event, read from its bytes.
use Rattle.std.proofs.Common.{ℕ, zero, suc, ◌≡◌, ◌≢◌, ◌+◌, ◌-◌, ◌*◌, ◌<◌, ◌≤◌, List, [], ◌∷◌, ◌++◌, length, Some, refl}
use Rattle.std.proofs.Common.{sym}
use Rattle.std.proofs.Common.{◌∙◌, ap, subst, append_assoc, arith}
use Rattle.std.specs.Prelude.{drop, slice_set, take}
use Rattle.std.specs.Int.{from_le_bytes, w64}
use Rattle.std.proofs.Math.Seq.{drop-append_seam}
use Rattle.std.proofs.lemmas.List.{drop-append-le, length-append, length-drop, nil_from_length, take-append-le}
use Rattle.std.proofs.lemmas.List.{take_more_set}
use Rattle.stamp_core.specs.declared.call.Call.TheVariants as call
use Rattle.stamp_core.specs.declared.reply.Reply.TheVariants as reply
use Rattle.stamp_runs.specs.declared.event.Event.{Event}
use Rattle.stamp_runs.specs.declared.event.Event.TheVariants.{Begins, Returns, Withdraws}
use Rattle.stamped_watch.specs.EventBytes.{HasBytes, HasFront, IsOfWidth, kind_in, kind_of, lane_in}
use Rattle.stamped_watch.specs.EventBytes.{size_of, words_in}
use Rattle.stamped_watch.specs.EventBytes.{IsLongerIn}
use Rattle.stamped_watch.proofs.Plain.{longer_content_each, longer_put_each, longer_put_if_each}
use Rattle.stamped_watch.proofs.Streaming.{first_of}

pub length_words : (n : ℕ) (bytes : List ℕ) → length (words_in n bytes) ≡ n
length_words zero bytes = refl
length_words (suc n) bytes = omega (arith, length_words n (drop 8 bytes))

-- they are read so again
words_again : (n : ℕ) (bytes : List ℕ) → words_in (length (words_in n bytes)) bytes ≡ words_in n bytes
words_again n bytes = ap (λ (k : ℕ). words_in k bytes) (length_words n bytes)

words_both : (n m : ℕ) (xs ys : List ℕ) → length xs ≡ 8 * n →
    words_in (length (words_in n xs ++ words_in m ys)) (xs ++ ys) ≡ words_in n xs ++ words_in m ys
words_both zero m xs ys many =
    ap (λ (zs : List ℕ). words_in (length (words_in m ys)) (zs ++ ys)) (nil_from_length xs (omega (arith, many))) ∙
    words_again m ys
words_both (suc n) m xs ys many =
    ap (λ (zs : List ℕ). from_le_bytes w64 zs ∷ words_in (length (words_in n (drop 8 xs) ++ words_in m ys))
    (drop 8 (xs ++ ys))) (take-append-le 8 xs ys enough) ∙
    ap (λ (zs : List ℕ). from_le_bytes w64 (take 8 xs) ∷ words_in (length (words_in n (drop 8 xs) ++ words_in m ys)) zs)
    (drop-append-le 8 xs ys enough) ∙
    ap (λ (zs : List ℕ). from_le_bytes w64 (take 8 xs) ∷ zs) (words_both n m (drop 8 xs) ys rest)
  where
    enough : 8 ≤ length xs
    enough = omega (arith, many)

    rest : length (drop 8 xs) ≡ 8 * n
    rest = let long = length-drop 8 xs in omega (arith, many, long)

-- one word more is read
pub words_step : (i len w : ℕ) (words rest all : List ℕ) → i < len → i < length words →
    take i words ++ words_in (len - i) rest ≡ all → w ≡ from_le_bytes w64 (take 8 rest) →
    take (i + 1) (slice_set words i w) ++ words_in (len - (i + 1)) (drop 8 rest) ≡ all
words_step i len w words rest all less room so_far is =
    ap (λ (xs : List ℕ). xs ++ words_in (len - (i + 1)) (drop 8 rest)) (take_more_set words i w room) ∙
    append_assoc (take i words) (w ∷ []) (words_in (len - (i + 1)) (drop 8 rest)) ∙
    ap (λ (n : ℕ). take i words ++ n ∷ words_in (len - (i + 1)) (drop 8 rest)) is ∙
    ap (λ (n : ℕ). take i words ++ words_in n rest) (sym next) ∙ so_far
  where
    next : len - i ≡ suc (len - (i + 1))
    next = omega (arith, less)

-- an event that is longer than its first bytes, and neither a put nor a put_if, returns a content
other_each : (width m : ℕ) (e : Event) → IsOfWidth (Some width) e → kind_of e ≢ 18 → kind_of e ≢ 19 →
    size_of e ≡ 16 + m → 1 ≤ m → kind_of e ≡ 38
other_each width m (Begins lane call.TryWrite) fits not_put not_put_if size some = absurd (omega (arith, size, some))
other_each width m (Begins lane call.TryRead) fits not_put not_put_if size some = absurd (omega (arith, size, some))
other_each width m (Begins lane call.WriteLock) fits not_put not_put_if size some = absurd (omega (arith, size, some))
other_each width m (Begins lane call.ReadLock) fits not_put not_put_if size some = absurd (omega (arith, size, some))
other_each width m (Begins lane call.Optimistic) fits not_put not_put_if size some = absurd (omega (arith, size, some))
other_each width m (Begins lane (call.Validate s)) fits not_put not_put_if size some = absurd (omega (
  arith,
  size,
  some,
))
other_each width m (Begins lane (call.UnlockWrite s)) fits not_put not_put_if size some = absurd (omega (
  arith,
  size,
  some,
))
other_each width m (Begins lane (call.UnlockRead s)) fits not_put not_put_if size some = absurd (omega (
  arith,
  size,
  some,
))
other_each width m (Begins lane (call.Unlock s)) fits not_put not_put_if size some = absurd (omega (arith, size, some))
other_each width m (Begins lane (call.ToWrite s)) fits not_put not_put_if size some = absurd (omega (arith, size, some))
other_each width m (Begins lane (call.ToRead s)) fits not_put not_put_if size some = absurd (omega (arith, size, some))
other_each width m (Begins lane (call.ToOptimistic s)) fits not_put not_put_if size some = absurd (omega (
  arith,
  size,
  some,
))
other_each width m (Begins lane call.TryUnlockWrite) fits not_put not_put_if size some = absurd (omega (
  arith,
  size,
  some,
))
other_each width m (Begins lane call.TryUnlockRead) fits not_put not_put_if size some = absurd (omega (
  arith,
  size,
  some,
))
other_each width m (Begins lane call.IsWriteLocked) fits not_put not_put_if size some = absurd (omega (
  arith,
  size,
  some,
))
other_each width m (Begins lane call.IsReadLocked) fits not_put not_put_if size some = absurd (omega (
  arith,
  size,
  some,
))
other_each width m (Begins lane call.ReadCount) fits not_put not_put_if size some = absurd (omega (arith, size, some))
other_each width m (Begins lane call.Get) fits not_put not_put_if size some = absurd (omega (arith, size, some))
other_each width m (Begins lane (call.Put words)) fits not_put not_put_if size some = absurd (not_put refl)
other_each width m (Begins lane (call.PutIf expected words)) fits not_put not_put_if size some = absurd (not_put_if
    refl)
other_each width m (Returns lane (reply.Content words)) fits not_put not_put_if size some = refl
other_each width m (Returns lane (reply.Stamp s)) fits not_put not_put_if size some = absurd (omega (arith, size, some))
other_each width m (Returns lane reply.Yes) fits not_put not_put_if size some = absurd (omega (arith, size, some))
other_each width m (Returns lane reply.No) fits not_put not_put_if size some = absurd (omega (arith, size, some))
other_each width m (Returns lane reply.Done) fits not_put not_put_if size some = absurd (omega (arith, size, some))
other_each width m (Returns lane reply.Mismatch) fits not_put not_put_if size some = absurd (omega (arith, size, some))
other_each width m (Returns lane (reply.Count n)) fits not_put not_put_if size some = absurd (omega (arith, size, some))
other_each width m (Withdraws lane) fits not_put not_put_if size some = absurd (omega (arith, size, some))

module _ (width : ℕ) (front : List ℕ) (many : length front ≡ 16) (behind : List ℕ)
    (is : IsLongerIn (Some width) front (length behind)) where
  size : size_of is.one ≡ 16 + length behind
  size = is.each is.one is.front

  -- how many bytes the words have, by the kind
  pub put_long : kind_in front ≡ 18 → length behind ≡ 8 * width
  put_long kind = let each = (longer_put_each width is.one is.front.fits (is.front.kind ∙ kind)).0 in
      omega (arith, each, size)

  pub put_if_long : kind_in front ≡ 19 → length behind ≡ 16 * width
  put_if_long kind = let each = (longer_put_if_each width is.one is.front.fits (is.front.kind ∙ kind)).0 in
      omega (arith, each, size)

  content_kind : kind_in front ≢ 18 → kind_in front ≢ 19 → kind_in front ≡ 38
  content_kind not_put not_put_if = sym is.front.kind ∙ other_each width (length behind) is.one is.front.fits
      (λ same. not_put (sym is.front.kind ∙ same)) (λ same. not_put_if (sym is.front.kind ∙ same)) size is.some

  pub content_long : kind_in front ≢ 18 → kind_in front ≢ 19 → length behind ≡ 8 * width
  content_long not_put not_put_if =
      let each = (longer_content_each width is.one is.front.fits
      (is.front.kind ∙ content_kind not_put not_put_if)).0 in
      omega (arith, each, size)

  behind_is : drop 16 (front ++ behind) ≡ behind
  behind_is = ap (λ (n : ℕ). drop n (front ++ behind)) (sym many) ∙ drop-append_seam front behind

  front_is : (e : Event) → HasFront (Some width) e front → HasFront (Some width) e (take 16 (front ++ behind))
  front_is e has = subst (HasFront (Some width) e) (sym (first_of 16 front behind many)) has

  pub put_bytes : (lane : ℕ) → lane ≡ lane_in front → kind_in front ≡ 18 →
      HasBytes (Some width) (Begins lane (call.Put (words_in width behind))) (front ++ behind)
  put_bytes lane lane_is kind = record {
    many = let all = length-append front behind in let long = put_long kind in
        let words = length_words width behind in omega (arith, all, many, long, words);
    front = front_is (Begins lane (call.Put (words_in width behind))) (record {
      fits = length_words width behind;
      kind = sym kind;
      lane = lane_is;
      zeros = is.front.zeros;
      number = sym (longer_put_each width is.one is.front.fits (is.front.kind ∙ kind)).1 ∙ is.front.number;
    });
    words = ap (words_in (length (words_in width behind))) behind_is ∙ words_again width behind;
  }

  pub content_bytes : (lane : ℕ) → lane ≡ lane_in front → kind_in front ≢ 18 → kind_in front ≢ 19 →
      HasBytes (Some width) (Returns lane (reply.Content (words_in width behind))) (front ++ behind)
  content_bytes lane lane_is not_put not_put_if = record {
    many = let all = length-append front behind in let long = content_long not_put not_put_if in
        let words = length_words width behind in omega (arith, all, many, long, words);
    front = front_is (Returns lane (reply.Content (words_in width behind))) (record {
      fits = length_words width behind;
      kind = sym (content_kind not_put not_put_if);
      lane = lane_is;
      zeros = is.front.zeros;
      number = sym (longer_content_each width is.one is.front.fits
          (is.front.kind ∙ content_kind not_put not_put_if)).1 ∙ is.front.number;
    });
    words = ap (words_in (length (words_in width behind))) behind_is ∙ words_again width behind;
  }

  pub put_if_bytes : (lane : ℕ) (first second : List ℕ) → lane ≡ lane_in front → kind_in front ≡ 19 →
      behind ≡ first ++ second → length first ≡ 8 * width →
      HasBytes (Some width) (Begins lane (call.PutIf (words_in width first) (words_in width second))) (front ++ behind)
  put_if_bytes lane first second lane_is kind parts half = record {
    many = let all = length-append front behind in let long = put_if_long kind in
        let words = length-append (words_in width first) (words_in width second) in
        let one = length_words width first in let two = length_words width second in
        omega (arith, all, many, long, words, one, two);
    front = front_is (Begins lane (call.PutIf (words_in width first) (words_in width second))) (record {
      fits = (length_words width first, length_words width second);
      kind = sym kind;
      lane = lane_is;
      zeros = is.front.zeros;
      number = sym (longer_put_if_each width is.one is.front.fits (is.front.kind ∙ kind)).1 ∙ is.front.number;
    });
    words = ap (words_in (length (words_in width first ++ words_in width second))) (behind_is ∙ parts) ∙
        words_both width width first second half;
  }
