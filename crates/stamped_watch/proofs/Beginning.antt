-- The bytes of a header, taken in one or two pieces.
use Rattle.std.proofs.Common.{ℕ, ◌≡◌, ◌<◌, ◌≤◌, Bool, true, false, List, [], ◌++◌, length, Option, Some, None}
use Rattle.std.proofs.Common.{refl, sym, ◌∙◌, ap, subst, inl, inr, arith, append-nil, append_assoc}
use Rattle.std.specs.Prelude.{◌⊎◌, drop, take}
use Rattle.std.proofs.lemmas.List.{length-append}
use Rattle.std.proofs.Math.Seq.{drop-append_seam}
use Rattle.stamp_core.specs.Limits.{Bounds}
use Rattle.stamped_watch.specs.declared.finding.Finding.TheVariants as found
use Rattle.stamped_watch.specs.declared.header.BadHeader.{BadHeader}
use Rattle.stamped_watch.specs.declared.header.BadHeader.TheVariants.{Letters, Form, Layout as Shape, Limits, Width}
use Rattle.stamped_watch.specs.declared.header.Header.{Header}
use Rattle.stamped_watch.specs.declared.run_judge.RunJudge.{RunJudge}
use Rattle.stamped_watch.specs.declared.stream_judge.StreamJudge.{StreamJudge}
use Rattle.stamped_watch.specs.Header.{BeginsWithData, HasWidth, IsFront, IsHeader, IsNoFront, IsNoHeader}
use Rattle.stamped_watch.specs.StreamJudge.{HasTaken, IsPart}
use Rattle.stamped_watch.specs.inner.StreamJudge.{HasTakenNone, HasTakenOne, HasTakenWidth, IsOneMore, IsOpened}
use Rattle.stamped_watch.proofs.Streaming.{first_of}
use Rattle.stamped_watch.proofs.Taking.{header_taken, no_header_taken}

drop_of : (bytes more : List ℕ) → length bytes ≡ 16 → drop 16 (bytes ++ more) ≡ more
drop_of bytes more many = ap (λ (n : ℕ). drop n (bytes ++ more)) (sym many) ∙ drop-append_seam bytes more

module _ (front : List ℕ) (many : length front ≡ 16) where
  long : (behind : List ℕ) → 16 ≤ length (front ++ behind)
  long behind = let all = length-append front behind in omega (arith, all, many)

  front_is : (limits : Bounds) (has_data : Bool) (behind : List ℕ) → IsFront limits has_data front →
      IsFront limits has_data (take 16 (front ++ behind))
  front_is limits has_data behind is = subst (IsFront limits has_data) (sym (first_of 16 front behind many)) is

  -- a header without data
  pub plain_header : (limits : Bounds) → IsFront limits false front →
      IsHeader (record { limits = limits; width = None }) front
  plain_header limits is = record {
    many = omega (arith, many);
    front = subst (λ (xs : List ℕ). IsFront limits false (take 16 xs)) (append-nil front)
        (front_is limits false [] is);
    behind = ap (drop 16) (sym (append-nil front)) ∙ drop_of front [] many;
  }

  -- one with data
  data_header : (limits : Bounds) (width : ℕ) (unit : List ℕ) → IsFront limits true front → length unit ≡ 8 →
      HasWidth width unit → IsHeader (record { limits = limits; width = Some width }) (front ++ unit)
  data_header limits width unit is eight has = record {
    many = long unit;
    front = front_is limits true unit is;
    behind = (
      ap length (drop_of front unit many) ∙ eight,
      subst (HasWidth width) (sym (drop_of front unit many)) has,
    );
  }

  begins_data : (limits : Bounds) (behind : List ℕ) → IsFront limits true front → BeginsWithData (front ++ behind)
  begins_data limits behind is = (long behind, (limits, front_is limits true behind is))

  no_width : (limits : Bounds) (unit : List ℕ) → IsFront limits true front → length unit ≡ 8 →
      ((width : ℕ) → ¬ HasWidth width unit) → (more : List ℕ) → IsNoHeader Width (front ++ unit ++ more)
  no_width limits unit is eight none more = (
    (let all = length-append (front ++ unit) more in let two = length-append front unit in
        omega (arith, all, two, many, eight)),
    subst BeginsWithData (sym (append_assoc front unit more)) (begins_data limits (unit ++ more) is),
    λ width has. none width (subst (HasWidth width) eight_first has),
  )
    where
      eight_first : take 8 (drop 16 (front ++ unit ++ more)) ≡ unit
      eight_first = ap (λ (xs : List ℕ). take 8 (drop 16 xs)) (append_assoc front unit more) ∙
          ap (take 8) (drop_of front (unit ++ more) many) ∙ first_of 8 unit more eight

  no_front : (why : BadHeader) → IsNoFront why front → (more : List ℕ) → IsNoHeader why (front ++ more)
  no_front Letters wrong more = (long more, subst (IsNoFront Letters) (sym (first_of 16 front more many)) wrong)
  no_front Form wrong more = (long more, subst (IsNoFront Form) (sym (first_of 16 front more many)) wrong)
  no_front Shape wrong more = (long more, subst (IsNoFront Shape) (sym (first_of 16 front more many)) wrong)
  no_front Limits wrong more = (long more, subst (IsNoFront Limits) (sym (first_of 16 front more many)) wrong)
  no_front Width wrong more = absurd wrong

  module _ (old : StreamJudge) (none : old.found ≡ None) (no_judge : old.judge ≡ None) where
    opened : (unit : List ℕ) (header : Header) (new : StreamJudge) → IsHeader header unit → IsOpened header old new →
        IsOneMore unit old new
    opened unit header new is opens most ahead taken has = subst (HasTaken most ahead (taken ++ unit))
        (sym opens.new_is) (header_taken most ahead taken old has none no_judge unit header opens.inner is opens.is)

    refused : (unit : List ℕ) (why : BadHeader) (new : StreamJudge) →
        ((more : List ℕ) → IsNoHeader why (unit ++ more)) → new ≡ record old { found = Some (found.BadHeader why) } →
        IsOneMore unit old new
    refused unit why new wrong new_is most ahead taken has = subst (HasTaken most ahead (taken ++ unit))
        (sym new_is) (no_header_taken most ahead taken old has none no_judge unit why wrong)

    pub plain_begun : (behind : List ℕ) (limits : Bounds) (new : StreamJudge) → IsFront limits false front →
        IsOpened (record { limits = limits; width = None }) old new →
        HasTakenOne (front ++ behind) behind old new
    plain_begun behind limits new is opens = record {
      unit = front;
      some = omega (arith, many);
      parts = refl;
      more = opened front (record { limits = limits; width = None }) new (plain_header limits is) opens;
    }

    pub front_refused : (behind : List ℕ) (why : BadHeader) (new : StreamJudge) → IsNoFront why front →
        new ≡ record old { found = Some (found.BadHeader why) } → HasTakenOne (front ++ behind) behind old new
    front_refused behind why new wrong new_is = record {
      unit = front;
      some = omega (arith, many);
      parts = refl;
      more = refused front why new (no_front why wrong) new_is;
    }

    pub data_cut : (behind : List ℕ) (limits : Bounds) (new : StreamJudge) → IsFront limits true front →
        length behind < 8 → new ≡ old → HasTakenNone (front ++ behind) old new
    data_cut behind limits new is few same = record {
      is_part = subst (λ (o : Option RunJudge). IsPart o (front ++ behind)) (sym no_judge)
          (inr ((let all = length-append front behind in omega (arith, all, many, few)), begins_data limits behind is));
      same = same;
    }

    pub data_begun : (behind rest : List ℕ) (limits : Bounds) (new : StreamJudge) → IsFront limits true front →
        HasTakenWidth limits behind rest old new → HasTakenOne (front ++ behind) rest old new
    data_begun behind rest limits new is takes = record {
      unit = front ++ takes.unit;
      some = let all = length-append front takes.unit in omega (arith, all, many);
      parts = ap (λ (xs : List ℕ). front ++ xs) takes.parts ∙ sym (append_assoc front takes.unit rest);
      more = by takes.then_is;
    }
      where
        by : ((width : ℕ) × HasWidth width takes.unit ×
            IsOpened (record { limits = limits; width = Some width }) old new) ⊎
            (((width : ℕ) → ¬ HasWidth width takes.unit) ×
            (new ≡ record old { found = Some (found.BadHeader Width) })) → IsOneMore (front ++ takes.unit) old new
        by (inl has) = opened (front ++ takes.unit) (record { limits = limits; width = Some has.0 }) new
            (data_header limits has.0 takes.unit is takes.many has.1) has.2
        by (inr wrong) = refused (front ++ takes.unit) Width new (no_width limits takes.unit is takes.many wrong.0)
            wrong.1
