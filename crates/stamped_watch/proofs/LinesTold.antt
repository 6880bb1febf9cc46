-- Lines that are told, one after the other.
use Rattle.std.proofs.Common.{ℕ, ◌≡◌, ◌+◌, ◌<◌, ◌≤◌, Bool, true, false, List, [], ◌∷◌, ◌++◌, length, Option, Some}
use Rattle.std.proofs.Common.{None, Result, Ok, Err, refl, sym, ◌∙◌, ap, subst, arith, append-nil, append_assoc}
use Rattle.std.specs.Prelude.{◌-◌, drop, is_err, is_ok, is_some, not, IfOk, IsErrAnd, OnErr, OnOk, take, ◌||◌}
use Rattle.std.specs.List.{list_any}
use Rattle.std.specs.Io.KnownBytes.{Appends, Consumes}
use Rattle.std.specs.declared.alloc.AllocError.{AllocError}
use Rattle.std.proofs.KnownBytes.{Appends-nil, Appends-trans, Consumes-nil}
use Rattle.std.proofs.lemmas.Bool.{false≢true}
use Rattle.std.proofs.lemmas.List.{length-append, take-append-le, take-take}
use Rattle.std.proofs.lemmas.List.Elements.{All-append, All-cons, All-nil, All-take}
use Rattle.std.proofs.lemmas.List.Folds.{list_any-append}
use Rattle.std.proofs.Math.Seq.{drop-append_seam, take-append-add}
use Rattle.stamp_cli.specs.Results.{EachTakes, MakesAtMost, Results, any_since, taken_since}
use Rattle.stamp_cli.specs.Sink.{AppendsFront}
use Rattle.stamp_cli.specs.TakesNone.{takes_none}
use Rattle.stamp_cli.specs.declared.faults.ServeFault.{ServeFault}
use Rattle.stamped_watch.specs.declared.finding.Finding.{Finding}
use Rattle.stamped_watch.specs.declared.orders.Watching.{Watching}
use Rattle.stamped_watch.specs.declared.telling.Telling.{Telling}
use Rattle.stamped_watch.specs.declared.stream_judge.StreamJudge.{StreamJudge}
use Rattle.stamped_watch.specs.Finding.{IsFindingOf, IsFoundOf, IsSoFar}
use Rattle.stamped_watch.specs.StreamJudge.{IsFed}
use Rattle.stamped_watch.specs.Progress.{AreLines, HasTold, IsLineOf, IsWritten, Tells, TellsAll, mark}
use Rattle.stamped_watch.specs.Progress.AreLines.{no_line, one_more}
use Rattle.stamped_watch.specs.Progress.{HasToldSoFar, HasToldThen, IsNewTelling}
use Rattle.stamped_watch.specs.inner.Progress.{IsNotWritten, IsOneLineMore}
use Rattle.stamped_watch.specs.inner.Progress.{IsWrittenSo, WritesLine}
use Rattle.stamp_cli.proofs.MadeSoFar.{all_taken}
use Rattle.stamped_watch.proofs.ReadingOn.{makes_none}

-- the lines stay when more bytes come
pub lines_more : (ahead : ℕ) (bytes more : List ℕ) (n : ℕ) (text : List ℕ) → AreLines ahead bytes n text →
    AreLines ahead (bytes ++ more) n text
lines_more ahead bytes more n text no_line = no_line
lines_more ahead bytes more n text (one_more {n = m} {text = before} {line = line} lines reached is) =
    let long = length-append bytes more in
    one_more (lines_more ahead bytes more m before lines) (omega (arith, long, reached))
    (subst (λ (xs : List ℕ). IsLineOf ahead xs line) (sym (take-append-le (mark (m + 1)) bytes more reached)) is)

-- nothing is written
abbrev pub nothing_written : (sent : Option (List ℕ)) (old : Results) → IsWritten [] sent sent old old
nothing_written sent old = record {
  made = [];
  added = sym (append-nil old);
  whole = λ none. Appends-nil sent;
  front = λ some. absurd (false≢true some);
  to_end = All-nil (λ result. takes_none result ≡ false);
}

pub each_takes : (results : Results) → list_any takes_none results ≡ false → EachTakes results
each_takes [] none = All-nil (λ result. takes_none result ≡ false)
each_takes (r ∷ results) none = by (takes_none r) refl none (each_takes results)
  where
    by : (b : Bool) → takes_none r ≡ b → (b || list_any takes_none results) ≡ false →
        (list_any takes_none results ≡ false → EachTakes results) → EachTakes (r ∷ results)
    by true is none again = absurd (false≢true (sym none))
    by false is rest again = All-cons (λ result. takes_none result ≡ false) r results is (again rest)

-- none is made after one that took no byte, behind some that each took one
pub to_end_behind : (before made : Results) → EachTakes before → EachTakes (take (length made - 1) made) →
    EachTakes (take (length (before ++ made) - 1) (before ++ made))
to_end_behind before made each to_end = subst EachTakes
    (take-take (length (before ++ made) - 1) (length before + (length made - 1)) (before ++ made)
    (let long = length-append before made in omega (arith, long)))
    (All-take (λ result. takes_none result ≡ false) (length (before ++ made) - 1)
    (take (length before + (length made - 1)) (before ++ made))
    (subst EachTakes (sym (take-append-add before made (length made - 1)))
    (All-append (λ result. takes_none result ≡ false) before (take (length made - 1) made) each to_end)))

-- a front of a text is one of a longer text
pub front_longer : (sent sent' : Option (List ℕ)) (text line : List ℕ) → AppendsFront sent sent' text →
    AppendsFront sent sent' (text ++ line)
front_longer sent sent' text line (n, less, appends) =
    let long = length-append text line in (
      n,
      omega (arith, long, less),
      subst (Appends sent sent') (sym (take-append-le n text line (omega (arith, less)))) appends,
    )

-- behind a text a front of a line
pub front_behind : (sent mid sent' : Option (List ℕ)) (text line : List ℕ) → Appends sent mid text →
    AppendsFront mid sent' line → AppendsFront sent sent' (text ++ line)
front_behind sent mid sent' text line before (n, less, appends) =
    let long = length-append text line in (
      length text + n,
      omega (arith, long, less),
      subst (Appends sent sent') (sym (take-append-add text line n))
          (Appends-trans sent mid sent' text (take n line) before appends),
    )

-- what one text and then a line makes
module _ (text line : List ℕ) (sent mid sent' : Option (List ℕ)) (old before new : Results)
    (so_far : IsWritten text sent mid old before) (was : Bool)
    (is_so : list_any takes_none so_far.made ≡ not was) where
  module _ (is : Bool) (so : IsWrittenSo line mid sent' before new is) (whole : was ≡ true) where
    pub none_yet : list_any takes_none so_far.made ≡ false
    none_yet = is_so ∙ ap not whole

    pub both : list_any takes_none (so_far.made ++ so.written.made) ≡ list_any takes_none so.written.made
    both = list_any-append takes_none so_far.made so.written.made ∙
        ap (λ (b : Bool). b || list_any takes_none so.written.made) none_yet

    abbrev pub both_written : IsWritten (text ++ line) sent sent' old new
    both_written = record {
      made = so_far.made ++ so.written.made;
      added = so.written.added ∙ ap (λ (rs : Results). rs ++ so.written.made) so_far.added ∙
          append_assoc old so_far.made so.written.made;
      whole = λ none. Appends-trans sent mid sent' text line (so_far.whole none_yet)
          (so.written.whole (sym both ∙ none));
      front = λ some. front_behind sent mid sent' text line (so_far.whole none_yet)
          (so.written.front (sym both ∙ some));
      to_end = to_end_behind so_far.made so.written.made (each_takes so_far.made none_yet) so.written.to_end;
    }

    pub both_so : list_any takes_none (so_far.made ++ so.written.made) ≡ not is
    both_so = both ∙ so.told

  module _ (is : Bool) (isnt : IsNotWritten mid sent' before new is) (part : was ≡ false) where
    abbrev pub front_written : IsWritten (text ++ line) sent sent' old new
    front_written = record {
      made = so_far.made;
      added = isnt.new_is ∙ so_far.added;
      whole = λ none. absurd (false≢true (sym none ∙ is_so ∙ ap not part));
      front = λ some. front_longer sent sent' text line
          (subst (λ (s : Option (List ℕ)). AppendsFront sent s text) (sym isnt.sent_is) (so_far.front some));
      to_end = so_far.to_end;
    }

    pub front_so : list_any takes_none so_far.made ≡ not is
    front_so = is_so ∙ ap not part ∙ ap not (sym isnt.whole_is)

-- a line that a call wrote
pub line_written : {A : Type 0} (line : List ℕ) (sent sent' : Option (List ℕ)) (old new : Results)
    (result : Result A ServeFault) (most bytes : ℕ) (is : Bool) → OnOk result (Appends sent sent' line) →
    OnErr result (AppendsFront sent sent' line) → MakesAtMost old new most bytes →
    any_since takes_none old new ≡ is_err result → not is ≡ is_err result → IsWrittenSo line sent sent' old new is
line_written line sent sent' old new result most bytes is ok failed makes any whole = record {
  written = record {
    made = makes.made;
    added = makes.added;
    whole = λ none. of_ok result ok (sym told ∙ none);
    front = λ some. of_err result failed (sym told ∙ some);
    to_end = makes.to_end;
  };
  told = told ∙ sym whole;
}
  where
    told : list_any takes_none makes.made ≡ is_err result
    told = sym (ap (λ (rs : Results). list_any takes_none (drop (length old) rs)) makes.added ∙
        ap (list_any takes_none) (drop-append_seam old makes.made)) ∙ any

    of_ok : {A : Type 0} (r : Result A ServeFault) → OnOk r (Appends sent sent' line) → is_err r ≡ false →
        Appends sent sent' line
    of_ok (Ok x) holds fine = holds
    of_ok (Err e) holds fine = absurd (false≢true (sym fine))

    of_err : {A : Type 0} (r : Result A ServeFault) → OnErr r (AppendsFront sent sent' line) → is_err r ≡ true →
        AppendsFront sent sent' line
    of_err (Ok x) holds failed = absurd (false≢true failed)
    of_err (Err e) holds failed = holds

-- what was told stays so when more bytes come
abbrev pub tells_more : (asked : Watching) (bytes more : List ℕ) (sent sent' : Option (List ℕ)) (old new : Results) →
    Tells asked bytes sent sent' old new → Tells asked (bytes ++ more) sent sent' old new
tells_more asked bytes more sent sent' old new tells = record {
  marks = tells.marks;
  text = tells.text;
  lines = lines_more asked.ahead bytes more tells.marks tells.text tells.lines;
  written = tells.written;
  not_asked = tells.not_asked;
}

abbrev pub tells_nothing : (asked : Watching) (sent : Option (List ℕ)) (old : Results) → Tells asked [] sent sent old
    old
tells_nothing asked sent old = record {
  marks = 0;
  text = [];
  lines = no_line;
  written = nothing_written sent old;
  not_asked = λ off. (refl, refl);
}

pub told_at_first : (asked : Watching) (telling : Telling) (sent : Option (List ℕ)) (old : Results) →
    IsNewTelling asked.progress telling → HasToldSoFar asked [] telling sent sent old old
told_at_first asked telling sent old is = record {
  tells = tells_nothing asked sent old;
  asked_is = is.asked_is;
  place = λ on. let far : telling.missing ≡ mark 1 = is.missing_is in omega (arith, far);
  missing = let far : telling.missing ≡ mark 1 = is.missing_is in omega (arith, far);
  whole = ap not (sym is.whole_is);
}

-- no mark is reached that was not told of
pub told_to_end : (asked : Watching) (bytes more : List ℕ) (telling : Telling) (sent sent' : Option (List ℕ))
    (old new : Results) (so_far : HasToldSoFar asked bytes telling sent sent' old new) → more ≡ [] →
    TellsAll asked so_far.tells.marks (bytes ++ more)
told_to_end asked bytes more telling sent sent' old new so_far none on reached =
    let place : length bytes + telling.missing ≡ mark (so_far.tells.marks + 1) = so_far.place on in
    let missing : 0 < telling.missing = so_far.missing in
    let long = length-append bytes more in
    let few : length more ≡ 0 = ap length none in
    absurd (omega (arith, place, missing, long, few, reached))

-- bytes come, and what was told so far
module _ (asked : Watching) (bytes more : List ℕ) (telling : Telling) (sent mid : Option (List ℕ))
    (old before : Results) (so_far : HasToldSoFar asked bytes telling sent mid old before) where
  long : length (bytes ++ more) ≡ length bytes + length more
  long = length-append bytes more

  abbrev more_told : Tells asked (bytes ++ more) sent mid old before
  more_told = tells_more asked bytes more sent mid old before so_far.tells

  -- no line is asked for
  pub told_of_none : telling.asked ≡ false → (result : Result (Option Finding) AllocError) →
      HasToldThen asked (bytes ++ more) telling sent mid old before result
  told_of_none off result = record {
    tells = more_told;
    going = λ same. record {
      tells = more_told;
      asked_is = so_far.asked_is;
      place = λ on. absurd (not_on on);
      missing = so_far.missing;
      whole = so_far.whole;
    };
    found = λ finding same on. absurd (not_on on);
  }
    where
      not_on : asked.progress ≡ true → ⊥
      not_on on = false≢true (sym off ∙ so_far.asked_is ∙ on)

  -- they come to no mark
  pub told_before_mark : (new : Telling) → new.asked ≡ telling.asked → new.is_whole ≡ telling.is_whole →
      length more < telling.missing → new.missing + length more ≡ telling.missing →
      (result : Result (Option Finding) AllocError) →
      HasToldThen asked (bytes ++ more) new sent mid old before result
  told_before_mark new same whole_is few left result = record {
    tells = more_told;
    going = λ ok. record {
      tells = more_told;
      asked_is = same ∙ so_far.asked_is;
      place = λ on. let place : length bytes + telling.missing ≡ mark (so_far.tells.marks + 1) = so_far.place on in
          omega (arith, long, place, left);
      missing = omega (arith, few, left);
      whole = so_far.whole ∙ ap not (sym whole_is);
    };
    found = λ finding ok on reached.
        let place : length bytes + telling.missing ≡ mark (so_far.tells.marks + 1) = so_far.place on in
        absurd (omega (arith, long, place, few, reached));
  }

  -- it ended without an answer
  pub told_of_err : (new : Telling) (result : Result (Option Finding) AllocError) → is_err result ≡ true →
      HasToldThen asked (bytes ++ more) new sent mid old before result
  told_of_err new result err = record {
    tells = more_told;
    going = λ ok. absurd (false≢true (sym (ap is_err ok) ∙ err));
    found = λ finding ok. absurd (false≢true (sym (ap is_err ok) ∙ err));
  }

  -- they come to a mark
  module _ (on : asked.progress ≡ true) (reaches : telling.missing ≤ length more) where
    abbrev front : List ℕ
    front = take telling.missing more

    place : length bytes + telling.missing ≡ mark (so_far.tells.marks + 1)
    place = so_far.place on

    up_to : take (mark (so_far.tells.marks + 1)) (bytes ++ more) ≡ bytes ++ front
    up_to = ap (λ (n : ℕ). take n (bytes ++ more)) (sym place) ∙ take-append-add bytes more telling.missing

    -- before it something was found
    pub told_until_found : (new : Telling) (finding : Finding) →
        IsFoundOf asked.most asked.ahead (bytes ++ front) finding →
        (result : Result (Option Finding) AllocError) → result ≡ Ok (Some finding) →
        HasToldThen asked (bytes ++ more) new sent mid old before result
    told_until_found new finding is result some = record {
      tells = more_told;
      going = λ ok. absurd (cc);
      found = λ other ok is_on reached.
          (finding, subst (λ (xs : List ℕ). IsFoundOf asked.most asked.ahead xs finding) (sym up_to) is);
    }

    pub told_until : (new : Telling) (found : Option Finding) → is_some found ≡ true →
        IsSoFar asked.most asked.ahead (bytes ++ front) found →
        (result : Result (Option Finding) AllocError) → result ≡ Ok found →
        HasToldThen asked (bytes ++ more) new sent mid old before result
    told_until new None some is result same = absurd (false≢true some)
    told_until new (Some finding) some is result same = told_until_found new finding is result same

    -- the line of it is told
    module _ (sent' : Option (List ℕ)) (new : Results) (is : Bool)
        (one : IsOneLineMore asked.ahead (bytes ++ front) mid sent' before new telling.is_whole is) where
      lines_then : AreLines asked.ahead (bytes ++ more) (so_far.tells.marks + 1) (so_far.tells.text ++ one.line)
      lines_then = one_more
          (lines_more asked.ahead bytes more so_far.tells.marks so_far.tells.text so_far.tells.lines)
          (omega (arith, long, place, reaches))
          (subst (λ (xs : List ℕ). IsLineOf asked.ahead xs one.line) (sym up_to) one.is)

      abbrev then_tells : IsWritten (so_far.tells.text ++ one.line) sent sent' old new →
          Tells asked (bytes ++ more) sent sent' old new
      then_tells written = record {
        marks = so_far.tells.marks + 1;
        text = so_far.tells.text ++ one.line;
        lines = lines_then;
        written = written;
        not_asked = λ off. absurd (false≢true (sym off ∙ on));
      }

      written_then : (was : Bool) → telling.is_whole ≡ was → WritesLine one.line mid sent' before new was is →
          (written : IsWritten (so_far.tells.text ++ one.line) sent sent' old new) ×
          (list_any takes_none written.made ≡ not is)
      written_then true was so = (
        both_written so_far.tells.text one.line sent mid sent' old before new so_far.tells.written telling.is_whole
            so_far.whole is so was,
        both_so so_far.tells.text one.line sent mid sent' old before new so_far.tells.written telling.is_whole
            so_far.whole is so was,
      )
      written_then false was isnt = (
        front_written so_far.tells.text one.line sent mid sent' old before new so_far.tells.written
            telling.is_whole so_far.whole is isnt was,
        front_so so_far.tells.text one.line sent mid sent' old before new so_far.tells.written telling.is_whole
            so_far.whole is isnt was,
      )

      abbrev so_written : (written : IsWritten (so_far.tells.text ++ one.line) sent sent' old new) ×
          (list_any takes_none written.made ≡ not is)
      so_written = written_then telling.is_whole refl one.writes

      pub told_at_mark : (then : Telling) → then.asked ≡ telling.asked → then.is_whole ≡ is →
          then.missing + (length more - telling.missing) ≡ 268435456 → 0 < then.missing →
          (result : Result (Option Finding) AllocError) →
          HasToldThen asked (bytes ++ more) then sent sent' old new result
      told_at_mark then same whole_is left some result = record {
        tells = then_tells so_written.0;
        going = λ ok. record {
          tells = then_tells so_written.0;
          asked_is = same ∙ so_far.asked_is;
          place = λ is_on. omega (arith, long, place, left, reaches);
          missing = some;
          whole = so_written.1 ∙ ap not (sym whole_is);
        };
        found = λ finding ok is_on reached. absurd (omega (arith, long, place, left, reaches, some, reached));
      }

-- what a whole call told
pub has_told : {A : Type 0} (asked : Watching) (left left' : Option (List ℕ)) (reads reads' : Results)
    (sent sent' : Option (List ℕ)) (writes writes' : Results) (bytes : List ℕ) (result : Result A ServeFault) →
    Consumes left left' bytes → length bytes ≡ taken_since reads reads' →
    (tells : Tells asked bytes sent sent' writes writes') → IfOk result (λ _. TellsAll asked tells.marks bytes) →
    HasTold asked left left' reads reads' sent sent' writes writes' result
has_told asked left left' reads reads' sent sent' writes writes' bytes result took count tells all = record {
  bytes = bytes;
  took = took;
  count = count;
  tells = tells;
  all = all;
}

-- it ends without an answer
pub all_of_err : {A : Type 0} (P : A → Type 0) (Q : ServeFault → Type 0) (result : Result A ServeFault) →
    IsErrAnd result Q → IfOk result P
all_of_err P Q (Ok x) isnt = absurd isnt
all_of_err P Q (Err e) is = tt

pub told_of_fault : {A B : Type 0} (Q : ServeFault → Type 0) (asked : Watching) (left left' : Option (List ℕ))
    (reads reads' : Results) (sent sent' : Option (List ℕ)) (writes writes' : Results) (first : Result A ServeFault)
    (result : Result B ServeFault) → HasTold asked left left' reads reads' sent sent' writes writes' first →
    IsErrAnd result Q → HasTold asked left left' reads reads' sent sent' writes writes' result
told_of_fault Q asked left left' reads reads' sent sent' writes writes' first result told err =
    has_told asked left left' reads reads' sent sent' writes writes' told.bytes result told.took told.count told.tells
    (all_of_err _ Q result err)

-- it ends with another answer
pub told_of_answer : {A B : Type 0} (asked : Watching) (left left' : Option (List ℕ)) (reads reads' : Results)
    (sent sent' : Option (List ℕ)) (writes writes' : Results) (first : A) (answer : B) →
    HasTold asked left left' reads reads' sent sent' writes writes' (Ok first) →
    HasTold asked left left' reads reads' sent sent' writes writes' (Ok answer)
told_of_answer asked left left' reads reads' sent sent' writes writes' first answer told =
    has_told asked left left' reads reads' sent sent' writes writes' told.bytes (Ok answer) told.took told.count
    told.tells told.all

-- and without any read
pub told_nothing : {A : Type 0} (Q : ServeFault → Type 0) (asked : Watching) (left : Option (List ℕ))
    (reads : Results) (sent : Option (List ℕ)) (writes : Results) (result : Result A ServeFault) →
    IsErrAnd result Q → HasTold asked left left reads reads sent sent writes writes result
told_nothing Q asked left reads sent writes result err = has_told asked left left reads reads sent sent writes writes
    []
    result (Consumes-nil left) (sym (all_taken reads reads 0 (makes_none reads))) (tells_nothing asked sent writes)
    (all_of_err _ Q result err)

pub not_ok : {A E : Type 0} (result : Result A E) → not (is_ok result) ≡ is_err result
not_ok (Ok x) = refl
not_ok (Err e) = refl

pub failed : {A E : Type 0} (Q : E → Type 0) (result : Result A E) → IsErrAnd result Q → is_err result ≡ true
failed Q (Ok x) isnt = absurd isnt
failed Q (Err e) is = refl

-- bytes in two parts
module _ (most ahead : ℕ) (fed front rest bytes : List ℕ) (parts : bytes ≡ front ++ rest) where
  pub in_two : fed ++ bytes ≡ (fed ++ front) ++ rest
  in_two = ap (λ (xs : List ℕ). fed ++ xs) parts ∙ sym (append_assoc fed front rest)

  -- what is found of the first part is found of all
  pub found_longer : (found : Option Finding) → is_some found ≡ true → IsSoFar most ahead (fed ++ front) found →
      IsSoFar most ahead (fed ++ bytes) found
  found_longer None some is = absurd (false≢true some)
  found_longer (Some finding) some is = λ more. subst (λ (xs : List ℕ). IsFindingOf most ahead xs finding)
      (sym (ap (λ (xs : List ℕ). xs ++ more) in_two ∙ append_assoc (fed ++ front) rest more)) (is (rest ++ more))

  -- and a judge that has found it was fed all
  pub fed_longer : (judge : StreamJudge) (found : Option Finding) → judge.found ≡ found → is_some found ≡ true →
      IsFed most ahead (fed ++ front) judge → IsFed most ahead (fed ++ bytes) judge
  fed_longer judge found same some is = record {
    taken = is.taken;
    later = is.later ++ rest;
    parts = in_two ∙ ap (λ (xs : List ℕ). xs ++ rest) is.parts ∙ append_assoc is.taken is.later rest;
    has_taken = is.has_taken;
    keeps = λ none. absurd (false≢true (ap is_some (sym none ∙ same) ∙ some));
    part = is.part;
  }

  pub fed_both : (judge : StreamJudge) → IsFed most ahead ((fed ++ front) ++ rest) judge →
      IsFed most ahead (fed ++ bytes) judge
  fed_both judge is = subst (λ (xs : List ℕ). IsFed most ahead xs judge) (sym in_two) is

  pub found_both : (found : Option Finding) → IsSoFar most ahead ((fed ++ front) ++ rest) found →
      IsSoFar most ahead (fed ++ bytes) found
  found_both found is = subst (λ (xs : List ℕ). IsSoFar most ahead xs found) (sym in_two) is

pub no_finding : (found : Option Finding) → is_some found ≡ false → found ≡ None
no_finding None none = refl
no_finding (Some finding) none = absurd (false≢true (sym none))
