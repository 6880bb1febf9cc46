-- What a position is kept as goes on as far.
use Rattle.std.proofs.Common.{◌≡◌, ℕ, Bool, true, false, List, refl, sym, ◌∙◌}
use Rattle.stamp_core.specs.declared.reply.Reply.{Reply}
use Rattle.stamp_core.specs.declared.reply.Reply.TheVariants.{Yes}
use Rattle.stamp_runs.specs.declared.event.Event.{Event}
use Rattle.stamp_runs.specs.Object.{Object}
use Rattle.stamp_runs.specs.Run.{Lanes, Phase}
use Rattle.stamp_runs.specs.Run.Phase.{Gets}
use Rattle.stamp_runs.specs.Position.{AreShown, AskAgain, IsReader, Position, StandsFor}
use Rattle.stamp_runs.specs.Returning.{IsKeptAs, IsSettled, IsToldReader, IsUndone}
use Rattle.stamp_runs.proofs.Lanes.{true_or_false}
use Rattle.stamp_runs.proofs.Going.{GoesOnIn}
use Rattle.stamp_runs.proofs.Reading.{readers_go_on}
use Rattle.stamp_runs.proofs.Endless.{asking_goes_on}
use Rattle.stamp_runs.proofs.Hiding.{stays_in_effect}
use Rattle.stamp_runs.proofs.Settling.{settled_hidden, undone_hidden}
use Rattle.stamp_runs.proofs.Sources.{asks_or_is_hidden}

abbrev pub choose : Bool → Phase → Phase → Phase
choose true x y = x
choose false x y = y

pub chosen : (b : Bool) (x y : Phase) → b ≡ true → choose b x y ≡ x
chosen true x y is = refl
chosen false x y is = absurd (true_or_false is refl)

pub not_chosen : (b : Bool) (x y : Phase) → b ≡ false → choose b x y ≡ y
not_chosen true x y is = absurd (true_or_false refl is)
not_chosen false x y is = refl

-- the lanes with these readers in effect
abbrev pub shown_by : (ℕ → Bool) → (ℕ → Reply) → Lanes → Lanes
shown_by readers told l = λ v. choose (readers v) (Gets (told v)) (l v)

pub are_shown : (readers : ℕ → Bool) (told : ℕ → Reply) (l : Lanes) → AreShown readers told l (shown_by readers told l)
are_shown readers told l = record {
  read = λ v is. chosen (readers v) (Gets (told v)) (l v) is;
  others = λ v not. not_chosen (readers v) (Gets (told v)) (l v) not;
}

-- it stands for a configuration from which some way goes on
pub record HoldsIn {S : Type 0} (O : Object S) (n : ℕ) (events : List Event) (s : S) (q : Position S) : Type 0 where
  pub shown : Lanes
  pub stands : StandsFor O q s shown
  pub goes : GoesOnIn O n events s shown

module _ {S : Type 0} (O : Object S) where
  -- readers of a configuration, by those of the position
  pub reads_there : {events : List Event} {fits : List Event → Type 0} {p : Position S} {s : S} {l : Lanes} {v : ℕ}
      {told : Reply} → fits events → StandsFor O p s l → IsToldReader O fits v told (p.lanes v) →
      IsReader O v told events (l v)
  reads_there {events} {v = v} fit stands is = record {
    call = is.call;
    still = is.still;
    phase_is = asks_or_is_hidden O v is.call stands.hidden is.asks;
    ends = is.ends events fit;
  }

  settled_holds : {n : ℕ} {events : List Event} {fits : List Event → Type 0} {p q : Position S} {s : S} {l : Lanes} →
      fits events → IsSettled O fits p q → StandsFor O p s l → GoesOnIn O n events s l → HoldsIn O n events s q
  settled_holds {p = p} {q} {l = l} fit is stands way = record {
    shown = shown_by is.readers is.told l;
    stands = record {
      same = sym is.state ∙ stands.same;
      hidden = settled_hidden O p.free q.free is.readers is.told is.free stands.hidden is.apart q.lanes
          (shown_by is.readers is.told l) is.shown (are_shown is.readers is.told l);
    };
    goes = readers_go_on O is.told is.readers (λ v reads. reads_there {p = p} fit stands (is.each v reads)) way
        (shown_by is.readers is.told l) (are_shown is.readers is.told l);
  }

  undone_holds : {n : ℕ} {events : List Event} {fits : List Event → Type 0} {p q : Position S} {s : S} {l : Lanes} →
      fits events → IsUndone fits p q → StandsFor O p s l → GoesOnIn O n events s l → HoldsIn O n events s q
  undone_holds {events = events} {p = p} {q} {l = l} fit is stands way = record {
    shown = shown;
    stands = record {
      same = sym is.state ∙ stands.same;
      hidden = undone_hidden O p.free q.free is.endless is.free stands.hidden q.lanes shown (record {
        before = is.asking;
        after = asking;
        alike = λ v endless. chosen (is.endless v) (q.lanes v) (l v) endless;
      });
    };
    goes = asking_goes_on O is.endless (λ v endless. is.never v endless events fit) way shown asking;
  }
    where
      shown : Lanes
      shown = λ v. choose (is.endless v) (q.lanes v) (l v)

      asking : AskAgain is.endless l shown
      asking = record {
        in_effect = λ v endless. let gets = is.asking.in_effect v endless in
            (gets.0, stays_in_effect O v gets.0 stands.hidden gets.1);
        others = λ v not. not_chosen (is.endless v) (q.lanes v) (l v) not;
      }

  pub kept_holds : {n : ℕ} {events : List Event} {fits : List Event → Type 0} {p q : Position S} {s : S} {l : Lanes} →
      fits events → IsKeptAs O fits p q → StandsFor O p s l → GoesOnIn O n events s l → HoldsIn O n events s q
  kept_holds {s = s} fit kept stands way =
      let one = settled_holds {p = _} {q = kept.between} fit kept.settled stands way in
      let two = undone_holds {p = kept.between} {q = kept.then} fit kept.undone one.stands one.goes in
      record { shown = two.shown; stands = kept.covers s two.shown two.stands; goes = two.goes }

  -- a position is kept as itself, or with readers in effect
  undone_itself : (fits : List Event → Type 0) (p : Position S) → IsUndone fits p p
  undone_itself fits p = record {
    endless = λ v. false;
    state = refl;
    asking = record { in_effect = λ v is. absurd (true_or_false is refl); others = λ v not. refl };
    free = λ v not is. is;
    never = λ v is. absurd (true_or_false is refl);
  }

  pub settled_itself : (fits : List Event → Type 0) (p : Position S) → IsSettled O fits p p
  settled_itself fits p = record {
    readers = λ v. false;
    told = λ v. Yes;
    state = refl;
    shown = record { read = λ v is. absurd (true_or_false is refl); others = λ v not. refl };
    free = λ v not is. is;
    each = λ v is. absurd (true_or_false is refl);
    apart = λ v is. absurd (true_or_false is refl);
  }

  pub kept_settled : {fits : List Event → Type 0} {p q : Position S} → IsSettled O fits p q → IsKeptAs O fits p q
  kept_settled {fits} {p} {q} is = record {
    between = q;
    then = q;
    settled = is;
    undone = undone_itself fits q;
    covers = λ s lanes stands. stands;
  }

  pub kept_itself : (fits : List Event → Type 0) (p : Position S) → IsKeptAs O fits p p
  kept_itself fits p = kept_settled (settled_itself fits p)
