-- The call at whose return a history is stuck.
use Rattle.std.specs.Prelude.{ℕ, ◌≡◌, ◌≢◌, ◌≤◌, List, Option, Some, None, MatchOption, Vec, slice_get, Any}
use Rattle.std.specs.declared.alloc.Global.{Global}
use Rattle.stamp_core.specs.Layout.{Units}
use Rattle.stamp_core.specs.declared.reply.Reply.{Reply}
use Rattle.stamp_explain.specs.declared.observed.Observation.{Observation}
use Rattle.stamp_explain.specs.Observed.{ObservedHistory}
use Rattle.stamp_observed.specs.declared.candidate.Candidate.{Candidate}
use Rattle.stamp_observed.specs.declared.fault.Fault.{Fault}
use Rattle.stamp_observed.specs.declared.issued.IssuedStamp.{IssuedStamp}
use Rattle.stamp_observed.specs.Issued.{IsBy, Issues, IsStillIssued, StaysAnswered, stamp_taken, writes_by}
use Rattle.stamp_observed.specs.Small.{ArePossibleAt}

-- the replies, without where they lie in memory
abbrev pub replies_in : Option (Vec Reply Global) → Option (List Reply)
replies_in None = None
replies_in (Some replies) = Some replies.items

-- it is this stamp, and the calls that it has to be issued by are among those by this thread, or by any
pub record IsStampBy (found : Option IssuedStamp) (stamp : ℕ) (by : Option ℕ) : Type 0 where
  pub issued : IssuedStamp
  pub is : found ≡ Some issued
  pub stamp_is : issued.stamp ≡ stamp
  pub whose : (e : Observation) → IsBy issued.by e → IsBy by e

-- it is the stamp that the call takes, if a call before it was answered it and it isn't 0: by its own thread, if one
-- of this was
abbrev pub HasStamp : List Observation → Observation → Option IssuedStamp → Type 0
HasStamp es e found = (stamp : ℕ) → stamp_taken e.call ≡ Some stamp → stamp ≢ 0 → (by : Option ℕ) → IsBy by e →
    Any (Issues by e.first stamp) es → IsStampBy found stamp by

-- its entry, its return, and what was possible there; its stamp, and how many writes were begun
pub record IsFaultOf (h : ObservedHistory) (most : ℕ) (fault : Fault) : Type 0 where
  pub is_entry : slice_get h.entries fault.entry ≡ Some fault.call
  pub returned : fault.call.returned ≡ Some fault.returned
  pub possible : ArePossibleAt h most fault.entry (replies_in fault.possible)
  pub stamp : HasStamp h.entries fault.call fault.stamp
  pub writes : fault.writes ≡ writes_by fault.returned.last h.entries

-- the stamp, if there is one, is issued by these calls before this position, with so many versions left out
abbrev pub IsStampShown : Units → ℕ → List Observation → ℕ → Option IssuedStamp → Type 0
IsStampShown u k es position found = MatchOption found (Unit {0})
    (λ (issued : IssuedStamp). IsStillIssued u k es issued.by position issued.stamp)

-- these calls of a candidate show of the fault what they have to
pub record IsShownBy (u : Units) (c : Candidate) (es : List Observation) (fault : Fault) : Type 0 where
  pub few : c.versions ≤ fault.writes
  pub answer : StaysAnswered u c.versions fault.returned.reply
  pub issued : IsStampShown u c.versions es c.first fault.stamp
