-- What it means that entries stay, or are brought behind changes, one by one. For private clauses.
use Rattle.std.specs.Prelude.{◌≡◌, ◌⊎◌, ℕ, ◌<◌, length, get_or, set, true, false, List, [], ◌++◌, map}
use Rattle.std.specs.List.{All}
use Rattle.cs_value.specs.Tree.{Tree}
use Rattle.cs_view.specs.Changes.{Edit, are_changes, before_changes, LeadTo}
use Rattle.cs_view.specs.Dataset.{ascending}
use Rattle.cs_codes.specs.Codes.{is_among}
use Rattle.cs_interest.specs.Interest.{AreAsked}
use Rattle.cs_live.specs.Entries.{entries, live_query}
use Rattle.cs_live.specs.Fits.{Fits, Refreshes}
use Rattle.cs_live.specs.Found.{numbers}
use Rattle.cs_live.specs.Lives.{Worded, worded, news_of}
use Rattle.cs_live.specs.declared.entry.Entry.{Entry}
use Rattle.cs_live.specs.declared.live.Live.{Live}

-- the entry is refreshed as it stands, and has no line
pub record Still (docs : List Tree) (cs : List Edit) (e : Entry) : Type 0 where
  pub refreshes : Refreshes docs cs e e
  pub silent : news_of docs (live_query e) ≡ []

-- each entry of a number that is not asked stays
abbrev pub StillUnasked : List Tree → List Edit → List Entry → List ℕ → Type 0
StillUnasked docs cs old ns =
    (j : ℕ) (e : Entry) → j < length old → is_among (get_or old j e).number ns ≡ false
    → Still docs cs (get_or old j e)

-- so do the entries that fit the dataset before changes
abbrev pub UnaskedStays : Type 0
UnaskedStays =
    (docs : List Tree) (cs : List Edit) (l : Live) (ns : List ℕ) → ascending docs ≡ true
    → are_changes cs ≡ true → LeadTo docs cs → Fits l (before_changes docs cs)
    → AreAsked l.interest cs ns → StillUnasked docs cs (entries l) ns

-- what holds of the entry of the number, if there is one
abbrev pub AtNumber : ℕ → (Entry → Type 0) → List Entry → Type 0
AtNumber number P es = All (λ e. e.number ≡ number → P e) es

-- the entry at the place was refreshed, the others stay, and its line was put last
pub record BringsAt (docs : List Tree) (cs : List Edit) (old new : List Entry)
    (before after : List Worded) (place : ℕ) : Type 0 where
  pub entry : Entry
  pub is : new ≡ set old place entry
  pub refreshed : (e : Entry) → Refreshes docs cs (get_or old place e) entry
  pub lines : (e : Entry)
      → after ≡ before ++ map worded (news_of docs (live_query (get_or old place e)))

-- there is no entry of the number, and all stays
pub record BringsNone (number : ℕ) (old new : List Entry) (before after : List Worded)
    : Type 0 where
  pub none : is_among number (numbers old) ≡ false
  pub is : new ≡ old
  pub lines : after ≡ before

-- the entry of the number stands at a place and was refreshed
pub record BringsOne (docs : List Tree) (cs : List Edit) (number : ℕ) (old new : List Entry)
    (before after : List Worded) : Type 0 where
  pub place : ℕ
  pub within : place < length old
  pub named : (e : Entry) → (get_or old place e).number ≡ number
  pub brings : BringsAt docs cs old new before after place

abbrev pub Brings : List Tree → List Edit → ℕ → List Entry → List Entry → List Worded → List Worded
    → Type 0
Brings docs cs number old new before after =
    BringsNone number old new before after ⊎ BringsOne docs cs number old new before after
