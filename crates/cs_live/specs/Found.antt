-- How entries are found by the keys that changes touch: the codes of each entry's keys stand in one
-- place, with the entry's number. This project's profile.
use Rattle.std.specs.Prelude.{◌≡◌, ℕ, ◌<◌, ◌≤◌, length, get_or, false, List, map, Result, Ok, Err}
use Rattle.std.specs.List.{All, AllPairs}
use Rattle.cs_codes.specs.Codes.{is_among}
use Rattle.cs_interest.specs.Interest.{holds}
use Rattle.cs_interest.specs.declared.interest.Interest.{Interest}
use Rattle.cs_kept.specs.Found.{IsFound}
use Rattle.cs_live.specs.Entries.{entries}
use Rattle.cs_live.specs.declared.entry.Entry.{Entry}
use Rattle.cs_live.specs.declared.live.Live.{Live}

-- the numbers ascend
abbrev pub Ascend : List Entry → Type 0
Ascend es = AllPairs (λ a b. a.number < b.number) es

abbrev pub numbers : List Entry → List ℕ
numbers es = map (λ e. e.number) es

-- where the entry of a number stands, if there is one
abbrev pub IsNumberPlace : ℕ → List Entry → Result ℕ ℕ → Type 0
IsNumberPlace number es (Ok i) =
    (i < length es) × ((e : Entry) → (get_or es i e).number ≡ number)
IsNumberPlace number es (Err i) = is_among number (numbers es) ≡ false

-- each of the entries is found by its keys, and nothing else is found; their numbers ascend, and
-- the next one is above them
pub record AreFoundBy (i : Interest) (next : ℕ) (es : List Entry) : Type 0 where
  pub found : All (λ e. IsFound i e.number e.kept) es
  pub others : (c n : ℕ) → is_among n (numbers es) ≡ false → holds i c n ≡ false
  pub ascend : Ascend es
  pub below : All (λ e. e.number < next) es
  pub bound : next ≤ 18446744073709551615

abbrev pub AreFound : Live → Type 0
AreFound l = AreFoundBy l.interest l.next (entries l)
