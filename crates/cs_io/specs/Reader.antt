-- A reader of lines, and what it and its source give from here on: this project's profile.
use Rattle.std.specs.Prelude.{◌≡◌, ℕ, ◌+◌, ◌≤◌, Bool, true, List, [], ◌++◌, Option}
use Rattle.std.specs.Option.{option_map}
use Rattle.std.specs.Io.KnownBytes.{IsAtEnd}
use Rattle.cs_io.specs.Lines.{feed, Feed}
use Rattle.cs_io.specs.Names.{Files}
use Rattle.cs_io.specs.declared.library.Asked.{Asked}

-- the number that is read, how many lines were given, how many bytes these took with their
-- newlines, the bytes that were read and not yet given, and whether the source's end was met
pub record Reader : Type 0 where
  pub which : ℕ
  pub given : ℕ
  pub taken : ℕ
  pub ahead : List ℕ
  pub ended : Bool

-- the bytes that are not yet given, where told: those read ahead and those left
abbrev pub rest_at : Reader → Option (List ℕ) → Option (List ℕ)
rest_at r left = option_map (λ rest. r.ahead ++ rest) left

-- what is given from here on, where told
abbrev pub feed_at : Reader → Option (List ℕ) → Option Feed
feed_at r left = option_map (λ rest. feed (r.given + 1) r.taken [] (r.ahead ++ rest)) left

-- where the source's end was met, nothing is read ahead and nothing is left
abbrev pub InStep : Reader → Option (List ℕ) → Type 0
InStep r left = r.ended ≡ true → (r.ahead ≡ []) × IsAtEnd left

-- of what is seen of a library, a call changed nothing but the bytes left and the count of failed
-- reads
pub record OnlyReads {L : Type 0} (files : L → Option Files) (asked : L → List Asked)
    (opens reads : L → ℕ) (old new : L) : Type 0 where
  pub same_files : files new ≡ files old
  pub same_asked : asked new ≡ asked old
  pub same_opens : opens new ≡ opens old
  pub later : reads old ≤ reads new
