-- How a reader of lines moves within one call: the words of this crate's own calls.
use Rattle.std.specs.Prelude.{◌≡◌, ℕ, ◌+◌, ◌<◌, ◌≤◌, Bool, true, false, List, [], ◌∷◌, ◌++◌, length, Option, None, Some, Result, Ok, Err, ⊤}
use Rattle.std.specs.Option.{option_map}
use Rattle.cs_io.specs.Causes.{Rose}
use Rattle.cs_io.specs.Lines.{IsPlain, feed, Feed, More, LineTooLong, SourceTooMuch, longest_line, largest_source}
use Rattle.cs_io.specs.Reader.{Reader}
use Rattle.cs_io.specs.declared.lines.LineFault.{LineFault}
use Rattle.cs_io.specs.declared.lines.LineFault.TheVariants.{Read, TooLong, TooMuch, NoMemory}

-- what is given from here on, with `line` as the front of the next line
abbrev pub feed_after : Reader → List ℕ → Option (List ℕ) → Option Feed
feed_after r line left = option_map (λ rest. feed (r.given + 1) r.taken line (r.ahead ++ rest)) left

-- what is told stays as it is
abbrev pub SameFeed : Option Feed → Option Feed → Type 0
SameFeed None g = ⊤
SameFeed (Some f) None = ⊥
SameFeed (Some f) (Some g) = f ≡ g

-- the reader stands where it stood, but for what it has read
pub record SamePlace (old new : Reader) : Type 0 where
  pub which : new.which ≡ old.which
  pub given : new.given ≡ old.given
  pub taken : new.taken ≡ old.taken

-- a line under way has ended, and the reader stands behind its newline
pub record Ended (old new : Reader) (line line' : List ℕ) : Type 0 where
  pub which : new.which ≡ old.which
  pub given : new.given ≡ old.given + 1
  pub ended : new.ended ≡ old.ended
  pub plain : IsPlain line → IsPlain line'
  pub short : length line' ≤ longest_line
  pub within : new.given ≤ largest_source
  pub text : line ++ old.ahead ≡ line' ++ 10 ∷ new.ahead
  pub feeds : (rest : List ℕ)
      → feed (old.given + 1) old.taken line (old.ahead ++ rest)
      ≡ More (old.given + 1) line' (feed (new.given + 1) new.taken [] (new.ahead ++ rest))

-- a line under way has taken what was read ahead, which was some
pub record GoesOn (old new : Reader) (line line' : List ℕ) : Type 0 where
  pub which : new.which ≡ old.which
  pub given : new.given ≡ old.given
  pub ended : new.ended ≡ old.ended
  pub ahead : new.ahead ≡ []
  pub more : old.taken < new.taken
  pub counted : new.given < new.taken
  pub within : new.taken ≤ largest_source
  pub short : length line' ≤ longest_line
  pub plain : IsPlain line → IsPlain line'
  pub text : line' ≡ line ++ old.ahead
  pub feeds : (rest : List ℕ)
      → feed (old.given + 1) old.taken line (old.ahead ++ rest)
      ≡ feed (new.given + 1) new.taken line' (new.ahead ++ rest)

-- what a line under way takes of the bytes read ahead: true where it has ended
abbrev pub Advances : Result Bool LineFault → Reader → Reader → List ℕ → List ℕ → Type 0
Advances (Ok true) old new line line' = Ended old new line line'
Advances (Ok false) old new line line' = GoesOn old new line line'
Advances (Err (TooLong n)) old new line line' = (n ≡ old.given + 1)
    × ((rest : List ℕ) → feed (old.given + 1) old.taken line (old.ahead ++ rest) ≡ LineTooLong n)
Advances (Err (TooMuch n)) old new line line' = (n ≡ old.given + 1)
    × ((rest : List ℕ) → feed (old.given + 1) old.taken line (old.ahead ++ rest) ≡ SourceTooMuch n)
Advances (Err NoMemory) old new line line' = ⊤
Advances (Err Read) old new line line' = ⊥

-- a call that only reads has no other fault than a failed read, whose count rose, and want of
-- memory
abbrev pub FillFails : ℕ → ℕ → LineFault → Type 0
FillFails before now Read = Rose before now
FillFails before now (TooLong n) = ⊥
FillFails before now (TooMuch n) = ⊥
FillFails before now NoMemory = ⊤
