-- What is taken of a piece for the line under way: the words of this crate's own calls.
use Rattle.std.specs.Prelude.{◌≡◌, ℕ, ◌+◌, ◌<◌, ◌≤◌, List, [], ◌∷◌, ◌++◌, length, drop, Result, Ok, Err}
use Rattle.cs_io.specs.Lines.{IsPlain, feed, More, LineTooLong, SourceTooMuch, longest_line, largest_source}
use Rattle.cs_io.specs.declared.pieces.Part.{Part}
use Rattle.cs_io.specs.declared.pieces.Part.TheVariants.{Ended, All}
use Rattle.cs_io.specs.declared.pieces.PieceFault.{PieceFault}
use Rattle.cs_io.specs.declared.pieces.PieceFault.TheVariants.{TooLong, TooMuch, NoMemory}

-- the line ends after the first `used` bytes of the piece
pub record EndsLine (used : ℕ) (piece : List ℕ) (t : ℕ) (old new : List ℕ) : Type 0 where
  pub some : 0 < used
  pub within : used ≤ length piece
  pub fits : t + used ≤ largest_source
  pub text : old ++ piece ≡ new ++ 10 ∷ drop used piece
  pub plain : IsPlain old → IsPlain new
  pub short : length new ≤ longest_line
  pub feeds : (n : ℕ) (rest : List ℕ)
      → feed n t old (piece ++ rest)
      ≡ More n new (feed (n + 1) (t + used) [] (drop used piece ++ rest))

-- the line takes the whole piece
pub record TakesAll (piece : List ℕ) (t : ℕ) (old new : List ℕ) : Type 0 where
  pub text : new ≡ old ++ piece
  pub plain : IsPlain old → IsPlain new
  pub short : length new ≤ longest_line
  pub fits : t + length piece ≤ largest_source
  pub feeds : (n : ℕ) (rest : List ℕ)
      → feed n t old (piece ++ rest) ≡ feed n (t + length piece) new rest

abbrev pub Takes : Result Part PieceFault → List ℕ → ℕ → List ℕ → List ℕ → Type 0
Takes (Ok (Ended used)) piece t old new = EndsLine used piece t old new
Takes (Ok All) piece t old new = TakesAll piece t old new
Takes (Err TooLong) piece t old new = (n : ℕ) (rest : List ℕ)
    → feed n t old (piece ++ rest) ≡ LineTooLong n
Takes (Err TooMuch) piece t old new = (n : ℕ) (rest : List ℕ)
    → feed n t old (piece ++ rest) ≡ SourceTooMuch n
Takes (Err NoMemory) piece t old new = Unit {0}
