-- The lines of a source, its limits and the faults of these: this project's profile.
use Rattle.std.specs.Prelude.{ℕ, ◌+◌, ◌≢◌, cond, ◌==◌, List, [], ◌∷◌, ◌++◌, length}
use Rattle.std.specs.List.{onto_first}

-- the bytes are cut at each newline; a last line without one is a line, an empty rest after the
-- last newline is none
abbrev pub cut : List ℕ → List (List ℕ)
cut [] = []
cut (b ∷ bytes) = cond (b == 10) ([] ∷ cut bytes) (onto_first b (cut bytes))

-- a byte in front of the first of the lines, if there is one
abbrev pub onto_line : ℕ → List (List ℕ) → List (List ℕ)
onto_line b [] = []
onto_line b (line ∷ lines) = (b ∷ line) ∷ lines

-- the lines that a newline ends
abbrev pub whole_lines : List ℕ → List (List ℕ)
whole_lines [] = []
whole_lines (b ∷ bytes) = cond (b == 10) ([] ∷ whole_lines bytes) (onto_line b (whole_lines bytes))

-- no newline is among the bytes
abbrev pub IsPlain : List ℕ → Type 0
IsPlain [] = Unit {0}
IsPlain (b ∷ bytes) = (b ≢ 10) × IsPlain bytes

-- the most bytes of a line, its newline not counted
abbrev pub longest_line : ℕ
longest_line = 16777216

-- the most bytes of a source
abbrev pub largest_source : ℕ
largest_source = 268435456

-- what a source gives: numbered lines, and then its end or the number of the line that passes a
-- limit
pub data Feed : Type 0 where
  End : Feed
  LineTooLong : ℕ → Feed
  SourceTooMuch : ℕ → Feed
  More : ℕ → List ℕ → Feed → Feed

-- n is the number of the line that begins with `line`, and t counts the bytes before those that are
-- listed last; the first byte past a limit decides, and where it passes both limits, that of the
-- line
abbrev pub feed : ℕ → ℕ → List ℕ → List ℕ → Feed
feed n t [] [] = End
feed n t (b ∷ line) [] = More n (b ∷ line) End
feed n t line (b ∷ rest) =
    cond (b == 10)
    (cond (t == largest_source) (SourceTooMuch n) (More n line (feed (n + 1) (t + 1) [] rest)))
    (cond (length line == longest_line) (LineTooLong n)
    (cond (t == largest_source) (SourceTooMuch n) (feed n (t + 1) (line ++ b ∷ []) rest)))

abbrev pub feed_of : List ℕ → Feed
feed_of bytes = feed 1 0 [] bytes
