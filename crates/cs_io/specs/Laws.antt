-- What a source gives is the lines of its bytes, up to the line that passes a limit: this project's
-- profile.
use Rattle.std.specs.Prelude.{◌≡◌, ◌≢◌, ◌⊎◌, ℕ, ◌-◌, List, [], ◌∷◌, ◌++◌, take, Option, None, Some, MatchOption}
use Rattle.cs_io.specs.Lines.{Feed, End, LineTooLong, SourceTooMuch, More, feed_of, cut, whole_lines, IsPlain}

-- the lines that are given
abbrev pub given_lines : Feed → List (List ℕ)
given_lines End = []
given_lines (LineTooLong n) = []
given_lines (SourceTooMuch n) = []
given_lines (More n line rest) = line ∷ given_lines rest

-- the number of the line that passes a limit
abbrev pub fault_line : Feed → Option ℕ
fault_line End = None
fault_line (LineTooLong n) = Some n
fault_line (SourceTooMuch n) = Some n
fault_line (More n line rest) = fault_line rest

-- all lines of the bytes are given, or those before the line that passes a limit
abbrev pub FollowsCut : List ℕ → Type 0
FollowsCut bytes =
    MatchOption (fault_line (feed_of bytes)) (given_lines (feed_of bytes) ≡ cut bytes)
    (λ n. given_lines (feed_of bytes) ≡ take (n - 1) (cut bytes))

-- the lines are the whole lines and a last one, which has bytes and no newline
pub record EndsIn (lines whole : List (List ℕ)) (last : List ℕ) : Type 0 where
  pub some : last ≢ []
  pub plain : IsPlain last
  pub parts : lines ≡ whole ++ last ∷ []

-- the lines that a newline ends are all lines of the bytes, or all but a last one
abbrev pub FollowsWhole : List ℕ → Type 0
FollowsWhole bytes =
    (cut bytes ≡ whole_lines bytes)
    ⊎ ((last : List ℕ) × EndsIn (cut bytes) (whole_lines bytes) last)
