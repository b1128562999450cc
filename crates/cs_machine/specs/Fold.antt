-- A machine over the lines of a script, whatever its states are: each line leads to a state, and to
-- replies.
use Rattle.std.specs.Prelude.{ℕ, ◌+◌, List, [], ◌∷◌, ◌++◌}
use Rattle.cs_machine.specs.Replies.{Reply, numbered, reply_lines}

-- what one line leads to
pub record Stepped (S : Type 0) : Type 0 where
  pub state : S
  pub replies : List Reply

-- what a machine does in a state with a line, and with the number of the line
abbrev pub Step : Type 0 → Type 0
Step S = S → ℕ → List ℕ → Stepped S

-- the state after the lines, the first of which has the number n
abbrev pub state_after : {S : Type 0} → Step S → S → ℕ → List (List ℕ) → S
state_after step s n [] = s
state_after step s n (line ∷ lines) = state_after step (step s n line).state (n + 1) lines

-- the replies to the lines, each with the number of its line
abbrev pub replies : {S : Type 0} → Step S → S → ℕ → List (List ℕ) → List (ℕ × Reply)
replies step s n [] = []
replies step s n (line ∷ lines) =
    numbered n (step s n line).replies ++ replies step (step s n line).state (n + 1) lines

-- what the lines have a machine write: the text of their replies
abbrev pub written : {S : Type 0} → Step S → S → ℕ → List (List ℕ) → List ℕ
written step s n lines = reply_lines (replies step s n lines)
