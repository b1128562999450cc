-- What the next line of a source is, by the answer: this project's profile.
use Rattle.std.specs.Prelude.{◌≡◌, ℕ, ◌+◌, ◌≤◌, Bool, true, false, List, [], ◌∷◌, ◌++◌, length, Option, None, Some, Result, Ok, Err, ⊤}
use Rattle.cs_io.specs.Causes.{Rose}
use Rattle.cs_io.specs.Reader.{Reader}
use Rattle.cs_io.specs.Lines.{IsPlain, Feed, End, More, LineTooLong, SourceTooMuch, longest_line, largest_source}
use Rattle.cs_io.specs.declared.lines.Line.{Line}
use Rattle.cs_io.specs.declared.lines.LineFault.{LineFault}
use Rattle.cs_io.specs.declared.lines.LineFault.TheVariants.{Read, TooLong, TooMuch, NoMemory}

-- the answer is the first of what the source gives, and what it gives from then on is the rest
abbrev pub Gives : Result (Option Line) LineFault → Option Feed → Option Feed → Type 0
Gives r None g = ⊤
Gives r (Some f) None = ⊥
Gives (Ok None) (Some f) (Some g) = (f ≡ End) × (g ≡ End)
Gives (Ok (Some line)) (Some f) (Some g) = f ≡ More line.number line.bytes.items g
Gives (Err Read) (Some f) (Some g) = ⊤
Gives (Err (TooLong n)) (Some f) (Some g) = f ≡ LineTooLong n
Gives (Err (TooMuch n)) (Some f) (Some g) = f ≡ SourceTooMuch n
Gives (Err NoMemory) (Some f) (Some g) = ⊤

-- of the bytes x that were not yet given, y are left: a line and its newline were taken, or the
-- last line; before a failed read no newline was
abbrev pub Texts : Result (Option Line) LineFault → Option (List ℕ) → Option (List ℕ) → Bool
    → Type 0
Texts r None y ended = ⊤
Texts r (Some x) None ended = ⊥
Texts (Ok None) (Some x) (Some y) ended = (x ≡ []) × (y ≡ [])
Texts (Ok (Some line)) (Some x) (Some y) false = IsPlain line.bytes.items
    × (x ≡ line.bytes.items ++ 10 ∷ y)
Texts (Ok (Some line)) (Some x) (Some y) true = IsPlain line.bytes.items × (x ≡ line.bytes.items)
    × (y ≡ [])
Texts (Err Read) (Some x) (Some y) ended = (part : List ℕ) × IsPlain part × (x ≡ part ++ y)
Texts (Err (TooLong n)) (Some x) (Some y) ended = ⊤
Texts (Err (TooMuch n)) (Some x) (Some y) ended = ⊤
Texts (Err NoMemory) (Some x) (Some y) ended = ⊤

-- a line has the number after the last one, and is within the limits
pub record IsNext (old new : Reader) (line : Line) : Type 0 where
  pub number : line.number ≡ old.given + 1
  pub given : new.given ≡ line.number
  pub within : line.number ≤ largest_source
  pub short : length line.bytes.items ≤ longest_line

-- a failed read is answered only where the count of failed reads rose
abbrev pub FaultHasCause : ℕ → ℕ → LineFault → Type 0
FaultHasCause before now Read = Rose before now
FaultHasCause before now (TooLong n) = ⊤
FaultHasCause before now (TooMuch n) = ⊤
FaultHasCause before now NoMemory = ⊤

-- after a failed read nothing is read ahead, and the end had not been met
abbrev pub ReadStands : LineFault → Reader → Reader → Type 0
ReadStands Read old new = (old.ended ≡ false) × (new.ahead ≡ [])
ReadStands (TooLong n) old new = ⊤
ReadStands (TooMuch n) old new = ⊤
ReadStands NoMemory old new = ⊤
