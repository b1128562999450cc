-- What a sink holds after writes that may have stopped half-way: this project's profile.
use Rattle.std.specs.Prelude.{◌≡◌, ℕ, ◌-◌, List, ◌++◌, length, take, ⊤, Option, None, Some}

-- known bytes stay at the front, and what follows them is a prefix of bs
abbrev pub AppendsPartOf : Option (List ℕ) → Option (List ℕ) → List ℕ → Type 0
AppendsPartOf None new bs = ⊤
AppendsPartOf (Some xs) None bs = ⊥
AppendsPartOf (Some xs) (Some ys) bs = ys ≡ xs ++ take (length ys - length xs) bs
