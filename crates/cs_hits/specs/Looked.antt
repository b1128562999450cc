-- Marks of ids: numbers by which other ids mostly differ, so that most changes are told apart from
-- the one document that finding a share looked up. This project's profile.
use Rattle.std.specs.Prelude.{◌≡◌, ℕ, List, [], ◌∷◌, true, false, ◌+◌, ◌*◌, ◌%◌, ◌^◌, length, map, Option, Some, None}
use Rattle.cs_view.specs.Changes.{are_changes}
use Rattle.cs_view.specs.Touched.{touched}
use Rattle.cs_view.specs.View.{edits}
use Rattle.cs_view.specs.declared.change.Change.{Change}
use Rattle.cs_view.specs.declared.key.Key.{Key}
use Rattle.cs_view.specs.declared.key.Key.TheVariants.{Id}

-- the number of which these are the digits to the base 31, the first one highest
abbrev pub number : List ℕ → ℕ
number [] = 0
number (b ∷ bs) = b * 31 ^ length bs + number bs

-- the mark of an id: the number of its bytes, to 64 bits
unfoldable pub mark : List ℕ → ℕ
mark id = number id % 2 ^ 64

-- the marks of the changes' ids
abbrev pub marks : List Change → List ℕ
marks cs = map (λ c. mark c.id) cs

-- no changes whose ids have these marks touch one of the keys
abbrev pub PassBy : List ℕ → List Key → Type 0
PassBy ms ks = (cs : List Change) → are_changes (edits cs) ≡ true → ms ≡ marks cs
    → touched ks (edits cs) ≡ false

-- that of the id which is the only key; for private clauses
abbrev pub sole_mark : List Key → Option ℕ
sole_mark (Id x ∷ []) = Some (mark x)
sole_mark ks = None
