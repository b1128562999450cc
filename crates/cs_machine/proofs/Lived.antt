-- What holds of each live query where one is added or stopped.
use Rattle.std.proofs.Common.{ℕ, List, [], ◌∷◌, ◌++◌, Bool, true, false, cond}
use Rattle.std.specs.List.{AllByRecursion}
use Rattle.cs_live.specs.Lives.{LiveQuery, has_live_name, without_name}

pub each_with : (P : LiveQuery → Type 0) (es : List LiveQuery) (l : LiveQuery)
    → AllByRecursion P es → P l → AllByRecursion P (es ++ l ∷ [])
each_with P [] l h is = (is, tt)
each_with P (e ∷ es) l h is = (h.0, each_with P es l h.1 is)

either_each : (P : LiveQuery → Type 0) (b : Bool) (es fs : List LiveQuery) → AllByRecursion P es
    → AllByRecursion P fs → AllByRecursion P (cond b es fs)
either_each P true es fs g h = g
either_each P false es fs g h = h

pub each_without : (P : LiveQuery → Type 0) (name : List ℕ) (es : List LiveQuery)
    → AllByRecursion P es → AllByRecursion P (without_name name es)
each_without P name [] h = tt
each_without P name (e ∷ es) h =
    either_each P (has_live_name name e) es (e ∷ without_name name es) h.1
    (h.0, each_without P name es h.1)
