-- The fields of a reply, in any order, and the object of them (RFC 8259, "Objects").
use Rattle.std.specs.Prelude.{ℕ, pos, List, [], ◌∷◌}
use Rattle.cs_value.specs.Tree.{Tree, integer, object, Pairs, no_pairs}
use Rattle.cs_value.specs.Pairs.{put}

-- names, each with its value
abbrev pub Fields : Type 0
Fields = List (List ℕ × Tree)

abbrev pub pairs_with : Fields → Pairs
pairs_with [] = no_pairs
pairs_with (f ∷ fs) = put f.0 f.1 (pairs_with fs)

-- the object of these fields
abbrev pub object_of : Fields → Tree
object_of fs = object (pairs_with fs)

abbrev pub number : ℕ → Tree
number n = integer (pos n)
