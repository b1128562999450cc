-- The functions of lists: GROQ-1.revision1, "count()", and its "Array" namespace.
use Rattle.std.specs.Prelude.{List, [], ◌∷◌, ◌++◌, length, pos, not, if◌then◌else◌, filter}
use Rattle.std.specs.List.{list_any}
use Rattle.cs_value.specs.Words.{of_list, is_null}
use Rattle.cs_value.specs.Tree.{Tree, boolean, integer, list, trees}
use Rattle.cs_ops.specs.Equal.{equal}

abbrev pub count : Tree → Tree
count x = of_list (λ ts. integer (pos (length ts))) x

abbrev pub defined : Tree → Tree
defined x = boolean (not (is_null x))

abbrev pub compact : Tree → Tree
compact x = of_list (λ ts. list (trees (filter (λ t. not (is_null t)) ts))) x

-- the elements that are equal to none before them
abbrev pub distinct : List Tree → List Tree → List Tree
distinct before [] = []
distinct before (t ∷ ts) = if list_any (equal t) before then distinct (before ++ t ∷ []) ts
    else t ∷ distinct (before ++ t ∷ []) ts

abbrev pub unique : Tree → Tree
unique x = of_list (λ ts. list (trees (distinct [] ts))) x
