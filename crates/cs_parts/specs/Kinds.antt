-- The kinds of all rests of a chain, and what a bracket of the code asks for.
use Rattle.std.specs.Prelude.{List, [], ◌∷◌}
use Rattle.cs_syntax.specs.Expression.{Step, steps_of}
use Rattle.cs_meaning.specs.Joining.{kind}
use Rattle.cs_meaning.specs.declared.join.Kind.{Kind}
use Rattle.cs_meaning.specs.declared.join.Kind.TheVariants.{Empty}

-- the kind of each rest that is not empty, the longest first
abbrev pub kinds_of : List Step → List Kind
kinds_of [] = []
kinds_of (s ∷ ss) = kind (steps_of (s ∷ ss)) ∷ kinds_of ss

-- the first of these
abbrev pub first_kind : List Kind → Kind
first_kind [] = Empty
first_kind (k ∷ ks) = k
