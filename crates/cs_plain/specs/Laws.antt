-- The laws of plain predicates.
use Rattle.std.specs.Prelude.{◌≡◌, List, [], ◌∷◌, Some, IsTrue, true}
use Rattle.cs_value.specs.Tree.{Tree, null, Pairs}
use Rattle.cs_syntax.specs.Expression.{Expression}
use Rattle.cs_view.specs.Keys.{has_all}
use Rattle.cs_plan.specs.Simple.{is_quiet}
use Rattle.cs_meaning.specs.Operators.{is_true}
use Rattle.cs_meaning.specs.Values.{value}
use Rattle.cs_plain.specs.Plain.{listened_filter}
use Rattle.cs_plain.specs.Holds.{holds}
use Rattle.cs_plain.specs.Keyed.{predicate_keys}

-- a filter that a listener may have is quiet, and over every dataset it has the same value
abbrev pub PlainIsQuiet : Type 0
PlainIsQuiet =
    (q filter : Expression)
    → listened_filter q ≡ Some filter
    → IsTrue (is_quiet filter)
    × ((params : Pairs) (scope d1 d2 : List Tree)
    → value d1 params filter scope ≡ value d2 params filter scope)

-- it is true of a document over every dataset where it is over none
abbrev pub PlainHoldsAnywhere : Type 0
PlainHoldsAnywhere =
    (q filter : Expression) (params : Pairs) (d : Tree) (docs : List Tree)
    → listened_filter q ≡ Some filter
    → is_true (value docs params filter (d ∷ null ∷ [])) ≡ holds filter params d

-- a document of which a filter is true has each of the filter's keys
abbrev pub TrueHasPredicateKeys : Type 0
TrueHasPredicateKeys =
    (filter : Expression) (params : Pairs) (d : Tree)
    → holds filter params d ≡ true → has_all (predicate_keys filter params) d ≡ true
