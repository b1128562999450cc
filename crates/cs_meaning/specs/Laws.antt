-- The laws of values and of what is looked up, for all expressions, also those that no text spells.
use Rattle.std.specs.Prelude.{◌≡◌, ℕ, IsTrue, Bool, List, [], ◌∷◌, Contains, IsPermutation, IsSorted}
use Rattle.std.specs.List.Sorted.{IsStable}
use Rattle.cs_value.specs.Tree.{Tree, null, Pairs}
use Rattle.cs_syntax.specs.Expression.{Expression, Steps}
use Rattle.cs_syntax.specs.Functions.{arity_of}
use Rattle.cs_view.specs.Keys.{has, has_all, having}
use Rattle.cs_view.specs.declared.key.Key.{Key}
use Rattle.cs_plan.specs.Filters.{filter_keys, key_in}
use Rattle.cs_plan.specs.Simple.{is_quiet, is_simple, query_key}
use Rattle.cs_meaning.specs.Callees.{arity_taken}
use Rattle.cs_meaning.specs.Hits.{hits, tail}
use Rattle.cs_meaning.specs.Looked.{looked, query_looked}
use Rattle.cs_meaning.specs.Operators.{is_true, callee}
use Rattle.cs_meaning.specs.Ordered.{Ranked, ranks, sorted}
use Rattle.cs_meaning.specs.Values.{value, rest_value, query_value}

-- Two lists of documents have the same documents of each of these keys, in the same order.
abbrev pub AgreeOn : List Key → List Tree → List Tree → Type 0
AgreeOn keys d1 d2 = (k : Key) → Contains keys k → having k d1 ≡ having k d2

-- What was looked up settles the value: over documents that agree on it the value is the same, and
-- the same is looked up.
abbrev pub LookedSettlesValue : Type 0
LookedSettlesValue = (e : Expression) (params : Pairs) (scope d1 d2 : List Tree)
    → AgreeOn (looked d1 params e scope) d1 d2
    → (value d1 params e scope ≡ value d2 params e scope)
    × (looked d1 params e scope ≡ looked d2 params e scope)

-- A document that makes a filter true has the filter's key, in every scope and over every dataset.
abbrev pub TrueHasKey : Type 0
TrueHasKey = (e : Expression) (params : Pairs) (scope docs : List Tree) (d : Tree)
    → IsTrue (is_true (value docs params e (d ∷ scope))) → IsTrue (has (key_in e scope params) d)

-- A document that makes a filter true has each of the keys that the filter's conjuncts give, and a
-- document that has each of these has the filter's key.
abbrev pub TrueHasEachKey : Type 0
TrueHasEachKey = (e : Expression) (params : Pairs) (scope docs : List Tree) (d : Tree)
    → (IsTrue (is_true (value docs params e (d ∷ scope)))
    → IsTrue (has_all (filter_keys e scope params) d))
    × (IsTrue (has_all (filter_keys e scope params) d) → IsTrue (has (key_in e scope params) d))

-- A simple query looks up its key and nothing else.
abbrev pub SimpleLooksUpItsKey : Type 0
SimpleLooksUpItsKey = (e : Expression) (params : Pairs) (docs : List Tree) → IsTrue (is_simple e)
    → query_looked docs params e ≡ query_key e params ∷ []

-- A simple query's value is what its tail makes of its hits.
abbrev pub SimpleIsTailOfHits : Type 0
SimpleIsTailOfHits = (e : Expression) (params : Pairs) (docs : List Tree) → IsTrue (is_simple e)
    → query_value docs params e ≡ tail e params (hits e params docs)

-- An order gives the same elements, ascending by their keys, with ties as they stood.
abbrev pub SortedInOrder : Type 0
SortedInOrder = (ds : List Bool) (xs : List Ranked)
    → IsPermutation xs (sorted ds xs) × IsSorted (ranks ds) (sorted ds xs)
    × IsStable (ranks ds) xs (sorted ds xs)

-- No other list ascends by the keys and keeps ties as they stood.
abbrev pub SortedInOneWay : Type 0
SortedInOneWay = (ds : List Bool) (xs ys : List Ranked) → IsSorted (ranks ds) ys
    → IsStable (ranks ds) xs ys → ys ≡ sorted ds xs

-- An expression without `*` and `->` looks nothing up, and its value is the same over all
-- documents.
abbrev pub QuietAsksNothing : Type 0
QuietAsksNothing = (e : Expression) (params : Pairs) (scope d1 d2 : List Tree) → IsTrue (is_quiet e)
    → (looked d1 params e scope ≡ []) × (value d1 params e scope ≡ value d2 params e scope)

-- The hits of a query are found among the documents that have its key.
abbrev pub HitsHaveKey : Type 0
HitsHaveKey = (e : Expression) (params : Pairs) (docs : List Tree)
    → hits e params docs ≡ hits e params (having (query_key e params) docs)

-- A rest of a chain gives null of null.
abbrev pub RestKeepsNull : Type 0
RestKeepsNull =
    (params : Pairs) (scope docs : List Tree) (ss : Steps)
    → rest_value docs params ss scope null ≡ null

-- A name is that of a function that a query may call exactly where evaluation has the function, and
-- both take the same arguments.
abbrev pub FunctionsAreEvaluated : Type 0
FunctionsAreEvaluated = (name : List ℕ) → arity_of name ≡ arity_taken (callee name)
