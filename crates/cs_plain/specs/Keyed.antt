-- The keys of a plain predicate: which documents alone can make its filter true, as far as its form
-- tells. What the code finds of it by the form of the query.
use Rattle.std.specs.Prelude.{List, [], ◌∷◌, Option, Some, None}
use Rattle.cs_value.specs.Tree.{null, Pairs}
use Rattle.cs_syntax.specs.Expression.{Expression, chain, Step, bracket, Steps, no_steps, more_steps}
use Rattle.cs_view.specs.declared.key.Key.{Key}
use Rattle.cs_plan.specs.Filters.{filter_keys}

-- the keys of a filter, in the scope of null alone
abbrev pub predicate_keys : Expression → Pairs → List Key
predicate_keys filter params = filter_keys filter (null ∷ []) params

-- the condition of a step in brackets, of the first of some steps, of a query
abbrev pub step_condition : Step → Option Expression
step_condition (bracket e) = Some e
step_condition _ = None

abbrev pub first_condition : Steps → Option Expression
first_condition no_steps = None
first_condition (more_steps s ss) = step_condition s

abbrev pub query_condition : Expression → Option Expression
query_condition (chain base ss) = first_condition ss
query_condition _ = None
