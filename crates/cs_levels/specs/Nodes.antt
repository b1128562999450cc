-- What of a node is evaluated, and what becomes of its value.
use Rattle.std.specs.Prelude.{Bool, List, [], ◌∷◌, filter, flat_map, map, Option, Some, None, unwrap_or, if◌then◌else◌}
use Rattle.cs_value.specs.Tree.{Tree, Pairs}
use Rattle.cs_value.specs.Pairs.{put}
use Rattle.cs_value.specs.Words.{as_list, list_of}
use Rattle.cs_syntax.specs.Brackets.{key_of}
use Rattle.cs_syntax.specs.Expression.{Expression, Element, element, spread_element, Entry, keyed, bare, when, spread, Step, Steps, no_steps, more_steps, steps_of}
use Rattle.cs_syntax.specs.View.{step_of}
use Rattle.cs_view.specs.declared.key.Key.{Key}
use Rattle.cs_meaning.specs.Operators.{put_under, spread_into}
use Rattle.cs_meaning.specs.Values.{is_pipe}
use Rattle.cs_parts.specs.Parts.{got, item}
use Rattle.cs_levels.specs.declared.levels.Remaining.{Remaining}
use Rattle.cs_levels.specs.declared.brackets.InBracket.{InBracket}
use Rattle.cs_levels.specs.declared.brackets.InBracket.TheVariants.{Given, Tried}

-- The expression of an element of an array literal, and what its value adds: "Array".
abbrev pub element_expression : Element → Expression
element_expression (element e) = e
element_expression (spread_element e) = e

abbrev pub element_adds : Element → Tree → List Tree
element_adds (element e) v = v ∷ []
element_adds (spread_element e) v = unwrap_or (as_list v) []

-- The condition of an entry, its expression, and its value put into pairs: "Object".
abbrev pub entry_condition : Entry → Option Expression
entry_condition (when c e) = Some c
entry_condition _ = None

abbrev pub entry_expression : Entry → Expression
entry_expression (keyed k e) = e
entry_expression (bare e) = e
entry_expression (when c e) = e
entry_expression (spread e) = e

abbrev pub entry_put : Entry → Tree → Pairs → Pairs
entry_put (keyed k e) v pairs = put k v pairs
entry_put (bare e) v pairs = put_under (key_of e) v pairs
entry_put (when c e) v pairs = spread_into pairs v
entry_put (spread e) v pairs = spread_into pairs v

-- What a bracket gives, and looks up: what was given without a condition, "Element access" and
-- "Attribute access", or the elements at which its condition holds, "Filter".
abbrev pub given : (Tree → Bool) → InBracket → Tree
given passes (Given g) = got g
given passes (Tried items) = list_of (filter passes (map item items.items))

abbrev pub given_looked : (Tree → List Key) → InBracket → List Key
given_looked looked (Given g) = []
given_looked looked (Tried items) = flat_map looked (map item items.items)

-- The first piped call of a rest, and the steps behind it: "Pipe functions".
abbrev pub first_pipe : Steps → Option (Step × Steps)
first_pipe no_steps = None
first_pipe (more_steps s ss) = if is_pipe s then Some (s, ss) else first_pipe ss

-- the steps of a rest
abbrev pub steps_in : Remaining → Steps
steps_in r = steps_of (map step_of r.steps.now)
