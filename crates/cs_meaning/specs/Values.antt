-- The value of an expression over a dataset, with parameters, in a scope: GROQ-1.revision1,
-- "Evaluation", as this project's profile has it. Every tree has a value, also one that no text
-- spells: a form that the profile refuses is null.
-- A dataset is the list of its documents, a scope the list of its values, the innermost first.
use Rattle.std.specs.Prelude.{Bool, true, false, List, [], ◌∷◌, ◌++◌, filter, Option, Some, None, unwrap_or, if◌then◌else◌}
use Rattle.std.specs.Option.{option_map_or}
use Rattle.cs_value.specs.Tree.{Tree, null, boolean, text, object, Pairs, no_pairs}
use Rattle.cs_value.specs.Pairs.{put}
use Rattle.cs_value.specs.Words.{as_object, as_list, list_of, of_list, field}
use Rattle.cs_syntax.specs.Brackets.{key_of}
use Rattle.cs_syntax.specs.Faults.{is_path}
use Rattle.cs_syntax.specs.Expression.{Expression, null_literal, bool_literal, number_literal, text_literal, param, word, this, everything, parent, round, call, array, object_literal, chain, prefix, run, within, between, Operands, no_operands, more_operands, Step, attr, deref, each, slice, bracket, project, pipe, Steps, no_steps, more_steps, Entry, keyed, bare, when, spread, Entries, no_entries, more_entries, Element, element, spread_element, Elements, no_elements, more_elements, Argument, argument, when_argument, Arguments, no_arguments, more_arguments, order_key, OrderKeys, no_keys, more_keys}
use Rattle.cs_ops.specs.Operators as operators
use Rattle.cs_plan.specs.Steps.{in_scope, position_of, Bracketed, position, named, condition, bracketed, is_order_name}
use Rattle.cs_plan.specs.Constants.{literal}
use Rattle.cs_meaning.specs.Joining.{form, kind, way, entrance, entered, onward, base_entrance}
use Rattle.cs_meaning.specs.Operators.{is_true, operated, signed, in_list_or_path, sole, callee, called, or_else, parameter, spread_into, put_under, reference_of, sought}
use Rattle.cs_meaning.specs.Ordered.{ordered, directions}
use Rattle.cs_meaning.specs.Positions as positions

-- The elements of a list that pass, null of anything but a list: "Filter".
abbrev pub filtered : (Tree → Bool) → Tree → Tree
filtered passes v = of_list (λ ts. list_of (filter passes ts)) v

-- What a bracket gives of a value: the element, the attribute, or what its condition leaves.
abbrev pub in_bracket : Bracketed → (Tree → Bool) → Tree → Tree
in_bracket (position n) passes v = positions.element n v
in_bracket (named w) passes v = field w v
in_bracket condition passes v = filtered passes v

-- What an object is projected to, null of anything but an object: "Projection".
abbrev pub projected : Pairs → Tree → Tree
projected pairs v = option_map_or (λ own. object pairs) (as_object v) null

-- A step is a piped call.
abbrev pub is_pipe : Step → Bool
is_pipe (pipe name ks) = true
is_pipe _ = false

abbrev mutual
  -- The value of an expression: "Literals", "This", "Everything", "Parent", "Parameter",
  -- "Operators", "Object", "Array".
  pub value : List Tree → Pairs → Expression → List Tree → Tree
  value docs params null_literal scope = null
  value docs params (bool_literal b) scope = boolean b
  value docs params (number_literal n) scope = literal n
  value docs params (text_literal s) scope = text s
  value docs params (param p) scope = parameter p params
  value docs params (word w) scope = field w (in_scope 0 scope)
  value docs params this scope = in_scope 0 scope
  value docs params everything scope = list_of docs
  value docs params (parent n) scope = in_scope n scope
  value docs params (round e) scope = value docs params e scope
  value docs params (call name args) scope =
      called (callee name) (coalesced docs params args scope) (selected docs params args scope)
      (in_scope 0 scope) (arguments_values docs params args scope)
  value docs params (array es) scope = list_of (elements_values docs params es scope)
  value docs params (object_literal es) scope = object (entries_pairs docs params es scope no_pairs)
  value docs params (chain base ss) scope =
      pipes_value docs params ss scope
      (entered (base_entrance base (kind ss)) (rest_value docs params ss scope)
      (value docs params base scope))
  value docs params (prefix signs e) scope = signed signs (value docs params e scope)
  value docs params (run e rest) scope =
      run_value docs params rest scope (value docs params e scope)
  value docs params (within e right) scope =
      in_list_or_path (value docs params e scope) (path_pattern docs params right scope)
      (value docs params right scope)
  value docs params (between e from to closed) scope =
      operators.between (value docs params e scope) (value docs params from scope)
      (value docs params to scope) closed

  -- Operators of one level from the left, after this value of what stands before them.
  pub run_value : List Tree → Pairs → Operands → List Tree → Tree → Tree
  run_value docs params no_operands scope v = v
  run_value docs params (more_operands sign e rest) scope v =
      run_value docs params rest scope (operated sign v (value docs params e scope))

  -- The pattern of a call of `path` on the right of `in`: "path()".
  pub path_pattern : List Tree → Pairs → Expression → List Tree → Option Tree
  path_pattern docs params (call name args) scope = if is_path name
      then Some (sole (arguments_values docs params args scope)) else None
  path_pattern docs params _ scope = None

  -- The value of an argument; one with `=>`, which only `select` may have, is null: "Function
  -- call".
  pub argument_value : List Tree → Pairs → Argument → List Tree → Tree
  argument_value docs params (argument e) scope = value docs params e scope
  argument_value docs params (when_argument c e) scope = null

  -- The values of all arguments, in order.
  pub arguments_values : List Tree → Pairs → Arguments → List Tree → List Tree
  arguments_values docs params no_arguments scope = []
  arguments_values docs params (more_arguments x xs) scope =
      argument_value docs params x scope ∷ arguments_values docs params xs scope

  -- The first argument that is not null, else null: "coalesce()".
  pub coalesced : List Tree → Pairs → Arguments → List Tree → Tree
  coalesced docs params no_arguments scope = null
  coalesced docs params (more_arguments x xs) scope =
      or_else (argument_value docs params x scope) (coalesced docs params xs scope)

  -- The value of the first argument whose condition is true, or that has none; else null:
  -- "select()".
  pub selected : List Tree → Pairs → Arguments → List Tree → Tree
  selected docs params no_arguments scope = null
  selected docs params (more_arguments (argument e) xs) scope = value docs params e scope
  selected docs params (more_arguments (when_argument c e) xs) scope =
      if is_true (value docs params c scope) then value docs params e scope
      else selected docs params xs scope

  -- What an element of an array literal adds: its value, or with `...` the elements of a list and
  -- nothing of anything else:
  -- "Array".
  pub element_values : List Tree → Pairs → Element → List Tree → List Tree
  element_values docs params (element e) scope = value docs params e scope ∷ []
  element_values docs params (spread_element e) scope =
      unwrap_or (as_list (value docs params e scope)) []

  -- What all elements add, in order.
  pub elements_values : List Tree → Pairs → Elements → List Tree → List Tree
  elements_values docs params no_elements scope = []
  elements_values docs params (more_elements x xs) scope =
      element_values docs params x scope ++ elements_values docs params xs scope

  -- The pairs so far with those of an entry put in; a later value replaces an earlier one of the
  -- same key: "Object".
  pub entry_pairs : List Tree → Pairs → Entry → List Tree → Pairs → Pairs
  entry_pairs docs params (keyed k e) scope pairs = put k (value docs params e scope) pairs
  entry_pairs docs params (bare e) scope pairs =
      put_under (key_of e) (value docs params e scope) pairs
  entry_pairs docs params (when c e) scope pairs = if is_true (value docs params c scope)
      then spread_into pairs (value docs params e scope) else pairs
  entry_pairs docs params (spread e) scope pairs = spread_into pairs (value docs params e scope)

  -- The pairs with those of all entries put in, in order.
  pub entries_pairs : List Tree → Pairs → Entries → List Tree → Pairs → Pairs
  entries_pairs docs params no_entries scope pairs = pairs
  entries_pairs docs params (more_entries x xs) scope pairs =
      entries_pairs docs params xs scope (entry_pairs docs params x scope pairs)

  -- What a rest, up to the first piped call, makes of a value. Every step's own expressions stand
  -- in the scope of the chain.
  pub rest_value : List Tree → Pairs → Steps → List Tree → Tree → Tree
  rest_value docs params no_steps scope v = v
  rest_value docs params (more_steps s ss) scope v =
      onward (way (form s) (kind ss)) (entrance (kind ss)) (step_value docs params s scope)
      (rest_value docs params ss scope) v

  -- What stands from the first piped call on makes of the value of what stands before it: each
  -- piped call gives an array, which enters the rest behind it: "Pipe functions".
  pub pipes_value : List Tree → Pairs → Steps → List Tree → Tree → Tree
  pipes_value docs params no_steps scope v = v
  pipes_value docs params (more_steps s ss) scope v =
      pipes_value docs params ss scope
      (if is_pipe s
      then entered (entrance (kind ss)) (rest_value docs params ss scope)
      (step_value docs params s scope v) else v)

  -- One step. A filter, a projection and an order put the element in front of the scope: "Attribute
  -- access", "Dereference", "Array postfix", "Slice", "Element access", "Filter", "Projection",
  -- "Order pipe function".
  pub step_value : List Tree → Pairs → Step → List Tree → Tree → Tree
  step_value docs params (attr w) scope v = field w v
  step_value docs params deref scope v = sought docs (reference_of v)
  step_value docs params each scope v = of_list list_of v
  step_value docs params (slice from to closed) scope v =
      positions.sliced (position_of from) (position_of to) closed v
  step_value docs params (bracket e) scope v =
      in_bracket (bracketed e) (λ x. is_true (value docs params e (x ∷ scope))) v
  step_value docs params (project es) scope v =
      projected (entries_pairs docs params es (v ∷ scope) no_pairs) v
  step_value docs params (pipe name ks) scope v = if is_order_name name
      then ordered (directions ks) (λ x. keys_values docs params ks (x ∷ scope)) v else null

  -- The values of an order's keys: "Order pipe function".
  pub keys_values : List Tree → Pairs → OrderKeys → List Tree → List Tree
  keys_values docs params no_keys scope = []
  keys_values docs params (more_keys (order_key e descending) ks) scope =
      value docs params e scope ∷ keys_values docs params ks scope

-- The value of a whole query: its scope is that of null alone.
abbrev pub query_value : List Tree → Pairs → Expression → Tree
query_value docs params e = value docs params e (null ∷ [])
