-- What an evaluation looks up, as a list of keys in the order of evaluation: this project's
-- profile. It stands beside the value of each form: a part that the value does not need is not
-- looked at.
use Rattle.std.specs.Prelude.{ℕ, Bool, true, false, ◌&&◌, List, [], ◌∷◌, ◌++◌, flat_map, Option, Some, None, if◌then◌else◌}
use Rattle.std.specs.Option.{option_map_or}
use Rattle.cs_value.specs.Tree.{Tree, null, Pairs}
use Rattle.cs_value.specs.Words.{is_object, as_list, list_of, is_null}
use Rattle.cs_syntax.specs.Expression.{Expression, everything, round, call, array, object_literal, chain, prefix, run, within, between, Operands, no_operands, more_operands, Step, attr, deref, each, slice, bracket, project, pipe, Steps, no_steps, more_steps, Entry, keyed, bare, when, spread, Entries, no_entries, more_entries, Element, element, spread_element, Elements, no_elements, more_elements, Argument, argument, when_argument, Arguments, no_arguments, more_arguments, order_key, OrderKeys, no_keys, more_keys}
use Rattle.cs_view.specs.Keys.{having}
use Rattle.cs_view.specs.declared.key.Key.{Key}
use Rattle.cs_view.specs.declared.key.Key.TheVariants.{All, Id}
use Rattle.cs_plan.specs.Steps.{Bracketed, position, named, condition, bracketed, is_order_name}
use Rattle.cs_plan.specs.Filters.{key_in}
use Rattle.cs_plan.specs.Simple.{is_filter}
use Rattle.cs_meaning.specs.declared.join.Way.{Way}
use Rattle.cs_meaning.specs.declared.join.Way.TheVariants.{Through, Over, After, Ends}
use Rattle.cs_meaning.specs.declared.join.Entrance.{Entrance}
use Rattle.cs_meaning.specs.declared.join.Entrance.TheVariants.{Whole, Mapped, Flat}
use Rattle.cs_meaning.specs.Joining.{mapped, form, kind, way, entrance, entered, base_entrance}
use Rattle.cs_meaning.specs.Operators.{is_true, operator_of, operated, decides, Callee, coalescing, selecting, referring, applying, callee, reference_of}
use Rattle.cs_meaning.specs.Values.{is_pipe, value, argument_value, rest_value, step_value}

-- What is looked up for each element of a list, nothing for anything else.
abbrev pub each_looked : (Tree → List Key) → Tree → List Key
each_looked looked v = option_map_or (flat_map looked) (as_list v) []

-- What a rest looks up of an array that enters it.
abbrev pub entered_looked : Entrance → (Tree → List Key) → Tree → List Key
entered_looked Whole rest v = rest v
entered_looked Mapped rest v = each_looked rest v
entered_looked Flat rest v = each_looked rest v

-- What a step and the rest behind it look up.
abbrev pub onward_looked : Way → Entrance → (Tree → Tree) → (Tree → List Key) → (Tree → List Key)
    → Tree → List Key
onward_looked Through enter step step_keys rest_keys v = step_keys v ++ rest_keys (step v)
onward_looked Over enter step step_keys rest_keys v =
    each_looked step_keys v ++ rest_keys (mapped step v)
onward_looked After enter step step_keys rest_keys v =
    step_keys v ++ entered_looked enter rest_keys (step v)
onward_looked Ends enter step step_keys rest_keys v = []

-- A condition is tried on each element, and a position or a name looks nothing up.
abbrev pub bracket_looked : Bracketed → (Tree → List Key) → Tree → List Key
bracket_looked (position n) looked v = []
bracket_looked (named w) looked v = []
bracket_looked condition looked v = each_looked looked v

-- A dereference looks up the id that the object refers to, whether or not a document has it.
abbrev pub id_looked : Option (List ℕ) → List Key
id_looked None = []
id_looked (Some t) = Id t ∷ []

-- `coalesce` and `select` look up for the arguments that count, every other call for all its
-- arguments.
abbrev pub called_looked : Callee → List Key → List Key → List Key → List Key
called_looked coalescing first taken all = first
called_looked selecting first taken all = taken
called_looked referring first taken all = all
called_looked (applying f) first taken all = all

-- An expression is `*`.
abbrev pub is_everything : Expression → Bool
is_everything everything = true
is_everything _ = false

-- The first step is a filter.
abbrev pub starts_with_filter : Steps → Bool
starts_with_filter no_steps = false
starts_with_filter (more_steps s ss) = is_filter s

abbrev mutual
  -- A `*` with a filter as its first step is looked up by the key of the filter; every other `*` is
  -- all documents. All other forms look up what their parts do.
  pub looked : List Tree → Pairs → Expression → List Tree → List Key
  looked docs params everything scope = All ∷ []
  looked docs params (round e) scope = looked docs params e scope
  looked docs params (call name args) scope =
      called_looked (callee name) (coalesced_looked docs params args scope)
      (selected_looked docs params args scope) (arguments_looked docs params args scope)
  looked docs params (array es) scope = elements_looked docs params es scope
  looked docs params (object_literal es) scope = entries_looked docs params es scope
  looked docs params (chain base ss) scope =
      (if is_everything base && starts_with_filter ss then filter_looked docs params ss scope
      else looked docs params base scope
      ++ entered_looked (base_entrance base (kind ss)) (rest_looked docs params ss scope)
      (value docs params base scope))
      ++ pipes_looked docs params ss scope
      (entered (base_entrance base (kind ss)) (rest_value docs params ss scope)
      (value docs params base scope))
  looked docs params (prefix signs e) scope = looked docs params e scope
  looked docs params (run e rest) scope =
      looked docs params e scope ++ run_looked docs params rest scope (value docs params e scope)
  looked docs params (within e right) scope =
      looked docs params e scope ++ looked docs params right scope
  looked docs params (between e from to closed) scope =
      looked docs params e scope ++ (looked docs params from scope ++ looked docs params to scope)
  looked docs params _ scope = []

  -- `*` and its filter: the key of the filter, then what the filter looks up for each document that
  -- has the key, and then what the rest looks up of the documents that make the filter true.
  pub filter_looked : List Tree → Pairs → Steps → List Tree → List Key
  filter_looked docs params (more_steps (bracket e) ss) scope =
      key_in e scope params
      ∷ (flat_map (λ d. looked docs params e (d ∷ scope)) (having (key_in e scope params) docs)
      ++ entered_looked (entrance (kind ss)) (rest_looked docs params ss scope)
      (step_value docs params (bracket e) scope (list_of docs)))
  filter_looked docs params _ scope = []

  -- A right side is looked at unless the left side decides.
  pub run_looked : List Tree → Pairs → Operands → List Tree → Tree → List Key
  run_looked docs params no_operands scope v = []
  run_looked docs params (more_operands sign e rest) scope v =
      (if decides (operator_of sign) v then [] else looked docs params e scope)
      ++ run_looked docs params rest scope (operated sign v (value docs params e scope))

  -- An argument; of one with `=>`, which only `select` may have, there is no value.
  pub argument_looked : List Tree → Pairs → Argument → List Tree → List Key
  argument_looked docs params (argument e) scope = looked docs params e scope
  argument_looked docs params (when_argument c e) scope = []

  -- All arguments, in order.
  pub arguments_looked : List Tree → Pairs → Arguments → List Tree → List Key
  arguments_looked docs params no_arguments scope = []
  arguments_looked docs params (more_arguments x xs) scope =
      argument_looked docs params x scope ++ arguments_looked docs params xs scope

  -- The first argument that is not null is the last that counts.
  pub coalesced_looked : List Tree → Pairs → Arguments → List Tree → List Key
  coalesced_looked docs params no_arguments scope = []
  coalesced_looked docs params (more_arguments x xs) scope =
      argument_looked docs params x scope
      ++ (if is_null (argument_value docs params x scope)
      then coalesced_looked docs params xs scope else [])

  -- The first condition that is true is the last that counts, and then the value that is taken.
  pub selected_looked : List Tree → Pairs → Arguments → List Tree → List Key
  selected_looked docs params no_arguments scope = []
  selected_looked docs params (more_arguments (argument e) xs) scope = looked docs params e scope
  selected_looked docs params (more_arguments (when_argument c e) xs) scope =
      looked docs params c scope
      ++ (if is_true (value docs params c scope) then looked docs params e scope
      else selected_looked docs params xs scope)

  -- An element of an array literal.
  pub element_looked : List Tree → Pairs → Element → List Tree → List Key
  element_looked docs params (element e) scope = looked docs params e scope
  element_looked docs params (spread_element e) scope = looked docs params e scope

  -- All elements, in order.
  pub elements_looked : List Tree → Pairs → Elements → List Tree → List Key
  elements_looked docs params no_elements scope = []
  elements_looked docs params (more_elements x xs) scope =
      element_looked docs params x scope ++ elements_looked docs params xs scope

  -- An entry under a condition is looked at where this is true.
  pub entry_looked : List Tree → Pairs → Entry → List Tree → List Key
  entry_looked docs params (keyed k e) scope = looked docs params e scope
  entry_looked docs params (bare e) scope = looked docs params e scope
  entry_looked docs params (when c e) scope =
      looked docs params c scope
      ++ (if is_true (value docs params c scope) then looked docs params e scope else [])
  entry_looked docs params (spread e) scope = looked docs params e scope

  -- All entries, in order.
  pub entries_looked : List Tree → Pairs → Entries → List Tree → List Key
  entries_looked docs params no_entries scope = []
  entries_looked docs params (more_entries x xs) scope =
      entry_looked docs params x scope ++ entries_looked docs params xs scope

  -- What a rest, up to the first piped call, looks up of a value.
  pub rest_looked : List Tree → Pairs → Steps → List Tree → Tree → List Key
  rest_looked docs params no_steps scope v = []
  rest_looked docs params (more_steps s ss) scope v =
      onward_looked (way (form s) (kind ss)) (entrance (kind ss)) (step_value docs params s scope)
      (step_looked docs params s scope) (rest_looked docs params ss scope) v

  -- What each piped call and the rest behind it look up.
  pub pipes_looked : List Tree → Pairs → Steps → List Tree → Tree → List Key
  pipes_looked docs params no_steps scope v = []
  pipes_looked docs params (more_steps s ss) scope v =
      (if is_pipe s
      then step_looked docs params s scope v
      ++ entered_looked (entrance (kind ss)) (rest_looked docs params ss scope)
      (step_value docs params s scope v) else [])
      ++ pipes_looked docs params ss scope
      (if is_pipe s
      then entered (entrance (kind ss)) (rest_value docs params ss scope)
      (step_value docs params s scope v) else v)

  -- One step; a filter tries its condition on each element, an order finds the keys of each.
  pub step_looked : List Tree → Pairs → Step → List Tree → Tree → List Key
  step_looked docs params (attr w) scope v = []
  step_looked docs params deref scope v = id_looked (reference_of v)
  step_looked docs params each scope v = []
  step_looked docs params (slice from to closed) scope v = []
  step_looked docs params (bracket e) scope v =
      bracket_looked (bracketed e) (λ x. looked docs params e (x ∷ scope)) v
  step_looked docs params (project es) scope v = if is_object v
      then entries_looked docs params es (v ∷ scope) else []
  step_looked docs params (pipe name ks) scope v = if is_order_name name
      then each_looked (λ x. keys_looked docs params ks (x ∷ scope)) v else []

  -- The keys of an order, in order.
  pub keys_looked : List Tree → Pairs → OrderKeys → List Tree → List Key
  keys_looked docs params no_keys scope = []
  keys_looked docs params (more_keys (order_key e descending) ks) scope =
      looked docs params e scope ++ keys_looked docs params ks scope

-- What a whole query looks up: its scope is that of null alone.
abbrev pub query_looked : List Tree → Pairs → Expression → List Key
query_looked docs params e = looked docs params e (null ∷ [])
