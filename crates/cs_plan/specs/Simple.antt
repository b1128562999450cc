-- Queries of one filter and steps behind it: what of them looks nothing up, which of them are
-- simple, so that the documents that make the filter true are all that the answer is made of, and
-- the keys of their filter. This project's profile.
use Rattle.std.specs.Prelude.{Bool, true, false, ◌&&◌, List, [], ◌∷◌, if◌then◌else◌}
use Rattle.cs_value.specs.Tree.{null, Pairs}
use Rattle.cs_syntax.specs.Expression.{Expression, null_literal, everything, round, call, array, object_literal, chain, prefix, run, within, between, Operands, no_operands, more_operands, Step, attr, deref, each, slice, bracket, project, pipe, Steps, no_steps, more_steps, Entry, keyed, bare, when, spread, Entries, no_entries, more_entries, Element, element, spread_element, Elements, no_elements, more_elements, Argument, argument, when_argument, Arguments, no_arguments, more_arguments, order_key, OrderKeys, no_keys, more_keys}
use Rattle.cs_view.specs.declared.key.Key.{Key}
use Rattle.cs_plan.specs.Steps.{Bracketed, position, named, condition, bracketed, is_order_name}
use Rattle.cs_plan.specs.Filters.{filter_keys, key_in}

abbrev mutual
  -- An expression is quiet: neither `*` as a value nor `->` stands anywhere in it, so no document
  -- but those at hand is looked at.
  pub is_quiet : Expression → Bool
  is_quiet everything = false
  is_quiet (round e) = is_quiet e
  is_quiet (call name args) = quiet_arguments args
  is_quiet (array es) = quiet_elements es
  is_quiet (object_literal es) = quiet_entries es
  is_quiet (chain base ss) = is_quiet base && quiet_steps ss
  is_quiet (prefix signs e) = is_quiet e
  is_quiet (run e rest) = is_quiet e && quiet_operands rest
  is_quiet (within e right) = is_quiet e && is_quiet right
  is_quiet (between e from to closed) = is_quiet e && (is_quiet from && is_quiet to)
  is_quiet _ = true

  -- So are the right sides of operators.
  pub quiet_operands : Operands → Bool
  quiet_operands no_operands = true
  quiet_operands (more_operands s e rest) = is_quiet e && quiet_operands rest

  -- So is an argument of a call, and so are all.
  pub quiet_argument : Argument → Bool
  quiet_argument (argument e) = is_quiet e
  quiet_argument (when_argument c e) = is_quiet c && is_quiet e

  pub quiet_arguments : Arguments → Bool
  quiet_arguments no_arguments = true
  quiet_arguments (more_arguments x xs) = quiet_argument x && quiet_arguments xs

  -- So is an element of an array, and so are all.
  pub quiet_element : Element → Bool
  quiet_element (element e) = is_quiet e
  quiet_element (spread_element e) = is_quiet e

  pub quiet_elements : Elements → Bool
  quiet_elements no_elements = true
  quiet_elements (more_elements x xs) = quiet_element x && quiet_elements xs

  -- So is an entry of an object, and so are all.
  pub quiet_entry : Entry → Bool
  quiet_entry (keyed k e) = is_quiet e
  quiet_entry (bare e) = is_quiet e
  quiet_entry (when c e) = is_quiet c && is_quiet e
  quiet_entry (spread e) = is_quiet e

  pub quiet_entries : Entries → Bool
  quiet_entries no_entries = true
  quiet_entries (more_entries x xs) = quiet_entry x && quiet_entries xs

  -- So is a step, and so are all.
  pub quiet_step : Step → Bool
  quiet_step (attr w) = true
  quiet_step deref = false
  quiet_step each = true
  quiet_step (slice from to closed) = is_quiet from && is_quiet to
  quiet_step (bracket e) = is_quiet e
  quiet_step (project es) = quiet_entries es
  quiet_step (pipe name ks) = quiet_keys ks

  pub quiet_steps : Steps → Bool
  quiet_steps no_steps = true
  quiet_steps (more_steps s ss) = quiet_step s && quiet_steps ss

  -- So are the keys of an order.
  pub quiet_keys : OrderKeys → Bool
  quiet_keys no_keys = true
  quiet_keys (more_keys (order_key e descending) ks) = is_quiet e && quiet_keys ks

-- A bracket is a filter.
abbrev pub is_condition : Bracketed → Bool
is_condition (position n) = false
is_condition (named w) = false
is_condition condition = true

-- A step is a filter.
abbrev pub is_filter : Step → Bool
is_filter (bracket e) = is_condition (bracketed e)
is_filter _ = false

-- The kinds of steps that may stand behind the filter of a simple query: an attribute, a
-- projection, `[]`, a slice, an element and a piped order.
abbrev pub is_tail_step : Step → Bool
is_tail_step deref = false
is_tail_step (bracket e) = if is_condition (bracketed e) then false else true
is_tail_step (pipe name ks) = is_order_name name
is_tail_step _ = true

-- All steps are of these kinds.
abbrev pub are_tail_steps : Steps → Bool
are_tail_steps no_steps = true
are_tail_steps (more_steps s ss) = is_tail_step s && are_tail_steps ss

-- One filter and steps of these kinds, in which nothing further is looked up.
abbrev pub is_simple_rest : Steps → Bool
is_simple_rest no_steps = false
is_simple_rest (more_steps s ss) =
    (is_filter s && quiet_step s) && (are_tail_steps ss && quiet_steps ss)

-- A query is simple: `*`, one filter and such steps.
abbrev pub is_simple : Expression → Bool
is_simple (chain everything ss) = is_simple_rest ss
is_simple _ = false

-- The condition of the first step, where this is a bracket.
abbrev pub filter_of : Steps → Expression
filter_of (more_steps (bracket e) ss) = e
filter_of _ = null_literal

-- The steps behind the first.
abbrev pub tail_of : Steps → Steps
tail_of no_steps = no_steps
tail_of (more_steps s ss) = ss

-- What stands behind the `*` of a query that begins with it.
abbrev pub steps_behind : Expression → Steps
steps_behind (chain everything ss) = ss
steps_behind _ = no_steps

-- The key of a query of one filter: that of the filter in the scope of null alone.
abbrev pub query_key : Expression → Pairs → Key
query_key e params = key_in (filter_of (steps_behind e)) (null ∷ []) params

-- The keys that the filter gives, in the same scope.
abbrev pub query_keys : Expression → Pairs → List Key
query_keys e params = filter_keys (filter_of (steps_behind e)) (null ∷ []) params
