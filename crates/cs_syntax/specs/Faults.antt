-- The faults of an expression, in the order of the text: what the grammar spells and this
-- project's profile refuses. The first of them is the one that is told. An expression's faults
-- are those at its first token and those behind it: between the two stands the fault of a bare
-- entry without a determinable key.
use Rattle.std.specs.Prelude.{ℕ, List, [], ◌∷◌, ◌++◌, Bool, ◌&&◌, ◌||◌, codes, if◌then◌else◌, Option, Some, None}
use Rattle.std.specs.Str.{bytes_eq}
use Rattle.cs_syntax.specs.declared.tree.BinSign.{BinSign}
use Rattle.cs_syntax.specs.declared.tree.BinSign.TheVariants as operator
use Rattle.cs_syntax.specs.Expression.{Expression, number_literal, round, call, array, object_literal, chain, prefix, run, within, between, Operands, no_operands, more_operands, Step, attr, deref, each, slice, bracket, project, pipe, Steps, no_steps, more_steps, Entry, keyed, bare, when, spread, Entries, no_entries, more_entries, Element, element, spread_element, Elements, no_elements, more_elements, Argument, argument, when_argument, Arguments, no_arguments, more_arguments, OrderKey, order_key, OrderKeys, no_keys, more_keys}
use Rattle.cs_syntax.specs.Brackets.{is_position, is_text, is_constant, key_of}
use Rattle.cs_syntax.specs.Functions.{Arity, exactly, arity_of, accepts, is_left_out}
use Rattle.cs_syntax.specs.Numbers.{has_exponent, has_fraction, is_wide}
use Rattle.cs_value.specs.Words.{first_of}

-- a form or function that the profile leaves out, by its name; a function that there is not; a
-- call with a wrong number of arguments, or with `=>` where none may stand; a bare entry whose
-- key is not determinable
pub data Fault : Type 0 where
  unsupported : List ℕ → Fault
  unknown_function : List ℕ → Fault
  arity : List ℕ → Fault
  no_key : Fault

-- an exponent, else a fraction, else a number above 2^63-1
abbrev pub number_faults : List ℕ → List Fault
number_faults n = if has_exponent n then unsupported (codes "exponent") ∷ []
    else if has_fraction n then unsupported (codes "fraction") ∷ []
    else if is_wide n then unsupported (codes "wide-number") ∷ []
    else []

abbrev pub operator_faults : BinSign → List Fault
operator_faults operator.Div = unsupported (codes "/") ∷ []
operator_faults operator.Pow = unsupported (codes "**") ∷ []
operator_faults operator.Match = unsupported (codes "match") ∷ []
operator_faults _ = []

abbrev pub arity_faults : List ℕ → Arguments → Option Arity → List Fault
arity_faults name args None = unknown_function name ∷ []
arity_faults name args (Some a) = if accepts a args then [] else arity name ∷ []

abbrev pub is_path : List ℕ → Bool
is_path name = bytes_eq name (codes "path")

-- a call anywhere but alone on the right of `in`, where `path` may not stand
abbrev pub call_faults : List ℕ → Arguments → List Fault
call_faults name args = if is_left_out name || is_path name then unsupported name ∷ []
    else arity_faults name args (arity_of name)

-- a call alone on the right of `in`: `path` has one argument there
abbrev pub right_call_faults : List ℕ → Arguments → List Fault
right_call_faults name args = if is_path name then arity_faults name args (Some (exactly 1))
    else call_faults name args

-- a piped call is one of `order`, with a key
abbrev pub order_faults : List ℕ → OrderKeys → List Fault
order_faults name no_keys = arity name ∷ []
order_faults name (more_keys k ks) = []

abbrev pub pipe_faults : List ℕ → OrderKeys → List Fault
pipe_faults name ks = if is_left_out name then unsupported name ∷ []
    else if bytes_eq name (codes "order") then order_faults name ks
    else unknown_function name ∷ []

-- an element or an attribute is taken by a position or a text alone, and by nothing that is
-- computed of these
abbrev pub bracket_faults : Expression → List Fault
bracket_faults e = if is_position e || is_text e then []
    else if is_constant e then unsupported (codes "constant") ∷ []
    else []

-- both ends of a slice are positions
abbrev pub slice_faults : Expression → Expression → List Fault
slice_faults from to = if is_position from && is_position to then []
    else unsupported (codes "slice-bounds") ∷ []

abbrev pub key_faults : Option (List ℕ) → List Fault
key_faults (Some k) = []
key_faults None = no_key ∷ []

-- the faults at the first token of an expression
abbrev pub at_first : Expression → List Fault
at_first (number_literal n) = number_faults n
at_first (call name args) = call_faults name args
at_first (chain base ss) = at_first base
at_first (run e rest) = at_first e
at_first (within e right) = at_first e
at_first (between e from to closed) = at_first e
at_first _ = []

-- the faults at the first token of what stands on the right of `in`
abbrev pub at_right : Expression → List Fault
at_right (call name args) = right_call_faults name args
at_right e = at_first e

abbrev mutual
  -- the faults behind the first token of an expression
  pub behind_first : Expression → List Fault
  behind_first (round e) = at_first e ++ behind_first e
  behind_first (call name args) = in_arguments args
  behind_first (array es) = in_elements es
  behind_first (object_literal es) = in_entries es
  behind_first (chain base ss) = behind_first base ++ in_steps ss
  behind_first (prefix signs e) = at_first e ++ behind_first e
  behind_first (run e rest) = behind_first e ++ in_operands rest
  behind_first (within e right) = behind_first e ++ (at_right right ++ behind_first right)
  behind_first (between e from to closed) =
      behind_first e ++ ((at_first from ++ behind_first from) ++ (at_first to ++ behind_first to))
  behind_first _ = []

  pub in_operands : Operands → List Fault
  in_operands no_operands = []
  in_operands (more_operands o e rest) = (operator_faults o ++ (at_first e ++ behind_first e))
      ++ in_operands rest

  pub in_step : Step → List Fault
  in_step (attr w) = []
  in_step deref = []
  in_step each = []
  in_step (slice from to closed) =
      slice_faults from to
      ++ ((at_first from ++ behind_first from) ++ (at_first to ++ behind_first to))
  in_step (bracket e) = bracket_faults e ++ (at_first e ++ behind_first e)
  in_step (project es) = in_entries es
  in_step (pipe name ks) = pipe_faults name ks ++ in_keys ks

  pub in_steps : Steps → List Fault
  in_steps no_steps = []
  in_steps (more_steps s ss) = in_step s ++ in_steps ss

  -- a bare entry without a key has this fault at its first token, behind those that its
  -- expression has there
  pub in_entry : Entry → List Fault
  in_entry (keyed k e) = at_first e ++ behind_first e
  in_entry (bare e) = (at_first e ++ key_faults (key_of e)) ++ behind_first e
  in_entry (when c e) = (at_first c ++ behind_first c) ++ (at_first e ++ behind_first e)
  in_entry (spread e) = at_first e ++ behind_first e

  pub in_entries : Entries → List Fault
  in_entries no_entries = []
  in_entries (more_entries x xs) = in_entry x ++ in_entries xs

  pub in_element : Element → List Fault
  in_element (element e) = at_first e ++ behind_first e
  in_element (spread_element e) = at_first e ++ behind_first e

  pub in_elements : Elements → List Fault
  in_elements no_elements = []
  in_elements (more_elements x xs) = in_element x ++ in_elements xs

  pub in_argument : Argument → List Fault
  in_argument (argument e) = at_first e ++ behind_first e
  in_argument (when_argument c e) =
      (at_first c ++ behind_first c) ++ (at_first e ++ behind_first e)

  pub in_arguments : Arguments → List Fault
  in_arguments no_arguments = []
  in_arguments (more_arguments x xs) = in_argument x ++ in_arguments xs

  pub in_key : OrderKey → List Fault
  in_key (order_key e desc) = at_first e ++ behind_first e

  pub in_keys : OrderKeys → List Fault
  in_keys no_keys = []
  in_keys (more_keys k ks) = in_key k ++ in_keys ks

-- the faults of an expression in the order of the text
abbrev pub faults : Expression → List Fault
faults e = at_first e ++ behind_first e

-- the first fault in the order of the text
abbrev pub fault : Expression → Option Fault
fault e = first_of (faults e)
