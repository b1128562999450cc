-- The truth of a condition over one document, by its form: operands alone have values, conditions a
-- truth of three values (GROQ-1.revision1, "Operators", as plain predicates have them). Where an
-- expression is no operand its value here is null, and where it is no condition its truth is none.
-- That this is the value and the truth of GROQ wherever the form is one of these is shown in
-- proofs/Agree.
use Rattle.std.specs.Prelude.{ℕ, Bool, true, false, not, ◌||◌, List, [], ◌∷◌, Option, Some, None, option_map, unwrap_or, cond}
use Rattle.std.specs.Ordering.{is_lt, is_le, is_gt, is_ge}
use Rattle.std.specs.List.{list_any}
use Rattle.cs_value.specs.Tree.{Tree, null, boolean, text, Pairs}
use Rattle.cs_syntax.specs.declared.tree.BinSign.{BinSign}
use Rattle.cs_syntax.specs.declared.tree.BinSign.TheVariants as sign
use Rattle.cs_syntax.specs.declared.tree.PreSign.{PreSign}
use Rattle.cs_syntax.specs.declared.tree.PreSign.TheVariants as front
use Rattle.cs_syntax.specs.Faults.{is_path}
use Rattle.cs_syntax.specs.Expression.{Expression, bool_literal, number_literal, text_literal, param, word, this, everything, round, call, array, chain, prefix, run, within, between, Operands, no_operands, more_operands, Step, bracket, Steps, no_steps, more_steps, element, Elements, no_elements, more_elements, Argument, Arguments, no_arguments, more_arguments, argument, when_argument}
use Rattle.cs_ops.specs.Equal.{equal}
use Rattle.cs_ops.specs.Order.{partial}
use Rattle.cs_ops.specs.Operators as operators
use Rattle.cs_ops.specs.Truth.{truth, both, either, opposite}
use Rattle.cs_ops.specs.declared.op.Pre.TheVariants.{Minus}
use Rattle.cs_func.specs.Lists.{count, defined}
use Rattle.cs_func.specs.Texts.{size, begins}
use Rattle.cs_func.specs.Refers.{refers}
use Rattle.cs_func.specs.declared.function.Function.TheVariants.{Count, Length, Defined, StartsWith}
use Rattle.cs_plan.specs.Constants.{literal}
use Rattle.cs_value.specs.Words.{field}
use Rattle.cs_meaning.specs.Operators.{Callee, referring, applying, callee, parameter, in_path, targets}
use Rattle.cs_plan.specs.Parts.{negative_of, tree_at}

-- the value of a number behind one `-`
abbrev pub negated : Option (List ℕ) → Tree
negated None = null
negated (Some n) = operators.prefix Minus (literal n)

abbrev pub chain_value : Expression → Steps → Tree → Tree
chain_value (word w) ss d = tree_at ss (field w d)
chain_value _ ss d = null

abbrev pub measured : Callee → Tree → Tree
measured (applying (Some Count)) v = count v
measured (applying (Some Length)) v = size v
measured _ v = null

abbrev mutual
  -- the value of an operand
  pub operand_value : Pairs → Tree → Expression → Tree
  operand_value params d (bool_literal b) = boolean b
  operand_value params d (number_literal n) = literal n
  operand_value params d (text_literal s) = text s
  operand_value params d (param p) = parameter p params
  operand_value params d (word w) = field w d
  operand_value params d this = d
  operand_value params d (chain base ss) = chain_value base ss d
  operand_value params d (prefix signs e) = negated (negative_of signs e)
  operand_value params d (call name args) = measured (callee name) (one_value params d args)
  operand_value params d _ = null

  -- the value of the one argument
  pub one_value : Pairs → Tree → Arguments → Tree
  one_value params d (more_arguments x no_arguments) = one_argument params d x
  one_value params d _ = null

  pub one_argument : Pairs → Tree → Argument → Tree
  one_argument params d (argument e) = operand_value params d e
  one_argument params d (when_argument c e) = null

abbrev pub first_value : Pairs → Tree → Arguments → Tree
first_value params d (more_arguments x xs) = one_argument params d x
first_value params d _ = null

abbrev pub rest_of : Arguments → Arguments
rest_of no_arguments = no_arguments
rest_of (more_arguments x xs) = xs

-- some argument gives a text that the document refers to
abbrev pub some_referred : Pairs → Tree → Arguments → Bool
some_referred params d no_arguments = false
some_referred params d (more_arguments x xs) =
    list_any (λ t. refers t d) (targets (one_argument params d x)) || some_referred params d xs

-- some element is equal to the value
abbrev pub some_equal : Pairs → Tree → Elements → Tree → Bool
some_equal params d no_elements v = false
some_equal params d (more_elements (element e) xs) v =
    equal (operand_value params d e) v || some_equal params d xs v
some_equal params d (more_elements _ xs) v = some_equal params d xs v

-- whether the value is in what stands on the right of `in`
abbrev pub contained : Pairs → Tree → Expression → Tree → Option Bool
contained params d (array es) v = Some (some_equal params d es v)
contained params d (call name args) v =
    cond (is_path name) (truth (in_path v (one_value params d args)))
    (truth (operators.within v (operand_value params d (call name args))))
contained params d e v = truth (operators.within v (operand_value params d e))

-- the truth of a call
abbrev pub tested : Callee → Pairs → Tree → Arguments → Option Bool
tested (applying (Some Defined)) params d args = truth (defined (one_value params d args))
tested (applying (Some StartsWith)) params d args =
    truth (begins (first_value params d args) (one_value params d (rest_of args)))
tested referring params d args = Some (some_referred params d args)
tested _ params d args = None

abbrev pub comparison : BinSign → Tree → Tree → Option Bool
comparison sign.Eq a b = Some (equal a b)
comparison sign.Ne a b = Some (not (equal a b))
comparison sign.Lt a b = option_map is_lt (partial a b)
comparison sign.Le a b = option_map is_le (partial a b)
comparison sign.Gt a b = option_map is_gt (partial a b)
comparison sign.Ge a b = option_map is_ge (partial a b)
comparison _ a b = None

abbrev pub compared : Pairs → Tree → Operands → Tree → Option Bool
compared params d (more_operands s e no_operands) v = comparison s v (operand_value params d e)
compared params d _ v = None

abbrev pub junction : BinSign → Option Bool → Option Bool → Option Bool
junction sign.And x y = both x y
junction sign.Or x y = either x y
junction _ x y = None

-- the left side alone decides: false of `&&`, true of `||`
abbrev pub decides : BinSign → Option Bool → Bool
decides sign.And (Some false) = true
decides sign.Or (Some true) = true
decides s x = false

-- a run is one of `&&` or `||`
abbrev pub is_joining : Operands → Bool
is_joining no_operands = true
is_joining (more_operands sign.And e rest) = true
is_joining (more_operands sign.Or e rest) = true
is_joining (more_operands _ e rest) = false

abbrev pub flipped : List PreSign → Option Bool → Option Bool
flipped [] x = x
flipped (front.Not ∷ ps) x = flipped ps (opposite x)
flipped (_ ∷ ps) x = None

abbrev mutual
  -- the truth of a condition
  pub condition_truth : Pairs → Tree → Expression → Option Bool
  condition_truth params d (round e) = condition_truth params d e
  condition_truth params d (run e rest) =
      cond (is_joining rest) (run_truth params d rest (condition_truth params d e))
      (compared params d rest (operand_value params d e))
  condition_truth params d (prefix signs e) = flipped signs (condition_truth params d e)
  condition_truth params d (within e right) = contained params d right (operand_value params d e)
  condition_truth params d (between e from to closed) =
      truth (operators.between (operand_value params d e) (operand_value params d from)
      (operand_value params d to) closed)
  condition_truth params d (call name args) = tested (callee name) params d args
  condition_truth params d e = truth (operand_value params d e)

  -- the truth of a run, after this truth of what stands before it
  pub run_truth : Pairs → Tree → Operands → Option Bool → Option Bool
  run_truth params d no_operands x = x
  run_truth params d (more_operands s e rest) x =
      run_truth params d rest (junction s x (condition_truth params d e))

-- the truth of the condition of a first step in brackets, and of the query that it stands in
abbrev pub step_truth : Pairs → Tree → Step → Bool
step_truth params d (bracket e) = unwrap_or (condition_truth params d e) false
step_truth params d _ = false

abbrev pub first_truth : Pairs → Tree → Steps → Bool
first_truth params d no_steps = false
first_truth params d (more_steps s ss) = step_truth params d s

abbrev pub query_truth : Pairs → Tree → Expression → Bool
query_truth params d everything = true
query_truth params d (chain base ss) = first_truth params d ss
query_truth params d _ = false
