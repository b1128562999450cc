-- Constants and keys by the parts of an expression.
use Rattle.std.proofs.Common.{◌≡◌, ℕ, List, [], ◌∷◌, map, Option, Some, None, option_map, option_and_then, refl, ap}
use Rattle.std.proofs.Common.{Vec, Box, Global, sym, ◌∙◌}
use Rattle.cs_syntax.specs.Expression.{chain, steps_of}
use Rattle.cs_syntax.specs.View.{expression, step_of}
use Rattle.cs_syntax.specs.declared.tree.Step.{Step as CodeStep}
use Rattle.cs_syntax.specs.declared.tree.Expr.{Expr}
use Rattle.cs_syntax.specs.declared.tree.Expr as code
use Rattle.cs_plan.specs.Steps.{in_scope}
use Rattle.cs_syntax.proofs.Views.{chain_parts, expression_up}
use Rattle.std.specs.Str.{bytes_eq}
use Rattle.std.specs.Option.{option_map_or}
use Rattle.std.specs.Prelude.{if◌then◌else◌, codes, Bool, true, false, cond, ℤ, pos, neg_ℤ}
use Rattle.cs_value.specs.Tree.{Tree, Pairs, null, integer}
use Rattle.cs_ops.specs.Arithmetic.{number, is_of_64_bits}
use Rattle.cs_syntax.specs.Numbers.{written_number}
use Rattle.cs_ops.specs.Operators as operators
use Rattle.cs_ops.specs.declared.op.Pre.TheVariants.{Minus}
use Rattle.cs_syntax.specs.declared.tree.PreSign.{PreSign}
use Rattle.cs_syntax.specs.declared.tree.PreSign.TheVariants as sign
use Rattle.cs_syntax.specs.declared.tree.BinSign.TheVariants as sg
use Rattle.cs_syntax.specs.Expression.{Expression, number_literal, prefix, run, Operands, no_operands, more_operands, Arguments, no_arguments, more_arguments, argument, when_argument}
use Rattle.cs_syntax.specs.Functions.{without_global}
use Rattle.cs_view.specs.declared.key.Key.TheVariants.{Ref}
use Rattle.cs_plan.specs.Steps.{names_of}
use Rattle.cs_plan.specs.Constants.{constant, scalar_of, literal, at_names}
use Rattle.cs_plan.specs.Filters.{reference_key, scalar_text, conjunct_key, equality_key}
use Rattle.cs_plan.specs.Parts.{number_scalar, tree_at, negative_of, sole_argument, sole_equal}

at_some_names : (names : Option (List (List ℕ))) (v : Tree)
    → scalar_of (option_map_or (λ ns. at_names ns v) names null)
    ≡ option_and_then (λ ns. scalar_of (at_names ns v)) names
at_some_names None v = refl
at_some_names (Some ns) v = refl

one_number : (b : Bool) (n : ℤ) → number_scalar (cond b (integer n) null) ≡ scalar_of (cond b (integer n) null)
one_number true n = refl
one_number false n = refl

some_number : (n : ℤ) → number_scalar (number n) ≡ scalar_of (number n)
some_number n = one_number (is_of_64_bits n) n

number_or_null : (o : Option ℕ)
    → number_scalar (option_map_or (λ k. integer (pos k)) o null)
    ≡ scalar_of (option_map_or (λ k. integer (pos k)) o null)
number_or_null None = refl
number_or_null (Some k) = refl

pub literal_number : (n : List ℕ) → number_scalar (literal n) ≡ scalar_of (literal n)
literal_number n = number_or_null (written_number n)

pub negative_number : (v : Tree) → number_scalar (operators.prefix Minus v) ≡ scalar_of (operators.prefix Minus v)
negative_number (integer n) = some_number (neg_ℤ n)
negative_number _ = refl

pub constant_prefix : (ps : List PreSign) (e : Expression) (scope : List Tree) (params : Pairs) → constant (prefix ps e) scope params ≡ option_and_then (λ n. scalar_of (operators.prefix Minus (literal n))) (negative_of ps e)
constant_prefix [] e scope params = refl
constant_prefix (sign.Minus ∷ []) (number_literal n) scope params = refl
constant_prefix (sign.Minus ∷ []) _ scope params = refl
constant_prefix (sign.Minus ∷ q ∷ ps) e scope params = refl
constant_prefix (sign.Plus ∷ ps) e scope params = refl
constant_prefix (sign.Not ∷ ps) e scope params = refl

pub reference_sole : (name : List ℕ) (xs : Arguments) (scope : List Tree) (params : Pairs) → reference_key name xs scope params ≡ option_and_then (λ e. if bytes_eq (without_global name) (codes "references") then option_map Ref (option_and_then scalar_text (constant e scope params)) else None) (sole_argument xs)
reference_sole name no_arguments scope params = refl
reference_sole name (more_arguments (argument c) no_arguments) scope params = refl
reference_sole name (more_arguments (argument c) (more_arguments y ys)) scope params = refl
reference_sole name (more_arguments (when_argument c e) ys) scope params = refl

pub conjunct_run : (e : Expression) (rest : Operands) (scope : List Tree) (params : Pairs) → conjunct_key (run e rest) scope params ≡ option_and_then (λ right. equality_key e right scope params) (sole_equal rest)
conjunct_run e no_operands scope params = refl
conjunct_run e (more_operands sg.Eq right no_operands) scope params = refl
conjunct_run e (more_operands sg.Eq right (more_operands s f rest)) scope params = refl
conjunct_run e (more_operands _ right rest) scope params = refl

pub constant_chain : (e : Expr) (base : Box Expr Global) (v : Vec CodeStep Global) (b : Expr) (ss : List CodeStep) (n : ℕ) (scope : List Tree) (params : Pairs) → e ≡ code.Chain base v → b ≡ base.value → b ≡ code.Up n → ss ≡ v.items
    → scalar_of (tree_at (steps_of (map step_of ss)) (in_scope n (null ∷ scope)))
    ≡ constant (expression e) scope params
constant_chain e base v b ss n scope params is there up same =
    at_some_names (names_of (steps_of (map step_of ss))) (in_scope n (null ∷ scope))
    ∙ sym (ap (λ x. constant x scope params) (chain_parts e base v b ss is there same ∙ ap (λ x. chain x (steps_of (map step_of ss))) (ap expression up ∙ expression_up n)))
