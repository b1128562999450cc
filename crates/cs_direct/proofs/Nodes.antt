-- Forms of an expression by the parts that code has at hand, and what they are to `in`.
use Rattle.std.proofs.Common.{◌≡◌, ℕ, List, [], map, refl, ap, sym, ◌∙◌, Vec, Global}
use Rattle.std.specs.List.{list_any}
use Rattle.cs_value.specs.Tree.{Tree, Pairs, boolean}
use Rattle.cs_value.specs.Words.{list_of}
use Rattle.cs_value.proofs.Views.{members-trees}
use Rattle.cs_syntax.specs.Expression.{Expression, call, array, arguments_of, elements_of}
use Rattle.cs_syntax.specs.View.{expression, argument_of, element_of}
use Rattle.cs_syntax.specs.declared.tree.Arg.{Arg}
use Rattle.cs_syntax.specs.declared.tree.Elem.{Elem}
use Rattle.cs_syntax.specs.declared.tree.Expr.{Expr}
use Rattle.cs_syntax.specs.declared.tree.Expr as code
use Rattle.cs_syntax.proofs.Views.{expression_array, expression_call}
use Rattle.cs_ops.specs.Equal.{equal}
use Rattle.cs_ops.specs.Operators.{within}
use Rattle.cs_meaning.specs.Values.{value, elements_values}
use Rattle.cs_direct.specs.Paths.{arguments_in}

pub call_parts : (e : Expr) (name : List ℕ) (v : Vec Arg Global) (n : List ℕ) (xs : List Arg)
    → e ≡ code.Call name v → n ≡ name → xs ≡ v.items
    → expression e ≡ call n (arguments_of (map argument_of xs))
call_parts e name v n xs is same these =
    ap expression is ∙ (expression_call name v
    ∙ (ap (λ (m : List ℕ). call m (arguments_of (map argument_of v.items))) (sym same)
    ∙ ap (λ (ys : List Arg). call n (arguments_of (map argument_of ys))) (sym these)))

-- the arguments of a call
pub args_parts : (e : Expr) (name : List ℕ) (v : Vec Arg Global) (xs : List Arg)
    → e ≡ code.Call name v → xs ≡ v.items
    → arguments_in (expression e) ≡ arguments_of (map argument_of xs)
args_parts e name v xs is these = ap arguments_in (call_parts e name v name xs is refl these)

pub array_parts : (e : Expr) (v : Vec Elem Global) (xs : List Elem)
    → e ≡ code.Array v → xs ≡ v.items → expression e ≡ array (elements_of (map element_of xs))
array_parts e v xs is these =
    ap expression is ∙ (expression_array v
    ∙ ap (λ (ys : List Elem). array (elements_of (map element_of ys))) (sym these))

among_these : (a : Tree) (ts : List Tree)
    → within a (list_of ts) ≡ boolean (list_any (λ t. equal t a) ts)
among_these a ts =
    ap (λ (us : List Tree). boolean (list_any (λ t. equal t a) us)) (members-trees ts)

pub among_array : (params : Pairs) (scope : List Tree) (a : Tree) (e : Expr) (v : Vec Elem Global)
    (xs : List Elem) → e ≡ code.Array v → xs ≡ v.items
    → within a (value [] params (expression e) scope)
    ≡ boolean (list_any (λ t. equal t a)
    (elements_values [] params (elements_of (map element_of xs)) scope))
among_array params scope a e v xs is these =
    ap (λ (x : Expression). within a (value [] params x scope)) (array_parts e v xs is these)
    ∙ among_these a (elements_values [] params (elements_of (map element_of xs)) scope)
