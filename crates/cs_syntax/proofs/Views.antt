-- The expression of a tree of the code, each by its parts, and the lists of trees as those
-- inside an expression.
use Rattle.std.proofs.Common.{◌≡◌, ℕ, List, [], ◌∷◌, map, length, refl, sym, ap, ◌∙◌, arith, rules, Vec, Box, Global, Bool}
use Rattle.cs_syntax.specs.Expression.{everything, call, array, object_literal, chain, prefix, run, word, parent, within, between, slice, bracket, project, pipe, bare, when, when_argument, order_key, arguments_of, elements_of, entries_of, steps_of, operands_of, keys_of}
use Rattle.cs_syntax.specs.Functions.{count_of}
use Rattle.cs_syntax.specs.View.{expression, argument_of, element_of, entry_of, step_of, order_key_of, operands}
use Rattle.cs_syntax.specs.declared.tree.Arg.{Arg, the_lemmas}
use Rattle.cs_syntax.specs.declared.tree.Arg as arg_code
use Rattle.cs_syntax.specs.declared.tree.BinSign.{BinSign}
use Rattle.cs_syntax.specs.declared.tree.PreSign.{PreSign}
use Rattle.cs_syntax.specs.declared.tree.Elem.{Elem}
use Rattle.cs_syntax.specs.declared.tree.Entry.{Entry}
use Rattle.cs_syntax.specs.declared.tree.Entry as entry_code
use Rattle.cs_syntax.specs.declared.tree.Expr.{Expr}
use Rattle.cs_syntax.specs.declared.tree.Expr as code
use Rattle.cs_syntax.specs.declared.tree.OrderKey.{OrderKey}
use Rattle.cs_syntax.specs.declared.tree.Step.{Step as CodeStep}
use Rattle.cs_syntax.specs.declared.tree.Step as step_code

pub expression_call : (name : List ℕ) (args : Vec Arg Global) →
    expression (code.Call name args) ≡ call name (arguments_of (map argument_of args.items))
unfolding expression argument_of
expression_call name args = search (rules, the_lemmas)

pub expression_chain : (base : Box Expr Global) (ss : Vec CodeStep Global) →
    expression (code.Chain base ss) ≡ chain (expression base.value) (steps_of (map step_of ss.items))
unfolding expression step_of
expression_chain base ss = search (rules, the_lemmas)

pub expression_run : (first : Box Expr Global) (rest : Vec (BinSign × Expr) Global) →
    expression (code.Run first rest)
    ≡ run (expression first.value) (operands_of (operands rest.items))
unfolding expression operands
expression_run first rest = search (rules, the_lemmas)

pub step_project : (es : Vec Entry Global) → step_of (step_code.Project es)
    ≡ project (entries_of (map entry_of es.items))
unfolding step_of entry_of
step_project es = search (rules, the_lemmas)

pub step_pipe : (name : List ℕ) (ks : Vec OrderKey Global) → step_of (step_code.Pipe name ks)
    ≡ pipe name (keys_of (map order_key_of ks.items))
unfolding step_of order_key_of
step_pipe name ks = search (rules, the_lemmas)

pub step_slice : (from to : Expr) (closed : Bool) → step_of (step_code.Slice from to closed)
    ≡ slice (expression from) (expression to) closed
unfolding step_of expression
step_slice from to closed = search (rules, the_lemmas)

pub step_bracket : (e : Expr) → step_of (step_code.Bracket e) ≡ bracket (expression e)
unfolding step_of expression
step_bracket e = search (rules, the_lemmas)

pub expression_within : (left right : Box Expr Global) → expression (code.Within left right)
    ≡ within (expression left.value) (expression right.value)
unfolding expression
expression_within left right = search (rules, the_lemmas)

pub expression_between : (left from to : Box Expr Global) (closed : Bool) →
    expression (code.Between left from to closed)
    ≡ between (expression left.value) (expression from.value) (expression to.value) closed
unfolding expression
expression_between left from to closed = search (rules, the_lemmas)

pub entry_bare : (e : Expr) → entry_of (entry_code.Bare e) ≡ bare (expression e)
unfolding entry_of expression
entry_bare e = search (rules, the_lemmas)

pub entry_when : (c e : Expr) → entry_of (entry_code.When c e) ≡ when (expression c) (expression e)
unfolding entry_of expression
entry_when c e = search (rules, the_lemmas)

pub arg_when : (c e : Expr) → argument_of (arg_code.When c e)
    ≡ when_argument (expression c) (expression e)
unfolding argument_of expression
arg_when c e = search (rules, the_lemmas)

pub key_seen : (k : OrderKey) → order_key_of k ≡ order_key (expression k.key) k.desc
unfolding order_key_of expression
key_seen k = search (rules, the_lemmas)

pub count_of_arguments : (xs : List Arg) → count_of (arguments_of (map argument_of xs)) ≡ length xs
count_of_arguments [] = refl
count_of_arguments (x ∷ xs) = omega (arith, count_of_arguments xs)

pub expression_array : (es : Vec Elem Global) → expression (code.Array es)
    ≡ array (elements_of (map element_of es.items))
unfolding expression element_of
expression_array es = search (rules, the_lemmas)

pub expression_object : (es : Vec Entry Global) → expression (code.Object es)
    ≡ object_literal (entries_of (map entry_of es.items))
unfolding expression entry_of
expression_object es = search (rules, the_lemmas)

pub expression_prefix : (signs : Vec PreSign Global) (e : Box Expr Global) →
    expression (code.Prefix signs e) ≡ prefix signs.items (expression e.value)
unfolding expression
expression_prefix signs e = search (rules, the_lemmas)

pub expression_word : (w : List ℕ) → expression (code.Word w) ≡ word w
unfolding expression
expression_word w = search (rules, the_lemmas)

pub expression_all : expression code.All ≡ everything
unfolding expression
expression_all = search (rules, the_lemmas)

pub expression_up : (n : ℕ) → expression (code.Up n) ≡ parent n
unfolding expression
expression_up n = search (rules, the_lemmas)

-- by the parts that code has at hand
pub chain_parts : (e : Expr) (base : Box Expr Global) (v : Vec CodeStep Global) (b : Expr)
    (ss : List CodeStep) → e ≡ code.Chain base v → b ≡ base.value → ss ≡ v.items
    → expression e ≡ chain (expression b) (steps_of (map step_of ss))
chain_parts e base v b ss is there same = ap expression is ∙ (expression_chain base v
    ∙ (ap (λ (x : Expr). chain (expression x) (steps_of (map step_of v.items))) (sym there)
    ∙ ap (λ (x : List CodeStep). chain (expression b) (steps_of (map step_of x))) (sym same)))
