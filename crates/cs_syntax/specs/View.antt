-- The expression that a tree of the code stands for: each variant as the constructor of its name.
use Rattle.std.specs.Prelude.{List, map}
use Rattle.cs_syntax.specs.Expression.{Expression, null_literal, bool_literal, number_literal, text_literal, param, word, this, everything, parent, round, call, array, object_literal, chain, prefix, run, within, between, Step, attr, deref, each, slice, bracket, project, pipe, Entry, keyed, bare, when, spread, Element, element, spread_element, Argument, argument, when_argument, OrderKey, order_key, operands_of, steps_of, entries_of, elements_of, arguments_of, keys_of}
use Rattle.cs_syntax.specs.declared.tree.BinSign.{BinSign}
use Rattle.cs_syntax.specs.declared.tree.Arg.{Arg, fold-Arg}
use Rattle.cs_syntax.specs.declared.tree.Elem.{Elem, fold-Elem}
use Rattle.cs_syntax.specs.declared.tree.Entry.{Entry as CodeEntry, fold-Entry}
use Rattle.cs_syntax.specs.declared.tree.Expr.{Expr, fold-Expr}
use Rattle.cs_syntax.specs.declared.tree.OrderKey.{OrderKey as CodeOrderKey, fold-OrderKey}
use Rattle.cs_syntax.specs.declared.tree.Step.{Step as CodeStep, fold-Step}
use Rattle.cs_syntax.specs.declared.tree.Arg.TheOpen.{Arg-F, Elem-F, Entry-F, Expr-F, OrderKey-F, Step-F}

abbrev pub arg_step : Arg-F Argument Element Entry Expression Step OrderKey → Argument
arg_step (Arg-F.Arg::One e) = argument e
arg_step (Arg-F.Arg::When c e) = when_argument c e

abbrev pub elem_step : Elem-F Argument Element Entry Expression Step OrderKey → Element
elem_step (Elem-F.Elem::One e) = element e
elem_step (Elem-F.Elem::Spread e) = spread_element e

abbrev pub entry_step : Entry-F Argument Element Entry Expression Step OrderKey → Entry
entry_step (Entry-F.Keyed k e) = keyed k e
entry_step (Entry-F.Bare e) = bare e
entry_step (Entry-F.Entry::When c e) = when c e
entry_step (Entry-F.Entry::Spread e) = spread e

abbrev pub expr_step : Expr-F Argument Element Entry Expression Step OrderKey → Expression
expr_step Expr-F.Null = null_literal
expr_step (Expr-F.Bool b) = bool_literal b
expr_step (Expr-F.Number n) = number_literal n
expr_step (Expr-F.Text s) = text_literal s
expr_step (Expr-F.Param p) = param p
expr_step (Expr-F.Word w) = word w
expr_step Expr-F.This = this
expr_step Expr-F.All = everything
expr_step (Expr-F.Up n) = parent n
expr_step (Expr-F.Round e) = round e.value
expr_step (Expr-F.Call name args) = call name (arguments_of args.items)
expr_step (Expr-F.Array es) = array (elements_of es.items)
expr_step (Expr-F.Object es) = object_literal (entries_of es.items)
expr_step (Expr-F.Chain base steps) = chain base.value (steps_of steps.items)
expr_step (Expr-F.Prefix signs operand) = prefix signs.items operand.value
expr_step (Expr-F.Run first rest) = run first.value (operands_of rest.items)
expr_step (Expr-F.Within left right) = within left.value right.value
expr_step (Expr-F.Between left from to closed) = between left.value from.value to.value closed

abbrev pub order_key_step : OrderKey-F Argument Element Entry Expression Step OrderKey → OrderKey
order_key_step k = order_key k.key k.desc

abbrev pub step_step : Step-F Argument Element Entry Expression Step OrderKey → Step
step_step (Step-F.Attr w) = attr w
step_step Step-F.Deref = deref
step_step Step-F.Each = each
step_step (Step-F.Slice from to closed) = slice from to closed
step_step (Step-F.Bracket e) = bracket e
step_step (Step-F.Project es) = project (entries_of es.items)
step_step (Step-F.Pipe name keys) = pipe name (keys_of keys.items)

unfoldable pub expression : Expr → Expression
expression = fold-Expr Argument Element Entry Expression Step OrderKey arg_step elem_step
    entry_step expr_step step_step order_key_step

unfoldable pub step_of : CodeStep → Step
step_of = fold-Step Argument Element Entry Expression Step OrderKey arg_step elem_step entry_step
    expr_step step_step order_key_step

unfoldable pub entry_of : CodeEntry → Entry
entry_of = fold-Entry Argument Element Entry Expression Step OrderKey arg_step elem_step entry_step
    expr_step step_step order_key_step

unfoldable pub element_of : Elem → Element
element_of = fold-Elem Argument Element Entry Expression Step OrderKey arg_step elem_step entry_step
    expr_step step_step order_key_step

unfoldable pub argument_of : Arg → Argument
argument_of = fold-Arg Argument Element Entry Expression Step OrderKey arg_step elem_step entry_step
    expr_step step_step order_key_step

unfoldable pub order_key_of : CodeOrderKey → OrderKey
order_key_of = fold-OrderKey Argument Element Entry Expression Step OrderKey arg_step elem_step
    entry_step expr_step step_step order_key_step

-- the lists of a tree
unfoldable pub operands : List (BinSign × Expr) → List (BinSign × Expression)
operands xs = map (λ x. (x.0, expression x.1)) xs

unfoldable pub steps : List CodeStep → List Step
steps ss = map step_of ss

unfoldable pub entries : List CodeEntry → List Entry
entries xs = map entry_of xs

unfoldable pub elements : List Elem → List Element
elements xs = map element_of xs

unfoldable pub arguments : List Arg → List Argument
arguments xs = map argument_of xs

unfoldable pub keys : List CodeOrderKey → List OrderKey
keys ks = map order_key_of ks
