use Rattle.std.proofs.Common.{rules, ◌++◌, ◌∙◌, ap, Result, Ok, Err, OnOk, List}
use Rattle.cs_plan.specs.Filters.{conjuncts, operand_conjuncts, keys_given}
use Rattle.cs_syntax.specs.Expression.{operands_of}
use Rattle.cs_syntax.specs.View.{expression, operands}
use Rattle.cs_syntax.proofs.Views.{expression_run}
use Rattle.cs_syntax.specs.declared.tree.BinSign.{BinSign}
use Rattle.cs_syntax.specs.declared.tree.Expr.{Expr}
use Rattle.cs_value.specs.View.{fields}
use Rattle.cs_view.specs.Scopes.{scope_of}
use Rattle.cs_view.specs.declared.key.Key.{Key}
use Rattle.cs_plan.proofs.Choices.{given_in_run}
use Rattle.cs_plan.proofs.given.+given.Goals as goal

on_ok : {A E : Type 0} (r : Result A E) {P Q : Type 0} → OnOk r P → (P → Q) → OnOk r Q
on_ok (Ok a) h f = f h
on_ok (Err e) h f = tt

pub push_given-returns-in_ok-push_given-in-Run : goal.push_given-returns-in_ok-push_given-in-Run
push_given-returns-in_ok-push_given-in-Run t c =
    let keys = keys_given (scope_of c.args.scope.now) (fields c.args.params.now) in
    let behind : List (BinSign × Expr) → List Key = λ rest. keys (operand_conjuncts (operands_of (operands rest))) in
    on_ok c.push_given_by_operands.result c.push_given_by_operands.ensures
    (λ second. given_in_run c.args.keys.now.items c.push_given-in-Run.new.keys.items c.push_given_by_operands.new.keys.items
    (expression c.in-Run.first.value) (expression c.args.expr.now) (operands_of (operands c.in-Run.rest.items)) (scope_of c.args.scope.now) (fields c.args.params.now)
    (c.in_ok-push_given-in-Run.ensures ∙ ap (λ (e : Expr). c.args.keys.now.items ++ keys (conjuncts (expression e))) c.deref-in-Run-2.ensures)
    (second ∙ ap (λ (rest : List (BinSign × Expr)). c.push_given-in-Run.new.keys.items ++ behind rest) c.deref-in-Run-3.ensures.value)
    (search rules)
    (ap expression c.in-Run.is ∙ expression_run c.in-Run.first c.in-Run.rest))
