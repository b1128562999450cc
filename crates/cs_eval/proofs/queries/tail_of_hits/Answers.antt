use Rattle.std.proofs.Common.{◌≡◌, ◌∷◌, [], ap, subst, IfOk, List, map}
use Rattle.std.specs.Prelude.{filter}
use Rattle.cs_value.specs.Words.{list_of}
use Rattle.cs_value.specs.Tree.{Tree}
use Rattle.cs_value.specs.View.{tree, fields}
use Rattle.cs_syntax.specs.Expression.{keys_of, steps_of}
use Rattle.cs_syntax.specs.View.{expression, order_key_of, step_of}
use Rattle.cs_view.specs.Scopes.{scope_of}
use Rattle.cs_meaning.specs.Operators.{is_true}
use Rattle.cs_meaning.specs.Values.{value, pipes_value}
use Rattle.cs_parts.specs.Parts.{got}
use Rattle.cs_expr.specs.Starts.{enter_value}
use Rattle.cs_eval.proofs.Orders.{behind, taken_up}
use Rattle.cs_eval.proofs.queries.tail_of_hits.Goals as goal

pub returns-in-Some : goal.returns-in-Some
returns-in-Some c =
    let ps = fields c.args.params.now in
    let sc = scope_of c.args.frame.now in
    let ks = keys_of (map order_key_of c.in-Some.order.now) in
    let later = steps_of (map step_of c.args.steps.now) in
    let ss = steps_of (map step_of c.in-Some.behind.now) in
    let hits : List Tree = filter (λ x. is_true (value [] ps (expression c.args.condition.now) (x ∷ sc))) (map (λ r. tree r.now) c.args.docs.items) in
    subst (λ (y : Tree). IfOk c.tail_from.result (λ g. got g ≡ y))
    (taken_up ps sc later ss ks c.first_asked-limit.result hits c.in-Some.ensures.order c.in-Some.ensures.behind c.first_asked-limit.ensures.asked)
    (subst (λ (v : Tree). IfOk c.tail_from.result (λ g. got g ≡ behind ps sc ss v)) c.in_ok-first.ensures c.tail_from.ensures)

pub returns : goal.returns
returns c =
    let ps = fields c.args.params.now in
    let sc = scope_of c.args.frame.now in
    let ss = steps_of (map step_of c.args.steps.now) in
    subst (λ (y : Tree). IfOk c.tail_from-2.result (λ g. got g ≡ pipes_value [] ps ss sc (enter_value [] ps ss sc y)))
    (ap list_of c.in_ok-kept.ensures.value)
    c.tail_from-2.ensures
