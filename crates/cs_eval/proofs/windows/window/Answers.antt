use Rattle.std.proofs.Common.{◌∙◌, sym, ap, map}
use Rattle.std.proofs.lemmas.Option.{IfSome_then}
use Rattle.cs_syntax.specs.Expression.{keys_of, steps_of}
use Rattle.cs_syntax.specs.Queries.{expression_of}
use Rattle.cs_syntax.specs.View.{expression, step_of, order_key_of}
use Rattle.cs_order.specs.Asked.{first_asked}
use Rattle.cs_eval.proofs.Bounded.{query_window}
use Rattle.cs_eval.proofs.windows.window.Goals as goal

pub returns-clause-many : goal.returns-clause-many
returns-clause-many c =
    let later = steps_of (map step_of c.in_ok-_condition.later.now) in
    IfSome_then c.first_asked.result c.first_asked.ensures.asked
    (λ k h. query_window (expression_of c.args.query.now) (expression c.in_ok-_condition._condition.now) later (keys_of (map order_key_of c.in_ok-_order._order.now)) k
    (sym c.expr.ensures.kept ∙ c.in_ok-_condition.ensures.some) (sym c.in_ok-_order.ensures.order) (ap first_asked (sym c.in_ok-_order.ensures.behind) ∙ h))
