use Rattle.std.proofs.Common.{◌∙◌, ap, map, sym}
use Rattle.cs_syntax.specs.Expression.{steps_of}
use Rattle.cs_syntax.specs.Queries.{expression_of}
use Rattle.cs_syntax.specs.View.{expression, step_of}
use Rattle.cs_window.specs.Window.{order_of}
use Rattle.cs_eval.proofs.Bounded.{steps_later}
use Rattle.cs_eval.proofs.windows.order_behind.Goals as goal

pub returns-in-Some-order_of : goal.returns-in-Some-order_of
returns-in-Some-order_of c =
    c.in-Some-order_of.ensures.order
    ∙ sym (ap order_of (steps_later (expression_of c.args.query.now) (expression c.in-Some._condition.now) (steps_of (map step_of c.in-Some.later.now)) (sym c.expr.ensures.kept ∙ c.in-Some.ensures.some)))
