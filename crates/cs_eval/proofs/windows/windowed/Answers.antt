use Rattle.std.proofs.Common.{◌∙◌, sym, ap, map, not}
use Rattle.std.proofs.lemmas.Option.{IfSome_then}
use Rattle.cs_syntax.specs.Expression.{keys_of, steps_of}
use Rattle.cs_syntax.specs.Queries.{expression_of}
use Rattle.cs_syntax.specs.View.{expression, step_of, order_key_of}
use Rattle.cs_order.specs.Asked.{first_asked}
use Rattle.cs_eval.proofs.Bounded.{query_windowed}
use Rattle.cs_eval.proofs.windows.windowed.Goals as goal

pub returns : goal.returns
returns c = λ quiet.
    let later = steps_of (map step_of c.in-Some.later.now) in
    query_windowed (expression_of c.args.query.now) (expression c.in-Some.condition.now) later (keys_of (map order_key_of c.in-Some-order_of.order.now)) c.first_asked.result
    (sym c.expr.ensures.kept ∙ c.in-Some.ensures.some) c.in-Some.ensures.filter (sym c.is_quiet.ensures ∙ c.if-not-is_quiet.false) (sym c.in-Some-order_of.ensures.order)
    (IfSome_then c.first_asked.result c.first_asked.ensures.asked (λ k h. ap first_asked (sym c.in-Some-order_of.ensures.behind) ∙ h))
    (c.is_none.ensures ∙ ap not c.if-is_none.false) (sym c.are_quiet.ensures ∙ quiet)
