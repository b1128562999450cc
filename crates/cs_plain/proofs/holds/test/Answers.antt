use Rattle.std.proofs.Common.{ap, ◌∙◌}
use Rattle.cs_value.specs.Tree.{Tree}
use Rattle.cs_value.specs.View.{fields}
use Rattle.cs_view.specs.View.{document_of}
use Rattle.cs_syntax.specs.Expression.{Expression}
use Rattle.cs_syntax.specs.View.{expression}
use Rattle.cs_plain.specs.Predicates.{own_query}
use Rattle.cs_plain.specs.Truths.{query_truth}
use Rattle.cs_plain.proofs.Tested.{query_tested}
use Rattle.cs_plain.proofs.holds.test.Goals as goal

pub returns : goal.returns
returns c = c.query_truth.ensures
    ∙ (ap (λ (d : Tree). query_truth (fields c.args.params.now) d (expression c.expr.result.now)) c.val.ensures
    ∙ (ap (λ (e : Expression). query_truth (fields c.args.params.now) (document_of c.args.doc.now) e) c.expr.ensures.kept
    ∙ query_tested (fields c.args.params.now) (document_of c.args.doc.now) (own_query c.args.predicate.now) c.expr.ensures.plain))
