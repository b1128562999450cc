use Rattle.std.proofs.Common.{ap, ◌∙◌, arith}
use Rattle.cs_syntax.specs.declared.tree.Expr.{the_lemmas}
use Rattle.cs_syntax.proofs.tree.Expr.TheLaws.{the_size}
use Rattle.cs_value.specs.View.{tree, fields}
use Rattle.cs_plain.proofs.Parts.{one_alone, not_alone}
use Rattle.cs_plain.proofs.values.+operand.Goals as goal

pub operand-one-requires : goal.operand-one-requires
operand-one-requires t c = let e = ap the_size c.in-Call.is in (rw c.deref-in-Call.ensures.value (omega (arith, the_lemmas)), tt)

pub one-returns : goal.one-returns
one-returns t c = c.argument.ensures ∙ one_alone (fields c.args.params.now) (tree c.args.doc.now) c.args.args.now c.in-Some.first.now c.in-Some.others.now c.in-Some.ensures.cases.0 (omega arith)

pub one-returns-then-others-gt0 : goal.one-returns-then-others-gt0
one-returns-then-others-gt0 t c = not_alone (fields c.args.params.now) (tree c.args.doc.now) c.args.args.now c.in-Some.first.now c.in-Some.others.now c.in-Some.ensures.cases.0 (omega arith)
