use Rattle.std.proofs.Common.{ap, ◌∙◌, arith}
use Rattle.cs_syntax.specs.declared.tree.Expr.{the_lemmas}
use Rattle.cs_syntax.proofs.tree.Expr.TheLaws.{the_size}
use Rattle.cs_plain.proofs.Shapes.{operand_alone, no_operand_alone}
use Rattle.cs_plain.proofs.forms.+is_operand.Goals as goal

pub is_one-returns : goal.is_one-returns
is_one-returns t c = c.argument_is_operand.ensures ∙ operand_alone c.args.args.now c.in-Some.first.now c.in-Some.others.now c.in-Some.ensures.cases.0 (omega arith)

pub is_one-returns-then-others-gt0 : goal.is_one-returns-then-others-gt0
is_one-returns-then-others-gt0 t c = no_operand_alone c.args.args.now c.in-Some.first.now c.in-Some.others.now c.in-Some.ensures.cases.0 (omega arith)

pub is_operand-is_one-requires : goal.is_operand-is_one-requires
is_operand-is_one-requires t c =
    let e = ap the_size c.in-Call.is in
    (rw c.deref-then-is_measure.ensures.value (omega (arith, the_lemmas)), tt)
