use Rattle.std.proofs.Common.{◌≡◌, drop}
use Rattle.cs_syntax.specs.Expression.{operands_of}
use Rattle.cs_syntax.specs.View.{operands}
use Rattle.cs_value.specs.View.{tree, fields}
use Rattle.cs_plain.specs.Truths.{run_truth}
use Rattle.cs_plain.proofs.conditions.+condition.Given as goal

abbrev pub invariant-run-loop-sign : goal.invariant-run-loop-sign
invariant-run-loop-sign l = run_truth (fields l.params) (tree l.doc) (operands_of (operands (drop l.sign-index l.rest))) l.truth ≡ run_truth (fields l.params) (tree l.doc) (operands_of (operands l.rest)) l.fn.first
