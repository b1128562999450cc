use Rattle.std.proofs.Common.{◌≡◌, map, length}
use Rattle.cs_syntax.specs.Expression.{arguments_of}
use Rattle.cs_syntax.specs.View.{argument_of}
use Rattle.cs_value.specs.View.{tree, fields}
use Rattle.cs_plain.specs.Truths.{some_referred}
use Rattle.cs_plain.proofs.conditions.some_referred.Given as goal

abbrev pub invariant-loop-arg : goal.invariant-loop-arg
invariant-loop-arg l = some_referred (fields l.params) (tree l.doc) (arguments_of (map argument_of l.left)) ≡ some_referred (fields l.params) (tree l.doc) (arguments_of (map argument_of l.args))

abbrev pub decreases-loop-arg : goal.decreases-loop-arg
decreases-loop-arg l = length l.left
