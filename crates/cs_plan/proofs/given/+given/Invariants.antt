use Rattle.std.proofs.Common.{◌≡◌, ◌++◌, drop}
use Rattle.cs_syntax.specs.Expression.{operands_of}
use Rattle.cs_syntax.specs.View.{operands}
use Rattle.cs_plan.specs.Filters.{keys_given, operand_conjuncts}
use Rattle.cs_view.specs.Scopes.{scope_of}
use Rattle.cs_value.specs.View.{fields}
use Rattle.cs_plan.proofs.given.+given.Given as goal

abbrev pub invariant-push_given_by_operands-loop-operand : goal.invariant-push_given_by_operands-loop-operand
invariant-push_given_by_operands-loop-operand l =
    l.keys.items ++ keys_given (scope_of l.scope) (fields l.params) (operand_conjuncts (operands_of (operands (drop l.operand-index l.rest))))
    ≡ l.initial.keys.items ++ keys_given (scope_of l.scope) (fields l.params) (operand_conjuncts (operands_of (operands l.rest)))
