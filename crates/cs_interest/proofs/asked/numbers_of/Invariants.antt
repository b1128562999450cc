use Rattle.std.proofs.Common.{◌≡◌, ◌++◌}
use Rattle.cs_interest.proofs.asked.numbers_of.Given as goal

abbrev pub invariant-loop-number : goal.invariant-loop-number
invariant-loop-number l = l.out.items ++ l.number-iterator ≡ l.asked.keys
