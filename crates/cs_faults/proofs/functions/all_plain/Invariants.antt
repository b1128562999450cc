use Rattle.std.proofs.Common.{◌≡◌, map, drop}
use Rattle.cs_syntax.specs.Expression.{arguments_of}
use Rattle.cs_syntax.specs.Functions.{all_plain}
use Rattle.cs_syntax.specs.View.{argument_of}
use Rattle.cs_faults.proofs.functions.all_plain.Given as goal

abbrev pub invariant-loop-argument : goal.invariant-loop-argument
invariant-loop-argument l = all_plain (arguments_of (map argument_of l.args))
    ≡ all_plain (arguments_of (map argument_of (drop l.argument-index l.args)))
