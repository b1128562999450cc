use Rattle.std.proofs.Common.{◌≡◌, map, drop}
use Rattle.cs_syntax.specs.Expression.{arguments_of}
use Rattle.cs_syntax.specs.Functions.{pairs_come_first}
use Rattle.cs_syntax.specs.View.{argument_of}
use Rattle.cs_faults.proofs.Firsts.{only_pairs_left}
use Rattle.cs_faults.proofs.functions.pairs_come_first.Given as goal

abbrev pub invariant-loop-argument : goal.invariant-loop-argument
invariant-loop-argument l = pairs_come_first (arguments_of (map argument_of l.args))
    ≡ only_pairs_left l.has_default (arguments_of (map argument_of (drop l.argument-index l.args)))
