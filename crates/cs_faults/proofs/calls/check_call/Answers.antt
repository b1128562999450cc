use Rattle.std.proofs.Common.{Some, map, ap, sym, ◌∙◌}
use Rattle.cs_syntax.specs.Expression.{arguments_of}
use Rattle.cs_syntax.specs.View.{argument_of}
use Rattle.cs_faults.proofs.NamedFunctions.{call_of_no_function}
use Rattle.cs_faults.proofs.calls.check_call.Goals as goal

pub returns-in-None : goal.returns-in-None
returns-in-None c = ap Some c.no_function.ensures
    ∙ sym (call_of_no_function c.args.name.now (arguments_of (map argument_of c.args.args.now))
    (sym c.in-None.ensures))
