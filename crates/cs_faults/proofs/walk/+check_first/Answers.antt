use Rattle.std.proofs.Common.{ℕ, List, map, ap, sym, ◌∙◌}
use Rattle.cs_syntax.specs.Expression.{arguments_of}
use Rattle.cs_syntax.specs.Faults.{at_first, call_faults}
use Rattle.cs_value.specs.Words.{first_of}
use Rattle.cs_syntax.specs.View.{expression, argument_of}
use Rattle.cs_syntax.specs.declared.tree.Arg.{Arg}
use Rattle.cs_syntax.proofs.Views.{expression_call}
use Rattle.cs_faults.proofs.walk.+check_first.Goals as goal

pub returns-in-Call : goal.returns-in-Call
returns-in-Call t c = c.check_call.ensures
    ∙ ap (λ (s : List ℕ). first_of (call_faults s (arguments_of (map argument_of c.deref.result.now))))
    c.as_str-in-Call.ensures
    ∙ ap (λ (xs : List Arg). first_of (call_faults c.in-Call.name (arguments_of (map argument_of xs))))
    c.deref.ensures.value
    ∙ sym (ap (λ e. first_of (at_first e)) (ap expression c.in-Call.is
    ∙ expression_call c.in-Call.name c.in-Call.args))
