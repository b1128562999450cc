use Rattle.std.proofs.Common.{◌∙◌, sym, ap, true, false, option_and_then}
use Rattle.cs_value.specs.View.{fields}
use Rattle.cs_body.specs.Body.{all_read, numbered}
use Rattle.cs_body.proofs.Lists.{numbers_are}
use Rattle.cs_body.proofs.parts.take_numbers.Goals as goal

pub returns-then-are_numbers-clause-taken : goal.returns-then-are_numbers-clause-taken
returns-then-are_numbers-clause-taken c =
    ap (option_and_then (all_read numbered)) c.in_ok-values.ensures.taken ∙ numbers_are (fields c.in_ok-values.values) true (sym c.if-are_numbers.true ∙ c.are_numbers.ensures)

pub returns-else-are_numbers-clause-taken : goal.returns-else-are_numbers-clause-taken
returns-else-are_numbers-clause-taken c =
    ap (option_and_then (all_read numbered)) c.in_ok-values.ensures.taken ∙ numbers_are (fields c.in_ok-values.values) false (sym c.if-are_numbers.false ∙ c.are_numbers.ensures)
