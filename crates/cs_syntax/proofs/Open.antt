-- The views of a tree that a proof opens together, so that a function cites one name for them.
use Rattle.std.specs.Prelude.{⊤}
use Rattle.cs_syntax.specs.View.{expression, step_of, entry_of, element_of, argument_of, order_key_of, operands, steps, entries, elements, arguments, keys}

unfoldable pub of_argument : ⊤
unfolding argument_of expression
of_argument = tt

unfoldable pub of_entry : ⊤
unfolding entry_of expression
of_entry = tt

unfoldable pub of_step : ⊤
unfolding step_of expression
of_step = tt

unfoldable pub of_parts : ⊤
unfolding expression argument_of element_of entry_of step_of operands
of_parts = tt

-- of an expression or a step that is made of a list
unfoldable pub of_call : ⊤
unfolding expression arguments argument_of
of_call = tt

unfoldable pub of_array : ⊤
unfolding expression elements element_of
of_array = tt

unfoldable pub of_object : ⊤
unfolding expression entries entry_of
of_object = tt

unfoldable pub of_chain : ⊤
unfolding expression steps step_of
of_chain = tt

unfoldable pub of_projection : ⊤
unfolding step_of entries entry_of
of_projection = tt

unfoldable pub of_pipe : ⊤
unfolding step_of keys order_key_of
of_pipe = tt
