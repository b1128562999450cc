-- The lemmas by which functions over the forms of a value or of a step are shown, set by set.
use Rattle.cs_syntax.proofs.Views.{expression_call, step_bracket}
use Rattle.cs_parts.proofs.Shapes.{form_of_bracket, spread_of_object}
use Rattle.cs_parts.proofs.Slices.{between_map, element_of_list, element_of_object, element_of_parts, found_map, none_map, sliced_of_list, sliced_of_object, sliced_of_parts}
use Rattle.cs_parts.proofs.Trees.{as_list_of, as_list_of_list, as_list_of_object, each_of_list, each_of_object, each_of_parts, flat_elements_of_list, flat_elements_of_object, flat_elements_of_parts, tree_of_list, tree_of_null, tree_of_object}

pub ruleset elements = (as_list_of_list, as_list_of_object, as_list_of)

pub ruleset flat_elements = (flat_elements_of_list, flat_elements_of_object, flat_elements_of_parts)

pub ruleset each = (each_of_list, each_of_object, each_of_parts, tree_of_null)

pub ruleset element = (element_of_list, element_of_parts, element_of_object, tree_of_null)

pub ruleset found = (found_map, none_map, tree_of_null)

pub ruleset slice = (between_map, sliced_of_list, sliced_of_parts, sliced_of_object, tree_of_list, tree_of_null)

pub ruleset pairs = (tree_of_object, spread_of_object)

pub ruleset form = (form_of_bracket, step_bracket)

pub ruleset call = (expression_call)
