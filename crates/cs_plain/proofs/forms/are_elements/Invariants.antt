use Rattle.std.proofs.Common.{◌≡◌, map, drop}
use Rattle.cs_syntax.specs.Expression.{elements_of}
use Rattle.cs_syntax.specs.View.{element_of}
use Rattle.cs_plain.specs.Plain.{are_elements}
use Rattle.cs_plain.proofs.forms.are_elements.Given as goal

abbrev pub invariant-loop-elem : goal.invariant-loop-elem
invariant-loop-elem l = are_elements (elements_of (map element_of l.elements))
    ≡ are_elements (elements_of (map element_of (drop l.elem-index l.elements)))
