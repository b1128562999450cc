use Rattle.std.proofs.Common.{◌≡◌, ◌++◌, length, map}
use denote.Text.{Utf8}
use denote.Shadow.{shadow}
use Rattle.cs_value.specs.Tree.{text}
use Rattle.cs_value.specs.View.{list_tree}
use Rattle.cs_func.specs.Texts.{cut}
use Rattle.cs_func.proofs.texts.cut.Given as goal

abbrev pub invariant-loop-part : goal.invariant-loop-part
invariant-loop-part l =
    shadow (Utf8 l.rest)
    × (list_tree l.parts.items ++ map text (cut l.separator 0 l.rest) ≡ map text (cut l.separator 0 l.whole))

abbrev pub decreases-loop-part : goal.decreases-loop-part
decreases-loop-part l = length l.rest
