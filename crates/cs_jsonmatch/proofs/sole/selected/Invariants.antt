use Rattle.std.proofs.Common.{◌≡◌, ◌++◌, drop, map}
use Rattle.cs_value.specs.View.{tree}
use Rattle.cs_jsonmatch.specs.Places.{places}
use Rattle.cs_jsonmatch.specs.View.{path_of}
use Rattle.cs_jsonmatch.proofs.sole.selected.Given as goal

abbrev pub invariant-loop-index : goal.invariant-loop-index
invariant-loop-index l =
    map (λ m. l.above.items ++ m) (places (path_of (drop l.index l.steps)) (tree l.here)) ≡ places (path_of l.steps) (tree l.fn.val)
