use Rattle.std.proofs.Common.{◌≡◌, false}
use Rattle.std.specs.List.{list_any}
use Rattle.cs_value.specs.View.{tree}
use Rattle.cs_jsonmatch.specs.Places.{selects}
use Rattle.cs_jsonmatch.specs.View.{path_of, part_of}
use Rattle.cs_jsonmatch.specs.Walk.{next as next_waiting}
use Rattle.cs_jsonmatch.proofs.walk.some_wait_below.Given as goal

abbrev pub invariant-loop-waits : goal.invariant-loop-waits
invariant-loop-waits l =
    list_any (λ b. b) (next_waiting (selects l.count (part_of l.key) (tree l.val)) l.selected l.waits-iterator.a.rest.now (path_of l.waits-iterator.b.rest.now))
    ≡ list_any (λ b. b) (next_waiting (selects l.count (part_of l.key) (tree l.val)) false l.waiting (path_of l.steps))
