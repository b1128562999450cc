use Rattle.std.proofs.Common.{◌≡◌, drop, map}
use Rattle.std.specs.List.{list_any}
use Rattle.cs_value.specs.View.{tree}
use Rattle.cs_jsonmatch.specs.Places.{selects}
use Rattle.cs_jsonmatch.specs.View.{item_of, part_of}
use Rattle.cs_jsonmatch.proofs.select.some_selects.Given as goal

abbrev pub invariant-loop-item : goal.invariant-loop-item
invariant-loop-item l =
    list_any (selects l.count (part_of l.key) (tree l.val)) (map item_of l.items) ≡ list_any (selects l.count (part_of l.key) (tree l.val)) (map item_of (drop l.item-index l.items))
