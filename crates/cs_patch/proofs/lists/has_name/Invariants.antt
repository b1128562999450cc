use Rattle.std.proofs.Common.{◌≡◌, drop, map}
use Rattle.std.specs.List.{list_any}
use Rattle.cs_jsonmatch.specs.View.{item_of}
use Rattle.cs_alter.specs.Inserted.{is_name}
use Rattle.cs_patch.proofs.lists.has_name.Given as goal

abbrev pub invariant-loop-item : goal.invariant-loop-item
invariant-loop-item l =
    list_any is_name (map item_of l.items) ≡ list_any is_name (map item_of (drop l.item-index l.items))
