use Rattle.std.proofs.Common.{◌≡◌, [], false, drop, string_bytes}
use Rattle.cs_value.specs.View.{list_tree}
use Rattle.cs_func.proofs.Joined.{joined_from}
use Rattle.cs_func.proofs.texts.joined.Given as goal

abbrev pub invariant-loop-item : goal.invariant-loop-item
invariant-loop-item l = joined_from l.separator (string_bytes l.text) l.later (list_tree (drop l.item-index l.item-items)) ≡ joined_from l.separator [] false (list_tree l.item-items)
