use Rattle.std.proofs.Common.{◌≡◌, ◌++◌, map, drop, false}
use Rattle.cs_json.specs.Text.{items_joined}
use Rattle.cs_json.proofs.list.write_items.Given as goal

abbrev pub invariant-loop-value : goal.invariant-loop-value
invariant-loop-value g l =
    l.out.items ++ items_joined l.later (map g.T.HasText.text (drop l.value-index l.values))
    ≡ l.initial.out.items ++ items_joined false (map g.T.HasText.text l.values)
