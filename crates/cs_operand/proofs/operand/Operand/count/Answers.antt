use Rattle.std.proofs.Common.{◌≡◌, length, ap, arith}
use Rattle.std.proofs.lemmas.Int.{ints}
use Rattle.std.proofs.lemmas.List.{length-map}
use Rattle.cs_value.specs.Tree.{integer}
use Rattle.cs_value.specs.View.{list_tree}
use Rattle.cs_operand.proofs.Items.{count_items}
use Rattle.cs_operand.proofs.operand.Operand.count.Goals as goal

pub returns-in-List : goal.returns-in-List
returns-in-List c =
    let v = c.in-List.items.now in
    let e : length (list_tree v.items) ≡ c.len.result = simp length-map (omega (arith, v.ok.0)) in
    let small = v.small in
    rw (c.in-List.is, count_items (list_tree v.items)) (ap integer (omega (arith, ints)))
