use Rattle.std.proofs.Common.{◌≡◌, length, ap, ◌∙◌, arith}
use Rattle.std.proofs.lemmas.Int.{ints}
use Rattle.cs_value.specs.Tree.{integer}
use Rattle.cs_func.proofs.Trees.{tree-Num}
use Rattle.cs_calls.proofs.functions.size_of.Goals as goal

pub returns : goal.returns
returns c =
    let v = c.args.parts.now in
    let e : length v.items ≡ c.len.result = omega (arith, v.ok.0) in
    let small = v.small in
    tree-Num _ ∙ ap integer (omega (arith, ints))
