use Rattle.std.proofs.Common.{sym, ◌∙◌}
use Rattle.cs_value.proofs.Trees.{lookup-named}
use Rattle.cs_value.proofs.map.tree.get.Goals as goal

pub returns : goal.returns
returns g c =
    c.get.ensures.value ∙ sym (lookup-named c.args.name.now c.args.tree.now.entries)
