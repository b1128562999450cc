use Rattle.std.proofs.Common.{sym, ap, ◌∙◌}
use Rattle.cs_value.specs.Entries.{named}
use Rattle.cs_value.proofs.Trees.{lookup-named, named-remove_entry}
use Rattle.cs_value.proofs.map.tree.take.Goals as goal

pub returns-clause-value : goal.returns-clause-value
returns-clause-value g c =
    c.remove.ensures.value ∙ sym (lookup-named c.args.name.now c.args.tree.now.entries)

pub returns-clause-left : goal.returns-clause-left
returns-clause-left g c =
    ap named c.remove.ensures.entries
    ∙ named-remove_entry c.args.name.now c.args.tree.now.entries
