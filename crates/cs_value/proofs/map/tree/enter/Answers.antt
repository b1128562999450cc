use Rattle.std.proofs.Common.{ap, ◌∙◌}
use Rattle.std.specs.BTreeMap.{insert_entry}
use Rattle.cs_value.specs.Entries.{compares, named}
use Rattle.cs_value.proofs.Trees.{named-insert_entry}
use Rattle.cs_value.proofs.map.tree.enter.Goals as goal

pub returns-in-Ok-insert-clause-entries : goal.returns-in-Ok-insert-clause-entries
returns-in-Ok-insert-clause-entries g c =
    let es = c.args.tree.now.entries in
    ap named c.in-Ok-insert.ensures.entries ∙ named-insert_entry es c.in-Ok.key c.args.value
    ∙ ap (λ k. insert_entry compares (named es) k c.args.value)
    (c.in-Ok.ensures.ok ∙ c.as_str.ensures)
