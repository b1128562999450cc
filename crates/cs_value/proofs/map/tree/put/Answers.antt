use Rattle.std.proofs.Common.{sym, ap, ◌∙◌}
use Rattle.std.specs.Map.{lookup}
use Rattle.std.specs.BTreeMap.{insert_entry, is_at}
use Rattle.cs_value.specs.Entries.{compares, named}
use Rattle.cs_value.proofs.Trees.{lookup-named, named-insert_entry}
use Rattle.cs_value.proofs.map.tree.put.Goals as goal

pub returns-in-Ok-clause-old : goal.returns-in-Ok-clause-old
returns-in-Ok-clause-old g c =
    let es = c.args.tree.now.entries in
    c.in-Ok.ensures.old ∙ sym (lookup-named _ es)
    ∙ ap (λ k. lookup (is_at (compares k)) (named es)) c.in_ok-key.ensures

pub returns-in-Ok-clause-entries : goal.returns-in-Ok-clause-entries
returns-in-Ok-clause-entries g c =
    let es = c.args.tree.now.entries in
    ap named c.in-Ok.ensures.entries ∙ named-insert_entry es c.in_ok-key.key c.args.value
    ∙ ap (λ k. insert_entry compares (named es) k c.args.value) c.in_ok-key.ensures
