use Rattle.std.proofs.Common.{◌≡◌, ◌∙◌, ap}
use Rattle.std.proofs.lemmas.Result.{IfOk-weaker}
use Rattle.std.specs.BTreeMap.{insert_entry}
use Rattle.cs_value.specs.Entries.{compares}
use Rattle.cs_value.specs.View.{entries_tree}
use Rattle.cs_value.specs.declared.val.Fields.{out-Fields}
use Rattle.cs_value.proofs.Views.{fields-out, fields-roll, entries_tree-insert_entry}
use Rattle.cs_value.proofs.val.Fields.set.Goals as goal

pub returns-clause-put : goal.returns-clause-put
returns-clause-put c =
    let old = (out-Fields c.args.self.now).pairs in
    IfOk-weaker c.set.result
    (λ _. c.set.new.self ≡ insert_entry compares old c.args.name c.args.val) _
    (λ _ is. fields-roll c.set.new.self ∙ ap entries_tree is
    ∙ entries_tree-insert_entry old c.args.name c.args.val
    ∙ rw (fields-out c.args.self.now))
    c.set.ensures.entries
