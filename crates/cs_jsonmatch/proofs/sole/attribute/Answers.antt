use Rattle.std.proofs.Common.{sym, subst}
use Rattle.cs_value.specs.Value.{Ascends}
use Rattle.cs_value.specs.declared.val.Fields.{out-Fields}
use Rattle.cs_value.proofs.Values.{Ascends-entries_tree}
use Rattle.cs_value.proofs.Views.{fields-out}
use Rattle.cs_jsonmatch.proofs.sole.attribute.Goals as goal

pub returns-clause-ascends : goal.returns-clause-ascends
returns-clause-ascends c =
    subst Ascends (sym (fields-out c.args.object.now)) (Ascends-entries_tree (out-Fields c.args.object.now).pairs c.len-count.ensures.ordered)
