use Rattle.std.proofs.Common.{◌∙◌, ap, sym, option_map}
use Rattle.cs_value.specs.View.{tree}
use Rattle.cs_value.specs.Pairs.{find}
use Rattle.cs_value.specs.declared.val.Fields.{out-Fields}
use Rattle.cs_value.proofs.Views.{tree_of_ref, tree-lookup, fields-out}
use Rattle.cs_value.proofs.val.Fields.attribute.Goals as goal

pub returns : goal.returns
returns c =
    tree_of_ref c.find.result ∙ ap (option_map tree) c.find.ensures.value ∙ tree-lookup c.args.name.now (out-Fields c.args.self.now).pairs
    ∙ ap (find c.args.name.now) (sym (fields-out c.args.self.now))
