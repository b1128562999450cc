use Rattle.std.proofs.Common.{◌≡◌, ◌∙◌, ap, sym}
use Rattle.cs_value.specs.Tree.{object}
use Rattle.cs_value.specs.View.{tree, fields}
use Rattle.cs_value.specs.declared.val.Val as val
use Rattle.cs_value.proofs.Views.{tree-Obj}
use Rattle.cs_view.specs.Document.{is_body, is_shallow, is_document}
use Rattle.cs_txn.specs.Install.{entered}
use Rattle.cs_txn.proofs.stamp.entered.Goals as goal

pub of-requires : goal.of-requires
of-requires c =
    let ps = fields c.in-Obj.attributes in
    let given : tree c.args.body ≡ object ps =
    ap tree c.in-Obj.is ∙ tree-Obj c.in-Obj.attributes in
    let made : tree (val.Obj c.stamp.new.attributes)
    ≡ entered c.args.tx.now c.args.moment.now (object ps) =
    tree-Obj c.stamp.new.attributes ∙ c.in_ok-stamp.ensures in
    ap is_document made
    ∙ (c.entered_is_a_document.ensures c.args.tx.now c.args.moment.now (object ps)
    (ap is_body (sym given) ∙ c.requires.body) (ap is_shallow (sym given) ∙ c.requires.shallow)).0
