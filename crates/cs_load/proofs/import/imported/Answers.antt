use Rattle.std.proofs.Common.{◌≡◌, ◌∙◌, ap, sym, true}
use Rattle.cs_value.specs.Tree.{object}
use Rattle.cs_value.specs.View.{tree, fields}
use Rattle.cs_value.specs.declared.val.Val as val
use Rattle.cs_value.proofs.Views.{tree-Obj}
use Rattle.cs_view.specs.Document.{is_body, is_shallow, is_document}
use Rattle.cs_machine.specs.DataFile.{imported}
use Rattle.cs_load.proofs.Importing.{imported_document}
use Rattle.cs_load.proofs.import.imported.Goals as goal

pub of-requires : goal.of-requires
of-requires c =
    let given : tree c.args.body ≡ object (fields c.in-Obj.attributes) = ap tree c.in-Obj.is ∙ tree-Obj c.in-Obj.attributes in
    let body : is_body (object (fields c.in-Obj.attributes)) ≡ true = ap is_body (sym given) ∙ c.requires.body in
    let shallow : is_shallow (object (fields c.in-Obj.attributes)) ≡ true = ap is_shallow (sym given) ∙ c.requires.shallow in
    let made : tree (val.Obj c.put_defaults.new.attributes) ≡ imported (object (fields c.in-Obj.attributes)) = tree-Obj c.put_defaults.new.attributes ∙ c.in_ok-put_defaults.ensures in
    ap is_document made ∙ imported_document (object (fields c.in-Obj.attributes)) body shallow
