use Rattle.std.proofs.Common.{Some, None}
use Rattle.cs_value.specs.View.{fields, list_tree}
use Rattle.cs_alter.specs.Alterations.{side}
use Rattle.cs_body.proofs.Taken.{inserted_asks}
use Rattle.cs_body.proofs.insert.inserted_at.Goals as goal

pub returns-in_err-items : goal.returns-in_err-items
returns-in_err-items c =
    rw c.from_residual-in_err-items.ensures (inserted_asks (side c.args.side) c.args.key.now (fields c.args.object) _ (Some c.in_ok-path.path) None c.requires c.in_ok-path.ensures.taken
    c.take_text.ensures.left c.in_err-items.ensures.taken)

pub returns : goal.returns
returns c =
    inserted_asks (side c.args.side) c.args.key.now (fields c.args.object) _ (Some c.in_ok-path.path) (Some (list_tree c.in_ok-items.items.items)) c.requires c.in_ok-path.ensures.taken
    c.take_text.ensures.left c.in_ok-items.ensures.taken
