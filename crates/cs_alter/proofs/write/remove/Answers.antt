use Rattle.std.proofs.Common.{◌∙◌, ap, sym}
use Rattle.cs_value.specs.View.{tree}
use Rattle.cs_alter.specs.Within.{changed, removed, drop_member}
use Rattle.cs_alter.proofs.Members.{on_ok}
use Rattle.cs_alter.proofs.Removals.{removed_last}
use Rattle.cs_alter.proofs.write.remove.Goals as goal

pub returns : goal.returns
returns c =
    on_ok c.alter.result _ _
    (λ h. h ∙ ap (λ x. changed c.in-Some.before.now (drop_member x) (tree c.args.val.now)) c.in_ok-copy.ensures ∙ removed_last c.in-Some.before.now c.in-Some.part.now (tree c.args.val.now)
    ∙ ap (λ l. removed l (tree c.args.val.now)) (sym c.in-Some.ensures.cases.0))
    c.alter.ensures
