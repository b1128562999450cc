use Rattle.std.proofs.Common.{◌∙◌, ap, Some}
use Rattle.cs_value.specs.View.{list_tree}
use Rattle.cs_body.proofs.Taken.{listed}
use Rattle.cs_body.proofs.parts.take_list.Goals as goal

pub returns-in-Some-List-clause-taken : goal.returns-in-Some-List-clause-taken
returns-in-Some-List-clause-taken c =
    let found = rw c.in-Some-List.field-0-is at c.in-Some-List.ensures.taken in
    ap (λ v. Some (list_tree v.items)) c.in-Some-List.members-is ∙ listed c.in-Some-List.members _ found
