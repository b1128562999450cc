use Rattle.std.proofs.Common.{◌∙◌, ap, subst}
use Rattle.cs_value.specs.Words.{as_text}
use Rattle.cs_value.specs.View.{list_tree}
use Rattle.cs_body.specs.Body.{all_read}
use Rattle.cs_body.specs.Taken.{IsPart}
use Rattle.cs_body.proofs.Taken.{texts_found}
use Rattle.cs_body.proofs.parts.take_texts.Goals as goal

pub returns-in-Some-List-clause-taken : goal.returns-in-Some-List-clause-taken
returns-in-Some-List-clause-taken c =
    let found = rw c.in-Some-List.field-0-is at c.in-Some-List.ensures.taken in
    subst (IsPart (λ v. v.items) c.texts.result) (ap (λ v. all_read as_text (list_tree v.items)) c.in-Some-List.members-is ∙ texts_found c.in-Some-List.members _ found) c.texts.ensures
