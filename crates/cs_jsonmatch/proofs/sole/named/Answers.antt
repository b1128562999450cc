use Rattle.std.proofs.Common.{sym, ap, ◌∙◌, subst, false, [], ◌∷◌}
use Rattle.cs_value.specs.View.{tree, fields}
use Rattle.cs_value.specs.Tree.{object}
use Rattle.cs_jsonmatch.specs.Path.{named, step}
use Rattle.cs_jsonmatch.specs.Places.{places}
use Rattle.cs_jsonmatch.specs.Sole.{sole_step, IsMember}
use Rattle.cs_jsonmatch.specs.declared.sole.Sole.{Sole}
use Rattle.cs_jsonmatch.proofs.Following.{attribute_none, attribute_at, attribute_not_placed}
use Rattle.cs_jsonmatch.proofs.sole.named.Goals as goal

pub returns-in_err-found-in-Name : goal.returns-in_err-found-in-Name
returns-in_err-found-in-Name c = λ ss.
    let ps = fields c.args.object.now in
    let n = c.as_str-name.result.now in
    subst (λ r. IsMember (object ps) c.args.sole ss r) (sym c.from_residual.ensures)
    (ap (λ (s : Sole). places (sole_step s ∷ ss) (object ps)) c.in-Name.is
    ∙ ap (λ m. places (step false (named m ∷ []) ∷ ss) (object ps)) (sym c.as_str-name.ensures)
    ∙ attribute_none n ss ps (sym c.in_err-found-in-Name.ensures.found))

pub returns-in-Position : goal.returns-in-Position
returns-in-Position c = λ ss.
    let ps = fields c.args.object.now in
    ap (λ (s : Sole). places (sole_step s ∷ ss) (object ps)) c.in-Position.is ∙ attribute_not_placed c.in-Position.field-0 ss ps

pub returns-in_ok-found-in-Name : goal.returns-in_ok-found-in-Name
returns-in_ok-found-in-Name c = λ ss.
    let ps = fields c.args.object.now in
    let n = c.as_str-name.result.now in
    let found = c.in_ok-found-in-Name.ensures in
    ap (λ (s : Sole). places (sole_step s ∷ ss) (object ps)) c.in-Name.is
    ∙ ap (λ m. places (step false (named m ∷ []) ∷ ss) (object ps)) (sym c.as_str-name.ensures)
    ∙ attribute_at n ss ps (tree c.in_ok-found-in-Name.found.now) found.ascends (sym found.found)
