use Rattle.std.proofs.Common.{◌∙◌, bytes_eq, sym}
use Rattle.std.proofs.lemmas.Map.Text.{is_eq-slice_cmp}
use Rattle.cs_view.proofs.Sides.{id-stands, id-stands-not}
use Rattle.cs_view.proofs.touching.is_of.Goals as goal

pub returns-then-stands : goal.returns-then-stands
returns-then-stands c =
    let change = c.args.change.now in let t = c.args.id.now in
    id-stands t change c.requires.before c.requires.after c.stands.result c.stands.ensures c.if-stands.true c.eq.result
    (c.eq.ensures ∙ (λ i. bytes_eq (c.as_str.ensures i) (c.as_str-then-stands.ensures i)) ∙ sym (is_eq-slice_cmp change.id t))

pub returns-else-stands : goal.returns-else-stands
returns-else-stands c =
    id-stands-not c.args.id.now c.args.change.now c.requires.before c.requires.after c.stands.result c.stands.ensures c.if-stands.false
