use Rattle.std.proofs.Common.{◌∙◌, Some, cond, option_map, sym, ap}
use Rattle.cs_view.specs.Dataset.{standing}
use Rattle.cs_shelf.specs.View.{documents}
use Rattle.cs_working.specs.Working.{base}
use Rattle.cs_working.proofs.Workings.{standing-working}
use Rattle.cs_working.proofs.working.Working.place.Goals as goal

pub returns-then-contains : goal.returns-then-contains
returns-then-contains c =
    let self = c.args.self.now in
    let id = c.args.id.now in
    c.put_place.ensures ∙ sym (ap (option_map Some) (standing-working self id ∙ ap (λ b. cond b (standing id (documents self.put)) (standing id (base self))) (sym c.contains.ensures ∙ c.if-contains.true)))

pub returns-else-contains : goal.returns-else-contains
returns-else-contains c =
    let self = c.args.self.now in
    let id = c.args.id.now in
    c.store_place.ensures ∙ sym (ap (option_map Some) (standing-working self id ∙ ap (λ b. cond b (standing id (documents self.put)) (standing id (base self))) (sym c.contains.ensures ∙ c.if-contains.false)))
