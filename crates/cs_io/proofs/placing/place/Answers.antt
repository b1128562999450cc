use Rattle.std.proofs.Common.{arith, ◌≡◌, refl, ◌∷◌, ◌++◌, [], Some, length}
use Rattle.std.proofs.lemmas.Grind.{common_steps}
use Rattle.cs_io.proofs.Keeping.{placed_more}
use Rattle.cs_io.proofs.placing.place.Goals as goal

pub returns-clause-placed : goal.returns-clause-placed
returns-clause-placed g c =
    let names : c.push-2.new.self.items ≡ c.args.names.now.items ++ record { name = c.in_ok-name.name; number = Some c.in_ok-number.number } ∷ [] = rw c.if-is_err.ensures.negation at c.push-2.ensures.items in
    let kept : c.push.new.self.items ≡ c.args.opened.now.items ++ c.args.item ∷ [] = grind (arith, common_steps) in
    let number : c.in_ok-number.number ≡ length c.args.opened.now.items = grind (arith, common_steps) in
    rw (names, kept) (placed_more c.args.names.now.items c.args.opened.now.items _ c.args.item (rw number refl) c.requires)
