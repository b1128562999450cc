use Rattle.std.proofs.Common.{ℕ, ◌≤◌, sym, subst}
use Rattle.cs_shelf.specs.Places.{most_places}
use Rattle.cs_shelf.proofs.Few.{few}
use Rattle.cs_shelf.proofs.shelf.Shelf.count.Goals as goal

pub returns-clause-few : goal.returns-clause-few
returns-clause-few c = subst (λ (n : ℕ). n ≤ most_places) (sym c.len.ensures.len) (few c.args.self.now)
