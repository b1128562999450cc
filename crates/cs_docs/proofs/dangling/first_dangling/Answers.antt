use Rattle.cs_docs.specs.Store.{after}
use Rattle.cs_docs.proofs.Walks.{found_none}
use Rattle.cs_docs.proofs.dangling.first_dangling.Goals as goal

pub returns-clause-none : goal.returns-clause-none
returns-clause-none g c = found_none (after c.args.store.now c.args.changes.now) (λ d. (d.from.now, d.to.now)) c.first_found.result c.first_found.ensures
