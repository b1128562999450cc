use Rattle.std.proofs.Common.{option_map, sym, ap, ◌∙◌}
use Rattle.cs_shelf.proofs.Standing.{ascending-documents}
use Rattle.cs_docs.specs.Store.{docs}
use Rattle.cs_docs.proofs.Walks.{next_stands}
use Rattle.cs_docs.proofs.dangling.next_doc.Goals as goal

pub returns-in-Some : goal.returns-in-Some
returns-in-Some g c =
    next_stands (docs c.args.store.now) (g.R.Referrers.dataset c.args.referrers.now) c.args.target.now (option_map (λ i. i.now) c.args.low) c.in-Some.from.now _
    (ascending-documents c.args.store.now.shelf) c.requires (sym (ap (option_map (λ i. i.now)) c.in-Some.is) ∙ c.next_referrer.ensures) c.get.ensures
