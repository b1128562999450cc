use Rattle.std.proofs.Common.{length, option_map}
use Rattle.std.specs.List.{filter}
use Rattle.cs_view.specs.Document.{id_of}
use Rattle.cs_view.specs.View.{edits}
use Rattle.cs_shelf.specs.Referring.{above}
use Rattle.cs_docs.specs.Store.{docs, after}
use Rattle.cs_docs.proofs.Walks.{Left}
use Rattle.cs_docs.proofs.dangling.removed_referrer.Given as goal

abbrev pub invariant-loop-doc : goal.invariant-loop-doc
invariant-loop-doc g l = Left (after l.store l.changes) (edits l.changes) l.target (option_map (λ i. i.now) l.low) (docs l.store)

abbrev pub decreases-loop-doc : goal.decreases-loop-doc
decreases-loop-doc g l = length (filter (λ d. above (option_map (λ i. i.now) l.low) (id_of d)) (docs l.store))
