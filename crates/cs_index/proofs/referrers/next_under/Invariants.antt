use Rattle.std.proofs.Common.{◌≡◌, None, option_map}
use Rattle.cs_view.specs.View.{document_of}
use Rattle.cs_index.specs.Picking.{under}
use Rattle.cs_index.specs.Referring.{least}
use Rattle.cs_index.proofs.referrers.next_under.Given as goal

abbrev pub invariant-loop-entry : goal.invariant-loop-entry
invariant-loop-entry l =
    least l.docs l.target (option_map (λ i. i.now) l.low) l.entry-iterator (option_map (λ d. document_of d.now) l.least)
    ≡ least l.docs l.target (option_map (λ i. i.now) l.low) (under l.entries l.code) None
