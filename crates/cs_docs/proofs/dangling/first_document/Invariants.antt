use Rattle.std.proofs.Common.{◌≡◌, ◌++◌, ◌&&◌, List, option_map, drop}
use Rattle.std.specs.List.{filter}
use Rattle.cs_view.specs.Changes.{Edit}
use Rattle.cs_view.specs.View.{document_of, edits}
use Rattle.cs_value.specs.Words.{first_of}
use Rattle.cs_docs.specs.Suspects.{dangles, is_suspect}
use Rattle.cs_docs.specs.Store.{after}
use Rattle.cs_docs.proofs.dangling.first_document.Given as goal

abbrev pub invariant-loop-change : goal.invariant-loop-change
invariant-loop-change g l =
    (done : List Edit)
    × (edits l.changes ≡ done ++ edits (drop l.change-index l.changes))
    × (option_map (λ d. document_of d.now) l.first ≡ first_of (filter (λ d. dangles (after l.store l.changes) d && is_suspect (edits l.changes) done d) (after l.store l.changes)))
