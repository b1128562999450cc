use Rattle.std.proofs.Common.{◌∙◌, [], ◌∷◌, ap, refl}
use Rattle.cs_view.specs.Changes.{are_changes}
use Rattle.cs_docs.proofs.Gathering.{are_entering}
use Rattle.cs_index_tests.proofs.tests.put.Goals as goal

pub make-requires-clause-changes : goal.make-requires-clause-changes
make-requires-clause-changes c = ap are_changes c.in_ok-changes.ensures ∙ are_entering (c.args.document ∷ []) refl
