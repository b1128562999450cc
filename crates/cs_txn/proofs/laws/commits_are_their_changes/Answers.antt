use Rattle.cs_view.specs.Dataset.{ascending}
use Rattle.cs_view.proofs.Booleans.{and-left}
use Rattle.cs_txn.proofs.Differing.{each-differs}
use Rattle.cs_txn.proofs.laws.commits_are_their_changes.Goals as goal

pub returns : goal.returns
returns c = λ txn moment docs after cs g e between.
    let held = c.commits_keep_datasets.ensures txn moment docs after g e in
    let lead = c.changes_lead_to_the_other.ensures docs after cs
    (and-left (ascending docs) _ g) (and-left (ascending after) _ held.0) between in
    (lead.0, lead.1, lead.2, each-differs docs after cs between)
