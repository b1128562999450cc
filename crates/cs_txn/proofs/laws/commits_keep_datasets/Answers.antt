use Rattle.cs_txn.proofs.Kept.{commit-held}
use Rattle.cs_txn.proofs.laws.commits_keep_datasets.Goals as goal

pub returns : goal.returns
returns c = λ txn moment docs after g e.
    commit-held c.patched_is_a_document.ensures c.fits_within_and_clean.ensures txn moment docs
    after g e
