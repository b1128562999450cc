-- The ids of a dataset that is worked on ascend.
use Rattle.std.proofs.Common.{◌≡◌, true}
use Rattle.cs_view.specs.Dataset.{ascending}
use Rattle.cs_view.proofs.Booleans.{and-left}
use Rattle.cs_working.specs.Kept.{is_dataset_of}
use Rattle.cs_working.specs.Working.{working}
use Rattle.cs_working.specs.declared.working.Working.{Working}

pub ascending-working : (w : Working) → ascending (working w) ≡ true
ascending-working w = and-left (ascending (working w)) _ (is_dataset_of w)
