-- What the documents of the store keep.
use Rattle.std.specs.Prelude.{◌≡◌, true}
use Rattle.cs_view.specs.Dataset.{is_dataset}
use Rattle.cs_shelf.proofs.Standing.{dataset}
use Rattle.cs_docs.specs.Store.{docs}
use Rattle.cs_docs.specs.declared.docs.Docs.{Docs}

-- they are a dataset
pub is_dataset_of : (d : Docs) → is_dataset (docs d) ≡ true
is_dataset_of d = dataset d.shelf
