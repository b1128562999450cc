-- The laws of transactions.
use Rattle.std.specs.Prelude.{◌≡◌, ◌≢◌, ◌≤◌, ◌<◌, ◌^◌, ℕ, List, length, true, Ok}
use Rattle.std.specs.List.{AllByRecursion}
use Rattle.cs_value.specs.Tree.{Tree}
use Rattle.cs_view.specs.Document.{id_of, is_body, is_document, is_shallow}
use Rattle.cs_view.specs.Dataset.{is_dataset}
use Rattle.cs_view.specs.Changes.{Edit, are_changes, LeadFrom, after_changes, AreChangesBetween}
use Rattle.cs_docs.specs.Limits.{most_documents}
use Rattle.cs_docs.specs.References.{clean}
use Rattle.cs_body.specs.Laws.{ActionIsWithin}
use Rattle.cs_body.specs.Transaction.{Action, Transaction}
use Rattle.cs_txn.specs.Install.{entered}
use Rattle.cs_txn.specs.Commit.{commit}
use Rattle.cs_txn.specs.Within.{AreShort}

-- what becomes of a body that is not too deep is a document with the same id
abbrev pub EnteredIsADocument : Type 0
EnteredIsADocument =
    (tx moment : List ℕ) (t : Tree)
    → is_body t ≡ true
    → is_shallow t ≡ true
    → (is_document (entered tx moment t) ≡ true) × (id_of (entered tx moment t) ≡ id_of t)

-- mutations are short whose texts have no more bytes than a number below 2^32
abbrev pub WithinAreShort : Type 0
WithinAreShort =
    (n : ℕ) (actions : List Action)
    → n < 2 ^ 32
    → AllByRecursion (ActionIsWithin n) actions
    → AreShort actions

-- an accepted transaction leads from a dataset to one that is clean and within the limit
abbrev pub CommitsKeepDatasets : Type 0
CommitsKeepDatasets =
    (txn : Transaction) (moment : List ℕ) (docs after : List Tree)
    → is_dataset docs ≡ true
    → commit txn moment docs ≡ Ok after
    → (is_dataset after ≡ true) × (clean after ≡ true) × (length after ≤ most_documents)

-- the two sides of each change differ
abbrev pub EachDiffers : List Edit → Type 0
EachDiffers cs = AllByRecursion (λ c. c.1.0 ≢ c.1.1) cs

-- the changes of an accepted transaction lead from the dataset before to the one after
abbrev pub CommitsAreTheirChanges : Type 0
CommitsAreTheirChanges =
    (txn : Transaction) (moment : List ℕ) (docs after : List Tree) (cs : List Edit)
    → is_dataset docs ≡ true
    → commit txn moment docs ≡ Ok after
    → AreChangesBetween docs after cs
    → (are_changes cs ≡ true) × LeadFrom docs cs × (after_changes docs cs ≡ after) × EachDiffers cs
