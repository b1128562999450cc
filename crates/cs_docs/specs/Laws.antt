-- The laws of references.
use Rattle.std.specs.Prelude.{◌≡◌, ◌↔◌, ◌≤◌, ◌<◌, List, [], length, true, None}
use Rattle.cs_value.specs.Tree.{Tree}
use Rattle.cs_view.specs.Dataset.{with_doc}
use Rattle.cs_docs.specs.Limits.{most_documents}
use Rattle.cs_docs.specs.References.{strong, clean, first_dangling}
use Rattle.cs_docs.specs.Verdict.{fits, full, verdict}

-- no reference dangles exactly where the dataset is clean
abbrev pub NoneDanglesWhereClean : Type 0
NoneDanglesWhereClean = (docs : List Tree) → (first_dangling docs ≡ None) ↔ (clean docs ≡ true)

-- a dataset fits exactly where it is within the limit and clean
abbrev pub FitsWithinAndClean : Type 0
FitsWithinAndClean =
    (docs : List Tree)
    → (verdict docs ≡ fits) ↔ ((length docs ≤ most_documents) × (clean docs ≡ true))

-- a dataset is full exactly where it is above the limit
abbrev pub FullAboveTheLimit : Type 0
FullAboveTheLimit = (docs : List Tree) → (verdict docs ≡ full) ↔ (most_documents < length docs)

-- a dataset to which a document without strong references comes stays clean
abbrev pub WithoutReferencesItStaysClean : Type 0
WithoutReferencesItStaysClean =
    (docs : List Tree) (d : Tree)
    → clean docs ≡ true
    → strong d ≡ []
    → clean (with_doc d docs) ≡ true
