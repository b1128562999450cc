-- The laws of datasets, changes and keys.
use Rattle.std.specs.Prelude.{◌≡◌, ℕ, List, Bool, true, false, filter, Contains}
use Rattle.std.specs.FinMap.Entries.{find}
use Rattle.cs_value.specs.Tree.{Tree}
use Rattle.cs_view.specs.Dataset.{standing, id_cmp, ascending, is_dataset}
use Rattle.cs_view.specs.Changes.{Edit, are_changes, are_documents, LeadFrom, LeadTo, before_changes, after_changes, before_of, after_of, AreChangesBetween, changes_between, changes_where}
use Rattle.cs_view.specs.Keys.{having}
use Rattle.cs_view.specs.Touched.{touched}
use Rattle.cs_view.specs.View.{edits}
use Rattle.cs_view.specs.declared.change.Change.{Change}
use Rattle.cs_view.specs.declared.key.Key.{Key}

-- two datasets that hold the same under each id are one
abbrev pub HoldingTheSameIsBeingOne : Type 0
HoldingTheSameIsBeingOne = (one other : List Tree) → ascending one ≡ true → ascending other ≡ true
    → ((id : List ℕ) → standing id one ≡ standing id other) → one ≡ other

-- what stands in the changes of a call are documents
abbrev pub ChangesHoldDocuments : Type 0
ChangesHoldDocuments = (cs : List Change) → are_documents (edits cs) ≡ true

-- before and after changes a dataset is a dataset
abbrev pub ChangesKeepDatasets : Type 0
ChangesKeepDatasets = (docs : List Tree) (cs : List Edit) → is_dataset docs ≡ true
    → are_documents cs ≡ true
    → (is_dataset (before_changes docs cs) ≡ true) × (is_dataset (after_changes docs cs) ≡ true)

-- before and after changes a dataset holds under each id what the changes say, or else what it held
abbrev pub ChangesAreHeld : Type 0
ChangesAreHeld = (docs : List Tree) (cs : List Edit) → are_changes cs ≡ true → (id : List ℕ)
    → (standing id (before_changes docs cs) ≡ before_of (find id_cmp id cs) (standing id docs))
    × (standing id (after_changes docs cs) ≡ after_of (find id_cmp id cs) (standing id docs))

-- changes that lead on from a dataset lead to the dataset after them, and from there back again
abbrev pub ChangesLeadOnAndBack : Type 0
ChangesLeadOnAndBack = (docs : List Tree) (cs : List Edit) → ascending docs ≡ true
    → are_changes cs ≡ true → LeadFrom docs cs
    → (before_changes docs cs ≡ docs) × LeadTo (after_changes docs cs) cs
    × (before_changes (after_changes docs cs) cs ≡ docs)

-- changes that lead to a dataset lead back to the one before them, and from there on again
abbrev pub ChangesLeadBackAndOn : Type 0
ChangesLeadBackAndOn =
    (docs : List Tree) (cs : List Edit) → ascending docs ≡ true → are_changes cs ≡ true
    → LeadTo docs cs
    → (after_changes docs cs ≡ docs) × LeadFrom (before_changes docs cs) cs
    × (after_changes (before_changes docs cs) cs ≡ docs)

-- after two lists of changes in a row a dataset holds under each id what the second says, or else
-- what the first says, or else what it held
abbrev pub ChangesInARow : Type 0
ChangesInARow =
    (docs : List Tree) (cs es : List Edit) → are_changes cs ≡ true → are_changes es ≡ true
    → (id : List ℕ)
    → standing id (after_changes (after_changes docs cs) es)
    ≡ after_of (find id_cmp id es) (after_of (find id_cmp id cs) (standing id docs))

-- the documents that pass a test after changes are those that passed before, after the changes of
-- those that pass
abbrev pub FilterFollowsChanges : Type 0
FilterFollowsChanges =
    (p : Tree → Bool) (docs : List Tree) (cs : List Edit) → ascending docs ≡ true
    → are_changes cs ≡ true
    → filter p (after_changes docs cs) ≡ after_changes (filter p docs) (changes_where p cs)

-- the changes between two datasets lead on from the one to the other
abbrev pub ChangesLeadToTheOther : Type 0
ChangesLeadToTheOther = (one other : List Tree) (cs : List Edit) → ascending one ≡ true
    → ascending other ≡ true → AreChangesBetween one other cs
    → (are_changes cs ≡ true) × LeadFrom one cs × (after_changes one cs ≡ other)

-- the list `changes_between` holds the changes between two datasets
abbrev pub ChangesAreComputed : Type 0
ChangesAreComputed =
    (one other : List Tree) → ascending one ≡ true → ascending other ≡ true
    → AreChangesBetween one other (changes_between one other)

-- there is one list of the changes between two datasets
abbrev pub ChangesAreOneList : Type 0
ChangesAreOneList = (one other : List Tree) (cs es : List Edit) → AreChangesBetween one other cs
    → AreChangesBetween one other es → cs ≡ es

-- a key of an untouched record selects the same documents before and after
abbrev pub UntouchedSelectsTheSame : Type 0
UntouchedSelectsTheSame = (docs : List Tree) (cs : List Edit) → ascending docs ≡ true
    → are_changes cs ≡ true
    → (keys : List Key) → touched keys cs ≡ false → (k : Key) → Contains keys k
    → having k (before_changes docs cs) ≡ having k (after_changes docs cs)
