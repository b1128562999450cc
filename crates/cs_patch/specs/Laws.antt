-- The laws of patches.
use Rattle.std.specs.Prelude.{◌≡◌, ℕ, ℤ, List, [], ◌∷◌, reverse, Bool, true, false, ◌||◌, Some, bytes_eq, codes}
use Rattle.cs_value.specs.Tree.{Tree, text}
use Rattle.cs_value.specs.Pairs.{attribute}
use Rattle.cs_view.specs.Document.{is_document, is_shallow, id_of}
use Rattle.cs_jsonmatch.specs.Path.{Step, Path}
use Rattle.cs_jsonmatch.specs.Verdict.{spelled, path_verdict}
use Rattle.cs_targets.specs.Targets.{made_targets, place_targets}
use Rattle.cs_alter.specs.Inserted.{is_misplaced}
use Rattle.cs_patch.specs.Operations.{document, set_path, set_missing_path, unset_path, inc_path, dec_path, Insertion, insert_path}
use Rattle.cs_patch.specs.Patched.{Patch, paths, patched}

-- a patched document is a document with the same id
abbrev pub PatchedIsADocument : Type 0
PatchedIsADocument =
    (p : Patch) (d e : Tree) (tx moment : List ℕ)
    → is_document d ≡ true
    → patched p d tx moment ≡ document e
    → (is_document e ≡ true) × (id_of e ≡ id_of d)

-- the names of the two texts that each patch changes
abbrev pub is_stamp : List ℕ → Bool
is_stamp n = bytes_eq n (codes "_rev") || bytes_eq n (codes "_updatedAt")

-- a patch without operations changes `_rev` and `_updatedAt` alone
abbrev pub NothingAskedIsStamped : Type 0
NothingAskedIsStamped =
    (p : Patch) (d e : Tree) (tx moment : List ℕ)
    → is_document d ≡ true
    → paths p ≡ []
    → patched p d tx moment ≡ document e
    → (attribute (codes "_rev") e ≡ Some (text tx))
    × (attribute (codes "_updatedAt") e ≡ Some (text moment))
    × ((n : List ℕ) → is_stamp n ≡ false → attribute n e ≡ attribute n d)

-- a path without targets leaves the document, whatever is asked of it
abbrev pub NoTargetsNoChange : Type 0
NoTargetsNoChange =
    (path : List ℕ) (p : Path) (d : Tree)
    → path_verdict path ≡ spelled p
    → is_shallow d ≡ true
    → ((new : Tree)
    → made_targets p d ≡ []
    → (set_path (path, new) d ≡ document d) × (set_missing_path (path, new) d ≡ document d))
    × (place_targets p d ≡ []
    → (unset_path path d ≡ document d)
    × ((m : ℤ) → (inc_path (path, m) d ≡ document d) × (dec_path (path, m) d ≡ document d)))

-- `insert` leaves the document where its path's last step may stand there, and there are no
-- parents
abbrev pub NoParentsNoChange : Type 0
NoParentsNoChange =
    (i : Insertion) (p parents : Path) (s : Step) (d : Tree)
    → path_verdict i.path ≡ spelled p
    → reverse p ≡ s ∷ parents
    → is_misplaced s ≡ false
    → is_shallow d ≡ true
    → place_targets (reverse parents) d ≡ []
    → insert_path i d ≡ document d
