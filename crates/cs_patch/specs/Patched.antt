-- The outcome of a patch, the new document or the first refusal: Sanity's HTTP documentation,
-- "Patches". The order of the operations is this project's profile.
use Rattle.std.specs.Prelude.{ℕ, ℤ, List, [], ◌∷◌, ◌++◌, map, cond, Option, Some, None, bytes_eq, codes, option_map}
use Rattle.std.specs.Option.{option_to_list}
use Rattle.cs_value.specs.Tree.{Tree, text, object}
use Rattle.cs_value.specs.Pairs.{put}
use Rattle.cs_view.specs.Document.{rev_of}
use Rattle.cs_jsonmatch.specs.Verdict.{PathReading, spelled, bad_path, path_verdict}
use Rattle.cs_targets.specs.Targets.{if_some}
use Rattle.cs_patch.specs.Operations.{Refusal, revision, no_path, Outcome, document, refused, and_then, Insertion, set_path, set_missing_path, unset_path, inc_path, dec_path, insert_path}

-- A patch: the paths of each operation as texts, in the order of their bytes, those of `unset` in
-- the order of their list.
pub record Patch : Type 0 where
  pub if_revision : Option (List ℕ)
  pub set_if_missing : List (List ℕ × Tree)
  pub set : List (List ℕ × Tree)
  pub unset : List (List ℕ)
  pub inc : List (List ℕ × ℤ)
  pub dec : List (List ℕ × ℤ)
  pub insert : Option Insertion

-- the texts of its paths, in the order of the operations
abbrev pub paths : Patch → List (List ℕ)
paths p =
    map (λ e. e.0) p.set_if_missing
    ++ map (λ e. e.0) p.set
    ++ p.unset
    ++ map (λ e. e.0) p.inc
    ++ map (λ e. e.0) p.dec
    ++ option_to_list (option_map (λ i. i.path) p.insert)

abbrev pub fault_of : List ℕ → PathReading → Option Refusal
fault_of path (spelled p) = None
fault_of path (bad_path place) = Some (no_path path place)

-- the first text that is no path
abbrev pub first_fault : List (List ℕ) → Option Refusal
first_fault [] = None
first_fault (path ∷ more) = if_some Some (first_fault more) (fault_of path (path_verdict path))

-- the paths of an operation, each on the outcome of the one before
abbrev pub in_turn : {A : Type 0} → (A → Tree → Outcome) → List A → Tree → Outcome
in_turn f [] v = document v
in_turn f (a ∷ more) v = and_then (in_turn f more) (f a v)

abbrev pub maybe_insert : Option Insertion → Tree → Outcome
maybe_insert None v = document v
maybe_insert (Some i) v = insert_path i v

-- setIfMissing, set, unset, inc, dec, insert, each on the outcome of the one before
abbrev pub operations : Patch → Tree → Outcome
operations p v =
    and_then (maybe_insert p.insert)
    (and_then (in_turn dec_path p.dec)
    (and_then (in_turn inc_path p.inc)
    (and_then (in_turn unset_path p.unset)
    (and_then (in_turn set_path p.set)
    (in_turn set_missing_path p.set_if_missing v)))))

-- the document with the transaction as `_rev` and the moment as `_updatedAt`
abbrev pub stamped : List ℕ → List ℕ → Tree → Tree
stamped tx moment (object ps) =
    object (put (codes "_updatedAt") (text moment) (put (codes "_rev") (text tx) ps))
stamped tx moment t = t

abbrev pub revision_refusal : Option (List ℕ) → List ℕ → Option Refusal
revision_refusal None found = None
revision_refusal (Some expected) found =
    cond (bytes_eq expected found) None (Some (revision expected found))

-- the document after the operations, with its new revision and moment
abbrev pub worked : Patch → Tree → List ℕ → List ℕ → Outcome
worked p v tx moment = and_then (λ t. document (stamped tx moment t)) (operations p v)

-- the expected revision is asked for first
abbrev pub patched : Patch → Tree → List ℕ → List ℕ → Outcome
patched p v tx moment =
    if_some refused (worked p v tx moment) (revision_refusal p.if_revision (rev_of v))
