-- Whether a value refers to a document: GROQ-1.revision1, "references()". Nothing inside an object
-- that has a text `_ref` is looked at: this project's profile.
use Rattle.std.specs.Prelude.{ℕ, List, Bool, false, ◌||◌, Option, Some, None}
use Rattle.std.specs.List.{list_any}
use Rattle.std.specs.Str.{bytes_eq}
use Rattle.cs_value.specs.Tree.{Tree, null, boolean, integer, text, list, object, Trees, no_trees, more_trees, Pairs, no_pairs, more_pairs}
use Rattle.cs_value.specs.Words.{ref_of}

-- whether an object's reference is the target; without a reference, whether something inside refers
-- to it
abbrev pub reference_or : Bool → List ℕ → Option (List ℕ) → Bool
reference_or inside target None = inside
reference_or inside target (Some s) = bytes_eq s target

abbrev mutual
  pub refers : List ℕ → Tree → Bool
  refers target null = false
  refers target (boolean b) = false
  refers target (integer n) = false
  refers target (text s) = false
  refers target (list ts) = some_refers target ts
  refers target (object ps) =
      reference_or (some_pair_refers target ps) target
      (ref_of ps)

  pub some_refers : List ℕ → Trees → Bool
  some_refers target no_trees = false
  some_refers target (more_trees t ts) = refers target t || some_refers target ts

  pub some_pair_refers : List ℕ → Pairs → Bool
  some_pair_refers target no_pairs = false
  some_pair_refers target (more_pairs k t ps) = refers target t || some_pair_refers target ps

-- the same of one of several targets, as one walk finds it
abbrev pub reference_among_or : Bool → List (List ℕ) → Option (List ℕ) → Bool
reference_among_or inside targets None = inside
reference_among_or inside targets (Some s) = list_any (bytes_eq s) targets

abbrev mutual
  pub refers_to_one : List (List ℕ) → Tree → Bool
  refers_to_one targets null = false
  refers_to_one targets (boolean b) = false
  refers_to_one targets (integer n) = false
  refers_to_one targets (text s) = false
  refers_to_one targets (list ts) = some_refers_to_one targets ts
  refers_to_one targets (object ps) =
      reference_among_or (some_pair_refers_to_one targets ps) targets
      (ref_of ps)

  pub some_refers_to_one : List (List ℕ) → Trees → Bool
  some_refers_to_one targets no_trees = false
  some_refers_to_one targets (more_trees t ts) =
      refers_to_one targets t || some_refers_to_one targets ts

  pub some_pair_refers_to_one : List (List ℕ) → Pairs → Bool
  some_pair_refers_to_one targets no_pairs = false
  some_pair_refers_to_one targets (more_pairs k t ps) =
      refers_to_one targets t || some_pair_refers_to_one targets ps
