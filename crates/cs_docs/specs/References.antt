-- References between documents: Sanity's documentation, "Reference"; which of them are strong is
-- this project's profile.
use Rattle.std.specs.Prelude.{ℕ, List, [], ◌∷◌, ◌++◌, map, Bool, false, not, ◌||◌, cond, is_some, Option, option_and_then, unwrap_or, codes}
use Rattle.std.specs.List.{filter, list_all}
use Rattle.std.specs.Option.{option_to_list}
use Rattle.cs_value.specs.Tree.{Tree, null, boolean, integer, text, list, object, Trees, no_trees, more_trees, Pairs, no_pairs, more_pairs}
use Rattle.cs_value.specs.Pairs.{find}
use Rattle.cs_value.specs.Words.{as_boolean, ref_of, first_of}
use Rattle.cs_view.specs.Document.{id_of}
use Rattle.cs_view.specs.Dataset.{stands}

-- whether the boolean true is there
abbrev pub is_yes : Option Tree → Bool
is_yes t = unwrap_or (option_and_then as_boolean t) false

-- the target of an object that is a strong reference: one with a text `_ref`, with no
-- `_dataset`, and whose `_weak` is not true
abbrev pub own_target : Pairs → List (List ℕ)
own_target ps =
    cond (is_some (find (codes "_dataset") ps) || is_yes (find (codes "_weak") ps))
    [] (option_to_list (ref_of ps))

-- the strong targets in a value, in document order: an object before what is inside it
abbrev mutual
  pub strong : Tree → List (List ℕ)
  strong null = []
  strong (boolean b) = []
  strong (integer n) = []
  strong (text s) = []
  strong (list ts) = strong_items ts
  strong (object ps) = own_target ps ++ strong_pairs ps

  pub strong_items : Trees → List (List ℕ)
  strong_items no_trees = []
  strong_items (more_trees t ts) = strong t ++ strong_items ts

  pub strong_pairs : Pairs → List (List ℕ)
  strong_pairs no_pairs = []
  strong_pairs (more_pairs k t ps) = strong t ++ strong_pairs ps

-- the strong targets of a document that no document has as its id
abbrev pub missing : List Tree → Tree → List (List ℕ)
missing docs d = filter (λ t. not (stands t docs)) (strong d)

-- each strong target of a dataset is the id of a document of it
abbrev pub clean : List Tree → Bool
clean docs = list_all (λ d. list_all (λ t. stands t docs) (strong d)) docs

-- each document's id with each of its missing targets
abbrev pub dangling_in : List Tree → List Tree → List (List ℕ × List ℕ)
dangling_in docs [] = []
dangling_in docs (d ∷ ds) = map (λ t. (id_of d, t)) (missing docs d) ++ dangling_in docs ds

-- the first dangling reference of a dataset: by the referrer's id, and then in document order
abbrev pub first_dangling : List Tree → Option (List ℕ × List ℕ)
first_dangling docs = first_of (dangling_in docs docs)
