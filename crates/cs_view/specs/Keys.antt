-- Keys, by which documents are looked up, and which documents have one: this project's profile.
-- Equality is that of GROQ-1.revision1, "Equality operators"; names are followed as in its
-- "Attribute access traversal".
use Rattle.std.specs.Prelude.{ℕ, Bool, true, false, ◌&&◌, ◌||◌, List, [], ◌∷◌, filter}
use Rattle.std.specs.List.{list_any}
use Rattle.std.specs.Ordering.{is_eq, bool_cmp, int_eq}
use Rattle.std.specs.Str.{bytes_eq}
use Rattle.cs_value.specs.Tree.{Tree, null, boolean, integer, text, list, object, Trees, no_trees, more_trees, Pairs, no_pairs, more_pairs, members}
use Rattle.cs_value.specs.Words.{followed, ref_of}
use Rattle.cs_view.specs.Document.{passes, id_of}
use Rattle.cs_view.specs.Dataset.{same_id}
use Rattle.cs_view.specs.declared.key.Scalar.{Scalar}
use Rattle.cs_view.specs.declared.key.Scalar.TheVariants.{Bool as Boolean, Num, Text}
use Rattle.cs_view.specs.declared.key.Key.{Key}
use Rattle.cs_view.specs.declared.key.Key.TheVariants.{All, Id, Path, Elem, Ref}

-- the value is equal to the scalar
abbrev pub equals : Scalar → Tree → Bool
equals (Boolean c) (boolean b) = is_eq (bool_cmp b c)
equals (Num n) (integer m) = int_eq m n
equals (Text t) (text s) = bytes_eq s t
equals s v = false

-- the value is a list with an element equal to the scalar
abbrev pub has_element : Scalar → Tree → Bool
has_element s (list ts) = list_any (equals s) (members ts)
has_element s v = false

-- an object at any depth, the value itself included, has the text as `_ref`
abbrev mutual
  pub has_ref : List ℕ → Tree → Bool
  has_ref target null = false
  has_ref target (boolean b) = false
  has_ref target (integer n) = false
  has_ref target (text s) = false
  has_ref target (list ts) = some_has_ref target ts
  has_ref target (object ps) =
      passes (λ s. bytes_eq s target) (ref_of ps)
      || some_pair_has_ref target ps

  pub some_has_ref : List ℕ → Trees → Bool
  some_has_ref target no_trees = false
  some_has_ref target (more_trees t ts) = has_ref target t || some_has_ref target ts

  pub some_pair_has_ref : List ℕ → Pairs → Bool
  some_pair_has_ref target no_pairs = false
  some_pair_has_ref target (more_pairs k t ps) = has_ref target t || some_pair_has_ref target ps

-- whether a document has the key
abbrev pub has : Key → Tree → Bool
has All d = true
has (Id t) d = same_id t (id_of d)
has (Path ns s) d = passes (equals s) (followed ns d)
has (Elem ns s) d = passes (has_element s) (followed ns d)
has (Ref t) d = has_ref t d

-- the documents of the dataset that have the key
abbrev pub having : Key → List Tree → List Tree
having k docs = filter (has k) docs

-- whether a document has each of the keys
abbrev pub has_all : List Key → Tree → Bool
has_all [] d = true
has_all (k ∷ ks) d = has k d && has_all ks d

-- the documents of the dataset that have each of the keys
abbrev pub selected : List Key → List Tree → List Tree
selected ks docs = filter (has_all ks) docs
