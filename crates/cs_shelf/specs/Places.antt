-- Documents at places, and the places of ids. For private clauses.
use Rattle.std.specs.Prelude.{◌≡◌, ◌<◌, ℕ, List, map, Option, Some, None, option_map}
use Rattle.std.specs.BTreeMap.{BTreeMap, get}
use Rattle.slab.specs.Slab as slab
use Rattle.slab.specs.Slab.{Slab}
use Rattle.cs_value.specs.Tree.{Tree, null}
use Rattle.cs_view.specs.Document.{id_of}
use Rattle.cs_view.specs.Dataset.{id_cmp}
use Rattle.cs_view.specs.View.{document_of}
use Rattle.cs_view.specs.declared.doc.Doc.{Doc}

abbrev pub Store : Type 0
Store = Slab Doc

abbrev pub Order : Type 0
Order = BTreeMap (List ℕ) ℕ

-- the document at a place
abbrev pub tree_at : Store → ℕ → Option Tree
tree_at s p = option_map document_of (slab.get s p)

abbrev pub found : Store → Option ℕ → Option Tree
found s None = None
found s (Some p) = tree_at s p

-- at the place of each id stands a document with this id
abbrev pub IsSound : Store → Order → Type 0
IsSound s m = (x : List ℕ) (p : ℕ) → get id_cmp m x ≡ Some p
    → option_map id_of (tree_at s p) ≡ Some x

-- each document's id is entered with the document's place
abbrev pub IsEntered : Store → Order → Type 0
IsEntered s m = (p : ℕ) (t : Tree) → tree_at s p ≡ Some t → get id_cmp m (id_of t) ≡ Some p

abbrev pub or_null : Option Tree → Tree
or_null None = null
or_null (Some t) = t

-- the documents at the places of these ids
abbrev pub trees_at : Store → List (List ℕ × ℕ) → List Tree
trees_at s es = map (λ e. or_null (tree_at s e.1)) es

-- the places are below this number, so that two shelves' places can stand side by side in 32 bits
abbrev pub most_places : ℕ
most_places = 2147483648

abbrev pub AreLow : Order → Type 0
AreLow m = (x : List ℕ) (p : ℕ) → get id_cmp m x ≡ Some p → p < most_places

-- the places of the one are places of the other
abbrev pub StandIn : Order → Order → Type 0
StandIn m n = (x : List ℕ) (p : ℕ) → get id_cmp m x ≡ Some p → get id_cmp n x ≡ Some p
