-- A value that is pushed at the end of a list stands before what is still to come.
use Rattle.std.proofs.Common.{◌≡◌, List, [], ◌∷◌, ◌++◌, append_assoc, refl, ap, ◌∙◌}
use Rattle.cs_value.specs.Tree.{Tree}
use Rattle.cs_value.specs.View.{tree, list_tree}
use Rattle.cs_value.specs.declared.val.Val.{Val}

list_tree-push : (kept : List Val) (v : Val) → list_tree (kept ++ v ∷ []) ≡ list_tree kept ++ tree v ∷ []
list_tree-push [] v = refl
list_tree-push (k ∷ kept) v = ap (λ ts. tree k ∷ ts) (list_tree-push kept v)

pub push-last : (kept : List Val) (v : Val) (t : Tree) (all : List Tree) → tree v ≡ t → list_tree kept ++ t ∷ [] ≡ all → list_tree (kept ++ v ∷ []) ≡ all
push-last kept v t all is h = list_tree-push kept v ∙ ap (λ x. list_tree kept ++ x ∷ []) is ∙ h

pub push-front : (kept : List Val) (v : Val) (t : Tree) (rest all : List Tree) → tree v ≡ t → list_tree kept ++ t ∷ rest ≡ all → list_tree (kept ++ v ∷ []) ++ rest ≡ all
push-front kept v t rest all is h = ap (λ ts. ts ++ rest) (list_tree-push kept v) ∙ append_assoc (list_tree kept) (tree v ∷ []) rest ∙ ap (λ x. list_tree kept ++ x ∷ rest) is ∙ h
