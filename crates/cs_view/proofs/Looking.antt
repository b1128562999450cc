-- What the look-ups rest on.
use Rattle.std.proofs.Common.{◌≡◌, ℕ, List, [], ◌∷◌, Vec, Global, cond, bytes_eq, refl, ap, ◌∙◌}
use Rattle.std.proofs.lemmas.Map.Text.{is_eq-slice_cmp}
use Rattle.std.specs.List.{list_any}
use Rattle.std.proofs.Math.Bool.{and-true}
use Rattle.cs_value.proofs.Views.{tree-List, members-trees}
use Rattle.cs_value.specs.Tree.{Tree}
use Rattle.cs_value.specs.View.{tree, list_tree}
use Rattle.cs_value.specs.declared.val.Val.{Val}
use Rattle.cs_value.specs.declared.val.Val as val
use Rattle.cs_view.specs.Dataset.{same_id}
use Rattle.cs_view.specs.Keys.{equals, has_element, has, having, selected}
use Rattle.cs_view.specs.declared.key.Key.{Key}
use Rattle.cs_view.specs.declared.key.Scalar.{Scalar}

pub one_id : (a b : List ℕ) → same_id a b ≡ bytes_eq a b
one_id a b = is_eq-slice_cmp a b

pub element_of_list : (s : Scalar) (v : Vec Val Global) → has_element s (tree (val.List v)) ≡ list_any (equals s) (list_tree v.items)
element_of_list s v = ap (has_element s) (tree-List v) ∙ ap (list_any (equals s)) (members-trees (list_tree v.items))

-- the documents that have the one key of a list are those that have it
pub selected_one : (k : Key) (ds : List Tree) → selected (k ∷ []) ds ≡ having k ds
selected_one k [] = refl
selected_one k (d ∷ ds) =
    ap (λ b. cond b (d ∷ selected (k ∷ []) ds) (selected (k ∷ []) ds)) (and-true (has k d))
    ∙ ap (λ es. cond (has k d) (d ∷ es) es) (selected_one k ds)

-- without a key they are all
pub selected_all : (ds : List Tree) → selected [] ds ≡ ds
selected_all [] = refl
selected_all (d ∷ ds) = ap (λ es. d ∷ es) (selected_all ds)
