-- The tree of a value that is made of one part, and a function of a list's elements.
use Rattle.std.proofs.Common.{◌≡◌, ℕ, List, ℤ, Vec, Global, rules, sym, ap, ◌∙◌}
use Rattle.cs_value.specs.Words.{of_list}
use Rattle.cs_value.specs.Tree.{Tree, null, integer, text, list, trees}
use Rattle.cs_value.specs.View.{tree, list_tree}
use Rattle.cs_value.specs.declared.val.Val.{Val, the_lemmas}
use Rattle.cs_value.specs.declared.val.Val as val
use Rattle.cs_value.proofs.Views.{tree-List, members-trees}
use Rattle.cs_func.specs.Texts.{joined, join}

pub tree-Num : (n : ℤ) → tree (val.Num n) ≡ integer n
tree-Num n = search (rules, the_lemmas)

pub tree-Text : (s : List ℕ) → tree (val.Text s) ≡ text s
tree-Text s = search (rules, the_lemmas)

pub of_list-List : (f : List Tree → Tree) (v : Vec Val Global) → of_list f (tree (val.List v)) ≡ f (list_tree v.items)
of_list-List f v = ap (of_list f) (tree-List v) ∙ ap f (members-trees (list_tree v.items))

pub tree-Null : tree val.Null ≡ null
tree-Null = search (rules, the_lemmas)

pub join-parts : (v : Vec Val Global) (s t : List ℕ) (x y : Val) → x ≡ val.List v → y ≡ val.Text s → t ≡ s → joined t (list_tree v.items) ≡ join (tree x) (tree y)
join-parts v s t x y is-0 is-1 same =
    ap (λ (r : List ℕ). joined r (list_tree v.items)) same
    ∙ ap (joined s) (sym (members-trees (list_tree v.items)))
    ∙ sym (ap (λ (w : Tree). join w (tree y)) (ap tree is-0 ∙ tree-List v) ∙ ap (λ (w : Tree). join (list (trees (list_tree v.items))) w) (ap tree is-1 ∙ tree-Text s))
