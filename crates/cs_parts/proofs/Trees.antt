-- Trees of values that are made of one part, and lists among them.
use Rattle.std.proofs.Common.{◌≡◌, ℕ, List, [], ◌∷◌, map, Some, None, Vec, Global, Bool, rules, sym, ap, ◌∙◌}
use Rattle.std.specs.Prelude.{unwrap_or, filter_map}
use Rattle.std.specs.List.{list_any}
use Rattle.cs_ops.specs.Equal.{equal}
use Rattle.cs_ops.specs.Operators.{within}
use Rattle.cs_value.specs.Tree.{Tree, null, boolean, object}
use Rattle.cs_value.specs.Pairs.{find}
use Rattle.cs_value.specs.Words.{as_text, as_list, list_of, of_list, field}
use Rattle.cs_value.specs.View.{tree, fields}
use Rattle.cs_value.specs.declared.val.Val.{Val, the_lemmas}
use Rattle.cs_value.specs.declared.val.Val as val
use Rattle.cs_value.specs.declared.val.Fields.{Fields}
use Rattle.cs_value.proofs.Views.{tree-List, tree-Obj, members-trees}
use Rattle.cs_meaning.specs.Joining.{flat_elements}
use Rattle.cs_meaning.specs.Operators.{reference_of, reference_in, targets}

pub tree_of_null : tree val.Null ≡ null
tree_of_null = search (rules, the_lemmas)

pub tree_of_list : (v : Vec Val Global) → tree (val.List v) ≡ list_of (map tree v.items)
tree_of_list v = tree-List v

pub tree_of_object : (f : Fields) → tree (val.Obj f) ≡ object (fields f)
tree_of_object f = tree-Obj f

pub as_list_of : (ts : List Tree) → as_list (list_of ts) ≡ Some ts
as_list_of ts = ap Some (members-trees ts)

pub as_list_of_list : (v : Vec Val Global) → as_list (tree (val.List v)) ≡ Some (map tree v.items)
as_list_of_list v = ap as_list (tree-List v) ∙ as_list_of (map tree v.items)

pub as_list_of_object : (f : Fields) → as_list (tree (val.Obj f)) ≡ None
as_list_of_object f = ap as_list (tree-Obj f)

pub flat_elements_of_parts : (ts : List Tree) → flat_elements (list_of ts) ≡ ts
flat_elements_of_parts ts = members-trees ts

pub flat_elements_of_list : (v : Vec Val Global) → flat_elements (tree (val.List v)) ≡ map tree v.items
flat_elements_of_list v = ap flat_elements (tree-List v) ∙ flat_elements_of_parts (map tree v.items)

pub flat_elements_of_object : (f : Fields) → flat_elements (tree (val.Obj f)) ≡ tree (val.Obj f) ∷ []
flat_elements_of_object f = ap flat_elements (tree-Obj f) ∙ sym (ap (λ t. t ∷ []) (tree-Obj f))

pub each_of_parts : (ts : List Tree) → of_list list_of (list_of ts) ≡ list_of ts
each_of_parts ts = ap list_of (members-trees ts)

pub each_of_list : (v : Vec Val Global) → of_list list_of (tree (val.List v)) ≡ tree (val.List v)
each_of_list v = ap (of_list list_of) (tree-List v) ∙ each_of_parts (map tree v.items) ∙ sym (tree-List v)

pub each_of_object : (f : Fields) → of_list list_of (tree (val.Obj f)) ≡ null
each_of_object f = ap (of_list list_of) (tree-Obj f)

pub field_of_object : (name : List ℕ) (f : Fields) → field name (tree (val.Obj f)) ≡ unwrap_or (find name (fields f)) null
field_of_object name f = ap (field name) (tree-Obj f)

pub reference_of_object : (f : Fields) → reference_of (tree (val.Obj f)) ≡ reference_in (fields f)
reference_of_object f = ap reference_of (tree-Obj f)

pub within_parts : (v : Tree) (ts : List Tree) → within v (list_of ts) ≡ boolean (list_any (λ t. equal t v) ts)
within_parts v ts = ap (λ (us : List Tree). boolean (list_any (λ t. equal t v) us)) (members-trees ts)

pub targets_of_list : (v : Vec Val Global) → targets (tree (val.List v)) ≡ filter_map as_text (map tree v.items)
targets_of_list v = ap targets (tree-List v) ∙ ap (filter_map as_text) (members-trees (map tree v.items))

pub targets_of_parts : (ts : List Tree) → targets (list_of ts) ≡ filter_map as_text ts
targets_of_parts ts = ap (filter_map as_text) (members-trees ts)

pub tree_of_bool : (b : Bool) → tree (val.Bool b) ≡ boolean b
tree_of_bool b = search (rules, the_lemmas)
