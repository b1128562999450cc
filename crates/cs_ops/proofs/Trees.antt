-- The tree of a value that is made of one part.
use Rattle.std.proofs.Common.{◌≡◌, Bool, rules}
use Rattle.cs_value.specs.Tree.{boolean}
use Rattle.cs_value.specs.View.{tree}
use Rattle.cs_value.specs.declared.val.Val.{the_lemmas}
use Rattle.cs_value.specs.declared.val.Val as val

pub tree-Bool : (b : Bool) → tree (val.Bool b) ≡ boolean b
tree-Bool b = search (rules, the_lemmas)
