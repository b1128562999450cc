-- A value that is null.
use Rattle.std.proofs.Common.{◌≡◌, refl, sym, true, true≢false, rules}
use Rattle.cs_value.specs.Tree.{Tree, null, boolean, integer, text, list, object}
use Rattle.cs_value.specs.View.{tree}
use Rattle.cs_value.specs.declared.val.Val as val
use Rattle.cs_value.specs.declared.val.Val.{the_lemmas}
use Rattle.cs_value.specs.Words.{is_null}

pub null_then : (v : Tree) → is_null v ≡ true → v ≡ null
null_then null h = refl
null_then (boolean b) h = absurd (true≢false (sym h))
null_then (integer n) h = absurd (true≢false (sym h))
null_then (text s) h = absurd (true≢false (sym h))
null_then (list ts) h = absurd (true≢false (sym h))
null_then (object ps) h = absurd (true≢false (sym h))

pub tree_of_null : tree val.Null ≡ null
tree_of_null = search (rules, the_lemmas)
