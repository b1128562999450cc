-- Lists that are the same tree have the same elements.
use Rattle.std.proofs.Common.{◌≡◌, List, [], ap, sym, ◌∙◌}
use Rattle.cs_value.specs.Tree.{Tree, null, boolean, integer, text, list, object, members}
use Rattle.cs_value.specs.Words.{list_of}
use Rattle.cs_value.proofs.Views.{members-trees}

abbrev inside : Tree → List Tree
inside null = []
inside (boolean b) = []
inside (integer n) = []
inside (text s) = []
inside (list ts) = members ts
inside (object ps) = []

pub same-elements : (xs ys : List Tree) → list_of xs ≡ list_of ys → xs ≡ ys
same-elements xs ys h = sym (members-trees xs) ∙ ap inside h ∙ members-trees ys
