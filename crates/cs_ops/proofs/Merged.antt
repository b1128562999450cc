-- Pairs put into an object, one after the other.
use Rattle.std.proofs.Common.{◌≡◌, List, [], ◌∷◌, ◌++◌, refl}
use Rattle.cs_value.specs.Tree.{Pairs}
use Rattle.cs_value.specs.Pairs.{put}
use Rattle.cs_value.specs.View.{tree, entries_tree}
use Rattle.cs_value.proofs.Views.{Entry}
use Rattle.cs_ops.specs.Arithmetic.{merged}

pub merged-push : (ps : Pairs) (done : List Entry) (e : Entry) → merged ps (entries_tree (done ++ e ∷ [])) ≡ put e.0 (tree e.1) (merged ps (entries_tree done))
merged-push ps [] e = refl
merged-push ps (d ∷ done) e = merged-push (put d.0 (tree d.1) ps) done e
