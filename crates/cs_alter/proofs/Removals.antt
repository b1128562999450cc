-- A removal at a location is one at its last part.
use Rattle.std.proofs.Common.{◌≡◌, ℕ, zero, suc, List, [], ◌∷◌, ◌++◌, nat_cmp, refl, ap, ◌∙◌}
use Rattle.std.specs.Cmp.Lexicographic.{slice_cmp}
use Rattle.std.specs.Ordering.{match_ordering}
use Rattle.cs_value.specs.Tree.{Tree, null, boolean, integer, text, list, object, Trees, no_trees, more_trees, Pairs, no_pairs, more_pairs}
use Rattle.cs_jsonmatch.specs.Places.{Location}
use Rattle.cs_jsonmatch.specs.declared.places.Part.{Part}
use Rattle.cs_jsonmatch.specs.declared.places.Part.TheVariants.{Name, Pos}
use Rattle.cs_alter.specs.Within.{update, update_pair, update_item, changed, removed, drop_member}

pair_same : (k : List ℕ) (f g : Tree → Tree) → ((t : Tree) → f t ≡ g t) → (ps : Pairs) → update_pair k f ps ≡ update_pair k g ps
pair_same k f g same no_pairs = refl
pair_same k f g same (more_pairs l t ps) =
    ap (λ qs. match_ordering (slice_cmp nat_cmp k l) (more_pairs l t qs) (more_pairs l (f t) ps) (more_pairs l t qs)) (pair_same k f g same ps)
    ∙ ap (λ u. match_ordering (slice_cmp nat_cmp k l) (more_pairs l t (update_pair k g ps)) (more_pairs l u ps) (more_pairs l t (update_pair k g ps))) (same t)

item_same : (k : ℕ) (f g : Tree → Tree) → ((t : Tree) → f t ≡ g t) → (ts : Trees) → update_item k f ts ≡ update_item k g ts
item_same k f g same no_trees = refl
item_same zero f g same (more_trees t ts) = ap (λ u. more_trees u ts) (same t)
item_same (suc k) f g same (more_trees t ts) = ap (more_trees t) (item_same k f g same ts)

update_same : (x : Part) (f g : Tree → Tree) → ((t : Tree) → f t ≡ g t) → (t : Tree) → update x f t ≡ update x g t
update_same (Name n) f g same null = refl
update_same (Name n) f g same (boolean b) = refl
update_same (Name n) f g same (integer m) = refl
update_same (Name n) f g same (text s) = refl
update_same (Name n) f g same (list ts) = refl
update_same (Name n) f g same (object ps) = ap object (pair_same n f g same ps)
update_same (Pos k) f g same null = refl
update_same (Pos k) f g same (boolean b) = refl
update_same (Pos k) f g same (integer m) = refl
update_same (Pos k) f g same (text s) = refl
update_same (Pos k) f g same (list ts) = ap list (item_same k f g same ts)
update_same (Pos k) f g same (object ps) = refl

pub removed_last : (l : Location) (x : Part) (t : Tree) → changed l (drop_member x) t ≡ removed (l ++ x ∷ []) t
removed_last [] x t = refl
removed_last (y ∷ []) x t = update_same y (changed [] (drop_member x)) (removed (x ∷ [])) (removed_last [] x) t
removed_last (y ∷ z ∷ l) x t = update_same y (changed (z ∷ l) (drop_member x)) (removed (z ∷ l ++ x ∷ [])) (removed_last (z ∷ l) x) t
