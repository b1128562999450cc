-- A write at a position of a list.
use Rattle.std.proofs.Common.{◌≡◌, ℕ, zero, suc, ◌<◌, ◌≤◌, length, get_or, set, List, [], ◌∷◌, Option, Some, None, Bor, is_some, option_map, ltb, refl, ap, ◌∙◌, arith}
use Rattle.cs_value.specs.Tree.{Tree, list, object, Trees, Pairs, trees, more_trees}
use Rattle.cs_value.specs.View.{tree, list_tree}
use Rattle.cs_value.specs.declared.val.Val.{Val}
use Rattle.cs_alter.specs.Within.{update_item, update_pair, changed, nth, drop_item}
use Rattle.std.specs.Prelude.{IfSome}
use Rattle.std.specs.List.{remove}
use Rattle.std.proofs.lemmas.Bool.Decides.{nat_tests}
use Rattle.cs_jsonmatch.specs.Places.{Location}
use Rattle.cs_jsonmatch.specs.declared.places.Part.TheVariants.{Name, Pos}

pub update_item-set : (xs : List Val) (i : ℕ) (f : Tree → Tree) (d w : Val) → i < length xs → tree w ≡ f (tree (get_or xs i d)) → trees (list_tree (set xs i w)) ≡ update_item i f (trees (list_tree xs))
update_item-set [] i f d w h is = absurd (omega arith)
update_item-set (x ∷ xs) zero f d w h is = ap (λ t. more_trees t (trees (list_tree xs))) is
update_item-set (x ∷ xs) (suc i) f d w h is = ap (more_trees (tree x)) (update_item-set xs i f d w (omega arith) is)

pub update_item-none : (xs : List Val) (i : ℕ) (f : Tree → Tree) → length xs ≤ i → trees (list_tree xs) ≡ update_item i f (trees (list_tree xs))
update_item-none [] i f h = refl
update_item-none (x ∷ xs) zero f h = absurd (omega arith)
update_item-none (x ∷ xs) (suc i) f h = ap (more_trees (tree x)) (update_item-none xs i f (omega arith))

pub member_step : (place : Location) (n : List ℕ) (rest : Location) (f : Tree → Tree) (ps qs : Pairs) → place ≡ Name n ∷ rest → qs ≡ update_pair n (changed rest f) ps → object qs ≡ changed place f (object ps)
member_step place n rest f ps qs e h = rw e (ap object h)

pub item_step : (place : Location) (i : ℕ) (rest : Location) (f : Tree → Tree) (ts us : Trees) → place ≡ Pos i ∷ rest → us ≡ update_item i (changed rest f) ts → list us ≡ changed place f (list ts)
item_step place i rest f ts us e h = rw e (ap list h)

nth-past : (xs : List Val) (k : ℕ) → length xs ≤ k → None ≡ nth k (trees (list_tree xs))
nth-past [] k h = refl
nth-past (x ∷ xs) zero h = absurd (omega arith)
nth-past (x ∷ xs) (suc k) h = nth-past xs k (omega arith)

nth-at : (xs : List Val) (k : ℕ) (d : Val) → k < length xs → Some (tree (get_or xs k d)) ≡ nth k (trees (list_tree xs))
nth-at [] k d h = absurd (omega arith)
nth-at (x ∷ xs) zero d h = refl
nth-at (x ∷ xs) (suc k) d h = nth-at xs k d (omega arith)

-- what `get` hands out
pub got : (r : Option (Bor Val)) (ys xs : List Val) (k : ℕ) → ys ≡ xs → is_some r ≡ ltb k (length ys) → IfSome r (λ x. x.now ≡ get_or ys k x.now) → option_map (λ v. tree v.now) r ≡ nth k (trees (list_tree xs))
got None ys xs k e h f =
    let past : length ys ≤ k = grind (arith, nat_tests) in
    nth-past ys k past ∙ ap (λ zs. nth k (trees (list_tree zs))) e
got (Some x) ys xs k e h f =
    let here : k < length ys = grind (arith, nat_tests) in
    ap (λ v. Some (tree v)) f ∙ nth-at ys k x.now here ∙ ap (λ zs. nth k (trees (list_tree zs))) e

-- an element taken out
pub drop_item-remove : (xs : List Val) (i : ℕ) → i < length xs → trees (list_tree (remove xs i)) ≡ drop_item i (trees (list_tree xs))
drop_item-remove [] i h = absurd (omega arith)
drop_item-remove (x ∷ xs) zero h = refl
drop_item-remove (x ∷ xs) (suc i) h = ap (more_trees (tree x)) (drop_item-remove xs i (omega arith))

pub drop_item-none : (xs : List Val) (i : ℕ) → length xs ≤ i → trees (list_tree xs) ≡ drop_item i (trees (list_tree xs))
drop_item-none [] i h = refl
drop_item-none (x ∷ xs) zero h = absurd (omega arith)
drop_item-none (x ∷ xs) (suc i) h = ap (more_trees (tree x)) (drop_item-none xs i (omega arith))
