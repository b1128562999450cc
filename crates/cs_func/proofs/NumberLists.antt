-- The rest of a list decides, with what was read so far, what the whole list gives.
use Rattle.std.proofs.Common.{◌≡◌, List, ◌∷◌, ℤ, ◌+ℤ◌, Option, Some, None, option_map, fold, ℕ, ◌+◌, ◌<◌, length, get_or, drop, refl, sym, ap, ◌∙◌}
use Rattle.std.proofs.lemmas.List.{at_drop_more}
use Rattle.cs_value.specs.Tree.{Tree, null, integer}
use Rattle.cs_value.specs.View.{tree, list_tree}
use Rattle.cs_value.specs.declared.val.Val.{Val}
use Rattle.cs_ops.specs.Arithmetic.{number}
use Rattle.cs_func.specs.Numbers.{numbers, of_numbers, picked}

abbrev pub summed : ℤ → List Tree → Tree
summed total ts = of_numbers (λ ns. number (fold ◌+ℤ◌ total ns)) (numbers ts)

abbrev pub picked_from : (ℤ → ℤ → ℤ) → Option ℤ → List ℤ → Tree
picked_from pick None ns = picked pick ns
picked_from pick (Some m) ns = integer (fold pick m ns)

abbrev pub best_from : (ℤ → ℤ → ℤ) → Option ℤ → List Tree → Tree
best_from pick best ts = of_numbers (picked_from pick best) (numbers ts)

one_more : (total n : ℤ) (found : Option (List ℤ)) → of_numbers (λ ns. number (fold ◌+ℤ◌ total ns)) (option_map (λ ns. n ∷ ns) found) ≡ of_numbers (λ ns. number (fold ◌+ℤ◌ (total +ℤ n) ns)) found
one_more total n None = refl
one_more total n (Some ns) = refl

next : (total : ℤ) (xs : List Val) (i : ℕ) (v : Val) → i < length xs → v ≡ get_or xs i v → summed total (list_tree (drop i xs)) ≡ summed total (tree v ∷ list_tree (drop (i + 1) xs))
next total xs i v l at = at_drop_more (λ ys. summed total (list_tree ys)) xs i v l ∙ ap (λ y. summed total (tree y ∷ list_tree (drop (i + 1) xs))) (sym at)

-- a null adds nothing
pub summed-null : (xs : List Val) (i : ℕ) (v : Val) (total z : ℤ) (all : Tree) → i < length xs → v ≡ get_or xs i v → tree v ≡ null → summed total (list_tree (drop i xs)) ≡ all → z ≡ total → summed z (list_tree (drop (i + 1) xs)) ≡ all
summed-null xs i v total z all l at is h same =
    let ts = list_tree (drop (i + 1) xs) in
    ap (λ y. summed y ts) same ∙ ap (λ t. summed total (t ∷ ts)) (sym is) ∙ sym (next total xs i v l at) ∙ h

-- a number adds itself
pub summed-number : (xs : List Val) (i : ℕ) (v : Val) (total n z : ℤ) (all : Tree) → i < length xs → v ≡ get_or xs i v → tree v ≡ integer n → summed total (list_tree (drop i xs)) ≡ all → z ≡ total +ℤ n → summed z (list_tree (drop (i + 1) xs)) ≡ all
summed-number xs i v total n z all l at is h same =
    let ts = list_tree (drop (i + 1) xs) in
    ap (λ y. summed y ts) same ∙ sym (one_more total n (numbers ts)) ∙ ap (λ t. summed total (t ∷ ts)) (sym is) ∙ sym (next total xs i v l at) ∙ h
