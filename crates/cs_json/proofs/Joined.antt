-- The text of a list is what the texts of its values are joined to.
use Rattle.std.proofs.Common.{◌≡◌, ◌∙◌, ℕ, ◌<◌, ◌+◌, Bool, true, List, [], ◌∷◌, ◌++◌, map, length, drop, get_or, refl, sym, ap, append_assoc}
use Rattle.std.proofs.lemmas.List.{drop_more}
use Rattle.serde_json.specs.Written.{comma_if, compact_text, items_text}
use Rattle.cs_value.specs.Tree.{Tree, trees}
use Rattle.cs_json.specs.Text.{data_of, items_of, items_joined, json_text}

-- one text more
pub joined-more : {T : Type 0} (f : T → List ℕ) (out new : List ℕ) (later : Bool) (xs : List T) (i : ℕ) (x d : T) → i < length xs → x ≡ get_or xs i d → new ≡ out ++ (comma_if later ++ f x)
    → new ++ items_joined true (map f (drop (i + 1) xs)) ≡ out ++ items_joined later (map f (drop i xs))
joined-more f out new later xs i x d low at is =
    let rest = items_joined true (map f (drop (i + 1) xs)) in
    let more : drop i xs ≡ x ∷ drop (i + 1) xs = drop_more xs i d low ∙ ap (λ y. y ∷ drop (i + 1) xs) (sym at) in
    ap (λ l. l ++ rest) is
    ∙ append_assoc out (comma_if later ++ f x) rest
    ∙ ap (λ l. out ++ l) (append_assoc (comma_if later) (f x) rest)
    ∙ ap (λ ys. out ++ items_joined later (map f ys)) (sym more)

pub joined-texts : (later : Bool) (ts : List Tree) → items_joined later (map json_text ts) ≡ items_text later (items_of (trees ts))
unfolding json_text
joined-texts later [] = refl
joined-texts later (t ∷ ts) = ap (λ r. comma_if later ++ (compact_text (data_of t) ++ r)) (joined-texts true ts)
