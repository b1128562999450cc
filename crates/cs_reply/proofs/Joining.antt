-- The text of an object is what the texts of its attributes are joined to.
use Rattle.std.proofs.Common.{◌≡◌, ◌∙◌, ℕ, ◌<◌, ◌+◌, Bool, true, false, List, [], ◌∷◌, ◌++◌, map, length, drop, get_or, refl, sym, ap, append_assoc}
use Rattle.std.proofs.lemmas.List.{drop_more}
use Rattle.serde_json.specs.Written.{comma_if, members_text}
use Rattle.cs_value.specs.Tree.{Tree, object, text, pairs}
use Rattle.cs_json.specs.Text.{members_of, json_text}
use Rattle.cs_reply.specs.View.{member_text, members_joined}

-- one attribute more
pub members-more : {T : Type 0} (f : T → List ℕ × Tree) (out new : List ℕ) (later : Bool) (xs : List T) (i : ℕ) (x d : T) → i < length xs → x ≡ get_or xs i d → new ≡ out ++ (comma_if later ++ member_text (f x))
    → new ++ members_joined true (map f (drop (i + 1) xs)) ≡ out ++ members_joined later (map f (drop i xs))
members-more f out new later xs i x d low at is =
    let rest = members_joined true (map f (drop (i + 1) xs)) in
    let more : drop i xs ≡ x ∷ drop (i + 1) xs = drop_more xs i d low ∙ ap (λ y. y ∷ drop (i + 1) xs) (sym at) in
    ap (λ l. l ++ rest) is
    ∙ append_assoc out (comma_if later ++ member_text (f x)) rest
    ∙ ap (λ l. out ++ l) (append_assoc (comma_if later) (member_text (f x)) rest)
    ∙ ap (λ ys. out ++ members_joined later (map f ys)) (sym more)

all-joined : (later : Bool) (ms : List (List ℕ × Tree)) → members_joined later ms ≡ members_text later (members_of (pairs ms))
unfolding json_text
all-joined later [] = refl
all-joined later (m ∷ ms) =
    ap (λ r. comma_if later ++ (member_text m ++ r)) (all-joined true ms)
    ∙ ap (λ r. comma_if later ++ r) (append_assoc (json_text (text m.0)) (58 ∷ json_text m.1) (members_text true (members_of (pairs ms))))

pub object-text : (ms : List (List ℕ × Tree)) → 123 ∷ members_joined false ms ≡ json_text (object (pairs ms))
unfolding json_text
object-text ms = ap (λ l. 123 ∷ l) (all-joined false ms)

pub line-of : (out joined : List ℕ) → ((out ++ 123 ∷ []) ++ joined) ++ 10 ∷ [] ≡ out ++ ((123 ∷ joined) ++ 10 ∷ [])
line-of out joined = simp append_assoc
