-- The text of the reply to a transaction that was accepted, in the parts in which it is written.
use Rattle.std.proofs.Common.{◌≡◌, ◌∙◌, ℕ, List, [], ◌∷◌, ◌++◌, map, codes, false, refl, sym, ap, append_assoc}
use Rattle.json.specs.Print.{escape_byte}
use Rattle.cs_value.specs.Tree.{text}
use Rattle.cs_json.specs.Text.{items_joined, json_text}
use Rattle.cs_json.proofs.Joined.{joined-texts}
use Rattle.cs_reply.specs.Fields.{number}
use Rattle.cs_reply.specs.Reply.{Operation, create, update, delete, committed, operation_word, outcome, reply_tree}

-- of one document
pub outcome-text : (id : List ℕ) (o : Operation) → json_text (outcome (id, o))
    ≡ codes "{\"id\":" ++ (json_text (text id) ++ (codes ",\"operation\":\"" ++ (operation_word o ++ codes "\"}")))
unfolding json_text escape_byte
outcome-text id create = refl
outcome-text id update = refl
outcome-text id delete = refl

pub five-parts : (out a b c d e : List ℕ) → ((((out ++ a) ++ b) ++ c) ++ d) ++ e ≡ out ++ (a ++ (b ++ (c ++ (d ++ e))))
five-parts out a b c d e = simp append_assoc

-- of all
texts : (os : List (List ℕ × Operation)) → map (λ o. json_text (outcome o)) os ≡ map json_text (map outcome os)
texts [] = refl
texts (o ∷ os) = ap (λ ts. json_text (outcome o) ∷ ts) (texts os)

abbrev rest : (tx : List ℕ) → List ℕ
rest tx = codes ",\"transactionId\":" ++ (json_text (text tx) ++ 125 ∷ [])

pub committed-text : (n : ℕ) (tx : List ℕ) (os : List (List ℕ × Operation)) → json_text (reply_tree n (committed tx os))
    ≡ codes "{\"line\":" ++ (json_text (number n) ++ (codes ",\"results\":[" ++ (items_joined false (map (λ o. json_text (outcome o)) os) ++ rest tx)))
unfolding json_text escape_byte
committed-text n tx os = ap (λ l. codes "{\"line\":" ++ (json_text (number n) ++ (codes ",\"results\":[" ++ (l ++ rest tx))))
    (sym (ap (items_joined false) (texts os) ∙ joined-texts false (map outcome os)))

pub line-ends : (out a b c d e f : List ℕ)
    → ((((((out ++ a) ++ b) ++ c) ++ d) ++ e) ++ f) ++ 125 ∷ 10 ∷ []
    ≡ out ++ ((a ++ (b ++ (c ++ (d ++ (e ++ (f ++ 125 ∷ [])))))) ++ 10 ∷ [])
line-ends out a b c d e f = simp append_assoc

pub map-both : {A B C : Type 0} (f : B → C) (g : A → B) (xs : List A) → map (λ x. f (g x)) xs ≡ map f (map g xs)
map-both f g [] = refl
map-both f g (x ∷ xs) = ap (λ ys. f (g x) ∷ ys) (map-both f g xs)
