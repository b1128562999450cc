-- The texts of the replies with the answer of a live query and with what a query found, in the
-- parts in which they are written.
use Rattle.std.proofs.Common.{◌≡◌, ℕ, List, [], ◌∷◌, ◌++◌, codes, refl, sym, append_assoc, ℤ, pos, negsuc}
use Rattle.std.specs.Fmt.{signed_decimal}
use Rattle.json.specs.Print.{escape_byte}
use Rattle.cs_value.specs.Tree.{Tree, integer, text}
use Rattle.cs_json.specs.Text.{json_text}
use Rattle.cs_reply.specs.Fields.{number}
use Rattle.cs_reply.specs.Reply.{found, live, reply_tree}
use Rattle.cs_reply.specs.View.{before_answer, before_result}

in-a-row : (n s a : List ℕ)
    → (codes "{\"line\":" ++ n ++ codes ",\"live\":" ++ s ++ codes ",\"result\":") ++ (a ++ 125 ∷ [])
    ≡ codes "{\"line\":" ++ (n ++ (codes ",\"live\":" ++ (s ++ (codes ",\"result\":" ++ (a ++ 125 ∷ [])))))
in-a-row n s a = simp append_assoc

pub live-text : (n : ℕ) (name : List ℕ) (t : Tree) → json_text (reply_tree n (live name t)) ≡ before_answer n name ++ (json_text t ++ 125 ∷ [])
unfolding json_text escape_byte
live-text n name t = sym (in-a-row (json_text (number n)) (json_text (text name)) (json_text t))

pub line-ends : (out before answer : List ℕ) → ((out ++ before) ++ answer) ++ 125 ∷ 10 ∷ [] ≡ out ++ ((before ++ (answer ++ 125 ∷ [])) ++ 10 ∷ [])
line-ends out before answer = simp append_assoc

found-in-a-row : (n a : List ℕ)
    → (codes "{\"line\":" ++ n ++ codes ",\"result\":") ++ (a ++ 125 ∷ [])
    ≡ codes "{\"line\":" ++ (n ++ (codes ",\"result\":" ++ (a ++ 125 ∷ [])))
found-in-a-row n a = simp append_assoc

pub found-text : (n : ℕ) (t : Tree) → json_text (reply_tree n (found t)) ≡ before_result n ++ (json_text t ++ 125 ∷ [])
unfolding json_text escape_byte
found-text n t = sym (found-in-a-row (json_text (number n)) (json_text t))

pub integer-text : (n : ℤ) → signed_decimal n ≡ json_text (integer n)
unfolding json_text
integer-text (pos n) = refl
integer-text (negsuc n) = refl
