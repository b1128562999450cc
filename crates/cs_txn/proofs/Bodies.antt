-- What becomes of a body is a document of the same id.
use Rattle.std.proofs.Common.{◌≡◌, ℕ, List, [], length, nat_lt, Bool, true, false, ◌&&◌, cond, is_some, option_and_then, unwrap_or, codes, refl, sym, ap, subst, ◌∙◌}
use Rattle.cs_value.specs.Tree.{Tree, text, object, Pairs}
use Rattle.cs_value.specs.Pairs.{put}
use Rattle.cs_value.specs.Id.{is_id}
use Rattle.cs_value.specs.Words.{is_object, as_text}
use Rattle.cs_view.specs.Document.{passes, is_document, is_body, is_shallow, has_id, has_type, has_text, id_of}
use Rattle.cs_patch.specs.Patched.{stamped}
use Rattle.cs_patch.proofs.Fixed.{other-put, same-put, shallow-put}
use Rattle.cs_patch.proofs.Stamped.{pairs_of, stamped-body}
use Rattle.cs_txn.specs.Install.{entered}

three : (a b c : Bool) → (a && b && c) ≡ true → (a ≡ true) × (b ≡ true) × (c ≡ true)
three true true true h = (refl, refl, refl)
three false b c h = cc
three true false c h = cc
three true true false h = cc

all_three : (a b c : Bool) → a ≡ true → b ≡ true → c ≡ true → (a && b && c) ≡ true
all_three a b c g h i = rw (g, h, i) refl

-- a document of the id
abbrev IsDocumentOf : List ℕ → Tree → Type 0
IsDocumentOf id e = (is_document e ≡ true) × (id_of e ≡ id)

-- with a moment of creation put there
dated : (ps : Pairs) (tx moment : List ℕ) → is_body (object ps) ≡ true
    → is_shallow (object ps) ≡ true
    → IsDocumentOf (id_of (object ps))
    (stamped tx moment (object (put (codes "_createdAt") (text moment) ps)))
dated ps tx moment body shallow =
    let qs = put (codes "_createdAt") (text moment) ps in
    let b = three true (has_id (object ps)) (has_type (object ps)) body in
    let id = other-put (codes "_id") (codes "_createdAt") (text moment) ps refl in
    let type = other-put (codes "_type") (codes "_createdAt") (text moment) ps refl in
    let s = stamped-body qs tx moment
    (all_three true (has_id (object qs)) (has_type (object qs)) refl
    (ap (λ a. passes is_id (option_and_then as_text a)) id ∙ b.1)
    (ap (λ a. passes (λ s. nat_lt 0 (length s)) (option_and_then as_text a)) type ∙ b.2))
    (shallow-put (codes "_createdAt") moment ps shallow)
    (ap (λ a. is_some (option_and_then as_text a)) (same-put (codes "_createdAt") (text moment)
    ps)) in
    (s.0, s.1 ∙ ap (λ a. unwrap_or (option_and_then as_text a) []) id)

entered_object : (ps : Pairs) (tx moment : List ℕ) → is_body (object ps) ≡ true
    → is_shallow (object ps) ≡ true
    → IsDocumentOf (id_of (object ps)) (entered tx moment (object ps))
entered_object ps tx moment body shallow =
    elim (has_text (codes "_createdAt") (object ps)) as (λ b.
    has_text (codes "_createdAt") (object ps) ≡ b
    → IsDocumentOf (id_of (object ps)) (stamped tx moment (cond b (object ps)
    (object (put (codes "_createdAt") (text moment) ps))))) [
      | true ↦ λ h. stamped-body ps tx moment body shallow h
      | false ↦ λ h. dated ps tx moment body shallow
    ] refl

pub entered-document : (tx moment : List ℕ) (t : Tree) → is_body t ≡ true → is_shallow t ≡ true
    → (is_document (entered tx moment t) ≡ true) × (id_of (entered tx moment t) ≡ id_of t)
entered-document tx moment t body shallow =
    let o = pairs_of t (three (is_object t) (has_id t) (has_type t) body).0 in
    subst (λ u. IsDocumentOf (id_of u) (entered tx moment u)) (sym o.1)
    (entered_object o.0 tx moment (subst (λ u. is_body u ≡ true) o.1 body)
    (subst (λ u. is_shallow u ≡ true) o.1 shallow))
