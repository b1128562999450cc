-- What is known of a document.
use Rattle.std.proofs.Common.{◌≡◌, ℕ, List, Bool, true, false, ◌&&◌, Option, Some, None, is_some, codes, refl}
use Rattle.cs_value.specs.Tree.{Tree}
use Rattle.cs_value.specs.Words.{text_at}
use Rattle.cs_view.specs.Document.{passes, is_body, is_shallow, has_text, is_document}

-- the parts of a document
pub record Parts (t : Tree) : Type 0 where
  pub body : is_body t ≡ true
  pub shallow : is_shallow t ≡ true
  pub rev : has_text (codes "_rev") t ≡ true
  pub created : has_text (codes "_createdAt") t ≡ true
  pub updated : has_text (codes "_updatedAt") t ≡ true

five : (a b c d e : Bool) → (a && b && c && d && e) ≡ true → (a ≡ true) × (b ≡ true) × (c ≡ true) × (d ≡ true) × (e ≡ true)
five true true true true true h = (refl, refl, refl, refl, refl)
five false b c d e h = cc
five true false c d e h = cc
five true true false d e h = cc
five true true true false e h = cc
five true true true true false h = cc

three : (a b c : Bool) → (a && b && c) ≡ true → (a ≡ true) × (b ≡ true) × (c ≡ true)
three true true true h = (refl, refl, refl)
three false b c h = cc
three true false c h = cc
three true true false h = cc

pub parts : (t : Tree) → is_document t ≡ true → Parts t
parts t h = let p = five _ _ _ _ _ h in record { body = p.0; shallow = p.1; rev = p.2; created = p.3; updated = p.4 }

passed : (p : List ℕ → Bool) (o : Option (List ℕ)) → passes p o ≡ true → is_some o ≡ true
passed p None h = h
passed p (Some s) h = refl

pub document_id : (t : Tree) → is_document t ≡ true → is_some (text_at (codes "_id") t) ≡ true
document_id t h = passed _ _ (three _ _ _ (parts t h).body).1

pub document_rev : (t : Tree) → is_document t ≡ true → is_some (text_at (codes "_rev") t) ≡ true
document_rev t h = (parts t h).rev

-- the parts of a document make one
pub whole : (t : Tree) → Parts t → is_document t ≡ true
whole t p = rw (p.body, p.shallow, p.rev, p.created, p.updated) refl
