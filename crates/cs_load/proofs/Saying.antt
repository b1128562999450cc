-- What a line of a data file says.
use Rattle.std.proofs.Common.{◌≡◌, ◌∙◌, ap, sym, subst, refl, ℕ, List, length, Bool, true, false, cond, if◌then◌else◌, Some, None, ◌==◌, arith}
use Rattle.std.proofs.lemmas.Bool.Decides.{nat_tests}
use Rattle.cs_value.specs.Tree.{Tree}
use Rattle.cs_json.specs.Reading.{value, outcome}
use Rattle.cs_view.specs.Document.{is_body, id_of, deepest_document}
use Rattle.cs_view.specs.Dataset.{stands}
use Rattle.cs_wire.specs.Blank.{is_blank_line}
use Rattle.cs_reply.specs.Stated.{repeated, full}
use Rattle.cs_machine.specs.DataFile.{nothing, a_document, refused, imported, of_body, of_outcome, said}
use Rattle.cs_docs.specs.Limits.{most_documents}
use Rattle.cs_load.specs.Refusals.{IsRefused}
use Rattle.cs_load.specs.declared.refusal.LineRefusal.{LineRefusal}

-- the id that a body gives
pub id_given : (b : Bool) (id given : List ℕ) → Some given ≡ cond b (Some id) None → (b ≡ true) × (given ≡ id)
id_given true id given h = (refl, cc)
id_given false id given h = cc

pub body_repeated : (docs : List Tree) (t : Tree) (id : List ℕ) → is_body t ≡ true → stands (id_of t) docs ≡ true → id ≡ id_of t → of_body docs t ≡ refused (repeated id)
body_repeated docs t id b s e = rw (b, s, e) refl

pub body_full : (docs : List Tree) (t : Tree) → is_body t ≡ true → stands (id_of t) docs ≡ false → length docs ≡ most_documents → of_body docs t ≡ refused full
body_full docs t b s e = rw (b, s, e) refl

-- what is not taken where no more are, as that is told of the documents by its id
pub body_untaken : (docs : List Tree) (t : Tree) (r : LineRefusal) (now : List Tree) (id : List ℕ) → is_body t ≡ true → id_of t ≡ id → now ≡ docs → length docs ≡ most_documents
    → IsRefused r (if stands id now then refused (repeated id) else refused full) → IsRefused r (of_body docs t)
body_untaken docs t r now id b i same l h = subst (IsRefused r) (ap (λ ds. if stands id ds then refused (repeated id) else refused full) same ∙ sym (told (stands (id_of t) docs) refl)) h where
  told : (s : Bool) → stands (id_of t) docs ≡ s → of_body docs t ≡ (if stands id docs then refused (repeated id) else refused full)
  told true e = body_repeated docs t id b e (sym i) ∙ sym (ap (λ c. if c then refused (repeated id) else refused full) (ap (λ k. stands k docs) (sym i) ∙ e))
  told false e = body_full docs t b e l ∙ sym (ap (λ c. if c then refused (repeated id) else refused full) (ap (λ k. stands k docs) (sym i) ∙ e))

pub body_admitted : (docs : List Tree) (t : Tree) → is_body t ≡ true → stands (id_of t) docs ≡ false → (length docs ≡ most_documents → ⊥) → of_body docs t ≡ a_document (imported t)
body_admitted docs t b s e = let other : (length docs == most_documents) ≡ false = grind (arith, nat_tests, e) in rw (b, s, other) refl

-- a blank line says nothing
pub said_blank : (docs : List Tree) (line : List ℕ) → is_blank_line line ≡ true → said docs line ≡ nothing
unfolding said
said_blank docs line b = rw b refl

-- any other says what its reading does
pub said_line : (docs : List Tree) (line : List ℕ) → is_blank_line line ≡ false → said docs line ≡ of_outcome docs (outcome deepest_document line)
unfolding said
said_line docs line b = rw b refl

pub said_value : (docs : List Tree) (line : List ℕ) (t : Tree) → is_blank_line line ≡ false → outcome deepest_document line ≡ value t → said docs line ≡ of_body docs t
said_value docs line t b o = said_line docs line b ∙ ap (of_outcome docs) o
