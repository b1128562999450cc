-- That a body of a data file becomes a document.
use Rattle.std.proofs.Common.{◌≡◌, ℕ, List, length, Bool, true, false, ◌&&◌, cond, nat_lt, is_some, Option, Some, option_and_then, bytes_eq, codes, refl, ap, ◌∙◌}
use Rattle.cs_value.specs.Tree.{Tree, null, boolean, integer, text, list, object, Pairs}
use Rattle.cs_value.specs.Pairs.{put}
use Rattle.cs_value.specs.Id.{is_id}
use Rattle.cs_value.specs.Words.{as_text, text_at}
use Rattle.cs_view.specs.Document.{passes, is_body, is_shallow, has_text, is_document}
use Rattle.cs_view.proofs.Documents.{whole}
use Rattle.cs_patch.proofs.Fixed.{other-put, same-put, shallow-put}
use Rattle.cs_machine.specs.DataFile.{with_default, imported}
use Rattle.cs_machine.specs.State.{first_moment}

-- a value that can be installed
record IsInstallable (t : Tree) : Type 0 where
  body : is_body t ≡ true
  shallow : is_shallow t ≡ true

-- ---- one text
text_other : (j k s : List ℕ) (ps : Pairs) → bytes_eq j k ≡ false
    → text_at j (object (put k (text s) ps)) ≡ text_at j (object ps)
text_other j k s ps ne = ap (λ a. option_and_then as_text a) (other-put j k (text s) ps ne)

text_own : (k s : List ℕ) (ps : Pairs) → text_at k (object (put k (text s) ps)) ≡ Some s
text_own k s ps = ap (λ a. option_and_then as_text a) (same-put k (text s) ps)

abbrev body_by : Option (List ℕ) → Option (List ℕ) → Bool
body_by id type = passes is_id id && passes (λ s. nat_lt 0 (length s)) type

kept : (k s : List ℕ) (ps : Pairs) → bytes_eq (codes "_id") k ≡ false
    → bytes_eq (codes "_type") k ≡ false → IsInstallable (object ps)
    → IsInstallable (object (put k (text s) ps))
kept k s ps id type h = record {
  body =
      ap (λ i. body_by i (text_at (codes "_type") (object (put k (text s) ps))))
      (text_other (codes "_id") k s ps id)
      ∙ ap (λ t. body_by (text_at (codes "_id") (object ps)) t)
      (text_other (codes "_type") k s ps type)
      ∙ h.body;
  shallow = shallow-put k s ps h.shallow;
}

-- ---- one default
kept_default : (name s : List ℕ) (t : Tree) → bytes_eq (codes "_id") name ≡ false
    → bytes_eq (codes "_type") name ≡ false → IsInstallable t
    → IsInstallable (with_default name s t)
kept_default name s null id type h = let no = h.body in cc
kept_default name s (boolean b) id type h = let no = h.body in cc
kept_default name s (integer n) id type h = let no = h.body in cc
kept_default name s (text u) id type h = let no = h.body in cc
kept_default name s (list ts) id type h = let no = h.body in cc
kept_default name s (object ps) id type h =
    elim (has_text name (object ps)) as (λ b.
    IsInstallable (cond b (object ps) (object (put name (text s) ps)))) [
      | true ↦ h
      | false ↦ kept name s ps id type h
    ]

-- the text is there
own_default : (name s : List ℕ) (t : Tree) → is_body t ≡ true
    → has_text name (with_default name s t) ≡ true
own_default name s null h = cc
own_default name s (boolean b) h = cc
own_default name s (integer n) h = cc
own_default name s (text u) h = cc
own_default name s (list ts) h = cc
own_default name s (object ps) h =
    elim (has_text name (object ps)) as (λ b. has_text name (object ps) ≡ b
    → has_text name (cond b (object ps) (object (put name (text s) ps))) ≡ true) [
      | true ↦ λ e. e
      | false ↦ λ e. ap is_some (text_own name s ps)
    ] refl

-- texts at other names stay
other_default : (j name s : List ℕ) (t : Tree) → bytes_eq j name ≡ false
    → text_at j (with_default name s t) ≡ text_at j t
other_default j name s null ne = refl
other_default j name s (boolean b) ne = refl
other_default j name s (integer n) ne = refl
other_default j name s (text u) ne = refl
other_default j name s (list ts) ne = refl
other_default j name s (object ps) ne =
    elim (has_text name (object ps)) as (λ b.
    text_at j (cond b (object ps) (object (put name (text s) ps))) ≡ text_at j (object ps)) [
      | true ↦ refl
      | false ↦ text_other j name s ps ne
    ]

-- ---- the three of them
abbrev with_updated : Tree → Tree
with_updated t = with_default (codes "_updatedAt") first_moment t

abbrev with_both : Tree → Tree
with_both t = with_default (codes "_createdAt") first_moment (with_updated t)

pub imported-document : (t : Tree) → is_body t ≡ true → is_shallow t ≡ true
    → is_document (imported t) ≡ true
imported-document t body shallow =
    let updated = kept_default (codes "_updatedAt") first_moment t refl refl
    (record { body = body; shallow = shallow }) in
    let both = kept_default (codes "_createdAt") first_moment (with_updated t) refl refl updated in
    let all = kept_default (codes "_rev") (codes "import") (with_both t) refl refl both in
    whole (imported t) (record {
      body = all.body;
      shallow = all.shallow;
      rev = own_default (codes "_rev") (codes "import") (with_both t) both.body;
      created =
          ap is_some
          (other_default (codes "_createdAt") (codes "_rev") (codes "import") (with_both t) refl)
          ∙ own_default (codes "_createdAt") first_moment (with_updated t) updated.body;
      updated =
          ap is_some
          (other_default (codes "_updatedAt") (codes "_rev") (codes "import") (with_both t) refl
          ∙ other_default (codes "_updatedAt") (codes "_createdAt") first_moment (with_updated t)
          refl)
          ∙ own_default (codes "_updatedAt") first_moment t body;
    })
