-- That a body of a data file becomes a document with the same id.
use Rattle.std.proofs.Common.{◌≡◌, ◌∙◌, ap, refl, ℕ, List, [], is_some, true, false, cond, codes, unwrap_or}
use Rattle.std.specs.Ordering.{eq_by_cmp}
use Rattle.cs_value.specs.Tree.{Tree, null, boolean, integer, text, list, object}
use Rattle.cs_value.specs.Pairs.{put}
use Rattle.cs_value.specs.Words.{text_at}
use Rattle.cs_view.specs.Dataset.{id_cmp}
use Rattle.cs_view.specs.Document.{is_body, is_shallow, has_text, is_document, id_of}
use Rattle.cs_view.proofs.Documents.{whole}
use Rattle.cs_machine.specs.DataFile.{with_default, imported}
use Rattle.cs_machine.specs.State.{first_moment}
use Rattle.cs_load.proofs.Stamping.{kept, text-own, text-other}

-- a value that can be installed
record IsInstallable (t : Tree) : Type 0 where
  body : is_body t ≡ true
  shallow : is_shallow t ≡ true

kept_default : (name s : List ℕ) (t : Tree) → eq_by_cmp id_cmp (codes "_id") name ≡ false → eq_by_cmp id_cmp (codes "_type") name ≡ false → IsInstallable t → IsInstallable (with_default name s t)
kept_default name s null id type h = let no = h.body in cc
kept_default name s (boolean b) id type h = let no = h.body in cc
kept_default name s (integer n) id type h = let no = h.body in cc
kept_default name s (text u) id type h = let no = h.body in cc
kept_default name s (list ts) id type h = let no = h.body in cc
kept_default name s (object ps) id type h =
    elim (has_text name (object ps)) as (λ b. IsInstallable (cond b (object ps) (object (put name (text s) ps)))) [
      | true ↦ h
      | false ↦ let k = kept name s ps id type (record { body = h.body; shallow = h.shallow }) in record { body = k.body; shallow = k.shallow }
    ]

-- the text is there
own_default : (name s : List ℕ) (t : Tree) → is_body t ≡ true → has_text name (with_default name s t) ≡ true
own_default name s null h = cc
own_default name s (boolean b) h = cc
own_default name s (integer n) h = cc
own_default name s (text u) h = cc
own_default name s (list ts) h = cc
own_default name s (object ps) h =
    elim (has_text name (object ps)) as (λ b. has_text name (object ps) ≡ b → has_text name (cond b (object ps) (object (put name (text s) ps))) ≡ true) [
      | true ↦ λ e. e
      | false ↦ λ e. ap is_some (text-own name s ps)
    ] refl

-- texts at other names stay
other_default : (j name s : List ℕ) (t : Tree) → eq_by_cmp id_cmp j name ≡ false → text_at j (with_default name s t) ≡ text_at j t
other_default j name s null ne = refl
other_default j name s (boolean b) ne = refl
other_default j name s (integer n) ne = refl
other_default j name s (text u) ne = refl
other_default j name s (list ts) ne = refl
other_default j name s (object ps) ne =
    elim (has_text name (object ps)) as (λ b. text_at j (cond b (object ps) (object (put name (text s) ps))) ≡ text_at j (object ps)) [
      | true ↦ refl
      | false ↦ text-other j name (text s) ps ne
    ]

abbrev with_updated : Tree → Tree
with_updated t = with_default (codes "_updatedAt") first_moment t

abbrev with_both : Tree → Tree
with_both t = with_default (codes "_createdAt") first_moment (with_updated t)

pub imported_document : (t : Tree) → is_body t ≡ true → is_shallow t ≡ true → is_document (imported t) ≡ true
imported_document t body shallow =
    let updated = kept_default (codes "_updatedAt") first_moment t refl refl (record { body = body; shallow = shallow }) in
    let both = kept_default (codes "_createdAt") first_moment (with_updated t) refl refl updated in
    let all = kept_default (codes "_rev") (codes "import") (with_both t) refl refl both in
    whole (imported t) (record {
      body = all.body;
      shallow = all.shallow;
      rev = own_default (codes "_rev") (codes "import") (with_both t) both.body;
      created = ap is_some (other_default (codes "_createdAt") (codes "_rev") (codes "import") (with_both t) refl) ∙ own_default (codes "_createdAt") first_moment (with_updated t) updated.body;
      updated = ap is_some (other_default (codes "_updatedAt") (codes "_rev") (codes "import") (with_both t) refl ∙ other_default (codes "_updatedAt") (codes "_createdAt") first_moment (with_updated t) refl) ∙ own_default (codes "_updatedAt") first_moment t body;
    })

pub imported_id : (t : Tree) → id_of (imported t) ≡ id_of t
imported_id t =
    ap (λ i. unwrap_or i []) (other_default (codes "_id") (codes "_rev") (codes "import") (with_both t) refl ∙ other_default (codes "_id") (codes "_createdAt") first_moment (with_updated t) refl ∙ other_default (codes "_id") (codes "_updatedAt") first_moment t refl)
