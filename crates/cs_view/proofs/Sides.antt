-- The key of an id is touched by the change of that id, where a document stands on a side of it.
use Rattle.std.proofs.Common.{◌≡◌, ◌∙◌, ℕ, ◌<◌, ◌+◌, drop, get_or, List, ◌∷◌, Bool, true, false, ◌&&◌, ◌||◌, Option, Some, None, refl, sym, ap, subst, length}
use Rattle.std.specs.Prelude.{is_some, option_map}
use Rattle.std.proofs.lemmas.List.{drop_more}
use Rattle.cs_value.specs.Tree.{Tree}
use Rattle.cs_view.specs.Changes.{Edit, is_of_id}
use Rattle.cs_view.specs.Dataset.{same_id}
use Rattle.cs_view.specs.Document.{passes, id_of}
use Rattle.cs_view.specs.Keys.{has}
use Rattle.cs_view.specs.Touched.{touches}
use Rattle.cs_view.specs.declared.key.Key.TheVariants.{Id}
use Rattle.cs_view.specs.View.{document_of, edit, edits}
use Rattle.cs_view.specs.declared.change.Change.{Change}
use Rattle.cs_view.specs.declared.doc.Doc.{Doc}
use Rattle.cs_view.proofs.Changed.{OwnIds}
use Rattle.cs_view.proofs.Datasets.{same_id-same, same_id-sym}

-- the changes from a place on: the one there, and those after it
pub own-more : (cs : List Change) (i : ℕ) (d : Change) → i < length cs → OwnIds (edits (drop i cs)) → OwnIds (edit (get_or cs i d) ∷ edits (drop (i + 1) cs))
own-more cs i d low own = subst (λ l. OwnIds (edits l)) (drop_more cs i d low) own

-- a side of the id has the key of an id where it stands and the two are one
side-touched : (t q : List ℕ) (o : Option Tree) → is_of_id q o ≡ true → passes (has (Id t)) o ≡ (is_some o && same_id q t)
side-touched t q None own = refl
side-touched t q (Some d) own = ap (same_id t) (sym (same_id-same q (id_of d) own)) ∙ same_id-sym t q

together : (a b s : Bool) → ((a && s) || (b && s)) ≡ ((a || b) && s)
together true true true = refl
together true true false = refl
together true false true = refl
together true false false = refl
together false b s = refl

pub touches-id : (t : List ℕ) (c : Edit) → is_of_id c.0 c.1.0 ≡ true → is_of_id c.0 c.1.1 ≡ true → touches (Id t) c ≡ ((is_some c.1.0 || is_some c.1.1) && same_id c.0 t)
touches-id t c before after =
    (λ i. side-touched t c.0 c.1.0 before i || side-touched t c.0 c.1.1 after i) ∙ together (is_some c.1.0) (is_some c.1.1) (same_id c.0 t)

shown : (o : Option Doc) → is_some o ≡ is_some (option_map document_of o)
shown None = refl
shown (Some d) = refl

pub sides : (c : Change) → (is_some c.before || is_some c.after) ≡ (is_some (edit c).1.0 || is_some (edit c).1.1)
sides c = λ i. shown c.before i || shown c.after i

module _ (t : List ℕ) (c : Change) (before : is_of_id (edit c).0 (edit c).1.0 ≡ true) (after : is_of_id (edit c).0 (edit c).1.1 ≡ true) (s : Bool) (is : s ≡ (is_some c.before || is_some c.after)) where
  pub id-stands : s ≡ true → (b : Bool) → b ≡ same_id c.id t → b ≡ touches (Id t) (edit c)
  id-stands one b so =
      so ∙ ap (λ a. a && same_id c.id t) (sym one ∙ is ∙ sides c) ∙ sym (touches-id t (edit c) before after)

  pub id-stands-not : s ≡ false → s ≡ touches (Id t) (edit c)
  id-stands-not h = h ∙ ap (λ a. a && same_id c.id t) (sym h ∙ is ∙ sides c) ∙ sym (touches-id t (edit c) before after)
