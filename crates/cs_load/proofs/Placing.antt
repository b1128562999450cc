-- Documents in the order of their ids, and a document more.
use Rattle.std.proofs.Common.{◌≡◌, ◌∙◌, ap, sym, refl, subst, ℕ, zero, suc, List, [], ◌∷◌, None, Bool, true, false, Less, Equal, Greater, T}
use Rattle.std.proofs.lemmas.Cmp.{nat_list_cmp_total}
use Rattle.std.specs.FinMap.{slice_cmp-IsAntisymmetric, nat_cmp-IsAntisymmetric}
use Rattle.std.specs.FinMap.Entries.{by_order, put, is_sorted, is_sorted-put}
use Rattle.cs_value.specs.Tree.{Tree}
use Rattle.cs_view.specs.Document.{id_of}
use Rattle.cs_view.specs.Dataset.{id_cmp, keyed, standing, ascending, with_doc}
use Rattle.cs_load.specs.Gathered.{IsGapFor}

pub same : (a b : List ℕ) → id_cmp a b ≡ Equal → a ≡ b
same a b h = slice_cmp-IsAntisymmetric nat_cmp-IsAntisymmetric a b h

keyed-with_doc : (d : Tree) (es : List Tree) → keyed (with_doc d es) ≡ put id_cmp (id_of d) d (keyed es)
keyed-with_doc d [] = refl
keyed-with_doc d (e ∷ es) =
    elim (id_cmp (id_of d) (id_of e)) as (λ o. id_cmp (id_of d) (id_of e) ≡ o → keyed (by_order o (d ∷ e ∷ es) (d ∷ es) (e ∷ with_doc d es)) ≡ by_order o ((id_of d, d) ∷ (id_of e, e) ∷ keyed es) ((id_of e, d) ∷ keyed es) ((id_of e, e) ∷ put id_cmp (id_of d) d (keyed es))) [
      | Less ↦ λ h. refl
      | Equal ↦ λ h. ap (λ (k : List ℕ). (k, d) ∷ keyed es) (same (id_of d) (id_of e) h)
      | Greater ↦ λ h. ap (λ (r : List (List ℕ × Tree)). (id_of e, e) ∷ r) (keyed-with_doc d es)
    ] refl

to_T : (b : Bool) → b ≡ true → T b
to_T b h = subst T (sym h) tt

from_T : (b : Bool) → T b → b ≡ true
from_T true h = refl
from_T false h = absurd h

-- a document more keeps the order
pub ascending-with_doc : (d : Tree) (es : List Tree) → ascending es ≡ true → ascending (with_doc d es) ≡ true
ascending-with_doc d es h = ap (is_sorted id_cmp) (keyed-with_doc d es) ∙ from_T _ (is_sorted-put id_cmp nat_list_cmp_total (id_of d) d (keyed es) (to_T _ h))

-- the gap of an id: its place is among the documents, and none there has the id
pub gap_absent : (id : List ℕ) (docs : List Tree) (place : ℕ) → IsGapFor id docs place → standing id docs ≡ None
gap_absent id [] zero h = refl
gap_absent id [] (suc place) h = absurd h
gap_absent id (d ∷ docs) zero h = rw h.0 (gap_absent id docs zero h.1)
gap_absent id (d ∷ docs) (suc place) h = rw h.0 (gap_absent id docs place h.1)

-- a document in the gap for its id is the dataset with it
