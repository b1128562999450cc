-- The places of the documents that have a key.
use Rattle.std.proofs.Common.{◌≡◌, ℕ, zero, suc, ◌<◌, List, [], ◌∷◌, ◌++◌, map, Bool, true, false, cond, nat_lt, Option, Some, None, IsSome, option_map, refl, sym, ap, ap₂, ◌∙◌, arith}
use Rattle.std.proofs.lemmas.Bool.{ltb-true}
use Rattle.std.proofs.lemmas.List.{map-append}
use Rattle.std.specs.BTreeSet.{contains}
use Rattle.std.specs.List.{All, AllByRecursion}
use Rattle.std.specs.Ordering.{is_lt}
use Rattle.std.specs.Prelude.{IfSome}
use Rattle.cs_value.specs.Tree.{Tree}
use Rattle.cs_view.specs.Document.{id_of}
use Rattle.cs_view.specs.Dataset.{id_cmp, standing}
use Rattle.cs_view.specs.Keys.{has_all, selected}
use Rattle.cs_view.specs.declared.key.Key.{Key}
use Rattle.cs_shelf.specs.Places.{or_null, most_places}
use Rattle.cs_shelf.specs.View.{documents, doc_at as put_at}
use Rattle.cs_shelf.proofs.Few.{low_place as few_low}
use Rattle.cs_shelf.proofs.Standing.{ascending-documents, place_of}
use Rattle.cs_docs.specs.Store.{place_at}
use Rattle.cs_docs.proofs.Filters.{members}
use Rattle.cs_index.specs.View.{store_of, doc_at as store_at}
use Rattle.cs_working.specs.Merged.{Stand, behind, ArePlaces, lower, upper, place_or, low_place, merged}
use Rattle.cs_working.specs.Working.{base, working, doc_at}
use Rattle.cs_working.specs.declared.working.Working.{Working}
use Rattle.cs_working.proofs.Placing.{low_at, behind_at}
use Rattle.cs_working.proofs.Merging.{all-filter, lower_docs, upper_docs, merged_docs, merged_working}

-- ---- documents stand at the places
to_all : (P : ℕ → Type 0) (ps : List ℕ) → AllByRecursion P ps → All P ps
to_all P [] h k d lt = absurd (omega arith)
to_all P (p ∷ ps) h zero d lt = h.0
to_all P (p ∷ ps) h (suc k) d lt = to_all P ps h.1 k d (omega arith)

from_all : (P : ℕ → Type 0) (ps : List ℕ) → All P ps → AllByRecursion P ps
from_all P [] h = tt
from_all P (p ∷ ps) h = (h 0 0 (omega arith), from_all P ps (λ k d lt. h (suc k) d (omega arith)))

each_stands : (at : Stand) (ps : List ℕ) (ds : List Tree) → map at ps ≡ map Some ds → AllByRecursion (λ p. IsSome (at p)) ps
each_stands at [] ds h = tt
each_stands at (p ∷ ps) [] h = absurd (cc)
each_stands at (p ∷ ps) (d ∷ ds) h =
    let e : at p ≡ Some d = cc in
    let rest : map at ps ≡ map Some ds = cc in
    (rw e refl, each_stands at ps ds rest)

pub all_stand : (at : Stand) (ps : List ℕ) (ds : List Tree) → map at ps ≡ map Some ds → All (λ p. IsSome (at p)) ps
all_stand at ps ds h = to_all (λ p. IsSome (at p)) ps (each_stands at ps ds h)

joined : (at : Stand) (ps : List ℕ) → AllByRecursion (λ p. IsSome (at p)) ps → AllByRecursion (λ p. p < most_places) ps → ArePlaces at ps
joined at [] g h = tt
joined at (p ∷ ps) g h = ((g.0, h.0), joined at ps g.1 h.1)

pub are_places : (at : Stand) (ps : List ℕ) (ds : List Tree) → map at ps ≡ map Some ds → All (λ p. p < most_places) ps → ArePlaces at ps
are_places at ps ds h low = joined at ps (each_stands at ps ds h) (from_all (λ p. p < most_places) ps low)

-- ---- what stands at the merged places are the merged documents
lower_same : (at : Stand) (id : List ℕ) (ps : List ℕ) (ds : List Tree) → map at ps ≡ map Some ds → map at (lower at id ps) ≡ map Some (lower_docs id ds)
lower_same at id [] [] h = refl
lower_same at id [] (d ∷ ds) h = absurd (cc)
lower_same at id (p ∷ ps) [] h = absurd (cc)
lower_same at id (p ∷ ps) (d ∷ ds) h =
    let e : at p ≡ Some d = cc in
    let rest : map at ps ≡ map Some ds = cc in
    let more : map at (lower at id ps) ≡ map Some (lower_docs id ds) = lower_same at id ps ds rest in
    ap (λ o. map at (cond (is_lt (id_cmp (id_of (or_null o)) id)) (p ∷ lower at id ps) [])) e
    ∙ elim (is_lt (id_cmp (id_of d) id)) as (λ b. map at (cond b (p ∷ lower at id ps) []) ≡ map Some (cond b (d ∷ lower_docs id ds) [])) [ true ↦ ap₂ (λ (o : Option Tree) (r : List (Option Tree)). o ∷ r) e more | false ↦ refl ]

upper_same : (at : Stand) (id : List ℕ) (ps : List ℕ) (ds : List Tree) → map at ps ≡ map Some ds → map at (upper at id ps) ≡ map Some (upper_docs id ds)
upper_same at id [] [] h = refl
upper_same at id [] (d ∷ ds) h = absurd (cc)
upper_same at id (p ∷ ps) [] h = absurd (cc)
upper_same at id (p ∷ ps) (d ∷ ds) h =
    let e : at p ≡ Some d = cc in
    let rest : map at ps ≡ map Some ds = cc in
    let more : map at (upper at id ps) ≡ map Some (upper_docs id ds) = upper_same at id ps ds rest in
    ap (λ o. map at (cond (is_lt (id_cmp (id_of (or_null o)) id)) (upper at id ps) (p ∷ ps))) e
    ∙ elim (is_lt (id_cmp (id_of d) id)) as (λ b. map at (cond b (upper at id ps) (p ∷ ps)) ≡ map Some (cond b (upper_docs id ds) (d ∷ ds))) [ true ↦ more | false ↦ h ]

map_behind : (w : Working) (ps : List ℕ) → map (doc_at w) (map behind ps) ≡ map (put_at w.put) ps
map_behind w [] = refl
map_behind w (p ∷ ps) = ap₂ (λ (o : Option Tree) (r : List (Option Tree)). o ∷ r) (behind_at w p) (map_behind w ps)

-- what the store holds under an id and at a place stands at the low place
low_stands : (w : Working) (s : ℕ) (d : Tree) → store_at w.store s ≡ Some d → standing (id_of d) (base w) ≡ Some d
    → doc_at w (low_place w s (id_of d)) ≡ Some d
low_stands w s d here at = by_test (nat_lt s most_places) refl where
  by_place : (o : Option ℕ) → IfSome o (λ p. p < most_places) → option_map (store_at w.store) o ≡ Some (Some d) → doc_at w (place_or s o) ≡ Some d
  by_place None low h = absurd (cc)
  by_place (Some p) low h = low_at w p low ∙ cc

  by_test : (b : Bool) → nat_lt s most_places ≡ b → doc_at w (cond b s (place_or s (place_at (store_of w.store) (id_of d)))) ≡ Some d
  by_test true e = low_at w s (ltb-true s most_places e) ∙ here
  by_test false e =
      let shelf = (store_of w.store).shelf in
      by_place (place_at (store_of w.store) (id_of d)) (few_low shelf (id_of d)) (place_of shelf (id_of d) ∙ ap (option_map Some) at)

-- each of the documents is what the store holds under its id
abbrev AreOwn : Working → List Tree → Type 0
AreOwn w ds = AllByRecursion (λ d. standing (id_of d) (base w) ≡ Some d) ds

own_selected : (w : Working) (ks : List Key) → AreOwn w (selected ks (base w))
own_selected w ks = all-filter _ (has_all ks) (base w) (members (base w) (ascending-documents (store_of w.store).shelf))

merged_same : (w : Working) (ss : List ℕ) (ds : List Tree) (ps : List ℕ) (es : List Tree) → map (store_at w.store) ss ≡ map Some ds → AreOwn w ds → map (put_at w.put) ps ≡ map Some es
    → map (doc_at w) (merged w ss ps) ≡ map Some (merged_docs (contains id_cmp w.touched) ds es)
merged_same w [] [] ps es g own h = map_behind w ps ∙ h
merged_same w [] (d ∷ ds) ps es g own h = absurd (cc)
merged_same w (s ∷ ss) [] ps es g own h = absurd (cc)
merged_same w (s ∷ ss) (d ∷ ds) ps es g own h =
    let put : Stand = put_at w.put in
    let touched : List ℕ → Bool = contains id_cmp w.touched in
    let e : store_at w.store s ≡ Some d = cc in
    let rest : map (store_at w.store) ss ≡ map Some ds = cc in
    let all : List ℕ → List ℕ = λ i. map behind (lower put i ps) ++ low_place w s i ∷ merged w ss (upper put i ps) in
    let here : map (doc_at w) (merged w ss ps) ≡ map Some (merged_docs touched ds es) = merged_same w ss ds ps es rest own.1 h in
    let there : map (doc_at w) (merged w ss (upper put (id_of d) ps)) ≡ map Some (merged_docs touched ds (upper_docs (id_of d) es)) =
    merged_same w ss ds (upper put (id_of d) ps) (upper_docs (id_of d) es) rest own.1 (upper_same put (id_of d) ps es h) in
    let first : map (doc_at w) (map behind (lower put (id_of d) ps)) ≡ map Some (lower_docs (id_of d) es) = map_behind w (lower put (id_of d) ps) ∙ lower_same put (id_of d) ps es h in
    let second : map (doc_at w) (low_place w s (id_of d) ∷ merged w ss (upper put (id_of d) ps)) ≡ map Some (d ∷ merged_docs touched ds (upper_docs (id_of d) es)) =
    ap₂ (λ (o : Option Tree) (r : List (Option Tree)). o ∷ r) (low_stands w s d e own.0) there in
    ap (λ o. map (doc_at w) (cond (touched (id_of (or_null o))) (merged w ss ps) (all (id_of (or_null o))))) e
    ∙ elim (touched (id_of d)) as (λ b. map (doc_at w) (cond b (merged w ss ps) (all (id_of d))) ≡ map Some (cond b (merged_docs touched ds es) (lower_docs (id_of d) es ++ d ∷ merged_docs touched ds (upper_docs (id_of d) es)))) [
      | true ↦ here
      | false ↦ map-append (doc_at w) (map behind (lower put (id_of d) ps)) (low_place w s (id_of d) ∷ merged w ss (upper put (id_of d) ps))
          ∙ ap₂ (λ (x y : List (Option Tree)). x ++ y) first second
          ∙ sym (map-append Some (lower_docs (id_of d) es) (d ∷ merged_docs touched ds (upper_docs (id_of d) es)))
    ]

pub picked : (w : Working) (ks : List Key) (ss ps : List ℕ) → map (store_at w.store) ss ≡ map Some (selected ks (base w)) → map (put_at w.put) ps ≡ map Some (selected ks (documents w.put))
    → map (doc_at w) (merged w ss ps) ≡ map Some (selected ks (working w))
picked w ks ss ps g h =
    merged_same w ss (selected ks (base w)) ps (selected ks (documents w.put)) g (own_selected w ks) h
    ∙ ap (map Some) (merged_working w ks)
