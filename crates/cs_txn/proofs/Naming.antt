-- The ids of the documents that values name, as the keys of a set.
use Rattle.std.proofs.Common.{◌≡◌, ℕ, ◌+◌, ◌<◌, List, [], ◌∷◌, length, get_or, drop, map, filter, Bor, Vec, Global, Bool, true, false, ◌||◌, cond, is_some, bytes_eq, codes, Option, Some, None, Less, refl, sym, ap, ◌∙◌}
use Rattle.std.proofs.lemmas.Cmp.{nat_list_cmp_total}
use Rattle.std.proofs.lemmas.List.{at_drop_more}
use Rattle.std.proofs.lemmas.Map.Lookups.{btree_set_from_contains, exact_bytes}
use Rattle.std.proofs.lemmas.Map.Text.{is_eq-slice_cmp}
use Rattle.std.proofs.lemmas.Slice.Eq.{bytes_eq-Decides}
use Rattle.std.specs.BTreeSet.{BTreeSet, contains, IsOrdered}
use Rattle.std.specs.List.{AllByRecursion, list_all, list_any}
use Rattle.std.specs.List.Sorted.{IsStrictlySortedBy}
use Rattle.std.specs.Ordering.{is_lt}
use Rattle.std.specs.FinMap.Entries.{below_all}
use Rattle.cs_value.specs.Tree.{Tree}
use Rattle.cs_value.specs.View.{tree, list_tree}
use Rattle.cs_value.specs.Words.{list_of, text_at}
use Rattle.cs_value.specs.declared.val.Val.{Val}
use Rattle.cs_value.specs.declared.val.Val as val
use Rattle.cs_value.proofs.Views.{tree-List, members-trees}
use Rattle.cs_view.specs.Document.{id_of, passes}
use Rattle.cs_view.specs.Dataset.{id_cmp, same_id, keyed, standing, ascending, stands, kept_if}
use Rattle.cs_view.proofs.Booleans.{and-left, and-right}
use Rattle.cs_view.proofs.Datasets.{standing-id, standing-filter, ascending-filter, same_id-sym, is_lt-Less}
use Rattle.cs_txn.specs.Mutated.{elements, names, names_one, named_ids}

-- ---- the ids of documents in order
below_ids : (k : List ℕ) (ds : List Tree) → below_all id_cmp k (keyed ds) ≡ true
    → AllByRecursion (λ y. id_cmp k y ≡ Less) (map id_of ds)
below_ids k [] h = tt
below_ids k (d ∷ ds) h = (
  is_lt-Less (id_cmp k (id_of d)) (and-left (is_lt (id_cmp k (id_of d))) _ h),
  below_ids k ds (and-right (is_lt (id_cmp k (id_of d))) _ h),
)

ids_ascend : (ds : List Tree) → ascending ds ≡ true → IsStrictlySortedBy id_cmp (map id_of ds)
unfolding IsStrictlySortedBy
ids_ascend [] h = tt
ids_ascend (d ∷ ds) h = (
  below_ids (id_of d) ds (and-left (below_all id_cmp (id_of d) (keyed ds)) _ h),
  ids_ascend ds (and-right (below_all id_cmp (id_of d) (keyed ds)) _ h),
)

among_stands : (q : List ℕ) (ds : List Tree)
    → list_any (same_id q) (map id_of ds) ≡ stands q ds
among_stands q [] = refl
among_stands q (d ∷ ds) =
    elim (same_id q (id_of d)) as (λ b.
    (b || list_any (same_id q) (map id_of ds)) ≡ is_some (cond b (Some d) (standing q ds))) [
      | true ↦ refl
      | false ↦ among_stands q ds
    ]

-- ---- the elements of a list
pub elements_of_list : (ts : List Tree) → elements (list_of ts) ≡ ts
elements_of_list ts = members-trees ts

pub elements_of_vals : (vals : Vec Val Global)
    → elements (tree (val.List vals)) ≡ list_tree vals.items
elements_of_vals vals = ap elements (tree-List vals) ∙ members-trees (list_tree vals.items)

-- ---- what values name
-- some value names the id
abbrev pub are_naming : List Tree → List ℕ → Bool
are_naming ts q = list_any (names q) ts

told_stands : (docs : List Tree) (q : List ℕ) (o : Option (List ℕ))
    → passes (λ id. stands id docs) o ≡ true → passes (bytes_eq q) o ≡ true
    → stands q docs ≡ true
told_stands docs q None h g = absurd cc
told_stands docs q (Some s) h g = ap (λ k. stands k docs) ((bytes_eq-Decides q s).0 g) ∙ h

or_then : (a b : Bool) (P : Type 0) → (a || b) ≡ true → (a ≡ true → P) → (b ≡ true → P) → P
or_then true b P h f g = f refl
or_then false b P h f g = g h

-- of values that each name a document, an id that one names is that of a document
named_stands : (docs : List Tree) (q : List ℕ) (ts : List Tree)
    → list_all (names_one docs) ts ≡ true → are_naming ts q ≡ true → stands q docs ≡ true
named_stands docs q [] h g = absurd cc
named_stands docs q (t ∷ ts) h g =
    or_then (names q t) (are_naming ts q) (stands q docs ≡ true) g
    (told_stands docs q (text_at (codes "_id") t) (and-left (names_one docs t) _ h))
    (named_stands docs q ts (and-right (names_one docs t) _ h))

some_kept : (b : Bool) (d : Tree) → is_some (cond b (Some d) None) ≡ b
some_kept true d = refl
some_kept false d = refl

none_kept : (b : Bool) → (b ≡ true → false ≡ true) → false ≡ b
none_kept true h = h refl
none_kept false h = refl

kept_by : (f : List ℕ → Bool) (q : List ℕ) (docs : List Tree) (o : Option Tree) → standing q docs ≡ o
    → (f q ≡ true → is_some o ≡ true) → is_some (kept_if (λ d. f (id_of d)) o) ≡ f q
kept_by f q docs None is there = none_kept (f q) there
kept_by f q docs (Some d) is there =
    some_kept (f (id_of d)) d ∙ ap f (sym (standing-id q docs d is))

-- the keys of a set of the ids that the values name
pub named_keys : (docs ts : List Tree) (ids : BTreeSet (List ℕ)) → ascending docs ≡ true
    → IsOrdered id_cmp ids → list_all (names_one docs) ts ≡ true
    → ((q : List ℕ) → contains id_cmp ids q ≡ are_naming ts q)
    → ids.keys ≡ named_ids docs ts
named_keys docs ts ids asc ordered all held =
    let f : List ℕ → Bool = are_naming ts in
    let p : Tree → Bool = λ d. f (id_of d) in
    btree_set_from_contains nat_list_cmp_total ids (record { keys = named_ids docs ts }) ordered
    (ids_ascend (filter p docs) (ascending-filter p docs asc))
    (λ q. held q ∙ sym (among_stands q (filter p docs) ∙ ap is_some (standing-filter p q docs asc)
    ∙ kept_by f q docs (standing q docs) refl (named_stands docs q ts all)))
    exact_bytes

by_cases : (n was r : Bool) → cond (cond n true was) true r ≡ cond was true (n || r)
by_cases true true r = refl
by_cases true false r = refl
by_cases false true r = refl
by_cases false false r = refl

-- one more value, whose id is put among the ids
pub one_more_named : (q s : List ℕ) (t : Tree) (ts : List Tree) (was now : Bool)
    → text_at (codes "_id") t ≡ Some s → now ≡ cond (same_id s q) true was
    → cond now true (are_naming ts q) ≡ cond was true (are_naming (t ∷ ts) q)
one_more_named q s t ts was now is held =
    ap (λ b. cond b true (are_naming ts q))
    (held ∙ ap (λ b. cond b true was) (same_id-sym s q ∙ is_eq-slice_cmp q s))
    ∙ by_cases (bytes_eq q s) was (are_naming ts q)
    ∙ ap (λ o. cond was true (passes (bytes_eq q) o || are_naming ts q)) (sym is)

-- the values from a place on
pub from_here : (vals : List (Bor Val)) (i : ℕ) (v : Bor Val) → i < length vals
    → v ≡ get_or vals i v
    → map (λ (u : Bor Val). tree u.now) (drop i vals)
    ≡ tree v.now ∷ map (λ (u : Bor Val). tree u.now) (drop (i + 1) vals)
from_here vals i v low is =
    at_drop_more (map (λ (u : Bor Val). tree u.now)) vals i v low
    ∙ ap (λ (u : Bor Val). tree u.now ∷ map (λ (w : Bor Val). tree w.now) (drop (i + 1) vals))
    (sym is)

pub true_or : (b : Bool) → cond b true false ≡ b
true_or true = refl
true_or false = refl
