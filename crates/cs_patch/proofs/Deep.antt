-- Names that lead deeper than a document may be make what they lead to too deep.
use Rattle.std.proofs.Common.{◌≡◌, ℕ, zero, suc, ◌≤◌, ◌<◌, max, min, List, [], ◌∷◌, map, filter, length, Bool, true, false, ◌&&◌, not, cond, Some, None, is_some, option_and_then, Less, Equal, Greater, nat_cmp, nat_le, nat_lt, refl, ap, ◌∙◌, arith}
use Rattle.std.proofs.lemmas.Grind.{common_steps}
use Rattle.std.specs.Cmp.Lexicographic.{slice_cmp}
use Rattle.std.specs.Ordering.{match_ordering}
use Rattle.std.specs.List.{list_all, list_any}
use Rattle.std.proofs.lemmas.Bool.{and_from}
use Rattle.cs_value.specs.Tree.{Tree, null, boolean, integer, text, list, object, Trees, no_trees, more_trees, Pairs, no_pairs, more_pairs, depth, trees_depth, pairs_depth}
use Rattle.cs_value.specs.Pairs.{find, put}
use Rattle.cs_view.proofs.Booleans.{and-left, and-right}
use Rattle.cs_jsonmatch.specs.Places.{Location}
use Rattle.cs_jsonmatch.specs.declared.places.Part.TheVariants.{Name, Pos}
use Rattle.cs_alter.specs.Within.{at, nth, update_pair, update_item, changed, given, object_pairs, is_inside, Reach, present, absent, blocked, reach}
use Rattle.cs_value.specs.Words.{field}
use Rattle.cs_targets.specs.Targets.{if_some, Target, target_by, targets_from}
use Rattle.cs_patch.specs.Operations.{document, refused, too_deep, bounded}
use Rattle.cs_targets.specs.Seen.{Seen, seen_of, outer_seen, is_missing, each_seen, are_standing}
use Rattle.cs_patch.specs.Asked.{check_of, first_seen}
use Rattle.cs_patch.specs.Outcomes.{outcome_of}
use Rattle.cs_patch.specs.declared.refusal.Ask.TheVariants as ask
use Rattle.cs_patch.proofs.Below.{all-both, all-filtered}

left_of : (m a b : ℕ) → m ≤ a → m ≤ max a b
left_of m a b h = grind (arith, common_steps)

right_of : (m a b : ℕ) → m ≤ b → m ≤ max a b
right_of m a b h = grind (arith, common_steps)

-- what is put is there, at its depth
put_deep : (k : List ℕ) (x : Tree) (ps : Pairs) → depth x ≤ pairs_depth (put k x ps)
put_deep k x no_pairs = left_of (depth x) (depth x) 0 (omega arith)
put_deep k x (more_pairs l u ps) =
    elim (slice_cmp nat_cmp k l) as (λ o. depth x ≤ pairs_depth (match_ordering o (more_pairs k x
    (more_pairs l u ps)) (more_pairs l x ps) (more_pairs l u (put k x ps)))) [
      | Less ↦ left_of (depth x) (depth x) (max (depth u) (pairs_depth ps)) (omega arith)
      | Equal ↦ left_of (depth x) (depth x) (pairs_depth ps) (omega arith)
      | Greater ↦ right_of (depth x) (depth u) (pairs_depth (put k x ps)) (put_deep k x ps)
    ]

one_more : (a b c : ℕ) → a ≤ b → b ≤ c → suc a ≤ suc c
one_more a b c g h = omega arith

given_deep : (ns : List (List ℕ)) (new t : Tree) → length ns ≤ depth (given ns new t)
given_deep [] new t = omega arith
given_deep (n ∷ ns) new t =
    one_more (length ns) (depth (given ns new (field n t)))
    (pairs_depth (put n (given ns new (field n t)) (object_pairs t)))
    (given_deep ns new (field n t)) (put_deep n (given ns new (field n t)) (object_pairs t))

-- ---- a write where something stands
module _ (m : ℕ) (l : Location) (g : Tree → Tree) (h : (u : Tree) → is_some (at l u) ≡ true → m ≤ depth (g u)) where
  pair_deep : (n : List ℕ) (ps : Pairs) → is_some (option_and_then (at l) (find n ps)) ≡ true
      → m ≤ pairs_depth (update_pair n g ps)
  pair_deep n no_pairs e = cc
  pair_deep n (more_pairs k u ps) e =
      (elim (slice_cmp nat_cmp n k) as (λ o. is_some (option_and_then (at l) (match_ordering o
      (find n ps) (Some u) (find n ps))) ≡ true → m ≤ pairs_depth (match_ordering o (more_pairs k u
      (update_pair n g ps)) (more_pairs k (g u) ps) (more_pairs k u (update_pair n g ps)))) [
        | Less ↦ λ e. right_of m (depth u) (pairs_depth (update_pair n g ps)) (pair_deep n ps e)
        | Equal ↦ λ e. left_of m (depth (g u)) (pairs_depth ps) (h u e)
        | Greater ↦ λ e. right_of m (depth u) (pairs_depth (update_pair n g ps)) (pair_deep n ps e)
      ]) e

  item_deep : (k : ℕ) (ts : Trees) → is_some (option_and_then (at l) (nth k ts)) ≡ true
      → m ≤ trees_depth (update_item k g ts)
  item_deep k no_trees e = cc
  item_deep zero (more_trees u ts) e = left_of m (depth (g u)) (trees_depth ts) (h u e)
  item_deep (suc k) (more_trees u ts) e =
      right_of m (depth u) (trees_depth (update_item k g ts)) (item_deep k ts e)

later : (m a : ℕ) → m ≤ a → m ≤ suc a
later m a h = omega arith

changed_deep : (m : ℕ) (f : Tree → Tree) → ((t : Tree) → m ≤ depth (f t))
    → (l : Location) (v : Tree) → is_some (at l v) ≡ true → m ≤ depth (changed l f v)
changed_deep m f h [] v e = h v
changed_deep m f h (Name n ∷ l) null e = cc
changed_deep m f h (Name n ∷ l) (boolean b) e = cc
changed_deep m f h (Name n ∷ l) (integer i) e = cc
changed_deep m f h (Name n ∷ l) (text s) e = cc
changed_deep m f h (Name n ∷ l) (list ts) e = cc
changed_deep m f h (Name n ∷ l) (object ps) e =
    later m (pairs_depth (update_pair n (changed l f) ps))
    (pair_deep m l (changed l f) (changed_deep m f h l) n ps e)
changed_deep m f h (Pos k ∷ l) null e = cc
changed_deep m f h (Pos k ∷ l) (boolean b) e = cc
changed_deep m f h (Pos k ∷ l) (integer i) e = cc
changed_deep m f h (Pos k ∷ l) (text s) e = cc
changed_deep m f h (Pos k ∷ l) (object ps) e = cc
changed_deep m f h (Pos k ∷ l) (list ts) e =
    later m (trees_depth (update_item k (changed l f) ts))
    (item_deep m l (changed l f) (changed_deep m f h l) k ts e)

-- ---- a write anywhere keeps so much of the depth
wide : (m a b c d : ℕ) → min a m ≤ c → min b m ≤ d → min (max a b) m ≤ max c d
wide m a b c d g h = grind (arith, common_steps)

higher : (m a b : ℕ) → min a m ≤ b → min (suc a) m ≤ suc b
higher m a b h = grind (arith, common_steps)

itself : (m a : ℕ) → min a m ≤ a
itself m a = grind (arith, common_steps)

at_most : (m a b : ℕ) → m ≤ b → min a m ≤ b
at_most m a b h = grind (arith, common_steps)

module _ (m : ℕ) (g : Tree → Tree) (h : (u : Tree) → min (depth u) m ≤ depth (g u)) where
  pair_kept : (n : List ℕ) (ps : Pairs) → min (pairs_depth ps) m ≤ pairs_depth (update_pair n g ps)
  pair_kept n no_pairs = itself m 0
  pair_kept n (more_pairs k u ps) =
      elim (slice_cmp nat_cmp n k) as (λ o. min (max (depth u) (pairs_depth ps)) m ≤ pairs_depth
      (match_ordering o (more_pairs k u (update_pair n g ps)) (more_pairs k (g u) ps)
      (more_pairs k u (update_pair n g ps)))) [
        | Less ↦ wide m (depth u) (pairs_depth ps) (depth u) (pairs_depth (update_pair n g ps))
            (itself m (depth u)) (pair_kept n ps)
        | Equal ↦ wide m (depth u) (pairs_depth ps) (depth (g u)) (pairs_depth ps) (h u)
            (itself m (pairs_depth ps))
        | Greater ↦ wide m (depth u) (pairs_depth ps) (depth u) (pairs_depth (update_pair n g ps))
            (itself m (depth u)) (pair_kept n ps)
      ]

  item_kept : (k : ℕ) (ts : Trees) → min (trees_depth ts) m ≤ trees_depth (update_item k g ts)
  item_kept k no_trees = itself m 0
  item_kept zero (more_trees u ts) =
      wide m (depth u) (trees_depth ts) (depth (g u)) (trees_depth ts) (h u)
      (itself m (trees_depth ts))
  item_kept (suc k) (more_trees u ts) =
      wide m (depth u) (trees_depth ts) (depth u) (trees_depth (update_item k g ts))
      (itself m (depth u)) (item_kept k ts)

changed_kept : (m : ℕ) (f : Tree → Tree) → ((t : Tree) → m ≤ depth (f t))
    → (l : Location) (v : Tree) → min (depth v) m ≤ depth (changed l f v)
changed_kept m f h [] v = at_most m (depth v) (depth (f v)) (h v)
changed_kept m f h (Name n ∷ l) null = itself m 0
changed_kept m f h (Name n ∷ l) (boolean b) = itself m 0
changed_kept m f h (Name n ∷ l) (integer i) = itself m 0
changed_kept m f h (Name n ∷ l) (text s) = itself m 0
changed_kept m f h (Name n ∷ l) (list ts) = itself m (depth (list ts))
changed_kept m f h (Name n ∷ l) (object ps) =
    higher m (pairs_depth ps) (pairs_depth (update_pair n (changed l f) ps))
    (pair_kept m (changed l f) (changed_kept m f h l) n ps)
changed_kept m f h (Pos k ∷ l) null = itself m 0
changed_kept m f h (Pos k ∷ l) (boolean b) = itself m 0
changed_kept m f h (Pos k ∷ l) (integer i) = itself m 0
changed_kept m f h (Pos k ∷ l) (text s) = itself m 0
changed_kept m f h (Pos k ∷ l) (object ps) = itself m (depth (object ps))
changed_kept m f h (Pos k ∷ l) (list ts) =
    higher m (trees_depth ts) (trees_depth (update_item k (changed l f) ts))
    (item_kept m (changed l f) (changed_kept m f h l) k ts)

on : (m a b : ℕ) → m ≤ a → min a m ≤ b → m ≤ b
on m a b g h = grind (arith, common_steps)

each_deep : (m : ℕ) (f : Tree → Tree) → ((t : Tree) → m ≤ depth (f t))
    → (xs : List Seen) (v : Tree) → are_standing v xs ≡ true → 0 < length xs
    → m ≤ depth (each_seen (λ x. changed x.place f) xs v)
each_deep m f h [] v e s = absurd (omega arith)
each_deep m f h (x ∷ []) v e s = changed_deep m f h x.place v (and-left (is_some (at x.place v)) true e)
each_deep m f h (x ∷ y ∷ xs) v e s =
    let w = each_seen (λ z. changed z.place f) (y ∷ xs) v in
    on m (depth w) (depth (changed x.place f w))
    (each_deep m f h (y ∷ xs) v (and-right (is_some (at x.place v)) (are_standing v (y ∷ xs)) e) (omega arith))
    (changed_kept m f h x.place w)

beyond : (a b : ℕ) → nat_lt 48 a ≡ true → a ≤ b → nat_le b 48 ≡ false
beyond a b g h = grind (arith, common_steps)

pub long_run : (path : List ℕ) (ns : List (List ℕ)) (new v : Tree) (xs : List Seen)
    → first_seen (check_of ask.Free path) xs ≡ None → are_standing v xs ≡ true → 0 < length xs
    → nat_lt 48 (length ns) ≡ true → outcome_of path ask.Free (given ns new) xs v ≡ refused too_deep
long_run path ns new v xs none standing some long =
    let w = each_seen (λ x. changed x.place (given ns new)) xs v in
    ap (if_some refused (bounded w)) none
    ∙ ap (λ b. cond b (document w) (refused too_deep)) (beyond (length ns) (depth w) long
    (each_deep (length ns) (given ns new) (given_deep ns new) xs v standing some))

-- ---- the targets stand
module _ (v : Tree) where
  abbrev stands : Target → Bool
  stands t = is_some (at t.place v)

  standing_by : (l : Location) (ns : List (List ℕ)) (r : Reach) → is_some (at l v) ≡ true
      → list_all stands (target_by l ns r) ≡ true
  standing_by l ns (present u) h = ap (λ b. b && true) h
  standing_by l ns absent h = ap (λ b. b && true) h
  standing_by l ns blocked h = refl

  standing_from : (ns : List (List ℕ)) (ls : List Location)
      → list_all stands (targets_from v ns ls) ≡ true
  standing_from ns [] = refl
  standing_from ns (l ∷ ls) =
      all-both stands (if_some (λ t. target_by l ns (reach ns t)) [] (at l v)) (targets_from v ns ls)
      (elim (at l v) as (λ o. at l v ≡ o → list_all stands (if_some (λ t. target_by l ns (reach ns t)) [] o) ≡ true) [
        | None ↦ λ e. refl
        | Some t ↦ λ e. standing_by l ns (reach ns t) (ap is_some e)
      ] refl)
      (standing_from ns ls)

  seen_standing : (ts : List Target) → list_all stands ts ≡ true → are_standing v (map seen_of ts) ≡ true
  seen_standing [] h = refl
  seen_standing (t ∷ ts) h =
      and_from (stands t) (are_standing v (map seen_of ts)) (and-left (stands t) (list_all stands ts) h)
      (seen_standing ts (and-right (stands t) (list_all stands ts) h))

  pub outer_standing : (ns : List (List ℕ)) (ls : List Location)
      → are_standing v (outer_seen (map seen_of (targets_from v ns ls))) ≡ true
  outer_standing ns ls =
      let xs = map seen_of (targets_from v ns ls) in
      all-filtered (λ x. is_some (at x.place v)) (λ x. not (list_any (λ y. is_inside x.location y.location) xs)) xs
      (seen_standing (targets_from v ns ls) (standing_from ns ls))

  pub missing_standing : (ns : List (List ℕ)) (ls : List Location)
      → are_standing v (filter is_missing (outer_seen (map seen_of (targets_from v ns ls)))) ≡ true
  missing_standing ns ls =
      all-filtered (λ x. is_some (at x.place v)) is_missing (outer_seen (map seen_of (targets_from v ns ls)))
      (outer_standing ns ls)
