-- What a step of one name or one position selects.
use Rattle.std.proofs.Common.{◌≡◌, ℕ, zero, suc, ◌+◌, ◌<◌, ◌≤◌, length, get_or, drop, append_assoc, List, [], ◌∷◌, ◌++◌, map, Bool, true, false, cond, ◌||◌, nat_eq, ℤ, Option, Some, None, Ordering, Less, Equal, Greater, nat_cmp, is_eq, refl, sym, ap, ◌∙◌, arith}
use Rattle.std.specs.List.{filter}
use Rattle.std.specs.Cmp.Lexicographic.{slice_cmp}
use Rattle.std.specs.Ordering.{match_ordering}
use Rattle.std.specs.Prelude.{bytes_eq}
use Rattle.std.proofs.lemmas.Bool.Decides.{nat_tests}
use Rattle.std.proofs.lemmas.Cmp.{nat_list_cmp_total}
use Rattle.std.proofs.lemmas.List.{append-nil, map-append, at_drop_more, at_drop_all}
use Rattle.std.proofs.lemmas.List.Elements.{filter-append}
use Rattle.std.proofs.lemmas.Map.Text.{is_eq-slice_cmp}
use Rattle.std.proofs.lemmas.Slice.Eq.{bytes_eq-Decides}
use Rattle.cs_value.specs.Tree.{Tree, list, object, trees, trees_len, Trees, no_trees, more_trees, Pairs, no_pairs, more_pairs}
use Rattle.cs_value.specs.Pairs.{find}
use Rattle.cs_value.specs.Value.{IsBelow, Ascends}
use Rattle.cs_value.specs.View.{tree, list_tree}
use Rattle.cs_value.specs.declared.val.Val.{Val}
use Rattle.cs_jsonmatch.specs.Path.{Item, position, named, step, Path}
use Rattle.cs_jsonmatch.specs.Places.{Location, Trail, parts, size, is_at, selects, leads, places, trails, item_trails, pair_trails}
use Rattle.cs_jsonmatch.specs.Sole.{sole_step}
use Rattle.cs_jsonmatch.specs.View.{path_of, step_of}
use Rattle.cs_jsonmatch.specs.declared.path.Step.{Step as CodeStep}
use Rattle.cs_jsonmatch.specs.declared.sole.Sole.{Sole}
use Rattle.cs_jsonmatch.specs.declared.places.Part.{Part}
use Rattle.cs_jsonmatch.specs.declared.places.Part.TheVariants.{Name, Pos}
use Rattle.cs_jsonmatch.proofs.Walks.{at_path_end, size-list}

-- the locations that the path leads to among these trails
abbrev places_in : Item → Path → Tree → List Trail → List Location
places_in i ss v ls = map parts (filter (leads (step false (i ∷ []) ∷ ss) v) ls)

kept : (b : Bool) (x : Part) (t : Tree) (l : Trail) (ks ms : List Trail) → map parts ks ≡ map (λ m. x ∷ m) (map parts ms)
    → map parts (cond (b || false) (((x, t) ∷ l) ∷ ks) ks) ≡ map (λ m. x ∷ m) (map parts (cond b (l ∷ ms) ms))
kept true x t l ks ms h = ap (λ r. (x ∷ parts l) ∷ r) h
kept false x t l ks ms h = h

selected : (i : Item) (ss : Path) (v : Tree) (x : Part) (t : Tree) (ls : List Trail) → selects (size v) x t i ≡ true
    → places_in i ss v (map (λ l. (x, t) ∷ l) ls) ≡ map (λ m. x ∷ m) (map parts (filter (leads ss t) ls))
selected i ss v x t [] is = refl
selected i ss v x t (l ∷ ls) is = rw is (kept (leads ss t l) x t l _ _ (selected i ss v x t ls is))

passed_over : (i : Item) (ss : Path) (v : Tree) (x : Part) (t : Tree) (ls : List Trail) → selects (size v) x t i ≡ false
    → places_in i ss v (map (λ l. (x, t) ∷ l) ls) ≡ []
passed_over i ss v x t [] is = refl
passed_over i ss v x t (l ∷ ls) is = rw is (passed_over i ss v x t ls is)

places_in-append : (i : Item) (ss : Path) (v : Tree) (ls ks : List Trail) → places_in i ss v (ls ++ ks) ≡ places_in i ss v ls ++ places_in i ss v ks
places_in-append i ss v ls ks = rw (filter-append (leads (step false (i ∷ []) ∷ ss) v) ls ks) (map-append parts _ _)

-- one more member, which is not selected, or is alone so
next_only : (i : Item) (ss : Path) (v : Tree) (x : Part) (t : Tree) (ls : List Trail) → selects (size v) x t i ≡ false
    → places_in i ss v (map (λ l. (x, t) ∷ l) (trails t) ++ ls) ≡ places_in i ss v ls
next_only i ss v x t ls is =
    places_in-append i ss v (map (λ l. (x, t) ∷ l) (trails t)) ls
    ∙ ap (λ r. r ++ places_in i ss v ls) (passed_over i ss v x t (trails t) is)

this_only : (i : Item) (ss : Path) (v : Tree) (x : Part) (t : Tree) (ls : List Trail) → selects (size v) x t i ≡ true → places_in i ss v ls ≡ []
    → places_in i ss v (map (λ l. (x, t) ∷ l) (trails t) ++ ls) ≡ map (λ m. x ∷ m) (places ss t)
this_only i ss v x t ls is none =
    places_in-append i ss v (map (λ l. (x, t) ∷ l) (trails t)) ls
    ∙ ap (λ r. r ++ places_in i ss v ls) (selected i ss v x t (trails t) is)
    ∙ ap (λ r. map (λ m. x ∷ m) (places ss t) ++ r) none
    ∙ append-nil (map (λ m. x ∷ m) (places ss t))

-- ---- the elements of a list
below_not : (j k : ℕ) → j < k → nat_eq j k ≡ false
below_not j k h = grind (arith, nat_tests)

above_not : (j k : ℕ) → k < j → nat_eq j k ≡ false
above_not j k h = grind (arith, nat_tests)

itself : (j k : ℕ) → j ≡ k → nat_eq j k ≡ true
itself j k h = grind (arith, nat_tests)

no_element : (n : ℤ) (ss : Path) (v : Tree) (k : ℕ) (ts : Trees) → ((j : ℕ) → k ≤ j → j < k + trees_len ts → is_at n (size v) j ≡ false)
    → places_in (position n) ss v (item_trails k ts) ≡ []
no_element n ss v k no_trees none = refl
no_element n ss v k (more_trees t ts) none =
    let here : k < k + suc (trees_len ts) = omega arith in
    next_only (position n) ss v (Pos k) t (item_trails (suc k) ts) (none k (omega arith) here)
    ∙ no_element n ss v (suc k) ts (λ j from to. none j (omega arith) (omega arith))

one_element : (n : ℤ) (ss : Path) (v : Tree) (k : ℕ) (xs : List Val) (j : ℕ) (d : Val) → ((m : ℕ) → is_at n (size v) m ≡ nat_eq (k + j) m) → j < length xs
    → places_in (position n) ss v (item_trails k (trees (list_tree xs))) ≡ map (λ l. Pos (k + j) ∷ l) (places ss (tree (get_or xs j d)))
one_element n ss v k [] j d is here = absurd (omega arith)
one_element n ss v k (x ∷ xs) zero d is here =
    let first : k + 0 ≡ k = omega arith in
    let others = no_element n ss v (suc k) (trees (list_tree xs)) (λ m from to. is m ∙ below_not (k + 0) m (omega arith)) in
    this_only (position n) ss v (Pos k) (tree x) (item_trails (suc k) (trees (list_tree xs))) (is k ∙ itself (k + 0) k first) others
    ∙ ap (λ m. map (λ l. Pos m ∷ l) (places ss (tree x))) (sym first)
one_element n ss v k (x ∷ xs) (suc j) d is here =
    let moved : k + suc j ≡ suc k + j = omega arith in
    next_only (position n) ss v (Pos k) (tree x) (item_trails (suc k) (trees (list_tree xs))) (is k ∙ above_not (k + suc j) k (omega arith))
    ∙ one_element n ss v (suc k) xs j d (λ m. is m ∙ ap (λ p. nat_eq p m) moved) (omega arith)
    ∙ ap (λ m. map (λ l. Pos m ∷ l) (places ss (tree (get_or xs j d)))) (sym moved)

no_names : (n : List ℕ) (ss : Path) (v : Tree) (k : ℕ) (ts : Trees) → places_in (named n) ss v (item_trails k ts) ≡ []
no_names n ss v k no_trees = refl
no_names n ss v k (more_trees t ts) =
    next_only (named n) ss v (Pos k) t (item_trails (suc k) ts) refl ∙ no_names n ss v (suc k) ts

-- ---- the attributes of an object
no_positions : (n : ℤ) (ss : Path) (v : Tree) (ps : Pairs) → places_in (position n) ss v (pair_trails ps) ≡ []
no_positions n ss v no_pairs = refl
no_positions n ss v (more_pairs m t ps) =
    next_only (position n) ss v (Name m) t (pair_trails ps) refl ∙ no_positions n ss v ps

same_test : (n m : List ℕ) (o : Ordering) → slice_cmp nat_cmp n m ≡ o → bytes_eq n m ≡ is_eq o
same_test n m o h = sym (is_eq-slice_cmp n m) ∙ ap is_eq h

none_here : (o : Ordering) (t : Tree) (found : Option Tree) → match_ordering o found (Some t) found ≡ None → (is_eq o ≡ false) × (found ≡ None)
none_here Less t found h = (refl, h)
none_here Equal t found h = absurd cc
none_here Greater t found h = (refl, h)

no_attribute : (n : List ℕ) (ss : Path) (v : Tree) (ps : Pairs) → find n ps ≡ None → places_in (named n) ss v (pair_trails ps) ≡ []
no_attribute n ss v no_pairs none = refl
no_attribute n ss v (more_pairs m t ps) none =
    let h = none_here (slice_cmp nat_cmp n m) t (find n ps) none in
    next_only (named n) ss v (Name m) t (pair_trails ps) (same_test n m _ refl ∙ h.0) ∙ no_attribute n ss v ps h.1

-- a name below all names is none of them
none_above : (n : List ℕ) (ps : Pairs) → IsBelow n ps → Ascends ps → find n ps ≡ None
none_above n no_pairs below ascends = refl
none_above n (more_pairs l t no_pairs) below ascends = rw below refl
none_above n (more_pairs l t (more_pairs m u ps)) below ascends =
    rw below (none_above n (more_pairs m u ps) (nat_list_cmp_total.trans n l m below ascends.0) ascends.1)

below_same : (n l : List ℕ) (ps : Pairs) → slice_cmp nat_cmp n l ≡ Equal → IsBelow l ps → IsBelow n ps
below_same n l no_pairs h below = tt
below_same n l (more_pairs m u ps) h below = nat_list_cmp_total.congr n l m h ∙ below

same_name : (n m : List ℕ) → slice_cmp nat_cmp n m ≡ Equal → n ≡ m
same_name n m h = (bytes_eq-Decides n m).0 (same_test n m Equal h)

one_by : (o : Ordering) (n m : List ℕ) (u : Tree) (ss : Path) (v : Tree) (ps : Pairs) (t : Tree)
    → slice_cmp nat_cmp n m ≡ o → IsBelow m ps → Ascends ps → match_ordering o (find n ps) (Some u) (find n ps) ≡ Some t
    → (find n ps ≡ Some t → places_in (named n) ss v (pair_trails ps) ≡ map (λ l. Name n ∷ l) (places ss t))
    → places_in (named n) ss v (pair_trails (more_pairs m u ps)) ≡ map (λ l. Name n ∷ l) (places ss t)
one_by Less n m u ss v ps t is below ascends found more =
    next_only (named n) ss v (Name m) u (pair_trails ps) (same_test n m Less is) ∙ more found
one_by Equal n m u ss v ps t is below ascends found more =
    let same : u ≡ t = cc in
    let none = none_above n ps (below_same n m ps is below) ascends in
    this_only (named n) ss v (Name m) u (pair_trails ps) (same_test n m Equal is) (no_attribute n ss v ps none)
    ∙ ap (λ k. map (λ l. Name k ∷ l) (places ss u)) (sym (same_name n m is)) ∙ ap (λ w. map (λ l. Name n ∷ l) (places ss w)) same
one_by Greater n m u ss v ps t is below ascends found more =
    next_only (named n) ss v (Name m) u (pair_trails ps) (same_test n m Greater is) ∙ more found

one_attribute : (n : List ℕ) (ss : Path) (v : Tree) (ps : Pairs) (t : Tree) → Ascends ps → find n ps ≡ Some t
    → places_in (named n) ss v (pair_trails ps) ≡ map (λ l. Name n ∷ l) (places ss t)
one_attribute n ss v no_pairs t ascends found = absurd cc
one_attribute n ss v (more_pairs m u ps) t ascends found =
    one_by (slice_cmp nat_cmp n m) n m u ss v ps t refl ascends.0 ascends.1 found (λ h. one_attribute n ss v ps t ascends.1 h)

-- ---- the whole value
pub nothing_inside : (i : Item) (ss : Path) (v : Tree) → trails v ≡ [] ∷ [] → places (step false (i ∷ []) ∷ ss) v ≡ []
nothing_inside i ss v is = ap (λ ls. map parts (filter (leads (step false (i ∷ []) ∷ ss) v) ls)) is

pub element_none : (n : ℤ) (ss : Path) (ts : Trees) → ((j : ℕ) → j < trees_len ts → is_at n (trees_len ts) j ≡ false) → places (step false (position n ∷ []) ∷ ss) (list ts) ≡ []
element_none n ss ts none = no_element n ss (list ts) 0 ts (λ j from to. none j (omega arith))

pub element_at : (n : ℤ) (ss : Path) (xs : List Val) (j : ℕ) (d : Val) → ((m : ℕ) → is_at n (trees_len (trees (list_tree xs))) m ≡ nat_eq j m) → j < length xs
    → places (step false (position n ∷ []) ∷ ss) (list (trees (list_tree xs))) ≡ map (λ l. Pos j ∷ l) (places ss (tree (get_or xs j d)))
element_at n ss xs j d is here =
    let first : 0 + j ≡ j = omega arith in
    one_element n ss (list (trees (list_tree xs))) 0 xs j d (λ m. is m ∙ ap (λ k. nat_eq k m) (sym first)) here
    ∙ ap (λ k. map (λ l. Pos k ∷ l) (places ss (tree (get_or xs j d)))) first

pub element_past : (n : ℤ) (ss : Path) (xs : List Val) (j : ℕ) → ((m : ℕ) → is_at n (trees_len (trees (list_tree xs))) m ≡ nat_eq j m) → length xs ≤ j
    → places (step false (position n ∷ []) ∷ ss) (list (trees (list_tree xs))) ≡ []
element_past n ss xs j is past =
    let count = size-list xs in
    element_none n ss (trees (list_tree xs)) (λ m here. is m ∙ above_not j m (omega (arith, count)))

pub element_not_named : (n : List ℕ) (ss : Path) (ts : Trees) → places (step false (named n ∷ []) ∷ ss) (list ts) ≡ []
element_not_named n ss ts = no_names n ss (list ts) 0 ts

pub attribute_none : (n : List ℕ) (ss : Path) (ps : Pairs) → find n ps ≡ None → places (step false (named n ∷ []) ∷ ss) (object ps) ≡ []
attribute_none n ss ps none = no_attribute n ss (object ps) ps none

pub attribute_at : (n : List ℕ) (ss : Path) (ps : Pairs) (t : Tree) → Ascends ps → find n ps ≡ Some t
    → places (step false (named n ∷ []) ∷ ss) (object ps) ≡ map (λ l. Name n ∷ l) (places ss t)
attribute_at n ss ps t ascends found = one_attribute n ss (object ps) ps t ascends found

pub attribute_not_placed : (n : ℤ) (ss : Path) (ps : Pairs) → places (step false (position n ∷ []) ∷ ss) (object ps) ≡ []
attribute_not_placed n ss ps = no_positions n ss (object ps) ps

-- ---- the steps one by one
moved_on : (above : Location) (x : Part) (ls : List Location) → map (λ l. above ++ l) (map (λ l. x ∷ l) ls) ≡ map (λ l. (above ++ x ∷ []) ++ l) ls
moved_on above x [] = refl
moved_on above x (l ∷ ls) =
    ap (λ r. r ∷ map (λ k. above ++ k) (map (λ k. x ∷ k) ls)) (sym (append_assoc above (x ∷ []) l))
    ∙ ap (λ r. ((above ++ x ∷ []) ++ l) ∷ r) (moved_on above x ls)

this_step : (ss : List CodeStep) (i : ℕ) (s : CodeStep) (so : Sole) (v : Tree) → i < length ss → s ≡ get_or ss i s → step_of s ≡ sole_step so
    → places (path_of (drop i ss)) v ≡ places (sole_step so ∷ path_of (drop (i + 1) ss)) v
this_step ss i s so v here at is =
    at_drop_more (λ rest. places (path_of rest) v) ss i s here
    ∙ ap (λ t. places (path_of (t ∷ drop (i + 1) ss)) v) (sym at)
    ∙ ap (λ t. places (t ∷ path_of (drop (i + 1) ss)) v) is

pub taken : (ss : List CodeStep) (i : ℕ) (s : CodeStep) (so : Sole) (v next : Tree) (x : Part) (above after : Location) (all : List Location)
    → i < length ss → s ≡ get_or ss i s → step_of s ≡ sole_step so
    → places (sole_step so ∷ path_of (drop (i + 1) ss)) v ≡ map (λ l. x ∷ l) (places (path_of (drop (i + 1) ss)) next)
    → after ≡ above ++ x ∷ [] → map (λ l. above ++ l) (places (path_of (drop i ss)) v) ≡ all
    → map (λ l. after ++ l) (places (path_of (drop (i + 1) ss)) next) ≡ all
taken ss i s so v next x above after all here at is inside grown so_far =
    ap (λ a. map (λ l. a ++ l) (places (path_of (drop (i + 1) ss)) next)) grown
    ∙ sym (moved_on above x (places (path_of (drop (i + 1) ss)) next))
    ∙ ap (map (λ l. above ++ l)) (sym (this_step ss i s so v here at is ∙ inside))
    ∙ so_far

pub nowhere : (ss : List CodeStep) (i : ℕ) (s : CodeStep) (so : Sole) (v : Tree) (above : Location) (all : List Location)
    → i < length ss → s ≡ get_or ss i s → step_of s ≡ sole_step so
    → places (sole_step so ∷ path_of (drop (i + 1) ss)) v ≡ []
    → map (λ l. above ++ l) (places (path_of (drop i ss)) v) ≡ all → all ≡ []
nowhere ss i s so v above all here at is none so_far =
    sym so_far ∙ ap (map (λ l. above ++ l)) (this_step ss i s so v here at is ∙ none)

pub arrived_at : (ss : List CodeStep) (i : ℕ) (v : Tree) (above : Location) (all : List Location) → length ss ≤ i
    → map (λ l. above ++ l) (places (path_of (drop i ss)) v) ≡ all → above ∷ [] ≡ all
arrived_at ss i v above all past so_far =
    sym (at_drop_all (λ rest. map (λ l. above ++ l) (places (path_of rest) v)) ss i past ∙ at_path_end above v) ∙ so_far

same_below : (ls : List Location) → map (λ l. [] ++ l) ls ≡ ls
same_below [] = refl
same_below (l ∷ ls) = ap (λ r. l ∷ r) (same_below ls)

pub at_first : (above : Location) (ls : List Location) → above ≡ [] → map (λ l. above ++ l) ls ≡ ls
at_first above ls none = ap (λ a. map (λ l. a ++ l) ls) none ∙ same_below ls
