-- The walk finds what the path selects.
use Rattle.std.proofs.Common.{◌≡◌, ℕ, suc, ◌+◌, length, get_or, List, [], ◌∷◌, ◌++◌, map, Bool, true, false, cond, ◌&&◌, ◌||◌, drop, take, length-append, add-one, ◌-◌, ◌<◌, ◌⊎◌, inl, inr, unwrap_or, Iter, Result, Ok, Err, ℤ, refl, sym, ap, ◌∙◌, arith, rules, append_assoc}
use Rattle.std.specs.Prelude.{slice_get}
use Rattle.std.specs.List.{list_any, filter}
use Rattle.std.proofs.lemmas.List.{append-nil, map-append, length-map, at_drop_more}
use Rattle.std.proofs.Math.Seq.{take-append_seam}
use Rattle.std.specs.Result.{OnOk}
use Rattle.std.proofs.lemmas.List.Elements.{filter-append}
use Rattle.std.proofs.Math.Bool.{and-false, or-false}
use Rattle.cs_value.specs.Tree.{Tree, null, boolean, integer, text, list, object, trees, Trees, no_trees, more_trees, Pairs, no_pairs, more_pairs}
use Rattle.cs_value.specs.View.{tree, fields, list_tree, entries_tree}
use Rattle.cs_value.specs.declared.val.Val.{Val, the_lemmas}
use Rattle.cs_value.specs.declared.val.Val as val
use Rattle.cs_value.specs.declared.val.Fields.{Fields}
use Rattle.cs_value.proofs.Views.{Entry}
use Rattle.cs_jsonmatch.specs.Path.{Item, Path}
use Rattle.cs_jsonmatch.specs.Places.{Location, Trail, parts, size, selects, leads, places, trails, item_trails, pair_trails}
use Rattle.cs_jsonmatch.specs.View.{path_of, step_of}
use Rattle.cs_jsonmatch.specs.declared.path.Step.{Step as CodeStep}
use Rattle.cs_jsonmatch.specs.Walk.{some_leads, next, reached}
use Rattle.cs_jsonmatch.specs.declared.places.Part.{Part}
use Rattle.cs_jsonmatch.specs.declared.places.Part.TheVariants.{Name, Pos}

-- a rest of the path waits below a part where the step before selected the part, or where the step may pass over it
shared : (h a d s leads_here leads_on rest : Bool)
    → (((h || (a && d)) && leads_here) || (((a && s) && leads_on) || rest)) ≡ ((h && leads_here) || ((a && ((s && leads_on) || (d && leads_here))) || rest))
shared true true true true true true r = refl
shared true true true true true false r = refl
shared true true true true false true r = refl
shared true true true true false false r = refl
shared true true true false true true r = refl
shared true true true false true false r = refl
shared true true true false false true r = refl
shared true true true false false false r = refl
shared true true false true true true r = refl
shared true true false true true false r = refl
shared true true false true false true r = refl
shared true true false true false false r = refl
shared true true false false true true r = refl
shared true true false false true false r = refl
shared true true false false false true r = refl
shared true true false false false false r = refl
shared true false true true true true r = refl
shared true false true true true false r = refl
shared true false true true false true r = refl
shared true false true true false false r = refl
shared true false true false true true r = refl
shared true false true false true false r = refl
shared true false true false false true r = refl
shared true false true false false false r = refl
shared true false false true true true r = refl
shared true false false true true false r = refl
shared true false false true false true r = refl
shared true false false true false false r = refl
shared true false false false true true r = refl
shared true false false false true false r = refl
shared true false false false false true r = refl
shared true false false false false false r = refl
shared false true true true true true r = refl
shared false true true true true false r = refl
shared false true true true false true r = refl
shared false true true true false false r = refl
shared false true true false true true r = refl
shared false true true false true false r = refl
shared false true true false false true r = refl
shared false true true false false false r = refl
shared false true false true true true r = refl
shared false true false true true false r = refl
shared false true false true false true r = refl
shared false true false true false false r = refl
shared false true false false true true r = refl
shared false true false false true false r = refl
shared false true false false false true r = refl
shared false true false false false false r = refl
shared false false true true true true r = refl
shared false false true true true false r = refl
shared false false true true false true r = refl
shared false false true true false false r = refl
shared false false true false true true r = refl
shared false false true false true false r = refl
shared false false true false false true r = refl
shared false false true false false false r = refl
shared false false false true true true r = refl
shared false false false true true false r = refl
shared false false false true false true r = refl
shared false false false true false false r = refl
shared false false false false true true r = refl
shared false false false false true false r = refl
shared false false false false false true r = refl
shared false false false false false false r = refl

none_left : (a b : Bool) → (a && b) ≡ ((a && b) || false)
none_left true true = refl
none_left true false = refl
none_left false b = refl

pub some_below : (v t : Tree) (x : Part) (h : Bool) (ws : List Bool) (ms : Path) (l : Trail)
    → some_leads (next (selects (size v) x t) h ws ms) ms t l ≡ ((h && leads ms t l) || some_leads ws ms v ((x, t) ∷ l))
some_below v t x h [] [] l = none_left h (leads [] t l)
some_below v t x h [] (m ∷ ms) l = refl
some_below v t x h (a ∷ ws) [] l = rw (and-false a) (none_left h (leads [] t l))
some_below v t x h (a ∷ ws) (m ∷ ms) l =
    let s = list_any (selects (size v) x t) m.items in
    ap (λ b. ((h || (a && m.deep)) && leads (m ∷ ms) t l) || b) (some_below v t x (a && s) ws ms l)
    ∙ shared h a m.deep s (leads (m ∷ ms) t l) (leads ms t l) (some_leads ws ms v ((x, t) ∷ l))

-- a trail that is kept, or not, on either side
kept : (b : Bool) (above : Location) (x : Part) (t : Tree) (l : Trail) (ls ks : List Trail)
    → map (λ k. above ++ parts k) ls ≡ map (λ k. (above ++ x ∷ []) ++ parts k) ks
    → map (λ k. above ++ parts k) (cond b (((x, t) ∷ l) ∷ ls) ls) ≡ map (λ k. (above ++ x ∷ []) ++ parts k) (cond b (l ∷ ks) ks)
kept true above x t l ls ks h = rw (append_assoc above (x ∷ []) (parts l)) (ap (λ r. (above ++ x ∷ parts l) ∷ r) h)
kept false above x t l ls ks h = h

pub reached_child : (above : Location) (ws : List Bool) (ms : Path) (v : Tree) (x : Part) (t : Tree) (ls : List Trail)
    → reached above ws ms v (map (λ l. (x, t) ∷ l) ls) ≡ reached (above ++ x ∷ []) (next (selects (size v) x t) false ws ms) ms t ls
reached_child above ws ms v x t [] = refl
reached_child above ws ms v x t (l ∷ ls) =
    let same = some_below v t x false ws ms l in
    rw (← same) (kept (some_leads (next (selects (size v) x t) false ws ms) ms t l) above x t l _ _ (reached_child above ws ms v x t ls))

none_leads : (ws : List Bool) (ms : Path) (v : Tree) (l : Trail) → list_any (λ b. b) ws ≡ false → some_leads ws ms v l ≡ false
none_leads [] ms v l h = refl
none_leads (true ∷ ws) ms v l h = absurd (cc)
none_leads (false ∷ ws) [] v l h = refl
none_leads (false ∷ ws) (m ∷ ms) v l h = none_leads ws ms v l h

pub reached_none : (above : Location) (ws : List Bool) (ms : Path) (v : Tree) (ls : List Trail) → list_any (λ b. b) ws ≡ false → reached above ws ms v ls ≡ []
reached_none above ws ms v [] h = refl
reached_none above ws ms v (l ∷ ls) h = rw (none_leads ws ms v l h) (reached_none above ws ms v ls h)

pub reached-append : (above : Location) (ws : List Bool) (ms : Path) (v : Tree) (ls ks : List Trail)
    → reached above ws ms v (ls ++ ks) ≡ reached above ws ms v ls ++ reached above ws ms v ks
reached-append above ws ms v ls ks = rw (filter-append (some_leads ws ms v) ls ks) (map-append (λ l. above ++ parts l) (filter (some_leads ws ms v) ls) (filter (some_leads ws ms v) ks))

ends : (ws : List Bool) (ms : Path) (v : Tree) → some_leads ws ms v [] ≡ unwrap_or (slice_get ws (length ms)) false
ends [] ms v = refl
ends (true ∷ ws) [] v = refl
ends (false ∷ ws) [] v = refl
ends (true ∷ ws) (m ∷ ms) v = ends ws ms v
ends (false ∷ ws) (m ∷ ms) v = ends ws ms v

kept_here : (b : Bool) (above : Location) (ls : List Trail) → map (λ l. above ++ parts l) (cond b ([] ∷ ls) ls) ≡ cond b (above ∷ []) [] ++ map (λ l. above ++ parts l) ls
kept_here true above ls = ap (λ a. a ∷ map (λ l. above ++ parts l) ls) (append-nil above)
kept_here false above ls = refl

-- the place itself, and then those below it
pub reached_here : (above : Location) (ws : List Bool) (ms : Path) (v : Tree) (ls : List Trail)
    → reached above ws ms v ([] ∷ ls) ≡ cond (unwrap_or (slice_get ws (length ms)) false) (above ∷ []) [] ++ reached above ws ms v ls
reached_here above ws ms v ls = rw (ends ws ms v) (kept_here (unwrap_or (slice_get ws (length ms)) false) above (filter (some_leads ws ms v) ls))

-- one more member of a list, and one more attribute
pub reached_item : (above : Location) (ws : List Bool) (ms : Path) (v : Tree) (k : ℕ) (t : Tree) (ts : Trees)
    → reached above ws ms v (item_trails k (more_trees t ts)) ≡ reached (above ++ Pos k ∷ []) (next (selects (size v) (Pos k) t) false ws ms) ms t (trails t) ++ reached above ws ms v (item_trails (suc k) ts)
reached_item above ws ms v k t ts =
    reached-append above ws ms v (map (λ l. (Pos k, t) ∷ l) (trails t)) (item_trails (suc k) ts)
    ∙ ap (λ r. r ++ reached above ws ms v (item_trails (suc k) ts)) (reached_child above ws ms v (Pos k) t (trails t))

pub reached_pair : (above : Location) (ws : List Bool) (ms : Path) (v : Tree) (n : List ℕ) (t : Tree) (ps : Pairs)
    → reached above ws ms v (pair_trails (more_pairs n t ps)) ≡ reached (above ++ Name n ∷ []) (next (selects (size v) (Name n) t) false ws ms) ms t (trails t) ++ reached above ws ms v (pair_trails ps)
reached_pair above ws ms v n t ps =
    reached-append above ws ms v (map (λ l. (Name n, t) ∷ l) (trails t)) (pair_trails ps)
    ∙ ap (λ r. r ++ reached above ws ms v (pair_trails ps)) (reached_child above ws ms v (Name n) t (trails t))

-- behind no more than the value itself nothing is reached where no rest with a step waits
none_behind : (ws : List Bool) (ms : Path) (v : Tree) (e : Part × Tree) (l : Trail) → list_any (λ b. b) (take (length ms) ws) ≡ false → some_leads ws ms v (e ∷ l) ≡ false
none_behind [] ms v e l h = refl
none_behind (a ∷ ws) [] v e l h = and-false a
none_behind (true ∷ ws) (m ∷ ms) v e l h = absurd (cc)
none_behind (false ∷ ws) (m ∷ ms) v e l h = none_behind ws ms v e l h

module _ (above : Location) (ws : List Bool) (ms : Path) (v : Tree) (none : list_any (λ b. b) (take (length ms) ws) ≡ false) where
  none_through : (e : Part × Tree) (ls ks : List Trail) → reached above ws ms v ks ≡ [] → reached above ws ms v (map (λ l. e ∷ l) ls ++ ks) ≡ []
  none_through e [] ks h = h
  none_through e (l ∷ ls) ks h = rw (none_behind ws ms v e l none) (none_through e ls ks h)

  none_of_items : (k : ℕ) (ts : Trees) → reached above ws ms v (item_trails k ts) ≡ []
  none_of_items k no_trees = refl
  none_of_items k (more_trees t ts) = none_through (Pos k, t) (trails t) (item_trails (suc k) ts) (none_of_items (suc k) ts)

  none_of_pairs : (ps : Pairs) → reached above ws ms v (pair_trails ps) ≡ []
  none_of_pairs no_pairs = refl
  none_of_pairs (more_pairs n t ps) = none_through (Name n, t) (trails t) (pair_trails ps) (none_of_pairs ps)

  none_inside : (t : Tree) → (ls : List Trail) × (trails t ≡ [] ∷ ls) × (reached above ws ms v ls ≡ [])
  none_inside null = ([], refl, refl)
  none_inside (boolean b) = ([], refl, refl)
  none_inside (integer n) = ([], refl, refl)
  none_inside (text s) = ([], refl, refl)
  none_inside (list ts) = (item_trails 0 ts, refl, none_of_items 0 ts)
  none_inside (object ps) = (pair_trails ps, refl, none_of_pairs ps)

-- only the whole path waits at the start
at_start : (ms : Path) (v : Tree) (l : Trail) → some_leads (true ∷ []) ms v l ≡ leads ms v l
at_start [] v l = refl
at_start (m ∷ ms) v l = or-false (leads (m ∷ ms) v l)

kept_start : (b : Bool) (above : Location) (l : Trail) (ls ks : List Trail) → map (λ k. above ++ parts k) ls ≡ map (λ k. above ++ k) (map parts ks)
    → map (λ k. above ++ parts k) (cond b (l ∷ ls) ls) ≡ map (λ k. above ++ k) (map parts (cond b (l ∷ ks) ks))
kept_start true above l ls ks h = ap (λ r. (above ++ parts l) ∷ r) h
kept_start false above l ls ks h = h

reached_start : (above : Location) (ms : Path) (v : Tree) (ls : List Trail) → reached above (true ∷ []) ms v ls ≡ map (λ k. above ++ k) (map parts (filter (leads ms v) ls))
reached_start above ms v [] = refl
reached_start above ms v (l ∷ ls) = rw (at_start ms v l) (kept_start (leads ms v l) above l _ _ (reached_start above ms v ls))

-- where no steps are left, the path leads to the value itself
pub at_path_end : (above : Location) (v : Tree) → map (λ k. above ++ k) (places [] v) ≡ above ∷ []
at_path_end above v =
    let inside = none_inside above (true ∷ []) [] v refl v in
    sym (reached_start above [] v (trails v)) ∙ ap (reached above (true ∷ []) [] v) inside.1
    ∙ reached_here above (true ∷ []) [] v inside.0 ∙ ap (λ r. above ∷ r) inside.2

-- past the last flag or the last step one more rest waits
next_end : (p : Item → Bool) (h : Bool) (ws : List Bool) → next p h ws [] ≡ h ∷ []
next_end p h [] = refl
next_end p h (w ∷ ws) = refl

next_past : (p : Item → Bool) (h : Bool) (ws : List Bool) (ss : List CodeStep) → length ss ≡ 0 → next p h ws (path_of ss) ≡ h ∷ []
next_past p h ws [] e = next_end p h ws
next_past p h ws (s ∷ ss) e = absurd (omega arith)

next_flags : (p : Item → Bool) (h : Bool) (ws : List Bool) (ms : Path) → length ws ≡ 0 → next p h ws ms ≡ h ∷ []
next_flags p h [] ms e = refl
next_flags p h (w ∷ ws) ms e = absurd (omega arith)

pub next_done : (p : Item → Bool) (h : Bool) (i : Iter Bool) (j : Iter CodeStep)
    → ((x : Iter Bool) × ((length i.rest.now ≡ 0) × (x ≡ i))) ⊎ ((x : Iter CodeStep) × ((length j.rest.now ≡ 0) × (x ≡ j))) → next p h i.rest.now (path_of j.rest.now) ≡ h ∷ []
next_done p h i j (inl x) = next_flags p h i.rest.now (path_of j.rest.now) x.1.0
next_done p h i j (inr x) = next_past p h i.rest.now j.rest.now x.1.0

pub one_flag : (h : Bool) → list_any (λ b. b) (h ∷ []) ≡ h
one_flag true = refl
one_flag false = refl

pub size-list : (xs : List Val) → size (list (trees (list_tree xs))) ≡ length xs
size-list [] = refl
size-list (x ∷ xs) = ap suc (size-list xs)

-- what was found, with the places of one more member and then those of the rest
joined : (found more rest : List Location) → (found ++ more) ++ rest ≡ found ++ (more ++ rest)
joined found more rest = append_assoc found more rest

pub item_step : (found after : List Location) (above : Location) (ws below : List Bool) (ms : Path) (xs : List Val) (i : ℕ) (x : Val)
    → i < length xs → x ≡ get_or xs i x
    → below ≡ next (selects (length xs) (Pos i) (tree x)) false ws ms
    → after ≡ found ++ reached (above ++ Pos i ∷ []) below ms (tree x) (trails (tree x))
    → after ++ reached above ws ms (list (trees (list_tree xs))) (item_trails (i + 1) (trees (list_tree (drop (i + 1) xs))))
    ≡ found ++ reached above ws ms (list (trees (list_tree xs))) (item_trails i (trees (list_tree (drop i xs))))
item_step found after above ws below ms xs i x here at next_is walked =
    let v = list (trees (list_tree xs)) in
    let left = at_drop_more (λ vs. item_trails i (trees (list_tree vs))) xs i x here in
    let first = left ∙ ap (λ y. item_trails i (trees (list_tree (y ∷ drop (i + 1) xs)))) (sym at) in
    let split = reached_item above ws ms v i (tree x) (trees (list_tree (drop (i + 1) xs))) in
    let below_is = next_is ∙ ap (λ n. next (selects n (Pos i) (tree x)) false ws ms) (sym (size-list xs)) in
    ap (λ r. r ++ reached above ws ms v (item_trails (i + 1) (trees (list_tree (drop (i + 1) xs))))) (walked ∙ ap (λ b. found ++ reached (above ++ Pos i ∷ []) b ms (tree x) (trails (tree x))) below_is)
    ∙ append_assoc found _ _
    ∙ ap (λ r. found ++ r) (ap (λ k. reached (above ++ Pos i ∷ []) (next (selects (size v) (Pos i) (tree x)) false ws ms) ms (tree x) (trails (tree x)) ++ reached above ws ms v (item_trails k (trees (list_tree (drop (i + 1) xs))))) (add-one i) ∙ sym split)
    ∙ ap (λ ls. found ++ reached above ws ms v ls) (sym first)

pub pair_step : (found after : List Location) (above : Location) (ws below : List Bool) (ms : Path) (f : Fields) (es left : List Entry) (n : List ℕ) (e : Entry)
    → es ≡ e ∷ left → n ≡ e.0
    → below ≡ next (selects 0 (Name n) (tree e.1)) false ws ms
    → after ≡ found ++ reached (above ++ Name n ∷ []) below ms (tree e.1) (trails (tree e.1))
    → after ++ reached above ws ms (object (fields f)) (pair_trails (entries_tree left))
    ≡ found ++ reached above ws ms (object (fields f)) (pair_trails (entries_tree es))
pair_step found after above ws below ms f es left n e at name_is next_is walked =
    let v = object (fields f) in
    let split = reached_pair above ws ms v n (tree e.1) (entries_tree left) in
    ap (λ r. r ++ reached above ws ms v (pair_trails (entries_tree left))) (walked ∙ ap (λ b. found ++ reached (above ++ Name n ∷ []) b ms (tree e.1) (trails (tree e.1))) next_is)
    ∙ append_assoc found _ _
    ∙ ap (λ r. found ++ r) (sym split)
    ∙ ap (λ k. found ++ reached above ws ms v (pair_trails (more_pairs k (tree e.1) (entries_tree left)))) name_is
    ∙ ap (λ ls. found ++ reached above ws ms v (pair_trails (entries_tree ls))) (sym at)

-- the last part leaves again
pub popped : (above now after : Location) (x : Part) (n : ℕ) → now ≡ above ++ x ∷ [] → n ≡ length now → after ≡ take (n - 1) now → after ≡ above
popped above now after x n is count rest =
    let k : n - 1 ≡ length above = rw (count, is, length-append) (omega arith) in
    rest ∙ ap (λ j. take j now) k ∙ ap (λ r. take (length above) r) is ∙ take-append_seam above (x ∷ [])

-- what was found at a value: the value itself, and what is inside
pub arrived : (found here after : List Location) (given above : Location) (ws : List Bool) (ss : List CodeStep) (v : Tree) (ls : List Trail)
    → given ≡ above → here ≡ found ++ cond (unwrap_or (slice_get ws (length ss)) false) (given ∷ []) []
    → after ≡ here ++ reached above ws (path_of ss) v ls → after ≡ found ++ reached above ws (path_of ss) v ([] ∷ ls)
arrived found here after given above ws ss v ls same at inside =
    inside ∙ ap (λ r. r ++ reached above ws (path_of ss) v ls) (at ∙ ap (λ a. found ++ cond (unwrap_or (slice_get ws (length ss)) false) (a ∷ []) []) same) ∙ append_assoc found _ _
    ∙ ap (λ k. found ++ (cond (unwrap_or (slice_get ws k) false) (above ∷ []) [] ++ reached above ws (path_of ss) v ls)) (sym (length-map ss step_of))
    ∙ ap (λ r. found ++ r) (sym (reached_here above ws (path_of ss) v ls))

-- the same where nothing is reached inside
pub alone : (found here : List Location) (given above : Location) (ws : List Bool) (ss : List CodeStep) (v : Tree) (ls : List Trail)
    → given ≡ above → here ≡ found ++ cond (unwrap_or (slice_get ws (length ss)) false) (given ∷ []) [] → trails v ≡ [] ∷ ls → reached above ws (path_of ss) v ls ≡ []
    → here ≡ found ++ reached above ws (path_of ss) v (trails v)
alone found here given above ws ss v ls same at trails_are none =
    arrived found here here given above ws ss v ls same at (sym (ap (λ r. here ++ r) none ∙ append-nil here)) ∙ ap (λ ks. found ++ reached above ws (path_of ss) v ks) (sym trails_are)

-- so it is where no rest with a step waits
pub at_end : (found here : List Location) (given above : Location) (ws : List Bool) (ss : List CodeStep) (v : Tree)
    → given ≡ above → here ≡ found ++ cond (unwrap_or (slice_get ws (length ss)) false) (given ∷ []) [] → list_any (λ b. b) (take (length ss) ws) ≡ false
    → here ≡ found ++ reached above ws (path_of ss) v (trails v)
at_end found here given above ws ss v same at none =
    let inside = none_inside above ws (path_of ss) v (ap (λ n. list_any (λ b. b) (take n ws)) (length-map ss step_of) ∙ none) v in
    alone found here given above ws ss v inside.0 same at inside.1 inside.2

pub trails-Null : trails (tree val.Null) ≡ [] ∷ []
trails-Null = search (rules, the_lemmas)

pub trails-Bool : (b : Bool) → trails (tree (val.Bool b)) ≡ [] ∷ []
trails-Bool b = search (rules, the_lemmas)

pub trails-Num : (n : ℤ) → trails (tree (val.Num n)) ≡ [] ∷ []
trails-Num n = search (rules, the_lemmas)

pub trails-Text : (s : List ℕ) → trails (tree (val.Text s)) ≡ [] ∷ []
trails-Text s = search (rules, the_lemmas)

pub on_ok : {T E : Type 0} (r : Result T E) (P Q : Type 0) → (P → Q) → OnOk r P → OnOk r Q
on_ok (Ok x) P Q f h = f h
on_ok (Err e) P Q f h = h

-- nothing is reached where nothing waits
pub none_reached : (found : List Location) (above : Location) (ws : List Bool) (ms : Path) (v : Tree) (ls : List Trail) → list_any (λ b. b) ws ≡ false → found ≡ found ++ reached above ws ms v ls
none_reached found above ws ms v ls h = sym (ap (λ r. found ++ r) (reached_none above ws ms v ls h) ∙ append-nil found)

-- the walk from a value, with the whole path waiting
pub whole : (after found : List Location) (above : Location) (ss : List CodeStep) (v : Tree)
    → found ≡ [] → after ≡ found ++ reached above (true ∷ []) (path_of ss) v (trails v) → after ≡ map (λ l. above ++ l) (places (path_of ss) v)
whole after found above ss v none walked =
    walked ∙ ap (λ f. f ++ reached above (true ∷ []) (path_of ss) v (trails v)) none ∙ reached_start above (path_of ss) v (trails v)
