-- The targets of a path that is written as a text lie below the document itself.
use Rattle.std.proofs.Common.{◌≡◌, ℕ, List, [], ◌∷◌, ◌++◌, map, reverse, filter, Bool, true, false, ◌&&◌, ◌||◌, not, cond, Some, None, refl, sym, ap, subst, ◌∙◌}
use Rattle.std.proofs.lemmas.List.{reverse-reverse}
use Rattle.std.specs.List.{list_any, list_all}
use Rattle.std.proofs.lemmas.Bool.{and_from}
use Rattle.cs_value.specs.Tree.{Tree}
use Rattle.cs_jsonmatch.specs.Path.{Path}
use Rattle.cs_jsonmatch.specs.Grammar.{IsPath, first_name, first_bracket, first_deep_name, first_deep_bracket, next_name, next_bracket, next_deep_name, next_deep_bracket}
use Rattle.cs_jsonmatch.specs.Places.{Location, Trail, parts, trails, leads, places}
use Rattle.cs_jsonmatch.specs.Verdict.{spelled, IsPathRead, path_verdict}
use Rattle.cs_jsonmatch.specs.declared.places.Part.TheVariants.{Name}
use Rattle.cs_alter.specs.Within.{at, Reach, present, absent, blocked, reach, is_inside}
use Rattle.cs_targets.specs.Targets.{if_some, plain_name, cut, run_of, prefix_of, Target, location, target_by, targets_from, made_targets, place_targets}
use Rattle.cs_view.proofs.Booleans.{and-left, and-right}
use Rattle.cs_patch.proofs.Kept.{is_below}

abbrev pub starts : {A : Type 0} → List A → Bool
starts [] = false
starts (x ∷ xs) = true

abbrev pub is_under : Target → Bool
is_under t = is_below (location t)

abbrev pub is_placed : Target → Bool
is_placed t = is_below t.place

starts-push : {A : Type 0} (xs : List A) (x : A) → starts (xs ++ x ∷ []) ≡ true
starts-push [] x = refl
starts-push (y ∷ ys) x = refl

starts-path : {w : List ℕ} {p : Path} → IsPath w p → starts p ≡ true
starts-path (first_name w n) = refl
starts-path (first_bracket w is b) = refl
starts-path (first_deep_name w n) = refl
starts-path (first_deep_bracket w is b) = refl
starts-path (next_name u w p h n) = starts-push p _
starts-path (next_bracket u w p is h b) = starts-push p _
starts-path (next_deep_name u w p h n) = starts-push p _
starts-path (next_deep_bracket u w p is h b) = starts-push p _

-- a path that a text is has a step
pub spelled-starts : ((text : List ℕ) → IsPathRead text (path_verdict text))
    → (text : List ℕ) (p : Path) → path_verdict text ≡ spelled p → starts p ≡ true
spelled-starts read text p h = starts-path (subst (IsPathRead text) h (read text))

by_end : {A : Type 0} (xs ys : List A) → starts xs ≡ true → reverse xs ≡ ys → starts ys ≡ true
by_end xs [] h e = sym (ap starts (sym (reverse-reverse xs) ∙ ap reverse e)) ∙ h
by_end xs (y ∷ ys) h e = refl

starts-reverse : {A : Type 0} (xs : List A) → starts xs ≡ true → starts (reverse xs) ≡ true
starts-reverse xs h = by_end xs (reverse xs) h refl

-- a test that all pass
all_pass : {A : Type 0} (p : A → Bool) → ((x : A) → p x ≡ true) → (xs : List A) → list_all p xs ≡
    true
all_pass p h [] = refl
all_pass p h (x ∷ xs) = ap (λ b. b && list_all p xs) (h x) ∙ all_pass p h xs

pub all-both : {A : Type 0} (p : A → Bool) (xs ys : List A)
    → list_all p xs ≡ true → list_all p ys ≡ true → list_all p (xs ++ ys) ≡ true
all-both p [] ys g h = h
all-both p (x ∷ xs) ys g h =
    and_from (p x) (list_all p (xs ++ ys)) (and-left (p x) (list_all p xs) g)
    (all-both p xs ys (and-right (p x) (list_all p xs) g) h)

pub all-filtered : {A : Type 0} (p q : A → Bool) (xs : List A)
    → list_all p xs ≡ true → list_all p (filter q xs) ≡ true
all-filtered p q [] h = refl
all-filtered p q (x ∷ xs) h =
    let rest = all-filtered p q xs (and-right (p x) (list_all p xs) h) in
    elim (q x) as (λ b. list_all p (cond b (x ∷ filter q xs) (filter q xs)) ≡ true) [
      | true ↦ and_from (p x) (list_all p (filter q xs)) (and-left (p x) (list_all p xs) h) rest
      | false ↦ rest
    ]

-- no step leads to the value itself
led-below : (p : Trail → Bool) → p [] ≡ false → (ls : List Trail)
    → list_all is_below (map parts (filter p ls)) ≡ true
led-below p h [] = refl
led-below p h ([] ∷ ls) =
    ap (λ b. list_all is_below (map parts (cond b ([] ∷ filter p ls) (filter p ls)))) h
    ∙ led-below p h ls
led-below p h ((e ∷ l) ∷ ls) =
    elim (p (e ∷ l)) as (λ b. list_all is_below (map parts (cond b ((e ∷ l) ∷ filter p ls)
    (filter p ls))) ≡ true) [
      | true ↦ led-below p h ls
      | false ↦ led-below p h ls
    ]

places-below : (ss : Path) (v : Tree) → starts ss ≡ true → list_all is_below (places ss v) ≡ true
places-below [] v h = cc
places-below (s ∷ ss) v h = led-below (leads (s ∷ ss) v) refl (trails v)

further : (m : Location) (ls : List Location)
    → list_all is_below ls ≡ true → list_all (λ l. is_below (l ++ m)) ls ≡ true
further m [] h = refl
further m ([] ∷ ls) h = cc
further m ((x ∷ l) ∷ ls) h = further m ls h

named : (n : List ℕ) (ns : List (List ℕ)) (l : Location) → is_below (l ++ map Name (n ∷ ns)) ≡ true
named n ns [] = refl
named n ns (x ∷ l) = refl

-- where there are names, or steps before them
made_below : (ns : List (List ℕ)) (ss : Path) (v : Tree) → (starts ns || starts ss) ≡ true
    → list_all (λ l. is_below (l ++ map Name ns)) (places (reverse ss) v) ≡ true
made_below [] ss v h = further [] (places (reverse ss) v) (places-below (reverse ss) v
    (starts-reverse ss h))
made_below (n ∷ ns) ss v h = all_pass (λ l. is_below (l ++ map Name (n ∷ ns))) (named n ns)
    (places (reverse ss) v)

run_starts : (n : List ℕ) (ns : List (List ℕ)) (ss : Path) → starts (cut (n ∷ ns) ss).0 ≡ true
run_starts n ns [] = refl
run_starts n ns (s ∷ ss) =
    elim (plain_name s) as (λ o. starts (if_some (λ m. cut (m ∷ n ∷ ns) ss) (n ∷ ns, s ∷ ss) o).0
    ≡ true) [
      | None ↦ refl
      | Some m ↦ run_starts m (n ∷ ns) ss
    ]

cut_starts : (ss : Path) → starts ss ≡ true → (starts (cut [] ss).0 || starts (cut [] ss).1) ≡ true
cut_starts [] h = cc
cut_starts (s ∷ ss) h =
    elim (plain_name s) as (λ o. (starts (if_some (λ n. cut (n ∷ []) ss) ([], s ∷ ss) o).0 ||
    starts (if_some (λ n. cut (n ∷ []) ss) ([], s ∷ ss) o).1) ≡ true) [
      | None ↦ refl
      | Some n ↦ ap (λ b. b || starts (cut (n ∷ []) ss).1) (run_starts n [] ss)
    ]

-- each target is as asked where the places are
from_each : (ok : Target → Bool) (fit : Location → Bool) (v : Tree) (ns : List (List ℕ))
    → ((l : Location) (r : Reach) → fit l ≡ true → list_all ok (target_by l ns r) ≡ true)
    → (ls : List Location) → list_all fit ls ≡ true → list_all ok (targets_from v ns ls) ≡ true
from_each ok fit v ns one [] h = refl
from_each ok fit v ns one (l ∷ ls) h =
    all-both ok (if_some (λ t. target_by l ns (reach ns t)) [] (at l v)) (targets_from v ns ls)
    (elim (at l v) as (λ o. list_all ok (if_some (λ t. target_by l ns (reach ns t)) [] o) ≡
    true) [
      | None ↦ refl
      | Some t ↦ one l (reach ns t) (and-left (fit l) (list_all fit ls) h)
    ])
    (from_each ok fit v ns one ls (and-right (fit l) (list_all fit ls) h))

target-below : (ns : List (List ℕ)) (l : Location) (r : Reach)
    → is_below (l ++ map Name ns) ≡ true → list_all is_under (target_by l ns r) ≡ true
target-below ns l (present t) h = ap (λ b. b && true) h
target-below ns l absent h = ap (λ b. b && true) h
target-below ns l blocked h = refl

target-placed : (ns : List (List ℕ)) (l : Location) (r : Reach)
    → is_below l ≡ true → list_all is_placed (target_by l ns r) ≡ true
target-placed ns l (present t) h = ap (λ b. b && true) h
target-placed ns l absent h = ap (λ b. b && true) h
target-placed ns l blocked h = refl

pub made-below : (ss : Path) (v : Tree) → starts ss ≡ true
    → list_all is_under (made_targets ss v) ≡ true
made-below ss v h =
    let c = cut [] (reverse ss) in
    let ts = targets_from v (run_of ss) (places (prefix_of ss) v) in
    all-filtered is_under (λ t. not (list_any (λ u. is_inside (location t) (location u)) ts)) ts
    (from_each is_under (λ l. is_below (l ++ map Name (run_of ss))) v (run_of ss)
    (target-below (run_of ss)) (places (prefix_of ss) v)
    (made_below c.0 c.1 v (cut_starts (reverse ss) (starts-reverse ss h))))

pub place-below : (ss : Path) (v : Tree) → starts ss ≡ true
    → list_all is_placed (place_targets ss v) ≡ true
place-below ss v h =
    let ts = targets_from v [] (places ss v) in
    all-filtered is_placed (λ t. not (list_any (λ u. is_inside (location t) (location u)) ts)) ts
    (from_each is_placed is_below v [] (target-placed []) (places ss v) (places-below ss v h))
