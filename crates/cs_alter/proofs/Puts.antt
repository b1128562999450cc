-- Items put into a list: the marks of positions, and what is left of the list.
use Rattle.std.proofs.Common.{◌≡◌, ◌<◌, ◌≤◌, ◌+◌, ℕ, zero, suc, min, pos, negsuc, List, [], ◌∷◌, ◌++◌, Bool, true, false, ◌||◌, cond, Some, length, get_or, take, drop, nat_eq, refl, sym, ap, ◌∙◌, arith}
use Rattle.std.specs.List.{list_any}
use Rattle.std.proofs.lemmas.Bool.Decides.{nat_tests}
use Rattle.std.proofs.lemmas.List.{at_drop_more, take_min, drop_min}
use Rattle.cs_value.specs.Tree.{Tree, list, trees}
use Rattle.cs_value.specs.View.{tree, list_tree}
use Rattle.cs_value.specs.declared.val.Val.{Val}
use Rattle.cs_value.proofs.Views.{members-trees}
use Rattle.cs_jsonmatch.specs.Path.{Item, position, range, every, named, meets, Step, Path}
use Rattle.cs_alter.specs.Inserted.{Side, before, after, replace, positions, into_empty, unmatched, by_matched, matched, inserted, insert_into}
use Rattle.cs_jsonmatch.specs.Places.{Location, places}
use Rattle.cs_alter.specs.Insertions.{takes, put_in, unmarked, Marks}
use Rattle.cs_alter.specs.Alterations.{sole, inserted_by_step, inserted_by}

unmarked-first : {A : Type 0} (m : Bool) (ms : List Bool) (x : A) (xs : List A)
    → unmarked (m ∷ ms) (x ∷ xs) ≡ cond m (unmarked ms xs) (x ∷ unmarked ms xs)
unmarked-first true ms x xs = refl
unmarked-first false ms x xs = refl

unmarked-tree : (ms : List Bool) (vs : List Val)
    → list_tree (unmarked ms vs) ≡ unmarked ms (list_tree vs)
unmarked-tree ms [] = refl
unmarked-tree [] (v ∷ vs) = refl
unmarked-tree (true ∷ ms) (v ∷ vs) = unmarked-tree ms vs
unmarked-tree (false ∷ ms) (v ∷ vs) = ap (λ ts. tree v ∷ ts) (unmarked-tree ms vs)

-- what the marks leave is what the positions do not match
unmatched-marked : (ks : List ℕ) (marks : List Bool) (k : ℕ) (ts : List Tree) (count : ℕ)
    → Marks count ks marks → k + length ts ≡ count
    → unmarked (drop k marks) ts ≡ unmatched ks k ts
unmatched-marked ks marks k [] count m h = refl
unmatched-marked ks marks k (t ∷ ts) count m h =
    let here : k < count = omega arith in
    let long = m.long in
    let there : k < length marks = omega arith in
    let on : k + 1 ≡ suc k = omega arith in
    at_drop_more (λ ms. unmarked ms (t ∷ ts)) marks k false there
    ∙ unmarked-first (get_or marks k false) (drop (k + 1) marks) t ts
    ∙ ap (λ b. cond b (unmarked (drop (k + 1) marks) ts) (t ∷ unmarked (drop (k + 1) marks) ts))
    (m.each k here)
    ∙ ap (λ us. cond (list_any (nat_eq k) ks) us (t ∷ us))
    (ap (λ j. unmarked (drop j marks) ts) on
    ∙ unmatched-marked ks marks (suc k) ts count m (omega arith))

-- a position before those of the list matches none of them
unmatched-past : (k j : ℕ) (ks : List ℕ) (ts : List Tree) → k < j
    → unmatched (k ∷ ks) j ts ≡ unmatched ks j ts
unmatched-past k j ks [] h = refl
unmatched-past k j ks (t ∷ ts) h =
    let other : nat_eq j k ≡ false = grind (arith, nat_tests) in
    ap (λ b. cond (b || list_any (nat_eq j) ks) (unmatched (k ∷ ks) (suc j) ts)
    (t ∷ unmatched (k ∷ ks) (suc j) ts)) other
    ∙ ap (λ us. cond (list_any (nat_eq j) ks) us (t ∷ us))
    (unmatched-past k (suc j) ks ts (omega arith))

unmatched-first : (k : ℕ) (ks : List ℕ) (ts : List Tree)
    → unmatched (k ∷ ks) k ts ≡ unmatched ks (suc k) (drop 1 ts)
unmatched-first k ks [] = refl
unmatched-first k ks (t ∷ ts) =
    let same : nat_eq k k ≡ true = grind (arith, nat_tests) in
    ap (λ b. cond (b || list_any (nat_eq k) ks) (unmatched (k ∷ ks) (suc k) ts)
    (t ∷ unmatched (k ∷ ks) (suc k) ts)) same
    ∙ unmatched-past k (suc k) ks ts (omega arith)

next : (k : ℕ) (ts : List Tree) → drop 1 (drop k ts) ≡ drop (suc k) ts
next zero [] = refl
next zero (t ∷ ts) = refl
next (suc k) [] = refl
next (suc k) (t ∷ ts) = next k ts

unmatched-rest : (k : ℕ) (ks : List ℕ) (ts : List Tree)
    → unmatched (k ∷ ks) k (drop k ts) ≡ unmatched ks (suc k) (drop (suc k) ts)
unmatched-rest k ks ts =
    unmatched-first k ks (drop k ts) ∙ ap (unmatched ks (suc k)) (next k ts)

drop-tree : (k : ℕ) (vs : List Val) → list_tree (drop k vs) ≡ drop k (list_tree vs)
drop-tree zero vs = refl
drop-tree (suc k) [] = refl
drop-tree (suc k) (v ∷ vs) = drop-tree k vs

take-tree : (k : ℕ) (vs : List Val) → list_tree (take k vs) ≡ take k (list_tree vs)
take-tree zero vs = refl
take-tree (suc k) [] = refl
take-tree (suc k) (v ∷ vs) = ap (λ ts. tree v ∷ ts) (take-tree k vs)

append-tree : (us vs : List Val) → list_tree (us ++ vs) ≡ list_tree us ++ list_tree vs
append-tree [] vs = refl
append-tree (u ∷ us) vs = ap (λ ts. tree u ∷ ts) (append-tree us vs)

length-tree : (vs : List Val) → length (list_tree vs) ≡ length vs
length-tree [] = refl
length-tree (v ∷ vs) = ap suc (length-tree vs)

left-tree : (k : ℕ) (vs : List Val) → k ≤ length vs
    → k + length (list_tree (drop k vs)) ≡ length vs
left-tree zero vs h = let long = length-tree vs in omega arith
left-tree (suc k) [] h = absurd (omega arith)
left-tree (suc k) (v ∷ vs) h = let rest = left-tree k vs (omega arith) in omega arith

three : (us vs ws : List Val)
    → list_tree ((us ++ vs) ++ ws) ≡ list_tree us ++ list_tree vs ++ list_tree ws
three us vs ws =
    append-tree (us ++ vs) ws ∙ ap (λ ts. ts ++ list_tree ws) (append-tree us vs)

-- items put between what stands before a position and the rest
pub put-between : (vs front copies rest joined whole : List Val) (new : List Tree) (k at : ℕ)
    → at ≡ min k (length vs) → front ≡ take at vs → rest ≡ drop at vs → list_tree copies ≡ new
    → joined ≡ front ++ copies → whole ≡ joined ++ rest
    → list_tree whole ≡ take k (list_tree vs) ++ new ++ drop k (list_tree vs)
put-between vs front copies rest joined whole new k at cut front_is rest_is new_is joined_is is =
    let first : front ≡ take k vs = front_is ∙ ap (λ j. take j vs) cut ∙ take_min k vs in
    let last : rest ≡ drop k vs = rest_is ∙ ap (λ j. drop j vs) cut ∙ drop_min k vs in
    ap list_tree (is ∙ ap (λ us. us ++ rest) joined_is) ∙ three front copies rest
    ∙ ap (λ us. list_tree us ++ list_tree copies ++ list_tree rest) first
    ∙ ap (λ ts. list_tree (take k vs) ++ ts ++ list_tree rest) new_is
    ∙ ap (λ us. list_tree (take k vs) ++ new ++ list_tree us) last
    ∙ ap (λ ts. ts ++ new ++ list_tree (drop k vs)) (take-tree k vs)
    ∙ ap (λ ts. take k (list_tree vs) ++ new ++ ts) (drop-tree k vs)

-- from a position, or from the end
unmatched-min : (ks : List ℕ) (j k : ℕ) (ts : List Tree)
    → unmatched ks (j + min k (length ts)) (drop (min k (length ts)) ts)
    ≡ unmatched ks (j + k) (drop k ts)
unmatched-min ks j zero ts =
    let on : min zero (length ts) ≡ zero = omega arith in
    ap (λ m. unmatched ks (j + m) (drop m ts)) on
unmatched-min ks j (suc k) [] =
    let on : min (suc k) 0 ≡ zero = omega arith in
    ap (λ m. unmatched ks (j + m) (drop m [])) on
unmatched-min ks j (suc k) (t ∷ ts) =
    let on : min (suc k) (length (t ∷ ts)) ≡ suc (min k (length ts)) = omega arith in
    let shift : j + suc (min k (length ts)) ≡ suc j + min k (length ts) = omega arith in
    let back : suc j + k ≡ j + suc k = omega arith in
    ap (λ m. unmatched ks (j + m) (drop m (t ∷ ts))) on
    ∙ ap (λ m. unmatched ks m (drop (min k (length ts)) ts)) shift
    ∙ unmatched-min ks (suc j) k ts ∙ ap (λ m. unmatched ks m (drop k ts)) back

-- items put in the stead of the marked ones
pub put-instead : (vs front copies rest joined whole : List Val) (new : List Tree) (ks : List ℕ)
    (marks left : List Bool) (k at count : ℕ)
    → count ≡ length vs → Marks count ks marks → at ≡ min k (length vs)
    → front ≡ take at vs → rest ≡ drop at vs → list_tree copies ≡ new
    → joined ≡ front ++ copies → left ≡ drop at marks → whole ≡ joined ++ unmarked left rest
    → list_tree whole
    ≡ take k (list_tree vs) ++ new ++ unmatched ks k (drop k (list_tree vs))
put-instead vs front copies rest joined whole new ks marks left k at count long m cut front_is
    rest_is new_is joined_is left_is is =
    let first : front ≡ take k vs = front_is ∙ ap (λ j. take j vs) cut ∙ take_min k vs in
    let low : at ≤ length vs = omega arith in
    let size : at + length (list_tree (drop at vs)) ≡ count = left-tree at vs low ∙ sym long in
    let same : length (list_tree vs) ≡ length vs = length-tree vs in
    let cut_tree : at ≡ min k (length (list_tree vs)) = cut ∙ ap (min k) (sym same) in
    let start : at ≡ 0 + at = omega arith in
    let end : 0 + k ≡ k = omega arith in
    let after : list_tree (unmarked left rest) ≡ unmatched ks k (drop k (list_tree vs)) =
    ap (λ us. list_tree (unmarked left us)) rest_is
    ∙ ap (λ ms. list_tree (unmarked ms (drop at vs))) left_is
    ∙ unmarked-tree (drop at marks) (drop at vs)
    ∙ unmatched-marked ks marks at (list_tree (drop at vs)) count m size
    ∙ ap (unmatched ks at) (drop-tree at vs)
    ∙ ap (λ j. unmatched ks j (drop at (list_tree vs))) start
    ∙ ap (λ j. unmatched ks (0 + j) (drop j (list_tree vs))) cut_tree
    ∙ unmatched-min ks 0 k (list_tree vs)
    ∙ ap (λ j. unmatched ks j (drop k (list_tree vs))) end in
    ap list_tree (is ∙ ap (λ us. us ++ unmarked left rest) joined_is)
    ∙ three front copies (unmarked left rest)
    ∙ ap (λ us. list_tree us ++ list_tree copies ++ list_tree (unmarked left rest)) first
    ∙ ap (λ ts. list_tree (take k vs) ++ ts ++ list_tree (unmarked left rest)) new_is
    ∙ ap (λ ts. list_tree (take k vs) ++ new ++ ts) after
    ∙ ap (λ ts. ts ++ new ++ unmatched ks k (drop k (list_tree vs))) (take-tree k vs)

pub replaced : (ks : List ℕ) (k : ℕ) (js : List ℕ) (new ts us : List Tree) → ks ≡ k ∷ js
    → us ≡ take k ts ++ new ++ unmatched ks k (drop k ts) → us ≡ by_matched ks replace new ts
replaced ks k js new ts us e is =
    is ∙ ap (λ is. take k ts ++ new ++ unmatched is k (drop k ts)) e
    ∙ ap (λ vs. take k ts ++ new ++ vs) (unmatched-rest k js ts)
    ∙ ap (λ is. by_matched is replace new ts) (sym e)

-- an empty list
pub end-is : (side : Side) (is : List Item) (new : List Tree)
    → cond (takes side (sole is)) new [] ≡ into_empty side is new
end-is before [] new = refl
end-is after [] new = refl
end-is replace [] new = refl
end-is before (position (pos zero) ∷ []) new = refl
end-is before (position (pos (suc n)) ∷ []) new = refl
end-is before (position (negsuc n) ∷ []) new = refl
end-is before (range a b ∷ []) new = refl
end-is before (every ∷ []) new = refl
end-is before (named n ∷ []) new = refl
end-is before (meets ns c t ∷ []) new = refl
end-is after (position (pos n) ∷ []) new = refl
end-is after (position (negsuc zero) ∷ []) new = refl
end-is after (position (negsuc (suc n)) ∷ []) new = refl
end-is after (range a b ∷ []) new = refl
end-is after (every ∷ []) new = refl
end-is after (named n ∷ []) new = refl
end-is after (meets ns c t ∷ []) new = refl
end-is replace (i ∷ []) new = refl
end-is before (position (pos zero) ∷ i ∷ is) new = refl
end-is before (position (pos (suc n)) ∷ i ∷ is) new = refl
end-is before (position (negsuc n) ∷ i ∷ is) new = refl
end-is before (range a b ∷ i ∷ is) new = refl
end-is before (every ∷ i ∷ is) new = refl
end-is before (named n ∷ i ∷ is) new = refl
end-is before (meets ns c t ∷ i ∷ is) new = refl
end-is after (position (pos n) ∷ i ∷ is) new = refl
end-is after (position (negsuc zero) ∷ i ∷ is) new = refl
end-is after (position (negsuc (suc n)) ∷ i ∷ is) new = refl
end-is after (range a b ∷ i ∷ is) new = refl
end-is after (every ∷ i ∷ is) new = refl
end-is after (named n ∷ i ∷ is) new = refl
end-is after (meets ns c t ∷ i ∷ is) new = refl
end-is replace (i ∷ j ∷ is) new = refl

-- a list with the items in it is the list that the step's matches make
put_in-is : (side : Side) (s : Step) (new ts : List Tree)
    → put_in side s.items (matched s ts) new ts ≡ inserted side s new ts
put_in-is side s new [] = refl
put_in-is side s new (t ∷ ts) = refl

put-into : (side : Side) (s : Step) (ks : List ℕ) (new us : List Tree) (vs : List Val)
    → ks ≡ matched s (list_tree vs)
    → us ≡ put_in side s.items ks new (list_tree vs)
    → list (trees us) ≡ insert_into side s new (list (trees (list_tree vs)))
put-into side s ks new us vs found is =
    ap (λ ts. list (trees ts)) (is ∙ ap (λ js. put_in side s.items js new (list_tree vs)) found
    ∙ put_in-is side s new (list_tree vs)
    ∙ ap (inserted side s new) (sym (members-trees (list_tree vs))))

sole-is : (p : Path) (s : Step) → Some s ≡ sole p → p ≡ s ∷ []
sole-is [] s h = absurd cc
sole-is (x ∷ []) s h = cc
sole-is (x ∷ y ∷ p) s h = absurd cc

-- a list with the items put in by the only step of a path
pub put_by_step : (side : Side) (s : Step) (p : Path) (ks : List ℕ) (ls : List Location)
    (new us : List Tree) (vs : List Val) (t : Tree)
    → Some s ≡ sole p → t ≡ list (trees (list_tree vs)) → ls ≡ places p t → ks ≡ positions ls
    → us ≡ put_in side s.items ks new (list_tree vs)
    → list (trees us) ≡ inserted_by side p new t
put_by_step side s p ks ls new us vs t only is found begin put =
    let at : ks ≡ matched s (list_tree vs) =
    begin ∙ ap positions (found ∙ ap (places p) is
    ∙ ap (λ q. places q (list (trees (list_tree vs)))) (sole-is p s only)) in
    put-into side s ks new us vs at put ∙ ap (insert_into side s new) (sym is)
    ∙ ap (inserted_by_step side new t) only
