-- The walks that seek the first dangling reference.
use Rattle.std.proofs.Common.{◌≡◌, ℕ, suc, ◌≤◌, ◌<◌, ◌↔◌, List, [], ◌∷◌, ◌++◌, map, length, drop, get_or, ◌+◌, Bool, true, false, not, ◌&&◌, ◌||◌, cond, Option, Some, None, is_some, option_map, option_and_then, Less, refl, sym, ap, subst, ◌∙◌, arith}
use Rattle.std.specs.List.{filter, list_any, AllByRecursion}
use Rattle.std.specs.Ordering.{is_eq, is_lt}
use Rattle.std.specs.Cmp.{tied_itself}
use Rattle.std.proofs.lemmas.Cmp.{nat_list_cmp_total}
use Rattle.std.specs.FinMap.Entries.{find, below_all}
use Rattle.cs_value.specs.Tree.{Tree}
use Rattle.cs_view.specs.Document.{id_of}
use Rattle.cs_view.specs.Dataset.{id_cmp, standing, ascending}
use Rattle.std.proofs.lemmas.List.{drop_more, drop_all}
use Rattle.std.proofs.lemmas.Bool.{and_left, and_right}
use Rattle.cs_view.specs.View.{edit, edits}
use Rattle.cs_view.specs.declared.change.Change.{Change}
use Rattle.cs_view.specs.Changes.{Edit, ids_ascend, are_changes, after_changes, after_of}
use Rattle.cs_view.proofs.Booleans.{and-left, and-right}
use Rattle.cs_view.proofs.Datasets.{same_id-refl, standing-id, is_lt-Less}
use Rattle.cs_view.proofs.Changed.{standing-after_changes, ascending-after_changes, own_ids}
use Rattle.cs_view.specs.Keys.{has_ref}
use Rattle.cs_shelf.specs.Referring.{above, next_referrer}
use Rattle.cs_value.specs.Words.{first_of}
use Rattle.cs_docs.specs.References.{strong, missing, clean, dangling_in, first_dangling}
use Rattle.cs_docs.specs.Missing.{first_missing}
use Rattle.cs_docs.specs.Suspects.{is_changed, dangles, is_referrer, at_change, suspected, is_suspect, lesser}
use Rattle.cs_docs.proofs.Filters.{keep, IsBelow, below-head, below-tail, head-below, tail-ascends, above-Greater, first_above, IsAbove, members, filter_same, filter_agree, first_at, first_lesser, first_stands, first_within, none_within}
use Rattle.cs_docs.proofs.Clean.{none-is-clean}
use Rattle.cs_docs.proofs.Joins.{at_one}

above_trans : (a : Option (List ℕ)) (x y : List ℕ) → above a x ≡ true → id_cmp x y ≡ Less → above a y ≡ true
above_trans None x y g l = refl
above_trans (Some k) x y g l = ap is_lt (nat_list_cmp_total.trans k x y (is_lt-Less (id_cmp k x) g) l)

-- above a document, each document is above what it is above
step_below : (h : Tree → Bool) (d : Tree) (ds : List Tree) (a : Option (List ℕ)) → above a (id_of d) ≡ true → IsBelow (id_of d) ds
    → AllByRecursion (λ x. (h x && above a (id_of x)) ≡ (h x && above (Some (id_of d)) (id_of x))) ds
step_below h d [] a up below = tt
step_below h d (e ∷ es) a up below =
    let less : id_cmp (id_of d) (id_of e) ≡ Less = below-head (id_of d) e es below in
    let here : above (Some (id_of d)) (id_of e) ≡ true = ap is_lt less in
    let old : above a (id_of e) ≡ true = above_trans a (id_of d) (id_of e) up less in
    (ap (λ b. h e && b) (old ∙ sym here), step_below h d es a up (below-tail (id_of d) e es below))

not_true : (b : Bool) → ((b ≡ true) → ⊥) → b ≡ false
not_true true h = absurd (h refl)
not_true false h = refl

above_it : (e d : Tree) (o : Option Tree) → IsAbove e o → o ≡ Some d → id_cmp (id_of e) (id_of d) ≡ Less
above_it e d None h is = absurd (cc)
above_it e d (Some x) h is = let s : x ≡ d = cc in subst (λ y. id_cmp (id_of e) (id_of y) ≡ Less) s h

-- once the first document above a that passes r was refused, only those above it are left
pub seen_step : (h r : Tree → Bool) (a : Option (List ℕ)) (ds : List Tree) (d : Tree) → ascending ds ≡ true
    → ((x : Tree) → (h x && above a (id_of x)) ≡ true → r x ≡ true) → ((x : Tree) → r x ≡ true → above a (id_of x) ≡ true)
    → first_of (filter r ds) ≡ Some d → h d ≡ false
    → AllByRecursion (λ x. (h x && above a (id_of x)) ≡ (h x && above (Some (id_of d)) (id_of x))) ds
seen_step h r a [] d asc within up is refused = tt
seen_step h r a (e ∷ es) d asc within up is refused =
    elim (r e) as (λ b. r e ≡ b → first_of (cond b (e ∷ filter r es) (filter r es)) ≡ Some d → AllByRecursion (λ x. (h x && above a (id_of x)) ≡ (h x && above (Some (id_of d)) (id_of x))) (e ∷ es)) [
      | true ↦ λ p g.
          let s : e ≡ d = cc in
          let no_e : h e ≡ false = ap h s ∙ refused in (
            and_left (h e) _ no_e ∙ sym (and_left (h e) _ no_e),
            subst (λ y. AllByRecursion (λ x. (h x && above a (id_of x)) ≡ (h x && above (Some (id_of y)) (id_of x))) es) s (step_below h e es a (up e p) (head-below e es asc)),
          )
      | false ↦ λ p g.
          let less : id_cmp (id_of e) (id_of d) ≡ Less = above_it e d (first_of (filter r es)) (first_above r e es (head-below e es asc)) g in (
            not_true (h e && above a (id_of e)) (λ t. let k = within e t in cc) ∙ sym (and_right (h e) _ (ap is_lt (above-Greater (id_of e) (id_of d) less))),
            seen_step h r a es d (tail-ascends e es asc) within up g refused,
          )
    ] refl is

no_more : {A : Type 0} (p q : A → Bool) (ds : List A) → ((x : A) → p x ≡ true → q x ≡ true) → length (filter p ds) ≤ length (filter q ds)
no_more p q [] within = omega arith
no_more p q (e ∷ es) within =
    let rest = no_more p q es within in
    elim (p e) as (λ b. p e ≡ b → length (cond b (e ∷ filter p es) (filter p es)) ≤ length (cond (q e) (e ∷ filter q es) (filter q es))) [
      | true ↦ λ t. subst (λ b. suc (length (filter p es)) ≤ length (cond b (e ∷ filter q es) (filter q es))) (sym (within e t)) (omega arith)
      | false ↦ λ t. elim (q e) as (λ b. length (filter p es) ≤ length (cond b (e ∷ filter q es) (filter q es))) [ true ↦ omega arith | false ↦ rest ]
    ] refl

fewer : {A : Type 0} (p q r : A → Bool) (ds : List A) (d : A) → ((x : A) → p x ≡ true → q x ≡ true) → first_of (filter r ds) ≡ Some d → q d ≡ true → p d ≡ false → length (filter p ds) < length (filter q ds)
fewer p q r [] d within is passes refused = absurd (cc)
fewer p q r (e ∷ es) d within is passes refused =
    elim (r e) as (λ b. first_of (cond b (e ∷ filter r es) (filter r es)) ≡ Some d → length (cond (p e) (e ∷ filter p es) (filter p es)) < length (cond (q e) (e ∷ filter q es) (filter q es))) [
      | true ↦ λ g.
          let s : e ≡ d = cc in
          let rest = no_more p q es within in
          subst (λ b. length (cond b (e ∷ filter p es) (filter p es)) < length (cond (q e) (e ∷ filter q es) (filter q es))) (sym (ap p s ∙ refused))
          (subst (λ b. length (filter p es) < length (cond b (e ∷ filter q es) (filter q es))) (sym (ap q s ∙ passes)) (omega arith))
      | false ↦ λ g.
          let rest = fewer p q r es d within g passes refused in
          elim (p e) as (λ b. p e ≡ b → length (cond b (e ∷ filter p es) (filter p es)) < length (cond (q e) (e ∷ filter q es) (filter q es))) [
            | true ↦ λ t. subst (λ b. suc (length (filter p es)) < length (cond b (e ∷ filter q es) (filter q es))) (sym (within e t)) (omega arith)
            | false ↦ λ t. elim (q e) as (λ b. length (filter p es) < length (cond b (e ∷ filter q es) (filter q es))) [ true ↦ omega arith | false ↦ rest ]
          ] refl
    ] is

-- the measure of the walk over the referrers
pub fewer_above : (r : Tree → Bool) (a : Option (List ℕ)) (ds : List Tree) (d : Tree) → ((x : Tree) → r x ≡ true → above a (id_of x) ≡ true)
    → first_of (filter r ds) ≡ Some d → above a (id_of d) ≡ true
    → length (filter (λ x. above (Some (id_of d)) (id_of x)) ds) < length (filter (λ x. above a (id_of x)) ds)
fewer_above r a ds d up is passes =
    fewer (λ x. above (Some (id_of d)) (id_of x)) (λ x. above a (id_of x)) r ds d (λ x t. above_trans a (id_of d) (id_of x) passes (is_lt-Less _ t)) is passes
    (ap is_lt (tied_itself nat_list_cmp_total (id_of d)))

-- what the first that passes passes
pub first_passes : {A : Type 0} (r : A → Bool) (ds : List A) (d : A) → first_of (filter r ds) ≡ Some d → r d ≡ true
first_passes r [] d is = absurd (cc)
first_passes r (e ∷ es) d is =
    elim (r e) as (λ b. r e ≡ b → first_of (cond b (e ∷ filter r es) (filter r es)) ≡ Some d → r d ≡ true) [
      | true ↦ λ t g. let s : e ≡ d = cc in ap r (sym s) ∙ t
      | false ↦ λ t g. first_passes r es d g
    ] refl is

middle : (k : List ℕ) (done : List Edit) (c : Edit) (more : List Edit) → below_all id_cmp k (done ++ c ∷ more) ≡ true → id_cmp k c.0 ≡ Less
middle k [] c more h = is_lt-Less _ (and-left _ _ h)
middle k (d ∷ done) c more h = middle k done c more (and-right (is_lt (id_cmp k d.0)) _ h)

-- a change among others is found at its id
pub find_middle : (done : List Edit) (c : Edit) (more : List Edit) → ids_ascend (done ++ c ∷ more) ≡ true → find id_cmp c.0 (done ++ c ∷ more) ≡ Some c.1
find_middle [] c more h = ap (λ b. cond b (Some c.1) (find id_cmp c.0 more)) (same_id-refl c.0)
find_middle (d ∷ done) c more h =
    ap (λ o. cond (is_eq o) (Some d.1) (find id_cmp c.0 (done ++ c ∷ more))) (above-Greater d.0 c.0 (middle d.0 done c more (and-left _ _ h))) ∙ find_middle done c more (and-right (below_all id_cmp d.0 (done ++ c ∷ more)) _ h)

-- a changed document is no referrer
keep_none : (f : Tree → Bool) (cs : List Edit) (target q : List ℕ) (o : Option Tree) → is_changed cs q ≡ true → ((d : Tree) → o ≡ Some d → q ≡ id_of d) → keep (λ d. f d && is_referrer cs target d) o ≡ None
keep_none f cs target q None h at = refl
keep_none f cs target q (Some d) h at =
    let changed : is_changed cs (id_of d) ≡ true = ap (is_changed cs) (sym (at d refl)) ∙ h in
    ap (λ b. cond b (Some d) None) (and_right (f d) (is_referrer cs target d) (and_right (has_ref target d) (not (is_changed cs (id_of d))) (ap not changed)))

-- the unchanged referrers with a dangling reference are those of the dataset before
pub referrer_either : (ds : List Tree) (cs : List Edit) (target : List ℕ) → ascending ds ≡ true → are_changes cs ≡ true
    → filter (λ d. dangles (after_changes ds cs) d && is_referrer cs target d) ds ≡ filter (λ d. dangles (after_changes ds cs) d && is_referrer cs target d) (after_changes ds cs)
referrer_either ds cs target asc changes =
    let own = own_ids cs changes in
    let g : Tree → Bool = λ d. dangles (after_changes ds cs) d && is_referrer cs target d in
    filter_agree g ds (after_changes ds cs) asc (ascending-after_changes ds cs asc) (λ q.
    elim (find id_cmp q cs) as (λ o. find id_cmp q cs ≡ o → keep g (standing q ds) ≡ keep g (standing q (after_changes ds cs))) [
      | None ↦ λ e. ap (keep g) (sym (standing-after_changes q ds cs own ∙ ap (λ f. after_of f (standing q ds)) e))
      | Some s ↦ λ e.
          let changed : is_changed cs q ≡ true = ap is_some e in
          keep_none (dangles (after_changes ds cs)) cs target q (standing q ds) changed (standing-id q ds) ∙ sym (keep_none (dangles (after_changes ds cs)) cs target q (standing q (after_changes ds cs)) changed (standing-id q (after_changes ds cs)))
    ] refl)

-- the first pair is that of the first document with a dangling reference
pub first_pair : (docs ds : List Tree) → first_of (dangling_in docs ds) ≡ option_and_then (λ d. option_map (λ t. (id_of d, t)) (first_of (missing docs d))) (first_of (filter (dangles docs) ds))
first_pair docs [] = refl
first_pair docs (d ∷ ds) =
    elim (missing docs d) as (λ ts. missing docs d ≡ ts → first_of (map (λ t. (id_of d, t)) ts ++ dangling_in docs ds) ≡ option_and_then (λ x. option_map (λ t. (id_of x, t)) (first_of (missing docs x))) (first_of (cond (is_some (first_of ts)) (d ∷ filter (dangles docs) ds) (filter (dangles docs) ds)))) [
      | [] ↦ λ e. first_pair docs ds
      | t ∷ ts ↦ λ e. sym (ap (λ us. option_map (λ u. (id_of d, u)) (first_of us)) e)
    ] refl

-- all that dangles is suspect
suspects_all : (docs ds : List Tree) (cs : List Edit) → clean docs ≡ true → are_changes cs ≡ true → AllByRecursion (λ d. standing (id_of d) (after_changes docs cs) ≡ Some d) ds
    → AllByRecursion (λ d. (dangles (after_changes docs cs) d && is_suspect cs cs d) ≡ dangles (after_changes docs cs) d) ds
suspects_all docs [] cs is_clean h all = tt
suspects_all docs (d ∷ ds) cs is_clean h all = (
  elim (dangles (after_changes docs cs) d) as (λ b. dangles (after_changes docs cs) d ≡ b → (b && is_suspect cs cs d) ≡ b) [
    | true ↦ λ e. at_one docs cs d is_clean (own_ids cs h) all.0 e
    | false ↦ λ e. refl
  ] refl,
  suspects_all docs ds cs is_clean h all.1,
)

pub all_suspects : (docs : List Tree) (cs : List Edit) → ascending docs ≡ true → clean docs ≡ true → are_changes cs ≡ true
    → filter (λ d. dangles (after_changes docs cs) d && is_suspect cs cs d) (after_changes docs cs) ≡ filter (dangles (after_changes docs cs)) (after_changes docs cs)
all_suspects docs cs asc is_clean h =
    filter_same (λ d. dangles (after_changes docs cs) d && is_suspect cs cs d) (dangles (after_changes docs cs)) (after_changes docs cs)
    (suspects_all docs (after_changes docs cs) cs is_clean h (members (after_changes docs cs) (ascending-after_changes docs cs asc)))

none_suspect : (f : Tree → Bool) (ds : List Tree) → filter (λ d. f d && false) ds ≡ []
none_suspect f [] = refl
none_suspect f (d ∷ ds) = elim (f d) as (λ b. cond (b && false) (d ∷ filter (λ d. f d && false) ds) (filter (λ d. f d && false) ds) ≡ []) [ true ↦ none_suspect f ds | false ↦ none_suspect f ds ]

pub suspects_none : (f : Tree → Bool) (cs : List Edit) (ds : List Tree) → first_of (filter (λ d. f d && is_suspect cs [] d) ds) ≡ None
suspects_none f cs ds = ap first_of (none_suspect f ds)

any_push : {A : Type 0} (f : A → Bool) (xs : List A) (x : A) → list_any f (xs ++ x ∷ []) ≡ (list_any f xs || f x)
any_push f [] x = elim (f x) as (λ b. (b || false) ≡ b) [ true ↦ refl | false ↦ refl ]
any_push f (y ∷ ys) x = elim (f y) as (λ b. (b || list_any f (ys ++ x ∷ [])) ≡ ((b || list_any f ys) || f x)) [ true ↦ refl | false ↦ any_push f ys x ]

same_everywhere : {A : Type 0} (f g : A → Bool) (ds : List A) → ((x : A) → f x ≡ g x) → AllByRecursion (λ d. f d ≡ g d) ds
same_everywhere f g [] h = tt
same_everywhere f g (d ∷ ds) h = (h d, same_everywhere f g ds h)

-- one more change was looked at
pub one_more : (f : Tree → Bool) (cs done : List Edit) (c : Edit) (ds : List Tree) → ascending ds ≡ true
    → lesser (first_of (filter (λ d. f d && is_suspect cs done d) ds)) (first_of (filter (λ d. f d && suspected cs d c) ds)) ≡ first_of (filter (λ d. f d && is_suspect cs (done ++ c ∷ []) d) ds)
one_more f cs done c ds asc =
    sym (first_lesser f (is_suspect cs done) (λ d. suspected cs d c) ds asc)
    ∙ ap first_of (filter_same (λ d. f d && (is_suspect cs done d || suspected cs d c)) (λ d. f d && is_suspect cs (done ++ c ∷ []) d) ds
    (same_everywhere _ _ ds (λ d. ap (λ b. f d && b) (sym (any_push (suspected cs d) done c)))))

-- what a change put there is suspect itself
pub put_suspect : (docs : List Tree) (cs : List Edit) (c : Edit) (a : Tree) → ascending docs ≡ true → are_changes cs ≡ true → find id_cmp c.0 cs ≡ Some c.1 → c.1.1 ≡ Some a
    → first_of (filter (λ d. dangles (after_changes docs cs) d && suspected cs d c) (after_changes docs cs)) ≡ cond (dangles (after_changes docs cs) a) (Some a) None
put_suspect docs cs c a asc h there put =
    let f : Tree → Bool = dangles (after_changes docs cs) in
    ap (λ (o : Option Tree). first_of (filter (λ d. f d && at_change cs c.0 o d) (after_changes docs cs))) put
    ∙ first_at f c.0 (after_changes docs cs) (ascending-after_changes docs cs asc)
    ∙ ap (keep f) (standing-after_changes c.0 docs cs (own_ids cs h) ∙ ap (λ g. after_of g (standing c.0 docs)) there ∙ put)

pub taken_suspect : (docs : List Tree) (cs : List Edit) (c : Edit) → ascending docs ≡ true → are_changes cs ≡ true → c.1.1 ≡ None
    → first_of (filter (λ d. dangles (after_changes docs cs) d && suspected cs d c) (after_changes docs cs)) ≡ first_of (filter (λ d. dangles (after_changes docs cs) d && is_referrer cs c.0 d) docs)
taken_suspect docs cs c asc h taken =
    ap (λ (o : Option Tree). first_of (filter (λ d. dangles (after_changes docs cs) d && at_change cs c.0 o d) (after_changes docs cs))) taken
    ∙ ap first_of (sym (referrer_either docs cs c.0 asc h))

pub is_some_map : {A B : Type 0} (f : A → B) (o : Option A) → is_some (option_map f o) ≡ is_some o
is_some_map f None = refl
is_some_map f (Some x) = refl

-- the document that stands at the id of the next referrer
pub next_stands : (ds given : List Tree) (target : List ℕ) (low : Option (List ℕ)) (k : List ℕ) (o : Option Tree) → ascending ds ≡ true → given ≡ ds → Some k ≡ next_referrer given target low → o ≡ standing k ds
    → o ≡ first_of (filter (λ d. has_ref target d && above low (id_of d)) ds)
next_stands ds given target low k o asc same_ds is at =
    at ∙ ap (option_and_then (λ j. standing j ds)) (is ∙ ap (λ x. next_referrer x target low) same_ds) ∙ first_stands (λ d. has_ref target d && above low (id_of d)) ds asc

-- an unchanged document that has_ref to the target and has a dangling reference
abbrev pub Wanted : List Tree → List Edit → List ℕ → Tree → Bool
Wanted docs cs target d = dangles docs d && is_referrer cs target d

abbrev pub Left : List Tree → List Edit → List ℕ → Option (List ℕ) → List Tree → Type 0
Left docs cs target low ds = first_of (filter (Wanted docs cs target) ds) ≡ first_of (filter (λ d. Wanted docs cs target d && above low (id_of d)) ds)

and-true : (a : Bool) → a ≡ (a && true)
and-true true = refl
and-true false = refl

pub walk_init : (docs : List Tree) (cs : List Edit) (target : List ℕ) (ds : List Tree) → Left docs cs target None ds
walk_init docs cs target ds = ap first_of (filter_same (Wanted docs cs target) (λ d. Wanted docs cs target d && true) ds (same_everywhere _ _ ds (λ d. and-true (Wanted docs cs target d))))

wanted_refers : (a b c e : Bool) → ((a && (b && c)) && e) ≡ true → (b && e) ≡ true
wanted_refers true true true e h = h
wanted_refers true true false e h = cc
wanted_refers true false c e h = cc
wanted_refers false b c e h = cc

wanted_is : (a b c e : Bool) → (b && e) ≡ true → (c && a) ≡ true → ((a && (b && c)) && e) ≡ true
wanted_is true true true e h g = h
wanted_is a false c e h g = cc
wanted_is false true true e h g = cc
wanted_is a true false e h g = cc

wanted_not : (a b c : Bool) → (c && a) ≡ false → (a && (b && c)) ≡ false
wanted_not true true true g = cc
wanted_not false b c g = refl
wanted_not true false c g = refl
wanted_not true true false g = refl

pub walk_found : (docs : List Tree) (cs : List Edit) (target : List ℕ) (low : Option (List ℕ)) (ds : List Tree) (d : Tree) → Left docs cs target low ds
    → first_of (filter (λ x. has_ref target x && above low (id_of x)) ds) ≡ Some d → (not (is_changed cs (id_of d)) && dangles docs d) ≡ true → Some d ≡ first_of (filter (Wanted docs cs target) ds)
walk_found docs cs target low ds d left is there =
    sym (left ∙ first_within (λ x. Wanted docs cs target x && above low (id_of x)) (λ x. has_ref target x && above low (id_of x)) ds d
    (λ x t. wanted_refers (dangles docs x) (has_ref target x) (not (is_changed cs (id_of x))) (above low (id_of x)) t) is
    (wanted_is (dangles docs d) (has_ref target d) (not (is_changed cs (id_of d))) (above low (id_of d)) (first_passes (λ x. has_ref target x && above low (id_of x)) ds d is) there))

pub walk_on : (docs : List Tree) (cs : List Edit) (target : List ℕ) (low : Option (List ℕ)) (ds : List Tree) (d : Tree) (k : List ℕ) → ascending ds ≡ true → Left docs cs target low ds
    → first_of (filter (λ x. has_ref target x && above low (id_of x)) ds) ≡ Some d → (not (is_changed cs (id_of d)) && dangles docs d) ≡ false → k ≡ id_of d → Left docs cs target (Some k) ds
walk_on docs cs target low ds d k asc left is there at =
    let on : Left docs cs target (Some (id_of d)) ds =
    left ∙ ap first_of (filter_same _ _ ds (seen_step (Wanted docs cs target) (λ x. has_ref target x && above low (id_of x)) low ds d asc
    (λ x t. wanted_refers (dangles docs x) (has_ref target x) (not (is_changed cs (id_of x))) (above low (id_of x)) t)
    (λ x t. and-right (has_ref target x) _ t) is (wanted_not (dangles docs d) (has_ref target d) (not (is_changed cs (id_of d))) there))) in
    subst (λ j. Left docs cs target (Some j) ds) (sym at) on

pub walk_end : (docs : List Tree) (cs : List Edit) (target : List ℕ) (low : Option (List ℕ)) (ds : List Tree) → Left docs cs target low ds
    → first_of (filter (λ x. has_ref target x && above low (id_of x)) ds) ≡ None → None ≡ first_of (filter (Wanted docs cs target) ds)
walk_end docs cs target low ds left is =
    sym (left ∙ none_within (λ x. Wanted docs cs target x && above low (id_of x)) (λ x. has_ref target x && above low (id_of x)) ds
    (λ x t. wanted_refers (dangles docs x) (has_ref target x) (not (is_changed cs (id_of x))) (above low (id_of x)) t) is)

pub walk_smaller : (target : List ℕ) (low : Option (List ℕ)) (ds : List Tree) (d : Tree) (k : List ℕ) → first_of (filter (λ x. has_ref target x && above low (id_of x)) ds) ≡ Some d → k ≡ id_of d
    → length (filter (λ x. above (Some k) (id_of x)) ds) < length (filter (λ x. above low (id_of x)) ds)
walk_smaller target low ds d k is at =
    let r : Tree → Bool = λ x. has_ref target x && above low (id_of x) in
    subst (λ j. length (filter (λ x. above (Some j) (id_of x)) ds) < length (filter (λ x. above low (id_of x)) ds)) (sym at)
    (fewer_above r low ds d (λ x t. and-right (has_ref target x) _ t) is (and-right (has_ref target d) _ (first_passes r ds d is)))

-- the change at an index, between those before it and those after it
pub change_here : (changes : List Change) (i : ℕ) (x : Change) (done : List Edit) → i < length changes → x ≡ get_or changes i x → edits changes ≡ done ++ edits (drop i changes)
    → edits changes ≡ done ++ edit x ∷ edits (drop (i + 1) changes)
change_here changes i x done lt is split =
    split ∙ ap (λ cs. done ++ edits cs) (drop_more changes i x lt ∙ ap (λ y. y ∷ drop (i + 1) changes) (sym is))

pub found_here : (cs done : List Edit) (c : Edit) (more : List Edit) → are_changes cs ≡ true → cs ≡ done ++ c ∷ more → find id_cmp c.0 cs ≡ Some c.1
found_here cs done c more h split = ap (find id_cmp c.0) split ∙ find_middle done c more (ap ids_ascend (sym split) ∙ and-left _ _ h)

append_nil : (xs : List Edit) → xs ++ [] ≡ xs
append_nil [] = refl
append_nil (x ∷ xs) = ap (λ r. x ∷ r) (append_nil xs)

pub all_done : (changes : List Change) (i : ℕ) (done : List Edit) → length changes ≤ i → edits changes ≡ done ++ edits (drop i changes) → done ≡ edits changes
all_done changes i done h split = sym (split ∙ ap (λ cs. done ++ edits cs) (drop_all i changes h) ∙ append_nil done)

pub no_pair : (docs : List Tree) (o : Option Tree) → o ≡ first_of (filter (dangles docs) docs) → o ≡ None → None ≡ first_dangling docs
no_pair docs o is none =
    sym (first_pair docs docs ∙ ap (option_and_then (λ d. option_map (λ t. (id_of d, t)) (first_of (missing docs d)))) (sym is ∙ none))

pub pair_of : (docs : List Tree) (o : Option Tree) (d : Tree) (t : Option (List ℕ)) → o ≡ first_of (filter (dangles docs) docs) → o ≡ Some d → t ≡ first_missing docs (strong d) → option_map (λ u. (id_of d, u)) t ≡ first_dangling docs
pair_of docs o d t is some at =
    ap (option_map (λ u. (id_of d, u))) at ∙ sym (first_pair docs docs ∙ ap (option_and_then (λ x. option_map (λ u. (id_of x, u)) (first_of (missing docs x)))) (sym is ∙ some))

-- nothing dangles exactly in a clean dataset
-- nothing was found exactly where the dataset is clean
pub found_none : {A : Type 0} (docs : List Tree) (f : A → List ℕ × List ℕ) (r : Option A) → option_map f r ≡ first_dangling docs → is_some r ≡ false ↔ clean docs ≡ true
found_none docs f None h = ((λ e. (none-is-clean docs).0 (sym h)), (λ e. refl))
found_none docs f (Some x) h = ((λ e. absurd (cc)), (λ e. absurd (let k = (none-is-clean docs).1 e in cc)))
