-- A rest that looks at the first elements alone makes the same of them as of the whole list.
use Rattle.std.proofs.Common.{◌≡◌, ℕ, zero, suc, ◌+◌, ◌≤◌, min, List, [], ◌∷◌, ◌++◌, take, drop, length, map, refl, sym, ap, ◌∙◌, Bool, true, false, cond, Option, Some, None, IfSome, ℤ, pos, negsuc, slice_get, arith}
use Rattle.std.specs.Prelude.{unwrap_or}
use Rattle.std.specs.Option.{option_map_or}
use Rattle.std.proofs.lemmas.List.{take_min, take-map, length-take}
use Rattle.cs_value.specs.Words.{as_list, list_of, of_list}
use Rattle.cs_value.specs.Tree.{Tree, null, boolean, integer, text, list, object, Pairs, members}
use Rattle.cs_value.proofs.Views.{members-trees}
use Rattle.cs_view.specs.declared.key.Key.{Key}
use Rattle.cs_syntax.specs.Expression.{attr, deref, each, slice, bracket, project, pipe, Steps, no_steps, more_steps}
use Rattle.cs_plan.specs.Steps.{Bracketed, position, named, condition, bracketed, position_of}
use Rattle.cs_meaning.specs.declared.join.Shape.TheVariants.{One, Array}
use Rattle.cs_meaning.specs.declared.join.Form.TheVariants.{Listing, Element}
use Rattle.cs_meaning.specs.declared.join.Kind.{Kind}
use Rattle.cs_meaning.specs.declared.join.Kind.TheVariants.{Empty, Taking}
use Rattle.cs_meaning.specs.declared.join.Entrance.{Entrance}
use Rattle.cs_meaning.specs.declared.join.Entrance.TheVariants.{Whole}
use Rattle.cs_meaning.specs.Joining.{kind, kind_before, bracket_form, way, entrance, entered, onward}
use Rattle.cs_meaning.specs.Ordered.{Ranked, in_order, ordered, ranked, sorted}
use Rattle.cs_meaning.specs.Positions.{sliced, element, element_at, elements_between}
use Rattle.cs_meaning.specs.Values.{in_bracket, rest_value}
use Rattle.cs_meaning.specs.Looked.{entered_looked, onward_looked, bracket_looked, rest_looked}
use Rattle.cs_order.specs.Asked.{slice_end, bracket_end, first_asked}
use Rattle.cs_order.specs.First.{limited, first_elements, all_kept}
use Rattle.cs_order.specs.First.{in_order as kept_in_order}
use Rattle.cs_order.proofs.Kept.{first_in_order}

some-is : (i j : ℕ) → Some i ≡ Some j → i ≡ j
some-is i j h = cc

-- the first elements of a list, and what a list's first elements are to a function of lists
of-list : (f : List Tree → Tree) (ts : List Tree) → of_list f (list_of ts) ≡ f ts
of-list f ts = ap f (members-trees ts)

pub first-of-list : (limit : Option ℕ) (ts : List Tree) → first_elements limit (list_of ts) ≡ list_of (limited limit ts)
first-of-list None ts = refl
first-of-list (Some k) ts = of-list (λ us. list_of (take k us)) ts

by-first : (f : List Tree → Tree) (k : ℕ) → ((ts : List Tree) → f (take k ts) ≡ f ts) → (v : Tree) → of_list f (first_elements (Some k) v) ≡ of_list f v
by-first f k same null = refl
by-first f k same (boolean b) = refl
by-first f k same (integer n) = refl
by-first f k same (text s) = refl
by-first f k same (list ts) = of-list f (take k (members ts)) ∙ same (members ts)
by-first f k same (object ps) = refl

-- slices
drop-all : (i : ℕ) → drop {A = Tree} i [] ≡ []
drop-all zero = refl
drop-all (suc i) = refl

drop-within : (i m : ℕ) (ts : List Tree) → length ts ≤ m → drop (min i m) ts ≡ drop i ts
drop-within i m [] h = drop-all (min i m) ∙ sym (drop-all i)
drop-within zero m (t ∷ ts) h =
    let e : min zero m ≡ zero = omega arith in
    ap (λ (n : ℕ). drop n (t ∷ ts)) e
drop-within (suc i) zero (t ∷ ts) h = absurd (omega arith)
drop-within (suc i) (suc m) (t ∷ ts) h =
    let e : min (suc i) (suc m) ≡ suc (min i m) = omega arith in
    ap (λ (n : ℕ). drop n (t ∷ ts)) e ∙ drop-within i m ts (omega arith)

take-again : (k : ℕ) (ts : List Tree) → take k (take k ts) ≡ take k ts
take-again zero ts = refl
take-again (suc k) [] = refl
take-again (suc k) (t ∷ ts) = ap (λ (us : List Tree). t ∷ us) (take-again k ts)

fewer : (k : ℕ) (ts : List Tree) → length (take k ts) ≤ length ts
fewer k ts = omega (arith, length-take k ts)

cut : (i k : ℕ) (ts : List Tree) → drop (min i (length (take k ts))) (take (min k (length (take k ts))) (take k ts)) ≡ drop (min i (length ts)) (take (min k (length ts)) ts)
cut i k ts =
    ap (drop (min i (length (take k ts)))) (take_min k (take k ts) ∙ take-again k ts)
    ∙ (drop-within i (length (take k ts)) (take k ts) (omega arith)
    ∙ (sym (drop-within i (length ts) (take k ts) (fewer k ts)) ∙ ap (drop (min i (length ts))) (sym (take_min k ts))))

between-first : (i j k : ℕ) (closed : Bool) (ts : List Tree) → cond closed (j + 1) j ≡ k → elements_between (pos i) (pos j) closed (take k ts) ≡ elements_between (pos i) (pos j) closed ts
between-first i j k true ts h =
    ap (λ (e : ℕ). drop (min i (length (take k ts))) (take (min e (length (take k ts))) (take k ts))) h
    ∙ (cut i k ts ∙ ap (λ (e : ℕ). drop (min i (length ts)) (take (min e (length ts)) ts)) (sym h))
between-first i j k false ts h =
    ap (λ (e : ℕ). drop (min i (length (take k ts))) (take (min e (length (take k ts))) (take k ts))) h
    ∙ (cut i k ts ∙ ap (λ (e : ℕ). drop (min i (length ts)) (take (min e (length ts)) ts)) (sym h))

sliced-first : (i j : Option (Option ℤ)) (closed : Bool) (k : ℕ) (v : Tree) → slice_end i j closed ≡ Some k → sliced i j closed (first_elements (Some k) v) ≡ sliced i j closed v
sliced-first None j closed k v h = refl
sliced-first (Some None) j closed k v h = refl
sliced-first (Some (Some i)) None closed k v h = refl
sliced-first (Some (Some i)) (Some None) closed k v h = refl
sliced-first (Some (Some (pos i))) (Some (Some (pos j))) closed k v h =
    by-first (λ ts. list_of (elements_between (pos i) (pos j) closed ts)) k (λ ts. ap list_of (between-first i j k closed ts (some-is _ k h))) v
sliced-first (Some (Some (negsuc i))) (Some (Some j)) closed k v h = cc
sliced-first (Some (Some (pos i))) (Some (Some (negsuc j))) closed k v h = cc

-- elements
found-first : (n : ℕ) (ts : List Tree) → slice_get (take (suc n) ts) n ≡ slice_get ts n
found-first n [] = refl
found-first zero (t ∷ ts) = refl
found-first (suc n) (t ∷ ts) = found-first n ts

element-first : (n k : ℕ) (v : Tree) → n + 1 ≡ k → element (Some (pos n)) (first_elements (Some k) v) ≡ element (Some (pos n)) v
element-first n k v h =
    let e : k ≡ suc n = omega (arith, h) in
    by-first (λ ts. element_at ts (pos n)) k (λ ts. ap (λ (o : Option Tree). unwrap_or o null) (ap (λ (m : ℕ). slice_get (take m ts) n) e ∙ found-first n ts)) v

-- a rest that begins with a step of an array takes arrays
listing-whole : (k : Kind) → entrance (kind_before Listing k) ≡ Whole
listing-whole Empty = refl
listing-whole (Taking One gives) = refl
listing-whole (Taking Array gives) = refl

element-whole : (k : Kind) → entrance (kind_before Element k) ≡ Whole
element-whole Empty = refl
element-whole (Taking takes gives) = refl

bracket-first : (docs : List Tree) (params : Pairs) (b : Bracketed) (passes : Tree → Bool) (ss : Steps) (scope : List Tree) (k : ℕ) (v : Tree) → bracket_end b ≡ Some k
    → entered (entrance (kind_before (bracket_form b) (kind ss))) (λ w. onward (way (bracket_form b) (kind ss)) (entrance (kind ss)) (in_bracket b passes) (rest_value docs params ss scope) w) (first_elements (Some k) v)
    ≡ entered (entrance (kind_before (bracket_form b) (kind ss))) (λ w. onward (way (bracket_form b) (kind ss)) (entrance (kind ss)) (in_bracket b passes) (rest_value docs params ss scope) w) v
bracket-first docs params (position (Some (pos n))) passes ss scope k v h =
    let whole = element-whole (kind ss) in
    let rest : Tree → Tree = λ w. rest_value docs params ss scope (element (Some (pos n)) w) in
    ap (λ (e : Entrance). entered e rest (first_elements (Some k) v)) whole
    ∙ (ap (rest_value docs params ss scope) (element-first n k v (some-is _ k h)) ∙ sym (ap (λ (e : Entrance). entered e rest v) whole))
bracket-first docs params (position (Some (negsuc n))) passes ss scope k v h = cc
bracket-first docs params (position None) passes ss scope k v h = cc
bracket-first docs params (named w) passes ss scope k v h = cc
bracket-first docs params condition passes ss scope k v h = cc

bracket-looks : (docs : List Tree) (params : Pairs) (b : Bracketed) (passes : Tree → Bool) (looks : Tree → List Key) (ss : Steps) (scope : List Tree) (k : ℕ) (v : Tree) → bracket_end b ≡ Some k
    → entered_looked (entrance (kind_before (bracket_form b) (kind ss))) (λ w. onward_looked (way (bracket_form b) (kind ss)) (entrance (kind ss)) (in_bracket b passes) (bracket_looked b looks) (rest_looked docs params ss scope) w) (first_elements (Some k) v)
    ≡ entered_looked (entrance (kind_before (bracket_form b) (kind ss))) (λ w. onward_looked (way (bracket_form b) (kind ss)) (entrance (kind ss)) (in_bracket b passes) (bracket_looked b looks) (rest_looked docs params ss scope) w) v
bracket-looks docs params (position (Some (pos n))) passes looks ss scope k v h =
    let whole = element-whole (kind ss) in
    let rest : Tree → List Key = λ w. [] ++ rest_looked docs params ss scope (element (Some (pos n)) w) in
    ap (λ (e : Entrance). entered_looked e rest (first_elements (Some k) v)) whole
    ∙ (ap (λ (w : Tree). [] ++ rest_looked docs params ss scope w) (element-first n k v (some-is _ k h)) ∙ sym (ap (λ (e : Entrance). entered_looked e rest v) whole))
bracket-looks docs params (position (Some (negsuc n))) passes looks ss scope k v h = cc
bracket-looks docs params (position None) passes looks ss scope k v h = cc
bracket-looks docs params (named w) passes looks ss scope k v h = cc
bracket-looks docs params condition passes looks ss scope k v h = cc

asked-value : (docs : List Tree) (params : Pairs) (ss : Steps) (scope : List Tree) (k : ℕ) (v : Tree) → first_asked ss ≡ Some k
    → entered (entrance (kind ss)) (rest_value docs params ss scope) (first_elements (Some k) v) ≡ entered (entrance (kind ss)) (rest_value docs params ss scope) v
asked-value docs params no_steps scope k v h = cc
asked-value docs params (more_steps (slice from to closed) ss) scope k v h =
    let whole = listing-whole (kind ss) in
    let step : Tree → Tree = sliced (position_of from) (position_of to) closed in
    let rest : Tree → Tree = λ w. entered (entrance (kind ss)) (rest_value docs params ss scope) (step w) in
    ap (λ (e : Entrance). entered e rest (first_elements (Some k) v)) whole
    ∙ (ap (entered (entrance (kind ss)) (rest_value docs params ss scope)) (sliced-first (position_of from) (position_of to) closed k v h)
    ∙ sym (ap (λ (e : Entrance). entered e rest v) whole))
asked-value docs params (more_steps (bracket e) ss) scope k v h = bracket-first docs params (bracketed e) _ ss scope k v h
asked-value docs params (more_steps (attr w) ss) scope k v h = cc
asked-value docs params (more_steps deref ss) scope k v h = cc
asked-value docs params (more_steps each ss) scope k v h = cc
asked-value docs params (more_steps (project es) ss) scope k v h = cc
asked-value docs params (more_steps (pipe name ks) ss) scope k v h = cc

asked-looked : (docs : List Tree) (params : Pairs) (ss : Steps) (scope : List Tree) (k : ℕ) (v : Tree) → first_asked ss ≡ Some k
    → entered_looked (entrance (kind ss)) (rest_looked docs params ss scope) (first_elements (Some k) v) ≡ entered_looked (entrance (kind ss)) (rest_looked docs params ss scope) v
asked-looked docs params no_steps scope k v h = cc
asked-looked docs params (more_steps (slice from to closed) ss) scope k v h =
    let whole = listing-whole (kind ss) in
    let step : Tree → Tree = sliced (position_of from) (position_of to) closed in
    let rest : Tree → List Key = λ w. [] ++ entered_looked (entrance (kind ss)) (rest_looked docs params ss scope) (step w) in
    ap (λ (e : Entrance). entered_looked e rest (first_elements (Some k) v)) whole
    ∙ (ap (λ (w : Tree). [] ++ entered_looked (entrance (kind ss)) (rest_looked docs params ss scope) w) (sliced-first (position_of from) (position_of to) closed k v h)
    ∙ sym (ap (λ (e : Entrance). entered_looked e rest v) whole))
asked-looked docs params (more_steps (bracket e) ss) scope k v h = bracket-looks docs params (bracketed e) _ _ ss scope k v h
asked-looked docs params (more_steps (attr w) ss) scope k v h = cc
asked-looked docs params (more_steps deref ss) scope k v h = cc
asked-looked docs params (more_steps each ss) scope k v h = cc
asked-looked docs params (more_steps (project es) ss) scope k v h = cc
asked-looked docs params (more_steps (pipe name ks) ss) scope k v h = cc

-- where the rest asks for no more than the limit, if there is one
pub first_enters : (docs : List Tree) (params : Pairs) (ss : Steps) (scope : List Tree) (limit : Option ℕ) (v : Tree) → IfSome limit (λ k. first_asked ss ≡ Some k)
    → entered (entrance (kind ss)) (rest_value docs params ss scope) (first_elements limit v) ≡ entered (entrance (kind ss)) (rest_value docs params ss scope) v
first_enters docs params ss scope None v h = refl
first_enters docs params ss scope (Some k) v h = asked-value docs params ss scope k v h

pub first_looks : (docs : List Tree) (params : Pairs) (ss : Steps) (scope : List Tree) (limit : Option ℕ) (v : Tree) → IfSome limit (λ k. first_asked ss ≡ Some k)
    → entered_looked (entrance (kind ss)) (rest_looked docs params ss scope) (first_elements limit v) ≡ entered_looked (entrance (kind ss)) (rest_looked docs params ss scope) v
first_looks docs params ss scope None v h = refl
first_looks docs params ss scope (Some k) v h = asked-looked docs params ss scope k v h

-- the items of the first ranks are the first elements of the order
pub first_null : (limit : Option ℕ) → first_elements limit null ≡ null
first_null None = refl
first_null (Some k) = refl

items-first : (limit : Option ℕ) (rs : List Ranked) → map (λ r. r.item) (limited limit rs) ≡ limited limit (map (λ r. r.item) rs)
items-first None rs = refl
items-first (Some k) rs = sym (take-map (λ (r : Ranked). r.item) k rs)

ordered-list : (ds : List Bool) (f : Tree → List Tree) (v : Tree) (ts : List Tree) → as_list v ≡ Some ts → ordered ds f v ≡ in_order ds (map (ranked f) ts)
ordered-list ds f v ts h = ap (λ (o : Option (List Tree)). option_map_or (λ xs. in_order ds (map (ranked f) xs)) o null) h

pub first_ordered : (ds : List Bool) (f : Tree → List Tree) (limit : Option ℕ) (v : Tree) (ts items : List Tree) (rs : List Ranked) → as_list v ≡ Some ts → rs ≡ limited limit (sorted ds (map (ranked f) ts)) → items ≡ map (λ r. r.item) rs
    → list_of items ≡ first_elements limit (ordered ds f v)
first_ordered ds f limit v ts items rs h is-rs is-items =
    ap list_of (is-items ∙ (ap (map (λ (r : Ranked). r.item)) is-rs ∙ items-first limit (sorted ds (map (ranked f) ts))))
    ∙ (sym (first-of-list limit (map (λ r. r.item) (sorted ds (map (ranked f) ts)))) ∙ ap (first_elements limit) (sym (ordered-list ds f v ts h)))

pub first_unordered : (ds : List Bool) (f : Tree → List Tree) (limit : Option ℕ) (v : Tree) → as_list v ≡ None → null ≡ first_elements limit (ordered ds f v)
first_unordered ds f limit v h = sym (ap (first_elements limit) (ap (λ (o : Option (List Tree)). option_map_or (λ xs. in_order ds (map (ranked f) xs)) o null) h) ∙ first_null limit)

-- .. as they are found: kept as they come, and then in order
pub first_sorted : (ds es : List Bool) (f : Tree → List Tree) (limit : Option ℕ) (v : Tree) (ts items : List Tree) (rs ss : List Ranked) → as_list v ≡ Some ts → es ≡ ds → rs ≡ all_kept es limit [] (map (ranked f) ts) → ss ≡ kept_in_order es limit rs → items ≡ map (λ r. r.item) ss
    → list_of items ≡ first_elements limit (ordered ds f v)
first_sorted ds es f limit v ts items rs ss h is-ds is-rs is-ss is-items =
    first_ordered es f limit v ts items ss h (is-ss ∙ (ap (kept_in_order es limit) is-rs ∙ first_in_order es limit (map (ranked f) ts))) is-items
    ∙ ap (λ (bs : List Bool). first_elements limit (ordered bs f v)) is-ds
