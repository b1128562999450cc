-- A simple query: what it looks up, and its value from its hits.
use Rattle.std.proofs.Common.{◌≡◌, Bool, true, false, cond, ◌&&◌, List, [], ◌∷◌, ◌++◌, append-nil, refl, ap, sym, ◌∙◌, subst}
use Rattle.std.specs.Prelude.{filter}
use Rattle.cs_value.specs.Words.{list_of}
use Rattle.cs_value.specs.Tree.{Tree, null, Pairs}
use Rattle.cs_syntax.specs.Expression.{Expression, everything, chain, bracket, Steps, more_steps}
use Rattle.cs_view.specs.declared.key.Key.{Key}
use Rattle.cs_plan.specs.Filters.{key_in}
use Rattle.cs_plan.specs.Simple.{is_quiet, quiet_steps, is_filter, are_tail_steps, is_simple_rest, is_simple, filter_of, query_key}
use Rattle.cs_plan.specs.Steps.{condition, bracketed}
use Rattle.cs_meaning.specs.Hits.{hits, tail}
use Rattle.cs_meaning.specs.Joining.{kind, entrance, entered, base_entrance}
use Rattle.cs_meaning.specs.Looked.{entered_looked, starts_with_filter, looked, filter_looked, rest_looked, pipes_looked, query_looked}
use Rattle.cs_meaning.specs.Operators.{is_true}
use Rattle.cs_meaning.specs.Values.{value, rest_value, pipes_value, query_value}
use Rattle.cs_meaning.proofs.Agree.{AllSame, entered-agree}
use Rattle.cs_meaning.proofs.Silent.{both-true, entered-none, silent, silent-rest, silent-pipes, filter-alone}
use Rattle.cs_meaning.proofs.Sound.{is-condition, filter-value, sound, rest-sound, pipes-sound}

-- nothing was looked up
same-nothing : (d1 d2 : List Tree) (ks : List Key) → ks ≡ [] → AllSame d1 d2 ks
same-nothing d1 d2 ks h = subst (AllSame d1 d2) (sym h) tt

-- the parts of a simple query
abbrev SimpleRest : Expression → Steps → Type 0
SimpleRest e ss = ((bracketed e ≡ condition) × (is_quiet e ≡ true)) × (quiet_steps ss ≡ true)

rest-parts : (e : Expression) (ss : Steps) → is_simple_rest (more_steps (bracket e) ss) ≡ true → SimpleRest e ss
rest-parts e ss h =
    let a = both-true (is_filter (bracket e) && is_quiet e) (are_tail_steps ss && quiet_steps ss) h in
    let b = both-true (is_filter (bracket e)) (is_quiet e) a.0 in
    let c = both-true (are_tail_steps ss) (quiet_steps ss) a.1 in
    ((is-condition (bracketed e) b.0, b.1), c.1)

cond-start : {A : Type 0} (t : Bool) (x y z : List A) → t ≡ true → z ≡ [] → cond t x y ++ z ≡ x
cond-start true x y z h g = ap (λ w. x ++ w) g ∙ append-nil x
cond-start false x y z h g = absurd (cc)

filters-first : (e : Expression) (ss : Steps) → is_simple_rest (more_steps (bracket e) ss) ≡ true → starts_with_filter (more_steps (bracket e) ss) ≡ true
filters-first e ss h = (both-true (is_filter (bracket e)) (is_quiet e) (both-true (is_filter (bracket e) && is_quiet e) (are_tail_steps ss && quiet_steps ss) h).0).0

rest-looked : (docs : List Tree) (params : Pairs) (ss : Steps) → is_simple_rest ss ≡ true → query_looked docs params (chain everything ss) ≡ key_in (filter_of ss) (null ∷ []) params ∷ []
rest-looked docs params (more_steps (bracket e) ss) h =
    let p = rest-parts e ss h in
    let all = more_steps (bracket e) ss in
    cond-start (starts_with_filter all) (filter_looked docs params all (null ∷ [])) _ (pipes_looked docs params all (null ∷ []) (entered (base_entrance everything (kind all)) (rest_value docs params all (null ∷ [])) (list_of docs)))
    (filters-first e ss h)
    (silent-pipes docs params ss p.1 (null ∷ []) (entered (base_entrance everything (kind all)) (rest_value docs params all (null ∷ [])) (list_of docs)))
    ∙ filter-alone docs params e ss (null ∷ []) p.0.1 p.1
rest-looked docs params ss h = absurd (cc)

pub simple-looked : (e : Expression) (params : Pairs) (docs : List Tree) → is_simple e ≡ true → query_looked docs params e ≡ query_key e params ∷ []
simple-looked (chain everything ss) params docs h = rest-looked docs params ss h
simple-looked e params docs h = absurd (cc)

-- a quiet expression has the same value over every dataset
pub quiet-value : (d1 d2 : List Tree) (params : Pairs) (e : Expression) (scope : List Tree) → is_quiet e ≡ true → value d1 params e scope ≡ value d2 params e scope
quiet-value d1 d2 params e scope q = (sound d1 d2 params e scope (same-nothing d1 d2 (looked d1 params e scope) (silent d1 params e q scope))).0

filter-same : (p q : Tree → Bool) → ((x : Tree) → p x ≡ q x) → (xs : List Tree) → filter p xs ≡ filter q xs
filter-same p q h [] = refl
filter-same p q h (x ∷ xs) = rw (h x, filter-same p q h xs) refl

rest-tail : (docs : List Tree) (params : Pairs) (ss : Steps) → is_simple_rest ss ≡ true → query_value docs params (chain everything ss) ≡ tail (chain everything ss) params (hits (chain everything ss) params docs)
rest-tail docs params (more_steps (bracket e) ss) h =
    let p = rest-parts e ss h in
    let scope : List Tree = null ∷ [] in
    let n = entrance (kind ss) in
    let found = filter-same (λ d. is_true (value docs params e (d ∷ scope))) (λ d. is_true (value [] params e (d ∷ scope))) (λ d. ap is_true (quiet-value docs [] params e (d ∷ scope) p.0.1)) docs in
    let v = list_of (hits (chain everything (more_steps (bracket e) ss)) params docs) in
    let r = (entered-agree docs [] n (rest_looked docs params ss scope) (rest_looked [] params ss scope) (rest_value docs params ss scope) (rest_value [] params ss scope) (rest-sound docs [] params ss scope) v
    (same-nothing docs [] (entered_looked n (rest_looked docs params ss scope) v) (entered-none n (rest_looked docs params ss scope) (silent-rest docs params ss p.1 scope) v))).0 in
    let w = entered n (rest_value [] params ss scope) v in
    ap (pipes_value docs params ss scope) (filter-value docs params e ss scope p.0.0 ∙ (ap (λ ds. entered n (rest_value docs params ss scope) (list_of ds)) found ∙ r))
    ∙ (pipes-sound docs [] params ss scope w (same-nothing docs [] (pipes_looked docs params ss scope w) (silent-pipes docs params ss p.1 scope w))).0
rest-tail docs params ss h = absurd (cc)

pub simple-tail : (e : Expression) (params : Pairs) (docs : List Tree) → is_simple e ≡ true → query_value docs params e ≡ tail e params (hits e params docs)
simple-tail (chain everything ss) params docs h = rest-tail docs params ss h
simple-tail e params docs h = absurd (cc)
