-- A simple query by its parts.
use Rattle.std.proofs.Common.{◌≡◌, ◌≤◌, ◌+◌, ℕ, List, [], ◌∷◌, map, length, sym, ap, ◌∙◌, Vec, Box, Global, refl, true, false, true≢false, cond, Bool, IfNone, arith}
use Rattle.std.specs.Prelude.{filter}
use Rattle.std.proofs.Common.{Option, None, Some}
use Rattle.cs_value.specs.Words.{list_of}
use Rattle.cs_value.specs.Tree.{Tree, null, Pairs}
use Rattle.cs_view.specs.Keys.{having, has, has_all, selected}
use Rattle.cs_view.specs.declared.key.Key.{Key}
use Rattle.cs_syntax.specs.Expression.{Expression, everything, chain, bracket, Steps, more_steps, steps_of}
use Rattle.cs_syntax.specs.View.{expression, step_of}
use Rattle.cs_syntax.proofs.Views.{expression_chain, expression_all}
use Rattle.cs_syntax.specs.declared.tree.Expr.{Expr}
use Rattle.cs_syntax.specs.declared.tree.Expr as code
use Rattle.cs_syntax.specs.declared.tree.Step.{Step as CodeStep}
use Rattle.cs_plan.specs.Filters.{filter_keys, key_in}
use Rattle.cs_plan.specs.Simple.{is_simple, filter_of, steps_behind, query_key, query_keys}
use Rattle.cs_meaning.specs.Hits.{is_hit, hits, tail, cost}
use Rattle.cs_meaning.specs.Looked.{query_looked, starts_with_filter}
use Rattle.cs_meaning.specs.Operators.{is_true}
use Rattle.cs_meaning.specs.Values.{value, pipes_value, query_value}
use Rattle.cs_meaning.proofs.Simple.{simple-looked, simple-tail}
use Rattle.cs_meaning.proofs.Sound.{filter-within}
use Rattle.cs_meaning.proofs.TrueKey.{true-has_all, all-have_key}
use Rattle.cs_expr.specs.Starts.{enter_value}
use Rattle.cs_window.specs.Windowed.{is_filtered}

pub ruleset form = (expression_chain, expression_all)

pub star_chain : (e : Expr) (base : Box Expr Global) (v : Vec CodeStep Global) (b : Expr) (ss : List CodeStep) → e ≡ code.Chain base v → b ≡ base.value → b ≡ code.All → ss ≡ v.items
    → expression e ≡ chain everything (steps_of (map step_of ss))
star_chain e base v b ss is there all same = ap expression is ∙ (expression_chain base v
    ∙ (ap (λ (x : Expr). chain (expression x) (steps_of (map step_of v.items))) (sym there ∙ all) ∙ (ap (λ x. chain x (steps_of (map step_of v.items))) expression_all ∙ ap (λ (x : List CodeStep). chain everything (steps_of (map step_of x))) (sym same))))

-- the hits are among the documents that have the keys of the query
pub hits-within : (e : Expression) (params : Pairs) (docs : List Tree) → hits e params docs ≡ hits e params (selected (query_keys e params) docs)
hits-within e params docs = filter-within (is_hit e params) (has_all (query_keys e params)) (λ d t. true-has_all [] params (filter_of (steps_behind e)) (null ∷ []) d t) docs

abbrev star : Expression → Steps → Expression
star f later = chain everything (more_steps (bracket f) later)

-- the tail of those of the documents with the keys that are hits
answer_at_root : (docs : List Tree) (params : Pairs) (f : Expression) (later : Steps) (found : List Tree) → is_simple (star f later) ≡ true → found ≡ selected (filter_keys f (null ∷ []) params) docs
    → pipes_value [] params later (null ∷ []) (enter_value [] params later (null ∷ []) (list_of (filter (λ x. is_true (value [] params f (x ∷ null ∷ []))) found))) ≡ query_value docs params (star f later)
answer_at_root docs params f later found h is-found =
    let e = star f later in
    ap (λ (ds : List Tree). tail e params (hits e params ds)) is-found
    ∙ (ap (tail e params) (sym (hits-within e params docs)) ∙ sym (simple-tail e params docs h))

pub simple_answer : (docs : List Tree) (params : Pairs) (scope : List Tree) (e f : Expression) (later : Steps) (found : List Tree) → is_simple e ≡ true → e ≡ chain everything (more_steps (bracket f) later) → scope ≡ null ∷ []
    → found ≡ selected (filter_keys f scope params) docs
    → pipes_value [] params later scope (enter_value [] params later scope (list_of (filter (λ x. is_true (value [] params f (x ∷ scope))) found))) ≡ query_value docs params e
simple_answer docs params scope e f later found h is root is-found =
    ap (λ (s : List Tree). pipes_value [] params later s (enter_value [] params later s (list_of (filter (λ x. is_true (value [] params f (x ∷ s))) found)))) root
    ∙ (answer_at_root docs params f later found (sym (ap is_simple is) ∙ h) (is-found ∙ ap (λ (s : List Tree). selected (filter_keys f s params) docs) root) ∙ ap (query_value docs params) (sym is))

is_key : (params : Pairs) (scope : List Tree) (e f : Expression) (later : Steps) (k : Key) → e ≡ chain everything (more_steps (bracket f) later) → scope ≡ null ∷ [] → k ≡ key_in f scope params → k ≡ query_key e params
is_key params scope e f later k is root is-k = is-k ∙ (ap (λ (s : List Tree). key_in f s params) root ∙ sym (ap (λ x. query_key x params) is))

pub simple_keys : (docs : List Tree) (params : Pairs) (scope : List Tree) (e f : Expression) (later : Steps) (k : Key) → is_simple e ≡ true → e ≡ chain everything (more_steps (bracket f) later) → scope ≡ null ∷ [] → k ≡ key_in f scope params
    → k ∷ [] ≡ query_looked docs params e
simple_keys docs params scope e f later k h is root is-k = ap (λ (x : Key). x ∷ []) (is_key params scope e f later k is root is-k) ∙ sym (simple-looked e params docs h)

-- no more documents have all keys than have the one that is looked up
fewer : (p q : Tree → Bool) → ((d : Tree) → p d ≡ true → q d ≡ true) → (ds : List Tree) → length (filter p ds) ≤ length (filter q ds)
fewer p q h [] = omega arith
fewer p q h (d ∷ ds) = by_tests (p d) (q d) (h d) (fewer p q h ds) where
  by_tests : (a b : Bool) → (a ≡ true → b ≡ true) → length (filter p ds) ≤ length (filter q ds) → length (cond a (d ∷ filter p ds) (filter p ds)) ≤ length (cond b (d ∷ filter q ds) (filter q ds))
  by_tests true true g few = omega (arith, few)
  by_tests true false g few = absurd (true≢false (sym (g refl)))
  by_tests false true g few = omega (arith, few)
  by_tests false false g few = few

pub all_fewer : (docs : List Tree) (params : Pairs) (e : Expression) (scope : List Tree) → length (selected (filter_keys e scope params) docs) ≤ length (having (key_in e scope params) docs)
all_fewer docs params e scope = fewer (has_all (filter_keys e scope params)) (has (key_in e scope params)) (all-have_key e scope params) docs

pub simple_visits : (docs : List Tree) (params : Pairs) (scope : List Tree) (e f : Expression)
    (later : Steps) (before after : ℕ) → e ≡ chain everything (more_steps (bracket f) later)
    → scope ≡ null ∷ [] → after ≤ before + length (selected (filter_keys f scope params) docs)
    → after ≤ before + cost e params docs
simple_visits docs params scope e f later before after is root few =
    let all : length (having (key_in f scope params) docs) ≡ cost e params docs =
    ap (λ (k : Key). length (having k docs)) (is_key params scope e f later (key_in f scope params) is root refl) in
    omega (arith, few, all_fewer docs params f scope, all)

pub none_then : {A : Type 0} (r : Option A) {P Q : Type 0} → (P → Q) → IfNone r P → IfNone r Q
none_then None f h = f h
none_then (Some x) f h = tt

pub not_filtered : (e : Expr) (base : Box Expr Global) (v : Vec CodeStep Global) (b : Expr) (ss : List CodeStep) → e ≡ code.Chain base v → b ≡ base.value → b ≡ code.All → ss ≡ v.items
    → starts_with_filter (steps_of (map step_of ss)) ≡ false → is_filtered (expression e) ≡ false
not_filtered e base v b ss is there all same h = ap is_filtered (star_chain e base v b ss is there all same) ∙ h
