-- The longer answers of the evaluator, over plain variables.
use Rattle.std.proofs.Common.{◌≡◌, ℕ, List, [], ◌∷◌, ◌++◌, map, refl, sym, ap, ◌∙◌, append_assoc, Bool, true, false, true≢false, Some, None, drop, cond, Vec, Box, Global}
use Rattle.std.specs.Prelude.{filter, flat_map, OnOk, Result, Ok, Err}
use Rattle.cs_value.specs.Words.{list_of}
use Rattle.cs_value.specs.Tree.{Tree, Pairs}
use Rattle.cs_value.proofs.Views.{members-trees}
use Rattle.cs_view.specs.Keys.{having, has, has_all, selected}
use Rattle.cs_view.specs.declared.key.Key.{Key}
use Rattle.cs_syntax.specs.Expression.{Expression, Operands, everything, run, bracket, pipe, Step, Steps, more_steps, steps_of, operands_of, keys_of}
use Rattle.cs_syntax.specs.View.{expression, operands, step_of, order_key_of}
use Rattle.cs_syntax.specs.declared.tree.BinSign.{BinSign}
use Rattle.cs_syntax.specs.declared.tree.Expr.{Expr}
use Rattle.cs_syntax.specs.declared.tree.Expr as code
use Rattle.cs_syntax.specs.declared.tree.OrderKey.{OrderKey}
use Rattle.cs_syntax.specs.declared.tree.Step.{Step as CodeStep}
use Rattle.cs_syntax.specs.declared.tree.Step as step_code
use Rattle.cs_plan.specs.Filters.{filter_keys, key_in}
use Rattle.cs_plan.specs.Simple.{is_condition, is_quiet}
use Rattle.cs_plan.specs.Steps.{Bracketed, bracketed, condition}
use Rattle.cs_meaning.specs.declared.join.Way.{Way}
use Rattle.cs_meaning.specs.declared.join.Kind.{Kind}
use Rattle.cs_meaning.specs.declared.join.Entrance.{Entrance}
use Rattle.cs_meaning.specs.Joining.{form, kind, way, entrance}
use Rattle.cs_meaning.specs.Operators.{is_true}
use Rattle.cs_meaning.specs.Values.{value, filtered, in_bracket, step_value}
use Rattle.cs_meaning.specs.Looked.{looked, run_looked, rest_looked, step_looked, entered_looked, onward_looked, filter_looked, is_everything}
use Rattle.cs_meaning.proofs.Silent.{flat-none, silent}
use Rattle.cs_meaning.proofs.Sound.{filter-within, filter-value}
use Rattle.cs_meaning.proofs.TrueKey.{true-has_all, true-has_key}
use Rattle.cs_parts.specs.Kinds.{kinds_of, first_kind}
use Rattle.cs_parts.specs.Turns.{turn, is_end}
use Rattle.cs_expr.specs.Starts.{once, once_looked, start_value, start_looked, enter_value, enter_looked}
use Rattle.cs_expr.proofs.Joins.{onward_looks, first_of_kinds}
use Rattle.cs_levels.specs.Tried.{tried}
use Rattle.cs_syntax.proofs.Views.{expression_run, step_pipe}

-- a run of operators, by the parts that code has at hand
pub run_parts : (e : Expr) (first : Box Expr Global) (rest : Vec (BinSign × Expr) Global) (b : Expr) (xs : List (BinSign × Expr)) → e ≡ code.Run first rest → b ≡ first.value → xs ≡ rest.items
    → expression e ≡ run (expression b) (operands_of (operands xs))
run_parts e first rest b xs is there same = ap expression is ∙ (expression_run first rest
    ∙ (ap (λ (x : Expr). run (expression x) (operands_of (operands rest.items))) (sym there) ∙ ap (λ (x : List (BinSign × Expr)). run (expression b) (operands_of (operands x))) (sym same)))

pub pipe_parts : (s : CodeStep) (name : List ℕ) (order : Vec OrderKey Global) (ks : List OrderKey) → s ≡ step_code.Pipe name order → ks ≡ order.items → pipe name (keys_of (map order_key_of ks)) ≡ step_of s
pipe_parts s name order ks is same = ap (λ (x : List OrderKey). pipe name (keys_of (map order_key_of x))) same ∙ (sym (step_pipe name order) ∙ sym (ap step_of is))

pub run_keys : (docs : List Tree) (params : Pairs) (scope : List Tree) (e b : Expression) (rest : Operands) (v : Tree) → e ≡ run b rest → v ≡ value docs params b scope
    → looked docs params b scope ++ run_looked docs params rest scope v ≡ looked docs params e scope
run_keys docs params scope e b rest v is same = ap (λ (x : Tree). looked docs params b scope ++ run_looked docs params rest scope x) same ∙ sym (ap (λ (x : Expression). looked docs params x scope) is)

pub one_after_another : (k0 k1 k2 a b : List Key) → k1 ≡ k0 ++ a → k2 ≡ a ++ b → k1 ++ b ≡ k0 ++ k2
one_after_another k0 k1 k2 a b is both = ap (λ (ks : List Key). ks ++ b) is ∙ (append_assoc k0 a b ∙ ap (λ (ks : List Key). k0 ++ ks) (sym both))

-- the documents at which a filter is tried are enough: for what it keeps, and for what it looks up
filter_tried : (docs : List Tree) (params : Pairs) (e : Expression) (scope : List Tree) → filter (λ x. is_true (value docs params e (x ∷ scope))) (tried docs params e scope) ≡ filter (λ x. is_true (value docs params e (x ∷ scope))) docs
filter_tried docs params e scope = by_test (is_quiet e) where
  p : Tree → Bool
  p x = is_true (value docs params e (x ∷ scope))

  by_test : (b : Bool) → filter p (cond b (selected (filter_keys e scope params) docs) (having (key_in e scope params) docs)) ≡ filter p docs
  by_test true = sym (filter-within p (has_all (filter_keys e scope params)) (λ x h. true-has_all docs params e scope x h) docs)
  by_test false = sym (filter-within p (has (key_in e scope params)) (λ x h. true-has_key docs params e scope x h) docs)

looked_tried : (docs : List Tree) (params : Pairs) (e : Expression) (scope : List Tree) → flat_map (λ x. looked docs params e (x ∷ scope)) (tried docs params e scope) ≡ flat_map (λ x. looked docs params e (x ∷ scope)) (having (key_in e scope params) docs)
looked_tried docs params e scope = by_test (is_quiet e) refl where
  f : Tree → List Key
  f x = looked docs params e (x ∷ scope)

  by_test : (b : Bool) → is_quiet e ≡ b → flat_map f (cond b (selected (filter_keys e scope params) docs) (having (key_in e scope params) docs)) ≡ flat_map f (having (key_in e scope params) docs)
  by_test true q = flat-none f (λ x. silent docs params e q (x ∷ scope)) (selected (filter_keys e scope params) docs) ∙ sym (flat-none f (λ x. silent docs params e q (x ∷ scope)) (having (key_in e scope params) docs))
  by_test false q = refl

pub kept_docs : (docs : List Tree) (params : Pairs) (e : Expression) (scope : List Tree) (found items kept : List Tree)
    → found ≡ tried docs params e scope → items ≡ found → kept ≡ filter (λ x. is_true (value docs params e (x ∷ scope))) items
    → list_of kept ≡ filtered (λ x. is_true (value docs params e (x ∷ scope))) (list_of docs)
kept_docs docs params e scope found items kept is-found is-items is-kept =
    let p = λ (x : Tree). is_true (value docs params e (x ∷ scope)) in
    ap list_of (is-kept ∙ (ap (filter p) (is-items ∙ is-found) ∙ (filter_tried docs params e scope ∙ ap (filter p) (sym (members-trees docs)))))

pub kept_keys : (docs : List Tree) (params : Pairs) (e : Expression) (scope : List Tree) (k : Key) (found items : List Tree) (k0 k1 k2 ys zs : List Key)
    → k ≡ key_in e scope params → found ≡ tried docs params e scope → items ≡ found → k1 ≡ k0 ++ k ∷ [] → k2 ≡ k1 ++ flat_map (λ x. looked docs params e (x ∷ scope)) items → ys ≡ zs
    → k2 ++ ys ≡ k0 ++ (key_in e scope params ∷ (flat_map (λ x. looked docs params e (x ∷ scope)) (having (key_in e scope params) docs) ++ zs))
kept_keys docs params e scope k found items k0 k1 k2 ys zs is-k is-found is-items is-1 is-2 is-ys =
    let f = λ (x : Tree). looked docs params e (x ∷ scope) in
    let same : flat_map f items ≡ flat_map f (having (key_in e scope params) docs) = ap (flat_map f) (is-items ∙ is-found) ∙ looked_tried docs params e scope in
    ap (λ (ks : List Key). ks ++ ys) (is-2 ∙ (ap (λ (ks : List Key). ks ++ flat_map f items) is-1 ∙ append_assoc k0 (k ∷ []) (flat_map f items)))
    ∙ (append_assoc k0 (k ∷ flat_map f items) ys
    ∙ (ap (λ (x : Key). k0 ++ (x ∷ (flat_map f items ++ ys))) is-k
    ∙ (ap (λ (xs : List Key). k0 ++ (key_in e scope params ∷ (xs ++ ys))) same
    ∙ ap (λ (ks : List Key). k0 ++ (key_in e scope params ∷ (flat_map f (having (key_in e scope params) docs) ++ ks))) is-ys)))

-- `*` with a filter in front of a rest
pub star_value : (docs : List Tree) (params : Pairs) (b e : Expression) (ss later : Steps) (scope : List Tree) → b ≡ everything → ss ≡ more_steps (bracket e) later → bracketed e ≡ condition
    → enter_value docs params later scope (filtered (λ x. is_true (value docs params e (x ∷ scope))) (list_of docs)) ≡ start_value docs params b ss scope
star_value docs params b e ss later scope is-b is-ss is-e =
    let p = λ (x : Tree). is_true (value docs params e (x ∷ scope)) in
    ap (enter_value docs params later scope) (ap (λ (ts : List Tree). list_of (filter p ts)) (members-trees docs))
    ∙ (sym (filter-value docs params e later scope is-e)
    ∙ (ap (λ (x : Expression). start_value docs params x (more_steps (bracket e) later) scope) (sym is-b) ∙ ap (λ (x : Steps). start_value docs params b x scope) (sym is-ss)))

is_filter_then : (b : Bracketed) → b ≡ condition → (x y : List Key) → cond (is_condition b) x y ≡ x
is_filter_then b h x y = ap (λ (z : Bracketed). cond (is_condition z) x y) h

pub star_looked : (docs : List Tree) (params : Pairs) (b e : Expression) (ss later : Steps) (scope : List Tree) → b ≡ everything → ss ≡ more_steps (bracket e) later → bracketed e ≡ condition
    → key_in e scope params ∷ (flat_map (λ d. looked docs params e (d ∷ scope)) (having (key_in e scope params) docs) ++ enter_looked docs params later scope (filtered (λ x. is_true (value docs params e (x ∷ scope))) (list_of docs)))
    ≡ start_looked docs params b ss scope
star_looked docs params b e ss later scope is-b is-ss is-e =
    let p = λ (x : Tree). is_true (value docs params e (x ∷ scope)) in
    ap (λ (v : Tree). key_in e scope params ∷ (flat_map (λ d. looked docs params e (d ∷ scope)) (having (key_in e scope params) docs) ++ enter_looked docs params later scope v))
    (sym (ap (λ (x : Bracketed). in_bracket x p (list_of docs)) is-e))
    ∙ (sym (is_filter_then (bracketed e) is-e (filter_looked docs params (more_steps (bracket e) later) scope) _)
    ∙ (ap (λ (x : Expression). start_looked docs params x (more_steps (bracket e) later) scope) (sym is-b) ∙ ap (λ (x : Steps). start_looked docs params b x scope) (sym is-ss)))

-- a step, and what it gives entering the rest behind it
pub step_looks_on : (docs : List Tree) (params : Pairs) (scope : List Tree) (s : Step) (ss : Steps) (k : Kind) (w : Way) (e : Entrance) (v w' : Tree)
    → k ≡ kind ss → w ≡ way (form s) k → is_end w ≡ false → e ≡ turn w (entrance k) → w' ≡ once w (step_value docs params s scope) v
    → once_looked w (step_looked docs params s scope) v ++ entered_looked e (rest_looked docs params ss scope) w' ≡ rest_looked docs params (more_steps s ss) scope v
step_looks_on docs params scope s ss k w e v w' is-k is-w goes is-e is-v =
    let f = step_value docs params s scope in let fk = step_looked docs params s scope in let rk = rest_looked docs params ss scope in
    ap (λ (x : Tree). once_looked w fk v ++ entered_looked e rk x) is-v ∙ (ap (λ (x : Entrance). once_looked w fk v ++ entered_looked x rk (once w f v)) is-e ∙ (sym (onward_looks w (entrance k) f fk rk v goes)
    ∙ (ap (λ (x : Way). onward_looked x (entrance k) f fk rk v) is-w ∙ ap (λ (x : Kind). onward_looked (way (form s) x) (entrance x) f fk rk v) is-k)))

pub is_everything_then : (b : Expression) → is_everything b ≡ true → b ≡ everything
is_everything_then everything h = refl
is_everything_then _ h = absurd (true≢false (sym h))

-- the kinds behind the first step
pub kinds_behind : (xs : List CodeStep) (x : CodeStep) (ys : List CodeStep) (ks js : List Kind) → xs ≡ x ∷ ys → ks ≡ kinds_of (map step_of xs) → js ≡ drop 1 ks → js ≡ kinds_of (map step_of ys)
kinds_behind xs x ys ks js is has behind = behind ∙ (ap (drop 1) has ∙ ap (λ (zs : List CodeStep). drop 1 (kinds_of (map step_of zs))) is)

pub kind_behind : (xs : List CodeStep) (x : CodeStep) (ys : List CodeStep) (ks js : List Kind) → xs ≡ x ∷ ys → ks ≡ kinds_of (map step_of xs) → js ≡ drop 1 ks → first_kind js ≡ kind (steps_of (map step_of ys))
kind_behind xs x ys ks js is has behind = ap first_kind (kinds_behind xs x ys ks js is has behind) ∙ first_of_kinds (map step_of ys)

-- a fact that the result does not change
pub on_ok : {A E : Type 0} (r : Result A E) {P : Type 0} → P → OnOk r P
on_ok (Ok x) h = h
on_ok (Err x) h = tt

-- nothing is not something
pub no_some : {A : Type 0} {x : A} → None ≡ Some x → ⊥
no_some h = cc
