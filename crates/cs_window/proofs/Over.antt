-- Windowed queries over a dataset: their value and what they look up, from their hits.
use Rattle.std.proofs.Common.{◌≡◌, ◌+◌, ℕ, Bool, true, false, cond, ◌&&◌, List, [], ◌∷◌, ◌++◌, refl, sym, ap, ◌∙◌, subst, arith, Option, Some, None}
use Rattle.std.specs.Prelude.{filter, flat_map}
use Rattle.std.specs.Option.{option_map, option_map_or}
use Rattle.std.proofs.lemmas.Grind.{common_steps}
use Rattle.cs_value.specs.Words.{list_of}
use Rattle.cs_value.specs.Tree.{Tree, null, Pairs}
use Rattle.cs_syntax.specs.Expression.{Expression, everything, chain, attr, deref, each, slice, bracket, project, pipe, Steps, no_steps, more_steps, order_key, OrderKeys, no_keys, more_keys}
use Rattle.cs_view.specs.Keys.{having}
use Rattle.cs_view.specs.declared.key.Key.{Key}
use Rattle.cs_plan.specs.Filters.{key_in}
use Rattle.cs_plan.specs.Simple.{is_filter, is_quiet, is_simple, quiet_keys, quiet_step, quiet_steps, are_tail_steps, filter_of, query_key, steps_behind, tail_of}
use Rattle.cs_plan.specs.Steps.{condition, bracketed, is_order_name}
use Rattle.cs_meaning.specs.Hits.{hits, tail_looked, tail_over}
use Rattle.cs_meaning.specs.Joining.{kind, entrance, entered, base_entrance}
use Rattle.cs_meaning.specs.Laws.{AgreeOn}
use Rattle.cs_meaning.specs.Looked.{each_looked, entered_looked, filter_looked, keys_looked, looked, pipes_looked, query_looked, rest_looked, starts_with_filter, step_looked}
use Rattle.cs_meaning.specs.Operators.{is_true}
use Rattle.cs_meaning.specs.Ordered.{directions, ordered}
use Rattle.cs_meaning.specs.Values.{value, keys_values, pipes_value, query_value, rest_value, step_value}
use Rattle.cs_meaning.specs.declared.join.Entrance.TheVariants.{Mapped}
use Rattle.cs_meaning.proofs.Agree.{AllSame, entered-agree, then-agree}
use Rattle.cs_meaning.proofs.Silent.{both-true, entered-none, flat-none, silent}
use Rattle.cs_meaning.proofs.Simple.{quiet-value}
use Rattle.cs_meaning.proofs.Sound.{filter-value, is-condition, left-value, pipes-sound, rest-sound}
use Rattle.cs_order.specs.Asked.{first_asked}
use Rattle.cs_order.proofs.Enters.{first_enters, first_looks}
use Rattle.cs_window.specs.Windowed.{is_filtered, is_windowed}
use Rattle.cs_window.specs.Window.{Window, window, window_of, order_keys, is_near, first_in, IsBound}
use Rattle.cs_window.proofs.Windows.{first-ordered, near-first}

-- ---- the parts of a query
pub simple-filtered : (e : Expression) → is_simple e ≡ true → is_filtered e ≡ true
simple-filtered (chain everything no_steps) h = cc
simple-filtered (chain everything (more_steps s ss)) h =
    (both-true (is_filter s) (quiet_step s) (both-true (is_filter s && quiet_step s) (are_tail_steps ss && quiet_steps ss) h).0).0
simple-filtered e h = absurd (cc)

abbrev scope : List Tree
scope = null ∷ []

same-filter : (p q : Tree → Bool) → ((x : Tree) → p x ≡ q x) → (xs : List Tree) → filter p xs ≡ filter q xs
same-filter p q h [] = refl
same-filter p q h (x ∷ xs) = rw (h x, same-filter p q h xs) refl

left-hits : (docs : List Tree) (params : Pairs) (f : Expression) (ss : Steps) → is_quiet f ≡ true
    → filter (λ d. is_true (value docs params f (d ∷ scope))) docs ≡ hits (chain everything (more_steps (bracket f) ss)) params docs
left-hits docs params f ss q =
    same-filter (λ d. is_true (value docs params f (d ∷ scope))) (λ d. is_true (value [] params f (d ∷ scope))) (λ d. ap is_true (quiet-value docs [] params f (d ∷ scope) q)) docs

-- ---- the value and the look-ups of a query with a quiet filter, from its hits
abbrev entered_tail : List Tree → Pairs → Steps → List Tree → Tree
entered_tail docs params ss ds = entered (entrance (kind ss)) (rest_value docs params ss scope) (list_of ds)

abbrev entered_keys : List Tree → Pairs → Steps → List Tree → List Key
entered_keys docs params ss ds = entered_looked (entrance (kind ss)) (rest_looked docs params ss scope) (list_of ds)

entered-hits : (docs : List Tree) (params : Pairs) (f : Expression) (ss : Steps) → bracketed f ≡ condition → is_quiet f ≡ true
    → entered (base_entrance everything (kind (more_steps (bracket f) ss))) (rest_value docs params (more_steps (bracket f) ss) scope) (list_of docs)
    ≡ entered_tail docs params ss (hits (chain everything (more_steps (bracket f) ss)) params docs)
entered-hits docs params f ss c q =
    filter-value docs params f ss scope c ∙ ap (entered_tail docs params ss) (left-hits docs params f ss q)

cond-both : {A : Type 0} (t : Bool) (x x' y z z' : List A) → t ≡ true → x ≡ x' → z ≡ z' → cond t x y ++ z ≡ x' ++ z'
cond-both true x x' y z z' h a b = cc
cond-both false x x' y z z' h a b = absurd (cc)

looked-hits : (docs : List Tree) (params : Pairs) (f : Expression) (ss : Steps) → bracketed f ≡ condition → is_quiet f ≡ true → starts_with_filter (more_steps (bracket f) ss) ≡ true
    → let e : Expression = chain everything (more_steps (bracket f) ss) in
    query_looked docs params e ≡ key_in f scope params ∷ (entered_keys docs params ss (hits e params docs) ++ pipes_looked docs params ss scope (entered_tail docs params ss (hits e params docs)))
looked-hits docs params f ss c q starts =
    let e : Expression = chain everything (more_steps (bracket f) ss) in
    let all : Steps = more_steps (bracket f) ss in
    let k : Key = key_in f scope params in
    let v : Tree = entered (base_entrance everything (kind all)) (rest_value docs params all scope) (list_of docs) in
    let none : flat_map (λ d. looked docs params f (d ∷ scope)) (having k docs) ≡ [] = flat-none (λ d. looked docs params f (d ∷ scope)) (λ d. silent docs params f q (d ∷ scope)) (having k docs) in
    let left : step_value docs params (bracket f) scope (list_of docs) ≡ list_of (hits e params docs) = left-value docs params f scope c ∙ ap list_of (left-hits docs params f ss q) in
    let first : filter_looked docs params all scope ≡ k ∷ entered_keys docs params ss (hits e params docs)
    = ap (λ (ks : List Key). k ∷ (ks ++ entered_looked (entrance (kind ss)) (rest_looked docs params ss scope) (step_value docs params (bracket f) scope (list_of docs)))) none
    ∙ ap (λ (t : Tree). k ∷ entered_looked (entrance (kind ss)) (rest_looked docs params ss scope) t) left in
    cond-both (starts_with_filter all) (filter_looked docs params all scope) (k ∷ entered_keys docs params ss (hits e params docs))
    (looked docs params everything scope ++ entered_looked (base_entrance everything (kind all)) (rest_looked docs params all scope) (list_of docs))
    (pipes_looked docs params ss scope v) (pipes_looked docs params ss scope (entered_tail docs params ss (hits e params docs)))
    starts first (ap (pipes_looked docs params ss scope) (entered-hits docs params f ss c q))

abbrev FromHits : Expression → Pairs → List Tree → Type 0
FromHits e params docs =
    (query_value docs params e ≡ tail_over docs e params (hits e params docs))
    × (query_looked docs params e ≡ query_key e params ∷ tail_looked docs e params (hits e params docs))

steps-hits : (ss : Steps) (params : Pairs) (docs : List Tree) → starts_with_filter ss ≡ true → is_quiet (filter_of ss) ≡ true → FromHits (chain everything ss) params docs
steps-hits (more_steps (bracket f) ss) params docs h q =
    let c = is-condition (bracketed f) h in
    (ap (pipes_value docs params ss scope) (entered-hits docs params f ss c q), looked-hits docs params f ss c q h)
steps-hits ss params docs h q = absurd (cc)

pub from-hits : (e : Expression) (params : Pairs) (docs : List Tree) → is_filtered e ≡ true → is_quiet (filter_of (steps_behind e)) ≡ true → FromHits e params docs
from-hits (chain everything ss) params docs h q = steps-hits ss params docs h q
from-hits e params docs h q = absurd (cc)

abbrev quiet_window : Option Window → Bool
quiet_window o = option_map_or (λ w. quiet_keys w.keys) o false

pub windowed-hits : (e : Expression) (params : Pairs) (docs : List Tree) → is_windowed e ≡ true → FromHits e params docs
windowed-hits e params docs h =
    let a = both-true (is_filtered e) (is_quiet (filter_of (steps_behind e)) && quiet_window (window e)) h in
    let b = both-true (is_quiet (filter_of (steps_behind e))) (quiet_window (window e)) a.1 in
    from-hits e params docs a.0 b.0

pub windowed-filtered : (e : Expression) → is_windowed e ≡ true → is_filtered e ≡ true
windowed-filtered e h = (both-true (is_filtered e) (is_quiet (filter_of (steps_behind e)) && quiet_window (window e)) h).0

-- ---- the look-ups settle the value
pub all-same : (d1 d2 : List Tree) (ks : List Key) → AgreeOn ks d1 d2 → AllSame d1 d2 ks
all-same d1 d2 [] h = tt
all-same d1 d2 (k ∷ ks) h = (h k (0, omega arith, refl), all-same d1 d2 ks (λ q at. h q (at.0 + 1, omega (arith, at.1), grind (arith, common_steps, at.2))))

pub tail-settled : (e : Expression) (params : Pairs) (ds d1 d2 : List Tree) → AgreeOn (tail_looked d1 e params ds) d1 d2
    → (tail_over d1 e params ds ≡ tail_over d2 e params ds) × (tail_looked d1 e params ds ≡ tail_looked d2 e params ds)
tail-settled e params ds d1 d2 h =
    let ss : Steps = tail_of (steps_behind e) in
    let n = entrance (kind ss) in
    then-agree d1 d2 (entered_keys d1 params ss ds) (entered_keys d2 params ss ds) (entered_tail d1 params ss ds) (entered_tail d2 params ss ds)
    (pipes_looked d1 params ss scope) (pipes_looked d2 params ss scope) (pipes_value d1 params ss scope) (pipes_value d2 params ss scope)
    (entered-agree d1 d2 n (rest_looked d1 params ss scope) (rest_looked d2 params ss scope) (rest_value d1 params ss scope) (rest_value d2 params ss scope) (rest-sound d1 d2 params ss scope) (list_of ds))
    (pipes-sound d1 d2 params ss scope)
    (all-same d1 d2 (tail_looked d1 e params ds) h)

-- ---- a window over a dataset
keys-value : (docs : List Tree) (params : Pairs) (ks : OrderKeys) (sc : List Tree) → quiet_keys ks ≡ true → keys_values docs params ks sc ≡ keys_values [] params ks sc
keys-value docs params no_keys sc q = refl
keys-value docs params (more_keys (order_key e descending) ks) sc q =
    let p = both-true (is_quiet e) (quiet_keys ks) q in
    let one : value docs params e sc ≡ value [] params e sc = quiet-value docs [] params e sc p.0 in
    let rest : keys_values docs params ks sc ≡ keys_values [] params ks sc = keys-value docs params ks sc p.1 in
    ap (λ (v : Tree). v ∷ keys_values docs params ks sc) one ∙ ap (λ (vs : List Tree). value [] params e sc ∷ vs) rest

keys-none : (docs : List Tree) (params : Pairs) (ks : OrderKeys) (sc : List Tree) → quiet_keys ks ≡ true → keys_looked docs params ks sc ≡ []
keys-none docs params no_keys sc q = refl
keys-none docs params (more_keys (order_key e descending) ks) sc q =
    let p = both-true (is_quiet e) (quiet_keys ks) q in
    ap (λ (xs : List Key). xs ++ keys_looked docs params ks sc) (silent docs params e p.0 sc) ∙ keys-none docs params ks sc p.1

order-value : (docs : List Tree) (params : Pairs) (ks : OrderKeys) (v : Tree) → quiet_keys ks ≡ true
    → ordered (directions ks) (λ x. keys_values docs params ks (x ∷ scope)) v ≡ ordered (directions ks) (order_keys ks params) v
order-value docs params ks v q = λ i. ordered (directions ks) (λ x. keys-value docs params ks (x ∷ scope) q i) v

-- what a tail is behind a window
abbrev Behind : List Tree → Pairs → Steps → List Tree → Steps → List Tree → Type 0
Behind docs params ss ts later us =
    (pipes_value docs params ss scope (entered_tail docs params ss ts) ≡ pipes_value docs params later scope (entered_tail docs params later us))
    × (entered_keys docs params ss ts ++ pipes_looked docs params ss scope (entered_tail docs params ss ts) ≡ entered_keys docs params later us ++ pipes_looked docs params later scope (entered_tail docs params later us))

order-behind : (docs : List Tree) (params : Pairs) (ks : OrderKeys) (ss : Steps) (k : ℕ) (ts : List Tree) → quiet_keys ks ≡ true → first_asked ss ≡ Some k
    → let v : Tree = ordered (directions ks) (λ x. keys_values docs params ks (x ∷ scope)) (list_of ts) in let us : List Tree = first_in (record { keys = ks; many = k }) params ts in
    (entered (entrance (kind ss)) (rest_value docs params ss scope) v ≡ entered_tail docs params ss us)
    × (entered_looked (entrance (kind ss)) (rest_looked docs params ss scope) v ≡ entered_keys docs params ss us)
order-behind docs params ks ss k ts q asked =
    let f : Tree → List Tree = order_keys ks params in
    let same = order-value docs params ks (list_of ts) q in
    let first = first-ordered (directions ks) f k ts in (
      ap (entered (entrance (kind ss)) (rest_value docs params ss scope)) same
          ∙ (sym (first_enters docs params ss scope (Some k) (ordered (directions ks) f (list_of ts)) asked)
          ∙ ap (entered (entrance (kind ss)) (rest_value docs params ss scope)) first),
      ap (entered_looked (entrance (kind ss)) (rest_looked docs params ss scope)) same
          ∙ (sym (first_looks docs params ss scope (Some k) (ordered (directions ks) f (list_of ts)) asked)
          ∙ ap (entered_looked (entrance (kind ss)) (rest_looked docs params ss scope)) first),
    )

pipe-behind : (docs : List Tree) (params : Pairs) (name : List ℕ) (ks : OrderKeys) (ss : Steps) (w : Window) (ts : List Tree) (b : Bool) (asked : Option ℕ) → is_order_name name ≡ b → first_asked ss ≡ asked
    → cond b (option_map (λ (n : ℕ). let r : Window = record { keys = ks; many = n } in r) asked) None ≡ Some w → quiet_keys w.keys ≡ true
    → Behind docs params (more_steps (pipe name ks) ss) ts ss (first_in w params ts)
pipe-behind docs params name ks ss w ts false asked e k h q = cc
pipe-behind docs params name ks ss w ts true None e k h q = cc
pipe-behind docs params name ks ss w ts true (Some n) e k h q =
    let is : record { keys = ks; many = n } ≡ w = some-is _ w h in
    let quiet : quiet_keys ks ≡ true = ap (λ (x : Window). quiet_keys x.keys) is ∙ q in
    let f : Tree → List Tree = λ x. keys_values docs params ks (x ∷ scope) in
    let v : Tree = ordered (directions ks) f (list_of ts) in
    let us : List Tree = first_in (record { keys = ks; many = n }) params ts in
    let both = order-behind docs params ks ss n ts quiet k in
    let step : step_value docs params (pipe name ks) scope (list_of ts) ≡ v = ap (λ (c : Bool). cond c (ordered (directions ks) f (list_of ts)) null) e in
    let looks : step_looked docs params (pipe name ks) scope (list_of ts) ≡ []
    = ap (λ (c : Bool). cond c (each_looked (λ x. keys_looked docs params ks (x ∷ scope)) (list_of ts)) []) e
    ∙ entered-none Mapped (λ x. keys_looked docs params ks (x ∷ scope)) (λ x. keys-none docs params ks (x ∷ scope) quiet) (list_of ts) in
    let enters : entered (entrance (kind ss)) (rest_value docs params ss scope) (step_value docs params (pipe name ks) scope (list_of ts)) ≡ entered_tail docs params ss us
    = ap (entered (entrance (kind ss)) (rest_value docs params ss scope)) step ∙ both.0 in
    let keys : entered_looked (entrance (kind ss)) (rest_looked docs params ss scope) (step_value docs params (pipe name ks) scope (list_of ts)) ≡ entered_keys docs params ss us
    = ap (entered_looked (entrance (kind ss)) (rest_looked docs params ss scope)) step ∙ both.1 in
    subst (λ (x : Window). Behind docs params (more_steps (pipe name ks) ss) ts ss (first_in x params ts)) is (
      ap (pipes_value docs params ss scope) enters,
      joined (step_looked docs params (pipe name ks) scope (list_of ts))
          (entered_looked (entrance (kind ss)) (rest_looked docs params ss scope) (step_value docs params (pipe name ks) scope (list_of ts))) (entered_keys docs params ss us)
          (pipes_looked docs params ss scope (entered (entrance (kind ss)) (rest_value docs params ss scope) (step_value docs params (pipe name ks) scope (list_of ts))))
          (pipes_looked docs params ss scope (entered_tail docs params ss us))
          looks keys (ap (pipes_looked docs params ss scope) enters),
    )
  where
    some-is : (x y : Window) → Some x ≡ Some y → x ≡ y
    some-is x y h = cc

    joined : (a b b' c c' : List Key) → a ≡ [] → b ≡ b' → c ≡ c' → [] ++ ((a ++ b) ++ c) ≡ b' ++ c'
    joined a b b' c c' x y z = cc

steps-behind : (docs : List Tree) (params : Pairs) (ss : Steps) (w : Window) (ts : List Tree) → window_of ss ≡ Some w → quiet_keys w.keys ≡ true
    → Behind docs params ss ts (tail_of ss) (first_in w params ts)
steps-behind docs params no_steps w ts h q = cc
steps-behind docs params (more_steps (pipe name ks) ss) w ts h q = pipe-behind docs params name ks ss w ts (is_order_name name) (first_asked ss) refl refl h q
steps-behind docs params (more_steps (attr x) ss) w ts h q = cc
steps-behind docs params (more_steps deref ss) w ts h q = cc
steps-behind docs params (more_steps each ss) w ts h q = cc
steps-behind docs params (more_steps (slice from to closed) ss) w ts h q = cc
steps-behind docs params (more_steps (bracket e) ss) w ts h q = cc
steps-behind docs params (more_steps (project es) ss) w ts h q = cc

pub windowed-near : (e : Expression) (params : Pairs) (bound xs ys docs : List Tree) → is_windowed e ≡ true → IsBound e params bound xs
    → filter (is_near e params bound) xs ≡ filter (is_near e params bound) ys
    → (tail_over docs e params xs ≡ tail_over docs e params ys) × (tail_looked docs e params xs ≡ tail_looked docs e params ys)
windowed-near e params bound xs ys docs h b same =
    let w = b.within in
    let a = both-true (is_filtered e) (is_quiet (filter_of (steps_behind e)) && quiet_window (window e)) h in
    let c = both-true (is_quiet (filter_of (steps_behind e))) (quiet_window (window e)) a.1 in
    let quiet : quiet_keys w.keys ≡ true = sym (ap quiet_window b.is) ∙ c.1 in
    let first : first_in w params xs ≡ first_in w params ys = near-first e params bound xs ys b same in
    let ss : Steps = tail_of (steps_behind e) in
    let one = steps-behind docs params ss w xs b.is quiet in
    let other = steps-behind docs params ss w ys b.is quiet in
    let later : Steps = tail_of ss in (
      one.0 ∙ (ap (λ (us : List Tree). pipes_value docs params later scope (entered_tail docs params later us)) first ∙ sym other.0),
      one.1 ∙ (ap (λ (us : List Tree). entered_keys docs params later us ++ pipes_looked docs params later scope (entered_tail docs params later us)) first ∙ sym other.1),
    )
