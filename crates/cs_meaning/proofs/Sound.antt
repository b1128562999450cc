-- Over documents that agree on what was looked up, the value is the same, and the same is looked up.
use Rattle.std.proofs.Common.{◌≡◌, ℕ, Bool, true, false, cond, ◌&&◌, List, [], ◌∷◌, ◌++◌, refl, ap, ap₂, sym, ◌∙◌, subst, Option, Some, None}
use Rattle.std.specs.Prelude.{not, filter, flat_map, codes, unwrap_or}
use Rattle.std.specs.Option.{option_map_or}
use Rattle.std.proofs.lemmas.Slice.Eq.{bytes_eq-Decides}
use Rattle.cs_value.specs.Tree.{Tree, null, boolean, integer, text, list, object, Pairs, no_pairs}
use Rattle.cs_value.specs.Pairs.{put}
use Rattle.cs_value.specs.Words.{is_object, as_list, list_of, is_null}
use Rattle.cs_value.proofs.Views.{members-trees}
use Rattle.cs_ops.specs.Operators as operators
use Rattle.cs_ops.specs.Truth.{truth, said, both, either}
use Rattle.cs_ops.specs.declared.op.Op.{Op}
use Rattle.cs_ops.specs.declared.op.Op.TheVariants.{And, Or}
use Rattle.cs_syntax.specs.Brackets.{key_of}
use Rattle.cs_syntax.specs.Faults.{is_path}
use Rattle.cs_syntax.specs.Expression.{Expression, everything, round, call, array, object_literal, chain, prefix, run, within, between, Operands, no_operands, more_operands, Step, attr, deref, each, slice, bracket, project, pipe, Steps, no_steps, more_steps, Entry, keyed, bare, when, spread, Entries, no_entries, more_entries, Element, element, spread_element, Elements, no_elements, more_elements, Argument, argument, when_argument, Arguments, no_arguments, more_arguments, order_key, OrderKeys, no_keys, more_keys}
use Rattle.cs_view.specs.Dataset.{standing, same_id}
use Rattle.cs_view.specs.Document.{id_of}
use Rattle.cs_view.specs.Keys.{has, having}
use Rattle.cs_view.specs.declared.key.Key.{Key}
use Rattle.cs_view.specs.declared.key.Key.TheVariants.{All, Id}
use Rattle.cs_plan.specs.Filters.{key_in}
use Rattle.cs_plan.specs.Simple.{is_condition}
use Rattle.cs_plan.specs.Steps.{Bracketed, position, named, condition, bracketed, is_order_name}
use Rattle.cs_meaning.specs.Joining.{bracket_form, form, kind_before, kind, way, entrance, entered, onward, base_entrance}
use Rattle.cs_meaning.specs.declared.join.Kind.{Kind}
use Rattle.cs_meaning.specs.declared.join.Kind.TheVariants.{Empty, Taking}
use Rattle.cs_meaning.specs.declared.join.Form.TheVariants.{Listing}
use Rattle.cs_meaning.specs.declared.join.Entrance.{Entrance}
use Rattle.cs_meaning.specs.declared.join.Entrance.TheVariants.{Whole}
use Rattle.cs_meaning.specs.declared.join.Shape.TheVariants.{One, Array}
use Rattle.cs_meaning.specs.Looked.{each_looked, entered_looked, bracket_looked, id_looked, called_looked, is_everything, starts_with_filter, looked, filter_looked, run_looked, argument_looked, arguments_looked, coalesced_looked, selected_looked, element_looked, elements_looked, entry_looked, entries_looked, rest_looked, pipes_looked, step_looked, keys_looked}
use Rattle.cs_meaning.specs.Operators.{is_true, operator_of, operated, decides, signed, in_list_or_path, sole, Callee, coalescing, selecting, referring, applying, callee, applied, references, called, or_else, spread_into, put_under, reference_of, sought}
use Rattle.cs_meaning.specs.Ordered.{ordered, directions}
use Rattle.cs_meaning.specs.Values.{in_bracket, projected, is_pipe, value, run_value, path_pattern, argument_value, arguments_values, coalesced, selected, element_values, elements_values, entry_pairs, entries_pairs, rest_value, pipes_value, step_value, keys_values}
use Rattle.cs_meaning.proofs.Agree.{AllSame, Same, Agree, nothing-agree, apply-agree, then-agree, both-agree, cond-agree, choose-agree, filter-agree, filtered-agree, ordered-agree, entered-agree, onward-agree}
use Rattle.cs_meaning.proofs.TrueKey.{true-has_key}

-- the documents of the key of all are all documents
filter-all : (xs : List Tree) → filter (has All) xs ≡ xs
filter-all [] = refl
filter-all (x ∷ xs) = ap (λ ys. x ∷ ys) (filter-all xs)

all-same : (d1 d2 : List Tree) → having All d1 ≡ having All d2 → d1 ≡ d2
all-same d1 d2 h = sym (filter-all d1) ∙ (h ∙ filter-all d2)

-- the document of an id is the first of those that have its key
abbrev first_of_all : List Tree → Tree
first_of_all [] = null
first_of_all (x ∷ xs) = x

cond-first : (b : Bool) (d : Tree) (ds : List Tree) (v : Option Tree) → unwrap_or v null ≡ first_of_all ds → unwrap_or (cond b (Some d) v) null ≡ first_of_all (cond b (d ∷ ds) ds)
cond-first true d ds v h = refl
cond-first false d ds v h = h

at-first : (t : List ℕ) (ds : List Tree) → unwrap_or (standing t ds) null ≡ first_of_all (having (Id t) ds)
at-first t [] = refl
at-first t (d ∷ ds) = cond-first (same_id t (id_of d)) d (having (Id t) ds) (standing t ds) (at-first t ds)

sought-agree : (d1 d2 : List Tree) (o : Option (List ℕ)) → Same d1 d2 (id_looked o) (id_looked o) (sought d1 o) (sought d2 o)
sought-agree d1 d2 None h = (refl, refl)
sought-agree d1 d2 (Some t) h = (at-first t d1 ∙ (ap first_of_all h.0 ∙ sym (at-first t d2)), refl)

-- a filter that only takes what has the key may try those alone
cond-within : (p h : Bool) (x : Tree) (ys zs : List Tree) (q : Tree → Bool) → q x ≡ p → (p ≡ true → h ≡ true) → ys ≡ filter q zs → cond p (x ∷ ys) ys ≡ filter q (cond h (x ∷ zs) zs)
cond-within true true x ys zs q e g is = rw (e, is) refl
cond-within true false x ys zs q e g is = let k = g refl in cc
cond-within false true x ys zs q e g is = rw (e, is) refl
cond-within false false x ys zs q e g is = is

pub filter-within : (q h : Tree → Bool) → ((x : Tree) → q x ≡ true → h x ≡ true) → (xs : List Tree) → filter q xs ≡ filter q (filter h xs)
filter-within q h g [] = refl
filter-within q h g (x ∷ xs) = cond-within (q x) (h x) x (filter q xs) (filter h xs) q refl (g x) (filter-within q h g xs)

-- a bracket that is a filter
pub is-condition : (b : Bracketed) → is_condition b ≡ true → b ≡ condition
is-condition (position n) h = cc
is-condition (named w) h = cc
is-condition condition h = refl

after-whole : (k : Kind) → entrance (kind_before Listing k) ≡ Whole
after-whole Empty = refl
after-whole (Taking Array g) = refl
after-whole (Taking One g) = refl

-- `path` calls no function that leaves arguments aside
path-callee : (name : List ℕ) (a b m : List Key) → is_path name ≡ true → called_looked (callee name) a b m ≡ m
path-callee name a b m h = subst (λ (n : List ℕ). called_looked (callee n) a b m ≡ m) (sym ((bytes_eq-Decides name (codes "path")).0 h)) refl

module _ (d1 d2 : List Tree) where
  -- a right side that counts unless the left one decides
  and-agree : (t : Option Bool) (k1 k2 : List Key) (x1 x2 : Tree) → Same d1 d2 k1 k2 x1 x2
      → Same d1 d2 (cond (not (unwrap_or t true)) [] k1) (cond (not (unwrap_or t true)) [] k2) (said (both t (truth x1))) (said (both t (truth x2)))
  and-agree (Some true) k1 k2 x1 x2 g = apply-agree d1 d2 (λ x. said (both (Some true) (truth x))) k1 k2 x1 x2 g
  and-agree (Some false) k1 k2 x1 x2 g = nothing-agree d1 d2 (boolean false)
  and-agree None k1 k2 x1 x2 g = apply-agree d1 d2 (λ x. said (both None (truth x))) k1 k2 x1 x2 g

  or-agree : (t : Option Bool) (k1 k2 : List Key) (x1 x2 : Tree) → Same d1 d2 k1 k2 x1 x2
      → Same d1 d2 (cond (unwrap_or t false) [] k1) (cond (unwrap_or t false) [] k2) (said (either t (truth x1))) (said (either t (truth x2)))
  or-agree (Some true) k1 k2 x1 x2 g = nothing-agree d1 d2 (boolean true)
  or-agree (Some false) k1 k2 x1 x2 g = apply-agree d1 d2 (λ x. said (either (Some false) (truth x))) k1 k2 x1 x2 g
  or-agree None k1 k2 x1 x2 g = apply-agree d1 d2 (λ x. said (either None (truth x))) k1 k2 x1 x2 g

  op-agree : (o : Op) (v : Tree) (k1 k2 : List Key) (x1 x2 : Tree) → Same d1 d2 k1 k2 x1 x2
      → Same d1 d2 (cond (decides (Some o) v) [] k1) (cond (decides (Some o) v) [] k2) (operators.binary o v x1) (operators.binary o v x2)
  op-agree And v k1 k2 x1 x2 g = and-agree (truth v) k1 k2 x1 x2 g
  op-agree Or v k1 k2 x1 x2 g = or-agree (truth v) k1 k2 x1 x2 g
  op-agree o v k1 k2 x1 x2 g = apply-agree d1 d2 (operators.binary o v) k1 k2 x1 x2 g

  sign-agree : (o : Option Op) (v : Tree) (k1 k2 : List Key) (x1 x2 : Tree) → Same d1 d2 k1 k2 x1 x2
      → Same d1 d2 (cond (decides o v) [] k1) (cond (decides o v) [] k2) (option_map_or (λ p. operators.binary p v x1) o null) (option_map_or (λ p. operators.binary p v x2) o null)
  sign-agree None v k1 k2 x1 x2 g = λ s. let a = g s in (refl, a.1)
  sign-agree (Some o) v k1 k2 x1 x2 g = op-agree o v k1 k2 x1 x2 g

  called-agree : (f : Callee) (this : Tree) (a1 a2 b1 b2 c1 c2 : List Key) (x1 x2 y1 y2 : Tree) (z1 z2 : List Tree)
      → Same d1 d2 a1 a2 x1 x2 → Same d1 d2 b1 b2 y1 y2 → Same d1 d2 c1 c2 z1 z2
      → Same d1 d2 (called_looked f a1 b1 c1) (called_looked f a2 b2 c2) (called f x1 y1 this z1) (called f x2 y2 this z2)
  called-agree coalescing this a1 a2 b1 b2 c1 c2 x1 x2 y1 y2 z1 z2 f g h = f
  called-agree selecting this a1 a2 b1 b2 c1 c2 x1 x2 y1 y2 z1 z2 f g h = g
  called-agree referring this a1 a2 b1 b2 c1 c2 x1 x2 y1 y2 z1 z2 f g h = apply-agree d1 d2 (λ zs. references zs this) c1 c2 z1 z2 h
  called-agree (applying o) this a1 a2 b1 b2 c1 c2 x1 x2 y1 y2 z1 z2 f g h = apply-agree d1 d2 (applied o) c1 c2 z1 z2 h

  -- the pattern of a call of `path`
  pattern-agree : (b : Bool) (k c1 c2 : List Key) (z1 z2 : List Tree) → (b ≡ true → k ≡ c1) → Same d1 d2 c1 c2 z1 z2 → AllSame d1 d2 k
      → cond b (Some (sole z1)) None ≡ cond b (Some (sole z2)) None
  pattern-agree true k c1 c2 z1 z2 is h s = ap (λ zs. Some (sole zs)) (h (subst (AllSame d1 d2) (is refl) s)).0
  pattern-agree false k c1 c2 z1 z2 is h s = refl

  bracket-agree : (b : Bracketed) (k1 k2 : Tree → List Key) (r1 r2 : Tree → Tree) → Agree d1 d2 k1 k2 r1 r2
      → Agree d1 d2 (bracket_looked b k1) (bracket_looked b k2) (in_bracket b (λ x. is_true (r1 x))) (in_bracket b (λ x. is_true (r2 x)))
  bracket-agree (position n) k1 k2 r1 r2 h v = λ s. (refl, refl)
  bracket-agree (named w) k1 k2 r1 r2 h v = λ s. (refl, refl)
  bracket-agree condition k1 k2 r1 r2 h v = filtered-agree d1 d2 k1 k2 r1 r2 h v

  project-agree : (v : Tree) (k1 k2 : List Key) (p1 p2 : Pairs) → Same d1 d2 k1 k2 p1 p2
      → Same d1 d2 (cond (is_object v) k1 []) (cond (is_object v) k2 []) (projected p1 v) (projected p2 v)
  project-agree (object ps) k1 k2 p1 p2 h = apply-agree d1 d2 object k1 k2 p1 p2 h
  project-agree null k1 k2 p1 p2 h = λ s. (refl, refl)
  project-agree (boolean b) k1 k2 p1 p2 h = λ s. (refl, refl)
  project-agree (integer n) k1 k2 p1 p2 h = λ s. (refl, refl)
  project-agree (text t) k1 k2 p1 p2 h = λ s. (refl, refl)
  project-agree (list ts) k1 k2 p1 p2 h = λ s. (refl, refl)

-- the documents that a `*` with a filter leaves
abbrev pub left_by : List Tree → Pairs → Expression → List Tree → List Tree
left_by docs params e scope = filter (λ x. is_true (value docs params e (x ∷ scope))) docs

pub left-value : (docs : List Tree) (params : Pairs) (e : Expression) (scope : List Tree) → bracketed e ≡ condition → step_value docs params (bracket e) scope (list_of docs) ≡ list_of (left_by docs params e scope)
left-value docs params e scope h =
    ap (λ (b : Bracketed). in_bracket b (λ x. is_true (value docs params e (x ∷ scope))) (list_of docs)) h
    ∙ ap (λ xs. list_of (filter (λ x. is_true (value docs params e (x ∷ scope))) xs)) (members-trees docs)

-- the value of `*` and its filter, and of the rest behind them
pub filter-value : (docs : List Tree) (params : Pairs) (e : Expression) (ss : Steps) (scope : List Tree) → bracketed e ≡ condition
    → entered (base_entrance everything (kind (more_steps (bracket e) ss))) (rest_value docs params (more_steps (bracket e) ss) scope) (list_of docs)
    ≡ entered (entrance (kind ss)) (rest_value docs params ss scope) (list_of (left_by docs params e scope))
filter-value docs params e ss scope h =
    ap (λ (b : Bracketed). entered (entrance (kind_before (bracket_form b) (kind ss))) (λ v. onward (way (bracket_form b) (kind ss)) (entrance (kind ss)) (step_value docs params (bracket e) scope) (rest_value docs params ss scope) v) (list_of docs)) h
    ∙ ap (λ (n : Entrance). entered n (λ v. entered (entrance (kind ss)) (rest_value docs params ss scope) (step_value docs params (bracket e) scope v)) (list_of docs)) (after-whole (kind ss))
    ∙ ap (λ v. entered (entrance (kind ss)) (rest_value docs params ss scope) v) (left-value docs params e scope h)

module _ (d1 d2 : List Tree) (params : Pairs) where
  -- the documents that a `*` with a filter leaves, and what finding them looks up
  left-agree : (e : Expression) (scope : List Tree)
      → Agree d1 d2 (λ x. looked d1 params e (x ∷ scope)) (λ x. looked d2 params e (x ∷ scope)) (λ x. value d1 params e (x ∷ scope)) (λ x. value d2 params e (x ∷ scope))
      → having (key_in e scope params) d1 ≡ having (key_in e scope params) d2
      → Same d1 d2 (flat_map (λ x. looked d1 params e (x ∷ scope)) (having (key_in e scope params) d1)) (flat_map (λ x. looked d2 params e (x ∷ scope)) (having (key_in e scope params) d2))
      (left_by d1 params e scope) (left_by d2 params e scope)
  left-agree e scope h same s =
      let k = key_in e scope params in
      let w1 = filter-within (λ x. is_true (value d1 params e (x ∷ scope))) (has k) (λ x t. true-has_key d1 params e scope x t) d1 in
      let w2 = filter-within (λ x. is_true (value d2 params e (x ∷ scope))) (has k) (λ x t. true-has_key d2 params e scope x t) d2 in
      let a = filter-agree d1 d2 (λ x. looked d1 params e (x ∷ scope)) (λ x. looked d2 params e (x ∷ scope)) (λ x. value d1 params e (x ∷ scope)) (λ x. value d2 params e (x ∷ scope)) h (having k d1) s in (
        w1 ∙ (a.0 ∙ (ap (filter (λ x. is_true (value d2 params e (x ∷ scope)))) same ∙ sym w2)),
        a.1 ∙ ap (flat_map (λ x. looked d2 params e (x ∷ scope))) same,
      )

  -- what is shown of a `*` with a filter
  abbrev FilterSound : Steps → List Tree → Type 0
  FilterSound ss scope = Same d1 d2 (filter_looked d1 params ss scope) (filter_looked d2 params ss scope)
      (entered (base_entrance everything (kind ss)) (rest_value d1 params ss scope) (list_of d1)) (entered (base_entrance everything (kind ss)) (rest_value d2 params ss scope) (list_of d2))

  filter-case : (base : Expression) (ss : Steps) (scope : List Tree) → (is_everything base && starts_with_filter ss) ≡ true → (starts_with_filter ss ≡ true → FilterSound ss scope)
      → Same d1 d2 (filter_looked d1 params ss scope) (filter_looked d2 params ss scope)
      (entered (base_entrance base (kind ss)) (rest_value d1 params ss scope) (value d1 params base scope)) (entered (base_entrance base (kind ss)) (rest_value d2 params ss scope) (value d2 params base scope))
  filter-case everything ss scope t h = h t
  filter-case base ss scope t h = absurd (cc)

  -- `*`, its filter and the rest, from the parts
  filter-parts : (e : Expression) (ss : Steps) (scope : List Tree) → bracketed e ≡ condition
      → Agree d1 d2 (λ x. looked d1 params e (x ∷ scope)) (λ x. looked d2 params e (x ∷ scope)) (λ x. value d1 params e (x ∷ scope)) (λ x. value d2 params e (x ∷ scope))
      → Agree d1 d2 (rest_looked d1 params ss scope) (rest_looked d2 params ss scope) (rest_value d1 params ss scope) (rest_value d2 params ss scope)
      → FilterSound (more_steps (bracket e) ss) scope
  filter-parts e ss scope c h r s =
      let f1 = flat_map (λ x. looked d1 params e (x ∷ scope)) (having (key_in e scope params) d1) in
      let f2 = flat_map (λ x. looked d2 params e (x ∷ scope)) (having (key_in e scope params) d2) in
      let v1 = step_value d1 params (bracket e) scope (list_of d1) in
      let v2 = step_value d2 params (bracket e) scope (list_of d2) in
      let a = then-agree d1 d2 f1 f2 v1 v2
      (entered_looked (entrance (kind ss)) (rest_looked d1 params ss scope)) (entered_looked (entrance (kind ss)) (rest_looked d2 params ss scope))
      (entered (entrance (kind ss)) (rest_value d1 params ss scope)) (entered (entrance (kind ss)) (rest_value d2 params ss scope))
      (λ t. let b = left-agree e scope h s.0 t in (left-value d1 params e scope c ∙ (ap list_of b.0 ∙ sym (left-value d2 params e scope c)), b.1))
      (entered-agree d1 d2 (entrance (kind ss)) (rest_looked d1 params ss scope) (rest_looked d2 params ss scope) (rest_value d1 params ss scope) (rest_value d2 params ss scope) r) s.1 in
      let e1 = ap (λ v. entered (entrance (kind ss)) (rest_value d1 params ss scope) v) (left-value d1 params e scope c) in
      let e2 = ap (λ v. entered (entrance (kind ss)) (rest_value d2 params ss scope) v) (left-value d2 params e scope c) in (
        filter-value d1 params e ss scope c ∙ (sym e1 ∙ (a.0 ∙ (e2 ∙ sym (filter-value d2 params e ss scope c)))),
        ap (λ ks. key_in e scope params ∷ ks) a.1,
      )

  mutual
    pub sound : (e : Expression) → Agree d1 d2 (looked d1 params e) (looked d2 params e) (value d1 params e) (value d2 params e)
    sound everything scope = λ s. (ap list_of (all-same d1 d2 s.0), refl)
    sound (round e) scope = sound e scope
    sound (call name args) scope =
        called-agree d1 d2 (callee name) _ (coalesced_looked d1 params args scope) (coalesced_looked d2 params args scope) (selected_looked d1 params args scope) (selected_looked d2 params args scope) (arguments_looked d1 params args scope) (arguments_looked d2 params args scope)
        (coalesced d1 params args scope) (coalesced d2 params args scope) (selected d1 params args scope) (selected d2 params args scope) (arguments_values d1 params args scope) (arguments_values d2 params args scope)
        (coalesced-sound args scope) (selected-sound args scope) (arguments-sound args scope)
    sound (array es) scope = apply-agree d1 d2 list_of (elements_looked d1 params es scope) (elements_looked d2 params es scope) (elements_values d1 params es scope) (elements_values d2 params es scope) (elements-sound es scope)
    sound (object_literal es) scope =
        apply-agree d1 d2 object (entries_looked d1 params es scope) (entries_looked d2 params es scope) (entries_pairs d1 params es scope no_pairs) (entries_pairs d2 params es scope no_pairs) (entries-sound es scope no_pairs)
    sound (chain base ss) scope =
        then-agree d1 d2
        (cond (is_everything base && starts_with_filter ss) (filter_looked d1 params ss scope) (looked d1 params base scope ++ entered_looked (base_entrance base (kind ss)) (rest_looked d1 params ss scope) (value d1 params base scope)))
        (cond (is_everything base && starts_with_filter ss) (filter_looked d2 params ss scope) (looked d2 params base scope ++ entered_looked (base_entrance base (kind ss)) (rest_looked d2 params ss scope) (value d2 params base scope)))
        (entered (base_entrance base (kind ss)) (rest_value d1 params ss scope) (value d1 params base scope)) (entered (base_entrance base (kind ss)) (rest_value d2 params ss scope) (value d2 params base scope))
        (pipes_looked d1 params ss scope) (pipes_looked d2 params ss scope) (pipes_value d1 params ss scope) (pipes_value d2 params ss scope)
        (choose-agree d1 d2 (is_everything base && starts_with_filter ss) (filter_looked d1 params ss scope) (filter_looked d2 params ss scope)
        (looked d1 params base scope ++ entered_looked (base_entrance base (kind ss)) (rest_looked d1 params ss scope) (value d1 params base scope))
        (looked d2 params base scope ++ entered_looked (base_entrance base (kind ss)) (rest_looked d2 params ss scope) (value d2 params base scope))
        (entered (base_entrance base (kind ss)) (rest_value d1 params ss scope) (value d1 params base scope)) (entered (base_entrance base (kind ss)) (rest_value d2 params ss scope) (value d2 params base scope))
        (λ t. filter-case base ss scope t (λ f. filter-sound ss scope f))
        (then-agree d1 d2 (looked d1 params base scope) (looked d2 params base scope) (value d1 params base scope) (value d2 params base scope)
        (entered_looked (base_entrance base (kind ss)) (rest_looked d1 params ss scope)) (entered_looked (base_entrance base (kind ss)) (rest_looked d2 params ss scope))
        (entered (base_entrance base (kind ss)) (rest_value d1 params ss scope)) (entered (base_entrance base (kind ss)) (rest_value d2 params ss scope))
        (sound base scope)
        (entered-agree d1 d2 (base_entrance base (kind ss)) (rest_looked d1 params ss scope) (rest_looked d2 params ss scope) (rest_value d1 params ss scope) (rest_value d2 params ss scope) (rest-sound ss scope))))
        (pipes-sound ss scope)
    sound (prefix signs e) scope = apply-agree d1 d2 (signed signs) (looked d1 params e scope) (looked d2 params e scope) (value d1 params e scope) (value d2 params e scope) (sound e scope)
    sound (run e rest) scope =
        then-agree d1 d2 (looked d1 params e scope) (looked d2 params e scope) (value d1 params e scope) (value d2 params e scope) (run_looked d1 params rest scope) (run_looked d2 params rest scope) (run_value d1 params rest scope) (run_value d2 params rest scope)
        (sound e scope) (run-sound rest scope)
    sound (within e right) scope =
        both-agree d1 d2 (λ (v : Tree) (w : Option Tree × Tree). in_list_or_path v w.0 w.1) (looked d1 params e scope) (looked d2 params e scope) (looked d1 params right scope) (looked d2 params right scope)
        (value d1 params e scope) (value d2 params e scope) (path_pattern d1 params right scope, value d1 params right scope) (path_pattern d2 params right scope, value d2 params right scope)
        (sound e scope) (λ s. let a = sound right scope s in let p = pattern-sound right scope s in (ap₂ (λ x y. (x, y)) p a.0, a.1))
    sound (between e from to closed) scope =
        both-agree d1 d2 (λ (v : Tree) (w : Tree × Tree). operators.between v w.0 w.1 closed) (looked d1 params e scope) (looked d2 params e scope) (looked d1 params from scope ++ looked d1 params to scope) (looked d2 params from scope ++ looked d2 params to scope)
        (value d1 params e scope) (value d2 params e scope) (value d1 params from scope, value d1 params to scope) (value d2 params from scope, value d2 params to scope)
        (sound e scope)
        (both-agree d1 d2 (λ x y. (x, y)) (looked d1 params from scope) (looked d2 params from scope) (looked d1 params to scope) (looked d2 params to scope) (value d1 params from scope) (value d2 params from scope) (value d1 params to scope) (value d2 params to scope)
        (sound from scope) (sound to scope))
    sound e scope = λ s. (refl, refl)

    filter-sound : (ss : Steps) (scope : List Tree) → starts_with_filter ss ≡ true → FilterSound ss scope
    filter-sound (more_steps (bracket e) ss) scope t = filter-parts e ss scope (is-condition (bracketed e) t) (λ x. sound e (x ∷ scope)) (rest-sound ss scope)
    filter-sound ss scope t = absurd (cc)

    run-sound : (rest : Operands) (scope : List Tree) → Agree d1 d2 (run_looked d1 params rest scope) (run_looked d2 params rest scope) (run_value d1 params rest scope) (run_value d2 params rest scope)
    run-sound no_operands scope v = λ s. (refl, refl)
    run-sound (more_operands sign e rest) scope v =
        then-agree d1 d2 (cond (decides (operator_of sign) v) [] (looked d1 params e scope)) (cond (decides (operator_of sign) v) [] (looked d2 params e scope)) (operated sign v (value d1 params e scope)) (operated sign v (value d2 params e scope))
        (run_looked d1 params rest scope) (run_looked d2 params rest scope) (run_value d1 params rest scope) (run_value d2 params rest scope)
        (sign-agree d1 d2 (operator_of sign) v (looked d1 params e scope) (looked d2 params e scope) (value d1 params e scope) (value d2 params e scope) (sound e scope)) (run-sound rest scope)

    pattern-sound : (e : Expression) (scope : List Tree) → AllSame d1 d2 (looked d1 params e scope) → path_pattern d1 params e scope ≡ path_pattern d2 params e scope
    pattern-sound (call name args) scope s =
        pattern-agree d1 d2 (is_path name) (called_looked (callee name) (coalesced_looked d1 params args scope) (selected_looked d1 params args scope) (arguments_looked d1 params args scope))
        (arguments_looked d1 params args scope) (arguments_looked d2 params args scope) (arguments_values d1 params args scope) (arguments_values d2 params args scope)
        (path-callee name (coalesced_looked d1 params args scope) (selected_looked d1 params args scope) (arguments_looked d1 params args scope)) (arguments-sound args scope) s
    pattern-sound e scope s = refl

    argument-sound : (x : Argument) (scope : List Tree) → Same d1 d2 (argument_looked d1 params x scope) (argument_looked d2 params x scope) (argument_value d1 params x scope) (argument_value d2 params x scope)
    argument-sound (argument e) scope = sound e scope
    argument-sound (when_argument c e) scope = nothing-agree d1 d2 null

    arguments-sound : (xs : Arguments) (scope : List Tree) → Same d1 d2 (arguments_looked d1 params xs scope) (arguments_looked d2 params xs scope) (arguments_values d1 params xs scope) (arguments_values d2 params xs scope)
    arguments-sound no_arguments scope = λ s. (refl, refl)
    arguments-sound (more_arguments x xs) scope =
        both-agree d1 d2 (λ v vs. v ∷ vs) (argument_looked d1 params x scope) (argument_looked d2 params x scope) (arguments_looked d1 params xs scope) (arguments_looked d2 params xs scope)
        (argument_value d1 params x scope) (argument_value d2 params x scope) (arguments_values d1 params xs scope) (arguments_values d2 params xs scope) (argument-sound x scope) (arguments-sound xs scope)

    coalesced-sound : (xs : Arguments) (scope : List Tree) → Same d1 d2 (coalesced_looked d1 params xs scope) (coalesced_looked d2 params xs scope) (coalesced d1 params xs scope) (coalesced d2 params xs scope)
    coalesced-sound no_arguments scope = λ s. (refl, refl)
    coalesced-sound (more_arguments x xs) scope =
        then-agree d1 d2 (argument_looked d1 params x scope) (argument_looked d2 params x scope) (argument_value d1 params x scope) (argument_value d2 params x scope)
        (λ v. cond (is_null v) (coalesced_looked d1 params xs scope) []) (λ v. cond (is_null v) (coalesced_looked d2 params xs scope) []) (λ v. or_else v (coalesced d1 params xs scope)) (λ v. or_else v (coalesced d2 params xs scope))
        (argument-sound x scope)
        (λ v. cond-agree d1 d2 (is_null v) (coalesced_looked d1 params xs scope) (coalesced_looked d2 params xs scope) [] [] (coalesced d1 params xs scope) (coalesced d2 params xs scope) v v (coalesced-sound xs scope) (nothing-agree d1 d2 v))

    selected-sound : (xs : Arguments) (scope : List Tree) → Same d1 d2 (selected_looked d1 params xs scope) (selected_looked d2 params xs scope) (selected d1 params xs scope) (selected d2 params xs scope)
    selected-sound no_arguments scope = λ s. (refl, refl)
    selected-sound (more_arguments (argument e) xs) scope = sound e scope
    selected-sound (more_arguments (when_argument c e) xs) scope =
        then-agree d1 d2 (looked d1 params c scope) (looked d2 params c scope) (value d1 params c scope) (value d2 params c scope)
        (λ v. cond (is_true v) (looked d1 params e scope) (selected_looked d1 params xs scope)) (λ v. cond (is_true v) (looked d2 params e scope) (selected_looked d2 params xs scope))
        (λ v. cond (is_true v) (value d1 params e scope) (selected d1 params xs scope)) (λ v. cond (is_true v) (value d2 params e scope) (selected d2 params xs scope))
        (sound c scope)
        (λ v. cond-agree d1 d2 (is_true v) (looked d1 params e scope) (looked d2 params e scope) (selected_looked d1 params xs scope) (selected_looked d2 params xs scope) (value d1 params e scope) (value d2 params e scope) (selected d1 params xs scope) (selected d2 params xs scope)
        (sound e scope) (selected-sound xs scope))

    element-sound : (x : Element) (scope : List Tree) → Same d1 d2 (element_looked d1 params x scope) (element_looked d2 params x scope) (element_values d1 params x scope) (element_values d2 params x scope)
    element-sound (element e) scope = apply-agree d1 d2 (λ v. v ∷ []) (looked d1 params e scope) (looked d2 params e scope) (value d1 params e scope) (value d2 params e scope) (sound e scope)
    element-sound (spread_element e) scope = apply-agree d1 d2 (λ v. unwrap_or (as_list v) []) (looked d1 params e scope) (looked d2 params e scope) (value d1 params e scope) (value d2 params e scope) (sound e scope)

    elements-sound : (xs : Elements) (scope : List Tree) → Same d1 d2 (elements_looked d1 params xs scope) (elements_looked d2 params xs scope) (elements_values d1 params xs scope) (elements_values d2 params xs scope)
    elements-sound no_elements scope = λ s. (refl, refl)
    elements-sound (more_elements x xs) scope =
        both-agree d1 d2 (λ vs ws. vs ++ ws) (element_looked d1 params x scope) (element_looked d2 params x scope) (elements_looked d1 params xs scope) (elements_looked d2 params xs scope)
        (element_values d1 params x scope) (element_values d2 params x scope) (elements_values d1 params xs scope) (elements_values d2 params xs scope) (element-sound x scope) (elements-sound xs scope)

    entry-sound : (x : Entry) (scope : List Tree) (pairs : Pairs) → Same d1 d2 (entry_looked d1 params x scope) (entry_looked d2 params x scope) (entry_pairs d1 params x scope pairs) (entry_pairs d2 params x scope pairs)
    entry-sound (keyed k e) scope pairs = apply-agree d1 d2 (λ v. put k v pairs) (looked d1 params e scope) (looked d2 params e scope) (value d1 params e scope) (value d2 params e scope) (sound e scope)
    entry-sound (bare e) scope pairs = apply-agree d1 d2 (λ v. put_under (key_of e) v pairs) (looked d1 params e scope) (looked d2 params e scope) (value d1 params e scope) (value d2 params e scope) (sound e scope)
    entry-sound (when c e) scope pairs =
        then-agree d1 d2 (looked d1 params c scope) (looked d2 params c scope) (value d1 params c scope) (value d2 params c scope)
        (λ v. cond (is_true v) (looked d1 params e scope) []) (λ v. cond (is_true v) (looked d2 params e scope) [])
        (λ v. cond (is_true v) (spread_into pairs (value d1 params e scope)) pairs) (λ v. cond (is_true v) (spread_into pairs (value d2 params e scope)) pairs)
        (sound c scope)
        (λ v. cond-agree d1 d2 (is_true v) (looked d1 params e scope) (looked d2 params e scope) [] [] (spread_into pairs (value d1 params e scope)) (spread_into pairs (value d2 params e scope)) pairs pairs
        (apply-agree d1 d2 (spread_into pairs) (looked d1 params e scope) (looked d2 params e scope) (value d1 params e scope) (value d2 params e scope) (sound e scope)) (nothing-agree d1 d2 pairs))
    entry-sound (spread e) scope pairs = apply-agree d1 d2 (spread_into pairs) (looked d1 params e scope) (looked d2 params e scope) (value d1 params e scope) (value d2 params e scope) (sound e scope)

    entries-sound : (xs : Entries) (scope : List Tree) (pairs : Pairs) → Same d1 d2 (entries_looked d1 params xs scope) (entries_looked d2 params xs scope) (entries_pairs d1 params xs scope pairs) (entries_pairs d2 params xs scope pairs)
    entries-sound no_entries scope pairs = λ s. (refl, refl)
    entries-sound (more_entries x xs) scope pairs =
        then-agree d1 d2 (entry_looked d1 params x scope) (entry_looked d2 params x scope) (entry_pairs d1 params x scope pairs) (entry_pairs d2 params x scope pairs)
        (λ p. entries_looked d1 params xs scope) (λ p. entries_looked d2 params xs scope) (λ p. entries_pairs d1 params xs scope p) (λ p. entries_pairs d2 params xs scope p)
        (entry-sound x scope pairs) (λ p. entries-sound xs scope p)

    pub rest-sound : (ss : Steps) (scope : List Tree) → Agree d1 d2 (rest_looked d1 params ss scope) (rest_looked d2 params ss scope) (rest_value d1 params ss scope) (rest_value d2 params ss scope)
    rest-sound no_steps scope v = λ s. (refl, refl)
    rest-sound (more_steps st ss) scope v =
        onward-agree d1 d2 (way (form st) (kind ss)) (entrance (kind ss)) (step_looked d1 params st scope) (step_looked d2 params st scope) (step_value d1 params st scope) (step_value d2 params st scope)
        (rest_looked d1 params ss scope) (rest_looked d2 params ss scope) (rest_value d1 params ss scope) (rest_value d2 params ss scope) (step-sound st scope) (rest-sound ss scope) v

    pub pipes-sound : (ss : Steps) (scope : List Tree) → Agree d1 d2 (pipes_looked d1 params ss scope) (pipes_looked d2 params ss scope) (pipes_value d1 params ss scope) (pipes_value d2 params ss scope)
    pipes-sound no_steps scope v = λ s. (refl, refl)
    pipes-sound (more_steps st ss) scope v =
        then-agree d1 d2
        (cond (is_pipe st) (step_looked d1 params st scope v ++ entered_looked (entrance (kind ss)) (rest_looked d1 params ss scope) (step_value d1 params st scope v)) [])
        (cond (is_pipe st) (step_looked d2 params st scope v ++ entered_looked (entrance (kind ss)) (rest_looked d2 params ss scope) (step_value d2 params st scope v)) [])
        (cond (is_pipe st) (entered (entrance (kind ss)) (rest_value d1 params ss scope) (step_value d1 params st scope v)) v)
        (cond (is_pipe st) (entered (entrance (kind ss)) (rest_value d2 params ss scope) (step_value d2 params st scope v)) v)
        (pipes_looked d1 params ss scope) (pipes_looked d2 params ss scope) (pipes_value d1 params ss scope) (pipes_value d2 params ss scope)
        (cond-agree d1 d2 (is_pipe st)
        (step_looked d1 params st scope v ++ entered_looked (entrance (kind ss)) (rest_looked d1 params ss scope) (step_value d1 params st scope v))
        (step_looked d2 params st scope v ++ entered_looked (entrance (kind ss)) (rest_looked d2 params ss scope) (step_value d2 params st scope v)) [] []
        (entered (entrance (kind ss)) (rest_value d1 params ss scope) (step_value d1 params st scope v)) (entered (entrance (kind ss)) (rest_value d2 params ss scope) (step_value d2 params st scope v)) v v
        (then-agree d1 d2 (step_looked d1 params st scope v) (step_looked d2 params st scope v) (step_value d1 params st scope v) (step_value d2 params st scope v)
        (entered_looked (entrance (kind ss)) (rest_looked d1 params ss scope)) (entered_looked (entrance (kind ss)) (rest_looked d2 params ss scope))
        (entered (entrance (kind ss)) (rest_value d1 params ss scope)) (entered (entrance (kind ss)) (rest_value d2 params ss scope))
        (step-sound st scope v)
        (entered-agree d1 d2 (entrance (kind ss)) (rest_looked d1 params ss scope) (rest_looked d2 params ss scope) (rest_value d1 params ss scope) (rest_value d2 params ss scope) (rest-sound ss scope)))
        (nothing-agree d1 d2 v))
        (pipes-sound ss scope)

    step-sound : (st : Step) (scope : List Tree) → Agree d1 d2 (step_looked d1 params st scope) (step_looked d2 params st scope) (step_value d1 params st scope) (step_value d2 params st scope)
    step-sound (attr w) scope v = λ s. (refl, refl)
    step-sound deref scope v = sought-agree d1 d2 (reference_of v)
    step-sound each scope v = λ s. (refl, refl)
    step-sound (slice from to closed) scope v = λ s. (refl, refl)
    step-sound (bracket e) scope v =
        bracket-agree d1 d2 (bracketed e) (λ x. looked d1 params e (x ∷ scope)) (λ x. looked d2 params e (x ∷ scope)) (λ x. value d1 params e (x ∷ scope)) (λ x. value d2 params e (x ∷ scope)) (λ x. sound e (x ∷ scope)) v
    step-sound (project es) scope v =
        project-agree d1 d2 v (entries_looked d1 params es (v ∷ scope)) (entries_looked d2 params es (v ∷ scope)) (entries_pairs d1 params es (v ∷ scope) no_pairs) (entries_pairs d2 params es (v ∷ scope) no_pairs) (entries-sound es (v ∷ scope) no_pairs)
    step-sound (pipe name ks) scope v =
        cond-agree d1 d2 (is_order_name name) (each_looked (λ x. keys_looked d1 params ks (x ∷ scope)) v) (each_looked (λ x. keys_looked d2 params ks (x ∷ scope)) v) [] []
        (ordered (directions ks) (λ x. keys_values d1 params ks (x ∷ scope)) v) (ordered (directions ks) (λ x. keys_values d2 params ks (x ∷ scope)) v) null null
        (ordered-agree d1 d2 (directions ks) (λ x. keys_looked d1 params ks (x ∷ scope)) (λ x. keys_looked d2 params ks (x ∷ scope)) (λ x. keys_values d1 params ks (x ∷ scope)) (λ x. keys_values d2 params ks (x ∷ scope)) (λ x. keys-sound ks (x ∷ scope)) v)
        (nothing-agree d1 d2 null)

    keys-sound : (ks : OrderKeys) (scope : List Tree) → Same d1 d2 (keys_looked d1 params ks scope) (keys_looked d2 params ks scope) (keys_values d1 params ks scope) (keys_values d2 params ks scope)
    keys-sound no_keys scope = λ s. (refl, refl)
    keys-sound (more_keys (order_key e descending) ks) scope =
        both-agree d1 d2 (λ v vs. v ∷ vs) (looked d1 params e scope) (looked d2 params e scope) (keys_looked d1 params ks scope) (keys_looked d2 params ks scope)
        (value d1 params e scope) (value d2 params e scope) (keys_values d1 params ks scope) (keys_values d2 params ks scope) (sound e scope) (keys-sound ks scope)
