-- An expression in which neither `*` nor `->` stands looks nothing up, so a simple query looks up its key alone.
use Rattle.std.proofs.Common.{◌≡◌, Bool, true, false, cond, ◌&&◌, List, [], ◌∷◌, ◌++◌, refl, ap, ◌∙◌, Option, Some, None}
use Rattle.std.specs.Prelude.{flat_map}
use Rattle.std.specs.Option.{option_map_or}
use Rattle.cs_value.specs.Tree.{Tree, Pairs}
use Rattle.cs_value.specs.Words.{is_object, as_list, list_of, is_null}
use Rattle.cs_syntax.specs.Expression.{Expression, everything, round, call, array, object_literal, chain, prefix, run, within, between, Operands, no_operands, more_operands, Step, attr, deref, each, slice, bracket, project, pipe, Steps, no_steps, more_steps, Entry, keyed, bare, when, spread, Entries, no_entries, more_entries, Element, element, spread_element, Elements, no_elements, more_elements, Argument, argument, when_argument, Arguments, no_arguments, more_arguments, order_key, OrderKeys, no_keys, more_keys}
use Rattle.cs_view.specs.Keys.{having}
use Rattle.cs_view.specs.declared.key.Key.{Key}
use Rattle.cs_plan.specs.Filters.{key_in}
use Rattle.cs_plan.specs.Simple.{is_quiet, quiet_operands, quiet_argument, quiet_arguments, quiet_element, quiet_elements, quiet_entry, quiet_entries, quiet_step, quiet_steps, quiet_keys}
use Rattle.cs_plan.specs.Steps.{Bracketed, position, named, condition, bracketed, is_order_name}
use Rattle.cs_meaning.specs.Joining.{mapped, form, kind, way, entrance, entered, base_entrance}
use Rattle.cs_meaning.specs.Looked.{each_looked, entered_looked, onward_looked, bracket_looked, called_looked, is_everything, starts_with_filter, looked, filter_looked, run_looked, argument_looked, arguments_looked, coalesced_looked, selected_looked, element_looked, elements_looked, entry_looked, entries_looked, rest_looked, pipes_looked, step_looked, keys_looked}
use Rattle.cs_meaning.specs.Operators.{is_true, operator_of, operated, decides, Callee, coalescing, selecting, referring, applying, callee}
use Rattle.cs_meaning.specs.Values.{is_pipe, value, argument_value, rest_value, step_value}
use Rattle.cs_meaning.specs.declared.join.Entrance.{Entrance}
use Rattle.cs_meaning.specs.declared.join.Entrance.TheVariants.{Whole, Mapped, Flat}
use Rattle.cs_meaning.specs.declared.join.Way.{Way}
use Rattle.cs_meaning.specs.declared.join.Way.TheVariants.{Through, Over, After, Ends}

pub both-true : (a b : Bool) → (a && b) ≡ true → (a ≡ true) × (b ≡ true)
both-true true b h = (refl, h)
both-true false b h = absurd (cc)

none : {A : Type 0} (a b : List A) → a ≡ [] → b ≡ [] → a ++ b ≡ []
none a b h g = ap (λ x. x ++ b) h ∙ g

pub flat-none : (k : Tree → List Key) → ((x : Tree) → k x ≡ []) → (xs : List Tree) → flat_map k xs ≡ []
flat-none k h [] = refl
flat-none k h (x ∷ xs) = none (k x) (flat_map k xs) (h x) (flat-none k h xs)

each-none : (k : Tree → List Key) → ((x : Tree) → k x ≡ []) → (o : Option (List Tree)) → option_map_or (flat_map k) o [] ≡ []
each-none k h None = refl
each-none k h (Some xs) = flat-none k h xs

pub entered-none : (e : Entrance) (k : Tree → List Key) → ((x : Tree) → k x ≡ []) → (v : Tree) → entered_looked e k v ≡ []
entered-none Whole k h v = h v
entered-none Mapped k h v = each-none k h (as_list v)
entered-none Flat k h v = each-none k h (as_list v)

onward-none : (w : Way) (e : Entrance) (s : Tree → Tree) (sk rk : Tree → List Key) → ((x : Tree) → sk x ≡ []) → ((x : Tree) → rk x ≡ []) → (v : Tree) → onward_looked w e s sk rk v ≡ []
onward-none Through e s sk rk h g v = none (sk v) (rk (s v)) (h v) (g (s v))
onward-none Over e s sk rk h g v = none (each_looked sk v) (rk (mapped s v)) (each-none sk h (as_list v)) (g (mapped s v))
onward-none After e s sk rk h g v = none (sk v) (entered_looked e rk (s v)) (h v) (entered-none e rk g (s v))
onward-none Ends e s sk rk h g v = refl

cond-none : {A : Type 0} (b : Bool) (x y : List A) → x ≡ [] → y ≡ [] → cond b x y ≡ []
cond-none true x y h g = h
cond-none false x y h g = g

bracket-none : (b : Bracketed) (k : Tree → List Key) → ((x : Tree) → k x ≡ []) → (v : Tree) → bracket_looked b k v ≡ []
bracket-none (position n) k h v = refl
bracket-none (named w) k h v = refl
bracket-none condition k h v = each-none k h (as_list v)

called-none : (f : Callee) (a b c : List Key) → a ≡ [] → b ≡ [] → c ≡ [] → called_looked f a b c ≡ []
called-none coalescing a b c f g h = f
called-none selecting a b c f g h = g
called-none referring a b c f g h = h
called-none (applying o) a b c f g h = h

not-everything : (base : Expression) (t : Bool) → is_quiet base ≡ true → (is_everything base && t) ≡ false
not-everything everything t h = absurd (cc)
not-everything base t h = refl

chain-none : {A : Type 0} (t : Bool) (s b p : List A) → t ≡ false → b ≡ [] → p ≡ [] → cond t s b ++ p ≡ []
chain-none true s b p h g q = absurd (cc)
chain-none false s b p h g q = none b p g q

module _ (docs : List Tree) (params : Pairs) where
  mutual
    pub silent : (e : Expression) → is_quiet e ≡ true → (scope : List Tree) → looked docs params e scope ≡ []
    silent everything q scope = absurd (cc)
    silent (round e) q scope = silent e q scope
    silent (call name args) q scope =
        called-none (callee name) (coalesced_looked docs params args scope) (selected_looked docs params args scope) (arguments_looked docs params args scope) (silent-coalesced args q scope) (silent-selected args q scope) (silent-arguments args q scope)
    silent (array es) q scope = silent-elements es q scope
    silent (object_literal es) q scope = silent-entries es q scope
    silent (chain base ss) q scope =
        let p = both-true (is_quiet base) (quiet_steps ss) q in
        chain-none (is_everything base && starts_with_filter ss) (filter_looked docs params ss scope)
        (looked docs params base scope ++ entered_looked (base_entrance base (kind ss)) (rest_looked docs params ss scope) (value docs params base scope))
        (pipes_looked docs params ss scope (entered (base_entrance base (kind ss)) (rest_value docs params ss scope) (value docs params base scope)))
        (not-everything base (starts_with_filter ss) p.0)
        (none (looked docs params base scope) (entered_looked (base_entrance base (kind ss)) (rest_looked docs params ss scope) (value docs params base scope)) (silent base p.0 scope)
        (entered-none (base_entrance base (kind ss)) (rest_looked docs params ss scope) (silent-rest ss p.1 scope) (value docs params base scope)))
        (silent-pipes ss p.1 scope (entered (base_entrance base (kind ss)) (rest_value docs params ss scope) (value docs params base scope)))
    silent (prefix signs e) q scope = silent e q scope
    silent (run e rest) q scope =
        let p = both-true (is_quiet e) (quiet_operands rest) q in
        none (looked docs params e scope) (run_looked docs params rest scope (value docs params e scope)) (silent e p.0 scope) (silent-run rest p.1 scope (value docs params e scope))
    silent (within e right) q scope =
        let p = both-true (is_quiet e) (is_quiet right) q in
        none (looked docs params e scope) (looked docs params right scope) (silent e p.0 scope) (silent right p.1 scope)
    silent (between e from to closed) q scope =
        let p = both-true (is_quiet e) (is_quiet from && is_quiet to) q in
        let r = both-true (is_quiet from) (is_quiet to) p.1 in
        none (looked docs params e scope) (looked docs params from scope ++ looked docs params to scope) (silent e p.0 scope)
        (none (looked docs params from scope) (looked docs params to scope) (silent from r.0 scope) (silent to r.1 scope))
    silent e q scope = refl

    silent-run : (rest : Operands) → quiet_operands rest ≡ true → (scope : List Tree) (v : Tree) → run_looked docs params rest scope v ≡ []
    silent-run no_operands q scope v = refl
    silent-run (more_operands sign e rest) q scope v =
        let p = both-true (is_quiet e) (quiet_operands rest) q in
        none (cond (decides (operator_of sign) v) [] (looked docs params e scope)) (run_looked docs params rest scope (operated sign v (value docs params e scope)))
        (cond-none (decides (operator_of sign) v) [] (looked docs params e scope) refl (silent e p.0 scope)) (silent-run rest p.1 scope (operated sign v (value docs params e scope)))

    silent-argument : (x : Argument) → quiet_argument x ≡ true → (scope : List Tree) → argument_looked docs params x scope ≡ []
    silent-argument (argument e) q scope = silent e q scope
    silent-argument (when_argument c e) q scope = refl

    silent-arguments : (xs : Arguments) → quiet_arguments xs ≡ true → (scope : List Tree) → arguments_looked docs params xs scope ≡ []
    silent-arguments no_arguments q scope = refl
    silent-arguments (more_arguments x xs) q scope =
        let p = both-true (quiet_argument x) (quiet_arguments xs) q in
        none (argument_looked docs params x scope) (arguments_looked docs params xs scope) (silent-argument x p.0 scope) (silent-arguments xs p.1 scope)

    silent-coalesced : (xs : Arguments) → quiet_arguments xs ≡ true → (scope : List Tree) → coalesced_looked docs params xs scope ≡ []
    silent-coalesced no_arguments q scope = refl
    silent-coalesced (more_arguments x xs) q scope =
        let p = both-true (quiet_argument x) (quiet_arguments xs) q in
        none (argument_looked docs params x scope) (cond (is_null (argument_value docs params x scope)) (coalesced_looked docs params xs scope) []) (silent-argument x p.0 scope)
        (cond-none (is_null (argument_value docs params x scope)) (coalesced_looked docs params xs scope) [] (silent-coalesced xs p.1 scope) refl)

    silent-selected : (xs : Arguments) → quiet_arguments xs ≡ true → (scope : List Tree) → selected_looked docs params xs scope ≡ []
    silent-selected no_arguments q scope = refl
    silent-selected (more_arguments (argument e) xs) q scope = silent e (both-true (is_quiet e) (quiet_arguments xs) q).0 scope
    silent-selected (more_arguments (when_argument c e) xs) q scope =
        let p = both-true (is_quiet c && is_quiet e) (quiet_arguments xs) q in
        let r = both-true (is_quiet c) (is_quiet e) p.0 in
        none (looked docs params c scope) (cond (is_true (value docs params c scope)) (looked docs params e scope) (selected_looked docs params xs scope)) (silent c r.0 scope)
        (cond-none (is_true (value docs params c scope)) (looked docs params e scope) (selected_looked docs params xs scope) (silent e r.1 scope) (silent-selected xs p.1 scope))

    silent-element : (x : Element) → quiet_element x ≡ true → (scope : List Tree) → element_looked docs params x scope ≡ []
    silent-element (element e) q scope = silent e q scope
    silent-element (spread_element e) q scope = silent e q scope

    silent-elements : (xs : Elements) → quiet_elements xs ≡ true → (scope : List Tree) → elements_looked docs params xs scope ≡ []
    silent-elements no_elements q scope = refl
    silent-elements (more_elements x xs) q scope =
        let p = both-true (quiet_element x) (quiet_elements xs) q in
        none (element_looked docs params x scope) (elements_looked docs params xs scope) (silent-element x p.0 scope) (silent-elements xs p.1 scope)

    silent-entry : (x : Entry) → quiet_entry x ≡ true → (scope : List Tree) → entry_looked docs params x scope ≡ []
    silent-entry (keyed k e) q scope = silent e q scope
    silent-entry (bare e) q scope = silent e q scope
    silent-entry (when c e) q scope =
        let p = both-true (is_quiet c) (is_quiet e) q in
        none (looked docs params c scope) (cond (is_true (value docs params c scope)) (looked docs params e scope) []) (silent c p.0 scope)
        (cond-none (is_true (value docs params c scope)) (looked docs params e scope) [] (silent e p.1 scope) refl)
    silent-entry (spread e) q scope = silent e q scope

    silent-entries : (xs : Entries) → quiet_entries xs ≡ true → (scope : List Tree) → entries_looked docs params xs scope ≡ []
    silent-entries no_entries q scope = refl
    silent-entries (more_entries x xs) q scope =
        let p = both-true (quiet_entry x) (quiet_entries xs) q in
        none (entry_looked docs params x scope) (entries_looked docs params xs scope) (silent-entry x p.0 scope) (silent-entries xs p.1 scope)

    pub silent-rest : (ss : Steps) → quiet_steps ss ≡ true → (scope : List Tree) (v : Tree) → rest_looked docs params ss scope v ≡ []
    silent-rest no_steps q scope v = refl
    silent-rest (more_steps s ss) q scope v =
        let p = both-true (quiet_step s) (quiet_steps ss) q in
        onward-none (way (form s) (kind ss)) (entrance (kind ss)) (step_value docs params s scope) (step_looked docs params s scope) (rest_looked docs params ss scope) (silent-step s p.0 scope) (silent-rest ss p.1 scope) v

    pub silent-pipes : (ss : Steps) → quiet_steps ss ≡ true → (scope : List Tree) (v : Tree) → pipes_looked docs params ss scope v ≡ []
    silent-pipes no_steps q scope v = refl
    silent-pipes (more_steps s ss) q scope v =
        let p = both-true (quiet_step s) (quiet_steps ss) q in
        let w = step_value docs params s scope v in
        none (cond (is_pipe s) (step_looked docs params s scope v ++ entered_looked (entrance (kind ss)) (rest_looked docs params ss scope) w) [])
        (pipes_looked docs params ss scope (cond (is_pipe s) (entered (entrance (kind ss)) (rest_value docs params ss scope) w) v))
        (cond-none (is_pipe s) (step_looked docs params s scope v ++ entered_looked (entrance (kind ss)) (rest_looked docs params ss scope) w) []
        (none (step_looked docs params s scope v) (entered_looked (entrance (kind ss)) (rest_looked docs params ss scope) w) (silent-step s p.0 scope v)
        (entered-none (entrance (kind ss)) (rest_looked docs params ss scope) (silent-rest ss p.1 scope) w)) refl)
        (silent-pipes ss p.1 scope (cond (is_pipe s) (entered (entrance (kind ss)) (rest_value docs params ss scope) w) v))

    silent-step : (s : Step) → quiet_step s ≡ true → (scope : List Tree) (v : Tree) → step_looked docs params s scope v ≡ []
    silent-step (attr w) q scope v = refl
    silent-step deref q scope v = absurd (cc)
    silent-step each q scope v = refl
    silent-step (slice from to closed) q scope v = refl
    silent-step (bracket e) q scope v = bracket-none (bracketed e) (λ x. looked docs params e (x ∷ scope)) (λ x. silent e q (x ∷ scope)) v
    silent-step (project es) q scope v = cond-none (is_object v) (entries_looked docs params es (v ∷ scope)) [] (silent-entries es q (v ∷ scope)) refl
    silent-step (pipe name ks) q scope v =
        cond-none (is_order_name name) (each_looked (λ x. keys_looked docs params ks (x ∷ scope)) v) []
        (each-none (λ x. keys_looked docs params ks (x ∷ scope)) (λ x. silent-keys ks q (x ∷ scope)) (as_list v)) refl

    silent-keys : (ks : OrderKeys) → quiet_keys ks ≡ true → (scope : List Tree) → keys_looked docs params ks scope ≡ []
    silent-keys no_keys q scope = refl
    silent-keys (more_keys (order_key e descending) ks) q scope =
        let p = both-true (is_quiet e) (quiet_keys ks) q in
        none (looked docs params e scope) (keys_looked docs params ks scope) (silent e p.0 scope) (silent-keys ks p.1 scope)

  -- `*` with one filter and a quiet rest looks up the key of the filter alone
  pub filter-alone : (e : Expression) (ss : Steps) (scope : List Tree) → is_quiet e ≡ true → quiet_steps ss ≡ true → filter_looked docs params (more_steps (bracket e) ss) scope ≡ key_in e scope params ∷ []
  filter-alone e ss scope qe qs =
      ap (λ ks. key_in e scope params ∷ ks)
      (none (flat_map (λ d. looked docs params e (d ∷ scope)) (having (key_in e scope params) docs))
      (entered_looked (entrance (kind ss)) (rest_looked docs params ss scope) (step_value docs params (bracket e) scope (list_of docs)))
      (flat-none (λ d. looked docs params e (d ∷ scope)) (λ d. silent e qe (d ∷ scope)) (having (key_in e scope params) docs))
      (entered-none (entrance (kind ss)) (rest_looked docs params ss scope) (silent-rest ss qs scope) (step_value docs params (bracket e) scope (list_of docs))))
