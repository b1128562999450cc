-- A document that makes a filter true has the filter's key.
use Rattle.std.proofs.Common.{◌≡◌, ℕ, Bool, true, false, cond, ◌&&◌, ◌||◌, List, [], ◌∷◌, ◌++◌, refl, sym, ap, ◌∙◌, subst, Option, Some, None}
use Rattle.std.specs.Prelude.{⊤, filter, codes, option_map, option_and_then, option_to_list, unwrap_or, if◌then◌else◌}
use Rattle.std.specs.Option.{option_or}
use Rattle.std.specs.List.{list_any, AllByRecursion}
use Rattle.std.specs.Str.{bytes_eq}
use Rattle.std.proofs.lemmas.Cmp.{int_eq_equiv}
use Rattle.std.proofs.lemmas.Map.Text.{is_eq-slice_cmp}
use Rattle.std.proofs.lemmas.Slice.Eq.{bytes_eq-Decides}
use Rattle.cs_value.specs.Tree.{Tree, null, boolean, integer, text, list, object, Trees, no_trees, more_trees, Pairs, no_pairs, more_pairs, members}
use Rattle.cs_value.specs.Pairs.{attribute, find}
use Rattle.cs_value.specs.Words.{as_text, followed}
use Rattle.cs_ops.specs.Equal.{equal}
use Rattle.cs_ops.specs.Truth.{truth, said, both}
use Rattle.cs_ops.specs.Operators as operators
use Rattle.cs_func.specs.Names.{named}
use Rattle.cs_func.specs.Refers.{reference_or, refers, some_refers, some_pair_refers}
use Rattle.cs_syntax.specs.declared.tree.BinSign.TheVariants as sign
use Rattle.cs_syntax.specs.Functions.{without_global}
use Rattle.cs_syntax.specs.Expression.{Expression, word, round, call, chain, run, within, Operands, no_operands, more_operands, Arguments, no_arguments, more_arguments, argument}
use Rattle.cs_view.specs.Dataset.{same_id}
use Rattle.cs_view.specs.Document.{passes}
use Rattle.cs_view.specs.Keys.{equals, has_element, has_ref, some_has_ref, some_pair_has_ref, has, has_all}
use Rattle.cs_view.specs.declared.key.Scalar.{Scalar}
use Rattle.cs_view.specs.declared.key.Scalar.TheVariants.{Bool as Boolean, Num, Text}
use Rattle.cs_view.specs.declared.key.Key.{Key}
use Rattle.cs_view.specs.declared.key.Key.TheVariants.{Id, Path, Elem, Ref}
use Rattle.cs_plan.specs.Constants.{at_names, constant}
use Rattle.cs_plan.specs.Filters.{path_of, is_id_path, equals_key, of_both, equality_key, element_key, scalar_text, reference_key, conjunct_key, all_and, conjuncts, operand_conjuncts, keys_given, filter_keys, is_id_key, is_ref_key, is_path_key, is_element_key, by_kind, first_or_all, key_in}
use Rattle.cs_meaning.specs.Operators.{is_true, operated, in_list_or_path, coalescing, selecting, referring, applying, called, references}
use Rattle.cs_meaning.specs.Values.{value, run_value, path_pattern, coalesced, selected, arguments_values}
use Rattle.cs_meaning.proofs.Constants.{scalar_tree, constant-value, IsAt, path-value, at-names-followed, equals-equal}

-- the document has the key, where there is one; it has each of the keys
abbrev Holds : Option Key → Tree → Type 0
Holds None d = ⊤
Holds (Some k) d = has k d ≡ true

abbrev AllHold : List Key → Tree → Type 0
AllHold [] d = ⊤
AllHold (k ∷ ks) d = (has k d ≡ true) × AllHold ks d

one-holds : (o : Option Key) (d : Tree) → Holds o d → AllHold (option_to_list o) d
one-holds None d h = tt
one-holds (Some k) d h = (h, tt)

append-holds : (a b : List Key) (d : Tree) → AllHold a d → AllHold b d → AllHold (a ++ b) d
append-holds [] b d h g = g
append-holds (k ∷ a) b d h g = (h.0, append-holds a b d h.1 g)

kept-holds : (b : Bool) (k : Key) (ks : List Key) (d : Tree) → has k d ≡ true → AllHold ks d → AllHold (cond b (k ∷ ks) ks) d
kept-holds true k ks d h g = (h, g)
kept-holds false k ks d h g = g

filter-holds : (p : Key → Bool) (ks : List Key) (d : Tree) → AllHold ks d → AllHold (filter p ks) d
filter-holds p [] d h = tt
filter-holds p (k ∷ ks) d h = kept-holds (p k) k (filter p ks) d h.0 (filter-holds p ks d h.1)

kinds-hold : (ks : List Key) (d : Tree) → AllHold ks d → AllHold (by_kind ks) d
kinds-hold ks d h =
    append-holds (filter is_id_key ks) _ d (filter-holds is_id_key ks d h)
    (append-holds (filter is_ref_key ks) _ d (filter-holds is_ref_key ks d h)
    (append-holds (filter is_path_key ks) _ d (filter-holds is_path_key ks d h) (filter-holds is_element_key ks d h)))

first-holds : (ks : List Key) (d : Tree) → AllHold ks d → has (first_or_all ks) d ≡ true
first-holds [] d h = refl
first-holds (k ∷ ks) d h = h.0

or-holds : (a b : Option Key) (d : Tree) → Holds a d → Holds b d → Holds (option_or a b) d
or-holds None b d h g = g
or-holds (Some k) b d h g = h

-- both sides of a true `&&` are true
both-true : (x y : Option Bool) → unwrap_or (truth (said (both x y))) false ≡ true → (unwrap_or x false ≡ true) × (unwrap_or y false ≡ true)
both-true (Some true) (Some true) h = (refl, refl)
both-true (Some true) (Some false) h = cc
both-true (Some true) None h = cc
both-true (Some false) y h = cc
both-true None (Some true) h = cc
both-true None (Some false) h = cc
both-true None None h = cc

and-true : (a b : Tree) → is_true (operated sign.And a b) ≡ true → (is_true a ≡ true) × (is_true b ≡ true)
and-true a b h = both-true (truth a) (truth b) h

-- where a run of `&&` is true, so is what it began with
run-true : (docs : List Tree) (params : Pairs) (rest : Operands) (scope : List Tree) (v : Tree) → all_and rest ≡ true → is_true (run_value docs params rest scope v) ≡ true → is_true v ≡ true
run-true docs params no_operands scope v a h = h
run-true docs params (more_operands sign.And e rest) scope v a h =
    (and-true v (value docs params e scope) (run-true docs params rest scope (operated sign.And v (value docs params e scope)) a h)).0
run-true docs params (more_operands s e rest) scope v a h = cc

-- the key of a value at names
at-path : (names : List (List ℕ)) (s : Scalar) (d v : Tree) → v ≡ at_names names d → equal v (scalar_tree s) ≡ true → passes (equals s) (followed names d) ≡ true
at-path names s d v is h = there (followed names d) (subst (λ x. equal x (scalar_tree s) ≡ true) (is ∙ at-names-followed names d) h)
  where
    none : (s : Scalar) → equal null (scalar_tree s) ≡ true → false ≡ true
    none (Boolean b) h = h
    none (Num n) h = h
    none (Text t) h = h

    there : (o : Option Tree) → equal (unwrap_or o null) (scalar_tree s) ≡ true → passes (equals s) o ≡ true
    there None h = none s h
    there (Some x) h = equals-equal s x ∙ h

same-id : (s t : List ℕ) → bytes_eq s t ≡ true → same_id t s ≡ true
same-id s t h = is_eq-slice_cmp t s ∙ (bytes_eq-Decides t s).1 (sym ((bytes_eq-Decides s t).0 h))

id-of : (o : Option Tree) (t : List ℕ) → equal (unwrap_or o null) (text t) ≡ true → same_id t (unwrap_or (option_and_then as_text o) []) ≡ true
id-of (Some (text s)) t h = same-id s t h
id-of (Some null) t h = cc
id-of (Some (boolean b)) t h = cc
id-of (Some (integer n)) t h = cc
id-of (Some (list ts)) t h = cc
id-of (Some (object ps)) t h = cc
id-of None t h = cc

at-id : (names : List (List ℕ)) (t : List ℕ) (d v : Tree) → is_id_path names ≡ true → v ≡ at_names names d → equal v (text t) ≡ true → has (Id t) d ≡ true
at-id [] t d v i is h = cc
at-id (w ∷ x ∷ ws) t d v i is h = cc
at-id (w ∷ []) t d v i is h =
    let name = (bytes_eq-Decides w (codes "_id")).0 i in
    id-of (attribute (codes "_id") d) t (subst (λ (n : List ℕ). equal (unwrap_or (attribute n d) null) (text t) ≡ true) name (subst (λ x. equal x (text t) ≡ true) is h))

id-or-path : (b : Bool) (names : List (List ℕ)) (t : List ℕ) (d : Tree) → (b ≡ true → has (Id t) d ≡ true) → has (Path names (Text t)) d ≡ true → has (cond b (Id t) (Path names (Text t))) d ≡ true
id-or-path true names t d h g = h refl
id-or-path false names t d h g = g

equals-holds : (names : List (List ℕ)) (s : Scalar) (d v : Tree) → v ≡ at_names names d → equal v (scalar_tree s) ≡ true → has (equals_key names s) d ≡ true
equals-holds names (Boolean b) d v is h = at-path names (Boolean b) d v is h
equals-holds names (Num n) d v is h = at-path names (Num n) d v is h
equals-holds names (Text t) d v is h = id-or-path (is_id_path names) names t d (λ i. at-id names t d v i is h) (at-path names (Text t) d v is h)

-- `p == c`: the left value is at the path's names, the right one is the constant's
sides-hold : (p : Option (List (List ℕ))) (c : Option Scalar) (d v w : Tree) → IsAt p v d → ((s : Scalar) → c ≡ Some s → w ≡ scalar_tree s) → equal v w ≡ true → Holds (of_both equals_key p c) d
sides-hold None c d v w at is h = tt
sides-hold (Some names) None d v w at is h = tt
sides-hold (Some names) (Some s) d v w at is h = equals-holds names s d v at (subst (λ x. equal v x ≡ true) (is s refl) h)

swap-equal : (a b : Tree) → equal a b ≡ true → equal b a ≡ true
swap-equal null null h = refl
swap-equal (boolean true) (boolean true) h = refl
swap-equal (boolean false) (boolean false) h = refl
swap-equal (boolean true) (boolean false) h = cc
swap-equal (boolean false) (boolean true) h = cc
swap-equal (integer m) (integer n) h = int_eq_equiv.symm n m ∙ h
swap-equal (text s) (text t) h = (bytes_eq-Decides t s).1 (sym ((bytes_eq-Decides s t).0 h))
swap-equal a b h = cc

-- `c in p`
any-same : (s : Scalar) (ts : List Tree) → list_any (λ t. equal t (scalar_tree s)) ts ≡ list_any (equals s) ts
any-same s [] = refl
any-same s (t ∷ ts) = rw (equals-equal s t, any-same s ts) refl

within-element : (s : Scalar) (v : Tree) → is_true (operators.within (scalar_tree s) v) ≡ true → has_element s v ≡ true
within-element s (list ts) h = sym (any-same s (members ts)) ∙ h
within-element s null h = cc
within-element s (boolean b) h = cc
within-element s (integer n) h = cc
within-element s (text t) h = cc
within-element s (object ps) h = cc

elem-at : (names : List (List ℕ)) (s : Scalar) (d v : Tree) → v ≡ at_names names d → is_true (operators.within (scalar_tree s) v) ≡ true → has (Elem names s) d ≡ true
elem-at names s d v is h = there (followed names d) (subst (λ x. is_true (operators.within (scalar_tree s) x) ≡ true) (is ∙ at-names-followed names d) h)
  where
    there : (o : Option Tree) → is_true (operators.within (scalar_tree s) (unwrap_or o null)) ≡ true → passes (has_element s) o ≡ true
    there None h = cc
    there (Some x) h = within-element s x h

members-hold : (p : Option (List (List ℕ))) (c : Option Scalar) (d v w : Tree) → IsAt p w d → ((s : Scalar) → c ≡ Some s → v ≡ scalar_tree s) → is_true (operators.within v w) ≡ true → Holds (of_both Elem p c) d
members-hold None c d v w at is h = tt
members-hold (Some names) None d v w at is h = tt
members-hold (Some names) (Some s) d v w at is h = elem-at names s d w at (subst (λ x. is_true (operators.within x w) ≡ true) (is s refl) h)

-- an attribute path is no call of `path`
element-holds : (docs : List Tree) (params : Pairs) (left right : Expression) (scope : List Tree) (d : Tree)
    → is_true (in_list_or_path (value docs params left (d ∷ scope)) (path_pattern docs params right (d ∷ scope)) (value docs params right (d ∷ scope))) ≡ true
    → Holds (element_key left right scope params) d
element-holds docs params left (word w) scope d h =
    members-hold (path_of (word w)) (constant left scope params) d _ _ (path-value docs params (word w) scope d) (λ s e. constant-value docs params left scope d s e) h
element-holds docs params left (chain b ss) scope d h =
    members-hold (path_of (chain b ss)) (constant left scope params) d _ _ (path-value docs params (chain b ss) scope d) (λ s e. constant-value docs params left scope d s e) h
element-holds docs params left right scope d h = tt

-- what refers to a text has it as `_ref` somewhere
own-ref : (inside wide : Bool) (target : List ℕ) (o : Option (List ℕ)) → (inside ≡ true → wide ≡ true) → reference_or inside target o ≡ true → (passes (λ s. bytes_eq s target) o || wide) ≡ true
own-ref inside wide target None g h = g h
own-ref inside wide target (Some s) g h = rw h refl

either-ref : (a b c d : Bool) → (a ≡ true → c ≡ true) → (b ≡ true → d ≡ true) → (a || b) ≡ true → (c || d) ≡ true
either-ref true b c d f g h = rw (f refl) refl
either-ref false b true d f g h = refl
either-ref false b false d f g h = g h

mutual
  refers-has : (target : List ℕ) (v : Tree) → refers target v ≡ true → has_ref target v ≡ true
  refers-has target null h = h
  refers-has target (boolean b) h = h
  refers-has target (integer n) h = h
  refers-has target (text s) h = h
  refers-has target (list ts) h = some-refers-has target ts h
  refers-has target (object ps) h =
      own-ref (some_pair_refers target ps) (some_pair_has_ref target ps) target (option_and_then as_text (find (codes "_ref") ps)) (some-pair-refers-has target ps) h

  some-refers-has : (target : List ℕ) (ts : Trees) → some_refers target ts ≡ true → some_has_ref target ts ≡ true
  some-refers-has target no_trees h = h
  some-refers-has target (more_trees t ts) h =
      either-ref (refers target t) (some_refers target ts) (has_ref target t) (some_has_ref target ts) (refers-has target t) (some-refers-has target ts) h

  some-pair-refers-has : (target : List ℕ) (ps : Pairs) → some_pair_refers target ps ≡ true → some_pair_has_ref target ps ≡ true
  some-pair-refers-has target no_pairs h = h
  some-pair-refers-has target (more_pairs k t ps) h =
      either-ref (refers target t) (some_pair_refers target ps) (has_ref target t) (some_pair_has_ref target ps) (refers-has target t) (some-pair-refers-has target ps) h

or-false : (b : Bool) → (b || false) ≡ true → b ≡ true
or-false true h = refl
or-false false h = h

refers-text : (t : List ℕ) (d : Tree) → is_true (references (text t ∷ []) d) ≡ true → has (Ref t) d ≡ true
refers-text t d h = refers-has t d (or-false (refers t d) h)

calls-references : (name bare : List ℕ) → bytes_eq bare (codes "references") ≡ true
    → (if bytes_eq bare (codes "coalesce") then coalescing else if bytes_eq bare (codes "select") then selecting else if bytes_eq bare (codes "references") then referring else applying (named name)) ≡ referring
calls-references name bare h =
    subst (λ (b : List ℕ). (if bytes_eq b (codes "coalesce") then coalescing else if bytes_eq b (codes "select") then selecting else if bytes_eq b (codes "references") then referring else applying (named name)) ≡ referring)
    (sym ((bytes_eq-Decides bare (codes "references")).0 h)) refl

text-scalar : (o : Option Scalar) (v d : Tree) → ((s : Scalar) → o ≡ Some s → v ≡ scalar_tree s) → is_true (references (v ∷ []) d) ≡ true → Holds (option_map Ref (option_and_then scalar_text o)) d
text-scalar None v d is h = tt
text-scalar (Some (Boolean b)) v d is h = tt
text-scalar (Some (Num n)) v d is h = tt
text-scalar (Some (Text t)) v d is h = refers-text t d (subst (λ x. is_true (references (x ∷ []) d) ≡ true) (is (Text t) refl) h)

cond-holds : (b : Bool) (o : Option Key) (d : Tree) → (b ≡ true → Holds o d) → Holds (cond b o None) d
cond-holds true o d g = g refl
cond-holds false o d g = tt

reference-holds : (docs : List Tree) (params : Pairs) (name : List ℕ) (args : Arguments) (scope : List Tree) (d : Tree)
    → is_true (value docs params (call name args) (d ∷ scope)) ≡ true → Holds (reference_key name args scope params) d
reference-holds docs params name (more_arguments (argument c) no_arguments) scope d h =
    cond-holds (bytes_eq (without_global name) (codes "references")) (option_map Ref (option_and_then scalar_text (constant c scope params))) d
    (λ b. text-scalar (constant c scope params) (value docs params c (d ∷ scope)) d (λ s e. constant-value docs params c scope d s e)
    (subst (λ f. is_true (called f (coalesced docs params (more_arguments (argument c) no_arguments) (d ∷ scope)) (selected docs params (more_arguments (argument c) no_arguments) (d ∷ scope)) d (arguments_values docs params (more_arguments (argument c) no_arguments) (d ∷ scope))) ≡ true)
    (calls-references name (without_global name) b) h))
reference-holds docs params name args scope d h = tt

equality-holds : (docs : List Tree) (params : Pairs) (left right : Expression) (scope : List Tree) (d : Tree)
    → equal (value docs params left (d ∷ scope)) (value docs params right (d ∷ scope)) ≡ true → Holds (equality_key left right scope params) d
equality-holds docs params left right scope d h =
    or-holds _ _ d
    (sides-hold (path_of left) (constant right scope params) d _ _ (path-value docs params left scope d) (λ s e. constant-value docs params right scope d s e) h)
    (sides-hold (path_of right) (constant left scope params) d _ _ (path-value docs params right scope d) (λ s e. constant-value docs params left scope d s e) (swap-equal (value docs params left (d ∷ scope)) (value docs params right (d ∷ scope)) h))

conjunct-holds : (docs : List Tree) (params : Pairs) (e : Expression) (scope : List Tree) (d : Tree) → is_true (value docs params e (d ∷ scope)) ≡ true → Holds (conjunct_key e scope params) d
conjunct-holds docs params (run left (more_operands sign.Eq right no_operands)) scope d h = equality-holds docs params left right scope d h
conjunct-holds docs params (within left right) scope d h = element-holds docs params left right scope d h
conjunct-holds docs params (call name args) scope d h = reference-holds docs params name args scope d h
conjunct-holds docs params e scope d h = tt

-- each expression is true of the document
abbrev AllTrue : List Tree → Pairs → List Tree → List Expression → Type 0
AllTrue docs params scope es = AllByRecursion (λ e. is_true (value docs params e scope) ≡ true) es

all-true : (docs : List Tree) (params : Pairs) (scope : List Tree) (xs ys : List Expression)
    → AllTrue docs params scope xs → AllTrue docs params scope ys
    → AllTrue docs params scope (xs ++ ys)
all-true docs params scope [] ys h g = g
all-true docs params scope (x ∷ xs) ys h g = (h.0, all-true docs params scope xs ys h.1 g)

-- the conjuncts of a run: those of its sides where each operator is `&&`
run-conjuncts : (docs : List Tree) (params : Pairs) (scope : List Tree) (b : Bool)
    (xs : List Expression) (e : Expression) → (b ≡ true → AllTrue docs params scope xs)
    → is_true (value docs params e scope) ≡ true
    → AllTrue docs params scope (cond b xs (e ∷ []))
run-conjuncts docs params scope true xs e h g = h refl
run-conjuncts docs params scope false xs e h g = (g, tt)

mutual
  conjuncts-true : (docs : List Tree) (params : Pairs) (e : Expression) (scope : List Tree)
      → is_true (value docs params e scope) ≡ true → AllTrue docs params scope (conjuncts e)
  conjuncts-true docs params (round e) scope h = conjuncts-true docs params e scope h
  conjuncts-true docs params (run e rest) scope h =
      run-conjuncts docs params scope (all_and rest) (conjuncts e ++ operand_conjuncts rest) (run e rest)
      (λ a. all-true docs params scope (conjuncts e) (operand_conjuncts rest)
      (conjuncts-true docs params e scope (run-true docs params rest scope (value docs params e scope) a h))
      (operands-true docs params rest scope (value docs params e scope) a h)) h
  conjuncts-true docs params e scope h = (h, tt)

  operands-true : (docs : List Tree) (params : Pairs) (rest : Operands) (scope : List Tree) (v : Tree)
      → all_and rest ≡ true → is_true (run_value docs params rest scope v) ≡ true
      → AllTrue docs params scope (operand_conjuncts rest)
  operands-true docs params no_operands scope v a h = tt
  operands-true docs params (more_operands sign.And e rest) scope v a h =
      let w = value docs params e scope in
      all-true docs params scope (conjuncts e) (operand_conjuncts rest)
      (conjuncts-true docs params e scope (and-true v w (run-true docs params rest scope (operated sign.And v w) a h)).1)
      (operands-true docs params rest scope (operated sign.And v w) a h)
  operands-true docs params (more_operands s e rest) scope v a h = cc

-- a document of which each conjunct is true has the keys that they give
given-hold : (docs : List Tree) (params : Pairs) (scope : List Tree) (d : Tree)
    (es : List Expression) → AllTrue docs params (d ∷ scope) es
    → AllHold (keys_given scope params es) d
given-hold docs params scope d [] h = tt
given-hold docs params scope d (e ∷ es) h =
    append-holds (option_to_list (conjunct_key e scope params)) (keys_given scope params es) d
    (one-holds (conjunct_key e scope params) d (conjunct-holds docs params e scope d h.0))
    (given-hold docs params scope d es h.1)

-- to have each of the keys is to hold them all
all-hold : (ks : List Key) (d : Tree) → has_all ks d ≡ true → AllHold ks d
all-hold [] d h = tt
all-hold (k ∷ ks) d h = by_test (has k d) refl (all-hold ks d) h where
  by_test : (b : Bool) → has k d ≡ b → (has_all ks d ≡ true → AllHold ks d) → (b && has_all ks d) ≡ true → (has k d ≡ true) × AllHold ks d
  by_test true is rest g = (is, rest g)
  by_test false is rest g = cc

has-all : (ks : List Key) (d : Tree) → AllHold ks d → has_all ks d ≡ true
has-all [] d h = refl
has-all (k ∷ ks) d h = ap (λ b. b && has_all ks d) h.0 ∙ has-all ks d h.1

-- a document that makes a filter true has each of the keys that its conjuncts give
pub true-has_all : (docs : List Tree) (params : Pairs) (e : Expression) (scope : List Tree) (d : Tree) → is_true (value docs params e (d ∷ scope)) ≡ true → has_all (filter_keys e scope params) d ≡ true
true-has_all docs params e scope d h =
    has-all (filter_keys e scope params) d (given-hold docs params scope d (conjuncts e) (conjuncts-true docs params e (d ∷ scope) h))

-- a document with each of the keys of a filter has the one that is looked up
pub all-have_key : (e : Expression) (scope : List Tree) (params : Pairs) (d : Tree) → has_all (filter_keys e scope params) d ≡ true → has (key_in e scope params) d ≡ true
all-have_key e scope params d h =
    let keys = filter_keys e scope params in
    first-holds (by_kind keys) d (kinds-hold keys d (all-hold keys d h))

-- a document that makes a filter true has the filter's key, over every dataset
pub true-has_key : (docs : List Tree) (params : Pairs) (e : Expression) (scope : List Tree) (d : Tree) → is_true (value docs params e (d ∷ scope)) ≡ true → has (key_in e scope params) d ≡ true
true-has_key docs params e scope d h = all-have_key e scope params d (true-has_all docs params e scope d h)
