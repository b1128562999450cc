-- What constants and attribute paths are worth where a document stands in front of the scope.
use Rattle.std.proofs.Common.{◌≡◌, ℕ, zero, suc, Bool, true, false, cond, List, [], ◌∷◌, refl, ap, ◌∙◌, Option, Some, None}
use Rattle.std.specs.Prelude.{⊤, option_map, option_and_then, unwrap_or, nat_le, length}
use Rattle.cs_value.specs.Tree.{Tree, null, boolean, integer, text, list, object, Pairs}
use Rattle.cs_value.specs.Pairs.{attribute, find}
use Rattle.cs_ops.specs.Equal.{equal}
use Rattle.cs_syntax.specs.declared.tree.PreSign.TheVariants as sign
use Rattle.cs_syntax.specs.Expression.{Expression, bool_literal, number_literal, text_literal, param, word, parent, chain, prefix, attr, bracket, Steps, no_steps, more_steps}
use Rattle.cs_view.specs.Keys.{equals}
use Rattle.cs_value.specs.Words.{followed, field}
use Rattle.cs_view.specs.declared.key.Scalar.{Scalar}
use Rattle.cs_view.specs.declared.key.Scalar.TheVariants.{Bool as Boolean, Num, Text}
use Rattle.cs_plan.specs.Constants.{literal, scalar_of, at_names, constant}
use Rattle.cs_plan.specs.Filters.{few, path_of}
use Rattle.cs_plan.specs.Steps.{in_scope, names_of}
use Rattle.cs_meaning.specs.Values.{value, rest_value, pipes_value}

-- the value of a scalar
abbrev pub scalar_tree : Scalar → Tree
scalar_tree (Boolean b) = boolean b
scalar_tree (Num n) = integer n
scalar_tree (Text t) = text t

scalar-is : (v : Tree) (s : Scalar) → scalar_of v ≡ Some s → v ≡ scalar_tree s
scalar-is (boolean b) s h = cc
scalar-is (integer n) s h = cc
scalar-is (text t) s h = cc
scalar-is null s h = cc
scalar-is (list ts) s h = cc
scalar-is (object ps) s h = cc

found-is : (o : Option Tree) (s : Scalar) → option_and_then scalar_of o ≡ Some s → unwrap_or o null ≡ scalar_tree s
found-is None s h = cc
found-is (Some v) s h = scalar-is v s h

pub at-names-null : (names : List (List ℕ)) → at_names names null ≡ null
at-names-null [] = refl
at-names-null (w ∷ ws) = at-names-null ws

-- the names are followed by f
abbrev Follows : Option (List (List ℕ)) → (Tree → Tree) → Type 0
Follows None f = ⊤
Follows (Some names) f = (v : Tree) → f v ≡ at_names names v

-- f leaves a value as it is
abbrev Stays : Option (List (List ℕ)) → (Tree → Tree) → Type 0
Stays None f = ⊤
Stays (Some names) f = (v : Tree) → f v ≡ v

follow-one : (w : List ℕ) (o : Option (List (List ℕ))) (f : Tree → Tree) → Follows o f → Follows (option_map (λ ns. w ∷ ns) o) (λ v. f (field w v))
follow-one w None f h = tt
follow-one w (Some ns) f h = λ v. h (field w v)

stay-one : (w : List ℕ) (o : Option (List (List ℕ))) (f : Tree → Tree) → Stays o f → Stays (option_map (λ ns. w ∷ ns) o) f
stay-one w None f h = tt
stay-one w (Some ns) f h = h

names-follow : (docs : List Tree) (params : Pairs) (ss : Steps) (scope : List Tree) → Follows (names_of ss) (rest_value docs params ss scope)
names-follow docs params no_steps scope = λ v. refl
names-follow docs params (more_steps (attr w) ss) scope = follow-one w (names_of ss) (rest_value docs params ss scope) (names-follow docs params ss scope)
names-follow docs params (more_steps (bracket (text_literal w)) ss) scope = follow-one w (names_of ss) (rest_value docs params ss scope) (names-follow docs params ss scope)
names-follow docs params (more_steps s ss) scope = tt

names-stay : (docs : List Tree) (params : Pairs) (ss : Steps) (scope : List Tree) → Stays (names_of ss) (pipes_value docs params ss scope)
names-stay docs params no_steps scope = λ v. refl
names-stay docs params (more_steps (attr w) ss) scope = stay-one w (names_of ss) (pipes_value docs params ss scope) (names-stay docs params ss scope)
names-stay docs params (more_steps (bracket (text_literal w)) ss) scope = stay-one w (names_of ss) (pipes_value docs params ss scope) (names-stay docs params ss scope)
names-stay docs params (more_steps s ss) scope = tt

both-follow : (o : Option (List (List ℕ))) (f g : Tree → Tree) → Follows o f → Stays o g → Follows o (λ v. g (f v))
both-follow None f g h k = tt
both-follow (Some ns) f g h k = λ v. k (f v) ∙ h v

chain-follows : (docs : List Tree) (params : Pairs) (ss : Steps) (scope : List Tree) → Follows (names_of ss) (λ v. pipes_value docs params ss scope (rest_value docs params ss scope v))
chain-follows docs params ss scope =
    both-follow (names_of ss) (rest_value docs params ss scope) (pipes_value docs params ss scope) (names-follow docs params ss scope) (names-stay docs params ss scope)

-- what a chain of names is in the scope of null, it is in the scope of the document
outer-fields : (o : Option (List (List ℕ))) (f : Tree → Tree) (v : Tree) (s : Scalar) → Follows o f → option_and_then (λ names. scalar_of (at_names names v)) o ≡ Some s → f v ≡ scalar_tree s
outer-fields None f v s h e = cc
outer-fields (Some names) f v s h e = h v ∙ scalar-is (at_names names v) s e

no-scalar : (o : Option (List (List ℕ))) → option_and_then (λ names. scalar_of (at_names names null)) o ≡ None
no-scalar None = refl
no-scalar (Some names) = ap scalar_of (at-names-null names)

pub constant-value : (docs : List Tree) (params : Pairs) (c : Expression) (scope : List Tree) (d : Tree) (s : Scalar) → constant c scope params ≡ Some s → value docs params c (d ∷ scope) ≡ scalar_tree s
constant-value docs params (text_literal t) scope d s h = scalar-is (text t) s h
constant-value docs params (number_literal n) scope d s h = scalar-is (literal n) s h
constant-value docs params (prefix (sign.Minus ∷ []) (number_literal n)) scope d s h = scalar-is _ s h
constant-value docs params (bool_literal b) scope d s h = scalar-is (boolean b) s h
constant-value docs params (param p) scope d s h = found-is (find p params) s h
constant-value docs params (parent zero) scope d s h = cc
constant-value docs params (parent (suc n)) scope d s h = scalar-is (in_scope n scope) s h
constant-value docs params (chain (parent zero) ss) scope d s h = let none = no-scalar (names_of ss) in cc
constant-value docs params (chain (parent (suc n)) ss) scope d s h =
    outer-fields (names_of ss) (λ v. pipes_value docs params ss (d ∷ scope) (rest_value docs params ss (d ∷ scope) v)) (in_scope n scope) s (chain-follows docs params ss (d ∷ scope)) h
constant-value docs params c scope d s h = cc

-- the value is that at these names, where there are names
abbrev pub IsAt : Option (List (List ℕ)) → Tree → Tree → Type 0
IsAt None v d = ⊤
IsAt (Some names) v d = v ≡ at_names names d

few-at : (names : List (List ℕ)) (v d : Tree) → v ≡ at_names names d → IsAt (few names) v d
few-at names v d h = cond-at (nat_le (length names) 4)
  where
    cond-at : (b : Bool) → IsAt (cond b (Some names) None) v d
    cond-at true = h
    cond-at false = tt

path-at : (w : List ℕ) (o : Option (List (List ℕ))) (f : Tree → Tree) (d : Tree) → Follows o f → IsAt (option_and_then (λ names. few (w ∷ names)) o) (f (field w d)) d
path-at w None f d h = tt
path-at w (Some names) f d h = few-at (w ∷ names) (f (field w d)) d (h (field w d))

pub path-value : (docs : List Tree) (params : Pairs) (e : Expression) (scope : List Tree) (d : Tree) → IsAt (path_of e) (value docs params e (d ∷ scope)) d
path-value docs params (word w) scope d = refl
path-value docs params (chain (word w) ss) scope d =
    path-at w (names_of ss) (λ v. pipes_value docs params ss (d ∷ scope) (rest_value docs params ss (d ∷ scope) v)) d (chain-follows docs params ss (d ∷ scope))
path-value docs params e scope d = tt

-- following names gives what the attributes of attributes are
one-followed : (ws : List (List ℕ)) (o : Option Tree) → ((x : Tree) → at_names ws x ≡ unwrap_or (followed ws x) null) → at_names ws (unwrap_or o null) ≡ unwrap_or (option_and_then (followed ws) o) null
one-followed ws None h = at-names-null ws
one-followed ws (Some x) h = h x

pub at-names-followed : (names : List (List ℕ)) (v : Tree) → at_names names v ≡ unwrap_or (followed names v) null
at-names-followed [] v = refl
at-names-followed (w ∷ ws) v = one-followed ws (attribute w v) (at-names-followed ws)

-- a value is equal to a scalar
pub equals-equal : (s : Scalar) (v : Tree) → equals s v ≡ equal v (scalar_tree s)
equals-equal (Boolean c) (boolean b) = refl
equals-equal (Boolean c) null = refl
equals-equal (Boolean c) (integer n) = refl
equals-equal (Boolean c) (text t) = refl
equals-equal (Boolean c) (list ts) = refl
equals-equal (Boolean c) (object ps) = refl
equals-equal (Num m) (boolean b) = refl
equals-equal (Num m) null = refl
equals-equal (Num m) (integer n) = refl
equals-equal (Num m) (text t) = refl
equals-equal (Num m) (list ts) = refl
equals-equal (Num m) (object ps) = refl
equals-equal (Text u) (boolean b) = refl
equals-equal (Text u) null = refl
equals-equal (Text u) (integer n) = refl
equals-equal (Text u) (text t) = refl
equals-equal (Text u) (list ts) = refl
equals-equal (Text u) (object ps) = refl
