-- What an expression names is its value.
use Rattle.std.proofs.Common.{◌≡◌, false, refl, sym, ap, ℕ, List, [], Option, Some, None, option_map, option_and_then}
use Rattle.std.specs.Prelude.{IfSome, unwrap_or, slice_get}
use Rattle.cs_value.specs.Tree.{Tree, null, Pairs}
use Rattle.cs_value.specs.Pairs.{attribute}
use Rattle.cs_syntax.specs.Expression.{Expression, word, this, parent, chain, text_literal, attr, bracket, Steps, no_steps, more_steps}
use Rattle.cs_value.specs.Words.{field}
use Rattle.cs_meaning.specs.Joining.{gives_array}
use Rattle.cs_meaning.specs.Values.{value}
use Rattle.cs_meaning.specs.Looked.{looked}
use Rattle.cs_direct.specs.Follows.{followed}
use Rattle.cs_direct.specs.Named.{behind, named}
use Rattle.cs_direct.proofs.Follows.{nothing, chain_value, chain_looked}

found_at : (ss : Steps) (o : Option Tree) (u : Tree) → option_and_then (behind ss) o ≡ Some u
    → behind ss (unwrap_or o null) ≡ Some u
found_at ss None u h = nothing u h
found_at ss (Some x) u h = h

behind_followed : (ss : Steps) (v u : Tree) → behind ss v ≡ Some u → followed ss v ≡ Some u
behind_followed no_steps v u h = h
behind_followed (more_steps (attr w) ss) v u h =
    behind_followed ss (field w v) u (found_at ss (attribute w v) u h)
behind_followed (more_steps (bracket (text_literal w)) ss) v u h =
    behind_followed ss (field w v) u (found_at ss (attribute w v) u h)
behind_followed (more_steps _ ss) v u h = nothing u h

given : (o : Option Tree) (v : Tree) → o ≡ Some v → v ≡ unwrap_or o null
given o v h = sym (ap (λ (p : Option Tree). unwrap_or p null) h)

word_at : (w : List ℕ) (o : Option Tree) (v : Tree) → option_and_then (attribute w) o ≡ Some v
    → v ≡ field w (unwrap_or o null)
word_at w None v h = nothing v h
word_at w (Some x) v h = given (attribute w x) v h

-- the base of a chain gives one value
single_by : (ss : Steps) (base : Expression) (scope : List Tree) (v : Tree)
    → option_and_then (behind ss) (named base scope) ≡ Some v → gives_array base ≡ false
single_by ss this scope v h = refl
single_by ss (parent n) scope v h = refl
single_by ss (word w) scope v h = refl
single_by ss (chain base rest) scope v h = refl
single_by ss _ scope v h = nothing v h

base_by : (ss : Steps) (o : Option Tree) (v : Tree) → option_and_then (behind ss) o ≡ Some v
    → (x : Tree) × (o ≡ Some x) × (followed ss x ≡ Some v)
base_by ss None v h = nothing v h
base_by ss (Some x) v h = (x, refl, behind_followed ss x v h)

named_value : (docs : List Tree) (params : Pairs) (e : Expression) (scope : List Tree) (v : Tree)
    → named e scope ≡ Some v → v ≡ value docs params e scope
named_value docs params this scope v h = given (slice_get scope 0) v h
named_value docs params (parent n) scope v h = given (slice_get scope n) v h
named_value docs params (word w) scope v h = word_at w (slice_get scope 0) v h
named_value docs params (chain base ss) scope v h =
    let b = base_by ss (named base scope) v h in
    chain_value docs params base ss scope b.0 v (single_by ss base scope v h)
    (named_value docs params base scope b.0 b.1) b.2
named_value docs params _ scope v h = nothing v h

named_quiet : (docs : List Tree) (params : Pairs) (e : Expression) (scope : List Tree) (v : Tree)
    → named e scope ≡ Some v → looked docs params e scope ≡ []
named_quiet docs params this scope v h = refl
named_quiet docs params (parent n) scope v h = refl
named_quiet docs params (word w) scope v h = refl
named_quiet docs params (chain base ss) scope v h =
    let b = base_by ss (named base scope) v h in
    chain_looked docs params base ss scope b.0 v (single_by ss base scope v h)
    (named_quiet docs params base scope b.0 b.1)
    (named_value docs params base scope b.0 b.1) b.2
named_quiet docs params _ scope v h = nothing v h

-- what the code found of it
pub found_named : {R : Type 0} (found : Option R) (f : R → Tree) (e : Expression)
    (scope : List Tree) → option_map f found ≡ named e scope
    → IfSome found (λ v. (docs : List Tree) (params : Pairs) → f v ≡ value docs params e scope)
found_named None f e scope is = tt
found_named (Some r) f e scope is =
    λ docs params. named_value docs params e scope (f r) (sym is)

pub found_named_quiet : {R : Type 0} (found : Option R) (f : R → Tree) (e : Expression)
    (scope : List Tree) → option_map f found ≡ named e scope
    → IfSome found (λ _. (docs : List Tree) (params : Pairs) → looked docs params e scope ≡ [])
found_named_quiet None f e scope is = tt
found_named_quiet (Some r) f e scope is =
    λ docs params. named_quiet docs params e scope (f r) (sym is)
