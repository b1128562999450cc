-- Chains whose steps are names.
use Rattle.std.proofs.Common.{◌≡◌, false, refl, sym, ap, ◌∙◌, List, [], ◌++◌, Option, Some, None, option_map}
use Rattle.std.specs.Prelude.{IfSome}
use Rattle.cs_value.specs.Tree.{Tree, Pairs}
use Rattle.cs_view.specs.declared.key.Key.{Key}
use Rattle.cs_syntax.specs.Expression.{Expression, everything, chain, text_literal, attr, bracket, Steps, no_steps, more_steps}
use Rattle.cs_value.specs.Words.{field}
use Rattle.cs_meaning.specs.Joining.{gives_array}
use Rattle.cs_meaning.specs.Values.{value, rest_value, pipes_value}
use Rattle.cs_meaning.specs.Looked.{looked, rest_looked, pipes_looked, is_everything}
use Rattle.cs_direct.specs.Follows.{followed}
use Rattle.cs_operand.specs.Operands.{operand}
use Rattle.cs_operand.specs.declared.operand.Operand.{Operand}

some_is : {A : Type 0} (x y : A) → Some x ≡ Some y → x ≡ y
some_is x y h = cc

pub nothing : {A : Type 0} {C : Type 0} (x : A) → None ≡ Some x → C
nothing x h = absurd cc

-- the rest before a piped call
rest_names : (docs : List Tree) (params : Pairs) (scope : List Tree) (ss : Steps) (v u : Tree)
    → followed ss v ≡ Some u → rest_value docs params ss scope v ≡ u
rest_names docs params scope no_steps v u h = some_is v u h
rest_names docs params scope (more_steps (attr w) ss) v u h =
    rest_names docs params scope ss (field w v) u h
rest_names docs params scope (more_steps (bracket (text_literal w)) ss) v u h =
    rest_names docs params scope ss (field w v) u h
rest_names docs params scope (more_steps _ ss) v u h = nothing u h

rest_quiet : (docs : List Tree) (params : Pairs) (scope : List Tree) (ss : Steps) (v u : Tree)
    → followed ss v ≡ Some u → rest_looked docs params ss scope v ≡ []
rest_quiet docs params scope no_steps v u h = refl
rest_quiet docs params scope (more_steps (attr w) ss) v u h =
    rest_quiet docs params scope ss (field w v) u h
rest_quiet docs params scope (more_steps (bracket (text_literal w)) ss) v u h =
    rest_quiet docs params scope ss (field w v) u h
rest_quiet docs params scope (more_steps _ ss) v u h = nothing u h

-- there is no piped call
pipes_names : (docs : List Tree) (params : Pairs) (scope : List Tree) (ss : Steps) (v u x : Tree)
    → followed ss v ≡ Some u → pipes_value docs params ss scope x ≡ x
pipes_names docs params scope no_steps v u x h = refl
pipes_names docs params scope (more_steps (attr w) ss) v u x h =
    pipes_names docs params scope ss (field w v) u x h
pipes_names docs params scope (more_steps (bracket (text_literal w)) ss) v u x h =
    pipes_names docs params scope ss (field w v) u x h
pipes_names docs params scope (more_steps _ ss) v u x h = nothing u h

pipes_quiet : (docs : List Tree) (params : Pairs) (scope : List Tree) (ss : Steps) (v u x : Tree)
    → followed ss v ≡ Some u → pipes_looked docs params ss scope x ≡ []
pipes_quiet docs params scope no_steps v u x h = refl
pipes_quiet docs params scope (more_steps (attr w) ss) v u x h =
    pipes_quiet docs params scope ss (field w v) u x h
pipes_quiet docs params scope (more_steps (bracket (text_literal w)) ss) v u x h =
    pipes_quiet docs params scope ss (field w v) u x h
pipes_quiet docs params scope (more_steps _ ss) v u x h = nothing u h

not_everything : (e : Expression) → gives_array e ≡ false → is_everything e ≡ false
not_everything everything h = h
not_everything _ h = refl

-- a chain whose base gives no array, where v is the value of the base
pub chain_value : (docs : List Tree) (params : Pairs) (base : Expression) (ss : Steps)
    (scope : List Tree) (v u : Tree)
    → gives_array base ≡ false → v ≡ value docs params base scope → followed ss v ≡ Some u
    → u ≡ value docs params (chain base ss) scope
chain_value docs params base ss scope v u single is names =
    rw (single, sym is)
    (sym (pipes_names docs params scope ss v u (rest_value docs params ss scope v) names
    ∙ rest_names docs params scope ss v u names))

pub chain_looked : (docs : List Tree) (params : Pairs) (base : Expression) (ss : Steps)
    (scope : List Tree) (v u : Tree)
    → gives_array base ≡ false → looked docs params base scope ≡ []
    → v ≡ value docs params base scope → followed ss v ≡ Some u
    → looked docs params (chain base ss) scope ≡ []
chain_looked docs params base ss scope v u single quiet is names =
    rw (not_everything base single, single, quiet, sym is)
    (ap (λ (ks : List Key). ks
    ++ pipes_looked docs params ss scope (rest_value docs params ss scope v))
    (rest_quiet docs params scope ss v u names)
    ∙ pipes_quiet docs params scope ss v u (rest_value docs params ss scope v) names)

-- what the code found of it
pub found_value : (params : Pairs) (base : Expression) (ss : Steps) (scope : List Tree) (v : Tree)
    (found : Option Operand)
    → gives_array base ≡ false → v ≡ value [] params base scope
    → option_map operand found ≡ followed ss v
    → IfSome found (λ o. operand o ≡ value [] params (chain base ss) scope)
found_value params base ss scope v None single is names = tt
found_value params base ss scope v (Some o) single is names =
    chain_value [] params base ss scope v (operand o) single is (sym names)

pub found_quiet : (params : Pairs) (base : Expression) (ss : Steps) (scope : List Tree) (v : Tree)
    (found : Option Operand)
    → gives_array base ≡ false → looked [] params base scope ≡ []
    → v ≡ value [] params base scope → option_map operand found ≡ followed ss v
    → IfSome found (λ _. looked [] params (chain base ss) scope ≡ [])
found_quiet params base ss scope v None single quiet is names = tt
found_quiet params base ss scope v (Some o) single quiet is names =
    chain_looked [] params base ss scope v (operand o) single quiet is (sym names)
