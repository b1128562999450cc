-- A rest of a chain gives null of null.
use Rattle.std.proofs.Common.{◌≡◌, ℤ, List, ◌∷◌, Bool, Option, Some, None, refl, ap, ◌∙◌}
use Rattle.cs_value.specs.Tree.{Tree, null, Pairs}
use Rattle.cs_syntax.specs.Expression.{Step, attr, deref, each, slice, bracket, project, pipe, Steps, no_steps, more_steps}
use Rattle.cs_plan.specs.Steps.{Bracketed, position, named, condition, bracketed, position_of}
use Rattle.cs_meaning.specs.declared.join.Way.{Way}
use Rattle.cs_meaning.specs.declared.join.Way.TheVariants.{Through, Over, After, Ends}
use Rattle.cs_meaning.specs.declared.join.Entrance.{Entrance}
use Rattle.cs_meaning.specs.declared.join.Entrance.TheVariants.{Whole, Mapped, Flat}
use Rattle.cs_meaning.specs.Joining.{entered, onward, form, kind, way, entrance}
use Rattle.cs_meaning.specs.Operators.{is_true}
use Rattle.cs_meaning.specs.Positions.{sliced}
use Rattle.cs_meaning.specs.Values.{value, in_bracket, rest_value, step_value}

entered-null : (enter : Entrance) (rest : Tree → Tree) → rest null ≡ null
    → entered enter rest null ≡ null
entered-null Whole rest h = h
entered-null Mapped rest h = refl
entered-null Flat rest h = refl

onward-null : (w : Way) (enter : Entrance) (step rest : Tree → Tree) → step null ≡ null
    → rest null ≡ null → onward w enter step rest null ≡ null
onward-null Through enter step rest s h = ap rest s ∙ h
onward-null Over enter step rest s h = h
onward-null After enter step rest s h = ap (entered enter rest) s ∙ entered-null enter rest h
onward-null Ends enter step rest s h = refl

sliced-null : (i j : Option (Option ℤ)) (closed : Bool) → sliced i j closed null ≡ null
sliced-null (Some (Some i)) (Some (Some j)) closed = refl
sliced-null (Some (Some i)) (Some None) closed = refl
sliced-null (Some (Some i)) None closed = refl
sliced-null (Some None) j closed = refl
sliced-null None j closed = refl

bracket-null : (b : Bracketed) (passes : Tree → Bool) → in_bracket b passes null ≡ null
bracket-null (position (Some n)) passes = refl
bracket-null (position None) passes = refl
bracket-null (named w) passes = refl
bracket-null condition passes = refl

step-null : (docs : List Tree) (params : Pairs) (scope : List Tree) (ss : Steps) (s : Step)
    → step_value docs params s scope null ≡ null → rest_value docs params ss scope null ≡ null
    → rest_value docs params (more_steps s ss) scope null ≡ null
step-null docs params scope ss s here later =
    onward-null (way (form s) (kind ss)) (entrance (kind ss)) (step_value docs params s scope)
    (rest_value docs params ss scope) here later

pub rest-null : (docs : List Tree) (params : Pairs) (scope : List Tree) (ss : Steps)
    → rest_value docs params ss scope null ≡ null
rest-null docs params scope no_steps = refl
rest-null docs params scope (more_steps (attr w) ss) =
    step-null docs params scope ss (attr w) refl (rest-null docs params scope ss)
rest-null docs params scope (more_steps deref ss) =
    step-null docs params scope ss deref refl (rest-null docs params scope ss)
rest-null docs params scope (more_steps each ss) =
    step-null docs params scope ss each refl (rest-null docs params scope ss)
rest-null docs params scope (more_steps (slice from to closed) ss) =
    step-null docs params scope ss (slice from to closed)
    (sliced-null (position_of from) (position_of to) closed) (rest-null docs params scope ss)
rest-null docs params scope (more_steps (bracket e) ss) =
    step-null docs params scope ss (bracket e)
    (bracket-null (bracketed e) (λ x. is_true (value docs params e (x ∷ scope))))
    (rest-null docs params scope ss)
rest-null docs params scope (more_steps (project es) ss) =
    step-null docs params scope ss (project es) refl (rest-null docs params scope ss)
rest-null docs params scope (more_steps (pipe name ks) ss) = refl
