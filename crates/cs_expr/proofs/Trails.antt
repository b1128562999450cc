-- Chains whose steps are names and dereferences.
use Rattle.std.proofs.Common.{◌≡◌, true, false, true≢false, refl, sym, ap, ◌∙◌, List, [], ◌++◌, append_assoc}
use Rattle.std.proofs.lemmas.List.{append-nil}
use Rattle.cs_value.specs.Tree.{Tree, Pairs}
use Rattle.cs_view.specs.declared.key.Key.{Key}
use Rattle.cs_syntax.specs.Expression.{Expression, everything, Steps, no_steps, more_steps, attr, deref}
use Rattle.cs_meaning.specs.Joining.{gives_array}
use Rattle.cs_meaning.specs.Operators.{reference_of, sought}
use Rattle.cs_meaning.specs.Values.{value, rest_value, pipes_value}
use Rattle.cs_meaning.specs.Looked.{looked, rest_looked, pipes_looked, is_everything, id_looked}
use Rattle.cs_value.specs.Words.{field}
use Rattle.cs_trail.specs.Trail.{is_trail, trailed, trail_looked}
use Rattle.cs_expr.specs.Starts.{start_value, start_looked}

-- the rest is what the steps make one after the other
rest_trailed : (docs : List Tree) (params : Pairs) (ss : Steps) (scope : List Tree) (v : Tree)
    → is_trail ss ≡ true → rest_value docs params ss scope v ≡ trailed docs ss v
rest_trailed docs params no_steps scope v h = refl
rest_trailed docs params (more_steps (attr w) ss) scope v h =
    rest_trailed docs params ss scope (field w v) h
rest_trailed docs params (more_steps deref ss) scope v h =
    rest_trailed docs params ss scope (sought docs (reference_of v)) h
rest_trailed docs params (more_steps _ ss) scope v h = absurd (true≢false (sym h))

rest_looks : (docs : List Tree) (params : Pairs) (ss : Steps) (scope : List Tree) (v : Tree)
    → is_trail ss ≡ true → rest_looked docs params ss scope v ≡ trail_looked docs ss v
rest_looks docs params no_steps scope v h = refl
rest_looks docs params (more_steps (attr w) ss) scope v h =
    rest_looks docs params ss scope (field w v) h
rest_looks docs params (more_steps deref ss) scope v h =
    ap (λ (ks : List Key). id_looked (reference_of v) ++ ks)
    (rest_looks docs params ss scope (sought docs (reference_of v)) h)
rest_looks docs params (more_steps _ ss) scope v h = absurd (true≢false (sym h))

-- there is no piped call
pub no_pipes : (docs : List Tree) (params : Pairs) (ss : Steps) (scope : List Tree) (x : Tree)
    → is_trail ss ≡ true → pipes_value docs params ss scope x ≡ x
no_pipes docs params no_steps scope x h = refl
no_pipes docs params (more_steps (attr w) ss) scope x h = no_pipes docs params ss scope x h
no_pipes docs params (more_steps deref ss) scope x h = no_pipes docs params ss scope x h
no_pipes docs params (more_steps _ ss) scope x h = absurd (true≢false (sym h))

pub no_pipes_look : (docs : List Tree) (params : Pairs) (ss : Steps) (scope : List Tree) (x : Tree)
    → is_trail ss ≡ true → pipes_looked docs params ss scope x ≡ []
no_pipes_look docs params no_steps scope x h = refl
no_pipes_look docs params (more_steps (attr w) ss) scope x h = no_pipes_look docs params ss scope x h
no_pipes_look docs params (more_steps deref ss) scope x h = no_pipes_look docs params ss scope x h
no_pipes_look docs params (more_steps _ ss) scope x h = absurd (true≢false (sym h))

not_everything : (e : Expression) → gives_array e ≡ false → is_everything e ≡ false
not_everything everything h = h
not_everything _ h = refl

-- a base that gives no array goes through the steps as it is
pub trail_value : (docs : List Tree) (params : Pairs) (base : Expression) (ss : Steps)
    (scope : List Tree) (v u : Tree)
    → is_trail ss ≡ true → gives_array base ≡ false → v ≡ value docs params base scope
    → u ≡ trailed docs ss v
    → u ≡ pipes_value docs params ss scope (start_value docs params base ss scope)
trail_value docs params base ss scope v u trail single is then =
    then ∙ sym (no_pipes docs params ss scope (start_value docs params base ss scope) trail
    ∙ rw (single, sym is) (rest_trailed docs params ss scope v trail))

pub trail_keys : (docs : List Tree) (params : Pairs) (base : Expression) (ss : Steps)
    (scope : List Tree) (v : Tree) (before at after : List Key)
    → is_trail ss ≡ true → gives_array base ≡ false → v ≡ value docs params base scope
    → at ≡ before ++ looked docs params base scope
    → after ≡ at ++ trail_looked docs ss v
    → after ≡ before ++ (start_looked docs params base ss scope
    ++ pipes_looked docs params ss scope (start_value docs params base ss scope))
trail_keys docs params base ss scope v before at after trail single is first then =
    rw (no_pipes_look docs params ss scope (start_value docs params base ss scope) trail, not_everything base single, single, sym is)
    (then ∙ ap (λ (ks : List Key). ks ++ trail_looked docs ss v) first
    ∙ ap (λ (ks : List Key). (before ++ looked docs params base scope) ++ ks) (sym (rest_looks docs params ss scope v trail))
    ∙ simp (append_assoc, append-nil))
