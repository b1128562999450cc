-- Where a chain starts, and where a piped call stands in it, over plain variables.
use Rattle.std.proofs.Common.{◌≡◌, ℕ, ◌+◌, ◌≤◌, List, [], ◌++◌, map, refl, sym, ap, subst, ◌∙◌, append_assoc, false, cond, Option, Some, None, arith}
use Rattle.std.specs.Prelude.{IfSome, unwrap_or, ◌&&◌}
use Rattle.cs_value.specs.Tree.{Tree, Pairs}
use Rattle.cs_view.specs.declared.key.Key.{Key}
use Rattle.cs_syntax.specs.Expression.{Expression, Step, Steps, OrderKeys, pipe, no_steps, more_steps}
use Rattle.cs_syntax.specs.View.{step_of}
use Rattle.cs_meaning.specs.declared.join.Kind.{Kind}
use Rattle.cs_meaning.specs.declared.join.Entrance.{Entrance}
use Rattle.cs_meaning.specs.declared.join.Entrance.TheVariants.{Whole, Mapped, Flat}
use Rattle.cs_meaning.specs.declared.join.Way.{Way}
use Rattle.cs_parts.specs.Turns.{turn, is_end}
use Rattle.cs_meaning.specs.Joining.{form, kind, way, entrance, entered, base_entrance}
use Rattle.cs_meaning.specs.Values.{value, rest_value, pipes_value, step_value}
use Rattle.cs_meaning.specs.Looked.{looked, rest_looked, pipes_looked, step_looked, entered_looked, filter_looked, is_everything, starts_with_filter}
use Rattle.cs_order.specs.Asked.{first_asked}
use Rattle.cs_order.specs.First.{first_elements}
use Rattle.cs_order.proofs.Enters.{first_enters, first_looks}
use Rattle.cs_parts.specs.Kinds.{kinds_of, first_kind}
use Rattle.cs_parts.specs.Parts.{got}
use Rattle.cs_parts.specs.declared.answer.Got.{Got}
use Rattle.cs_levels.specs.Levels.{entering}
use Rattle.cs_levels.specs.Nodes.{first_pipe, steps_in}
use Rattle.cs_levels.specs.declared.levels.Remaining.{Remaining}
use Rattle.cs_levels.specs.declared.levels.Reached.{Reached}
use Rattle.cs_expr.specs.Fits.{Fits, ReachedFits, reached_weight}
use Rattle.cs_expr.specs.Stops.{stop_value, stop_looked, stopped}
use Rattle.cs_expr.specs.Starts.{once, once_looked, start_value, start_looked, enter_value, enter_looked}
use Rattle.cs_expr.proofs.Answered.{no_some, one_after_another, step_looks_on}
use Rattle.cs_expr.proofs.Joins.{first_of_kinds}
use Rattle.cs_expr.specs.Weight.{step_weight, steps_weight}

-- a value that enters a rest
pub entering_value : (docs : List Tree) (params : Pairs) (scope : List Tree) (e : Entrance) (g : Got) (r : Remaining)
    → stop_value docs params scope (stopped (entering e g r)) ≡ entered e (rest_value docs params (steps_in r) scope) (got g)
entering_value docs params scope Whole g r = refl
entering_value docs params scope Mapped g r = refl
entering_value docs params scope Flat g r = refl

pub entering_looks : (docs : List Tree) (params : Pairs) (scope : List Tree) (e : Entrance) (g : Got) (r : Remaining)
    → stop_looked docs params scope (stopped (entering e g r)) ≡ entered_looked e (rest_looked docs params (steps_in r) scope) (got g)
entering_looks docs params scope Whole g r = refl
entering_looks docs params scope Mapped g r = refl
entering_looks docs params scope Flat g r = refl

pub entering_fits : (n : ℕ) (e : Entrance) (g : Got) (r : Remaining) → Fits n r → ReachedFits n (entering e g r)
entering_fits n Whole g r h = h
entering_fits n Mapped g r h = h
entering_fits n Flat g r h = h

pub entering_weight : (e : Entrance) (g : Got) (r : Remaining) → reached_weight (entering e g r) ≡ steps_weight (steps_in r)
entering_weight Whole g r = refl
entering_weight Mapped g r = refl
entering_weight Flat g r = refl

-- a value that enters a rest as an array does
kind_in : (k : Kind) (r : Remaining) → k ≡ first_kind r.kinds.now → r.kinds.now ≡ kinds_of (map step_of r.steps.now) → k ≡ kind (steps_in r)
kind_in k r is has = is ∙ (ap first_kind has ∙ first_of_kinds (map step_of r.steps.now))

pub array_enters : (docs : List Tree) (params : Pairs) (scope : List Tree) (h : Reached) (e : Entrance) (k : Kind) (g : Got) (r : Remaining)
    → h ≡ entering e g r → e ≡ entrance k → k ≡ first_kind r.kinds.now → r.kinds.now ≡ kinds_of (map step_of r.steps.now)
    → stop_value docs params scope (stopped h) ≡ enter_value docs params (steps_in r) scope (got g)
array_enters docs params scope h e k g r is is-e is-k has =
    ap (λ x. stop_value docs params scope (stopped x)) is ∙ (entering_value docs params scope e g r
    ∙ ap (λ x. entered x (rest_value docs params (steps_in r) scope) (got g)) (is-e ∙ ap entrance (kind_in k r is-k has)))

pub array_looks : (docs : List Tree) (params : Pairs) (scope : List Tree) (h : Reached) (e : Entrance) (k : Kind) (g : Got) (r : Remaining)
    → h ≡ entering e g r → e ≡ entrance k → k ≡ first_kind r.kinds.now → r.kinds.now ≡ kinds_of (map step_of r.steps.now)
    → stop_looked docs params scope (stopped h) ≡ enter_looked docs params (steps_in r) scope (got g)
array_looks docs params scope h e k g r is is-e is-k has =
    ap (λ x. stop_looked docs params scope (stopped x)) is ∙ (entering_looks docs params scope e g r
    ∙ ap (λ x. entered_looked x (rest_looked docs params (steps_in r) scope) (got g)) (is-e ∙ ap entrance (kind_in k r is-k has)))

pub array_fits : (h : Reached) (e : Entrance) (g : Got) (r : Remaining) → h ≡ entering e g r → r.kinds.now ≡ kinds_of (map step_of r.steps.now) → ReachedFits (reached_weight h) h
array_fits h e g r is has = subst (λ x. ReachedFits (reached_weight x) x) (sym is)
    (entering_fits (reached_weight (entering e g r)) e g r (has, omega (arith, entering_weight e g r)))

-- the first piped call of a rest: those before it are none
pub no_pipe_value : (docs : List Tree) (params : Pairs) (ss : Steps) (scope : List Tree) (v : Tree) → first_pipe ss ≡ None → pipes_value docs params ss scope v ≡ v
no_pipe_value docs params no_steps scope v h = refl
no_pipe_value docs params (more_steps (pipe name ks) ss) scope v h = absurd (no_some (sym h))
no_pipe_value docs params (more_steps _ ss) scope v h = no_pipe_value docs params ss scope v h

pub no_pipe_looks : (docs : List Tree) (params : Pairs) (ss : Steps) (scope : List Tree) (v : Tree) → first_pipe ss ≡ None → pipes_looked docs params ss scope v ≡ []
no_pipe_looks docs params no_steps scope v h = refl
no_pipe_looks docs params (more_steps (pipe name ks) ss) scope v h = absurd (no_some (sym h))
no_pipe_looks docs params (more_steps _ ss) scope v h = no_pipe_looks docs params ss scope v h

pair_of : (a b : Step × Steps) → Some a ≡ Some b → a ≡ b
pair_of a b h = ap (λ o. unwrap_or o b) h

pipe_value : (docs : List Tree) (params : Pairs) (ss : Steps) (scope : List Tree) (v : Tree) (s : Step) (later : Steps) → first_pipe ss ≡ Some (s, later)
    → pipes_value docs params ss scope v ≡ pipes_value docs params later scope (enter_value docs params later scope (step_value docs params s scope v))
pipe_value docs params no_steps scope v s later h = absurd (no_some h)
pipe_value docs params (more_steps (pipe name ks) ss) scope v s later h =
    ap (λ p. pipes_value docs params p.1 scope (enter_value docs params p.1 scope (step_value docs params p.0 scope v))) (pair_of (pipe name ks, ss) (s, later) h)
pipe_value docs params (more_steps _ ss) scope v s later h = pipe_value docs params ss scope v s later h

pipe_looks : (docs : List Tree) (params : Pairs) (ss : Steps) (scope : List Tree) (v : Tree) (s : Step) (later : Steps) → first_pipe ss ≡ Some (s, later)
    → pipes_looked docs params ss scope v ≡ (step_looked docs params s scope v ++ enter_looked docs params later scope (step_value docs params s scope v))
    ++ pipes_looked docs params later scope (enter_value docs params later scope (step_value docs params s scope v))
pipe_looks docs params no_steps scope v s later h = absurd (no_some h)
pipe_looks docs params (more_steps (pipe name ks) ss) scope v s later h =
    ap (λ p. (step_looked docs params p.0 scope v ++ enter_looked docs params p.1 scope (step_value docs params p.0 scope v))
    ++ pipes_looked docs params p.1 scope (enter_value docs params p.1 scope (step_value docs params p.0 scope v))) (pair_of (pipe name ks, ss) (s, later) h)
pipe_looks docs params (more_steps _ ss) scope v s later h = pipe_looks docs params ss scope v s later h

pub pipe_weight : (ss : Steps) (s : Step) (later : Steps) → first_pipe ss ≡ Some (s, later) → 9 + (step_weight s + steps_weight later) ≤ steps_weight ss
pipe_weight no_steps s later h = absurd (no_some h)
pipe_weight (more_steps (pipe name ks) ss) s later h =
    omega (arith, ap (λ p. 9 + (step_weight p.0 + steps_weight p.1)) (pair_of (pipe name ks, ss) (s, later) h))
pipe_weight (more_steps _ ss) s later h = omega (arith, pipe_weight ss s later h)

-- a piped call and the rest behind it, which gets by with the first elements where it asks for no others
pub pipe_turn_value : (docs : List Tree) (params : Pairs) (ss later : Steps) (scope : List Tree) (name : List ℕ) (ks : OrderKeys) (limit : Option ℕ) (v l h : Tree)
    → first_pipe ss ≡ Some (pipe name ks, later) → IfSome limit (λ k. first_asked later ≡ Some k)
    → l ≡ first_elements limit (step_value docs params (pipe name ks) scope v) → h ≡ enter_value docs params later scope l
    → pipes_value docs params later scope h ≡ pipes_value docs params ss scope v
pipe_turn_value docs params ss later scope name ks limit v l h is asks first entered =
    ap (pipes_value docs params later scope) (entered ∙ (ap (enter_value docs params later scope) first
    ∙ first_enters docs params later scope limit (step_value docs params (pipe name ks) scope v) asks))
    ∙ sym (pipe_value docs params ss scope v (pipe name ks) later is)

pub pipe_turn_looks : (docs : List Tree) (params : Pairs) (ss later : Steps) (scope : List Tree) (name : List ℕ) (ks : OrderKeys) (limit : Option ℕ) (v l h : Tree) (k0 k1 k2 : List Key)
    → first_pipe ss ≡ Some (pipe name ks, later) → IfSome limit (λ k. first_asked later ≡ Some k)
    → l ≡ first_elements limit (step_value docs params (pipe name ks) scope v) → h ≡ enter_value docs params later scope l
    → k1 ≡ k0 ++ step_looked docs params (pipe name ks) scope v → k2 ≡ k1 ++ enter_looked docs params later scope l
    → k2 ++ pipes_looked docs params later scope h ≡ k0 ++ pipes_looked docs params ss scope v
pipe_turn_looks docs params ss later scope name ks limit v l h k0 k1 k2 is asks first entered is-1 is-2 =
    let w = step_value docs params (pipe name ks) scope v in
    let a = step_looked docs params (pipe name ks) scope v in
    let b = enter_looked docs params later scope w in
    let looks : enter_looked docs params later scope l ≡ b = ap (enter_looked docs params later scope) first ∙ first_looks docs params later scope limit w asks in
    let value : h ≡ enter_value docs params later scope w = entered ∙ (ap (enter_value docs params later scope) first ∙ first_enters docs params later scope limit w asks) in
    ap (λ ks. ks ++ pipes_looked docs params later scope h) (is-2 ∙ (ap (λ ks. k1 ++ ks) looks ∙ (ap (λ ks. ks ++ b) is-1 ∙ append_assoc k0 a b)))
    ∙ (append_assoc k0 (a ++ b) (pipes_looked docs params later scope h)
    ∙ ap (λ ks. k0 ++ ks) (ap (λ x. (a ++ b) ++ pipes_looked docs params later scope x) value ∙ sym (pipe_looks docs params ss scope v (pipe name ks) later is)))

-- a base that is no `*` with a filter
pub base_enters : (docs : List Tree) (params : Pairs) (scope : List Tree) (b : Expression) (h : Reached) (e : Entrance) (k : Kind) (g : Got) (r : Remaining)
    → h ≡ entering e g r → e ≡ base_entrance b k → k ≡ first_kind r.kinds.now → r.kinds.now ≡ kinds_of (map step_of r.steps.now) → got g ≡ value docs params b scope
    → stop_value docs params scope (stopped h) ≡ start_value docs params b (steps_in r) scope
base_enters docs params scope b h e k g r is is-e is-k has is-g =
    ap (λ x. stop_value docs params scope (stopped x)) is ∙ (entering_value docs params scope e g r
    ∙ (ap (λ x. entered x (rest_value docs params (steps_in r) scope) (got g)) (is-e ∙ ap (base_entrance b) (kind_in k r is-k has))
    ∙ ap (entered (base_entrance b (kind (steps_in r))) (rest_value docs params (steps_in r) scope)) is-g))

pub base_looks : (docs : List Tree) (params : Pairs) (scope : List Tree) (b : Expression) (h : Reached) (e : Entrance) (k : Kind) (g : Got) (r : Remaining) (k0 k1 : List Key)
    → h ≡ entering e g r → e ≡ base_entrance b k → k ≡ first_kind r.kinds.now → r.kinds.now ≡ kinds_of (map step_of r.steps.now) → got g ≡ value docs params b scope
    → (is_everything b && starts_with_filter (steps_in r)) ≡ false → k1 ≡ k0 ++ looked docs params b scope
    → k1 ++ stop_looked docs params scope (stopped h) ≡ k0 ++ start_looked docs params b (steps_in r) scope
base_looks docs params scope b h e k g r k0 k1 is is-e is-k has is-g plain looks =
    let ss = steps_in r in
    let rk = rest_looked docs params ss scope in
    let there = looked docs params b scope ++ entered_looked (base_entrance b (kind ss)) rk (value docs params b scope) in
    one_after_another k0 k1 (start_looked docs params b ss scope) (looked docs params b scope) (stop_looked docs params scope (stopped h)) looks
    (ap (λ c. cond c (filter_looked docs params ss scope) there) plain
    ∙ ap (λ ks. looked docs params b scope ++ ks) (sym (ap (λ x. stop_looked docs params scope (stopped x)) is ∙ (entering_looks docs params scope e g r
    ∙ (ap (λ x. entered_looked x rk (got g)) (is-e ∙ ap (base_entrance b) (kind_in k r is-k has))
    ∙ ap (entered_looked (base_entrance b (kind ss)) rk) is-g)))))

-- what a chain starts with, fits
pub starting_fits : (n : ℕ) (h : Reached) (e : Entrance) (g : Got) (r : Remaining) → h ≡ entering e g r → r.kinds.now ≡ kinds_of (map step_of r.steps.now) → steps_weight (steps_in r) ≤ n → ReachedFits n h
starting_fits n h e g r is has le = subst (ReachedFits n) (sym is) (entering_fits n e g r (has, le))

-- what a step and the rest behind it look up
pub step_looks : (docs : List Tree) (params : Pairs) (scope : List Tree) (s : Step) (k : Kind) (w : Way) (e : Entrance) (v : Tree) (g : Got) (r : Remaining) (h : Reached) (k0 k1 : List Key)
    → k ≡ kind (steps_in r) → w ≡ way (form s) k → is_end w ≡ false → e ≡ turn w (entrance k) → got g ≡ once w (step_value docs params s scope) v → h ≡ entering e g r
    → k1 ≡ k0 ++ once_looked w (step_looked docs params s scope) v
    → k1 ++ stop_looked docs params scope (stopped h) ≡ k0 ++ rest_looked docs params (more_steps s (steps_in r)) scope v
step_looks docs params scope s k w e v g r h k0 k1 is-k is-w goes is-e is-v is-h looks =
    let here = once_looked w (step_looked docs params s scope) v in
    one_after_another k0 k1 (rest_looked docs params (more_steps s (steps_in r)) scope v) here (stop_looked docs params scope (stopped h)) looks
    (sym (step_looks_on docs params scope s (steps_in r) k w e v (got g) is-k is-w goes is-e is-v)
    ∙ ap (λ ks. here ++ ks) (sym (ap (λ x. stop_looked docs params scope (stopped x)) is-h ∙ entering_looks docs params scope e g r)))
