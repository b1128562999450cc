-- Open levels of a chain, over plain variables.
use Rattle.std.proofs.Common.{◌≡◌, ℕ, ◌<◌, ◌≤◌, List, [], ◌∷◌, ◌++◌, length, refl, sym}
use Rattle.std.proofs.Common.{ap}
use Rattle.std.proofs.Common.{subst, ◌∙◌, append_assoc, true, false, Option, Some, None}
use Rattle.std.proofs.Common.{arith}
use Rattle.std.specs.Prelude.{flat_map}
use Rattle.std.specs.Option.{option_map_or}
use Rattle.std.proofs.lemmas.Grind.{flat_map-append}
use Rattle.std.proofs.lemmas.List.{append-nil}
use Rattle.cs_value.specs.Words.{as_list}
use Rattle.cs_value.specs.Tree.{Tree, Pairs}
use Rattle.cs_view.specs.declared.key.Key.{Key}
use Rattle.cs_view.specs.declared.key.Key.TheVariants.{All}
use Rattle.cs_syntax.specs.Expression.{Step, Steps, no_steps, more_steps}
use Rattle.cs_meaning.specs.declared.join.Kind.{Kind}
use Rattle.cs_meaning.specs.declared.join.Way.{Way}
use Rattle.cs_meaning.specs.declared.join.Way.TheVariants.{Through, Over, After, Ends}
use Rattle.cs_meaning.specs.declared.join.Entrance.{Entrance}
use Rattle.cs_meaning.specs.declared.join.Entrance.TheVariants as entrance_of
use Rattle.cs_meaning.specs.declared.join.Entrance.TheVariants.{Mapped, Flat}
use Rattle.cs_meaning.specs.Joining.{mapped, form, kind, way}
use Rattle.cs_meaning.specs.Joining.{entrance, entered, onward}
use Rattle.cs_meaning.specs.Looked.{each_looked, rest_looked}
use Rattle.cs_parts.specs.Parts.{got}
use Rattle.cs_meaning.specs.Values.{rest_value, step_value}
use Rattle.cs_parts.specs.Turns.{turn, is_end}
use Rattle.cs_expr.specs.Starts.{once}
use Rattle.cs_levels.specs.Nodes.{steps_in}
use Rattle.cs_expr.specs.Fits.{Fits, reached_weight}
use Rattle.cs_levels.specs.Levels.{entering, unwound, reached_value, task_value, Waiting}
use Rattle.cs_levels.specs.Levels.{waiting, waiting_of, levels_waiting, reached_waiting}
use Rattle.cs_levels.specs.Levels.{task_waiting, Ended}
use Rattle.cs_expr.specs.Fits.{AllFit, ReachedFits}
use Rattle.cs_expr.specs.Stops.{Stop, at_end, at_rest, at_each, entered_stop, onward_stop, stop, is_whole}
use Rattle.cs_expr.specs.Stops.{stop_value, stop_looked, stopped}
use Rattle.cs_levels.specs.declared.levels.Remaining.{Remaining}
use Rattle.cs_expr.specs.Weight.{steps_weight}
use Rattle.cs_levels.specs.declared.levels.Level.{Level}
use Rattle.cs_levels.proofs.Climbing.{wait}
use Rattle.cs_parts.specs.declared.answer.Got.{Got}
use Rattle.cs_levels.specs.declared.levels.Task.{Task}
use Rattle.cs_levels.specs.declared.levels.Task.TheVariants.{Done}
use Rattle.cs_levels.specs.declared.levels.Reached.{Reached}
use Rattle.cs_levels.specs.declared.levels.Reached.TheVariants.{End, Whole, Each}

-- the readings of what waits
abbrev pub rest_of : List Tree → Pairs → List Tree → Remaining → Tree → Tree
rest_of docs params scope r v = rest_value docs params (steps_in r) scope v

abbrev pub looked_of : List Tree → Pairs → List Tree → Waiting → List Key
looked_of docs params scope w = rest_looked docs params (steps_in w.rest) scope w.value

-- a mark for each value that goes through a rest behind this one
abbrev entered_tally : Entrance → (Tree → List Key) → Tree → List Key
entered_tally entrance_of.Whole rest v = rest v
entered_tally Mapped rest v = each_looked (λ x. All ∷ rest x) v
entered_tally Flat rest v = each_looked (λ x. All ∷ rest x) v

abbrev onward_tally : Way → Entrance → (Tree → Tree) → (Tree → List Key) → Tree → List Key
onward_tally Through enter step rest v = rest (step v)
onward_tally Over enter step rest v = rest (mapped step v)
onward_tally After enter step rest v = entered_tally enter rest (step v)
onward_tally Ends enter step rest v = []

abbrev tally : List Tree → Pairs → Steps → List Tree → Tree → List Key
tally docs params no_steps scope v = []
tally docs params (more_steps s ss) scope v =
    onward_tally (way (form s) (kind ss)) (entrance (kind ss)) (step_value docs params s scope)
    (tally docs params ss scope) v

abbrev pub tally_of : List Tree → Pairs → List Tree → Waiting → List Key
tally_of docs params scope w = All ∷ tally docs params (steps_in w.rest) scope w.value

abbrev stop_tally : List Tree → Pairs → List Tree → Stop → List Key
stop_tally docs params scope (at_end v) = []
stop_tally docs params scope (at_rest ss v) = All ∷ tally docs params ss scope v
stop_tally docs params scope (at_each joins ss v) = each_looked
    (λ x. All ∷ tally docs params ss scope x) v

-- what comes of a stop is what the rest gives
entered_gives : (docs : List Tree) (params : Pairs) (scope : List Tree) (e : Entrance)
    (ss : Steps) (v : Tree)
    → stop_value docs params scope (stop docs params ss scope v) ≡ rest_value docs params ss scope
    v
    → stop_value docs params scope (entered_stop e ss (stop docs params ss scope) v) ≡ entered e
    (rest_value docs params ss scope) v
entered_gives docs params scope entrance_of.Whole ss v h = h
entered_gives docs params scope Mapped ss v h = refl
entered_gives docs params scope Flat ss v h = refl

onward_gives : (docs : List Tree) (params : Pairs) (scope : List Tree) (w : Way) (e : Entrance)
    (ss : Steps) (f : Tree → Tree) (v : Tree)
    → ((x : Tree)
    → stop_value docs params scope (stop docs params ss scope x) ≡ rest_value docs params ss
    scope x)
    → stop_value docs params scope (onward_stop w e ss f (stop docs params ss scope) v) ≡ onward w
    e f (rest_value docs params ss scope) v
onward_gives docs params scope Through e ss f v h = h (f v)
onward_gives docs params scope Over e ss f v h = h (mapped f v)
onward_gives docs params scope After e ss f v h = entered_gives docs params scope e ss (f v)
    (h (f v))
onward_gives docs params scope Ends e ss f v h = refl

stop_gives : (docs : List Tree) (params : Pairs) (ss : Steps) (scope : List Tree) (v : Tree)
    → stop_value docs params scope (stop docs params ss scope v) ≡ rest_value docs params ss scope
    v
stop_gives docs params no_steps scope v = refl
stop_gives docs params (more_steps s ss) scope v =
    onward_gives docs params scope (way (form s) (kind ss)) (entrance (kind ss)) ss
    (step_value docs params s scope) v (stop_gives docs params ss scope)

entered_marks : (docs : List Tree) (params : Pairs) (scope : List Tree) (e : Entrance)
    (ss : Steps) (v : Tree)
    → stop_tally docs params scope (stop docs params ss scope v) ≡ tally docs params ss scope v
    → stop_tally docs params scope (entered_stop e ss (stop docs params ss scope) v) ≡
    entered_tally e (tally docs params ss scope) v
entered_marks docs params scope entrance_of.Whole ss v h = h
entered_marks docs params scope Mapped ss v h = refl
entered_marks docs params scope Flat ss v h = refl

onward_marks : (docs : List Tree) (params : Pairs) (scope : List Tree) (w : Way) (e : Entrance)
    (ss : Steps) (f : Tree → Tree) (v : Tree)
    → ((x : Tree)
    → stop_tally docs params scope (stop docs params ss scope x) ≡ tally docs params ss scope
    x)
    → stop_tally docs params scope (onward_stop w e ss f (stop docs params ss scope) v) ≡
    onward_tally w e f (tally docs params ss scope) v
onward_marks docs params scope Through e ss f v h = h (f v)
onward_marks docs params scope Over e ss f v h = h (mapped f v)
onward_marks docs params scope After e ss f v h = entered_marks docs params scope e ss (f v)
    (h (f v))
onward_marks docs params scope Ends e ss f v h = refl

stop_marks : (docs : List Tree) (params : Pairs) (ss : Steps) (scope : List Tree) (v : Tree)
    → stop_tally docs params scope (stop docs params ss scope v) ≡ tally docs params ss scope v
stop_marks docs params no_steps scope v = refl
stop_marks docs params (more_steps s ss) scope v =
    onward_marks docs params scope (way (form s) (kind ss)) (entrance (kind ss)) ss
    (step_value docs params s scope) v (stop_marks docs params ss scope)

-- a step, and what it gives entering the rest behind it
entered_turns : (w : Way) (e : Entrance) (ss : Steps) (f : Tree → Tree) (r : Tree
    → Stop) (v : Tree) → is_end w ≡ false
    → onward_stop w e ss f r v ≡ entered_stop (turn w e) ss r (once w f v)
entered_turns Through e ss f r v h = refl
entered_turns Over e ss f r v h = refl
entered_turns After e ss f r v h = refl
entered_turns Ends e ss f r v h = cc

pub step_stops : (docs : List Tree) (params : Pairs) (scope : List Tree) (s : Step) (ss : Steps)
    (k : Kind) (w : Way) (e : Entrance) (v w' : Tree)
    → k ≡ kind ss → w ≡ way (form s) k → is_end w ≡ false → e ≡ turn w (entrance k)
    → w' ≡ once w (step_value docs params s scope) v
    → entered_stop e ss (stop docs params ss scope) w' ≡ stop docs params (more_steps s ss) scope
    v
step_stops docs params scope s ss k w e v w' is-k is-w goes is-e is-v =
    let f = step_value docs params s scope in let r = stop docs params ss scope in
    ap (entered_stop e ss r) is-v
    ∙ (ap (λ (x : Entrance). entered_stop x ss r (once w f v)) is-e
    ∙ (sym (entered_turns w (entrance k) ss f r v goes)
    ∙ (ap (λ (x : Way). onward_stop x (entrance k) ss f r v) is-w
    ∙ ap (λ (x : Kind). onward_stop (way (form s) x) (entrance x) ss f r v) is-k)))

pub whole_enters : (e : Entrance) → is_whole e ≡ true → e ≡ entrance_of.Whole
whole_enters entrance_of.Whole h = refl
whole_enters Mapped h = cc
whole_enters Flat h = cc

-- elements that go on one by one
each_enters : (e : Entrance) (g : Got) (r : Remaining) (rest : Tree → Stop)
    → is_whole e ≡ false → stopped (entering e g r) ≡ entered_stop e (steps_in r) rest (got g)
each_enters entrance_of.Whole g r rest h = cc
each_enters Mapped g r rest h = refl
each_enters Flat g r rest h = refl

pub each_stops : (docs : List Tree) (params : Pairs) (scope : List Tree) (s : Step)
    (k : Kind) (w : Way) (e : Entrance) (v : Tree) (g : Got) (r : Remaining) (h : Reached)
    → k ≡ kind (steps_in r) → w ≡ way (form s) k → is_end w ≡ false → e ≡ turn w (entrance k)
    → got g ≡ once w (step_value docs params s scope) v → h ≡ entering e g r → is_whole e ≡ false
    → stopped h ≡ stop docs params (more_steps s (steps_in r)) scope v
each_stops docs params scope s k w e v g r h is-k is-w goes is-e is-v is-h each =
    ap stopped is-h ∙ (each_enters e g r (stop docs params (steps_in r) scope) each
    ∙ step_stops docs params scope s (steps_in r) k w e v (got g) is-k is-w goes is-e is-v)

-- what waits, read one by one
each_waits : (k : Waiting → List Key) (r : Remaining) (ts : List Tree)
    → flat_map k (waiting r ts) ≡ flat_map (λ x. k (record { rest = r; value = x })) ts
each_waits k r [] = refl
each_waits k r (t ∷ ts) = ap (λ (ks : List Key). k (record { rest = r; value = t }) ++ ks)
    (each_waits k r ts)

list_waits : (k : Waiting → List Key) (r : Remaining) (o : Option (List Tree))
    → flat_map k (waiting_of r o) ≡ option_map_or
    (flat_map (λ x. k (record { rest = r; value = x }))) o []
list_waits k r None = refl
list_waits k r (Some ts) = each_waits k r ts

pub reached_looks : (docs : List Tree) (params : Pairs) (scope : List Tree) (h : Reached)
    → flat_map (looked_of docs params scope) (reached_waiting h) ≡ stop_looked docs params scope
    (stopped h)
reached_looks docs params scope (End g) = refl
reached_looks docs params scope (Whole g r) = append-nil _
reached_looks docs params scope (Each g joins r) = list_waits (looked_of docs params scope) r
    (as_list (got g))

reached_marks : (docs : List Tree) (params : Pairs) (scope : List Tree) (h : Reached)
    → flat_map (tally_of docs params scope) (reached_waiting h) ≡ stop_tally docs params scope
    (stopped h)
reached_marks docs params scope (End g) = refl
reached_marks docs params scope (Whole g r) = append-nil _
reached_marks docs params scope (Each g joins r) = list_waits (tally_of docs params scope) r
    (as_list (got g))

pub reached_is : (docs : List Tree) (params : Pairs) (scope : List Tree) (h : Reached)
    → reached_value (rest_of docs params scope) h ≡ stop_value docs params scope (stopped h)
reached_is docs params scope (End g) = refl
reached_is docs params scope (Whole g r) = refl
reached_is docs params scope (Each g joins r) = refl

-- what fits
pub fit_join : (n : ℕ) (xs ys : List Waiting) → AllFit n xs → AllFit n ys → AllFit n (xs ++ ys)
fit_join n [] ys h k = k
fit_join n (x ∷ xs) ys h k = (h.0, fit_join n xs ys h.1 k)

fit_each : (n : ℕ) (r : Remaining) (ts : List Tree) → Fits n r → AllFit n (waiting r ts)
fit_each n r [] h = tt
fit_each n r (t ∷ ts) h = (h, fit_each n r ts h)

fit_list : (n : ℕ) (r : Remaining) (o : Option (List Tree)) → Fits n r → AllFit n (waiting_of r o)
fit_list n r None h = tt
fit_list n r (Some ts) h = fit_each n r ts h

pub fit_reached : (n : ℕ) (h : Reached) → ReachedFits n h → AllFit n (reached_waiting h)
fit_reached n (End g) h = tt
fit_reached n (Whole g r) h = (h, tt)
fit_reached n (Each g joins r) h = fit_list n r (as_list (got g)) h

pub fits_wider : (n m : ℕ) (h : Reached) → n ≤ m → ReachedFits n h → ReachedFits m h
fits_wider n m (End g) le h = tt
fits_wider n m (Whole g r) le h = (h.0, omega (arith, h.1))
fits_wider n m (Each g joins r) le h = (h.0, omega (arith, h.1))

-- what fits, fits the weight that it has itself
pub fits_itself : (n : ℕ) (h : Reached) → ReachedFits n h → ReachedFits (reached_weight h) h
fits_itself n (End g) h = tt
fits_itself n (Whole g r) h = (h.0, omega arith)
fits_itself n (Each g joins r) h = (h.0, omega arith)

pub weight_of_fitting : (n : ℕ) (h : Reached) → ReachedFits n h → reached_weight h ≤ n
weight_of_fitting n (End g) h = omega arith
weight_of_fitting n (Whole g r) h = h.1
weight_of_fitting n (Each g joins r) h = h.1

-- one turn of the levels: a value goes through its rest, and what waits is what waited
pub turn_looks : (docs : List Tree) (params : Pairs) (scope : List Tree) (k0 k1 : List Key)
    (h : Reached) (r : Remaining) (g : Tree) (ws old : List Waiting)
    → record { rest = r; value = g } ∷ ws ≡ old
    → k1 ++ stop_looked docs params scope (stopped h) ≡ k0 ++ rest_looked docs params (steps_in r)
    scope g
    → k1 ++ flat_map (looked_of docs params scope) (reached_waiting h ++ ws) ≡ k0 ++ flat_map
    (looked_of docs params scope) old
turn_looks docs params scope k0 k1 h r g ws old same keys =
    let f = looked_of docs params scope in
    ap (λ (ks : List Key). k1 ++ ks) (flat_map-append f (reached_waiting h) ws
    ∙ ap (λ (ks : List Key). ks ++ flat_map f ws) (reached_looks docs params scope h))
    ∙ (sym (append_assoc k1 (stop_looked docs params scope (stopped h)) (flat_map f ws))
    ∙ (ap (λ (ks : List Key). ks ++ flat_map f ws) keys
    ∙ (append_assoc k0 (rest_looked docs params (steps_in r) scope g) (flat_map f ws)
    ∙ ap (λ (os : List Waiting). k0 ++ flat_map f os) same)))

pub turn_marks : (docs : List Tree) (params : Pairs) (scope : List Tree) (h : Reached)
    (r : Remaining) (g : Tree) (ws old : List Waiting)
    → record { rest = r; value = g } ∷ ws ≡ old
    → stopped h ≡ stop docs params (steps_in r) scope g
    → length (flat_map (tally_of docs params scope) (reached_waiting h ++ ws)) < length
    (flat_map (tally_of docs params scope) old)
turn_marks docs params scope h r g ws old same is =
    let f = tally_of docs params scope in
    let rest = flat_map f ws in
    let here : flat_map f (reached_waiting h ++ ws) ≡ tally docs params (steps_in r) scope g ++
    rest =
    flat_map-append f (reached_waiting h) ws
    ∙ ap (λ (ks : List Key). ks ++ rest) (reached_marks docs params scope h
    ∙ (ap (stop_tally docs params scope) is ∙ stop_marks docs params (steps_in r) scope g)) in
    let there : flat_map f old ≡ All ∷ (tally docs params (steps_in r) scope g ++ rest) = ap
    (flat_map f) (sym same) in
    omega (arith, ap length here, ap length there)

pub turn_value : (docs : List Tree) (params : Pairs) (scope : List Tree) (h : Reached)
    (r : Remaining) (g : Tree) (ls : List Level)
    → stopped h ≡ stop docs params (steps_in r) scope g
    → unwound (rest_of docs params scope) ls (reached_value (rest_of docs params scope) h) ≡
    unwound (rest_of docs params scope) ls (rest_of docs params scope r g)
turn_value docs params scope h r g ls is =
    ap (unwound (rest_of docs params scope) ls) (reached_is docs params scope h
    ∙ (ap (stop_value docs params scope) is ∙ stop_gives docs params (steps_in r) scope g))

pub turn_fits : (n : ℕ) (h : Reached) (r : Remaining) (g : Tree) (ws old : List Waiting)
    → wait r g ∷ ws ≡ old → AllFit n old
    → ReachedFits (steps_weight (steps_in r)) h → AllFit n (reached_waiting h ++ ws)
turn_fits n h r g ws old same fit here =
    let both : AllFit n (wait r g ∷ ws) = subst (AllFit n) (sym same) fit in
    fit_join n (reached_waiting h) ws
    (fit_reached n h (fits_wider (steps_weight (steps_in r)) n h both.0.1 here)) both.1

-- nothing is left to do
pub done_order : (t : Task) (new : List Level) (g : Got) (old : List Waiting) → t ≡ Done g
    → Ended t new → task_waiting t ++ levels_waiting new ≡ old → old ≡ []
done_order t new g old is ended same =
    let e : new ≡ [] = subst (λ (u : Task). Ended u new) is ended in
    sym same ∙ (ap (λ (u : Task). task_waiting u ++ levels_waiting new) is ∙ ap levels_waiting e)

pub done_value : (rest : Remaining → Tree → Tree) (t : Task) (new : List Level) (g : Got)
    (v : Tree) → t ≡ Done g → Ended t new → unwound rest new (task_value rest t) ≡ v → got g ≡ v
done_value rest t new g v is ended same =
    let e : new ≡ [] = subst (λ (u : Task). Ended u new) is ended in
    sym (ap (λ (ls : List Level). unwound rest ls (got g)) e)
    ∙ (ap (λ (u : Task). unwound rest new (task_value rest u)) (sym is) ∙ same)

pub done_looks : (docs : List Tree) (params : Pairs) (scope : List Tree) (k0 k1 : List Key)
    (old : List Waiting) → old ≡ []
    → k1 ++ flat_map (looked_of docs params scope) old ≡ k0 → k1 ≡ k0
done_looks docs params scope k0 k1 old none is =
    sym (append-nil k1)
    ∙ (ap (λ (ws : List Waiting). k1 ++ flat_map (looked_of docs params scope) ws) (sym none)
    ∙ is)

-- what a rest begins with
pub first_value : (docs : List Tree) (params : Pairs) (scope : List Tree) (h : Reached)
    (ls : List Level) → ls ≡ []
    → unwound (rest_of docs params scope) ls (reached_value (rest_of docs params scope) h) ≡
    stop_value docs params scope (stopped h)
first_value docs params scope h ls none =
    ap (λ (xs : List Level). unwound (rest_of docs params scope) xs
    (reached_value (rest_of docs params scope) h)) none ∙ reached_is docs params scope h

pub first_looks : (docs : List Tree) (params : Pairs) (scope : List Tree) (h : Reached)
    (ls : List Level) → ls ≡ []
    → flat_map (looked_of docs params scope) (reached_waiting h ++ levels_waiting ls) ≡
    stop_looked docs params scope (stopped h)
first_looks docs params scope h ls none =
    ap (λ (xs : List Level). flat_map (looked_of docs params scope)
    (reached_waiting h ++ levels_waiting xs)) none
    ∙ (ap (flat_map (looked_of docs params scope)) (append-nil (reached_waiting h))
    ∙ reached_looks docs params scope h)

pub first_fits : (n : ℕ) (h : Reached) (ls : List Level) → ls ≡ [] → ReachedFits n h
    → AllFit n (reached_waiting h ++ levels_waiting ls)
first_fits n h ls none fits =
    subst (λ (xs : List Level). AllFit n (reached_waiting h ++ levels_waiting xs)) (sym none)
    (fit_join n (reached_waiting h) [] (fit_reached n h fits) tt)
