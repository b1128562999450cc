-- Mapped queries over a dataset: their value and what they look up, hit by hit.
use Rattle.std.proofs.Common.{◌≡◌, Bool, true, false, not, ◌&&◌, ◌||◌, List, [], ◌∷◌, ◌++◌, map, refl, ap, ◌∙◌}
use Rattle.std.specs.Prelude.{flat_map}
use Rattle.std.proofs.lemmas.List.{append-nil}
use Rattle.cs_value.specs.Words.{list_of}
use Rattle.cs_value.specs.Tree.{Tree, null, Pairs}
use Rattle.cs_value.proofs.Views.{members-trees}
use Rattle.cs_syntax.specs.Expression.{Expression, Step, attr, deref, each, slice, bracket, project, pipe, Steps, no_steps, more_steps}
use Rattle.cs_view.specs.declared.key.Key.{Key}
use Rattle.cs_plan.specs.Simple.{is_quiet, filter_of, query_key, steps_behind, tail_of}
use Rattle.cs_meaning.specs.Hits.{hits, tail_looked, tail_over}
use Rattle.cs_meaning.specs.Joining.{form, kind, entrance, entered}
use Rattle.cs_meaning.specs.Laws.{AgreeOn}
use Rattle.cs_meaning.specs.Looked.{entered_looked, pipes_looked, query_looked, rest_looked}
use Rattle.cs_meaning.specs.Values.{is_pipe, pipes_value, query_value, rest_value}
use Rattle.cs_meaning.specs.declared.join.Entrance.{Entrance}
use Rattle.cs_meaning.specs.declared.join.Entrance.TheVariants.{Whole, Mapped, Flat}
use Rattle.cs_meaning.proofs.Silent.{both-true}
use Rattle.cs_meaning.proofs.Sound.{rest-sound}
use Rattle.cs_window.specs.Mapped.{has_pipe, is_elementwise, is_mapped, is_piped, maps_each, share, share_looked}
use Rattle.cs_window.specs.Windowed.{is_filtered}
use Rattle.cs_window.proofs.Over.{all-same, from-hits}

abbrev scope : List Tree
scope = null ∷ []

-- ---- the parts of the test
pub mapped-filtered : (e : Expression) → is_mapped e ≡ true → is_filtered e ≡ true
mapped-filtered e h = (both-true (is_filtered e) (is_quiet (filter_of (steps_behind e)) && maps_each (tail_of (steps_behind e))) h).0

quiet-filter : (e : Expression) → is_mapped e ≡ true → is_quiet (filter_of (steps_behind e)) ≡ true
quiet-filter e h =
    (both-true (is_quiet (filter_of (steps_behind e))) (maps_each (tail_of (steps_behind e))) (both-true (is_filtered e) (is_quiet (filter_of (steps_behind e)) && maps_each (tail_of (steps_behind e))) h).1).0

maps-tail : (e : Expression) → is_mapped e ≡ true → maps_each (tail_of (steps_behind e)) ≡ true
maps-tail e h =
    (both-true (is_quiet (filter_of (steps_behind e))) (maps_each (tail_of (steps_behind e))) (both-true (is_filtered e) (is_quiet (filter_of (steps_behind e)) && maps_each (tail_of (steps_behind e))) h).1).1

elementwise : (n : Entrance) → is_elementwise n ≡ true → n ≡ Mapped
elementwise Mapped h = refl
elementwise Whole h = absurd (cc)
elementwise Flat h = absurd (cc)

-- ---- steps among which no piped call stands
neither : (a b : Bool) → not (a || b) ≡ true → (a ≡ false) × (not b ≡ true)
neither true b h = absurd (cc)
neither false b h = (refl, h)

no-pipe : (s : Step) → is_piped (form s) ≡ false → is_pipe s ≡ false
no-pipe (attr w) h = refl
no-pipe deref h = refl
no-pipe each h = refl
no-pipe (slice from to closed) h = refl
no-pipe (bracket e) h = refl
no-pipe (project es) h = refl
no-pipe (pipe name ks) h = absurd (cc)

pipes-keep : (docs : List Tree) (params : Pairs) (ss : Steps) (sc : List Tree) (v : Tree) → not (has_pipe ss) ≡ true → pipes_value docs params ss sc v ≡ v
pipes-keep docs params no_steps sc v h = refl
pipes-keep docs params (more_steps s ss) sc v h =
    let n = neither (is_piped (form s)) (has_pipe ss) h in
    rw (no-pipe s n.0) (pipes-keep docs params ss sc v n.1)

pipes-silent : (docs : List Tree) (params : Pairs) (ss : Steps) (sc : List Tree) (v : Tree) → not (has_pipe ss) ≡ true → pipes_looked docs params ss sc v ≡ []
pipes-silent docs params no_steps sc v h = refl
pipes-silent docs params (more_steps s ss) sc v h =
    let n = neither (is_piped (form s)) (has_pipe ss) h in
    rw (no-pipe s n.0) (pipes-silent docs params ss sc v n.1)

-- ---- the value and the look-ups, document by document
pub mapped-shares : (e : Expression) (params : Pairs) (docs ds : List Tree) → is_mapped e ≡ true
    → (tail_over docs e params ds ≡ list_of (map (share docs e params) ds))
    × (tail_looked docs e params ds ≡ flat_map (share_looked docs e params) ds)
mapped-shares e params docs ds h =
    let ss : Steps = tail_of (steps_behind e) in
    let m = both-true (is_elementwise (entrance (kind ss))) (not (has_pipe ss)) (maps-tail e h) in
    let enters : entrance (kind ss) ≡ Mapped = elementwise (entrance (kind ss)) m.0 in
    let v : Tree = entered (entrance (kind ss)) (rest_value docs params ss scope) (list_of ds) in
    let value : v ≡ list_of (map (share docs e params) ds)
    = ap (λ (n : Entrance). entered n (rest_value docs params ss scope) (list_of ds)) enters
    ∙ ap (λ (ts : List Tree). list_of (map (rest_value docs params ss scope) ts)) (members-trees ds) in
    let keys : entered_looked (entrance (kind ss)) (rest_looked docs params ss scope) (list_of ds) ≡ flat_map (share_looked docs e params) ds
    = ap (λ (n : Entrance). entered_looked n (rest_looked docs params ss scope) (list_of ds)) enters
    ∙ ap (λ (ts : List Tree). flat_map (rest_looked docs params ss scope) ts) (members-trees ds) in (
      pipes-keep docs params ss scope v m.1 ∙ value,
      ap (λ (ks : List Key). entered_looked (entrance (kind ss)) (rest_looked docs params ss scope) (list_of ds) ++ ks) (pipes-silent docs params ss scope v m.1)
          ∙ append-nil (entered_looked (entrance (kind ss)) (rest_looked docs params ss scope) (list_of ds))
          ∙ keys,
    )

pub mapped-hits : (e : Expression) (params : Pairs) (docs : List Tree) → is_mapped e ≡ true
    → (query_value docs params e ≡ list_of (map (share docs e params) (hits e params docs)))
    × (query_looked docs params e ≡ query_key e params ∷ flat_map (share_looked docs e params) (hits e params docs))
mapped-hits e params docs h =
    let f = from-hits e params docs (mapped-filtered e h) (quiet-filter e h) in
    let r = mapped-shares e params docs (hits e params docs) h in
    (f.0 ∙ r.0, f.1 ∙ ap (λ (ks : List Key). query_key e params ∷ ks) r.1)

pub share-settled : (e : Expression) (params : Pairs) (d : Tree) (d1 d2 : List Tree) → AgreeOn (share_looked d1 e params d) d1 d2
    → (share d1 e params d ≡ share d2 e params d) × (share_looked d1 e params d ≡ share_looked d2 e params d)
share-settled e params d d1 d2 h = rest-sound d1 d2 params (tail_of (steps_behind e)) scope d (all-same d1 d2 (share_looked d1 e params d) h)
