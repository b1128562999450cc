use Rattle.std.proofs.Common.{◌∙◌, ◌++◌, ℕ, List, [], Option, option_map, refl, sym, ap, subst, append_assoc}
use Rattle.std.proofs.lemmas.List.{append-nil}
use Rattle.std.specs.Option.{option_to_list}
use Rattle.cs_value.specs.Tree.{Tree}
use Rattle.cs_view.specs.Changes.{Edit}
use Rattle.cs_view.specs.Dataset.{standing}
use Rattle.cs_view.specs.View.{document_of, edit, edits}
use Rattle.cs_shelf.specs.View.{documents}
use Rattle.cs_working.specs.Changed.{IsOneChange}
use Rattle.cs_working.specs.Working.{base}
use Rattle.cs_working.proofs.Keeping.{Kept, kept_between}
use Rattle.cs_working.proofs.working.Working.changes.Goals as goal

pub loop-id-preserved : goal.loop-id-preserved
loop-id-preserved c = λ more kept.
    let self = c.args.self.now in
    let ds : List Tree = base self in
    let put : List Tree = documents self.put in
    let x : List ℕ = c.in-Some.id.now in
    let o : Option Edit = option_map edit c.in_ok-found.found in
    let one : IsOneChange x (standing x ds) (standing x put) o =
    subst (λ (a : Option Tree). IsOneChange x (standing x ds) a o) c.get.ensures (subst (λ (b : Option Tree). IsOneChange x b (option_map (λ d. document_of d.now) c.get.result) o) c.stored.ensures c.in_ok-found.ensures) in
    subst (Kept ds put self.touched.keys) (sym (append_assoc (edits c.loop-id.changes.items) (option_to_list o) more) ∙ ap (λ (es : List Edit). es ++ more) (sym c.in_ok-keep.ensures))
    (c.loop-id.invariant (option_to_list o ++ more) (subst (λ (ids : List (List ℕ)). Kept ds put ids (option_to_list o ++ more)) (sym c.in-Some.ensures.steps) (o, more, one, refl, kept)))

pub returns : goal.returns
returns c =
    let self = c.args.self.now in
    let ds : List Tree = base self in
    let put : List Tree = documents self.put in
    let out : List Edit = edits c.loop-id.changes.items in
    kept_between ds put self.touched.keys out c.len-len.ensures.ordered
    (subst (Kept ds put self.touched.keys) (append-nil out) (c.loop-id.invariant [] (subst (λ (ids : List (List ℕ)). Kept ds put ids []) (sym c.in-None.ensures.steps.0) refl)))
