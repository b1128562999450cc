use Rattle.std.proofs.Common.{◌≡◌, ◌∙◌, ap, sym, map, Option, Some}
use Rattle.std.specs.Prelude.{filter}
use Rattle.cs_view.specs.Dataset.{ascending}
use Rattle.cs_view.specs.View.{document_of}
use Rattle.cs_window.specs.Window.{is_near}
use Rattle.cs_hits.specs.Hits.{docs_of, settling_of}
use Rattle.cs_hits.specs.Near.{bound_of, near_docs}
use Rattle.cs_hits.specs.declared.near.Near.{Near}
use Rattle.cs_hits.proofs.Nearing.{map_bound, near_left, some_is}
use Rattle.cs_hits.proofs.hits.Hits.remove.Goals as goal

pub remove-requires : goal.remove-requires
remove-requires c =
    let is : c.args.self.now.near ≡ Some c.in-Some.near = cc c.in-Some.is in
    sym (ap (λ (o : Option Near). ascending (settling_of o (docs_of c.args.self.now))) is) ∙ c.requires.settling

pub returns-in-Some-clause-near : goal.returns-in-Some-clause-near
returns-in-Some-clause-near c = λ e ps h.
    let old = docs_of c.args.self.now in
    let n = c.in-Some.near in let m = c.remove.new.self in
    let near : near_docs n ≡ filter (is_near e ps (bound_of n)) old
    = some_is c.args.self.now.near n (λ (x : Near). near_docs x ≡ filter (is_near e ps (bound_of x)) old) (cc c.in-Some.is) h in
    near_left e ps (bound_of n) (near_docs n) (near_docs m) old (map document_of c.remove-gone.new.all.items) c.args.id.now c.requires.ascending near c.remove-gone.ensures.left c.remove.ensures.left
    ∙ ap (λ b. filter (is_near e ps (map_bound b)) (map document_of c.remove-gone.new.all.items)) (sym c.remove.ensures.bound)
