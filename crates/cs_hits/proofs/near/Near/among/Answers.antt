use Rattle.std.proofs.Common.{◌≡◌, ◌∙◌, ◌+◌, ◌/◌, ℕ, ap, subst, sym, map, option_map, Option, Some, arith, Vec, Global}
use Rattle.std.specs.Prelude.{filter, IfSome}
use Rattle.cs_value.specs.View.{tree, fields}
use Rattle.cs_value.specs.declared.val.Val.{Val}
use Rattle.cs_syntax.specs.Queries.{expression_of}
use Rattle.cs_view.specs.View.{document_of}
use Rattle.cs_view.specs.declared.doc.Doc.{Doc}
use Rattle.cs_window.specs.Window.{is_near, keys_at}
use Rattle.cs_hits.proofs.Nearing.{bounds_at}
use Rattle.cs_hits.proofs.near.Near.among.Goals as goal

pub returns : goal.returns
returns c =
    let e = expression_of c.args.query.now in let ps = fields c.args.params.now in let ds = map document_of c.args.docs.now in
    let many = c.in-Some.many in
    let place : ℕ = many + many / 2 + 4 in
    let at : keys_at e ps ds place ≡ Some (map tree c.in-Some-2.bound.items)
    = sym c.in_ok-bound.ensures.bound ∙ ap (λ (o : Option (Vec Val Global × Vec Doc Global)). option_map (λ x. map tree x.0.items) o) c.in-Some-2.is in
    record {
      near = subst (λ (o : Option (Vec Val Global × Vec Doc Global)). IfSome o (λ x. map document_of x.1.items ≡ filter (is_near e ps (map tree x.0.items)) ds)) c.in-Some-2.is c.in_ok-bound.ensures.near;
      bound = bounds_at c.place_bounds_window.ensures e ps ds place many (map tree c.in-Some-2.bound.items) c.in-Some.ensures.many (omega arith) at;
      place = place;
      at = at;
    }
