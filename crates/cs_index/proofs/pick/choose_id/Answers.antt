use Rattle.std.proofs.Common.{◌≡◌, ◌∙◌, ap, sym, Some}
use Rattle.std.proofs.lemmas.List.Elements.{All-push, All-same}
use Rattle.cs_index.specs.Picking.{wanted, is_hit}
use Rattle.cs_index.proofs.Picked.{one_found}
use Rattle.cs_index.proofs.pick.choose_id.Goals as goal

pub returns-clause-wanted : goal.returns-clause-wanted
returns-clause-wanted c =
    let d = c.args.docs.now in
    let k = c.args.keys.now in
    All-same (λ h. wanted d k h.0.now ≡ Some h.1) c.push.new.self.items _ c.in_ok-push.ensures.items
    (All-push (λ h. wanted d k h.0.now ≡ Some h.1) c.args.hits.now.items (c.args.id, c.in-Some.place) c.requires (sym c.in-Some.ensures))

pub returns-clause-finds : goal.returns-clause-finds
returns-clause-finds c y =
    ap (is_hit y) c.in_ok-push.ensures.items
    ∙ one_found c.args.docs.now c.args.keys.now y (c.args.id, c.in-Some.place) c.args.hits.now.items (sym c.in-Some.ensures)
