use Rattle.std.proofs.Common.{Some, ap, sym, ◌∙◌}
use Rattle.cs_value.specs.View.{tree}
use Rattle.cs_jsonmatch.specs.Verdict.{path_verdict}
use Rattle.cs_jsonmatch.specs.View.{locations}
use Rattle.cs_patch.proofs.Named.{set_answers}
use Rattle.cs_patch.proofs.set.set_places.Goals as goal

pub returns : goal.returns
returns c =
    let e = c.args.entry.now in
    let v = tree c.args.val.now in
    let ls = locations c.deref.result.now in
    set_answers e.text.now (path_verdict e.text.now) (tree e.new.now) v (tree c.set_from.new.val)
    c.set_from.result c.deref-2.result.now ls
    (e.is_read v
    ∙ ap (λ z. Some (z, e.names.items)) (sym (ap locations c.deref.ensures.value ∙ c.in_ok-places.ensures))
    ∙ ap (λ ns. Some (ls, ns)) (sym c.deref-2.ensures.value))
    (c.set_from.ensures e.text.now)
