use Rattle.std.proofs.Common.{Some, ap, sym, ◌∙◌}
use Rattle.cs_value.specs.View.{tree}
use Rattle.cs_jsonmatch.specs.Verdict.{path_verdict}
use Rattle.cs_jsonmatch.specs.View.{locations}
use Rattle.cs_patch.proofs.Seeing.{unset_answers}
use Rattle.cs_patch.proofs.unset.unset_places.Goals as goal

pub returns : goal.returns
returns c =
    let e = c.args.entry.now in
    let v = tree c.args.val.now in
    unset_answers e.text.now (path_verdict e.text.now) v (tree c.remove_places.new.val)
    c.remove_places.result (locations c.deref.result.now)
    (e.is_read v ∙ ap Some (sym (ap locations c.deref.ensures.value ∙ c.in_ok-places.ensures)))
    (c.remove_places.ensures e.text.now)
