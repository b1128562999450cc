use Rattle.std.proofs.Common.{Some, ap, sym, ◌∙◌}
use Rattle.cs_value.specs.View.{tree}
use Rattle.cs_jsonmatch.specs.Verdict.{path_verdict}
use Rattle.cs_jsonmatch.specs.View.{locations}
use Rattle.cs_patch.proofs.Seeing.{count_answers}
use Rattle.cs_patch.proofs.count.count_at.Goals as goal

pub returns : goal.returns
returns c =
    let e = c.args.entry.now in
    let v = tree c.args.val.now in
    count_answers e.text.now c.args.change (path_verdict e.text.now) v
    (tree c.count_places.new.val) c.count_places.result (locations c.deref.result.now)
    (e.is_read v ∙ ap Some (sym (ap locations c.deref.ensures.value ∙ c.in_ok-places.ensures)))
    (c.count_places.ensures e.text.now)
