use Rattle.std.proofs.Common.{◌≡◌, true, Option, Some, option_map, sym, ap, subst, ◌∙◌}
use Rattle.std.specs.Prelude.{IfSome}
use Rattle.cs_value.specs.Same.{same_tree}
use Rattle.cs_value.specs.View.{tree, list_tree}
use Rattle.cs_jsonmatch.specs.Places.{places}
use Rattle.cs_jsonmatch.specs.Verdict.{path_verdict}
use Rattle.cs_jsonmatch.specs.View.{locations, path}
use Rattle.cs_alter.specs.Alterations.{altered, side}
use Rattle.cs_patch.specs.Readings.{put_by}
use Rattle.cs_patch.specs.declared.entries.Lists.{Lists}
use Rattle.cs_patch.proofs.Inserting.{put_refused, put_answers}
use Rattle.cs_patch.proofs.insert.put_into_lists.Goals as goal

pub returns-in_default : goal.returns-in_default
returns-in_default c =
    let e = c.args.entry.now in
    let v = tree c.args.val.now in
    put_refused (side e.side) (list_tree e.items.now.items) e.text.now (path_verdict e.text.now) v
    (e.is_read v ∙ ap (λ (o : Option Lists). Some (option_map (λ w. places (path w.parents) v) o)) c.in_default.is)

pub returns : goal.returns
returns c =
    let e = c.args.entry.now in
    let v = tree c.args.val.now in
    let items = list_tree e.items.now.items in
    let verdict = path_verdict e.text.now in
    let at = e.is_read v
    ∙ ap (λ (o : Option Lists). Some (option_map (λ w. places (path w.parents) v) o)) c.in-Some.is
    ∙ ap (λ ls. Some (Some ls)) (sym (ap locations c.deref.ensures.value ∙ c.in_ok-places.ensures)) in
    put_answers (side e.side) items e.text.now verdict v (tree c.put_places.new.val) c.put_places.result
    (locations c.deref.result.now) (altered c.in-Some.lists.alteration) at
    (λ t. subst (λ (o : Option Lists). IfSome o (λ w. same_tree (altered w.alteration t) (put_by (side e.side) items verdict t) ≡ true)) c.in-Some.is (e.is_put t))
    (c.put_places.ensures e.text.now)
