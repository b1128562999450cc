use Rattle.std.proofs.Common.{◌≡◌, true, Some, reverse, sym, ap, subst, ◌∙◌}
use Rattle.std.specs.Prelude.{IfSome}
use Rattle.cs_value.specs.Same.{same_tree}
use Rattle.cs_value.specs.View.{list_tree}
use Rattle.cs_jsonmatch.specs.Verdict.{PathReading, spelled, path_verdict}
use Rattle.cs_jsonmatch.specs.View.{path}
use Rattle.cs_alter.specs.Alterations.{altered, side}
use Rattle.cs_patch.specs.Readings.{lists_at, put_last, put_by}
use Rattle.cs_patch.proofs.Inserting.{same_put}
use Rattle.cs_patch.proofs.read.insert_at.Goals as goal

pub invariant_of-result : goal.invariant_of-result
invariant_of-result c =
    let i = c.in-Some.insert in
    let new = list_tree i.items.items in
    let lists = c.in_ok-lists.lists in
    let steps = reverse (path c.in_ok-path.path) in
    let is : path_verdict c.as_str-2.result.now ≡ spelled (path c.in_ok-path.path) =
    ap path_verdict (c.as_str-2.ensures ∙ sym c.as_str.ensures) ∙ c.in_ok-path.ensures.read in
    record {
      is_read = λ v. ap (λ r. lists_at r v) is ∙ ap Some (c.in_ok-lists.ensures.before v);
      is_put = λ t. subst (λ (r : PathReading). IfSome lists (λ w. same_tree (altered w.alteration t) (put_by (side i.side) new r t) ≡ true)) (sym is)
          (same_put lists t (put_last (side i.side) new steps t) (c.in_ok-lists.ensures.put t));
    }
