use Rattle.std.proofs.Common.{rules, ◌≡◌, ◌∙◌, ap}
use Rattle.cs_value.specs.Tree.{list, trees}
use Rattle.cs_value.specs.View.{tree, list_tree}
use Rattle.cs_value.specs.declared.val.Val.{the_lemmas}
use Rattle.cs_value.proofs.Views.{tree-List}
use Rattle.cs_jsonmatch.specs.View.{locations, step_of, path}
use Rattle.cs_alter.specs.Alterations.{side, inserted_by}
use Rattle.cs_alter.proofs.Members.{on_ok}
use Rattle.cs_alter.proofs.Puts.{put_by_step}
use Rattle.cs_alter.proofs.insert.insert_here.Goals as goal

pub returns-in-List : goal.returns-in-List
returns-in-List c =
    let before : tree c.args.val.now ≡ list (trees (list_tree c.in-List.items.items)) = rw c.in-List.is (tree-List c.in-List.items) in
    on_ok c.insert_items.result _ _
    (λ h.
    let step : list (trees (list_tree c.insert_items.new.items.items)) ≡ inserted_by (side c.args.insertion.now.side) (path c.args.insertion.now.last) (list_tree c.args.insertion.now.items.items) (tree c.args.val.now) =
    put_by_step (side c.args.insertion.now.side) (step_of c.in-Some.step.now) (path c.args.insertion.now.last) c.deref-in-List.result.now (locations c.deref.result.now) (list_tree c.args.insertion.now.items.items) _ c.in-List.items.items (tree c.args.val.now)
    c.in-Some.ensures before (ap locations c.deref.ensures.value ∙ c.in_ok-places.ensures) (c.deref-in-List.ensures.value ∙ c.in_ok-positions.ensures) (rw c.in-List.items-is at h) in
    rw (← step) (search (rules, the_lemmas)))
    c.insert_items.ensures
