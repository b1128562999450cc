use Rattle.std.proofs.Common.{◌≡◌, [], map, ap, subst, ◌∙◌}
use Rattle.cs_value.specs.View.{tree}
use Rattle.cs_jsonmatch.specs.View.{locations}
use Rattle.cs_alter.specs.Within.{given}
use Rattle.cs_targets.specs.Targets.{targets_from}
use Rattle.cs_targets.specs.Seen.{seen, seen_of, outer_seen, are_standing}
use Rattle.cs_patch.specs.Outcomes.{Answers, outcome_of}
use Rattle.cs_patch.specs.declared.refusal.Ask.TheVariants as ask
use Rattle.cs_patch.proofs.Deep.{outer_standing}
use Rattle.cs_patch.proofs.Giving.{seen_all, same_standing}
use Rattle.cs_patch.proofs.set.set_from.Goals as goal

pub give_each-requires : goal.give_each-requires
give_each-requires c =
    let v = tree c.args.val.now in
    let ns = c.args.names.now in
    let ls = locations c.args.places.now in
    same_standing v [] ns c.in_ok-outer.outer.items
    ∙ ap (are_standing v) (c.in_ok-outer.ensures ns
    ∙ ap outer_seen (ap (map (seen ns)) c.deref.ensures.value ∙ c.in_ok-found.ensures))
    ∙ outer_standing v ns ls

pub returns : goal.returns
returns c = λ path.
    let v = tree c.args.val.now in
    let ns = c.args.names.now in
    let is : seen_all ns c.in_ok-outer.outer.items
    ≡ outer_seen (map seen_of (targets_from v ns (locations c.args.places.now))) =
    c.in_ok-outer.ensures ns
    ∙ ap outer_seen (ap (map (seen ns)) c.deref.ensures.value ∙ c.in_ok-found.ensures) in
    subst (λ xs. Answers path c.give_each.result (tree c.give_each.new.val)
    (outcome_of path ask.Free (given ns (tree c.args.new.now)) xs v)) is (c.give_each.ensures path)
