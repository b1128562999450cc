use Rattle.std.proofs.Common.{rules, subst, ◌≡◌, ◌<◌, ◌≤◌, ◌∷◌, length, true≢false, refl, arith, ap, sym, ◌∙◌}
use Rattle.cs_value.specs.Tree.{Tree, object}
use Rattle.cs_value.specs.View.{tree, fields}
use Rattle.cs_value.specs.declared.val.Val.{the_lemmas}
use Rattle.cs_value.specs.declared.val.Fields.{out-Fields}
use Rattle.cs_value.specs.Value.{Ascends}
use Rattle.cs_value.proofs.Values.{Ascends-entries_tree}
use Rattle.cs_value.proofs.Views.{fields-out, tree-Obj}
use Rattle.cs_alter.specs.Within.{changed}
use Rattle.cs_alter.specs.Alterations.{altered}
use Rattle.cs_alter.proofs.Members.{on_ok, member_back, no_member}
use Rattle.cs_alter.proofs.Items.{update_item-set, update_item-none, member_step}
use Rattle.cs_alter.proofs.write.+alter.Goals as goal

pub alter_member-returns-in_default : goal.alter_member-returns-in_default
alter_member-returns-in_default t c =
    let f : Tree → Tree = changed c.args.rest.now (altered c.args.alteration.now) in
    no_member c.args.name.now c.as_str.result.now f (fields c.args.object.now) (fields c.take.new.self)
    c.as_str.ensures c.in_default.ensures.taken c.in_default.ensures.left

pub alter_member-returns : goal.alter_member-returns
alter_member-returns t c =
    let f : Tree → Tree = changed c.args.rest.now (altered c.args.alteration.now) in
    let ascends : Ascends (fields c.args.object.now) = subst Ascends (sym (fields-out c.args.object.now))
    (Ascends-entries_tree (out-Fields c.args.object.now).pairs c.len-count.ensures.ordered) in
    on_ok c.set.result _ _
    (λ put. member_back c.args.name.now c.as_str.result.now _ f (tree c.in-Some.inner)
    (tree c.alter.new.val) (fields c.args.object.now) (fields c.take.new.self) _ ascends
    c.as_str.ensures c.in_ok-copy.ensures c.in-Some.ensures.taken c.in-Some.ensures.left
    c.in_ok-alter.ensures put)
    c.set.ensures.put

pub alter_item-returns-in-Some : goal.alter_item-returns-in-Some
alter_item-returns-in-Some t c =
    let xs = c.args.items.now.items in
    let i = c.args.index in
    let f : Tree → Tree = changed c.args.rest.now (altered c.args.alteration.now) in
    let within : i < c.args.items.now.len = c.in-Some.ensures.variant.0 refl in
    let here : i < length xs = omega arith in
    on_ok c.alter.result _ _ (λ h. update_item-set xs i f c.in-Some.inner.now c.alter.new.val here (h ∙ ap (λ v. f (tree v)) c.in-Some.ensures.value)) c.alter.ensures

pub alter_item-returns-in-None : goal.alter_item-returns-in-None
alter_item-returns-in-None t c =
    let xs = c.args.items.now.items in
    let f : Tree → Tree = changed c.args.rest.now (altered c.args.alteration.now) in
    let out : c.args.index < c.args.items.now.len → ⊥ = λ h. true≢false (sym (c.in-None.ensures.variant.1 h)) in
    let past : length xs ≤ c.args.index = omega arith in
    update_item-none xs c.args.index f past

pub alter-returns-in-Obj : goal.alter-returns-in-Obj
alter-returns-in-Obj t c =
    let at = c.in-Some.ensures.cases.0 ∙ ap (λ p. p ∷ c.in-Some.rest.now) c.in-Name.is in
    let before : tree c.args.val.now ≡ object (fields c.in-Obj.object) = rw c.in-Obj.is (tree-Obj c.in-Obj.object) in
    on_ok c.alter_member.result _ _
    (λ h.
    let step : object (fields c.alter_member.new.object) ≡ changed c.args.location.now (altered c.args.alteration.now) (tree c.args.val.now) =
    rw before (member_step c.args.location.now c.in-Name.name c.in-Some.rest.now (altered c.args.alteration.now) (fields c.in-Obj.object) _ at (rw c.in-Obj.object-is at h)) in
    rw (← step) (search (rules, the_lemmas)))
    c.alter_member.ensures
