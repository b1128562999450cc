use Rattle.std.proofs.Common.{◌≡◌, ◌++◌, ◌∷◌, [], cond, ◌<◌, length, get_or, false, refl, sym, ap, ◌∙◌, arith}
use Rattle.std.specs.List.{list_any}
use Rattle.cs_value.specs.Tree.{list, object, trees}
use Rattle.cs_value.specs.View.{tree, fields, list_tree}
use Rattle.cs_value.proofs.Views.{Entry, tree-List, tree-Obj, walked}
use Rattle.cs_jsonmatch.specs.Places.{selects, trails, item_trails, pair_trails}
use Rattle.cs_jsonmatch.specs.View.{path_of}
use Rattle.cs_jsonmatch.specs.Walk.{next, reached}
use Rattle.cs_jsonmatch.specs.View.{locations}
use Rattle.cs_jsonmatch.specs.declared.places.Part.TheVariants.{Name, Pos}
use Rattle.cs_jsonmatch.proofs.Walks.{on_ok, arrived, alone, at_end, trails-Null, trails-Bool, trails-Num, trails-Text, item_step, pair_step, popped, none_reached}
use Rattle.cs_jsonmatch.proofs.walk.+walk.Goals as goal

pub walk-returns-in-List-clause-found : goal.walk-returns-in-List-clause-found
walk-returns-in-List-clause-found t c =
    let above = c.args.above.now.items in
    let ws = c.args.waiting.now in
    let ss = c.args.steps.now in
    let v = list (trees (list_tree c.in-List.items.items)) in
    let ls = item_trails 0 (trees (list_tree c.in-List.items.items)) in
    rw (c.in-List.is, tree-List c.in-List.items)
    (on_ok c.walk_items.result (locations c.walk_items.new.found.items ≡ locations c.arrive.new.found.items ++ reached above ws (path_of ss) v ls) _
    (λ q. arrived (locations c.args.found.now.items) (locations c.arrive.new.found.items) _ c.deref.result.now above ws ss v ls c.deref.ensures.value (c.in_ok-arrive.ensures ∙ ap (λ b. locations c.args.found.now.items ++ cond b (c.deref.result.now ∷ []) []) c.path_ends.ensures) q)
    c.walk_items.ensures.found)

pub walk-returns-in-Obj-clause-found : goal.walk-returns-in-Obj-clause-found
walk-returns-in-Obj-clause-found t c =
    let above = c.args.above.now.items in
    let ws = c.args.waiting.now in
    let ss = c.args.steps.now in
    let v = object (fields c.in-Obj.object) in
    let ls = pair_trails (fields c.in-Obj.object) in
    rw (c.in-Obj.is, tree-Obj c.in-Obj.object)
    (on_ok c.walk_pairs.result (locations c.walk_pairs.new.found.items ≡ locations c.arrive.new.found.items ++ reached above ws (path_of ss) v ls) _
    (λ q. arrived (locations c.args.found.now.items) (locations c.arrive.new.found.items) _ c.deref.result.now above ws ss v ls c.deref.ensures.value (c.in_ok-arrive.ensures ∙ ap (λ b. locations c.args.found.now.items ++ cond b (c.deref.result.now ∷ []) []) c.path_ends.ensures) q)
    c.walk_pairs.ensures.found)

pub walk-returns-in-Null : goal.walk-returns-in-Null
walk-returns-in-Null t c = record {
  found = alone (locations c.args.found.now.items) (locations c.arrive.new.found.items) c.deref.result.now c.args.above.now.items c.args.waiting.now c.args.steps.now (tree c.args.val.now) [] c.deref.ensures.value (c.in_ok-arrive.ensures ∙ ap (λ b. locations c.args.found.now.items ++ cond b (c.deref.result.now ∷ []) []) c.path_ends.ensures) (rw c.in-Null.is (trails-Null)) refl;
  above = refl;
}

pub walk-returns-in-Bool : goal.walk-returns-in-Bool
walk-returns-in-Bool t c = record {
  found = alone (locations c.args.found.now.items) (locations c.arrive.new.found.items) c.deref.result.now c.args.above.now.items c.args.waiting.now c.args.steps.now (tree c.args.val.now) [] c.deref.ensures.value (c.in_ok-arrive.ensures ∙ ap (λ b. locations c.args.found.now.items ++ cond b (c.deref.result.now ∷ []) []) c.path_ends.ensures) (rw c.in-Bool.is (trails-Bool c.in-Bool.field-0)) refl;
  above = refl;
}

pub walk-returns-in-Num : goal.walk-returns-in-Num
walk-returns-in-Num t c = record {
  found = alone (locations c.args.found.now.items) (locations c.arrive.new.found.items) c.deref.result.now c.args.above.now.items c.args.waiting.now c.args.steps.now (tree c.args.val.now) [] c.deref.ensures.value (c.in_ok-arrive.ensures ∙ ap (λ b. locations c.args.found.now.items ++ cond b (c.deref.result.now ∷ []) []) c.path_ends.ensures) (rw c.in-Num.is (trails-Num c.in-Num.field-0)) refl;
  above = refl;
}

pub walk-returns-in-Text : goal.walk-returns-in-Text
walk-returns-in-Text t c = record {
  found = alone (locations c.args.found.now.items) (locations c.arrive.new.found.items) c.deref.result.now c.args.above.now.items c.args.waiting.now c.args.steps.now (tree c.args.val.now) [] c.deref.ensures.value (c.in_ok-arrive.ensures ∙ ap (λ b. locations c.args.found.now.items ++ cond b (c.deref.result.now ∷ []) []) c.path_ends.ensures) (rw c.in-Text.is (trails-Text c.in-Text.field-0)) refl;
  above = refl;
}

pub walk_items-loop-k-preserved : goal.walk_items-loop-k-preserved
walk_items-loop-k-preserved t c =
    let ws = c.args.waiting.now in
    let ss = c.args.steps.now in
    let xs = c.args.items.now.items in
    let i = c.loop-k.k in
    let x = c.item-item.result in
    let above = c.loop-k.above.items in
    let found = locations c.loop-k.found.items in
    let at : x ≡ get_or xs i x = c.item-item.is ∙ ap (λ ys. get_or ys i x) c.deref-item-items.ensures.value in
    let here : i < length xs = omega arith in
    let count : c.len-count.result ≡ length xs = omega arith in
    let next_is = c.in_ok-below.ensures ∙ ap (λ n. next (selects n (Pos i) (tree x)) false ws (path_of ss)) count in
    let walked = c.in_ok-walk.ensures.found ∙ ap (λ a. found ++ reached a c.deref.result.now (path_of ss) (tree x) (trails (tree x))) c.in_ok-push.ensures.items in
    let back = popped above c.walk.new.above.items c.pop.new.self.items (Pos i) c.walk.new.above.len (c.in_ok-walk.ensures.above ∙ c.in_ok-push.ensures.items) (omega arith) c.pop.ensures.rest in (
      rw back (item_step found (locations c.walk.new.found.items) above ws c.deref.result.now (path_of ss) xs i x here at (c.deref.ensures.value ∙ next_is) walked ∙ c.loop-k.invariant.0),
      back ∙ c.loop-k.invariant.1,
    )

pub walk_pairs-loop-name-preserved : goal.walk_pairs-loop-name-preserved
walk_pairs-loop-name-preserved t c =
    let l = c.loop-name in
    let ws = c.args.waiting.now in
    let ss = c.args.steps.now in
    let e : Entry = (c.in-Some.name.now, c.in-Some.member.now) in
    let name = c.in_ok-copy_of.field-0 in
    let name_is = c.in_ok-copy_of.ensures in
    let above = l.above.items in
    let found = locations l.found.items in
    let below_is = c.in_ok-below.ensures ∙ ap (λ m. next (selects 0 (Name m) (tree e.1)) false ws (path_of ss)) (sym name_is) in
    let walked = c.in_ok-walk.ensures.found ∙ ap (λ a. found ++ reached a c.deref.result.now (path_of ss) (tree e.1) (trails (tree e.1))) c.in_ok-push.ensures.items in
    let back = popped above c.walk.new.above.items c.pop.new.self.items (Name name) c.walk.new.above.len (c.in_ok-walk.ensures.above ∙ c.in_ok-push.ensures.items) (omega arith) c.pop.ensures.rest in (
      rw back (pair_step found (locations c.walk.new.found.items) above ws c.deref.result.now (path_of ss) c.args.object.now l.name-iterator c.next.new.self name e c.in-Some.ensures.steps name_is (c.deref.ensures.value ∙ below_is) walked ∙ l.invariant.0),
      back ∙ l.invariant.1,
    )

pub walk_items-loop-k-preserved-then-not-some_wait_below : goal.walk_items-loop-k-preserved-then-not-some_wait_below
walk_items-loop-k-preserved-then-not-some_wait_below t c =
    let ms = path_of c.args.steps.now in
    let ws = c.args.waiting.now in
    let xs = c.args.items.now.items in
    let i = c.loop-k.k in
    let x = c.item-item.result in
    let above = c.loop-k.above.items in
    let found = locations c.loop-k.found.items in
    let at : x ≡ get_or xs i x = c.item-item.is ∙ ap (λ ys. get_or ys i x) c.deref-item-items.ensures.value in
    let here : i < length xs = omega arith in
    let count : c.len-count.result ≡ length xs = omega arith in
    let below = next (selects (length xs) (Pos i) (tree x)) false ws ms in
    let none : list_any (λ b. b) below ≡ false =
    sym (ap (λ n. list_any (λ b. b) (next (selects n (Pos i) (tree x)) false ws ms)) count)
    ∙ sym c.some_wait_below.ensures ∙ c.if-not-some_wait_below.true in
    let walked = none_reached found (above ++ Pos i ∷ []) below ms (tree x) (trails (tree x)) none in (
      item_step found found above ws below ms xs i x here at refl walked ∙ c.loop-k.invariant.0,
      c.loop-k.invariant.1,
    )

pub walk_pairs-loop-name-preserved-then-not-some_wait_below : goal.walk_pairs-loop-name-preserved-then-not-some_wait_below
walk_pairs-loop-name-preserved-then-not-some_wait_below t c =
    let l = c.loop-name in
    let e : Entry = (c.in-Some.name.now, c.in-Some.member.now) in
    let ms = path_of c.args.steps.now in
    let ws = c.args.waiting.now in
    let above = l.above.items in
    let found = locations l.found.items in
    let name = c.in-Some.name.now in
    let below = next (selects 0 (Name name) (tree e.1)) false ws ms in
    let none : list_any (λ b. b) below ≡ false = sym c.some_wait_below.ensures ∙ c.if-not-some_wait_below.true in
    let walked = none_reached found (above ++ Name name ∷ []) below ms (tree e.1) (trails (tree e.1)) none in (
      pair_step found found above ws below ms c.args.object.now l.name-iterator c.next.new.self name e c.in-Some.ensures.steps refl refl walked ∙ l.invariant.0,
      l.invariant.1,
    )

pub walk-returns-then-not-goes_on-clause-found : goal.walk-returns-then-not-goes_on-clause-found
walk-returns-then-not-goes_on-clause-found t c =
    at_end (locations c.args.found.now.items) (locations c.arrive.new.found.items) c.deref.result.now c.args.above.now.items c.args.waiting.now c.args.steps.now (tree c.args.val.now)
    c.deref.ensures.value (c.in_ok-arrive.ensures ∙ ap (λ b. locations c.args.found.now.items ++ cond b (c.deref.result.now ∷ []) []) c.path_ends.ensures) (sym c.goes_on.ensures ∙ c.if-not-goes_on.true)

pub walk_pairs-loop-name-init : goal.walk_pairs-loop-name-init
walk_pairs-loop-name-init t c =
    let above = c.args.above.now.items in
    let v = object (fields c.args.object.now) in
    let steps = c.into_iter-name-iterator.ensures.into_iter_gives ∙ c.iter-name-items.ensures.rest in
    let same = ap (λ ps. locations c.args.found.now.items ++ reached above c.args.waiting.now (path_of c.args.steps.now) v (pair_trails ps)) (sym (walked c.args.object.now steps)) in
    (same, refl)
