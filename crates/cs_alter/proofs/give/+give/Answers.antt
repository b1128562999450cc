use Rattle.std.proofs.Common.{◌∙◌}
use Rattle.cs_value.proofs.Views.{tree-Obj}
use Rattle.cs_alter.proofs.Gifts.{gift_step}
use Rattle.cs_alter.proofs.give.+give.Goals as goal

pub returns : goal.returns
returns t c =
    tree-Obj c.set-2.new.self
    ∙ gift_step _ _ _ _ _ _ _ _ _ _ _ _ _ _ c.in-Some.ensures.cases.0 c.in_ok-copy-2.ensures c.in_ok-copy-3.ensures
    c.object_of-object.ensures c.in_ok-old.ensures.replaced c.in_ok-old.ensures.put c.or_null.ensures c.in_ok-inner.ensures c.in_ok-set-2.ensures.put
