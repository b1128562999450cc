use Rattle.cs_value.specs.View.{list_tree}
use Rattle.cs_alter.proofs.Members.{on_ok}
use Rattle.cs_alter.proofs.Puts.{replaced}
use Rattle.cs_alter.proofs.insert.put_beside.Goals as goal

pub returns-in-Replace : goal.returns-in-Replace
returns-in-Replace c =
    rw c.in-Replace.is (on_ok c.put_instead.result _ _
    (λ h. replaced c.args.positions.now c.in-Some.first.now c.in-Some.more.now
    (list_tree c.args.new.now) (list_tree c.args.items.now.items)
    (list_tree c.put_instead.new.items.items) c.in-Some.ensures.cases.0 h)
    c.put_instead.ensures)
