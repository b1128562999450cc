use Rattle.std.proofs.Common.{rules}
use Rattle.cs_order.proofs.Sorts.{in-ranks}
use Rattle.cs_order.proofs.ranks.sorted.Goals as goal

pub returns-in-Ok : goal.returns-in-Ok
returns-in-Ok c = in-ranks c.args.directions.now c.args.list.items c.sort_by.new.self.items c.in-Ok.ensures.sorted c.sort_by.ensures.stable (λ a r f' k. search rules)
