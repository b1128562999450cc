use Rattle.std.proofs.Common.{◌≡◌, ◌∙◌, ap, arith}
use Rattle.cs_shelf.proofs.Standing.{ascending-documents}
use Rattle.cs_index.specs.View.{store_of}
use Rattle.cs_working.specs.Counted.{standing_among}
use Rattle.cs_working.specs.Working.{base}
use Rattle.cs_working.proofs.Counting.{among-le, counted_working}
use Rattle.cs_working.proofs.working.Working.touched_in_store.Goals as goal

pub loop-id-init : goal.loop-id-init
loop-id-init c =
    let self = c.args.self.now in
    let all : standing_among (base self) c.into_iter-id-iterator.result ≡ standing_among (base self) self.touched.keys =
    ap (standing_among (base self)) (c.into_iter-id-iterator.ensures.into_iter_gives ∙ c.iter-id-items.ensures.rest) in
    record {
      count = omega (arith, all);
      within = among-le (base self) self.touched.keys (ascending-documents (store_of self.store).shelf) c.len-len.ensures.ordered;
      few = (store_of self.store).within;
    }

pub returns-clause-count : goal.returns-clause-count
returns-clause-count c =
    let self = c.args.self.now in
    let all = counted_working self c.len-len.ensures.ordered in
    let left : standing_among (base self) c.loop-id.id-iterator ≡ 0 = ap (standing_among (base self)) c.in-None.ensures.steps.0 in
    let here = c.loop-id.invariant.count in
    omega (arith, all, left, here)
