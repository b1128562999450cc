use Rattle.std.proofs.Common.{arith}
use Rattle.std.proofs.lemmas.List.{length-take, length-drop}
use Rattle.cs_io.proofs.Bytes.{appends_more}
use Rattle.cs_io.proofs.sink.write_whole.Goals as goal

pub loop-done-preserved : goal.loop-done-preserved
loop-done-preserved g c = record {
  within = omega (arith, simp (length-take, length-drop) at c.in-Ok.ensures.bound);
  so_far = appends_more _ _ _ c.args.bytes.now c.loop-done.done c.in-Ok.count c.loop-done.invariant.so_far c.in-Ok.ensures.appends;
  later = omega (arith, c.write.ensures.cause.later);
}
