use Rattle.std.proofs.Common.{◌≡◌, ◌∙◌, sym, true, false}
use lib.Pointwise.{pointwise}
use lib.Dec.{eqb}
use Rattle.cs_io.proofs.Finding.{found_here, found_later}
use Rattle.cs_io.proofs.held.find.Goals as goal

pub returns-then-eq : goal.returns-then-eq
returns-then-eq c =
    let same : pointwise eqb c.args.name.now c.file-item.result.0 ≡ true = rw c.as_str.ensures at (sym c.eq.ensures ∙ c.if-eq.true) in
    sym (c.loop-file.invariant ∙ found_here c.args.name.now c.args.files.now c.loop-file.file-index c.file-item.result c.loop-file-test.true c.file-item.is same)

pub loop-file-preserved : goal.loop-file-preserved
loop-file-preserved c =
    let other : pointwise eqb c.args.name.now c.file-item.result.0 ≡ false = rw c.as_str.ensures at (sym c.eq.ensures ∙ c.if-eq.false) in
    found_later c.args.name.now c.args.files.now c.loop-file.file-index c.file-item.result c.loop-file-test.true c.file-item.is other c.loop-file.invariant
