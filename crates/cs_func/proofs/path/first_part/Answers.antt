use Rattle.std.proofs.Common.{◌+◌, ◌∷◌, take, ap, sym, ◌∙◌, arith}
use Rattle.std.specs.List.{list_any}
use Rattle.std.proofs.lemmas.List.{take_all, take_rest}
use Rattle.cs_func.specs.PathPattern.{is_dot}
use Rattle.cs_func.specs.Segments.{segments}
use Rattle.cs_func.proofs.Runs.{split-at, split-none}
use Rattle.cs_func.proofs.path.first_part.Goals as goal

pub returns-then-byte-eq46-clause-split : goal.returns-then-byte-eq46-clause-split
returns-then-byte-eq46-clause-split c =
    let xs = c.args.bytes.now in
    let i = c.loop-i.i in
    split-at xs i 0 (omega arith) c.loop-i.invariant (ap is_dot c.if-byte-eq46.true) ∙ ap (λ ys. take i xs ∷ segments ys) (sym (take_rest xs (i + 1)))

pub returns-clause-split : goal.returns-clause-split
returns-clause-split c = split-none c.args.bytes.now (ap (list_any is_dot) (sym (take_all c.loop-i.i c.args.bytes.now (omega arith))) ∙ c.loop-i.invariant)
