use Rattle.std.proofs.Common.{ap, sym, arith, ◌+◌, ◌-◌, take, drop}
use Rattle.std.proofs.lemmas.List.{length-take, length-drop}
use Rattle.cs_io.specs.Parts.{EndsLine}
use Rattle.cs_io.proofs.Reading.{shorter, ended_by}
use Rattle.cs_io.proofs.lines.Lines.advance.Goals as goal

pub returns-in-Ok-Ended-clause-step : goal.returns-in-Ok-Ended-clause-step
returns-in-Ok-Ended-clause-step c =
    let is = c.self.view_is in
    let in_piece = rw (c.in-Ok-Ended.field-0-is, c.deref.ensures.value) at c.in-Ok-Ended.ensures in
    let ends : EndsLine c.in-Ok-Ended.used (take (c.self.inside.to - c.self.inside.from) (drop c.self.inside.from c.self.inside.piece.items)) c.self.inside.taken c.args.line.now.items c.take_part.new.line.items = in_piece in
    ended_by c.args.self.now _ c.args.line.now.items c.take_part.new.line.items c.in-Ok-Ended.used (omega (arith, c.self.invariant.2, ends.fits, ends.some)) (ap (λ r. r.which) is) (ap (λ r. r.given + 1) is) (ap (λ r. r.taken + c.in-Ok-Ended.used) is) (ap (λ r. r.ended) is)
    (rw (← is) (sym (shorter c.self.inside.piece.items c.self.inside.from c.self.inside.to c.in-Ok-Ended.used (omega (arith, simp (length-take, length-drop) at ends.within)))))
    (rw (← is) ends)
