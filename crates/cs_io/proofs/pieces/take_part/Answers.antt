use Rattle.std.proofs.Common.{arith, ◌≡◌, ◌++◌, take}
use Rattle.std.proofs.lemmas.Grind.{common_steps}
use Rattle.cs_io.proofs.Parting.{long_at, much_at, much_after, whole_at, rest_at}
use Rattle.cs_io.proofs.pieces.take_part.Goals as goal

pub returns-then-in_line-in_source : goal.returns-then-in_line-in_source
returns-then-in_line-in_source c = λ n rest. long_at c.args.piece.now c.line_end-end.result n c.args.taken _ rest c.line_end-end.ensures.within c.line_end-end.ensures.plain c.requires.short (omega arith) (omega arith)

pub returns-then-in_line-end : goal.returns-then-in_line-end
returns-then-in_line-end c = λ n rest. much_at c.args.piece.now c.line_end-end.result n c.args.taken _ rest c.line_end-end.ensures.within c.line_end-end.ensures.plain c.requires.fits (omega arith) (omega arith)

pub returns-then-in_source-end : goal.returns-then-in_source-end
returns-then-in_source-end c = λ n rest. much_at c.args.piece.now c.line_end-end.result n c.args.taken _ rest c.line_end-end.ensures.within c.line_end-end.ensures.plain c.requires.fits (omega arith) (omega arith)

pub returns-then-end-piece : goal.returns-then-end-piece
returns-then-end-piece c =
    let items : c.extend_from_slice.new.self.items ≡ c.args.line.now.items ++ take c.line_end-end.result c.args.piece.now = grind (arith, common_steps) in
    rw items (rest_at c.args.piece.now c.line_end-end.result c.args.taken c.args.line.now.items (omega arith) c.line_end-end.ensures.plain (omega arith) (omega arith))

pub returns-then-in_source-end-2 : goal.returns-then-in_source-end-2
returns-then-in_source-end-2 c = λ n rest.
    let inside = c.line_end-end.ensures.found (omega arith) in
    much_after c.args.piece.now c.line_end-end.result n c.args.taken _ rest (omega arith) c.line_end-end.ensures.plain inside (omega arith) (omega arith)

pub returns : goal.returns
returns c =
    let items : c.extend_from_slice.new.self.items ≡ c.args.line.now.items ++ take c.line_end-end.result c.args.piece.now = grind (arith, common_steps) in
    rw items (whole_at c.args.piece.now c.line_end-end.result c.args.taken c.args.line.now.items (omega arith) c.line_end-end.ensures.plain (c.line_end-end.ensures.found (omega arith)) (omega arith) (omega arith))
