use Rattle.std.proofs.Common.{Ok, Err, arith, subst}
use Rattle.cs_syntax.specs.View.{expression}
use Rattle.cs_grammar.specs.declared.fault.GrammarFault.TheVariants.{Syntax}
use Rattle.cs_grammar.specs.Parsing.{Parses}
use Rattle.cs_grammar.specs.Reading.{expr, Reads, got}
use Rattle.cs_grammar.specs.View.{left}
use Rattle.cs_grammar.proofs.Agreement.{read_spelled, unread, unfinished}
use Rattle.cs_grammar.proofs.Ended.{left_end, left_more, parses_from}
use Rattle.cs_grammar.proofs.Exits.{passed}
use Rattle.cs_grammar.proofs.whole.read.Goals as goal

pub returns-in_err-tree : goal.returns-in_err-tree
returns-in_err-tree c =
    subst (λ z. Parses z c.from_residual.result) c.of-tokens.ensures
    (parses_from c.of-tokens.result _
    (passed _ _ c.in_err-tree.field-0.0 c.from_residual.ensures.1 (λ n. unread n)
    c.in_err-tree.ensures.read))

pub returns : goal.returns
returns c =
    subst (λ z. Parses z (Ok c.in_ok-tree.tree)) c.of-tokens.ensures
    (parses_from c.of-tokens.result (Ok c.in_ok-tree.tree)
    (read_spelled
    (subst (λ z. Reads expr (left c.of-tokens.result 0)
    (got (expression c.in_ok-tree.tree.value) z))
    (left_end c.of-tokens.result c.in_ok-tree.at (omega (arith, c.in_ok-tree.ensures.shorter.1)))
    c.in_ok-tree.ensures.read)))

pub returns-then-at-len : goal.returns-then-at-len
returns-then-at-len c =
    let more = left_more c.of-tokens.result c.in_ok-tree.at (omega arith) in
    subst (λ z. Parses z (Err Syntax)) c.of-tokens.ensures
    (parses_from c.of-tokens.result (Err Syntax)
    (unfinished (subst
    (λ z. Reads expr (left c.of-tokens.result 0) (got (expression c.in_ok-tree.tree.value) z))
    more.2 c.in_ok-tree.ensures.read)))
