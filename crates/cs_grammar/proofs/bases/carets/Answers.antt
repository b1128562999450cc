use Rattle.std.proofs.Common.{arith, sym}
use Rattle.cs_grammar.proofs.Steps.{reads_carets_end}
use Rattle.cs_grammar.proofs.Exits.{reads_caret_more}
use Rattle.cs_grammar.proofs.bases.carets.Goals as goal

pub loop-rest-preserved : goal.loop-rest-preserved
loop-rest-preserved c =
    record {
      from = omega (arith, c.in-Some.ensures.next.0);
      to = c.in-Some.ensures.next.1;
      few = omega (
        arith,
        c.in-Some.ensures.next.0,
        c.loop-rest.invariant.few,
        c.loop-rest.invariant.from,
      );
      reads = λ o h. c.loop-rest.invariant.reads o
          (reads_caret_more _ (sym c.in-Some.ensures.same) h);
    }

pub returns-clause-read : goal.returns-clause-read
returns-clause-read c =
    c.loop-rest.invariant.reads _ (reads_carets_end (sym c.in_default.ensures.same))
