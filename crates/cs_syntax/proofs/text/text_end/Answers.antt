use Rattle.std.proofs.Common.{sym, ◌∙◌}
use Rattle.cs_syntax.proofs.Quoted.{text_end-none, text_end-more}
use Rattle.cs_syntax.proofs.text.text_end.Goals as goal

pub returns-in_err-end : goal.returns-in_err-end
returns-in_err-end c =
    c.from_residual.ensures
    ∙ sym (text_end-none c.args.bytes.now _ c.loop-end.end c.loop-end-test.true
    c.if-bytes-end.false (sym c.in_err-end.ensures.same))
    ∙ c.loop-end.invariant.same

pub loop-end-preserved : goal.loop-end-preserved
loop-end-preserved c = record {
  same = text_end-more c.args.bytes.now _ c.loop-end.end _ c.loop-end-test.true
      c.if-bytes-end.false (sym c.in_ok-end.ensures.same) ∙ c.loop-end.invariant.same;
}
