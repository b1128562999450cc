use Rattle.std.proofs.Common.{◌∙◌, ◌++◌, ap, sym, arith}
use Rattle.cs_state.specs.Does.{live_lines}
use Rattle.cs_state.proofs.Listening.{all_told, told_more}
use Rattle.cs_state.proofs.transact.write_answers.Goals as goal

pub loop-answer-preserved : goal.loop-answer-preserved
loop-answer-preserved c = λ told are.
    told_more c.args.line c.loop-answer.out.items c.write_answer.new.out.items
    c.args.answers.now told c.loop-answer.answer-index c.answer-item.result (omega arith)
    are c.answer-item.is c.in_ok-write_answer.ensures
    ∙ c.loop-answer.invariant told are

pub returns : goal.returns
returns c = λ told are.
    sym (all_told c.args.line c.loop-answer.out.items c.args.answers.now told
    c.loop-answer.answer-index (omega arith) are)
    ∙ c.loop-answer.invariant told are
    ∙ ap (λ b. b ++ live_lines c.args.line told) c.in_ok-reserve.ensures.items
