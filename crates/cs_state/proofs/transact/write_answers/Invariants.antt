use Rattle.std.proofs.Common.{◌≡◌, ◌++◌, List, drop, map}
use Rattle.cs_live.specs.Entries.{said}
use Rattle.cs_live.specs.Lives.{Said, worded}
use Rattle.cs_state.specs.Does.{live_lines}
use Rattle.cs_state.proofs.transact.write_answers.Given as goal

abbrev pub invariant-loop-answer : goal.invariant-loop-answer
invariant-loop-answer l =
    (told : List Said) → map said l.answers ≡ map worded told
    → l.out.items ++ live_lines l.line (drop l.answer-index told)
    ≡ l.initial.out.items ++ live_lines l.line told
