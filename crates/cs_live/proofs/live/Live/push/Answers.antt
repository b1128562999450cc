use Rattle.std.proofs.Common.{◌∙◌, ℕ, List, ap, subst}
use Rattle.cs_interest.specs.Interest.{Entered}
use Rattle.cs_kept.specs.Found.{codes_of}
use Rattle.cs_live.specs.declared.entry.Entry.{Entry}
use Rattle.cs_live.proofs.Found.{undone}
use Rattle.cs_live.proofs.live.Live.push.Goals as goal

pub returns-in-Err-clause-left : goal.returns-in-Err-clause-left
returns-in-Err-clause-left c =
    let e = c.args.entry in let i = c.args.self.now.interest in let j = c.enter.new.self in
    let same = c.in-Err.ensures.value_returned in
    undone i j c.leave.new.self e.number c.in-Err.failed.value.number (codes_of e.kept) c.codes-in-Err.result.now
    (ap (λ (x : Entry). x.number) same) (c.codes-in-Err.ensures ∙ ap (λ (x : Entry). codes_of x.kept) same)
    (subst (λ (cs : List ℕ). Entered e.number cs i j) c.codes.ensures c.in-Ok.ensures.entered) c.leave.ensures.left
