use Rattle.std.proofs.Common.{◌≡◌, [], ◌∷◌, ◌++◌, sym, ap, ◌∙◌, append_assoc}
use Rattle.cs_value.specs.declared.val.Fields.{out-Fields}
use Rattle.cs_value.proofs.Views.{Entry}
use Rattle.cs_ops.proofs.Merged.{merged-push}
use Rattle.cs_parts.proofs.members.put_each.Goals as goal

pub loop-key-preserved : goal.loop-key-preserved
loop-key-preserved c =
    let l = c.loop-key in
    let done = l.invariant.0 in
    let e : Entry = (c.in-Some.key.now, c.in-Some.member.now) in
    let left = c.next.new.self in
    let all : (out-Fields c.args.more.now).pairs ≡ done ++ e ∷ left = l.invariant.1 ∙ ap (λ es. done ++ es) c.in-Some.ensures.steps in (
      done ++ e ∷ [],
      all ∙ sym (append_assoc done (e ∷ []) left),
      c.in_ok-set.ensures.put ∙ rw (c.in_ok-name.ensures, c.in_ok-copy.ensures, l.invariant.2) (sym (merged-push _ done e)),
    )
