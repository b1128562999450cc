use Rattle.std.proofs.Common.{◌≡◌, ap, subst, ◌∙◌, codes}
use Rattle.std.proofs.lemmas.Result.{on_ok_weaker}
use Rattle.cs_value.proofs.Views.{tree-Obj}
use Rattle.cs_value.specs.Pairs.{put}
use Rattle.cs_value.specs.Tree.{Tree, Pairs, object}
use Rattle.cs_value.specs.View.{fields}
use Rattle.cs_reply.specs.Fields.{number}
use Rattle.cs_reply.specs.View.{Appended}
use Rattle.cs_refusal.specs.Told.{with_index}
use Rattle.cs_refusal.proofs.Told.{told_more, whole_reply}
use Rattle.cs_refusal.proofs.refused.write_refused.Goals as goal

pub returns : goal.returns
returns c =
    let n = c.args.line in
    let index = c.args.refusal.now.mutation in
    let from = c.args.out.now.items in
    let to = c.write_value-written.new.out.items in
    let line : fields c.put_number.new.reply
    ≡ put (codes "line") (number n) (with_index index (fields c.in_ok-reply.reply)) =
    c.in_ok-put_number.ensures ∙ ap (put (codes "line") (number n)) c.in_ok-put_index.ensures in
    let said = c.in_ok-reply.ensures in
    on_ok_weaker c.write_value-written.result (λ h. (
      told_more _ _ c.args.refusal.now.why (λ cause is.
          subst (λ (t : Tree). Appended from to t)
          (tree-Obj c.put_number.new.reply ∙ ap object line
          ∙ ap (λ (ps : Pairs). object (put (codes "line") (number n) (with_index index ps))) is
          ∙ whole_reply n index cause) h) said.0,
      said.1,
    )) c.write_value-written.ensures
