use Rattle.std.proofs.Common.{◌≡◌, ◌∷◌, [], OnOk, map, subst, refl, codes, length}
use Rattle.std.specs.Prelude.{count_by}
use Rattle.cs_value.specs.Tree.{object, pairs}
use Rattle.cs_json.specs.Nodes.{member_pair}
use Rattle.cs_reply.specs.Fields.{number}
use Rattle.cs_reply.specs.View.{Appended}
use Rattle.cs_gen.specs.Summary.{is_event, is_live, is_refusal}
use Rattle.cs_gen.proofs.tally.Tally.write_summary.Goals as goal

pub returns : goal.returns
returns c = λ rs t.
    let members : map member_pair c.add-6.new.members.items
    ≡ (codes "documents", number c.args.documents)
    ∷ (codes "events", number (count_by is_event rs))
    ∷ (codes "lines", number c.args.lines)
    ∷ (codes "live", number (count_by is_live rs))
    ∷ (codes "refused", number (count_by is_refusal rs))
    ∷ (codes "replies", number (length rs))
    ∷ [] =
    rw (c.in_ok-add-6.ensures, c.in_ok-add-5.ensures, c.in_ok-add-4.ensures, c.in_ok-add-3.ensures, c.in_ok-add-2.ensures, c.in_ok-add.ensures, c.in_ok-members.ensures.items, t.events, t.live, t.refused, t.replies) refl in
    subst (λ ms. OnOk c.write_line.result (Appended c.args.out.now.items c.write_line.new.out.items (object (pairs ms)))) members c.write_line.ensures
