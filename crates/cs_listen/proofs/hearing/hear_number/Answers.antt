use Rattle.std.proofs.Common.{◌≡◌, ◌++◌, ◌∙◌, List, OnOk, ap, map, subst, sym, append-nil}
use Rattle.std.specs.List.{flat_map}
use Rattle.cs_view.specs.View.{edits}
use Rattle.cs_reply.specs.Reply.{Event}
use Rattle.cs_reply.specs.View.{event}
use Rattle.cs_listen.specs.Told.{own_events}
use Rattle.cs_listen.proofs.Numbers.{none_numbered, part_of_one}
use Rattle.cs_listen.proofs.hearing.hear_number.Goals as goal

pub returns-in-Ok : goal.returns-in-Ok
returns-in-Ok c =
    let own = own_events c.args.tx.now c.args.moment.now (edits c.args.changes.now) in
    let made = c.args.made.now in
    let one = c.index-made-place.result in
    let place = c.in-Ok.ensures in
    subst (λ (es : List Event). OnOk c.hear.result (map event c.hear.new.heard.items ≡ map event c.args.heard.now.items ++ es))
    (ap own c.index-made-place.is ∙ sym (part_of_one own c.args.number made c.in-Ok.place one c.requires place.0 (place.1 one)))
    c.hear.ensures

pub returns-in-Err : goal.returns-in-Err
returns-in-Err c =
    let own = own_events c.args.tx.now c.args.moment.now (edits c.args.changes.now) in
    sym (ap (λ (es : List Event). map event c.args.heard.now.items ++ es)
    (ap (flat_map own) (none_numbered c.args.number c.args.made.now c.in-Err.ensures)) ∙ append-nil _)
