use Rattle.std.proofs.Common.{◌≡◌, ◌∙◌, min, length, ap, arith}
use Rattle.cs_alter.proofs.Puts.{put-between}
use Rattle.cs_alter.proofs.insert.put_at.Goals as goal

pub returns : goal.returns
returns c =
    let vs = c.args.items.now.items in
    let n = c.len.ensures in
    let long : c.len.result ≡ length vs = omega arith in
    put-between vs _ _ _ _ _ _ c.args.position c.within-at.result
    (c.within-at.ensures ∙ ap (min c.args.position) long) c.in_ok-rest.ensures.items
    c.in_ok-rest.ensures.tail c.in_ok-copies.ensures c.in_ok-append.ensures.items
    c.in_ok-append-2.ensures.items
