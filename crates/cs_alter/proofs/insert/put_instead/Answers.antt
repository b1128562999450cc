use Rattle.std.proofs.Common.{◌≡◌, ◌≤◌, ◌-◌, ◌∙◌, min, drop, length, ap, arith}
use Rattle.std.proofs.lemmas.List.{take_all, length-drop}
use Rattle.cs_alter.proofs.Members.{on_ok}
use Rattle.cs_alter.proofs.Puts.{put-instead}
use Rattle.cs_alter.proofs.insert.put_instead.Goals as goal

pub returns : goal.returns
returns c =
    let vs = c.args.items.now.items in
    let n = c.len.ensures in
    let m = c.len-2.ensures in
    let long : c.len.result ≡ length vs = omega arith in
    let long_too : c.len-2.result ≡ length vs = omega arith in
    let at = c.within-at.result in
    let xs = c.deref.result.now in
    let size = length-drop at xs in
    let past : length (drop at xs) ≤ length xs - at = omega arith in
    on_ok c.push_unmarked.result _ _
    (λ h. put-instead vs _ _ _ _ _ _ c.args.positions.now c.in_ok-marks.marks.items _ c.args.first
    c.within-at.result c.len.result long c.in_ok-marks.ensures
    (c.within-at.ensures ∙ ap (min c.args.first) long_too) c.in_ok-rest.ensures.items
    c.in_ok-rest.ensures.tail c.in_ok-copies.ensures c.in_ok-append.ensures.items
    (take_all (length xs - at) (drop at xs) past ∙ ap (drop at) c.deref.ensures.value) h)
    c.push_unmarked.ensures
