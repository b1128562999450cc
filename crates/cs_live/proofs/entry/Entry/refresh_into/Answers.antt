use Rattle.std.proofs.Common.{◌≡◌, ◌∙◌, ◌++◌, ◌∷◌, [], Bool, true, cond, ap, map, sym}
use Rattle.std.proofs.lemmas.List.{map-append}
use Rattle.cs_live.specs.Entries.{live_query, said}
use Rattle.cs_live.specs.Lives.{LiveQuery, Worded, is_stale, refreshed, say, worded}
use Rattle.cs_live.proofs.entry.Entry.refresh_into.Goals as goal

pub returns-in_ok-push-clause-lines : goal.returns-in_ok-push-clause-lines
returns-in_ok-push-clause-lines g c =
    let docs = g.V.View.docs c.args.view.now in let q = live_query c.args.self.now in
    let lines = c.args.lines.now.items in let line = c.in_ok-line.field-0 in
    let after = c.in_ok-refresh.ensures.refreshed in
    let stale : is_stale docs q ≡ true = sym c.in_ok-refresh.ensures.stale ∙ c.if-branch.true in
    let one : said line ≡ worded (say (refreshed docs q)) = c.in_ok-line.ensures docs after.fits ∙ ap (λ (x : LiveQuery). worded (say x)) after.live in
    ap (map said) c.in_ok-push.ensures.items ∙ map-append said lines (line ∷ [])
    ∙ ap (λ (w : Worded). map said lines ++ w ∷ []) one
    ∙ ap (λ (b : Bool). map said lines ++ map worded (cond b (say (refreshed docs q) ∷ []) [])) (sym stale)
