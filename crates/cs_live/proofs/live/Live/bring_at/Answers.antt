use Rattle.std.proofs.Common.{◌≡◌, ◌∙◌, ℕ, ◌<◌, ◌++◌, length, List, refl, ap, map, sym, subst, get_or, arith}
use Rattle.std.proofs.lemmas.Grind.{common_steps}
use Rattle.cs_view.specs.View.{edits}
use Rattle.cs_live.specs.Entries.{live_query, said}
use Rattle.cs_live.specs.Fits.{Refreshes}
use Rattle.cs_kept.specs.Found.{IsFound, KeepsOthers}
use Rattle.cs_live.specs.Lives.{news_of, worded}
use Rattle.cs_live.specs.declared.entry.Entry.{Entry}
use Rattle.cs_live.proofs.Found.{found-set}
use Rattle.cs_live.proofs.live.Live.bring_at.Goals as goal

-- an element does not depend on what stands for one that is not there
same-at : (es : List Entry) (q : ℕ) (d e : Entry) → q < length es → get_or es q d ≡ get_or es q e
same-at es q d e low = grind (arith, common_steps)

pub refresh_into-requires-clause-found : goal.refresh_into-requires-clause-found
refresh_into-requires-clause-found g c =
    let l = c.args.self.now in let q = c.args.place in let e = c.index_mut-entry.result.now in
    let here : e ≡ get_or l.entries.items q e = cc c.index_mut-entry.ensures.value in
    subst (λ (x : Entry). IsFound l.interest x.number x.kept) (sym here) (c.requires.found.found q e c.requires.within)

pub returns-clause-brought : goal.returns-clause-brought
returns-clause-brought g c =
    let docs = g.V.View.docs c.args.view.now in let cs = edits c.args.changes.now in
    let l = c.args.self.now in let es = l.entries.items in let q = c.args.place in let e = c.index_mut-entry.result.now in
    let here : e ≡ get_or es q e = cc c.index_mut-entry.ensures.value in
    record {
      entry = c.refresh_into.new.self;
      is = refl;
      refreshed = λ d. subst (λ (x : Entry). Refreshes docs cs x c.refresh_into.new.self) (here ∙ same-at es q e d c.requires.within) c.in_ok-refresh_into.ensures.refreshed;
      lines = λ d. c.in_ok-refresh_into.ensures.lines ∙ ap (λ (x : Entry). map said c.args.lines.now.items ++ map worded (news_of docs (live_query x))) (here ∙ same-at es q e d c.requires.within);
    }

pub returns-clause-found : goal.returns-clause-found
returns-clause-found g c =
    let l = c.args.self.now in let es = l.entries.items in let q = c.args.place in let e = c.index_mut-entry.result.now in
    let here : e ≡ get_or es q e = cc c.index_mut-entry.ensures.value in
    let number : c.refresh_into.new.self.number ≡ e.number = c.in_ok-refresh_into.ensures.refreshed.number in
    found-set l.interest c.refresh_into.new.interest l.next es q c.refresh_into.new.self c.requires.within
    (λ d. number ∙ ap (λ (x : Entry). x.number) (here ∙ same-at es q e d c.requires.within))
    (subst (λ (m : ℕ). KeepsOthers m l.interest c.refresh_into.new.interest) (sym number) c.in_ok-refresh_into.ensures.others)
    c.in_ok-refresh_into.ensures.found c.requires.found
