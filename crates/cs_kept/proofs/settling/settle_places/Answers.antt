use Rattle.std.proofs.Common.{◌≡◌, ◌∙◌, ℕ, ◌+◌, ◌<◌, List, ◌∷◌, length, get_or, map, set, drop, sym, ap, subst, arith}
use Rattle.std.specs.Prelude.{not}
use Rattle.std.proofs.lemmas.List.{drop_all, drop_more, get_or-map, length-map}
use Rattle.cs_value.specs.Same.{same_tree}
use Rattle.cs_value.specs.Tree.{Tree, null}
use Rattle.cs_value.specs.View.{tree}
use Rattle.cs_hits.specs.Shares.{SameBut, share_values}
use Rattle.cs_hits.specs.declared.share.Share.{Share}
use Rattle.cs_kept.proofs.Settled.{but-ended, but-less, lists-told, moved-more, unmoved-more}
use Rattle.cs_kept.proofs.settling.settle_places.Goals as goal

pub loop-place-preserved : goal.loop-place-preserved
loop-place-preserved c =
    let l = c.loop-place in let i = l.place-index in let ps = c.args.places.now in let ss = c.args.shares.now in
    let us = share_values ss in let old = map tree c.args.list.now.items in let now = map tree l.list.items in
    let p : ℕ = get_or ps i 0 in
    let value : Share → Tree = λ (s : Share). tree s.value in
    let s = c.index-shares-place.result in
    let but : SameBut (p ∷ drop (i + 1) ps) now us = subst (λ (xs : List ℕ). SameBut xs now us) (drop_more ps i 0 (omega arith)) l.invariant.but in
    let here : p < length now = but.within 0 0 (omega arith) in
    let there : p < length ss = let long = but.long in let many = length-map ss value in omega (arith, here, long, many) in
    let seen : get_or us p null ≡ value (get_or ss p s) = get_or-map value ss p s null there in
    let put : map tree c.settle_at.new.list.items ≡ set now p (get_or us p null) = c.in_ok-another.ensures.values ∙ ap (set now p) (sym seen) in
    let is : c.in_ok-another.another ≡ not (same_tree (get_or us p null) (get_or now p null))
    = c.in_ok-another.ensures.stale null ∙ ap (λ (t : Tree). not (same_tree t (get_or now p null))) (sym seen) in
    record {
      but = subst (λ (xs : List Tree). SameBut (drop (i + 1) ps) xs us) (sym put) (but-less p (drop (i + 1) ps) now us here but);
      unmoved = λ none. put ∙ unmoved-more us old now p l.stale c.in_ok-another.another here is l.invariant.unmoved none;
      moved = λ some. moved-more us old now p l.stale c.in_ok-another.another here is l.invariant.unmoved l.invariant.moved some;
    }

pub returns-clause-values : goal.returns-clause-values
returns-clause-values c =
    let l = c.loop-place in let us = share_values c.args.shares.now in let now = map tree l.list.items in
    but-ended now us (subst (λ (xs : List ℕ). SameBut xs now us) (drop_all l.place-index c.args.places.now (omega arith)) l.invariant.but)

pub returns-clause-stale : goal.returns-clause-stale
returns-clause-stale c =
    let l = c.loop-place in let us = share_values c.args.shares.now in let now = map tree l.list.items in
    let ended : now ≡ us = but-ended now us (subst (λ (xs : List ℕ). SameBut xs now us) (drop_all l.place-index c.args.places.now (omega arith)) l.invariant.but) in
    lists-told l.stale us (map tree c.args.list.now.items) (λ none. sym ended ∙ l.invariant.unmoved none) l.invariant.moved
