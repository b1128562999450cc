use Rattle.std.proofs.Common.{◌≡◌, ◌∙◌, ◌<◌, ◌++◌, ◌∷◌, ℕ, List, [], Vec, Global, map, set, length, get_or, refl, sym, ap, subst, take_all, true, arith}
use Rattle.std.specs.List.{AllByRecursion}
use Rattle.std.proofs.lemmas.List.{length-map, set-get_or}
use Rattle.std.proofs.Math.Seq.{map-set_same}
use Rattle.cs_value.specs.View.{fields}
use Rattle.cs_syntax.specs.Queries.{expression_of}
use Rattle.cs_view.specs.Changes.{before_changes}
use Rattle.cs_view.specs.Dataset.{ascending}
use Rattle.cs_view.specs.View.{edits}
use Rattle.cs_view.proofs.Booleans.{and-left}
use Rattle.cs_hits.proofs.Sharing.{all-still}
use Rattle.cs_interest.specs.Interest.{interest_code}
use Rattle.cs_hits.specs.Shares.{IsShare, SameBut, TellsCodes, share_doc, share_docs, share_values, shares_looked}
use Rattle.cs_hits.specs.declared.share.Share.{Share}
use Rattle.cs_hits.proofs.Recoding.{one-other, told-both}
use Rattle.cs_hits.proofs.Renewing.{all-done, all-left, all-rest, but-none, but-share, one-more}
use Rattle.cs_hits.proofs.shares.renew_shares.Goals.{then-branch+in_ok-push, else-branch}
use Rattle.cs_hits.proofs.shares.renew_shares.Goals as goal

pub loop-place-init : goal.loop-place-init
loop-place-init g c = record {
  docs = refl;
  done = tt;
  left = c.requires.shares;
  but = subst (λ (ps : List ℕ). SameBut ps (share_values c.args.shares.now.items) (share_values c.args.shares.now.items)) (sym c.new-anew.ensures.items) (but-none (share_values c.args.shares.now.items));
  same = λ none. refl;
  codes = λ unset. (unset, refl);
}

pub returns-then-not-asked-clause-shares : goal.returns-then-not-asked-clause-shares
returns-then-not-asked-clause-shares g c =
    let docs = g.V.View.docs c.args.view.now in let cs = edits c.args.changes.now in
    let sorted : ascending docs ≡ true = and-left (ascending docs) _ (g.met.V.View.dataset c.args.view.now) in
    all-still docs cs sorted c.requires.changes c.requires.led c.untouched_selects_the_same.ensures c.changes_lead_back_and_on.ensures c.looked_settles_share.ensures
    (expression_of c.args.query.now) (fields c.args.params.now) c.args.shares.now.items (c.requires.asked c.if-not-asked.true) c.requires.shares

pub returns-then-not-asked-clause-but : goal.returns-then-not-asked-clause-but
returns-then-not-asked-clause-but g c =
    subst (λ (ps : List ℕ). SameBut ps (share_values c.args.shares.now.items) (share_values c.args.shares.now.items)) (sym c.new-anew.ensures.items) (but-none (share_values c.args.shares.now.items))

pub renew-requires-clause-share : goal.renew-requires-clause-share
renew-requires-clause-share g c =
    let l = c.loop-place in let ss = l.shares.items in let s = c.index_mut-share.result.now in
    let was = IsShare (before_changes (g.V.View.docs c.args.view.now) (edits c.args.changes.now)) (expression_of c.args.query.now) (fields c.args.params.now) in
    let here : s ≡ get_or ss l.place s = cc c.index_mut-share.ensures.value in
    let now : List Share = ss in let old : List Share = c.args.shares.now.items in
    let long : length now ≡ length old = sym (length-map now share_doc) ∙ ap length l.invariant.docs ∙ length-map old share_doc in
    subst was (sym here) (all-rest was ss l.place s (omega (arith, long)) l.invariant.left).0

pub loop-place-preserved : goal.loop-place-preserved
loop-place-preserved g c =
    let l = c.loop-place in let i = l.place in let ss = l.shares.items in let s = c.index_mut-share.result.now in let new = c.renew.new.self in
    let e = expression_of c.args.query.now in let params = fields c.args.params.now in let docs = g.V.View.docs c.args.view.now in
    let old = share_values c.args.shares.now.items in
    let now : List Share = ss in let were : List Share = c.args.shares.now.items in
    let long : length now ≡ length were = sym (length-map now share_doc) ∙ ap length l.invariant.docs ∙ length-map were share_doc in
    let here : s ≡ get_or ss i s = cc c.index_mut-share.ensures.value in
    let low : i < length now = omega (arith, long) in
    let same_docs : share_docs (set ss i new) ≡ share_docs were = map-set_same share_doc ss i new s (c.in_ok-renew.ensures.doc ∙ ap share_doc here) ∙ l.invariant.docs in
    let done = all-done (IsShare docs e params) ss i new low l.invariant.done c.in_ok-renew.ensures.share in
    let left = all-left (IsShare (before_changes docs (edits c.args.changes.now)) e params) ss i new s low l.invariant.left in
    let seed = c.args.seed.now in let before = c.args.recoded.now in
    let codes : TellsCodes seed (shares_looked were) (shares_looked (set ss i new)) before c.renew.new.recoded
    = told-both seed (shares_looked were) (shares_looked ss) (shares_looked (set ss i new)) before l.recoded c.renew.new.recoded l.invariant.codes
    (λ unset. let told = c.in_ok-renew.ensures.codes unset in
    (told.0, one-other seed ss i new s low (told.1 ∙ ap (λ (x : Share). map (interest_code seed) x.looked) here))) in
    elim c.if-branch.branch [
      | then-branch+in_ok-push w ↦
          let noted : c.if-branch.anew.items ≡ l.anew.items ++ i ∷ [] = ap (λ (v : Vec ℕ Global). v.items) w.anew-is ∙ w.in_ok-push.ensures.items in
          record {
            docs = same_docs;
            done = done;
            left = left;
            but = subst (λ (ps : List ℕ). SameBut ps old (share_values (set ss i new))) (sym noted) (but-share l.anew.items old ss i new low l.invariant.but);
            same = λ none. absurd (one-more l.anew.items i (sym noted ∙ none));
            codes = codes;
          }
      | else-branch w ↦
          let as_was : c.if-branch.anew.items ≡ l.anew.items = ap (λ (v : Vec ℕ Global). v.items) w.anew-is in
          let stays : set ss i new ≡ ss = ap (set ss i) (c.in_ok-renew.ensures.same w.if-branch.false ∙ here) ∙ set-get_or ss i s in
          record {
            docs = same_docs;
            done = done;
            left = left;
            but = subst (λ (ps : List ℕ). SameBut ps old (share_values (set ss i new))) (sym as_was)
                (subst (λ (xs : List Share). SameBut l.anew.items old (share_values xs)) (sym stays) l.invariant.but);
            same = λ none. stays ∙ l.invariant.same (sym as_was ∙ none);
            codes = codes;
          }
    ]

pub returns-clause-shares : goal.returns-clause-shares
returns-clause-shares g c =
    let l = c.loop-place in let ss = l.shares.items in
    let e = expression_of c.args.query.now in let params = fields c.args.params.now in let docs = g.V.View.docs c.args.view.now in
    let now : List Share = ss in let was : List Share = c.args.shares.now.items in
    let long : length now ≡ length was = sym (length-map now share_doc) ∙ ap length l.invariant.docs ∙ length-map was share_doc in
    subst (λ (xs : List Share). AllByRecursion (IsShare docs e params) xs) (take_all l.place ss (omega (arith, long))) l.invariant.done
