use Rattle.std.proofs.Common.{◌≡◌, ◌∙◌, [], ap, map, eqb-true, List, Vec, Global, not, false, true, true≢false, refl, sym, subst}
use Rattle.std.proofs.lemmas.List.{nil_from_length}
use Rattle.cs_value.specs.Same.{same_tree}
use Rattle.cs_value.specs.Tree.{Tree}
use Rattle.cs_value.specs.View.{tree, fields}
use Rattle.cs_value.specs.Words.{list_of}
use Rattle.cs_syntax.specs.Queries.{expression_of}
use Rattle.cs_view.specs.Dataset.{ascending}
use Rattle.cs_view.specs.Touched.{touched}
use Rattle.cs_view.specs.View.{edits}
use Rattle.cs_view.proofs.Booleans.{and-left}
use Rattle.cs_kept.proofs.Elements.{same-elements}
use Rattle.cs_codes.specs.declared.seed.Seed.{Seed}
use Rattle.cs_interest.specs.Interest.{interest_code}
use Rattle.cs_hits.specs.Shares.{SameBut, SharesFollow, TellsCodes, share_docs, share_values, shares_looked}
use Rattle.cs_kept.specs.Mapped.{mapped_keys}
use Rattle.cs_hits.specs.declared.share.Share.{Share}
use Rattle.cs_kept.proofs.Found.{keeps-all}
use Rattle.cs_hits.proofs.Brought.{hits-ascend}
use Rattle.cs_kept.proofs.Sames.{not_another}
use Rattle.cs_kept.proofs.Sharing.{mapped-refreshed, mapped-untouched}
use Rattle.cs_kept.proofs.mapped.Mapped.refresh.Goals as goal

pub returns-then-not-touched-clause-refreshed : goal.returns-then-not-touched-clause-refreshed
returns-then-not-touched-clause-refreshed g c =
    let docs = g.V.View.docs c.args.view.now in let cs = edits c.args.changes.now in
    let sorted : ascending docs ≡ true = and-left (ascending docs) _ (g.met.V.View.dataset c.args.view.now) in
    let quiet : touched (mapped_keys c.args.self.now) cs ≡ false = cc (c.touched.ensures, c.if-not-touched.true) in
    mapped-untouched docs cs sorted c.requires.changes c.requires.led c.untouched_selects_the_same.ensures c.changes_lead_back_and_on.ensures c.looked_settles_share.ensures
    c.hits_have_key.ensures c.mapped_is_shares_of_hits.ensures c.args.self.now quiet c.requires.fits

pub returns-then-not-touched-clause-stale : goal.returns-then-not-touched-clause-stale
returns-then-not-touched-clause-stale g c = not_another (tree c.args.self.now.last) (tree c.args.self.now.last) refl

pub returns-then-not-touched-clause-found : goal.returns-then-not-touched-clause-found
returns-then-not-touched-clause-found g c = c.requires.found

pub returns-then-not-touched-clause-others : goal.returns-then-not-touched-clause-others
returns-then-not-touched-clause-others g c = keeps-all c.args.interest.now c.args.number

pub follow-requires-clause-ascending : goal.follow-requires-clause-ascending
follow-requires-clause-ascending g c =
    let docs = g.V.View.docs c.args.view.now in let cs = edits c.args.changes.now in
    let sorted : ascending docs ≡ true = and-left (ascending docs) _ (g.met.V.View.dataset c.args.view.now) in
    let old = c.args.self.now in
    hits-ascend docs cs sorted (expression_of old.query) (fields old.params) (share_docs old.shares.items) c.requires.fits.hits

pub settle-requires : goal.settle-requires
settle-requires g c = λ unshifted ts is.
    let old = c.args.self.now in let new = c.follow.new.self in
    let were : ts ≡ share_values old.shares.items
    = same-elements ts (share_values old.shares.items) (sym is ∙ ap tree c.follow.ensures.kept.last ∙ c.requires.fits.last) in
    subst (λ (us : List Tree). SameBut c.in_ok-moved.moved.anew.items us (share_values new.shares.items)) (sym were) (c.in_ok-moved.ensures.but unshifted)

pub returns-then-is_empty-clause-stale : goal.returns-then-is_empty-clause-stale
returns-then-is_empty-clause-stale g c = not_another (tree c.args.self.now.last) (tree c.follow.new.self.last) (ap tree (sym c.follow.ensures.kept.last))

pub returns-then-is_empty-clause-refreshed : goal.returns-then-is_empty-clause-refreshed
returns-then-is_empty-clause-refreshed g c =
    let docs = g.V.View.docs c.args.view.now in let cs = edits c.args.changes.now in
    let sorted : ascending docs ≡ true = and-left (ascending docs) _ (g.met.V.View.dataset c.args.view.now) in
    let old = c.args.self.now in let new = c.follow.new.self in let kept = c.follow.ensures.kept in
    let hot : touched (mapped_keys old) cs ≡ true = cc (c.touched.ensures, c.if-not-touched.false) in
    let anew = c.in_ok-moved.moved.anew in
    let none : anew.items ≡ [] = nil_from_length anew.items (sym anew.ok.0 ∙ eqb-true anew.len 0 (sym c.is_empty.ensures ∙ c.if-is_empty.true)) in
    let same : new.shares.items ≡ old.shares.items = c.in_ok-moved.ensures.same c.if-not-moved.true none in
    mapped-refreshed c.mapped_is_shares_of_hits.ensures c.changes_lead_back_and_on.ensures c.filter_follows_changes.ensures docs cs sorted c.requires.changes c.requires.led old new c.requires.fits
    (ap expression_of kept.query) (ap fields kept.params) kept.own c.in_ok-moved.ensures.follow
    (ap tree kept.last ∙ c.requires.fits.last ∙ ap (λ (ss : List Share). list_of (share_values ss)) (sym same))
    (λ quiet. absurd (true≢false (sym hot ∙ quiet)))

pub returns-clause-refreshed : goal.returns-clause-refreshed
returns-clause-refreshed g c =
    let docs = g.V.View.docs c.args.view.now in let cs = edits c.args.changes.now in
    let sorted : ascending docs ≡ true = and-left (ascending docs) _ (g.met.V.View.dataset c.args.view.now) in
    let old = c.args.self.now in let new = c.recode.new.self in
    let f = c.follow.ensures.kept in let s = c.settle.ensures.kept in let r = c.recode.ensures.kept in
    let hot : touched (mapped_keys old) cs ≡ true = cc (c.touched.ensures, c.if-not-touched.false) in
    let shares : new.shares ≡ c.follow.new.self.shares = r.shares ∙ s.shares in
    mapped-refreshed c.mapped_is_shares_of_hits.ensures c.changes_lead_back_and_on.ensures c.filter_follows_changes.ensures docs cs sorted c.requires.changes c.requires.led old new c.requires.fits
    (ap expression_of (r.query ∙ s.query ∙ f.query)) (ap fields (r.params ∙ s.params ∙ f.params)) (r.own ∙ s.own ∙ f.own)
    (subst (λ (v : Vec Share Global). SharesFollow docs cs (expression_of old.query) (fields old.params) old.shares.items v.items) (sym shares) c.in_ok-moved.ensures.follow)
    (ap tree r.last ∙ c.in_ok-stale.ensures.settled ∙ ap (λ (v : Vec Share Global). list_of (share_values v.items)) (sym r.shares))
    (λ quiet. absurd (true≢false (sym hot ∙ quiet)))

pub returns-clause-stale : goal.returns-clause-stale
returns-clause-stale g c =
    let f = c.follow.ensures.kept in let r = c.recode.ensures.kept in
    c.in_ok-stale.ensures.stale ∙ (λ i. not (same_tree (tree (sym r.last i)) (tree (f.last i))))

pub returns-clause-found : goal.returns-clause-found
returns-clause-found g c =
    let old = c.args.self.now in
    let f = c.follow.ensures.kept in let s = c.settle.ensures.kept in
    let seed = c.args.interest.now.seed in
    let told = subst (λ (x : Seed). TellsCodes x (shares_looked old.shares.items) (shares_looked c.follow.new.self.shares.items) false c.in_ok-moved.moved.recoded) c.seed-2.ensures c.in_ok-moved.ensures.codes in
    c.in_ok-recode.ensures.found old (sym (s.codes ∙ f.codes)) (sym (s.own ∙ f.own))
    (λ unset. (
      (told unset).0,
      ap (λ (v : Vec Share Global). map (interest_code seed) (shares_looked v.items)) s.shares ∙ (told unset).1,
    ))
    c.requires.found
