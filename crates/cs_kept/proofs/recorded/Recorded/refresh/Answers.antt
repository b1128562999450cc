use Rattle.std.proofs.Common.{◌≡◌, ◌∙◌, ap, ℕ, List, false, true, sym, subst}
use Rattle.cs_value.specs.View.{tree, fields}
use Rattle.cs_syntax.specs.Queries.{expression_of}
use Rattle.cs_view.specs.Dataset.{ascending}
use Rattle.cs_view.specs.Touched.{touched}
use Rattle.cs_view.specs.View.{edits}
use Rattle.cs_view.proofs.Booleans.{and-left}
use Rattle.cs_codes.specs.declared.seed.Seed.{Seed}
use Rattle.cs_interest.specs.Interest.{Entered, Left}
use Rattle.cs_kept.specs.Found.{IsCoded}
use Rattle.cs_keys.specs.Keys.{all_keys, rest_of}
use Rattle.cs_keys.specs.declared.keys.Keys.{Keys}
use Rattle.cs_kept.specs.declared.kept.Kept.TheVariants.{ByRecord}
use Rattle.cs_kept.specs.declared.recorded.Recorded.{Recorded}
use Rattle.cs_kept.proofs.Found.{keeps-all, found-moved, others-moved}
use Rattle.cs_kept.proofs.Sames.{not_another}
use Rattle.cs_kept.proofs.Windowed.{can-follow, found-anew, held, stayed, untouched-refreshed}
use Rattle.cs_kept.proofs.recorded.Recorded.refresh.Goals as goal

pub returns-then-not-touched-clause-refreshed : goal.returns-then-not-touched-clause-refreshed
returns-then-not-touched-clause-refreshed g c =
    let docs = g.V.View.docs c.args.view.now in let cs = edits c.args.changes.now in
    let sorted : ascending docs ≡ true = and-left (ascending docs) _ (g.met.V.View.dataset c.args.view.now) in
    let quiet : touched (all_keys c.args.self.now.keys) cs ≡ false = cc (c.touched.ensures, c.if-not-touched.true) in
    untouched-refreshed docs cs sorted c.requires.changes c.requires.led c.untouched_selects_the_same.ensures c.changes_lead_back_and_on.ensures c.hits_have_key.ensures c.windowed_is_tail_of_hits.ensures c.looked_settles_tail.ensures c.looked_settles_value.ensures c.args.self.now quiet c.requires.fits

pub returns-then-not-touched-clause-stale : goal.returns-then-not-touched-clause-stale
returns-then-not-touched-clause-stale g c = not_another (tree c.args.self.now.last) (tree c.args.self.now.last) (λ i. tree c.args.self.now.last)

pub returns-then-not-touched-clause-found : goal.returns-then-not-touched-clause-found
returns-then-not-touched-clause-found g c = c.requires.found

pub returns-then-not-touched-clause-others : goal.returns-then-not-touched-clause-others
returns-then-not-touched-clause-others g c = keeps-all c.args.interest.now c.args.number

pub follow-requires-clause-behind : goal.follow-requires-clause-behind
follow-requires-clause-behind g c =
    let docs = g.V.View.docs c.args.view.now in let cs = edits c.args.changes.now in
    let sorted : ascending docs ≡ true = and-left (ascending docs) _ (g.met.V.View.dataset c.args.view.now) in
    let old = c.args.self.now in
    can-follow docs cs sorted c.requires.changes c.requires.led c.untouched_selects_the_same.ensures c.changes_lead_back_and_on.ensures c.windowed_is_filtered.ensures old (rest_of old.keys) old.behind c.requires.fits.behind

pub returns-then-not-branch-clause-refreshed : goal.returns-then-not-branch-clause-refreshed
returns-then-not-branch-clause-refreshed g c =
    let docs = g.V.View.docs c.args.view.now in let cs = edits c.args.changes.now in
    let sorted : ascending docs ≡ true = and-left (ascending docs) _ (g.met.V.View.dataset c.args.view.now) in
    stayed docs cs sorted c.requires.changes c.requires.led c.untouched_selects_the_same.ensures c.changes_lead_back_and_on.ensures c.filter_follows_changes.ensures
    c.window_settles_tail_over.ensures c.looked_settles_tail.ensures c.windowed_is_tail_of_hits.ensures
    c.args.self.now c.follow.new.self c.follow.ensures.asks c.requires.fits c.in_ok-follow.ensures.followed (c.in_ok-follow.ensures.settled (cc c.if-not-branch.true))

pub returns-then-not-branch-clause-stale : goal.returns-then-not-branch-clause-stale
returns-then-not-branch-clause-stale g c = not_another (tree c.args.self.now.last) (tree c.follow.new.self.last) (ap tree (sym c.follow.ensures.asks.last))

pub evaluate-requires : goal.evaluate-requires
evaluate-requires g c =
    let docs = g.V.View.docs c.args.view.now in let cs = edits c.args.changes.now in
    let sorted : ascending docs ≡ true = and-left (ascending docs) _ (g.met.V.View.dataset c.args.view.now) in
    held docs cs sorted c.requires.changes c.requires.led c.untouched_selects_the_same.ensures c.changes_lead_back_and_on.ensures c.filter_follows_changes.ensures
    c.args.self.now c.follow.new.self c.follow.ensures.asks c.requires.fits c.in_ok-follow.ensures.followed

pub returns-clause-found : goal.returns-clause-found
returns-clause-found g c =
    let i = c.args.interest.now in let j = c.leave.new.self in
    let old = c.args.self.now in let mid = c.evaluate.new.self in let found = c.in_ok-found.found in
    let new : Recorded = record { query = mid.query; params = mid.params; last = found.answer; keys = found.keys; behind = mid.behind } in
    let kept : mid.keys ≡ old.keys = c.evaluate.ensures.asks.keys ∙ c.follow.ensures.asks.keys in
    found-moved i j c.enter.new.self c.args.number (ByRecord old) (ByRecord new)
    (subst (λ (cs : List ℕ). Left c.args.number cs i j) (c.deref.ensures.value ∙ ap (λ (k : Keys). k.codes.items) kept) c.leave.ensures.left) c.leave.ensures.seed
    (subst (λ (cs : List ℕ). Entered c.args.number cs j c.enter.new.self) c.deref-2.ensures.value c.in_ok-enter.ensures.entered) c.enter.ensures.seed
    c.requires.found
    (subst (λ (s : Seed). IsCoded s (ByRecord new)) c.seed.ensures c.in_ok-found.ensures.evaluated.coded)

pub returns-clause-others : goal.returns-clause-others
returns-clause-others g c =
    let i = c.args.interest.now in let j = c.leave.new.self in
    let old = c.args.self.now in let mid = c.evaluate.new.self in let found = c.in_ok-found.found in
    let new : Recorded = record { query = mid.query; params = mid.params; last = found.answer; keys = found.keys; behind = mid.behind } in
    let kept : mid.keys ≡ old.keys = c.evaluate.ensures.asks.keys ∙ c.follow.ensures.asks.keys in
    others-moved i j c.enter.new.self c.args.number (ByRecord old) (ByRecord new)
    (subst (λ (cs : List ℕ). Left c.args.number cs i j) (c.deref.ensures.value ∙ ap (λ (k : Keys). k.codes.items) kept) c.leave.ensures.left) c.leave.ensures.seed
    (subst (λ (cs : List ℕ). Entered c.args.number cs j c.enter.new.self) c.deref-2.ensures.value c.in_ok-enter.ensures.entered) c.enter.ensures.seed

pub returns-clause-refreshed : goal.returns-clause-refreshed
returns-clause-refreshed g c =
    let docs = g.V.View.docs c.args.view.now in let cs = edits c.args.changes.now in
    let old = c.args.self.now in let mid = c.follow.new.self in let end = c.evaluate.new.self in let found = c.in_ok-found.found in
    let new : Recorded = record { query = end.query; params = end.params; last = found.answer; keys = found.keys; behind = end.behind } in
    let m = c.follow.ensures.asks in
    let hot : touched (all_keys old.keys) cs ≡ true = cc (c.touched.ensures, c.if-not-touched.false) in
    found-anew docs cs old mid new found c.seed.result.now (ap expression_of (c.evaluate.ensures.asks.query ∙ m.query)) (ap fields (c.evaluate.ensures.asks.params ∙ m.params)) (ap expression_of m.query) (ap fields m.params)
    (λ i. found.answer) (λ i. found.keys) c.requires.fits.compound c.in_ok-found.ensures.evaluated c.in_ok-found.ensures.fits hot
