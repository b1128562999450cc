use Rattle.std.proofs.Common.{◌≡◌, ◌∙◌, ℕ, List, refl, ap, sym, subst, true, map, arith}
use Rattle.cs_view.specs.Changes.{before_changes}
use Rattle.cs_view.specs.Dataset.{ascending}
use Rattle.cs_view.specs.View.{edits}
use Rattle.cs_view.proofs.Booleans.{and-left}
use Rattle.cs_interest.specs.Interest.{AreAsked}
use Rattle.cs_live.specs.Brought.{StillUnasked}
use Rattle.cs_live.specs.Entries.{said}
use Rattle.cs_kept.specs.Fits.{IsQuiet}
use Rattle.cs_live.specs.Fits.{FitsOne}
use Rattle.cs_live.specs.Lives.{Worded}
use Rattle.cs_live.proofs.Bringing.{Loop, loop-start, loop-step, loop-next, loop-end}
use Rattle.cs_live.proofs.News.{refreshed-lives, refreshed-fits, refreshed-records}
use Rattle.cs_live.proofs.live.Live.after_commit.Goals as goal

pub loop-number-init : goal.loop-number-init
loop-number-init g c =
    let docs = g.V.View.docs c.args.view.now in let cs = edits c.args.changes.now in let old = c.args.self.now.entries.items in
    let ns = c.deref-number-items.result.now in
    record {
      loop = subst (λ (out : List Worded). Loop docs cs old old out ns 0) (sym (ap (map said) c.new-lines.ensures.items)) (loop-start docs cs old ns);
      found = c.requires.fits.found;
      quiet = λ quiet. refl;
    }

pub bring-requires-clause-fits : goal.bring-requires-clause-fits
bring-requires-clause-fits g c =
    let docs = g.V.View.docs c.args.view.now in let cs = edits c.args.changes.now in let live = c.args.self.now in let old = live.entries.items in
    let ns = c.deref-number-items.result.now in
    let asked : AreAsked live.interest cs ns = subst (λ (l : List ℕ). AreAsked live.interest cs l) (sym c.deref-number-items.ensures.value) c.in_ok-asked.ensures in
    let sorted : ascending docs ≡ true = and-left (ascending docs) _ (g.met.V.View.dataset c.args.view.now) in
    let unasked : StillUnasked docs cs old ns = c.unasked_stays.ensures docs cs live ns sorted c.requires.changes c.requires.led c.requires.fits asked in
    let rise = c.requires.fits.found.ascend in
    let l = c.loop-number in
    loop-next docs cs old ns asked.ascend rise unasked (FitsOne (before_changes docs cs)) l.self.entries.items (map said l.lines.items)
    l.number-index _ 0 (omega arith) refl l.invariant.loop c.requires.fits.answers

pub bring-requires-clause-found : goal.bring-requires-clause-found
bring-requires-clause-found g c = c.loop-number.invariant.found

pub returns-in_err-bring-clause-quiet : goal.returns-in_err-bring-clause-quiet
returns-in_err-bring-clause-quiet g c = λ quiet.
    let docs = g.V.View.docs c.args.view.now in let cs = edits c.args.changes.now in let live = c.args.self.now in let old = live.entries.items in
    let ns = c.deref-number-items.result.now in
    let asked : AreAsked live.interest cs ns = subst (λ (l : List ℕ). AreAsked live.interest cs l) (sym c.deref-number-items.ensures.value) c.in_ok-asked.ensures in
    let sorted : ascending docs ≡ true = and-left (ascending docs) _ (g.met.V.View.dataset c.args.view.now) in
    let unasked : StillUnasked docs cs old ns = c.unasked_stays.ensures docs cs live ns sorted c.requires.changes c.requires.led c.requires.fits asked in
    let rise = c.requires.fits.found.ascend in
    let l = c.loop-number in
    c.bring.ensures.quiet (loop-next docs cs old ns asked.ascend rise unasked (λ e. IsQuiet cs e.kept) l.self.entries.items (map said l.lines.items)
    l.number-index _ 0 (omega arith) refl l.invariant.loop quiet) ∙ l.invariant.quiet quiet

pub loop-number-preserved : goal.loop-number-preserved
loop-number-preserved g c =
    let docs = g.V.View.docs c.args.view.now in let cs = edits c.args.changes.now in let live = c.args.self.now in let old = live.entries.items in
    let ns = c.deref-number-items.result.now in
    let asked : AreAsked live.interest cs ns = subst (λ (l : List ℕ). AreAsked live.interest cs l) (sym c.deref-number-items.ensures.value) c.in_ok-asked.ensures in
    let sorted : ascending docs ≡ true = and-left (ascending docs) _ (g.met.V.View.dataset c.args.view.now) in
    let unasked : StillUnasked docs cs old ns = c.unasked_stays.ensures docs cs live ns sorted c.requires.changes c.requires.led c.requires.fits asked in
    let rise = c.requires.fits.found.ascend in
    let l = c.loop-number in
    record {
      loop = loop-step docs cs old ns asked.ascend rise unasked l.self.entries.items c.bring.new.self.entries.items (map said l.lines.items) (map said c.bring.new.lines.items)
          l.number-index _ 0 (omega arith) refl l.invariant.loop c.in_ok-bring.ensures.brought;
      found = c.in_ok-bring.ensures.found;
      quiet = λ quiet. c.bring.ensures.quiet (loop-next docs cs old ns asked.ascend rise unasked (λ e. IsQuiet cs e.kept) l.self.entries.items (map said l.lines.items)
          l.number-index _ 0 (omega arith) refl l.invariant.loop quiet) ∙ l.invariant.quiet quiet;
    }

pub returns-clause-lines : goal.returns-clause-lines
returns-clause-lines g c =
    let docs = g.V.View.docs c.args.view.now in let cs = edits c.args.changes.now in let live = c.args.self.now in let old = live.entries.items in
    let ns = c.deref-number-items.result.now in
    let asked : AreAsked live.interest cs ns = subst (λ (l : List ℕ). AreAsked live.interest cs l) (sym c.deref-number-items.ensures.value) c.in_ok-asked.ensures in
    let sorted : ascending docs ≡ true = and-left (ascending docs) _ (g.met.V.View.dataset c.args.view.now) in
    let unasked : StillUnasked docs cs old ns = c.unasked_stays.ensures docs cs live ns sorted c.requires.changes c.requires.led c.requires.fits asked in
    let rise = c.requires.fits.found.ascend in
    let l = c.loop-number in
    let items = l.self.entries.items in
    let end = loop-end docs cs ns asked.ascend old items (map said l.lines.items) l.number-index rise unasked c.loop-number-test.false l.invariant.loop in
    end.0

pub returns-clause-lives : goal.returns-clause-lives
returns-clause-lives g c =
    let docs = g.V.View.docs c.args.view.now in let cs = edits c.args.changes.now in let live = c.args.self.now in let old = live.entries.items in
    let ns = c.deref-number-items.result.now in
    let asked : AreAsked live.interest cs ns = subst (λ (l : List ℕ). AreAsked live.interest cs l) (sym c.deref-number-items.ensures.value) c.in_ok-asked.ensures in
    let sorted : ascending docs ≡ true = and-left (ascending docs) _ (g.met.V.View.dataset c.args.view.now) in
    let unasked : StillUnasked docs cs old ns = c.unasked_stays.ensures docs cs live ns sorted c.requires.changes c.requires.led c.requires.fits asked in
    let rise = c.requires.fits.found.ascend in
    let l = c.loop-number in
    let items = l.self.entries.items in
    let end = loop-end docs cs ns asked.ascend old items (map said l.lines.items) l.number-index rise unasked c.loop-number-test.false l.invariant.loop in
    refreshed-lives docs cs old items end.1

pub returns-clause-fits : goal.returns-clause-fits
returns-clause-fits g c =
    let docs = g.V.View.docs c.args.view.now in let cs = edits c.args.changes.now in let live = c.args.self.now in let old = live.entries.items in
    let ns = c.deref-number-items.result.now in
    let asked : AreAsked live.interest cs ns = subst (λ (l : List ℕ). AreAsked live.interest cs l) (sym c.deref-number-items.ensures.value) c.in_ok-asked.ensures in
    let sorted : ascending docs ≡ true = and-left (ascending docs) _ (g.met.V.View.dataset c.args.view.now) in
    let unasked : StillUnasked docs cs old ns = c.unasked_stays.ensures docs cs live ns sorted c.requires.changes c.requires.led c.requires.fits asked in
    let rise = c.requires.fits.found.ascend in
    let l = c.loop-number in
    let items = l.self.entries.items in
    let end = loop-end docs cs ns asked.ascend old items (map said l.lines.items) l.number-index rise unasked c.loop-number-test.false l.invariant.loop in
    record { answers = refreshed-fits docs cs old items end.1; found = l.invariant.found }

pub returns-clause-records : goal.returns-clause-records
returns-clause-records g c =
    let docs = g.V.View.docs c.args.view.now in let cs = edits c.args.changes.now in let live = c.args.self.now in let old = live.entries.items in
    let ns = c.deref-number-items.result.now in
    let asked : AreAsked live.interest cs ns = subst (λ (l : List ℕ). AreAsked live.interest cs l) (sym c.deref-number-items.ensures.value) c.in_ok-asked.ensures in
    let sorted : ascending docs ≡ true = and-left (ascending docs) _ (g.met.V.View.dataset c.args.view.now) in
    let unasked : StillUnasked docs cs old ns = c.unasked_stays.ensures docs cs live ns sorted c.requires.changes c.requires.led c.requires.fits asked in
    let rise = c.requires.fits.found.ascend in
    let l = c.loop-number in
    let items = l.self.entries.items in
    let end = loop-end docs cs ns asked.ascend old items (map said l.lines.items) l.number-index rise unasked c.loop-number-test.false l.invariant.loop in
    refreshed-records docs cs old items end.1

pub returns-clause-quiet : goal.returns-clause-quiet
returns-clause-quiet g c = c.loop-number.invariant.quiet
