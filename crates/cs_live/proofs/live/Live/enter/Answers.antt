use Rattle.std.proofs.Common.{◌∙◌, ◌+◌, ℕ, List, ap, sym, subst, arith}
use Rattle.std.specs.List.{All}
use Rattle.cs_codes.specs.declared.seed.Seed.{Seed}
use Rattle.cs_interest.specs.Interest.{Left}
use Rattle.cs_live.specs.Fits.{FitsOne}
use Rattle.cs_kept.specs.Found.{IsCoded, codes_of}
use Rattle.cs_live.specs.Found.{AreFoundBy}
use Rattle.cs_live.specs.Lives.{LiveQuery, say, worded}
use Rattle.cs_live.specs.declared.entry.Entry.{Entry}
use Rattle.cs_live.proofs.Found.{found-left, found-pushed, on_err}
use Rattle.cs_live.proofs.News.{fits-entered}
use Rattle.cs_live.proofs.live.Live.enter.Goals as goal

pub returns-clause-fits : goal.returns-clause-fits
returns-clause-fits g c = λ h.
    let docs = g.V.View.docs c.args.view.now in let l = c.args.self.now in let es = l.entries.items in let e = c.in_ok-entry.entry in
    let i = l.interest in let j = c.push.new.self.interest in
    record {
      answers = fits-entered docs es c.push.new.self.entries.items e c.in_ok-push.ensures.pushed h.answers c.in_ok-entry.ensures.fits;
      found = subst (λ (xs : List Entry). AreFoundBy j (l.next + 1) xs) (sym c.in_ok-push.ensures.pushed)
          (found-pushed i j l.next es e c.in_ok-entry.ensures.number
          (subst (λ (s : Seed). IsCoded s e.kept) c.seed-seed.ensures c.in_ok-entry.ensures.coded)
          c.in_ok-push.ensures.entered c.push.ensures.seed (omega arith) h.found);
    }

pub returns-clause-line : goal.returns-clause-line
returns-clause-line g c =
    c.in-Ok.ensures (g.V.View.docs c.args.view.now) c.in_ok-entry.ensures.fits ∙ ap (λ (q : LiveQuery). worded (say q)) c.in_ok-entry.ensures.made

pub returns-in_err-push-clause-fits_still : goal.returns-in_err-push-clause-fits_still
returns-in_err-push-clause-fits_still g c = on_err c.from_residual-in_err-push.result (λ docs h.
    let l = c.args.self.now in let es = l.entries.items in let e = c.in_ok-entry.entry in
    let i = l.interest in let j = c.push.new.self.interest in
    record {
      answers = subst (λ (xs : List Entry). All (FitsOne docs) xs) (sym c.in_err-push.ensures.unchanged) h.answers;
      found = subst (λ (xs : List Entry). AreFoundBy j c.push.new.self.next xs) (sym c.in_err-push.ensures.unchanged)
          (subst (λ (m : ℕ). AreFoundBy j m es) (sym c.push.ensures.next)
          (found-left i j l.next es (codes_of e.kept) (subst (λ (m : ℕ). Left m (codes_of e.kept) i j) c.in_ok-entry.ensures.number c.in_err-push.ensures.left) c.push.ensures.seed h.found));
    })
