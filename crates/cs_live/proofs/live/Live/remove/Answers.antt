use Rattle.std.proofs.Common.{ℕ, List, subst, sym}
use Rattle.std.specs.List.{All}
use Rattle.cs_interest.specs.Interest.{Left}
use Rattle.cs_live.specs.Fits.{FitsOne}
use Rattle.cs_live.specs.Found.{AreFoundBy}
use Rattle.cs_live.specs.declared.entry.Entry.{Entry}
use Rattle.cs_live.proofs.Found.{found-removed}
use Rattle.cs_live.proofs.Named.{fits_left}
use Rattle.cs_live.proofs.live.Live.remove.Goals as goal

pub returns-in-Some-clause-fits : goal.returns-in-Some-clause-fits
returns-in-Some-clause-fits c = λ docs h.
    let l = c.args.self.now in let es = l.entries.items in let e = c.remove-gone.result in let q = c.in-Some.place in
    record {
      answers = subst (λ (xs : List Entry). All (FitsOne docs) xs) (sym c.remove-gone.ensures.items) (fits_left docs es q h.answers);
      found = subst (λ (xs : List Entry). AreFoundBy c.leave.new.self l.next xs) (sym c.remove-gone.ensures.items)
          (found-removed l.interest c.leave.new.self l.next es q e c.in-Some.ensures.within c.remove-gone.ensures.value
          (subst (λ (cs : List ℕ). Left e.number cs l.interest c.leave.new.self) c.codes.ensures c.leave.ensures.left) c.leave.ensures.seed h.found);
    }
