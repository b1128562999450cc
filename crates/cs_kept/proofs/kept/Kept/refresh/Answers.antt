use Rattle.std.proofs.Common.{◌≡◌, subst}
use Rattle.cs_kept.specs.Found.{IsFound}
use Rattle.cs_kept.specs.declared.kept.Kept.{Kept}
use Rattle.cs_kept.specs.declared.kept.Kept.TheVariants.{InRows}
use Rattle.cs_kept.proofs.Found.{found-rows}
use Rattle.cs_kept.proofs.kept.Kept.refresh.Goals as goal

pub returns-in_ok-stale-in-InRows-clause-found : goal.returns-in_ok-stale-in-InRows-clause-found
returns-in_ok-stale-in-InRows-clause-found g c =
    let is : c.args.self.now ≡ InRows c.in-InRows.kept = cc c.in-InRows.is in
    found-rows c.args.interest.now c.args.number c.in-InRows.kept c.refresh-in-InRows.new.self c.refresh-in-InRows.ensures.asks
    (subst (λ (k : Kept). IsFound c.args.interest.now c.args.number k) is c.requires.found)
