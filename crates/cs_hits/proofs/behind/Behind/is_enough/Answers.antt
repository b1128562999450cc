use Rattle.std.proofs.Common.{◌≡◌, length, subst, sym, arith}
use Rattle.cs_syntax.specs.Queries.{expression_of}
use Rattle.cs_hits.specs.Behind.{AreBehind, AreEnoughBehind}
use Rattle.cs_hits.specs.Near.{IsWithin}
use Rattle.cs_hits.specs.declared.behind.Behind.{Behind}
use Rattle.cs_hits.specs.declared.behind.Behind.TheVariants.{All, Window}
use Rattle.cs_hits.proofs.Behinds.{filled}
use Rattle.cs_hits.proofs.behind.Behind.is_enough.Goals as goal

pub returns-in-All : goal.returns-in-All
returns-in-All c = λ h docs ps are.
    let is : c.args.self.now ≡ All c.in-All.field-0 = cc c.in-All.is in
    subst (λ (b : Behind). AreEnoughBehind docs (expression_of c.args.query.now) ps b) (sym is) tt

pub returns-in-Window : goal.returns-in-Window
returns-in-Window c = λ h docs ps are.
    let e = expression_of c.args.query.now in
    let is : c.args.self.now ≡ Window c.in-Window.near = cc c.in-Window.is in
    let many : c.len.result ≡ length c.in-Window.near.docs.items = omega (arith, c.len.ensures) in
    subst (λ (b : Behind). AreEnoughBehind docs e ps b) (sym is) (filled e ps docs c.in-Window.near (subst (λ (b : Behind). AreBehind docs e ps b) is are) (subst (IsWithin e) many (c.is_enough.ensures h)))
