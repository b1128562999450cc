use Rattle.std.proofs.Common.{◌≡◌, IfOk, subst}
use Rattle.cs_value.specs.Tree.{Tree}
use Rattle.cs_value.specs.View.{tree}
use Rattle.cs_func.proofs.Trees.{join-parts}
use Rattle.cs_func.proofs.texts.join.Goals as goal

pub returns-in-List-Text : goal.returns-in-List-Text
returns-in-List-Text c =
    let a = c.in-List-Text in
    subst (λ (y : Tree). IfOk c.joined.result (λ v. tree v ≡ y)) (join-parts a.items a.separator c.as_str.result.now c.args.x.now c.args.separator.now a.is-0 a.is-1 c.as_str.ensures) c.joined.ensures
