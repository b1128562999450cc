use Rattle.std.proofs.Common.{sym, ap, ◌∙◌, subst}
use Rattle.cs_value.specs.Tree.{Tree}
use Rattle.cs_value.specs.View.{tree}
use Rattle.cs_value.proofs.Views.{tree-List, tree-Obj}
use Rattle.cs_jsonmatch.specs.Sole.{IsMember}
use Rattle.cs_jsonmatch.proofs.sole.member.Goals as goal

pub returns-in-List : goal.returns-in-List
returns-in-List c = λ ss.
    subst (λ (v : Tree). IsMember v c.args.sole ss c.element.result) (sym (ap tree c.in-List.is ∙ tree-List c.in-List.items)) (c.element.ensures ss)

pub returns-in-Obj : goal.returns-in-Obj
returns-in-Obj c = λ ss.
    subst (λ (v : Tree). IsMember v c.args.sole ss c.named.result) (sym (ap tree c.in-Obj.is ∙ tree-Obj c.in-Obj.object)) (c.named.ensures ss)
