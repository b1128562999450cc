use Rattle.std.proofs.Common.{◌++◌, map, sym, ap, ◌∙◌, rules}
use Rattle.cs_value.specs.Tree.{text}
use Rattle.cs_value.specs.View.{list_tree}
use Rattle.cs_func.proofs.Cuts.{cut-none, cut-first}
use Rattle.cs_func.proofs.Pushed.{push-last, push-front}
use Rattle.cs_func.proofs.Trees.{tree-Text}
use Rattle.cs_func.proofs.texts.cut.Goals as goal

pub loop-part-preserved : goal.loop-part-preserved
loop-part-preserved c =
    let l = c.loop-part in
    let f = c.in-Some.ensures.cases in
    let step = cut-first c.args.separator.now l.rest.now c.in-Some.part.now c.in-Some.more.now f.0 f.1 c.requires f.2.0 f.2.1 f.3 f.4 f.6 in (
      search rules,
      rw c.in_ok-push.ensures.items (push-front l.parts.items _ (text c.in-Some.part.now) _ _ (tree-Text _ ∙ ap text c.in_ok-copy_of.ensures)
          (ap (λ ps. list_tree l.parts.items ++ map text ps) (sym step) ∙ l.invariant.1)),
    )

pub returns : goal.returns
returns c =
    let l = c.loop-part in
    let last = cut-none c.args.separator.now l.rest.now c.in_default.ensures.cases in
    rw c.in_ok-push-2.ensures.items (push-last l.parts.items _ (text l.rest.now) _ (tree-Text _ ∙ ap text c.in_ok-copy_of-2.ensures)
    (ap (λ ps. list_tree l.parts.items ++ map text ps) (sym last) ∙ l.invariant.1))
