use Rattle.std.proofs.Common.{refl, sym, ap, ◌∙◌}
use Rattle.cs_value.specs.Tree.{text}
use Rattle.cs_value.specs.View.{tree}
use Rattle.cs_func.specs.declared.seen.Seen.{Seen}
use Rattle.cs_func.proofs.SeenTexts.{text_added}
use Rattle.cs_func.proofs.Trees.{tree-Text}
use Rattle.cs_func.proofs.seen.Seen.add.Goals as goal

pub returns-in_ok-insert-in-Text-clause-added : goal.returns-in_ok-insert-in-Text-clause-added
returns-in_ok-insert-in-Text-clause-added c =
    let s = c.args.self.now in
    let new : Seen = record { null = s.null; yes = s.yes; no = s.no; numbers = s.numbers; texts = c.insert-in-Text.new.self } in
    text_added s new c.as_str.result (tree c.args.val.now) (ap tree c.in-Text.is ∙ tree-Text c.in-Text.text ∙ ap text (sym c.as_str.ensures)) refl refl refl refl c.in_ok-insert-in-Text.ensures.keys
