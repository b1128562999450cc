use Rattle.std.proofs.Common.{◌++◌, map, ap, sym, subst, ◌∙◌}
use Rattle.cs_value.proofs.Views.{walked}
use Rattle.cs_value.specs.Tree.{attributes}
use Rattle.cs_value.specs.View.{entries_tree}
use Rattle.cs_patch.specs.Patched.{first_fault}
use Rattle.cs_patch.specs.Entries.{value_at}
use Rattle.cs_patch.specs.Readings.{AreShort, names_of}
use Rattle.cs_patch.proofs.read.values_at.Goals as goal

pub loop-text-init : goal.loop-text-init
loop-text-init c =
    let steps = c.into_iter-text-iterator.ensures.into_iter_gives ∙ c.iter-text-items.ensures.rest in
    let all = walked c.args.values.now steps in (
      ap (λ es. map value_at es ++ attributes (entries_tree c.into_iter-text-iterator.result)) c.new-entries.ensures.items ∙ ap attributes (sym all),
      subst (λ ps. AreShort (names_of (attributes ps))) all c.requires,
      ap (λ ps. first_fault (names_of (attributes ps))) all,
    )
