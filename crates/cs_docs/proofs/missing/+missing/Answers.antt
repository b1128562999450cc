use Rattle.std.proofs.Common.{◌∙◌, ap}
use Rattle.cs_value.proofs.Views.{walked}
use Rattle.cs_docs.specs.Missing.{first_missing}
use Rattle.cs_docs.specs.References.{strong_pairs}
use Rattle.cs_docs.specs.Store.{after}
use Rattle.cs_docs.proofs.missing.+missing.Goals as goal

pub missing_member-loop-member-init : goal.missing_member-loop-member-init
missing_member-loop-member-init t c =
    let steps = c.into_iter-member-iterator.ensures.into_iter_gives ∙ c.iter-member-items.ensures.rest in
    ap (λ ps. first_missing (after c.args.store.now c.args.changes.now) (strong_pairs ps)) (walked c.args.object.now steps)
