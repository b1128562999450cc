use Rattle.std.proofs.Common.{◌∙◌, ap, sym, nat_cmp}
use Rattle.std.specs.Cmp.Lexicographic.{slice_cmp}
use Rattle.cs_load.proofs.Gathering.{above_last}
use Rattle.cs_load.proofs.loading.collected.is_above.Goals as goal

pub returns-in-Greater : goal.returns-in-Greater
returns-in-Greater c = λ _. above_last c.args.id.now c.args.documents.now c.in-Some.last.now c.requires c.in-Some.ensures.value (ap (slice_cmp nat_cmp c.args.id.now) (sym (c.as_str.ensures ∙ c.id.ensures)) ∙ sym c.in-Greater.ensures)
