use Rattle.std.proofs.Common.{◌≡◌, drop}
use Rattle.cs_view.specs.Touched.{is_touched}
use Rattle.cs_view.specs.View.{edits}
use Rattle.cs_view.specs.declared.key.Key.TheVariants.{Id}
use Rattle.cs_view.proofs.Changed.{OwnIds}
use Rattle.cs_view.proofs.touching.id_touched.Given as goal

abbrev pub invariant-loop-change : goal.invariant-loop-change
invariant-loop-change l = record {
  left : is_touched (edits (drop l.change-index l.changes)) (Id l.id) ≡ is_touched (edits l.changes) (Id l.id);
  own : OwnIds (edits (drop l.change-index l.changes));
}
