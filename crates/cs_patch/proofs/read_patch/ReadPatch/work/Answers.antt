use Rattle.std.proofs.Common.{map, refl, ap}
use Rattle.cs_value.specs.View.{tree}
use Rattle.cs_patch.specs.Operations.{and_then, dec_path, inc_path, set_missing_path, set_path, unset_path}
use Rattle.cs_patch.specs.Patched.{in_turn, maybe_insert}
use Rattle.cs_patch.specs.Entries.{value_at}
use Rattle.cs_patch.specs.Read.{read_patch}
use Rattle.cs_patch.proofs.Applied.{went_on, broke_off}
use Rattle.cs_patch.proofs.read_patch.ReadPatch.work.Goals as goal

pub returns-in-Ok : goal.returns-in-Ok
returns-in-Ok c =
    let p = read_patch c.args.self.now in
    went_on set_missing_path (λ o. and_then (maybe_insert p.insert) (and_then (in_turn dec_path p.dec) (and_then (in_turn inc_path p.inc) (and_then (in_turn unset_path p.unset) (and_then (in_turn set_path p.set) o)))))
    (map value_at c.deref.result.now) p.set_if_missing (tree c.args.val.now)
    (tree c.set_all_missing.new.val) (tree c.from_set.new.val) c.from_set.result
    (ap (map value_at) c.deref.ensures.value) c.in-Ok.ensures c.from_set.ensures

pub returns-in-Err : goal.returns-in-Err
returns-in-Err c =
    let p = read_patch c.args.self.now in
    broke_off set_missing_path (λ o. and_then (maybe_insert p.insert) (and_then (in_turn dec_path p.dec) (and_then (in_turn inc_path p.inc) (and_then (in_turn unset_path p.unset) (and_then (in_turn set_path p.set) o)))))
    (map value_at c.deref.result.now) p.set_if_missing (tree c.args.val.now) c.in-Err.fault
    (λ r. refl) (ap (map value_at) c.deref.ensures.value) c.in-Err.ensures
