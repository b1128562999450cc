use Rattle.std.proofs.Common.{map, refl, ap}
use Rattle.cs_value.specs.View.{tree}
use Rattle.cs_patch.specs.Operations.{and_then, dec_path}
use Rattle.cs_patch.specs.Patched.{maybe_insert}
use Rattle.cs_patch.specs.Entries.{number_at}
use Rattle.cs_patch.specs.Read.{read_patch}
use Rattle.cs_patch.proofs.Applied.{went_on, broke_off}
use Rattle.cs_patch.proofs.read_patch.ReadPatch.from_dec.Goals as goal

pub returns-in-Ok : goal.returns-in-Ok
returns-in-Ok c =
    let p = read_patch c.args.self.now in
    went_on dec_path (λ o. and_then (maybe_insert p.insert) o)
    (map number_at c.deref.result.now) p.dec (tree c.args.val.now)
    (tree c.dec_all.new.val) (tree c.put.new.val) c.put.result
    (ap (map number_at) c.deref.ensures.value) c.in-Ok.ensures c.put.ensures

pub returns-in-Err : goal.returns-in-Err
returns-in-Err c =
    let p = read_patch c.args.self.now in
    broke_off dec_path (λ o. and_then (maybe_insert p.insert) o)
    (map number_at c.deref.result.now) p.dec (tree c.args.val.now) c.in-Err.fault
    (λ r. refl) (ap (map number_at) c.deref.ensures.value) c.in-Err.ensures
