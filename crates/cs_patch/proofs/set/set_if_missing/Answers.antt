use Rattle.cs_patch.proofs.set.set_if_missing.Goals as goal

pub returns-in-Err : goal.returns-in-Err
returns-in-Err c = c.told.ensures _ c.in-Err.ensures
