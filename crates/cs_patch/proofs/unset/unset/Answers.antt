use Rattle.cs_patch.proofs.unset.unset.Goals as goal

pub returns-in-Err : goal.returns-in-Err
returns-in-Err c = c.told.ensures _ c.in-Err.ensures
