use Rattle.cs_patch.proofs.insert.insert.Goals as goal

pub returns-in-Err : goal.returns-in-Err
returns-in-Err c = c.told.ensures _ c.in-Err.ensures
