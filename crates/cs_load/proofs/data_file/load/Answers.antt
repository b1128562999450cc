use Rattle.cs_load.proofs.DataReading.{open_last}
use Rattle.cs_load.proofs.data_file.load.Goals as goal

pub load_opened-requires : goal.load_opened-requires
load_opened-requires g c =
    record { opened = rw c.in-Ok.ensures.added (open_last (g.Lb.Library.asked c.args.library.now) c.args.name.now c.in-Ok.which) }
