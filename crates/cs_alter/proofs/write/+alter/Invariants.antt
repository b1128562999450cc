use Rattle.std.proofs.Common.{length, ◌+◌, ◌*◌}
use Rattle.cs_alter.proofs.write.+alter.Given as goal

abbrev pub decreases-alter : goal.decreases-alter
decreases-alter l = 2 * length l.location.now

abbrev pub decreases-alter_member : goal.decreases-alter_member
decreases-alter_member l = 2 * length l.rest.now + 1

abbrev pub decreases-alter_item : goal.decreases-alter_item
decreases-alter_item l = 2 * length l.rest.now + 1
