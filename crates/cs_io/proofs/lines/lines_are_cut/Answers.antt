use Rattle.cs_io.proofs.CutLaws.{follows_cut, follows_whole}
use Rattle.cs_io.proofs.lines.lines_are_cut.Goals as goal

pub returns-clause-given : goal.returns-clause-given
returns-clause-given c = follows_cut

pub returns-clause-whole : goal.returns-clause-whole
returns-clause-whole c = follows_whole
