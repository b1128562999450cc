use Rattle.cs_load.proofs.data_file.load_opened.Goals as goal

pub returns-clause-fault : goal.returns-clause-fault
returns-clause-fault g c = c.with_references.ensures.fault (g.Lb.Library.read_faults c.args.library.now) (g.Lb.Library.read_faults c.read_lines.new.library)
