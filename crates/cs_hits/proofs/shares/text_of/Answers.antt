use Rattle.cs_hits.specs.Shares.{share_values}
use Rattle.cs_hits.proofs.Sharing.{texts-of}
use Rattle.cs_hits.proofs.shares.text_of.Goals as goal

pub returns : goal.returns
returns c = λ docs e params all.
    c.write_list.ensures (share_values c.args.shares.now) (texts-of docs e params c.args.shares.now all)
