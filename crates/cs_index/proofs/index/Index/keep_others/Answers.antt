use Rattle.std.proofs.Common.{◌∙◌}
use Rattle.cs_index.proofs.Keeping.{joined, entered}
use Rattle.cs_index.proofs.index.Index.keep_others.Goals as goal

pub returns : goal.returns
returns c =
    let one = c.args.self.now.coding in
    let more = c.args.others in
    let d = c.args.docs.now in
    joined one more c.append.new.self d c.args.self.now.entries c.put_ascending.new.entries c.requires.seed c.append.ensures.seed c.in_ok-append.ensures.kinds c.put_ascending.ensures.grows c.requires.was
    (entered more d c.args.self.now.entries c.put_ascending.new.entries c.in_ok-ascending.ascending.items c.in_ok-put_ascending.ensures.gain
    (λ q. c.in_ok-ascending.ensures q ∙ c.in_ok-listed.ensures q))
