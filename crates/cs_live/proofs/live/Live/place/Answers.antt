use Rattle.std.proofs.Common.{ap, sym, ◌∙◌, arith}
use Rattle.cs_live.specs.Entries.{live_query}
use Rattle.cs_live.specs.Lives.{has_live_name}
use Rattle.cs_live.specs.declared.entry.Entry.{Entry}
use Rattle.cs_live.proofs.Named.{found_at}
use Rattle.cs_live.proofs.live.Live.place.Goals as goal

pub returns-then-is_named : goal.returns-then-is_named
returns-then-is_named c =
    found_at c.args.name.now c.args.self.now.entries.items c.loop-i.i c.index.result.now (omega arith) c.loop-i.invariant
    (ap (λ (e : Entry). has_live_name c.args.name.now (live_query e)) (sym c.index.ensures) ∙ sym c.is_named.ensures ∙ c.if-is_named.true)
