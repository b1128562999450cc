use Rattle.std.proofs.Common.{rules, nat_cmp}
use Rattle.std.proofs.lemmas.Fn.{always_returns_same}
use Rattle.cs_live.specs.declared.entry.Entry.{Entry}
use Rattle.cs_live.proofs.Bringing.{sought-number}
use Rattle.cs_live.proofs.live.seek.Goals as goal

pub returns : goal.returns
returns c =
    let facts = c.binary_search_by.ensures in
    let by_number = facts.position (λ (e : Entry). nat_cmp e.number c.args.number) (always_returns_same _ _ _ (λ a r g called. (search rules, search rules))) in
    sought-number c.args.number c.args.entries.now c.requires _ facts.bound by_number
