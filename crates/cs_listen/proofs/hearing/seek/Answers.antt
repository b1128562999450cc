use Rattle.std.proofs.Common.{rules, nat_cmp}
use Rattle.std.proofs.lemmas.Fn.{always_returns_same}
use Rattle.cs_listen.specs.declared.listening.Listening.{Listening}
use Rattle.cs_listen.proofs.Numbers.{sought_number}
use Rattle.cs_listen.proofs.hearing.seek.Goals as goal

pub returns : goal.returns
returns c =
    let facts = c.binary_search_by.ensures in
    let by_number = facts.position (λ (l : Listening). nat_cmp l.number c.args.number) (always_returns_same _ _ _ (λ a r g called. (search rules, search rules))) in
    sought_number c.args.number c.args.made.now c.requires _ facts.bound by_number
