use Rattle.std.proofs.lemmas.List.Sorted.{IsNonDecreasingBy-from_sort}
use Rattle.cs_codes.proofs.Searched.{sorted_codes}
use Rattle.cs_codes.proofs.order.sort_codes.Goals as goal

pub returns-clause-among : goal.returns-clause-among
returns-clause-among c = λ x.
    sorted_codes c.args.codes.now.items c.sort_unstable.new.self.items c.sort_unstable.ensures.permutation x

pub returns-clause-ascending : goal.returns-clause-ascending
returns-clause-ascending c = IsNonDecreasingBy-from_sort (λ x. x) c.sort_unstable.new.self.items c.sort_unstable.ensures.sorted
