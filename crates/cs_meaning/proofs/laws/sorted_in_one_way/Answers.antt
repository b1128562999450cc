use Rattle.cs_meaning.proofs.Sorting.{ranks-total, sorted-same, in-order, ties-stay, in-one-way}
use Rattle.cs_meaning.proofs.laws.sorted_in_one_way.Goals as goal

pub returns-clause-order : goal.returns-clause-order
returns-clause-order c = λ ds xs. let o = ranks-total c.total_is_a_preorder.ensures.preorder ds in (sorted-same ds o xs, in-order ds o xs, ties-stay ds o xs)

pub returns-clause-unique : goal.returns-clause-unique
returns-clause-unique c = λ ds xs ys up stable. in-one-way ds (ranks-total c.total_is_a_preorder.ensures.preorder ds) xs ys up stable
