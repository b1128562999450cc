use Rattle.std.proofs.Common.{◌∙◌, eqb, ap, subst, sym, nat_cmp}
use Rattle.std.specs.List.Sorted.{IsStrictlySortedBy}
use Rattle.std.proofs.lemmas.List.Filters.{dedup_is}
use Rattle.std.proofs.lemmas.List.Sorted.{list_any-IsPermutation}
use Rattle.std.proofs.lemmas.Map.Keys.{IsStrictlyIncreasing-dedup, sorted_from_strictly_increasing}
use Rattle.std.specs.Bool.{nat_eq}
use Rattle.cs_codes.specs.Codes.{is_among}
use Rattle.cs_listen.proofs.Posted.{among_once}
use Rattle.cs_listen.proofs.postings.sort.Goals as goal

pub returns-clause-among : goal.returns-clause-among
returns-clause-among c = λ n.
    let sorted = c.sort_unstable.new.self.items in
    ap (is_among n) (dedup_is eqb sorted _ c.dedup.ensures.filtered) ∙ among_once n sorted
    ∙ sym (list_any-IsPermutation (λ y. nat_eq n y) c.args.numbers.now.items sorted c.sort_unstable.ensures.permutation)

pub returns-clause-ascend : goal.returns-clause-ascend
returns-clause-ascend c =
    let sorted = c.sort_unstable.new.self.items in
    subst (IsStrictlySortedBy nat_cmp) (sym (dedup_is eqb sorted _ c.dedup.ensures.filtered))
    (sorted_from_strictly_increasing _ (IsStrictlyIncreasing-dedup sorted c.sort_unstable.ensures.sorted))
