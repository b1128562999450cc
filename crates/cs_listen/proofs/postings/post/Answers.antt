use Rattle.std.proofs.Common.{◌∙◌, ◌≤◌, List, length, sym, ap, arith, subst}
use Rattle.std.specs.List.{insert}
use Rattle.std.proofs.lemmas.List.Sorted.{IsNonDecreasingBy-insert}
use Rattle.cs_listen.specs.Posted.{Ascend, is_posted}
use Rattle.cs_listen.specs.declared.postings.Posting.{Posting}
use Rattle.cs_listen.proofs.Posted.{posted_more}
use Rattle.cs_listen.proofs.postings.post.Goals as goal

pub returns-clause-posted : goal.returns-clause-posted
returns-clause-posted c = λ x n.
    let place = c.count_through-place.result in
    let one : Posting = record { code = c.args.code; number = c.args.number } in
    ap (is_posted x n) c.in_ok-insert.ensures.items
    ∙ posted_more x n c.args.postings.now.items place one
    (subst (λ (ps : List Posting). place ≤ length ps) c.deref.ensures.value c.count_through-place.ensures.bound)

pub returns-clause-ascend : goal.returns-clause-ascend
returns-clause-ascend c =
    let place = c.count_through-place.result in
    let one : Posting = record { code = c.args.code; number = c.args.number } in
    let ps = c.deref.result.now in
    let facts = c.count_through-place.ensures in
    subst Ascend (ap (λ (xs : List Posting). insert xs place one) c.deref.ensures.value ∙ sym c.in_ok-insert.ensures.items)
    (IsNonDecreasingBy-insert (λ (p : Posting). p.code) ps place one (subst Ascend (sym c.deref.ensures.value) c.requires) facts.bound
    (λ k d low. facts.through k d low)
    (λ k d from within. let high = facts.others k d from within in omega (arith, high)))
