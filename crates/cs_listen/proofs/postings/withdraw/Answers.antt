use Rattle.std.proofs.Common.{rules, ◌∙◌, ap, nat_eq, not, subst, sym, Bool}
use Rattle.std.proofs.lemmas.Fn.{filter_same}
use Rattle.std.proofs.lemmas.List.Kept.{IsNonDecreasingBy-filter}
use Rattle.cs_listen.specs.Posted.{Ascend, is_posted}
use Rattle.cs_listen.specs.declared.postings.Posting.{Posting}
use Rattle.cs_listen.proofs.Posted.{posted_still}
use Rattle.cs_listen.proofs.postings.withdraw.Goals as goal

pub returns-clause-withdrawn : goal.returns-clause-withdrawn
returns-clause-withdrawn c = λ x n.
    let others : Posting → Bool = λ p. not (nat_eq p.number c.args.number) in
    ap (is_posted x n) (filter_same _ others _ (λ y b f' k. search rules) _ _ c.retain.ensures.filtered)
    ∙ posted_still x n c.args.number c.args.postings.now.items

pub returns-clause-ascend : goal.returns-clause-ascend
returns-clause-ascend c =
    let others : Posting → Bool = λ p. not (nat_eq p.number c.args.number) in
    subst Ascend (sym (filter_same _ others _ (λ y b f' k. search rules) _ _ c.retain.ensures.filtered))
    (IsNonDecreasingBy-filter (λ (p : Posting). p.code) others c.args.postings.now.items c.requires)
