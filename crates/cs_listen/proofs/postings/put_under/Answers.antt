use Rattle.std.proofs.Common.{ℕ, Bool, OnOk, subst}
use Rattle.cs_listen.specs.Posted.{Adds}
use Rattle.cs_listen.proofs.postings.put_under.Goals as goal

pub returns : goal.returns
returns c =
    subst (λ (p : ℕ → Bool). OnOk c.put_numbers.result (Adds p c.args.numbers.now.items c.put_numbers.new.numbers.items))
    (λ i n. c.under.ensures n i) c.put_numbers.ensures
