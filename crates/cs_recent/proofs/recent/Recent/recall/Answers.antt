use Rattle.std.proofs.Common.{subst, sym, ap, string_bytes, bytes_eq}
use Rattle.cs_recent.specs.Recent.{AreRead}
use Rattle.cs_recent.proofs.Keeping.{asked_again, recalled}
use Rattle.cs_recent.proofs.recent.Recent.recall.Goals as goal

pub invariant_of-self : goal.invariant_of-self
invariant_of-self c =
    subst AreRead (sym (ap (λ x. x.entries) c.promote.ensures.entries))
    (asked_again (λ k. bytes_eq c.args.text.now (string_bytes k)) c.self.inside.queries.entries
    c.self.invariant)

pub invariant_of-self-2 : goal.invariant_of-self-2
invariant_of-self-2 c =
    subst AreRead (sym (ap (λ x. x.entries) c.promote.ensures.entries))
    (asked_again (λ k. bytes_eq c.args.text.now (string_bytes k)) c.self.inside.queries.entries
    c.self.invariant)

pub returns : goal.returns
returns c =
    recalled c.args.text.now c.promote.new.self.entries c.peek.result
    (subst AreRead (sym (ap (λ x. x.entries) c.promote.ensures.entries))
    (asked_again (λ k. bytes_eq c.args.text.now (string_bytes k)) c.self.inside.queries.entries
    c.self.invariant)) c.peek.ensures
