use Rattle.std.proofs.Common.{List, IfSome, Ok, sym, subst, arith, length, ◌<◌, ◌≤◌}
use Rattle.cs_syntax.specs.declared.token.Token.{Token}
use Rattle.cs_syntax.specs.Lex.{IsNext, Reads}
use Rattle.cs_syntax.proofs.Sequences.{reads-push, each-token, reads-ascend, reads-count}
use Rattle.cs_syntax.proofs.token.tokens.Goals as goal

pub loop-found-preserved : goal.loop-found-preserved
loop-found-preserved c =
    let s = c.args.text.now in
    let next = subst (λ t. IsNext s c.loop-found.end (Ok t)) c.in-Some.is
    c.in_ok-token.ensures.next in
    let place = subst (λ o. IfSome o (λ (t : Token). (c.loop-found.end < t.to)
    × (t.to ≤ length s))) c.in-Some.is c.in_ok-token.ensures.place in record {
      reads = subst (λ (ts : List Token). Reads s 0 ts c.in-Some.token.to)
          (sym c.in_ok-push.ensures.items)
          (reads-push s 0 c.loop-found.found.items c.loop-found.end c.in-Some.token
          c.loop-found.invariant.reads next.0 next.1);
      to = place.1;
    }

pub returns-clause-each : goal.returns-clause-each
returns-clause-each c =
    each-token c.args.text.now 0 c.loop-found.found.items c.loop-found.end c.utf8.text
    c.loop-found.invariant.reads

pub returns-clause-ascend : goal.returns-clause-ascend
returns-clause-ascend c =
    reads-ascend c.args.text.now 0 c.loop-found.found.items c.loop-found.end
    c.loop-found.invariant.reads

pub returns-clause-count : goal.returns-clause-count
returns-clause-count c =
    let n = reads-count c.args.text.now 0 c.loop-found.found.items c.loop-found.end
    c.loop-found.invariant.reads (omega arith) in
    omega (arith, n.0, n.1, c.requires, c.loop-found.found.ok.0)
