use Rattle.std.proofs.Common.{length, ap, arith, rules}
use Rattle.cs_syntax.proofs.FirstBytes.{Found}
use Rattle.cs_syntax.proofs.Sequences.{found-at, missing-at, token-of}
use Rattle.cs_syntax.proofs.token.next_token.Goals as goal
use Rattle.cs_syntax.proofs.token.next_token.Goals.{In-Some}

-- the token at `from`
found : (c : In-Some) → Found c.args.text.now c.past_blank-from.result c.kind_of-kind.result c.in-Some.to
found c =
    let same = c.as_bytes-bytes.ensures.value in
    found-at c.args.text.now _ c.past_blank-from.result _ _ same (omega (arith, ap length same))
    c.kind_of-kind.ensures c.in-Some.ensures

pub returns-in_default-clause-next : goal.returns-in_default-clause-next
returns-in_default-clause-next c =
    let same = c.as_bytes-bytes.ensures.value in
    let size = ap length same in
    let none = missing-at c.args.text.now _ c.past_blank-from.result _ same (omega arith)
    c.kind_of-kind.ensures c.in_default.ensures in
    (search (rules, c.past_blank-from.ensures.same, same), omega arith, none)

pub overflow_cast-result-3 : goal.overflow_cast-result-3
overflow_cast-result-3 c = let f = found (goal.at.overflow_cast-result-3 c).In-Some in
    omega (arith, f.within, c.requires.size)

pub returns-clause-next : goal.returns-clause-next
returns-clause-next c =
    let f = found (goal.at.returns-clause-next c).In-Some in
    (search (rules, c.past_blank-from.ensures.same, c.as_bytes-bytes.ensures.value), f.longest)

pub returns-clause-token : goal.returns-clause-token
returns-clause-token c =
    let f = found (goal.at.returns-clause-token c).In-Some in
    token-of c.args.text.now c.args.at _ c.utf8.text
    (search (rules, c.past_blank-from.ensures.same, c.as_bytes-bytes.ensures.value)) f.longest

pub returns-clause-place : goal.returns-clause-place
returns-clause-place c =
    let f = found (goal.at.returns-clause-place c).In-Some in
    (omega (arith, c.past_blank-from.ensures.from, f.more), f.within)
