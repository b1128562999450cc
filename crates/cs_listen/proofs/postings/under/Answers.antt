use Rattle.std.proofs.Common.{◌≡◌, ◌∙◌, ◌+◌, ◌-◌, ◌<◌, ◌≤◌, List, length, get_or, drop, take, sym, ap, length-drop, arith}
use Rattle.std.proofs.lemmas.List.{get_or-drop, get_or-take, length-take-le, take_rest}
use Rattle.cs_listen.specs.Posted.{is_posted}
use Rattle.cs_listen.specs.declared.postings.Posting.{Posting}
use Rattle.cs_listen.proofs.Posted.{of_one_code, passed_above, passed_below}
use Rattle.cs_listen.proofs.postings.under.Goals as goal

pub returns-then-begins : goal.returns-then-begins
returns-then-begins c = λ n.
    let code = c.args.code in
    let ps = c.args.postings.now in
    let k = c.count_below.result in
    let m = c.count_through.result in
    let rest : List Posting = take (length ps - k) (drop k ps) in
    let whole : rest ≡ drop k ps = take_rest ps k in
    let long : length rest ≡ length ps - k = ap length whole ∙ length-drop k ps in
    let bound : m ≤ length rest = c.count_through.ensures.bound in
    sym (passed_below code n k ps (λ i d low within. c.count_below.ensures.below i d low)
    ∙ ap (is_posted code n) (sym whole)
    ∙ passed_above code n m rest c.count_through.ensures.others
    ∙ of_one_code code n (take m rest) (λ i d within.
    let inside : i < m = omega (arith, within, length-take-le m rest bound) in
    let there = ap (λ (p : Posting). p.code) (get_or-take m rest i d inside) in
    let far = ap (λ (p : Posting). p.code) (ap (λ (xs : List Posting). get_or xs i d) whole ∙ get_or-drop k ps i d) in
    let high = c.count_through.ensures.through i d inside in
    let low = c.count_below.ensures.others (k + i) d (omega arith) (omega (arith, inside, bound, long)) in
    omega (arith, there, far, high, low)))

pub returns-else-begins : goal.returns-else-begins
returns-else-begins c = λ n.
    let code = c.args.code in
    let ps = c.args.postings.now in
    let k = c.count_below.result in
    sym (passed_below code n k ps (λ i d low within. c.count_below.ensures.below i d low)
    ∙ ap (is_posted code n) (sym (take_rest ps k)) ∙ c.begins.ensures c.if-begins.false n)
