use Rattle.std.proofs.Common.{◌≡◌, ◌∙◌, ◌<◌, List, length, get_or, sym, ap, arith}
use Rattle.std.proofs.lemmas.List.{get_or_default}
use Rattle.cs_listen.specs.Listeners.{has_name, listener}
use Rattle.cs_listen.specs.declared.listening.Listening.{Listening}
use Rattle.cs_listen.proofs.Keeping.{named_at}
use Rattle.cs_listen.proofs.Numbers.{same_place}
use Rattle.cs_listen.proofs.listeners.Listeners.number.Goals as goal

pub returns-then-is_named-clause-own : goal.returns-then-is_named-clause-own
returns-then-is_named-clause-own c = λ k e low same.
    let made = c.args.self.now.made.items in
    let name = c.args.name.now in
    let i = c.loop-listening.listening-index in
    let d = c.listening-item.result in
    let lent : c.deref-listening-items.result.now ≡ made = c.deref-listening-items.ensures.value in
    let is : d ≡ get_or made i d = c.listening-item.is ∙ ap (λ (ls : List Listening). get_or ls i d) lent in
    let here : i < length made = omega (arith, ap length lent) in
    let place = same_place made k i e c.args.self.now.posted.ascend low here
    (same ∙ ap (λ (l : Listening). l.number) (is ∙ get_or_default made i d e here)) in
    ap (λ j. has_name name (listener (get_or made j e))) place
    ∙ ap (λ (l : Listening). has_name name (listener l)) (sym (is ∙ get_or_default made i d e here))
    ∙ sym c.is_named.ensures ∙ c.if-is_named.true

pub returns-then-is_named-clause-had : goal.returns-then-is_named-clause-had
returns-then-is_named-clause-had c =
    let made = c.args.self.now.made.items in
    let name = c.args.name.now in
    let i = c.loop-listening.listening-index in
    let d = c.listening-item.result in
    let lent : c.deref-listening-items.result.now ≡ made = c.deref-listening-items.ensures.value in
    let is : d ≡ get_or made i d = c.listening-item.is ∙ ap (λ (ls : List Listening). get_or ls i d) lent in
    named_at name made i d (omega (arith, ap length lent))
    (ap (λ (l : Listening). has_name name (listener l)) (sym is) ∙ sym c.is_named.ensures ∙ c.if-is_named.true)
