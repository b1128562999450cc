use Rattle.std.proofs.Common.{◌≡◌, ◌∙◌, List, ap, map, subst, IfOk}
use Rattle.cs_interest.specs.Changed.{changes_codes}
use Rattle.cs_view.specs.View.{edits}
use Rattle.cs_reply.specs.Reply.{Event}
use Rattle.cs_reply.specs.View.{event}
use Rattle.cs_listen.specs.Posted.{is_sought}
use Rattle.cs_listen.specs.Told.{all_told}
use Rattle.cs_listen.specs.declared.listening.Listening.{Listening}
use Rattle.cs_listen.specs.declared.postings.Posting.{Posting}
use Rattle.cs_listen.proofs.Concerned.{told_is_heard}
use Rattle.cs_listen.proofs.listeners.Listeners.events.Goals as goal

pub returns : goal.returns
returns c =
    let self = c.args.self.now in
    let cs = edits c.args.changes.now in
    subst (λ (es : List Event). IfOk c.hear_all.result (λ heard. map event heard.items ≡ es))
    (ap (λ (ls : List Listening). all_told c.args.tx.now c.args.moment.now cs ls c.deref-3.result.now) c.deref-2.ensures.value
    ∙ ap (all_told c.args.tx.now c.args.moment.now cs self.made.items) c.deref-3.ensures.value
    ∙ told_is_heard c.true_has_predicate_keys.ensures c.narrowest_is_had.ensures
    c.keys_are_listed.ensures self.seed self.postings.items
    c.in_ok-numbers.numbers.items c.args.tx.now c.args.moment.now cs
    (λ n. c.in_ok-numbers.ensures.exact n ∙ ap (λ (ps : List Posting). is_sought n ps (changes_codes self.seed cs)) c.deref.ensures.value)
    self.next self.made.items self.posted c.in_ok-numbers.ensures.ascend)
    c.hear_all.ensures
