use Rattle.std.proofs.Common.{◌≡◌, ◌∙◌, sym, ap, subst, List, ◌++◌, length}
use Rattle.cs_value.specs.Tree.{Tree}
use Rattle.cs_view.specs.Changes.{Edit, after_changes, before_changes, LeadTo}
use Rattle.cs_view.specs.View.{edits}
use Rattle.cs_view.proofs.Booleans.{and-left}
use Rattle.cs_docs.specs.Kept.{is_dataset_of}
use Rattle.cs_docs.specs.Store.{docs, prepared}
use Rattle.cs_listen.specs.Events.{events}
use Rattle.cs_live.specs.Fits.{Fits}
use Rattle.cs_live.specs.Lives.{all_refreshed, news}
use Rattle.cs_live.specs.declared.live.Live.{Live}
use Rattle.cs_machine.specs.Rows.{installed}
use Rattle.cs_machine.specs.State.{State, with_docs, with_lives, with_used}
use Rattle.cs_state.specs.State.{state}
use Rattle.cs_state.specs.Does.{IsTallyOf, live_lines}
use Rattle.cs_state.proofs.Listening.{says_installed}
use Rattle.cs_state.proofs.Replying.{kept_on}
use Rattle.cs_state.proofs.Storing.{but_store, index_as, leaves_from}
use Rattle.cs_state.proofs.state.State.accept.Goals as goal

pub tell_live-requires-clause-led : goal.tell_live-requires-clause-led
tell_live-requires-clause-led g c =
    let before = docs c.args.self.now.docs in
    let cs = prepared c.args.prepared.now in
    let law = c.changes_lead_on_and_back.ensures before cs
    (and-left _ _ (is_dataset_of c.args.self.now.docs)) c.args.prepared.now.ordered
    c.requires.taken.leads in
    let told : edits c.changes.result.now ≡ cs = c.changes.ensures in
    let now = ap docs c.note.ensures.docs ∙ c.in_ok-install.ensures.docs
    ∙ ap (λ (s : State). after_changes s.docs cs) c.in_ok-id.ensures.same in
    subst (λ (ds : List Tree). LeadTo ds (edits c.changes.result.now)) (sym now)
    (subst (λ (es : List Edit). LeadTo (after_changes before cs) es) (sym told) law.1)

pub tell_live-requires-clause-fits : goal.tell_live-requires-clause-fits
tell_live-requires-clause-fits g c =
    let before = docs c.args.self.now.docs in
    let cs = prepared c.args.prepared.now in
    let roomy = c.room_for.new.self in
    let law = c.changes_lead_on_and_back.ensures before cs
    (and-left _ _ (is_dataset_of c.args.self.now.docs)) c.args.prepared.now.ordered
    c.requires.taken.leads in
    let es = edits c.changes.result.now in
    let told : es ≡ cs = c.changes.ensures in
    let now = ap docs c.note.ensures.docs ∙ c.in_ok-install.ensures.docs
    ∙ ap (λ (s : State). after_changes s.docs cs) c.in_ok-id.ensures.same in
    let back : before_changes (docs c.note.new.self.docs) es ≡ docs roomy.docs =
    ap (λ (ds : List Tree). before_changes ds es) now
    ∙ ap (λ (xs : List Edit). before_changes (after_changes before cs) xs) told
    ∙ law.2
    ∙ sym (ap (λ (s : State). s.docs) c.in_ok-id.ensures.same) in
    let fitting = c.in_ok-id.ensures.usable c.requires.usable in
    subst (λ (l : Live). Fits l (before_changes (docs c.note.new.self.docs) es))
    (sym (c.note.ensures.live ∙ c.in_ok-install.ensures.others.live))
    (subst (λ (ds : List Tree). Fits roomy.live ds) (sym back) fitting.fitting.lives)

pub tell_live-requires-clause-index : goal.tell_live-requires-clause-index
tell_live-requires-clause-index g c =
    index_as c.install.new.self c.note.new.self c.note.ensures.index c.note.ensures.docs
    c.in_ok-install.ensures.index

pub returns-in-Ok-clause-does : goal.returns-in-Ok-clause-does
returns-in-Ok-clause-does g c =
    let s = state c.args.self.now in
    let tx = c.args.tx.now in
    let n = c.args.line in
    let cs = prepared c.args.prepared.now in
    let after = after_changes s.docs cs in
    let tally = c.in-Ok.tally in
    let told = c.write_events.new.out.items in
    let heard = events tx s.moment cs s.listeners in
    let roomy = state c.room_for.new.self in
    let stored = c.install.new.self in
    let noted : state c.note.new.self ≡ with_used tx (with_docs after s) =
    c.note.ensures.state
    ∙ ap (λ id. with_used id (state stored)) c.in_ok-id.ensures.copy
    ∙ ap (λ (x : State). with_used tx x)
    (but_store c.room_for.new.self stored c.in_ok-install.ensures.others)
    ∙ ap (λ (ds : List Tree). with_used tx (with_docs ds roomy)) c.in_ok-install.ensures.docs
    ∙ ap (λ (x : State). with_used tx (with_docs (after_changes x.docs cs) x)) c.in_ok-id.ensures.same in
    says_installed c.args.out.now.items c.write_committed.new.out.items told
    c.tell_live.new.out.items tally c.tell_live.new.self s n tx after cs
    (c.in-Ok.ensures.state
    ∙ ap (λ (x : State). with_lives (all_refreshed x.docs x.lives) x) noted)
    (record {
      unspent = c.in-Ok.ensures.spent ∙ c.note.ensures.spent
          ∙ c.in_ok-install.ensures.others.spent
          ∙ (c.in_ok-id.ensures.usable c.requires.usable).unspent;
      fitting = record {
        lives = c.in-Ok.ensures.fits;
        index = index_as c.note.new.self c.tell_live.new.self c.in-Ok.ensures.index_kept
            c.in-Ok.ensures.docs
            (index_as stored c.note.new.self c.note.ensures.index c.note.ensures.docs
            c.in_ok-install.ensures.index);
      };
    })
    c.in_ok-write_committed.ensures
    c.in_ok-events.ensures.lines
    (c.in-Ok.ensures.lines
    ∙ ap (λ (x : State). told ++ live_lines n (news x.docs x.lives)) noted)
    (subst (λ (x : State). IsTallyOf tally (length heard) (length (news x.docs x.lives))) noted
    (subst (λ e. IsTallyOf tally e
    (length (news (state c.note.new.self).docs (state c.note.new.self).lives)))
    c.in_ok-events.ensures.count c.in-Ok.ensures.tally))

pub returns-in_err-install-clause-leaves : goal.returns-in_err-install-clause-leaves
returns-in_err-install-clause-leaves g c =
    let tx = c.args.tx.now in
    let cs = prepared c.args.prepared.now in
    kept_on _
    (leaves_from c.args.self.now c.room_for.new.self c.install.new.self
    (λ (s : State). installed s tx (after_changes s.docs cs) cs) c.in_ok-id.ensures.same
    c.in_err-install.ensures.leaves)
