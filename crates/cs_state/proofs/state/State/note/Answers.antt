use Rattle.std.proofs.Common.{ap, true, string_bytes}
use Rattle.std.proofs.lemmas.Map.Text.{hash_set_updates_text}
use Rattle.indexmap.specs.IndexSet.{contains_text}
use Rattle.cs_docs.specs.Store.{docs}
use Rattle.cs_listen.specs.Listeners.{listeners}
use Rattle.cs_live.specs.Entries.{lives}
use Rattle.cs_state.specs.State.{seen}
use Rattle.cs_state.proofs.Noting.{noted}
use Rattle.cs_state.proofs.state.State.note.Goals as goal

pub returns-clause-state : goal.returns-clause-state
returns-clause-state c =
    let id = string_bytes c.args.id in
    let old = c.args.self.now.used in
    let new = c.insert.new.self in
    ap (λ used. seen (docs c.args.self.now.docs) c.args.self.now.moment used
    (lives c.args.self.now.live) (listeners c.args.self.now.listeners))
    (noted (contains_text old) (contains_text new) id
    (hash_set_updates_text id old new true c.in-Ok.ensures.updates))
