use Rattle.std.proofs.Common.{rules}
use Rattle.std.proofs.lemmas.Fn.{always_returns_same}
use Rattle.cs_view.specs.Dataset.{id_cmp}
use Rattle.cs_view.specs.Document.{id_of}
use Rattle.cs_hits.proofs.Places.{sought}
use Rattle.cs_hits.proofs.held.seek.Goals as goal

pub returns : goal.returns
returns g c =
    let facts = c.binary_search_by.ensures in
    let by_id = facts.position (λ x. id_cmp (id_of (g.T.Held.held x)) c.args.id.now) (always_returns_same _ _ _ (λ a r h called. (search rules, search rules))) in
    sought g.T.Held.held c.args.id.now c.args.all.now c.requires _ facts.bound by_id
