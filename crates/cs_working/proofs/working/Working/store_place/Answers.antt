use Rattle.std.proofs.Common.{◌≡◌, ◌∙◌, Some, option_map, subst}
use Rattle.cs_view.specs.Dataset.{standing}
use Rattle.cs_docs.specs.Store as store
use Rattle.cs_docs.specs.declared.docs.Docs.{Docs}
use Rattle.cs_working.proofs.Placing.{low_place}
use Rattle.cs_working.proofs.working.Working.store_place.Goals as goal

pub returns : goal.returns
returns c =
    low_place c.args.self.now c.place.result c.place.ensures.low
    ∙ subst (λ (s : Docs). option_map (store.doc_at s) c.place.result ≡ option_map Some (standing c.args.id.now (store.docs s)))
    c.docs.ensures c.place.ensures.found
