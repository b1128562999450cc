use Rattle.std.proofs.Common.{◌∙◌, ap, ℕ, None, Some, option_map}
use Rattle.cs_view.specs.Document.{id_of}
use Rattle.cs_index.specs.Picking.{under}
use Rattle.cs_index.specs.Referring.{least}
use Rattle.cs_index.proofs.Referred.{least_referrer}
use Rattle.cs_index.proofs.view.IndexedReferrers.next_referrer.Goals as goal

pub returns-in-Some : goal.returns-in-Some
returns-in-Some c =
    let v = c.args.self.now in
    let low = option_map (λ i. i.now) c.args.low in
    ap Some c.id.ensures
    ∙ ap (option_map id_of)
    (c.in-Some.ensures
    ∙ ap (λ (x : ℕ). least v.docs.now c.args.target.now low (under v.index.now.entries x) None) c.ref_code-code.ensures)
    ∙ least_referrer v.index.now.coding v.docs.now v.index.now.entries c.args.target.now (c.codes_refs.ensures c.if-not-codes_refs.false c.args.target.now) v.fits low

pub returns-in-None : goal.returns-in-None
returns-in-None c =
    let v = c.args.self.now in
    let low = option_map (λ i. i.now) c.args.low in
    ap (option_map id_of)
    (c.in-None.ensures
    ∙ ap (λ (x : ℕ). least v.docs.now c.args.target.now low (under v.index.now.entries x) None) c.ref_code-code.ensures)
    ∙ least_referrer v.index.now.coding v.docs.now v.index.now.entries c.args.target.now (c.codes_refs.ensures c.if-not-codes_refs.false c.args.target.now) v.fits low
