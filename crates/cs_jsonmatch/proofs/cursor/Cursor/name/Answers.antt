use Rattle.std.proofs.Common.{List, ℕ, sym, ◌∙◌, subst}
use Rattle.cs_jsonmatch.specs.Reading.{IsNameRead}
use Rattle.cs_jsonmatch.proofs.Names.{from_start}
use Rattle.cs_jsonmatch.proofs.cursor.Cursor.name.Goals as goal

pub returns-clause-name : goal.returns-clause-name
returns-clause-name c =
    let text = c.args.self.now.rest.now in
    let n = c.name_len-end.result in
    let name_is = c.in_ok-name.ensures ∙ c.range.ensures.value ∙ from_start text n in
    subst (λ (rest : List ℕ). IsNameRead c.in_ok-name.name text rest) (sym c.range_from-self.ensures.value)
    (rw name_is c.name_len-end.ensures.name)
