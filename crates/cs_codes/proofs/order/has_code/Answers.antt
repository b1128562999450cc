use Rattle.std.proofs.Common.{◌∙◌}
use Rattle.cs_codes.proofs.Searched.{code_found}
use Rattle.cs_codes.proofs.order.has_code.Goals as goal

pub returns : goal.returns
returns c =
    c.is_ok.ensures.value
    ∙ code_found c.args.ascending.now c.args.code c.binary_search.result c.binary_search.ensures.position c.requires
