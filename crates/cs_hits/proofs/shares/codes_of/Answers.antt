use Rattle.std.proofs.Common.{◌∙◌, ap}
use Rattle.cs_codes.specs.Codes.{is_among}
use Rattle.cs_hits.specs.Shares.{shares_looked}
use Rattle.cs_hits.proofs.Coding.{among-map}
use Rattle.cs_hits.proofs.shares.codes_of.Goals as goal

pub returns : goal.returns
returns c = record {
  ascend = c.sort_codes.ensures.ascending;
  exact = λ n.
      c.sort_codes.ensures.among n
      ∙ (ap (is_among n) c.in_ok-codes.ensures
      ∙ among-map c.args.seed.now n (shares_looked c.args.shares.now));
}
