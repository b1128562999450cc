use Rattle.std.proofs.Common.{◌∙◌, rules}
use Rattle.cs_keys.specs.Keys.{all_keys}
use Rattle.cs_kept.proofs.Coded.{coded-of}
use Rattle.cs_kept.proofs.evaluated.evaluate.Goals as goal

pub returns : goal.returns
returns g c = record {
  answer = c.in_ok-answer.ensures ∙ c.in_ok-eval.ensures.value;
  keys = search rules;
  coded = coded-of c.args.seed.now (all_keys c.in_ok-keys.keys) _ c.in_ok-keys.keys.codes.items c.in_ok-keys.ensures.keys c.in_ok-keys.ensures.codes;
}
