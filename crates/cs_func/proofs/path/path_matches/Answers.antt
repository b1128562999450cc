use Rattle.std.proofs.Common.{sym, ◌∙◌}
use Rattle.cs_func.proofs.Segmented.{path-is}
use Rattle.cs_func.proofs.path.path_matches.Goals as goal

pub returns-in-Matched : goal.returns-in-Matched
returns-in-Matched c = sym c.in-Matched.ensures ∙ path-is c.args.pattern.now c.args.text.now _ _ c.as_bytes.ensures.value c.as_bytes-2.ensures.value

pub returns-in-Failed : goal.returns-in-Failed
returns-in-Failed c = sym c.in-Failed.ensures ∙ path-is c.args.pattern.now c.args.text.now _ _ c.as_bytes.ensures.value c.as_bytes-2.ensures.value

pub returns-in-Any : goal.returns-in-Any
returns-in-Any c =
    c.matches_after_some.ensures ∙ sym c.in-Any.ensures.same ∙ path-is c.args.pattern.now c.args.text.now _ _ c.as_bytes.ensures.value c.as_bytes-2.ensures.value
