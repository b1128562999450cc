-- The lemmas by which a function that reads a token is shown.
use Rattle.cs_syntax.proofs.Meanings.{no_sign_by_kind, sign_by_kind}

pub ruleset sign = (sign_by_kind, no_sign_by_kind)
