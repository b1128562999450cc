-- The lemmas by which a function that looks at a token is shown.
use Rattle.cs_grammar.proofs.Looks.{left_at, no_key_at, no_sign_at, sign_at}

pub ruleset sign = (sign_at, no_sign_at)

pub ruleset key = (left_at, no_key_at)
