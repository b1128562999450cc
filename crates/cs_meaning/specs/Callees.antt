-- The arguments that calls are evaluated with: GROQ-1.revision1, "Functions".
use Rattle.std.specs.Prelude.{Option, Some, None, if◌then◌else◌}
use Rattle.cs_func.specs.Functions.{has_two}
use Rattle.cs_syntax.specs.Functions.{Arity, exactly, at_least, pairs_and_default}
use Rattle.cs_meaning.specs.Operators.{Callee, coalescing, selecting, referring, applying}

-- The arguments that a call takes where it is evaluated; none where there is no such function.
abbrev pub arity_taken : Callee → Option Arity
arity_taken coalescing = Some (at_least 0)
arity_taken selecting = Some pairs_and_default
arity_taken referring = Some (at_least 1)
arity_taken (applying (Some f)) = Some (exactly (if has_two f then 2 else 1))
arity_taken (applying None) = None
