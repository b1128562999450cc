use Rattle.std.proofs.Common.{◌≡◌, drop}
use Rattle.std.specs.List.{list_any}
use Rattle.cs_codes.specs.Codes.{is_among}
use Rattle.cs_hits.proofs.codes.has_some.Given as goal

abbrev pub invariant-loop-code : goal.invariant-loop-code
invariant-loop-code l =
    list_any (λ c. is_among c l.ascending) l.codes
    ≡ list_any (λ c. is_among c l.ascending) (drop l.code-index l.codes)
