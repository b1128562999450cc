use Rattle.std.proofs.Common.{◌≡◌, true, false, cond, drop}
use Rattle.cs_index.specs.Entries.{is_put}
use Rattle.cs_index.specs.Spreading.{is_spread}
use Rattle.cs_index.specs.declared.entry.Entry.{Entry}
use Rattle.cs_index.proofs.build.list_codes.Given as goal

abbrev pub invariant-loop-code : goal.invariant-loop-code
invariant-loop-code l = (q : Entry) → cond (is_put (λ x. false) l.place (drop l.code-index l.code-items) q) true (is_spread q l.spread) ≡ cond (is_put (λ x. false) l.place l.code-items q) true (is_spread q l.fn.spread)
