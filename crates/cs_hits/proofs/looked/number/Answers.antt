use Rattle.std.proofs.Common.{◌∙◌, ◌+◌, ◌*◌, ◌%◌, ◌^◌, ap, sym, ℕ, List, length, drop}
use Rattle.std.proofs.lemmas.List.{drop_more}
use Rattle.cs_hits.specs.Looked.{number}
use Rattle.cs_hits.proofs.Digits.{step}
use Rattle.cs_hits.proofs.looked.number.Goals as goal

pub loop-byte-preserved : goal.loop-byte-preserved
loop-byte-preserved c =
    let bytes = c.args.bytes.now in let i = c.loop-byte.byte-index in
    ap (λ (b : ℕ). ((c.loop-byte.low * 31 % 2 ^ 64 + b) % 2 ^ 64 * 31 ^ length (drop (i + 1) bytes) + number (drop (i + 1) bytes)) % 2 ^ 64) c.from.ensures
    ∙ step c.loop-byte.low _ (drop (i + 1) bytes)
    ∙ ap (λ (bs : List ℕ). (c.loop-byte.low * 31 ^ length bs + number bs) % 2 ^ 64) (sym (drop_more bytes i 0 c.loop-byte-test.true))
    ∙ c.loop-byte.invariant
