use Rattle.std.proofs.Common.{ℕ, ◌≤◌, take, IsUtf8, sym, ap, ◌∙◌, subst, arith}
use Rattle.cs_value.proofs.Shorts.{take_cut}
use Rattle.cs_value.proofs.txt.inside.Short.narrowed.Goals as goal
use lib.ListN.{length-replicate}

pub invariant_of-result : goal.invariant_of-result
invariant_of-result g c =
    let len = c.self.inside.len in
    let bytes = c.self.inside.bytes in
    let fits : len ≤ g.row.M = omega arith in
    let made = c.copy_from_slice.ensures.after in (
      fits,
      omega (arith, c.copy_from_slice.ensures.len, length-replicate {A = ℕ} g.row.M 0),
      subst (λ text. Prim.∥◌∥₁ (IsUtf8 text))
          (sym (ap (take len) made ∙ take_cut len g.row.M bytes fits)) c.self.invariant.2,
    )
