use Rattle.std.proofs.Common.{length, take, drop, replicate, ℕ, IsUtf8, length-append, length-drop, sym, ap, ◌∙◌, subst, arith}
use Rattle.cs_value.proofs.Shorts.{take_before}
use Rattle.cs_value.proofs.txt.inside.Short.widened.Goals as goal
use lib.ListN.{length-replicate}

pub invariant_of-result : goal.invariant_of-result
invariant_of-result g c =
    let len = c.self.inside.len in
    let copied = c.copy_from_slice.new.self in
    let made = c.copy_from_slice.ensures.after in
    let all = ap length made ∙ c.self.invariant.1 in
    let places = replicate {A = ℕ} g.row.M 0 in
    let rest = drop g.row.N places in
    let fits = c.self.invariant.0 in (
      omega (arith, fits, c.requires),
      omega (
        arith,
        all,
        c.requires,
        length-append copied rest,
        length-drop g.row.N places,
        length-replicate {A = ℕ} g.row.M 0,
      ),
      subst (λ text. Prim.∥◌∥₁ (IsUtf8 text))
          (sym (take_before len copied rest (omega (arith, fits, all)) ∙ ap (take len) made))
          c.self.invariant.2,
    )
