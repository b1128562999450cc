-- The sides of each change between two datasets differ.
use Rattle.std.proofs.Common.{◌≡◌, ◌≢◌, ℕ, List, [], ◌∷◌, Option, Some, None, sym, ap, ◌∙◌}
use Rattle.std.specs.FinMap.Entries.{find}
use Rattle.cs_value.specs.Tree.{Tree}
use Rattle.cs_view.specs.Dataset.{id_cmp, standing}
use Rattle.cs_view.specs.Changes.{Edit, IsChangeAt, AreChangesBetween}
use Rattle.cs_view.proofs.Changed.{AreFoundIn, each_found}
use Rattle.cs_txn.specs.Laws.{EachDiffers}

abbrev Sides : Type 0
Sides = Option Tree × Option Tree

apart : (b a : Option Tree) (s : Sides) → b ≢ a → s ≡ (b, a) → s.0 ≢ s.1
apart b a s h is e = h (sym (ap (λ p. p.0) is) ∙ e ∙ ap (λ p. p.1) is)

differ_at : (b a : Option Tree) (f : Option Sides) (s : Sides) → IsChangeAt b a f → f ≡ Some s
    → s.0 ≢ s.1
differ_at b a None s h is = absurd cc
differ_at b a (Some t) s h is = let e : t ≡ s = cc in apart b a s h.0 (sym e ∙ h.1)

each_at : (one other : List Tree) (all cs : List Edit)
    → ((q : List ℕ) → IsChangeAt (standing q one) (standing q other) (find id_cmp q all))
    → AreFoundIn all cs → EachDiffers cs
each_at one other all [] h f = tt
each_at one other all (c ∷ cs) h f = (
  differ_at (standing c.0 one) (standing c.0 other) (find id_cmp c.0 all) c.1 (h c.0) f.0,
  each_at one other all cs h f.1,
)

pub each-differs : (one other : List Tree) (cs : List Edit) → AreChangesBetween one other cs
    → EachDiffers cs
each-differs one other cs between = each_at one other cs cs between.1 (each_found cs between.0)
