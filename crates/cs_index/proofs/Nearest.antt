-- Of a document and another that may refer to a target the one with the lesser id.
use Rattle.std.proofs.Common.{◌≡◌, ℕ, List, Option, Some, None, Bool, true, false, cond, ◌&&◌, refl, sym, ap, ◌∙◌}
use Rattle.std.specs.Ordering.{is_lt}
use Rattle.cs_value.specs.Tree.{Tree}
use Rattle.cs_view.specs.Document.{id_of}
use Rattle.cs_view.specs.Dataset.{id_cmp, kept_if}
use Rattle.cs_view.specs.Keys.{has_ref}
use Rattle.cs_shelf.specs.Referring.{above}
use Rattle.cs_docs.specs.Suspects.{lesser}
use Rattle.cs_index.specs.Referring.{refers, is_below}

-- a document that is below another and refers is the lesser one; else the other is
by_tests : (u : Tree) (o : Option Tree) (a b c : Bool) → is_below (id_of u) o ≡ b
    → cond ((a && b) && c) (Some u) o ≡ lesser o (cond (c && a) (Some u) None)
by_tests u None a false c h = cc
by_tests u None true true true h = refl
by_tests u None true true false h = refl
by_tests u None false true true h = refl
by_tests u None false true false h = refl
by_tests u (Some x) true b true h = ap (λ t. cond (t && true) (Some u) (Some x)) (sym h) ∙ last (is_lt (id_cmp (id_of u) (id_of x))) where
  last : (t : Bool) → cond (t && true) (Some u) (Some x) ≡ cond t (Some u) (Some x)
  last true = refl
  last false = refl
by_tests u (Some x) true true false h = refl
by_tests u (Some x) true false false h = refl
by_tests u (Some x) false b true h = refl
by_tests u (Some x) false b false h = refl

pub nearer : (u : Tree) (o : Option Tree) (target : List ℕ) (low : Option (List ℕ))
    → cond ((above low (id_of u) && is_below (id_of u) o) && has_ref target u) (Some u) o
    ≡ lesser o (kept_if (refers target low) (Some u))
nearer u o target low = by_tests u o (above low (id_of u)) (is_below (id_of u) o) (has_ref target u) refl
