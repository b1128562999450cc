-- What a test of being the same tree says.
use Rattle.std.proofs.Common.{◌≡◌, Bool, true, false, refl, sym, ap, ◌∙◌}
use Rattle.std.specs.Prelude.{not}
use Rattle.cs_value.specs.Tree.{Tree}
use Rattle.cs_value.specs.Same.{same_tree}
use Rattle.cs_view.proofs.Sames.{same-one, one-same}

bools : (r s : Bool) → (r ≡ true → s ≡ true) → (s ≡ true → r ≡ true) → r ≡ s
bools true s f g = sym (f refl)
bools false true f g = g refl
bools false false f g = refl

pub said_same : (r : Bool) (a b : Tree) → (r ≡ true → a ≡ b) → (a ≡ b → r ≡ true) → r ≡ same_tree a b
said_same r a b f g = bools r (same_tree a b) (λ h. ap (same_tree a) (sym (f h)) ∙ one-same a) (λ h. g (same-one a b h))

-- a tree that is the other is not another
pub not_another : (a b : Tree) → a ≡ b → false ≡ not (same_tree b a)
not_another a b h = ap not (sym (one-same a) ∙ ap (λ t. same_tree t a) h)
