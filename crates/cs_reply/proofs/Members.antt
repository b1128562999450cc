-- The attributes of an object, by what each of them is.
use Rattle.std.proofs.Common.{◌≡◌, ◌∙◌, ap, ℕ, List, [], ◌∷◌, map}
use Rattle.cs_value.specs.Tree.{Tree}
use Rattle.cs_json.specs.Nodes.{member_pair}
use Rattle.cs_json.specs.declared.node.Member.{Member}

pub of_three : (ms : List Member) (a b c : Member) (x y z : List ℕ × Tree) → ms ≡ a ∷ b ∷ c ∷ [] → member_pair a ≡ x → member_pair b ≡ y → member_pair c ≡ z → map member_pair ms ≡ x ∷ y ∷ z ∷ []
of_three ms a b c x y z is e f g = ap (λ v. map member_pair v) is ∙ ap (λ v. v ∷ member_pair b ∷ member_pair c ∷ []) e ∙ ap (λ v. x ∷ v ∷ member_pair c ∷ []) f ∙ ap (λ v. x ∷ y ∷ v ∷ []) g

pub of_four : (ms : List Member) (a b c d : Member) (x y z w : List ℕ × Tree) → ms ≡ a ∷ b ∷ c ∷ d ∷ [] → member_pair a ≡ x → member_pair b ≡ y → member_pair c ≡ z → member_pair d ≡ w → map member_pair ms ≡ x ∷ y ∷ z ∷ w ∷ []
of_four ms a b c d x y z w is e f g h = ap (λ v. map member_pair v) is ∙ ap (λ v. v ∷ member_pair b ∷ member_pair c ∷ member_pair d ∷ []) e ∙ ap (λ v. x ∷ v ∷ member_pair c ∷ member_pair d ∷ []) f ∙ ap (λ v. x ∷ y ∷ v ∷ member_pair d ∷ []) g ∙ ap (λ v. x ∷ y ∷ z ∷ v ∷ []) h
