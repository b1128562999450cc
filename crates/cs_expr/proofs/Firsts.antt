-- The first elements of an order, as the parts of the code give them.
use Rattle.std.proofs.Common.{◌≡◌, List, [], map, refl, ap, ◌∙◌, ℕ, Bool, Option, Some}
use Rattle.cs_value.specs.Words.{as_list, list_of}
use Rattle.cs_value.specs.Tree.{Tree}
use Rattle.cs_meaning.specs.Ordered.{Ranked, ordered, ranked}
use Rattle.cs_order.specs.First.{first_elements, all_kept, in_order}
use Rattle.cs_order.proofs.Enters.{first_sorted}

pub first_of_order : (ds es fs : List Bool) (f : Tree → List Tree) (limit : Option ℕ) (v : Tree) (ts items : List Tree) (rs ss : List Ranked) → as_list v ≡ Some ts
    → rs ≡ all_kept es limit [] (map (ranked f) ts) → ss ≡ in_order fs limit rs → items ≡ map (λ r. r.item) ss → es ≡ ds → fs ≡ ds
    → list_of items ≡ first_elements limit (ordered ds f v)
first_of_order ds es fs f limit v ts items rs ss is is-rs is-ss is-items e-is f-is =
    first_sorted ds ds f limit v ts items rs ss is refl
    (is-rs ∙ ap (λ (bs : List Bool). all_kept bs limit [] (map (ranked f) ts)) e-is)
    (is-ss ∙ ap (λ (bs : List Bool). in_order bs limit rs) f-is) is-items
