-- Functions by the number of their arguments, and of the parts of a list.
use Rattle.std.proofs.Common.{◌≡◌, ℕ, List, map, length, refl, sym, ap, ◌∙◌, true, true≢false, pos, None}
use Rattle.std.proofs.lemmas.List.{length-map}
use Rattle.cs_value.specs.Words.{list_of}
use Rattle.cs_value.specs.Tree.{Tree, null, integer}
use Rattle.cs_value.proofs.Views.{members-trees}
use Rattle.cs_func.specs.Functions.{has_two, value}
use Rattle.cs_func.specs.Lists.{count}
use Rattle.cs_func.specs.Texts.{size}
use Rattle.cs_func.specs.declared.function.Function.{Function}
use Rattle.cs_func.specs.declared.function.Function.TheVariants.{Join, Split, StartsWith}

pub one_of_two : (f : Function) (x : Tree) → has_two f ≡ true → value f x None ≡ null
one_of_two Join x h = refl
one_of_two Split x h = refl
one_of_two StartsWith x h = refl
one_of_two _ x h = absurd (true≢false (sym h))

pub count_of_parts : {A : Type 0} (f : A → Tree) (xs : List A) → count (list_of (map f xs)) ≡ integer (pos (length xs))
count_of_parts f xs = ap (λ (us : List Tree). integer (pos (length us))) (members-trees (map f xs)) ∙ ap (λ (n : ℕ). integer (pos n)) (length-map xs f)

pub size_of_parts : {A : Type 0} (f : A → Tree) (xs : List A) → size (list_of (map f xs)) ≡ integer (pos (length xs))
size_of_parts f xs = ap (λ (us : List Tree). integer (pos (length us))) (members-trees (map f xs)) ∙ ap (λ (n : ℕ). integer (pos n)) (length-map xs f)

pub ruleset lengths = (count_of_parts, size_of_parts)
