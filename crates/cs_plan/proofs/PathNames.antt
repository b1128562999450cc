-- The names of steps.
use Rattle.std.proofs.lemmas.Grind.{common_steps}
use Rattle.std.proofs.Common.{◌≡◌, ℕ, ◌<◌, ◌+◌, sym, ◌∙◌, append_assoc, length-append, List, [], ◌∷◌, ◌++◌, map, length, Option, Some, None, option_map, option_and_then, refl, ap, arith, true, false, true≢false, suc, ◌≤◌, is_some}
use Rattle.std.proofs.lemmas.List.{length-map}
use Rattle.cs_syntax.specs.Expression.{Step, Steps, more_steps, steps_of}
use Rattle.cs_syntax.specs.declared.tree.Step.{Step as CodeStep}
use Rattle.cs_syntax.specs.View.{step_of}
use Rattle.cs_plan.specs.Steps.{name_of, names_of}
use Rattle.std.proofs.Common.{Vec, Box, Global}
use Rattle.cs_syntax.specs.Expression.{chain}
use Rattle.cs_syntax.specs.View.{expression}
use Rattle.cs_syntax.specs.declared.tree.Expr.{Expr}
use Rattle.cs_syntax.specs.declared.tree.Expr as code
use Rattle.std.specs.Prelude.{codes, unwrap_or, ◌&&◌}
use Rattle.std.specs.Str.{bytes_eq}
use Rattle.cs_plan.specs.Filters.{few, path_of, is_id_path}
use Rattle.cs_plan.specs.Constants.{at_names}
use Rattle.cs_plan.specs.Parts.{path_names, tree_at}
use Rattle.cs_syntax.proofs.Views.{chain_parts, expression_word}
use Rattle.std.specs.Option.{option_map_or}
use Rattle.cs_value.specs.Tree.{Tree, null}
use Rattle.cs_value.specs.Words.{field}

both_named : (name : Option (List ℕ)) (names : Option (List (List ℕ))) → is_some (option_and_then (λ n. option_map (λ ns. n ∷ ns) names) name) ≡ is_some name && is_some names
both_named None names = refl
both_named (Some n) None = refl
both_named (Some n) (Some ns) = refl

pub named_more : (s : Step) (ss : Steps) → is_some (names_of (more_steps s ss)) ≡ is_some (name_of s) && is_some (names_of ss)
named_more s ss = both_named (name_of s) (names_of ss)

more : (name : Option (List ℕ)) (names : Option (List (List ℕ))) (v : Tree)
    → option_map_or (λ ns. at_names ns v)
    (option_and_then (λ n. option_map (λ ns. n ∷ ns) names) name) null
    ≡ option_map_or (λ n. option_map_or (λ ns. at_names ns (field n v)) names null) name null
more None names v = refl
more (Some n) None v = refl
more (Some n) (Some ns) v = refl

-- the value at the names of steps is that of the others at the attribute of the first
pub tree_at_more : (s : Step) (ss : Steps) (v : Tree) → tree_at (more_steps s ss) v
    ≡ option_map_or (λ name. tree_at ss (field name v)) (name_of s) null
tree_at_more s ss v = more (name_of s) (names_of ss) v

named_in_front : (n : List ℕ) (name : Option (List ℕ)) (names : Option (List (List ℕ))) → name ≡ Some n → is_some names ≡ true
    → unwrap_or (option_and_then (λ a. option_map (λ ns. a ∷ ns) names) name) [] ≡ n ∷ unwrap_or names []
named_in_front n name None is all = absurd (true≢false (sym all))
named_in_front n name (Some ns) is all = ap (λ (o : Option (List ℕ)). unwrap_or (option_and_then (λ a. Some (a ∷ ns)) o) []) is

-- the names of steps are the first and those of the others
pub name_before : (n : List ℕ) (s : Step) (ss : Steps) → name_of s ≡ Some n → is_some (names_of ss) ≡ true → unwrap_or (names_of (more_steps s ss)) [] ≡ n ∷ unwrap_or (names_of ss) []
name_before n s ss is all = named_in_front n (name_of s) (names_of ss) is all

not_few : (names : List (List ℕ)) → 4 < length names → few names ≡ None
not_few names long = grind (arith, common_steps)

behind : (front : List (List ℕ)) (o : Option (List (List ℕ))) (name : Option (List ℕ))
    → ((n : List ℕ) → option_and_then (λ ns. few ((front ++ n ∷ []) ++ ns)) o ≡ None)
    → option_and_then (λ ns. few (front ++ ns)) (option_and_then (λ n. option_map (λ ns. n ∷ ns) o) name) ≡ None
behind front o None h = refl
behind front None (Some n) h = refl
behind front (Some ns) (Some n) h = ap few (sym (append_assoc front (n ∷ []) ns)) ∙ h n

many : (front : List (List ℕ)) (ss : List Step) → 4 < length front + length ss → option_and_then (λ names. few (front ++ names)) (names_of (steps_of ss)) ≡ None
many front [] long = not_few (front ++ []) (omega (arith, length-append front []))
many front (s ∷ ss) long = behind front (names_of (steps_of ss)) (name_of s) (λ n. many (front ++ n ∷ []) ss (omega (arith, length-append front (n ∷ []))))

pub too_many : (name : List ℕ) (ss : List CodeStep) → 3 < length ss → None ≡ option_and_then (λ names. few (name ∷ names)) (names_of (steps_of (map step_of ss)))
too_many name ss long = sym (many (name ∷ []) (map step_of ss) (omega (arith, length-map ss step_of)))

one_more : (name : Option (List ℕ)) (names : Option (List (List ℕ))) (n : ℕ) → length (unwrap_or names []) ≤ n
    → length (unwrap_or (option_and_then (λ a. option_map (λ ns. a ∷ ns) names) name) []) ≤ suc n
one_more None names n h = omega arith
one_more (Some a) None n h = omega arith
one_more (Some a) (Some ns) n h = omega (arith, h)

no_more : (ss : List Step) → length (unwrap_or (names_of (steps_of ss)) []) ≤ length ss
no_more [] = omega arith
no_more (s ∷ ss) = one_more (name_of s) (names_of (steps_of ss)) (length ss) (no_more ss)

is_few : (names : List (List ℕ)) → length names ≤ 4 → few names ≡ Some names
is_few names short = grind (arith, common_steps)

all_few : (w : List ℕ) (o : Option (List (List ℕ))) → length (unwrap_or o []) ≤ 3 → is_some o ≡ true → Some (w ∷ unwrap_or o []) ≡ option_and_then (λ names. few (w ∷ names)) o
all_few w None short is = absurd (true≢false (sym is))
all_few w (Some ns) short is = sym (is_few (w ∷ ns) (omega (arith, short)))

pub few_names : (w : List ℕ) (ss : List CodeStep) → length ss ≤ 3 → is_some (names_of (steps_of (map step_of ss))) ≡ true
    → Some (path_names w (steps_of (map step_of ss))) ≡ option_and_then (λ names. few (w ∷ names)) (names_of (steps_of (map step_of ss)))
few_names w ss short is = all_few w (names_of (steps_of (map step_of ss))) (omega (arith, length-map ss step_of, no_more (map step_of ss))) is

unnamed : (w : List ℕ) (o : Option (List (List ℕ))) → is_some o ≡ false → None ≡ option_and_then (λ names. few (w ∷ names)) o
unnamed w None is = refl
unnamed w (Some ns) is = absurd (true≢false is)

pub no_names : (w : List ℕ) (ss : Steps) → is_some (names_of ss) ≡ false → None ≡ option_and_then (λ names. few (w ∷ names)) (names_of ss)
no_names w ss is = unnamed w (names_of ss) is

longer : (w : List ℕ) (name : Option (List ℕ)) (names : Option (List (List ℕ))) → is_some (option_and_then (λ a. option_map (λ ns. a ∷ ns) names) name) ≡ true
    → false ≡ is_id_path (w ∷ unwrap_or (option_and_then (λ a. option_map (λ ns. a ∷ ns) names) name) [])
longer w None names is = absurd (true≢false (sym is))
longer w (Some a) None is = absurd (true≢false (sym is))
longer w (Some a) (Some ns) is = refl

-- a path of a word and steps is not `_id` alone
pub id_longer : (w : List ℕ) (ss : List CodeStep) → 0 < length ss → is_some (names_of (steps_of (map step_of ss))) ≡ true → false ≡ is_id_path (path_names w (steps_of (map step_of ss)))
id_longer w [] some is = absurd (omega (arith, some))
id_longer w (s ∷ ss) some is = longer w (name_of (step_of s)) (names_of (steps_of (map step_of ss))) is

pub id_alone : (w : List ℕ) (ss : List CodeStep) → length ss ≡ 0 → bytes_eq w (codes "_id") ≡ is_id_path (path_names w (steps_of (map step_of ss)))
id_alone w [] none = refl
id_alone w (s ∷ ss) none = absurd (omega (arith, none))

pub path_word : (e : Expr) (base : Box Expr Global) (v : Vec CodeStep Global) (b : Expr) (ss : List CodeStep) (w : List ℕ) → e ≡ code.Chain base v → b ≡ base.value → b ≡ code.Word w → ss ≡ v.items
    → option_and_then (λ names. few (w ∷ names)) (names_of (steps_of (map step_of ss))) ≡ path_of (expression e)
path_word e base v b ss w is there word same = sym (ap path_of (chain_parts e base v b ss is there same ∙ ap (λ x. chain x (steps_of (map step_of ss))) (ap expression word ∙ expression_word w)))
