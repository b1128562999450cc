-- The key of a filter: which documents alone can make it true, as far as its form tells: this
-- project's profile, over the operators of GROQ-1.revision1, "And operator", "Equality operators",
-- "In operator", "references()".
use Rattle.std.specs.Prelude.{ℕ, List, [], ◌∷◌, ◌++◌, Bool, true, false, nat_le, length, filter, flat_map, Option, Some, None, option_map, option_and_then, option_to_list, codes, if◌then◌else◌}
use Rattle.std.specs.Option.{option_or}
use Rattle.std.specs.Str.{bytes_eq}
use Rattle.cs_value.specs.Tree.{Tree, Pairs}
use Rattle.cs_syntax.specs.declared.tree.BinSign.TheVariants as sign
use Rattle.cs_syntax.specs.Functions.{without_global}
use Rattle.cs_syntax.specs.Expression.{Expression, word, round, call, chain, run, within, Operands, no_operands, more_operands, Arguments, no_arguments, more_arguments, argument}
use Rattle.cs_view.specs.Limits.{most_names}
use Rattle.cs_view.specs.declared.key.Scalar.{Scalar}
use Rattle.cs_view.specs.declared.key.Scalar.TheVariants.{Bool as Boolean, Num, Text}
use Rattle.cs_view.specs.declared.key.Key.{Key}
use Rattle.cs_view.specs.declared.key.Key.TheVariants.{All, Id, Path, Elem, Ref}
use Rattle.cs_plan.specs.Steps.{names_of}
use Rattle.cs_plan.specs.Constants.{constant}

-- At most four names: a document is looked up by no longer path.
abbrev pub few : List (List ℕ) → Option (List (List ℕ))
few names = if nat_le (length names) most_names then Some names else None

-- An attribute path: a word and at most three steps `.w` or `["w"]`.
abbrev pub path_of : Expression → Option (List (List ℕ))
path_of (word w) = few (w ∷ [])
path_of (chain (word w) ss) = option_and_then (λ names. few (w ∷ names)) (names_of ss)
path_of _ = None

-- The names are `_id` alone.
abbrev pub is_id_path : List (List ℕ) → Bool
is_id_path (name ∷ []) = bytes_eq name (codes "_id")
is_id_path names = false

-- The key of what has this value at these names: `Id` of a text at `_id`, else `Path`.
abbrev pub equals_key : List (List ℕ) → Scalar → Key
equals_key names (Text t) = if is_id_path names then Id t else Path names (Text t)
equals_key names s = Path names s

-- What f makes of two things, where both are there.
abbrev pub of_both : {A B C : Type 0} → (A → B → C) → Option A → Option B → Option C
of_both f (Some a) (Some b) = Some (f a b)
of_both f a b = None

-- The key of `p == c` and of `c == p`, where one side is a path and the other a constant.
abbrev pub equality_key : Expression → Expression → List Tree → Pairs → Option Key
equality_key left right scope params =
    option_or (of_both equals_key (path_of left) (constant right scope params))
    (of_both equals_key (path_of right) (constant left scope params))

-- The key of `c in p`.
abbrev pub element_key : Expression → Expression → List Tree → Pairs → Option Key
element_key left right scope params = of_both Elem (path_of right) (constant left scope params)

-- The text that a constant is.
abbrev pub scalar_text : Scalar → Option (List ℕ)
scalar_text (Boolean b) = None
scalar_text (Num n) = None
scalar_text (Text t) = Some t

-- The key of `references(c)`, where this is its one argument and c a text.
abbrev pub reference_key : List ℕ → Arguments → List Tree → Pairs → Option Key
reference_key name (more_arguments (argument c) no_arguments) scope params =
    if bytes_eq (without_global name) (codes "references")
    then option_map Ref (option_and_then scalar_text (constant c scope params)) else None
reference_key name args scope params = None

-- The key that a conjunct gives, if it gives one.
abbrev pub conjunct_key : Expression → List Tree → Pairs → Option Key
conjunct_key (run left (more_operands sign.Eq right no_operands)) scope params =
    equality_key left right scope params
conjunct_key (within left right) scope params = element_key left right scope params
conjunct_key (call name args) scope params = reference_key name args scope params
conjunct_key _ scope params = None

-- Each operator is `&&`.
abbrev pub all_and : Operands → Bool
all_and no_operands = true
all_and (more_operands sign.And e rest) = all_and rest
all_and _ = false

abbrev mutual
  -- The conjuncts of a filter: what `&&` joins, from the left; round brackets around one are
  -- opened.
  pub conjuncts : Expression → List Expression
  conjuncts (round e) = conjuncts e
  conjuncts (run e rest) =
      if all_and rest then conjuncts e ++ operand_conjuncts rest else run e rest ∷ []
  conjuncts e = e ∷ []

  -- The same of the right sides of a run of `&&`.
  pub operand_conjuncts : Operands → List Expression
  operand_conjuncts no_operands = []
  operand_conjuncts (more_operands s e rest) = conjuncts e ++ operand_conjuncts rest

-- The keys that these conjuncts give, from the left.
abbrev pub keys_given : List Tree → Pairs → List Expression → List Key
keys_given scope params es = flat_map (λ e. option_to_list (conjunct_key e scope params)) es

-- The keys that a filter gives, from the left, in the scope in which its chain stands: those of its
-- conjuncts.
abbrev pub filter_keys : Expression → List Tree → Pairs → List Key
filter_keys e scope params = keys_given scope params (conjuncts e)

-- A key is one of an id.
abbrev pub is_id_key : Key → Bool
is_id_key (Id t) = true
is_id_key k = false

-- A key is one of a reference.
abbrev pub is_ref_key : Key → Bool
is_ref_key (Ref t) = true
is_ref_key k = false

-- A key is one of a value at a path.
abbrev pub is_path_key : Key → Bool
is_path_key (Path names s) = true
is_path_key k = false

-- A key is one of an element of a list at a path.
abbrev pub is_element_key : Key → Bool
is_element_key (Elem names s) = true
is_element_key k = false

-- The keys by their kinds: an id, then a reference, then a value at a path, then an element of a
-- list; those of one kind from the left.
abbrev pub by_kind : List Key → List Key
by_kind ks =
    filter is_id_key ks
    ++ (filter is_ref_key ks ++ (filter is_path_key ks ++ filter is_element_key ks))

-- The first key, `All` where there is none.
abbrev pub first_or_all : List Key → Key
first_or_all [] = All
first_or_all (k ∷ ks) = k

-- The leftmost of the first kind that is among the keys; `All` where there is none.
abbrev pub first_by_kind : List Key → Key
first_by_kind ks = first_or_all (by_kind ks)

-- The key of a filter, in the scope in which its chain stands: the first by kind of those that it
-- gives.
abbrev pub key_in : Expression → List Tree → Pairs → Key
key_in e scope params = first_by_kind (filter_keys e scope params)
