-- The tree that the tokens of a text are, with each part made into a tree as it is read, and what
-- each part of it has. For private clauses.
use Rattle.std.specs.Prelude.{ℕ, ◌≡◌, ◌≤◌, List, [], ◌∷◌, Option, Some, option_map, option_and_then, IsUtf8, ⊤}
use Rattle.json.specs.Json as json
use Rattle.serde_json.specs.Find.{as_i64}
use Rattle.serde_json.specs.Read.{number_of}
use Rattle.cs_value.specs.Tree.{Tree, null, boolean, integer, text, list, object, Trees, no_trees, more_trees, Pairs, no_pairs, depth}
use Rattle.cs_value.specs.Pairs.{put}
use Rattle.cs_value.specs.Value.{IsValue}

abbrev pub Named : Type 0
Named = List ℕ × Tree

-- the pairs, with the named trees put among them one after another, so that the last of a name
-- stays
abbrev pub put_all : List Named → Pairs → Pairs
put_all [] ps = ps
put_all (e ∷ es) ps = put_all es (put e.0 e.1 ps)

abbrev pub whole_number : List ℕ → Option Tree
whole_number s = option_map integer (option_and_then as_i64 (number_of s))

-- nothing where a number is not whole, also one that another of the same name replaces
abbrev mutual
  pub made : json.Json → Option Tree
  made json.null = Some null
  made (json.boolean b) = Some (boolean b)
  made (json.number s) = whole_number s
  made (json.string s) = Some (text s)
  made (json.array js) = option_map list (made_items js)
  made (json.object ms) = option_map (λ es. object (put_all es no_pairs)) (named ms)

  pub made_items : json.Items → Option Trees
  made_items json.no_items = Some no_trees
  made_items (json.item j js) =
      option_and_then (λ t. option_map (more_trees t) (made_items js)) (made j)

  pub named : json.Members → Option (List Named)
  named json.no_members = Some []
  named (json.member k j ms) =
      option_and_then (λ t. option_map (λ es. (k, t) ∷ es) (named ms)) (made j)

-- a value whose lists and objects nest at most so many levels
abbrev pub Fits : ℕ → Tree → Type 0
Fits levels t = IsValue t × (depth t ≤ levels)

abbrev pub AllFit : ℕ → List Tree → Type 0
AllFit levels [] = ⊤
AllFit levels (t ∷ ts) = Fits levels t × AllFit levels ts

abbrev pub NamedFit : ℕ → List Named → Type 0
NamedFit levels [] = ⊤
NamedFit levels (e ∷ es) = IsUtf8 e.0 × Fits levels e.1 × NamedFit levels es

-- an object of the named trees, of which the last of a name stays
abbrev pub IsPutTogether : ℕ → List Named → Pairs → Type 0
IsPutTogether levels es ps = (ps ≡ put_all es no_pairs) × NamedFit levels es
