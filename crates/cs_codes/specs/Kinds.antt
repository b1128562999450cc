-- The kinds of keys that an index may keep: the values at an attribute path, the elements of the
-- lists there, and references. Which codes a document has of some kinds: this project's profile.
use Rattle.std.specs.Prelude.{◌≡◌, ◌⊎◌, ⊤, ℕ, List, [], ◌∷◌, ◌++◌, Option, Some, None}
use Rattle.cs_value.specs.Tree.{Tree, null, boolean, integer, text, list, object}
use Rattle.cs_value.specs.Words.{followed}
use Rattle.cs_view.specs.declared.key.Key.{Key}
use Rattle.cs_view.specs.declared.key.Key.TheVariants.{Path, Elem, Ref}
use Rattle.cs_codes.specs.Codes.{Hash, start, with_names, with_value, with_element, scalar_codes, elements_codes, refs}
use Rattle.cs_codes.specs.declared.coding.Coding.{Coding}
use Rattle.cs_codes.specs.declared.kind.KeyKind.{KeyKind}
use Rattle.cs_codes.specs.declared.kind.KeyKind.TheVariants.{Path as Values, Elem as Elements, Ref as References}
use Rattle.cs_codes.specs.declared.seed.Seed.{Seed}

-- the key is one of the kind; an id and all documents are of none
abbrev pub IsOfKind : Key → KeyKind → Type 0
IsOfKind (Path ns s) (Values ms) = ns ≡ ms
IsOfKind (Elem ns s) (Elements ms) = ns ≡ ms
IsOfKind (Ref t) References = ⊤
IsOfKind k kind = ⊥

-- the key is of one of the kinds
abbrev pub IsOfSome : Key → List KeyKind → Type 0
IsOfSome k [] = ⊥
IsOfSome k (x ∷ xs) = IsOfKind k x ⊎ IsOfSome k xs

-- the codes of the value that stands at a path, and of the elements of the list there
abbrev pub value_codes : Hash → Option Tree → List ℕ
value_codes h None = []
value_codes h (Some t) = scalar_codes (with_value h) t

abbrev pub list_codes : Hash → Tree → List ℕ
list_codes h null = []
list_codes h (boolean b) = []
list_codes h (integer n) = []
list_codes h (text t) = []
list_codes h (list ts) = elements_codes (with_element h) ts
list_codes h (object ps) = []

abbrev pub element_codes : Hash → Option Tree → List ℕ
element_codes h None = []
element_codes h (Some t) = list_codes h t

-- the codes of a document's keys of a kind
abbrev pub kind_codes : Seed → KeyKind → Tree → List ℕ
kind_codes seed (Values ns) d = value_codes (with_names (start seed) ns) (followed ns d)
kind_codes seed (Elements ns) d = element_codes (with_names (start seed) ns) (followed ns d)
kind_codes seed References d = refs seed d

-- those of some kinds, one kind after the other
abbrev pub kinds_codes : Seed → List KeyKind → Tree → List ℕ
kinds_codes seed [] d = []
kinds_codes seed (k ∷ ks) d = kind_codes seed k d ++ kinds_codes seed ks d

-- the key is of a kind that is coded
abbrev pub IsCoded : Coding → Key → Type 0
IsCoded coding k = IsOfSome k coding.kinds.items

-- the codes of a document's keys of the kinds that are coded
abbrev pub coded : Coding → Tree → List ℕ
coded coding d = kinds_codes coding.seed coding.kinds.items d

-- the same of what stands on a side of a change
abbrev pub side_coded : Coding → Option Tree → List ℕ
side_coded coding None = []
side_coded coding (Some d) = coded coding d
