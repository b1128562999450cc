-- Codes: a number for each key that an index keeps, and the numbers of the keys that a document
-- has: this project's profile. They come of a hash whose seed is the index's own. Keys that differ
-- may have one code.
use Rattle.std.specs.Prelude.{ℕ, ℤ, ◌-◌, ◌==◌, Bool, cond, List, [], ◌∷◌, ◌++◌, map, Option, Some, None}
use Rattle.std.specs.List.{list_any, fold}
use Rattle.std.specs.Bool.{nat_eq}
use Rattle.std.specs.Option.{option_to_list}
use Rattle.std.specs.Hash.{str, u8, u64, bool, i64}
use Rattle.std.specs.Hash.DefaultHasher.{finish as sip_finish}
use Rattle.std.specs.Hash.FoldHasher.{initial, write, finish}
use Rattle.std.specs.RandomState.{initial_hasher}
use Rattle.std.specs.declared.hash.FoldHasher.{FoldHasher}
use Rattle.std.specs.declared.hash.RandomState.{RandomState}
use Rattle.cs_value.specs.Tree.{Tree, null, boolean, integer, text, list, object, Trees, no_trees, more_trees, Pairs, no_pairs, more_pairs}
use Rattle.cs_value.specs.Words.{ref_of}
use Rattle.cs_view.specs.Limits.{most_names}
use Rattle.cs_view.specs.declared.key.Scalar.{Scalar}
use Rattle.cs_view.specs.declared.key.Scalar.TheVariants.{Bool as Boolean, Num, Text}
use Rattle.cs_view.specs.declared.key.Key.{Key}
use Rattle.cs_view.specs.declared.key.Key.TheVariants.{All, Id, Path, Elem, Ref}
use Rattle.cs_codes.specs.declared.seed.Seed.{Seed}

-- a hash that has read a part of a key
abbrev pub Hash : Type 0
Hash = FoldHasher

-- the hash that has read a secret alone: what SipHash gives under the keys of a run before it has
-- read anything
abbrev pub seed_of : RandomState → Seed
seed_of keys = record { begun = fold write initial (u64 (sip_finish (initial_hasher keys))) }

abbrev pub start : Seed → Hash
start seed = seed.begun

abbrev pub with_text : Hash → List ℕ → Hash
with_text h t = fold write h (str t)

-- a number that no text has as a byte tells what comes next
abbrev pub with_mark : Hash → ℕ → Hash
with_mark h m = fold write h (u8 m)

abbrev pub code_of : Hash → ℕ
code_of h = finish h

-- names, the outermost first
abbrev pub with_names : Hash → List (List ℕ) → Hash
with_names h [] = h
with_names h (n ∷ ns) = with_names (with_text h n) ns

-- behind the names: the value there, or an element of the list there
abbrev pub with_value : Hash → Hash
with_value h = with_mark h 254

abbrev pub with_element : Hash → Hash
with_element h = with_mark h 253

abbrev pub boolean_code : Hash → Bool → ℕ
boolean_code h b = code_of (fold write (with_mark h 251) (bool b))

abbrev pub number_code : Hash → ℤ → ℕ
number_code h n = code_of (fold write (with_mark h 250) (i64 n))

abbrev pub text_code : Hash → List ℕ → ℕ
text_code h t = code_of (with_text (with_mark h 249) t)

abbrev pub scalar_code : Hash → Scalar → ℕ
scalar_code h (Boolean b) = boolean_code h b
scalar_code h (Num n) = number_code h n
scalar_code h (Text t) = text_code h t

abbrev pub ref_code : Seed → List ℕ → ℕ
ref_code seed t = code_of (with_text (with_mark (start seed) 252) t)

abbrev pub id_code : Seed → List ℕ → ℕ
id_code seed t = code_of (with_text (with_mark (start seed) 248) t)

-- the code of a key; that of every document has the code 0
abbrev pub key_code : Seed → Key → ℕ
key_code seed All = 0
key_code seed (Id t) = id_code seed t
key_code seed (Path ns s) = scalar_code (with_value (with_names (start seed) ns)) s
key_code seed (Elem ns s) = scalar_code (with_element (with_names (start seed) ns)) s
key_code seed (Ref t) = ref_code seed t

-- the code of a scalar; none of another value
abbrev pub scalar_codes : Hash → Tree → List ℕ
scalar_codes h null = []
scalar_codes h (boolean b) = boolean_code h b ∷ []
scalar_codes h (integer n) = number_code h n ∷ []
scalar_codes h (text t) = text_code h t ∷ []
scalar_codes h (list ts) = []
scalar_codes h (object ps) = []

abbrev pub elements_codes : Hash → Trees → List ℕ
elements_codes h no_trees = []
elements_codes h (more_trees t ts) = scalar_codes h t ++ elements_codes h ts

-- the codes of a value at the end of some names
abbrev pub here : Hash → Tree → List ℕ
here h null = []
here h (boolean b) = scalar_codes (with_value h) (boolean b)
here h (integer n) = scalar_codes (with_value h) (integer n)
here h (text t) = scalar_codes (with_value h) (text t)
here h (list ts) = elements_codes (with_element h) ts
here h (object ps) = []

-- the codes at the attributes of an object at the end of some names, by at most so many names more
abbrev mutual
  pub inside : ℕ → Hash → Tree → List ℕ
  inside room h null = []
  inside room h (boolean b) = []
  inside room h (integer n) = []
  inside room h (text s) = []
  inside room h (list ts) = []
  inside room h (object ps) = cond (room == 0) [] (pairs_inside room h ps)

  pub pairs_inside : ℕ → Hash → Pairs → List ℕ
  pairs_inside room h no_pairs = []
  pairs_inside room h (more_pairs k t ps) =
      here (with_text h k) t ++ inside (room - 1) (with_text h k) t ++ pairs_inside room h ps

-- the code of the text that an object has as `_ref`
abbrev pub own_refs : Seed → Pairs → List ℕ
own_refs seed ps = map (ref_code seed) (option_to_list (ref_of ps))

abbrev mutual
  pub refs : Seed → Tree → List ℕ
  refs seed null = []
  refs seed (boolean b) = []
  refs seed (integer n) = []
  refs seed (text s) = []
  refs seed (list ts) = trees_refs seed ts
  refs seed (object ps) = own_refs seed ps ++ pairs_refs seed ps

  pub trees_refs : Seed → Trees → List ℕ
  trees_refs seed no_trees = []
  trees_refs seed (more_trees t ts) = refs seed t ++ trees_refs seed ts

  pub pairs_refs : Seed → Pairs → List ℕ
  pairs_refs seed no_pairs = []
  pairs_refs seed (more_pairs k t ps) = refs seed t ++ pairs_refs seed ps

-- the codes of a document
abbrev pub key_codes : Seed → Tree → List ℕ
key_codes seed d = refs seed d ++ inside most_names (start seed) d

-- the codes of what stands on a side of a change
abbrev pub side_codes : Seed → Option Tree → List ℕ
side_codes seed None = []
side_codes seed (Some d) = key_codes seed d

abbrev pub is_among : ℕ → List ℕ → Bool
is_among c cs = list_any (λ x. nat_eq c x) cs
