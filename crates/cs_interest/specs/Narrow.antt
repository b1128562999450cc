-- Of several keys, each of which a document must have, the narrowest: one that few documents are
-- expected to have. This project's profile.
use Rattle.std.specs.Prelude.{ℕ, Bool, false, cond, nat_lt, List, [], ◌∷◌, codes, fold}
use Rattle.std.specs.Str.{bytes_eq}
use Rattle.cs_view.specs.declared.key.Scalar.{Scalar}
use Rattle.cs_view.specs.declared.key.Scalar.TheVariants.{Bool as Boolean, Num, Text}
use Rattle.cs_view.specs.declared.key.Key.{Key}
use Rattle.cs_view.specs.declared.key.Key.TheVariants.{All, Id, Path, Elem, Ref}
use Rattle.cs_interest.specs.Interest.{are_few}

-- the path is `_type` alone
abbrev pub is_type : List (List ℕ) → Bool
is_type [] = false
is_type (n ∷ []) = bytes_eq n (codes "_type")
is_type (n ∷ m ∷ ns) = false

-- a boolean is the value of many documents
abbrev pub scalar_breadth : Scalar → ℕ
scalar_breadth (Boolean b) = 3
scalar_breadth (Num n) = 2
scalar_breadth (Text t) = 2

-- so is a type, and a key that no index keeps stands for every document
abbrev pub path_breadth : List (List ℕ) → Scalar → ℕ
path_breadth ns s = cond (are_few ns) (cond (is_type ns) 3 (scalar_breadth s)) 4

-- the lower, the fewer documents are expected to have the key: one has an id, few refer to one
-- document
abbrev pub breadth : Key → ℕ
breadth (Id t) = 0
breadth (Ref t) = 1
breadth (Path ns s) = path_breadth ns s
breadth (Elem ns s) = path_breadth ns s
breadth All = 5

-- the second, where it is expected to be that of fewer documents
abbrev pub narrower : Key → Key → Key
narrower a b = cond (nat_lt (breadth b) (breadth a)) b a

-- the first of the narrowest; `All` where there is no key
abbrev pub narrowest : List Key → Key
narrowest ks = fold narrower All ks
