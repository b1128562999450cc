-- Keys of interest: pairs, each the code of a key and a number, and which numbers changes concern:
-- this project's profile.
use Rattle.std.specs.Prelude.{◌≡◌, ◌≤◌, ℕ, Bool, true, false, cond, nat_lt, nat_le, ◌&&◌, ◌||◌, List, length}
use Rattle.std.specs.declared.cmp.Ordering.{Ordering}
use Rattle.std.specs.Bool.{nat_eq}
use Rattle.std.specs.Ordering.{nat_cmp}
use Rattle.std.specs.BTreeSet.{BTreeSet, contains}
use Rattle.std.specs.List.{list_any}
use Rattle.std.specs.List.Sorted.{IsStrictlySortedBy}
use Rattle.cs_view.specs.Changes.{Edit}
use Rattle.cs_view.specs.Limits.{most_names}
use Rattle.cs_view.specs.declared.key.Key.{Key}
use Rattle.cs_view.specs.declared.key.Key.TheVariants.{All, Id, Path, Elem, Ref}
use Rattle.cs_codes.specs.Codes.{id_code, is_among, key_code, side_codes}
use Rattle.cs_codes.specs.declared.seed.Seed.{Seed}
use Rattle.cs_interest.specs.declared.pair.Pair.{Pair}
use Rattle.cs_interest.specs.declared.interest.Interest.{Interest}
use Rattle.cs_interest.specs.contracts.pair.PairOrd.TheImpl as pair_order

-- names of which there are at least one and at most four
abbrev pub are_few : List (List ℕ) → Bool
are_few ns = nat_lt 0 (length ns) && nat_le (length ns) most_names

-- the code under which interest in a key is held: that of the key, and that of every document where
-- no index keeps the key
abbrev pub interest_code : Seed → Key → ℕ
interest_code seed All = 0
interest_code seed (Id t) = id_code seed t
interest_code seed (Path ns s) = cond (are_few ns) (key_code seed (Path ns s)) 0
interest_code seed (Elem ns s) = cond (are_few ns) (key_code seed (Elem ns s)) 0
interest_code seed (Ref t) = key_code seed (Ref t)

-- ---- what is held
abbrev pub pair_cmp : Pair → Pair → Ordering
pair_cmp = pair_order.ghosts.cmp

abbrev pub pair : ℕ → ℕ → Pair
pair c n = record { code = c; number = n }

abbrev pub has_pair : BTreeSet Pair → ℕ → ℕ → Bool
has_pair m c n = contains pair_cmp m (pair c n)

-- the number stands under the code
abbrev pub holds : Interest → ℕ → ℕ → Bool
holds i c n = has_pair i.pairs c n

-- the pair is that of the number and of the code, or of one of the codes
abbrev pub is_one : ℕ → ℕ → ℕ → ℕ → Bool
is_one number code c n = nat_eq n number && nat_eq c code

abbrev pub is_of : ℕ → List ℕ → ℕ → ℕ → Bool
is_of number cs c n = nat_eq n number && is_among c cs

-- the number stands under the codes too
abbrev pub Entered : ℕ → List ℕ → Interest → Interest → Type 0
Entered number cs old new =
    (c n : ℕ) → holds new c n ≡ cond (is_of number cs c n) true (holds old c n)

-- the number stands under none of the codes
abbrev pub Left : ℕ → List ℕ → Interest → Interest → Type 0
Left number cs old new =
    (c n : ℕ) → holds new c n ≡ cond (is_of number cs c n) false (holds old c n)

-- ---- what is asked
-- the number stands under one of the codes
abbrev pub has_some : BTreeSet Pair → List ℕ → ℕ → Bool
has_some m cs n = list_any (λ c. has_pair m c n) cs

-- the change concerns the number: it stands under the code of the change's id, or under one that
-- the document before or the document after has
abbrev pub concerned : Seed → BTreeSet Pair → ℕ → Edit → Bool
concerned seed m n e =
    has_pair m (id_code seed e.0) n || has_some m (side_codes seed e.1.0) n
    || has_some m (side_codes seed e.1.1) n

-- the number stands under the code of every document, or some change concerns it
abbrev pub is_asked : Interest → List Edit → ℕ → Bool
is_asked i cs n = holds i 0 n || list_any (concerned i.seed i.pairs n) cs

-- a number of 64 bits
abbrev pub IsNumber : ℕ → Type 0
IsNumber n = n ≤ 18446744073709551615

-- the numbers ascend, and are those that are asked, and no other
pub record AreAsked (i : Interest) (cs : List Edit) (ns : List ℕ) : Type 0 where
  pub ascend : IsStrictlySortedBy nat_cmp ns
  pub exact : (n : ℕ) → IsNumber n → is_among n ns ≡ is_asked i cs n

-- numbers are added that pass a test. For private clauses.
abbrev pub Adds : (ℕ → Bool) → BTreeSet ℕ → BTreeSet ℕ → Type 0
Adds p old new =
    (n : ℕ) → IsNumber n → contains nat_cmp new n ≡ (p n || contains nat_cmp old n)
