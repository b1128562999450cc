-- Postings, by which the listeners that changes concern are found: this project's profile. A
-- listener is posted under the code of the narrowest of its filter's keys.
use Rattle.std.specs.Prelude.{◌≡◌, ◌<◌, ℕ, Bool, true, false, ◌||◌, ◌&&◌, List, length, map, slice_index_or, Result, Ok, Err}
use Rattle.std.specs.Bool.{nat_eq}
use Rattle.std.specs.List.{All, AllPairs, list_any}
use Rattle.std.specs.List.Sorted.{IsNonDecreasingBy}
use Rattle.cs_value.specs.Tree.{Pairs}
use Rattle.cs_value.specs.View.{fields}
use Rattle.cs_syntax.specs.Expression.{Expression}
use Rattle.cs_codes.specs.Codes.{is_among}
use Rattle.cs_codes.specs.declared.seed.Seed.{Seed}
use Rattle.cs_interest.specs.Interest.{interest_code}
use Rattle.cs_interest.specs.Narrow.{narrowest}
use Rattle.cs_plain.specs.Keyed.{predicate_keys}
use Rattle.cs_plain.specs.Predicates.{filter}
use Rattle.cs_listen.specs.declared.listening.Listening.{Listening}
use Rattle.cs_listen.specs.declared.postings.Posting.{Posting}

-- the code of the narrowest of a filter's keys; that of every document is 0
abbrev pub filter_code : Seed → Expression → Pairs → ℕ
filter_code seed f params = interest_code seed (narrowest (predicate_keys f params))

-- the number is posted under the code
abbrev pub is_posted : ℕ → ℕ → List Posting → Bool
is_posted c n ps = list_any (λ p. nat_eq c p.code && nat_eq n p.number) ps

-- the number is posted under one of the codes, or under that of every document
abbrev pub is_sought : ℕ → List Posting → List ℕ → Bool
is_sought n ps cs = is_posted 0 n ps || list_any (λ c. is_posted c n ps) cs

-- the codes ascend
abbrev pub Ascend : List Posting → Type 0
Ascend ps = IsNonDecreasingBy (λ p. p.code) ps

-- the listener is posted under the code of its filter
abbrev pub IsPosted : Seed → List Posting → Listening → Type 0
IsPosted seed ps l =
    is_posted (filter_code seed (filter l.predicate) (fields l.params)) l.number ps ≡ true

-- each of the listeners is; their numbers ascend, and the next one is above them
pub record ArePosted (seed : Seed) (ps : List Posting) (next : ℕ) (ls : List Listening) : Type 0
  where
    pub posted : All (IsPosted seed ps) ls
    pub ascend : AllPairs (λ a b. a.number < b.number) ls
    pub below : All (λ l. l.number < next) ls

abbrev pub numbers : List Listening → List ℕ
numbers ls = map (λ l. l.number) ls

-- where the listener of a number stands, if there is one
abbrev pub IsNumberPlace : ℕ → List Listening → Result ℕ ℕ → Type 0
IsNumberPlace number ls (Ok i) =
    (i < length ls) × ((l : Listening) → (slice_index_or ls i l).number ≡ number)
IsNumberPlace number ls (Err i) = is_among number (numbers ls) ≡ false

-- numbers are added that pass a test. For private clauses.
abbrev pub Adds : (ℕ → Bool) → List ℕ → List ℕ → Type 0
Adds p old new = (n : ℕ) → is_among n new ≡ (p n || is_among n old)
