-- What the reading of the rest of a text comes to. For private clauses.
use Rattle.std.specs.Prelude.{◌≡◌, ◌⊎◌, ℕ, ◌∷◌, ◌++◌, [], List, length, Bool, Option, Some, None, ℤ, ⊤, Result, MatchResult}
use Rattle.cs_jsonmatch.specs.Path.{Item, Path}
use Rattle.cs_jsonmatch.specs.declared.class.Class.{Class}
use Rattle.cs_jsonmatch.specs.declared.class.Class.TheVariants.{Letter, Digit, Dot, Opening, Minus, Quote, Colon, Other}
use Rattle.cs_jsonmatch.specs.declared.cursor.Cursor.{Cursor}
use Rattle.cs_jsonmatch.specs.declared.cursor.Stop.{Stop}
use Rattle.cs_jsonmatch.specs.declared.cursor.Stop.TheVariants as stop
use Rattle.cs_jsonmatch.specs.Grammar.{class, IsName, AreDigits, number_from}
use Rattle.cs_jsonmatch.specs.Machine.{Slot, front, second, constant, int_item, State, before, to, literal, quoted, left_dot, left_done, word, accept, taken, close, colon_behind, by_class}

-- a path, or the rest before which the reading stops
pub data Reading : Type 0 where
  spelled : Path → Reading
  cut : List ℕ → Reading

abbrev pub ended : Option Path → Reading
ended None = cut []
ended (Some p) = spelled p

abbrev pub go_on : (State → Reading) → List ℕ → Option State → Reading
go_on f t None = cut t
go_on f t (Some s) = f s

-- what the bytes come to, read from a state
abbrev pub reading : List ℕ → State → Reading
reading [] s = ended (accept s)
reading (b ∷ t) s = go_on (reading t) (b ∷ t) (taken s b)

-- the class of the next byte; `Other` at the end
abbrev pub next_class : List ℕ → Class
next_class [] = Other
next_class (b ∷ t) = class b

-- the rest begins with a byte of the class, or the reading stays before it
abbrev pub Took : Class → ℕ → List ℕ → List ℕ → Type 0
Took k c old new = (old ≡ c ∷ new) × (class c ≡ k)

abbrev pub Missed : Class → List ℕ → List ℕ → Type 0
Missed k old new = (new ≡ old) × (next_class old ≡ k → ⊥)

-- why a function stopped, where the reading r of its bytes stops as well
abbrev pub IsStop : Stop → Reading → List ℕ → Type 0
IsStop stop.Here r rest = r ≡ cut rest
IsStop stop.NoMemory r rest = ⊤

-- What a function read is where the reading goes on from, or the reading stops where the function
-- stopped.
abbrev pub IsRead : {A : Type 0} → Result A Stop → (A → Reading) → Reading → List ℕ → Type 0
IsRead result on r rest = MatchResult result (λ a. r ≡ on a) (λ e. IsStop e r rest)

-- A function moved the cursor from `old` to `new`: in the state s the reading of what was left goes
-- on with what is left now, in the state that the answer gives; or it stops where the function
-- stopped.
abbrev pub Moved : {A : Type 0} → Result A Stop → State → (A → State) → Cursor → Cursor → Type 0
Moved result s behind old new =
    IsRead result (λ a. reading new.rest.now (behind a)) (reading old.rest.now s) new.rest.now

-- the state before an integer, by where it stands in its item
abbrev pub before_int : Path → Bool → List Item → Slot → State
before_int p d is front = before p d is
before_int p d is (second a) = to p d is a
before_int p d is (constant ns c) = literal p d is ns c

-- what may stand behind an integer: a colon behind one at the front, or what stands behind an item
abbrev pub behind_int : Path → Bool → List Item → Slot → ℤ → Class → Option State
behind_int p d is g n Colon = colon_behind p d is g n
behind_int p d is g n k = close p d (is ++ int_item g n ∷ []) k

abbrev pub after_int : List ℕ → Path → Bool → List Item → Slot → ℤ → Reading
after_int [] p d is g n = cut []
after_int (b ∷ t) p d is g n = go_on (reading t) (b ∷ t) (behind_int p d is g n (class b))

-- behind a name of a left side: a dot, or what stands behind the left side
abbrev pub behind_name : Path → Bool → List Item → List (List ℕ) → ℕ → Class → Option State
behind_name p d is ns b Dot = Some (left_dot p d is ns)
behind_name p d is ns b k = by_class (left_done p d is ns) b k

abbrev pub after_name : List ℕ → Path → Bool → List Item → List (List ℕ) → Reading
after_name [] p d is ns = cut []
after_name (b ∷ t) p d is ns = go_on (reading t) (b ∷ t) (behind_name p d is ns b (class b))

-- the state takes any name, or any bracket, as its next step
abbrev pub TakesName : State → Path → Bool → Type 0
TakesName s p d = (b : ℕ) → by_class s b Letter ≡ Some (word p d (b ∷ []))

abbrev pub TakesBracket : State → Path → Bool → Type 0
TakesBracket s p d = (b : ℕ) → by_class s b Opening ≡ Some (before p d [])

-- the state takes a quote, and then reads a text
abbrev pub TakesQuote : State → Path → Bool → List Item → Slot → Type 0
TakesQuote s p d is g = (b : ℕ) → by_class s b Quote ≡ Some (quoted p d is g b [])

-- the name is read, and no letter and no digit is next
abbrev pub IsNameRead : List ℕ → List ℕ → List ℕ → Type 0
IsNameRead n old new = (old ≡ n ++ new) × IsName n × (next_class new ≡ Letter → ⊥)
    × (next_class new ≡ Digit → ⊥)

-- digits are read, and no more of them fit
abbrev pub AreDigitsRead : ℕ → List ℕ → List ℕ → Type 0
AreDigitsRead n old new =
    (w : List ℕ) × (old ≡ w ++ new) × AreDigits w × (number_from 0 w ≡ n)
    × ((length w ≡ 18) ⊎ (next_class new ≡ Digit → ⊥))

-- an integer is read, or none is next
abbrev pub IsIntRead : Option ℤ → Path → Bool → List Item → Slot → List ℕ → List ℕ → Type 0
IsIntRead None p d is g old new = Missed Minus old new × Missed Digit old new
IsIntRead (Some n) p d is g old new = reading old (before_int p d is g) ≡ after_int new p d is g n
