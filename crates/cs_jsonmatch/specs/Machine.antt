-- Reading a path byte by byte, as a machine of states. For private clauses.
use Rattle.std.specs.Prelude.{ℤ, ℕ, suc, List, [], ◌∷◌, ◌++◌, length, codes, Bool, true, false, cond, Option, Some, None, option_and_then, nat_eq, nat_lt}
use Rattle.cs_jsonmatch.specs.Path.{Item, position, range, every, named, meets, step, Path}
use Rattle.cs_jsonmatch.specs.declared.path.Comparison.{Comparison}
use Rattle.cs_jsonmatch.specs.declared.path.Comparison.TheVariants.{Equal, NotEqual, Less, AtMost, Greater, AtLeast}
use Rattle.cs_jsonmatch.specs.declared.class.Class.{Class}
use Rattle.cs_jsonmatch.specs.declared.class.Class.TheVariants.{Letter, Digit, Dot, Opening, Closing, Comma, Space, Minus, Star, Quote, Backslash, Colon, AtSign, EqualSign, Bang, Below, Above}
use Rattle.cs_jsonmatch.specs.Grammar.{is_sign, class, whole}
use Rattle.cs_value.specs.Tree.{Tree, null, boolean, integer, text}

-- where an integer or a text stands in its item: at the front, as the second end of a range, or as
-- the constant of a comparison
pub data Slot : Type 0 where
  front : Slot
  second : Option ℤ → Slot
  constant : List (List ℕ) → Comparison → Slot

abbrev pub int_item : Slot → ℤ → Item
int_item front n = position n
int_item (second a) n = range a (Some n)
int_item (constant ns c) n = meets ns c (integer n)

abbrev pub text_item : Slot → List ℕ → Item
text_item front s = named s
text_item (second a) s = named s
text_item (constant ns c) s = meets ns c (text s)

-- Where the reading stands. A state has the path so far, and inside a step whether `..` stands
-- before it, its items so far, and what has been read of the next item.
pub data State : Type 0 where
  start : State
  first_dot : State
  one_dot : Path → State
  two_dots : Path → State
  word : Path → Bool → List ℕ → State
  before : Path → Bool → List Item → State
  sign : Path → Bool → List Item → Slot → State
  digits : Path → Bool → List Item → Slot → Bool → List ℕ → State
  quoted : Path → Bool → List Item → Slot → ℕ → List ℕ → State
  escape : Path → Bool → List Item → Slot → ℕ → List ℕ → State
  to : Path → Bool → List Item → Option ℤ → State
  left : Path → Bool → List Item → List (List ℕ) → List ℕ → State
  left_dot : Path → Bool → List Item → List (List ℕ) → State
  left_done : Path → Bool → List Item → List (List ℕ) → State
  half : Path → Bool → List Item → List (List ℕ) → Comparison → State
  angle : Path → Bool → List Item → List (List ℕ) → Comparison → Comparison → State
  literal : Path → Bool → List Item → List (List ℕ) → Comparison → State
  letters : Path → Bool → List Item → List (List ℕ) → Comparison → Tree → List ℕ → State
  after : Path → Bool → List Item → State
  done : Path → State

-- the path with one more step
abbrev pub more : Path → Bool → List Item → Path
more p d is = p ++ step d is ∷ []

-- behind an item
abbrev pub close : Path → Bool → List Item → Class → Option State
close p d is Space = Some (after p d is)
close p d is Comma = Some (before p d is)
close p d is Closing = Some (done (more p d is))
close p d is _ = None

abbrev pub colon_behind : Path → Bool → List Item → Slot → ℤ → Option State
colon_behind p d is front n = Some (to p d is (Some n))
colon_behind p d is (second a) n = None
colon_behind p d is (constant ns c) n = None

abbrev pub close_or_digit : Path → Bool → List Item → Slot → Bool → List ℕ → ℕ → Class
    → Option State
close_or_digit p d is g neg w b Digit =
    cond (nat_lt (length w) 18) (Some (digits p d is g neg (w ++ b ∷ []))) None
close_or_digit p d is g neg w b Colon = colon_behind p d is g (whole neg w)
close_or_digit p d is g neg w b Space = Some (after p d (is ++ int_item g (whole neg w) ∷ []))
close_or_digit p d is g neg w b Comma = Some (before p d (is ++ int_item g (whole neg w) ∷ []))
close_or_digit p d is g neg w b Closing =
    Some (done (more p d (is ++ int_item g (whole neg w) ∷ [])))
close_or_digit p d is g neg w b _ = None

abbrev pub end_or_byte : Path → Bool → List Item → Slot → ℕ → List ℕ → ℕ → Option State
end_or_byte p d is g q s b =
    cond (nat_eq b q) (Some (after p d (is ++ text_item g s ∷ [])))
    (Some (quoted p d is g q (s ++ b ∷ [])))

abbrev pub by_operator : Path → Bool → List Item → List (List ℕ) → Class → Option State
by_operator p d is ns Space = Some (left_done p d is ns)
by_operator p d is ns EqualSign = Some (half p d is ns Equal)
by_operator p d is ns Bang = Some (half p d is ns NotEqual)
by_operator p d is ns Below = Some (angle p d is ns Less AtMost)
by_operator p d is ns Above = Some (angle p d is ns Greater AtLeast)
by_operator p d is ns _ = None

abbrev pub by_letter : Path → Bool → List Item → List (List ℕ) → Comparison → ℕ → Option State
by_letter p d is ns c b =
    cond (is_sign (codes "t") b) (Some (letters p d is ns c (boolean true) (codes "rue")))
    (cond (is_sign (codes "f") b) (Some (letters p d is ns c (boolean false) (codes "alse")))
    (cond (is_sign (codes "n") b) (Some (letters p d is ns c null (codes "ull"))) None))

abbrev pub by_literal : Path → Bool → List Item → List (List ℕ) → Comparison → ℕ → Class
    → Option State
by_literal p d is ns c b Space = Some (literal p d is ns c)
by_literal p d is ns c b Minus = Some (sign p d is (constant ns c))
by_literal p d is ns c b Digit = Some (digits p d is (constant ns c) false (b ∷ []))
by_literal p d is ns c b Quote = Some (quoted p d is (constant ns c) b [])
by_literal p d is ns c b Letter = by_letter p d is ns c b
by_literal p d is ns c b _ = None

abbrev pub next_letter : Path → Bool → List Item → List (List ℕ) → Comparison → Tree → List ℕ
    → State
next_letter p d is ns c t [] = after p d (is ++ meets ns c t ∷ [])
next_letter p d is ns c t (r ∷ rest) = letters p d is ns c t (r ∷ rest)

abbrev pub by_letters : Path → Bool → List Item → List (List ℕ) → Comparison → Tree → List ℕ → ℕ
    → Option State
by_letters p d is ns c t [] b = None
by_letters p d is ns c t (r ∷ rest) b =
    cond (nat_eq b r) (Some (next_letter p d is ns c t rest)) None

abbrev pub by_class : State → ℕ → Class → Option State
by_class start b Letter = Some (word [] false (b ∷ []))
by_class start b Opening = Some (before [] false [])
by_class start b Dot = Some first_dot
by_class start b _ = None
by_class first_dot b Dot = Some (two_dots [])
by_class first_dot b _ = None
by_class (one_dot p) b Letter = Some (word p false (b ∷ []))
by_class (one_dot p) b Dot = Some (two_dots p)
by_class (one_dot p) b _ = None
by_class (two_dots p) b Letter = Some (word p true (b ∷ []))
by_class (two_dots p) b Opening = Some (before p true [])
by_class (two_dots p) b _ = None
by_class (word p d w) b Letter = Some (word p d (w ++ b ∷ []))
by_class (word p d w) b Digit = Some (word p d (w ++ b ∷ []))
by_class (word p d w) b Dot = Some (one_dot (more p d (named w ∷ [])))
by_class (word p d w) b Opening = Some (before (more p d (named w ∷ [])) false [])
by_class (word p d w) b _ = None
by_class (before p d is) b Space = Some (before p d is)
by_class (before p d is) b Minus = Some (sign p d is front)
by_class (before p d is) b Digit = Some (digits p d is front false (b ∷ []))
by_class (before p d is) b Star = Some (after p d (is ++ every ∷ []))
by_class (before p d is) b Quote = Some (quoted p d is front b [])
by_class (before p d is) b Colon = Some (to p d is None)
by_class (before p d is) b Letter = Some (left p d is [] (b ∷ []))
by_class (before p d is) b AtSign = Some (left_done p d is [])
by_class (before p d is) b _ = None
by_class (sign p d is g) b Digit = Some (digits p d is g true (b ∷ []))
by_class (sign p d is g) b _ = None
by_class (digits p d is g neg w) b c = close_or_digit p d is g neg w b c
by_class (quoted p d is g q s) b Backslash = Some (escape p d is g q s)
by_class (quoted p d is g q s) b _ = end_or_byte p d is g q s b
by_class (escape p d is g q s) b Quote = Some (quoted p d is g q (s ++ b ∷ []))
by_class (escape p d is g q s) b Backslash = Some (quoted p d is g q (s ++ b ∷ []))
by_class (escape p d is g q s) b _ = None
by_class (to p d is a) b Minus = Some (sign p d is (second a))
by_class (to p d is a) b Digit = Some (digits p d is (second a) false (b ∷ []))
by_class (to p d is a) b c = close p d (is ++ range a None ∷ []) c
by_class (left p d is ns w) b Letter = Some (left p d is ns (w ++ b ∷ []))
by_class (left p d is ns w) b Digit = Some (left p d is ns (w ++ b ∷ []))
by_class (left p d is ns w) b Dot = Some (left_dot p d is (ns ++ w ∷ []))
by_class (left p d is ns w) b c = by_operator p d is (ns ++ w ∷ []) c
by_class (left_dot p d is ns) b Letter = Some (left p d is ns (b ∷ []))
by_class (left_dot p d is ns) b _ = None
by_class (left_done p d is ns) b c = by_operator p d is ns c
by_class (half p d is ns c) b EqualSign = Some (literal p d is ns c)
by_class (half p d is ns c) b _ = None
by_class (angle p d is ns c1 c2) b EqualSign = Some (literal p d is ns c2)
by_class (angle p d is ns c1 c2) b c = by_literal p d is ns c1 b c
by_class (literal p d is ns c) b k = by_literal p d is ns c b k
by_class (letters p d is ns c t r) b k = by_letters p d is ns c t r b
by_class (after p d is) b c = close p d is c
by_class (done p) b Dot = Some (one_dot p)
by_class (done p) b Opening = Some (before p false [])
by_class (done p) b _ = None

abbrev pub taken : State → ℕ → Option State
taken s b = by_class s b (class b)

-- the state after the bytes, and none where one of them isn't taken
abbrev pub run : List ℕ → State → Option State
run [] s = Some s
run (b ∷ t) s = option_and_then (run t) (taken s b)

abbrev pub accept : State → Option Path
accept (word p d w) = Some (more p d (named w ∷ []))
accept (done p) = Some p
accept _ = None

-- how many bytes are read before one that isn't taken
abbrev pub counted : (State → ℕ) → Option State → ℕ
counted f None = 0
counted f (Some s) = suc (f s)

abbrev pub stuck : List ℕ → State → ℕ
stuck [] s = 0
stuck (b ∷ t) s = counted (stuck t) (taken s b)
