-- How a path is written: this project's profile of the paths of Sanity's patches ("JSONMatch").
-- Texts are lists of bytes; a relation between a text and what it spells has one case for each
-- alternative, and grows at its right end.
use Rattle.std.specs.Prelude.{Option, Some, None, ◌≡◌, ◌⊎◌, ℕ, ◌<◌, ◌≤◌, ◌+◌, ◌*◌, ◌-◌, ℤ, pos, neg_ℤ, List, [], ◌∷◌, ◌++◌, length, take, codes, Bool, true, false, cond, nat_eq, ◌||◌}
use Rattle.cs_value.specs.Id.{is_between}
use Rattle.cs_value.specs.Tree.{Tree, null, boolean, integer, text}
use Rattle.cs_jsonmatch.specs.Path.{Item, position, range, every, named, meets, step, Path}
use Rattle.cs_jsonmatch.specs.declared.class.Class.{Class}
use Rattle.cs_jsonmatch.specs.declared.class.Class.TheVariants.{Letter, Digit, Dot, Opening, Closing, Comma, Space, Minus, Star, Quote, Backslash, Colon, AtSign, EqualSign, Bang, Below, Above, Other}
use Rattle.cs_jsonmatch.specs.declared.path.Comparison.{Comparison}
use Rattle.cs_jsonmatch.specs.declared.path.Comparison.TheVariants.{Equal, NotEqual, Less, AtMost, Greater, AtLeast}

-- whether a byte is a sign, which is given as a text of one byte
abbrev pub is_sign : List ℕ → ℕ → Bool
is_sign [] b = false
is_sign (c ∷ cs) b = nat_eq b c

-- whether a byte lies from the first byte of a text of two to the second
abbrev pub is_from_to : List ℕ → ℕ → Bool
is_from_to (low ∷ high ∷ cs) b = is_between low high b
is_from_to _ b = false

-- the class of a sign of operators: `@`, `=`, `!`, `<`, `>`
abbrev pub operator_class : ℕ → Class
operator_class b =
    cond (is_sign (codes "@") b) AtSign
    (cond (is_sign (codes "=") b) EqualSign
    (cond (is_sign (codes "!") b) Bang
    (cond (is_sign (codes "<") b) Below
    (cond (is_sign (codes ">") b) Above Other))))

-- the class of a sign: `.`, `[`, `]`, `,`, a space, `-`, `*`, `\`, `:`, or one of operators
abbrev pub sign_class : ℕ → Class
sign_class b =
    cond (is_sign (codes ".") b) Dot
    (cond (is_sign (codes "[") b) Opening
    (cond (is_sign (codes "]") b) Closing
    (cond (is_sign (codes ",") b) Comma
    (cond (is_sign (codes " ") b) Space
    (cond (is_sign (codes "-") b) Minus
    (cond (is_sign (codes "*") b) Star
    (cond (is_sign (codes "\\") b) Backslash
    (cond (is_sign (codes ":") b) Colon (operator_class b)))))))))

-- The class of a byte: a letter of ASCII or `_`, a digit, either quote, or a sign; the others have
-- none of these.
abbrev pub class : ℕ → Class
class b =
    cond (is_from_to (codes "az") b || is_from_to (codes "AZ") b || is_sign (codes "_") b) Letter
    (cond (is_from_to (codes "09") b) Digit
    (cond (is_sign (codes "\"") b || is_sign (codes "'") b) Quote (sign_class b)))

-- Name = (letter | "_") (letter | digit | "_")*
pub data IsName : List ℕ → Type 0 where
  first_letter : (b : ℕ) → class b ≡ Letter → IsName (b ∷ [])
  more_letter : (w : List ℕ) (b : ℕ) → IsName w → class b ≡ Letter → IsName (w ++ b ∷ [])
  more_digit : (w : List ℕ) (b : ℕ) → IsName w → class b ≡ Digit → IsName (w ++ b ∷ [])

-- One to eighteen digits.
pub data AreDigits : List ℕ → Type 0 where
  first_digit : (b : ℕ) → class b ≡ Digit → AreDigits (b ∷ [])
  next_digit : (w : List ℕ) (b : ℕ) → AreDigits w → class b ≡ Digit → length w < 18
      → AreDigits (w ++ b ∷ [])

-- The number that digits spell, in base ten.
abbrev pub number_from : ℕ → List ℕ → ℕ
number_from n [] = n
number_from n (b ∷ w) = number_from (10 * n + (b - 48)) w

-- That number, negative where a minus stands before it.
abbrev pub whole : Bool → List ℕ → ℤ
whole negative w = cond negative (neg_ℤ (pos (number_from 0 w))) (pos (number_from 0 w))

-- What stands between two quotes q, and the text that it spells: each byte itself, but no bare q,
-- and a backslash only before a quote or a backslash, which then stands for itself.
pub data IsInside : ℕ → List ℕ → List ℕ → Type 0 where
  nothing : (q : ℕ) → IsInside q [] []
  byte : (q : ℕ) (w s : List ℕ) (b : ℕ) → IsInside q w s → nat_eq b q ≡ false
      → (class b ≡ Backslash → ⊥) → IsInside q (w ++ b ∷ []) (s ++ b ∷ [])
  escaped : (q : ℕ) (w s : List ℕ) (b : ℕ) → IsInside q w s
      → (class b ≡ Quote) ⊎ (class b ≡ Backslash)
      → IsInside q ((w ++ codes "\\") ++ b ∷ []) (s ++ b ∷ [])

-- Digits as they are written, behind a minus or not.
abbrev pub written : Bool → List ℕ → List ℕ
written negative w = cond negative (codes "-" ++ w) w

-- Int = "-"? one to eighteen digits
pub data IsInt : List ℕ → ℤ → Type 0 where
  int : (negative : Bool) (w : List ℕ) → AreDigits w → IsInt (written negative w) (whole negative w)

-- Int?
pub data IsEnd : List ℕ → Option ℤ → Type 0 where
  no_end : IsEnd [] None
  some_end : (w : List ℕ) (n : ℤ) → IsInt w n → IsEnd w (Some n)

-- Quoted = text between two quotes of one kind
pub data IsQuoted : List ℕ → List ℕ → Type 0 where
  quotes : (q : ℕ) (w s : List ℕ) → class q ≡ Quote → IsInside q w s
      → IsQuoted ((q ∷ w) ++ q ∷ []) s

-- Name ("." Name)*
pub data AreNames : List ℕ → List (List ℕ) → Type 0 where
  one_name : (w : List ℕ) → IsName w → AreNames w (w ∷ [])
  more_names : (u w : List ℕ) (ns : List (List ℕ)) → AreNames u ns → IsName w
      → AreNames ((u ++ codes ".") ++ w) (ns ++ w ∷ [])

-- Left = "@" | Name ("." Name)*, and any number of spaces behind it; `@` is no name
pub data IsSubject : List ℕ → List (List ℕ) → Type 0 where
  itself : IsSubject (codes "@") []
  names : (u : List ℕ) (ns : List (List ℕ)) → AreNames u ns → IsSubject u ns
  space_past : (x : List ℕ) (ns : List (List ℕ)) → IsSubject x ns → IsSubject (x ++ codes " ") ns

-- Op = "==" | "!=" | "<" | "<=" | ">" | ">="
pub data IsOp : List ℕ → Comparison → Type 0 where
  op_equals : IsOp (codes "==") Equal
  op_differs : IsOp (codes "!=") NotEqual
  op_less : IsOp (codes "<") Less
  op_at_most : IsOp (codes "<=") AtMost
  op_greater : IsOp (codes ">") Greater
  op_at_least : IsOp (codes ">=") AtLeast

-- Left Op, and any number of spaces behind it
pub data IsCompared : List ℕ → List (List ℕ) → Comparison → Type 0 where
  compared : (x o : List ℕ) (ns : List (List ℕ)) (c : Comparison) → IsSubject x ns → IsOp o c
      → IsCompared (x ++ o) ns c
  space_on : (x : List ℕ) (ns : List (List ℕ)) (c : Comparison) → IsCompared x ns c
      → IsCompared (x ++ codes " ") ns c

-- The words of Lit: "true" | "false" | "null"
pub data IsWord : List ℕ → Tree → Type 0 where
  is_true : IsWord (codes "true") (boolean true)
  is_false : IsWord (codes "false") (boolean false)
  is_null : IsWord (codes "null") null

-- Item = Int | Int? ":" Int? | "*" | Quoted | Left Op Lit, where Lit = Quoted | Int | a word
pub data IsItem : List ℕ → Item → Type 0 where
  single : (w : List ℕ) (n : ℤ) → IsInt w n → IsItem w (position n)
  span : (u w : List ℕ) (a b : Option ℤ) → IsEnd u a → IsEnd w b
      → IsItem ((u ++ codes ":") ++ w) (range a b)
  all : IsItem (codes "*") every
  texts : (w s : List ℕ) → IsQuoted w s → IsItem w (named s)
  test_int : (x w : List ℕ) (ns : List (List ℕ)) (c : Comparison) (n : ℤ) → IsCompared x ns c
      → IsInt w n → IsItem (x ++ w) (meets ns c (integer n))
  test_text : (x w s : List ℕ) (ns : List (List ℕ)) (c : Comparison) → IsCompared x ns c
      → IsQuoted w s → IsItem (x ++ w) (meets ns c (text s))
  test_word : (x w : List ℕ) (ns : List (List ℕ)) (c : Comparison) (t : Tree) → IsCompared x ns c
      → IsWord w t → IsItem (x ++ w) (meets ns c t)

-- Items = Item ("," Item)*, with any number of spaces around each item
mutual
  -- what may stand before an item
  pub data Awaits : List ℕ → List Item → Type 0 where
    at_first : Awaits [] []
    space_before : (x : List ℕ) (is : List Item) → Awaits x is → Awaits (x ++ codes " ") is
    after_comma : (x : List ℕ) (is : List Item) → AreItems x is → Awaits (x ++ codes ",") is

  pub data AreItems : List ℕ → List Item → Type 0 where
    item : (x w : List ℕ) (is : List Item) (i : Item) → Awaits x is → IsItem w i
        → AreItems (x ++ w) (is ++ i ∷ [])
    space_after : (x : List ℕ) (is : List Item) → AreItems x is → AreItems (x ++ codes " ") is

-- Bracket = "[" Items "]"
pub data IsBracket : List ℕ → List Item → Type 0 where
  bracket : (w : List ℕ) (is : List Item) → AreItems w is
      → IsBracket ((codes "[" ++ w) ++ codes "]") is

-- Path = First Next*, where First = Name | Bracket | ".." Name | ".." Bracket,
-- and Next = "." Name | Bracket | ".." Name | ".." Bracket
pub data IsPath : List ℕ → Path → Type 0 where
  first_name : (w : List ℕ) → IsName w → IsPath w (step false (named w ∷ []) ∷ [])
  first_bracket : (w : List ℕ) (is : List Item) → IsBracket w is → IsPath w (step false is ∷ [])
  first_deep_name : (w : List ℕ) → IsName w
      → IsPath (codes ".." ++ w) (step true (named w ∷ []) ∷ [])
  first_deep_bracket : (w : List ℕ) (is : List Item) → IsBracket w is
      → IsPath (codes ".." ++ w) (step true is ∷ [])
  next_name : (u w : List ℕ) (p : Path) → IsPath u p → IsName w
      → IsPath (u ++ (codes "." ++ w)) (p ++ step false (named w ∷ []) ∷ [])
  next_bracket : (u w : List ℕ) (p : Path) (is : List Item) → IsPath u p → IsBracket w is
      → IsPath (u ++ w) (p ++ step false is ∷ [])
  next_deep_name : (u w : List ℕ) (p : Path) → IsPath u p → IsName w
      → IsPath (u ++ (codes ".." ++ w)) (p ++ step true (named w ∷ []) ∷ [])
  next_deep_bracket : (u w : List ℕ) (p : Path) (is : List Item) → IsPath u p → IsBracket w is
      → IsPath (u ++ (codes ".." ++ w)) (p ++ step true is ∷ [])

-- A prefix of a text that spells some path.
abbrev pub IsBegun : List ℕ → Type 0
IsBegun u = (w : List ℕ) × (p : Path) × IsPath (u ++ w) p

-- n is the length in bytes of the longest prefix of the text that is also a prefix of some path.
pub record IsLongest (t : List ℕ) (n : ℕ) : Type 0 where
  pub within : n ≤ length t
  pub begun : IsBegun (take n t)
  pub longest : (k : ℕ) → k ≤ length t → IsBegun (take k t) → k ≤ n

-- The text spells no path, and its fault is behind the longest prefix that is also a prefix of some
-- path.
abbrev pub IsFault : List ℕ → ℕ → Type 0
IsFault t n = ((p : Path) → IsPath t p → ⊥) × IsLongest t n
