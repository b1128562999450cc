-- The functions of texts: GROQ-1.revision1, "length()", "string()", "array::join()" and its
-- "String" namespace.
use Rattle.std.specs.Prelude.{ℕ, zero, suc, ◌-◌, List, [], ◌∷◌, length, map, pos, true, false, nat_eq, Option, Some, None, option_map, option_and_then, if◌then◌else◌, codes, encode_utf8}
use Rattle.std.specs.Fmt.{signed_decimal}
use Rattle.std.specs.List.{starts_with, onto_first, join_by}
use Rattle.std.specs.Str.{chars}
use Rattle.cs_value.specs.Tree.{Tree, null, boolean, integer, text, list, object, trees, members}

-- the elements of a list, the code points of a text
abbrev pub size : Tree → Tree
size null = null
size (boolean b) = null
size (integer n) = null
size (text s) = integer (pos (length (chars s)))
size (list ts) = integer (pos (length (members ts)))
size (object ps) = null

-- a text itself, a number in decimal, the word of a boolean
abbrev pub string_of : Tree → Option (List ℕ)
string_of null = None
string_of (boolean true) = Some (codes "true")
string_of (boolean false) = Some (codes "false")
string_of (integer n) = Some (signed_decimal n)
string_of (text s) = Some s
string_of (list ts) = None
string_of (object ps) = None

abbrev pub text_or_null : Option (List ℕ) → Tree
text_or_null None = null
text_or_null (Some s) = text s

abbrev pub string : Tree → Tree
string x = text_or_null (string_of x)

-- a function of two texts, null of anything else
abbrev pub of_texts : (List ℕ → List ℕ → Tree) → Tree → Tree → Tree
of_texts f (text s) (text t) = f s t
of_texts f a b = null

-- the strings of all elements; none where one element has none
abbrev pub strings : List Tree → Option (List (List ℕ))
strings [] = Some []
strings (t ∷ ts) = option_and_then (λ s. option_map (λ ss. s ∷ ss) (strings ts)) (string_of t)

-- these strings with a separator between them
abbrev pub joined : List ℕ → List Tree → Tree
joined separator ts = text_or_null (option_map (join_by (λ part. part) separator) (strings ts))

abbrev pub join : Tree → Tree → Tree
join (list ts) (text s) = joined s (members ts)
join a b = null

-- a text cut at each place, from the left, where the separator begins; `passed` bytes of a
-- separator are still to be passed over
abbrev pub cut : List ℕ → ℕ → List ℕ → List (List ℕ)
cut separator passed [] = [] ∷ []
cut separator (suc passed) (b ∷ bs) = cut separator passed bs
cut separator zero (b ∷ bs) =
    if starts_with nat_eq (b ∷ bs) separator then [] ∷ cut separator (length separator - 1) bs
    else onto_first b (cut separator zero bs)

-- no part where the text is empty; its characters where the separator is
abbrev pub parts : List ℕ → List ℕ → List (List ℕ)
parts [] separator = []
parts (b ∷ bs) [] = map encode_utf8 (chars (b ∷ bs))
parts (b ∷ bs) (c ∷ cs) = cut (c ∷ cs) 0 (b ∷ bs)

abbrev pub split : Tree → Tree → Tree
split x separator = of_texts (λ s t. list (trees (map text (parts s t)))) x separator

abbrev pub begins : Tree → Tree → Tree
begins x prefix = of_texts (λ s t. boolean (starts_with nat_eq s t)) x prefix
