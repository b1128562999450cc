-- Elements and slices of a list: GROQ-1.revision1, "Element access", "Slice".
use Rattle.std.specs.Prelude.{ℕ, ℤ, pos, negsuc, ◌+ℤ◌, min, take, drop, length, List, Bool, Option, Some, None, unwrap_or, slice_get, nat_lt, if◌then◌else◌}
use Rattle.cs_value.specs.Words.{list_of, of_list}
use Rattle.cs_value.specs.Tree.{Tree, null}

-- A negative place has the length added: it counts from the end.
abbrev pub counted : ℕ → ℤ → ℤ
counted n (pos i) = pos i
counted n (negsuc i) = negsuc i +ℤ pos n

-- The element at a place, null where none is there.
abbrev pub element_at : List Tree → ℤ → Tree
element_at ts (pos i) = unwrap_or (slice_get ts i) null
element_at ts (negsuc i) = null

-- The place where an element is, if one is there.
abbrev pub place_in : ℕ → ℤ → Option ℕ
place_in n (pos i) = if nat_lt i n then Some i else None
place_in n (negsuc i) = None

-- `[n]`: the element at a position, null of anything but a list, and where the number has no value.
abbrev pub element : Option ℤ → Tree → Tree
element None v = null
element (Some n) v = of_list (λ ts. element_at ts (counted (length ts) n)) v

-- A place brought between 0 and the length.
abbrev pub clamped : ℕ → ℤ → ℕ
clamped n (pos i) = min i n
clamped n (negsuc i) = 0

-- The place behind the last of a slice: `..` takes the one at its right end too.
abbrev pub behind : Bool → ℤ → ℤ
behind closed j = if closed then j +ℤ pos 1 else j

-- The elements from place i up to the right end, none where this is not above i.
abbrev pub elements_between : {A : Type 0} → ℤ → ℤ → Bool → List A → List A
elements_between i j closed ts =
    let n = length ts in
    drop (clamped n (counted n i)) (take (clamped n (behind closed (counted n j))) ts)

-- `[i..j]`, and `[i...j]` where it is not closed: null of anything but a list, and where an end is
-- no position, or a number without a value.
abbrev pub sliced : Option (Option ℤ) → Option (Option ℤ) → Bool → Tree → Tree
sliced (Some (Some i)) (Some (Some j)) closed v =
    of_list (λ ts. list_of (elements_between i j closed ts)) v
sliced i j closed v = null
