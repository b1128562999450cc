-- Which texts are ids: this project's profile of the ids of documents in Sanity's documentation
-- ("IDs").
use Prim.Native.Char.{code}
use Rattle.std.specs.Prelude.{ℕ, List, [], ◌∷◌, length, Bool, false, not, ◌&&◌, ◌||◌, nat_le, ◌==◌}
use Rattle.std.specs.List.{list_all}

abbrev pub is_between : ℕ → ℕ → ℕ → Bool
is_between low high b = nat_le low b && nat_le b high

-- an ASCII letter, a digit, `.`, `_` or `-`
abbrev pub is_id_byte : ℕ → Bool
is_id_byte b =
    is_between (code "A") (code "Z") b || is_between (code "a") (code "z") b
    || is_between (code "0") (code "9") b || b == code "." || b == code "_" || b == code "-"

-- the first byte is neither `.` nor `-`
abbrev pub begins_as_id : List ℕ → Bool
begins_as_id [] = false
begins_as_id (b ∷ bs) = not (b == code ".") && not (b == code "-")

abbrev pub longest_id : ℕ
longest_id = 128

abbrev pub is_id : List ℕ → Bool
is_id s = begins_as_id s && nat_le (length s) longest_id && list_all is_id_byte s
