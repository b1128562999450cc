-- Which texts a pattern of `path()` matches: GROQ-1.revision1, "path()". A pattern is cut at its
-- dots into parts, and what a part matches is this project's profile.
use Prim.Native.Char.{code}
use Rattle.std.specs.Prelude.{ℕ, List, [], ◌∷◌, ◌++◌, length, Bool, true, false, not, ◌&&◌, ◌||◌, ◌==◌, nat_lt, if◌then◌else◌, codes}
use Rattle.std.specs.List.{list_all, slice_split}
use Rattle.std.specs.Str.{bytes_eq}

abbrev pub is_dot : ℕ → Bool
is_dot b = b == code "."

-- `**` matches any text, `*` one that is not empty and has no dot, any other part itself
abbrev pub part_matches : List ℕ → List ℕ → Bool
part_matches part text =
    if bytes_eq part (codes "**") then true else if bytes_eq part (codes "*")
    then nat_lt 0 (length text) && list_all (λ b. not (is_dot b)) text else bytes_eq part text

-- whether the text is u, a dot and v for some u and v that pass; `before` is what stands before it
abbrev pub some_cut : (List ℕ → List ℕ → Bool) → List ℕ → List ℕ → Bool
some_cut passes before [] = false
some_cut passes before (b ∷ bs) =
    (is_dot b && passes before bs) || some_cut passes (before ++ b ∷ []) bs

-- several parts match u, a dot and v where the first matches u and the others match v, for some
-- such cut
abbrev pub parts_match : List (List ℕ) → List ℕ → Bool
parts_match [] text = false
parts_match (p ∷ []) text = part_matches p text
parts_match (p ∷ q ∷ ps) text = some_cut (λ u v. part_matches p u && parts_match (q ∷ ps) v) [] text

abbrev pub path_matches : List ℕ → List ℕ → Bool
path_matches pattern text = parts_match (slice_split is_dot pattern) text
