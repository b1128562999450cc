-- The same over the segments of a text, which are what stands between its dots: `**` matches one
-- segment or more, and any other part matches one. For private clauses.
use Rattle.std.specs.Prelude.{ℕ, List, [], ◌∷◌, Bool, true, false, ◌&&◌, ◌||◌, if◌then◌else◌, codes}
use Rattle.std.specs.List.{slice_split}
use Rattle.std.specs.Str.{bytes_eq}
use Rattle.cs_func.specs.PathPattern.{is_dot, part_matches}

abbrev pub segments : List ℕ → List (List ℕ)
segments text = slice_split is_dot text

abbrev pub is_any : List ℕ → Bool
is_any part = bytes_eq part (codes "**")

-- whether what is left passes, after one segment or more
abbrev pub after_some : (List (List ℕ) → Bool) → List (List ℕ) → Bool
after_some passes [] = false
after_some passes (s ∷ ss) = passes ss || after_some passes ss

-- whether the first segment fits the part, and what is left passes
abbrev pub after_one : List ℕ → (List (List ℕ) → Bool) → List (List ℕ) → Bool
after_one part passes [] = false
after_one part passes (s ∷ ss) = part_matches part s && passes ss

abbrev pub segments_match : List (List ℕ) → List (List ℕ) → Bool
segments_match [] [] = true
segments_match [] (s ∷ ss) = false
segments_match (p ∷ ps) ss = if is_any p then after_some (segments_match ps) ss
    else after_one p (segments_match ps) ss
