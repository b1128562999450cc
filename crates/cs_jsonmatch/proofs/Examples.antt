-- What small texts are as paths, computed.
use Rattle.std.proofs.Common.{◌≡◌, pos, negsuc, [], ◌∷◌, ◌++◌, codes, true, false, Some, None, refl}
use Rattle.cs_jsonmatch.specs.Path.{every, named, position, range, meets, step}
use Rattle.cs_jsonmatch.specs.declared.path.Comparison.TheVariants.{Equal, NotEqual, AtMost}
use Rattle.cs_value.specs.Tree.{null, boolean, integer, text}
use Rattle.cs_jsonmatch.specs.Verdict.{spelled, bad_path, path_verdict}

three_steps : path_verdict (codes "a..b[0, -12 ,*]") ≡ spelled (step false (named (codes "a") ∷ []) ∷ step true (named (codes "b") ∷ []) ∷ step false (position (pos 0) ∷ position (negsuc 11) ∷ every ∷ []) ∷ [])
unfolding path_verdict
three_steps = refl

ranges : path_verdict (codes "a[1:-2, :]") ≡ spelled (step false (named (codes "a") ∷ []) ∷ step false (range (Some (pos 1)) (Some (negsuc 1)) ∷ range None None ∷ []) ∷ [])
unfolding path_verdict
ranges = refl

tests : path_verdict (codes "..[ a.b <= -3,@==null,c==true]") ≡ spelled (step true (meets (codes "a" ∷ codes "b" ∷ []) AtMost (integer (negsuc 2)) ∷ meets [] Equal null ∷ meets (codes "c" ∷ []) Equal (boolean true) ∷ []) ∷ [])
unfolding path_verdict
tests = refl

quoted : path_verdict (codes "tags[@ != \"x\", '\\'']") ≡ spelled (step false (named (codes "tags") ∷ []) ∷ step false (meets [] NotEqual (text (codes "x")) ∷ named (codes "'") ∷ []) ∷ [])
unfolding path_verdict
quoted = refl

-- the fault stands behind `a[`, behind both bytes of `a.`, and before the first byte of no text
no_item : path_verdict (codes "a[!]") ≡ bad_path 2
unfolding path_verdict
no_item = refl

cut_short : path_verdict (codes "a.") ≡ bad_path 2
unfolding path_verdict
cut_short = refl

empty : path_verdict [] ≡ bad_path 0
unfolding path_verdict
empty = refl

-- `a['é].b`, whose quote does not end: its eight bytes are seven characters
two_bytes : path_verdict (codes "a['" ++ 195 ∷ 169 ∷ codes "].b") ≡ bad_path 8
unfolding path_verdict
two_bytes = refl

nineteen : path_verdict (codes "[1234567890123456789]") ≡ bad_path 19
unfolding path_verdict
nineteen = refl

half_word : path_verdict (codes "[a==tru]") ≡ bad_path 7
unfolding path_verdict
half_word = refl

spaced_colon : path_verdict (codes "[1 :2]") ≡ bad_path 3
unfolding path_verdict
spaced_colon = refl

fraction : path_verdict (codes "[a==1.5]") ≡ bad_path 5
unfolding path_verdict
fraction = refl

bare_name : path_verdict (codes "a[b]") ≡ bad_path 3
unfolding path_verdict
bare_name = refl
