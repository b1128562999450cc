-- The characters of a text that has ended.
use Rattle.std.proofs.Common.{◌≡◌, ℕ, List, [], ◌∷◌, ◌++◌, length, map, encode_utf8, refl, sym, ap, ◌∙◌, arith}
use Rattle.std.specs.Str.{chars}
use Rattle.cs_value.specs.Tree.{Tree, text}

chars_ended : (bs : List ℕ) → length bs ≡ 0 → chars bs ≡ []
unfolding chars
chars_ended [] h = refl
chars_ended (b ∷ bs) h = absurd (omega arith)

append-none : {A : Type 0} (xs : List A) → xs ≡ xs ++ []
append-none [] = refl
append-none (x ∷ xs) = ap (λ ys. x ∷ ys) (append-none xs)

pub characters-ended : (kept all : List Tree) (bs : List ℕ) → length bs ≡ 0 → kept ++ map text (map encode_utf8 (chars bs)) ≡ all → kept ≡ all
characters-ended kept all bs e h = append-none kept ∙ ap (λ cs. kept ++ map text (map encode_utf8 cs)) (sym (chars_ended bs e)) ∙ h
