-- The rest of a list decides, with the text so far, what the join of the whole list gives.
use Rattle.std.proofs.Common.{ℕ, List, ◌++◌, Bool, true, false, option_map, flat_map}
use Rattle.std.specs.List.{join_by}
use Rattle.cs_value.specs.Tree.{Tree}
use Rattle.cs_func.specs.Texts.{strings, text_or_null}

abbrev pub rest_of : List ℕ → Bool → List (List ℕ) → List ℕ
rest_of separator false ss = join_by (λ s. s) separator ss
rest_of separator true ss = flat_map (λ s. separator ++ s) ss

abbrev pub joined_from : List ℕ → List ℕ → Bool → List Tree → Tree
joined_from separator so_far later ts = text_or_null (option_map (λ ss. so_far ++ rest_of separator later ss) (strings ts))
