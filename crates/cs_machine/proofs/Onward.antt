-- The machine over lines after others.
use Rattle.std.proofs.Common.{◌≡◌, ◌∙◌, ap, sym, refl, ℕ, suc, ◌+◌, List, [], ◌∷◌, ◌++◌, length, append_assoc, arith}
use Rattle.std.proofs.lemmas.Grind.{flat_map-append}
use Rattle.cs_machine.specs.Fold.{Step, replies, state_after as after}
use Rattle.cs_machine.specs.Laws.{RunsGoOn}
use Rattle.cs_machine.specs.Machine.{step, state_after}
use Rattle.cs_machine.specs.Replies.{reply_line, reply_lines, numbered}

count_on : (n k : ℕ) → n + 1 + k ≡ n + suc k
count_on n k = omega arith

state_append : {S : Type 0} (one : Step S) (s : S) (n : ℕ) (xs ys : List (List ℕ))
    → after one s n (xs ++ ys) ≡ after one (after one s n xs) (n + length xs) ys
state_append one s n [] ys = let none : n + 0 ≡ n = omega arith in rw none refl
state_append one s n (x ∷ xs) ys =
    let next = (one s n x).state in
    state_append one next (n + 1) xs ys
    ∙ ap (λ m. after one (after one next (n + 1) xs) m ys) (count_on n (length xs))

replies_append : {S : Type 0} (one : Step S) (s : S) (n : ℕ) (xs ys : List (List ℕ))
    → replies one s n (xs ++ ys)
    ≡ replies one s n xs ++ replies one (after one s n xs) (n + length xs) ys
replies_append one s n [] ys = let none : n + 0 ≡ n = omega arith in rw none refl
replies_append one s n (x ∷ xs) ys =
    let first = numbered n (one s n x).replies in
    let next = (one s n x).state in
    ap (λ v. first ++ v) (replies_append one next (n + 1) xs ys)
    ∙ sym (append_assoc first (replies one next (n + 1) xs)
    (replies one (after one next (n + 1) xs) (n + 1 + length xs) ys))
    ∙ ap (λ m. first ++ replies one next (n + 1) xs
    ++ replies one (after one next (n + 1) xs) m ys) (count_on n (length xs))

pub runs-on : RunsGoOn
runs-on s n xs ys = (
  state_append step s n xs ys,
  ap reply_lines (replies_append step s n xs ys)
      ∙ flat_map-append reply_line (replies step s n xs)
      (replies step (state_after s n xs) (n + length xs) ys),
)
