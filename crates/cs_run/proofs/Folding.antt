-- The machine over one line more.
use Rattle.std.proofs.Common.{◌≡◌, ◌∙◌, ap, sym, refl, ℕ, zero, suc, List, [], ◌∷◌, ◌++◌, take, drop, length, ◌+◌, ◌≤◌, append_assoc, map, arith}
use Rattle.std.proofs.lemmas.List.{append-nil, map-append}
use Rattle.std.proofs.lemmas.Grind.{flat_map-append}
use Rattle.cs_reply.specs.Reply as plain
use Rattle.cs_machine.specs.Replies.{Reply, reply_line, reply_lines, numbered}
use Rattle.cs_machine.specs.Fold.{Step, replies}
use Rattle.cs_machine.specs.Fold as fold
use Rattle.cs_machine.specs.Expected.{counted}
use Rattle.cs_machine.specs.Machine.{step, state_after, written}
use Rattle.cs_core.specs.Does.{step_writes, step_state, step_replies}
use Rattle.cs_machine.specs.State.{State}

-- the list after k elements begins with x
pub record Next {X : Type 0} (k : ℕ) (all : List X) (x : X) (rest : List X) : Type 0 where
  pub taken : take (suc k) all ≡ take k all ++ x ∷ []
  pub left : drop (suc k) all ≡ rest
  pub within : suc k ≤ length all
  pub front : length (take k all) ≡ k

pub next_of : {X : Type 0} (k : ℕ) (all : List X) (x : X) (rest : List X) → drop k all ≡ x ∷ rest → Next k all x rest
next_of zero [] x rest e = cc
next_of zero (y ∷ all) x rest e = record { taken = cc; left = cc; within = omega arith; front = refl }
next_of (suc k) [] x rest e = cc
next_of (suc k) (y ∷ all) x rest e = let h = next_of k all x rest e in record {
  taken = ap (λ v. y ∷ v) h.taken;
  left = h.left;
  within = omega (arith, h.within);
  front = ap suc h.front;
}

count_on : (n : ℕ) (k : ℕ) → n + 1 + k ≡ n + suc k
count_on n k = omega arith

-- any machine, over one line more and over more lines
after_push : {S : Type 0} (one : Step S) (s : S) (n : ℕ) (lines : List (List ℕ)) (line : List ℕ) → fold.state_after one s n (lines ++ line ∷ []) ≡ (one (fold.state_after one s n lines) (n + length lines) line).state
after_push one s n [] line = let none : n + 0 ≡ n = omega arith in rw none refl
after_push one s n (l ∷ lines) line =
    after_push one (one s n l).state (n + 1) lines line ∙ ap (λ m. (one (fold.state_after one (one s n l).state (n + 1) lines) m line).state) (count_on n (length lines))

replies_append : {S : Type 0} (one : Step S) (s : S) (n : ℕ) (xs ys : List (List ℕ)) → replies one s n (xs ++ ys) ≡ replies one s n xs ++ replies one (fold.state_after one s n xs) (n + length xs) ys
replies_append one s n [] ys = let none : n + 0 ≡ n = omega arith in rw none refl
replies_append one s n (x ∷ xs) ys =
    let first = numbered n (one s n x).replies in
    let next = (one s n x).state in
    ap (λ v. first ++ v) (replies_append one next (n + 1) xs ys)
    ∙ sym (append_assoc first (replies one next (n + 1) xs) (replies one (fold.state_after one next (n + 1) xs) (n + 1 + length xs) ys))
    ∙ ap (λ m. first ++ replies one next (n + 1) xs ++ replies one (fold.state_after one next (n + 1) xs) m ys) (count_on n (length xs))

-- the machine of the store
pub state_push : (s : State) (n : ℕ) (lines : List (List ℕ)) (line : List ℕ) → state_after s n (lines ++ line ∷ []) ≡ step_state (state_after s n lines) (n + length lines) line
state_push s n lines line = after_push step s n lines line

pub written_append : (s : State) (n : ℕ) (xs ys : List (List ℕ)) → written s n (xs ++ ys) ≡ written s n xs ++ written (state_after s n xs) (n + length xs) ys
written_append s n xs ys =
    ap reply_lines (replies_append step s n xs ys) ∙ flat_map-append reply_line (replies step s n xs) (replies step (state_after s n xs) (n + length xs) ys)

pub written_push : (s : State) (n : ℕ) (lines : List (List ℕ)) (line : List ℕ) → written s n (lines ++ line ∷ []) ≡ written s n lines ++ step_writes (state_after s n lines) (n + length lines) line
written_push s n lines line =
    let last = numbered (n + length lines) (step (state_after s n lines) (n + length lines) line).replies in
    written_append s n lines (line ∷ []) ∙ ap (λ v. written s n lines ++ reply_lines v) (append-nil last)

-- the replies to lines, as they are counted
abbrev pub counted_replies : State → ℕ → List (List ℕ) → List plain.Reply
counted_replies s n lines = map (λ r. counted r.1) (replies step s n lines)

counted_numbered : (n : ℕ) (rs : List Reply) → map (λ r. counted r.1) (numbered n rs) ≡ map counted rs
counted_numbered n [] = refl
counted_numbered n (r ∷ rs) = ap (λ v. counted r ∷ v) (counted_numbered n rs)

pub counted_push : (s : State) (n : ℕ) (lines : List (List ℕ)) (line : List ℕ) → counted_replies s n (lines ++ line ∷ []) ≡ counted_replies s n lines ++ step_replies (state_after s n lines) (n + length lines) line
counted_push s n lines line =
    let k = n + length lines in
    let last = (step (state_after s n lines) k line).replies in
    ap (map (λ r. counted r.1)) (replies_append step s n lines (line ∷ []) ∙ ap (λ v. replies step s n lines ++ v) (append-nil (numbered k last)))
    ∙ map-append (λ r. counted r.1) (replies step s n lines) (numbered k last)
    ∙ ap (λ v. counted_replies s n lines ++ v) (counted_numbered k last)
