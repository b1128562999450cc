-- What two appends to a sink make.
use Rattle.std.proofs.Common.{◌∙◌, ap, ℕ, List, ◌++◌, take, drop, length, ◌+◌, ◌-◌, append_assoc, Option, None, Some}
use Rattle.std.specs.Io.KnownBytes.{Appends}
use Rattle.std.proofs.Math.Seq.{take-add}
use Rattle.std.proofs.lemmas.List.{take_rest}

pub appends_both : (a b c : Option (List ℕ)) (p q : List ℕ) → Appends a b p → Appends b c q → Appends a c (p ++ q)
appends_both None b c p q h k = tt
appends_both (Some xs) None c p q h k = absurd h
appends_both (Some xs) (Some ys) None p q h k = absurd k
appends_both (Some xs) (Some ys) (Some zs) p q h k = k ∙ ap (λ v. v ++ q) h ∙ append_assoc xs p q

-- the first d bytes, and then n more of the rest
pub appends_more : (a b c : Option (List ℕ)) (bs : List ℕ) (d n : ℕ) → Appends a b (take d bs) → Appends b c (take n (take (length bs - d) (drop d bs))) → Appends a c (take (d + n) bs)
appends_more a b c bs d n h k = rw take-add (appends_both a b c _ _ h (rw (take_rest bs d) at k))
