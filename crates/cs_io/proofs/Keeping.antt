-- What is kept under the open numbers, and what a slot gives.
use Rattle.std.proofs.Common.{◌≡◌, ◌≢◌, ◌∙◌, ap, sym, refl, ℕ, zero, suc, slice_get, List, [], ◌∷◌, ◌++◌, take, drop, length, ◌+◌, arith, Bool, true, false, ◌||◌, Some, inl, inr}
use Rattle.std.proofs.lemmas.List.{take-append-drop, take_at, drop-drop, length_push}
use Rattle.std.proofs.lemmas.Bool.{cases_eq}
use Rattle.std.proofs.lemmas.Bool.Decides.{nat_tests}
use Rattle.cs_io.specs.Names.{is_open, number_is}
use Rattle.cs_io.specs.Held.{IsPlaced, left_under}
use Rattle.cs_io.specs.declared.slot.Slot.{Slot}
use Rattle.cs_io.specs.declared.library.Asked.{Asked}

or_left : (a b c : Bool) → (a || b) ≡ true → (b ≡ true → c ≡ true) → (a || c) ≡ true
or_left true b c h f = refl
or_left false b c h f = f h

-- a number that is open after a name was added was open before, or is the new one
is_open-push : (asked : List Asked) (a : Asked) (m n : ℕ) → a.number ≡ Some m → is_open (asked ++ a ∷ []) n ≡ true → n ≢ m → is_open asked n ≡ true
is_open-push [] a m n e h ne = let none = rw e at h in absurd (grind (arith, nat_tests))
is_open-push (b ∷ asked) a m n e h ne = or_left (number_is b.number n) (is_open (asked ++ a ∷ []) n) (is_open asked n) h (λ k. is_open-push asked a m n e k ne)

-- an item more is kept, under the next number
pub placed_more : {X : Type 0} (asked : List Asked) (opened : List X) (a : Asked) (x : X) → a.number ≡ Some (length opened) → IsPlaced asked opened → IsPlaced (asked ++ a ∷ []) (opened ++ x ∷ [])
placed_more asked opened a x e h n shown =
    let size = length_push opened x in
    elim (cases_eq n (length opened)) [
      | inl is ↦ omega arith
      | inr ne ↦ let old = h n (is_open-push asked a (length opened) n e shown ne) in omega arith
    ]

-- the bytes from a place on are the piece's front and the bytes from a later place on
pub taken_front : (bytes piece rest : List ℕ) (at count : ℕ) → piece ≡ take count (drop at bytes) → length piece ≡ count → drop at bytes ≡ take count (piece ++ rest) ++ drop (at + count) bytes
taken_front bytes piece rest at count e l =
    let front = take_at piece rest count l in
    let parts = sym (take-append-drop count (drop at bytes)) in
    rw (front, e, ← drop-drop count at bytes) parts

-- an item more is kept: it is last, and the others stay where they are
slice_get-last : {X : Type 0} (xs : List X) (x : X) → slice_get (xs ++ x ∷ []) (length xs) ≡ Some x
slice_get-last [] x = refl
slice_get-last (y ∷ xs) x = slice_get-last xs x

slice_get-push : {X : Type 0} (xs : List X) (x : X) (n : ℕ) → n ≢ length xs → slice_get (xs ++ x ∷ []) n ≡ slice_get xs n
slice_get-push [] x zero ne = absurd (ne refl)
slice_get-push [] x (suc n) ne = refl
slice_get-push (y ∷ xs) x zero ne = refl
slice_get-push (y ∷ xs) x (suc n) ne = slice_get-push xs x n (λ e. ne (ap suc e))

pub left-last : (opened : List Slot) (slot : Slot) (n : ℕ) → n ≡ length opened → slot.at ≡ 0 → left_under (opened ++ slot ∷ []) n ≡ Some slot.bytes.items
left-last opened slot n e at = rw (e, slice_get-last opened slot, at) refl

pub left-push : (opened : List Slot) (slot : Slot) (n other : ℕ) → n ≡ length opened → other ≢ n → left_under (opened ++ slot ∷ []) other ≡ left_under opened other
left-push opened slot n other e ne = rw (slice_get-push opened slot other (λ same. ne (same ∙ sym e))) refl
