-- The bytes of a name.
use Rattle.std.proofs.Common.{◌≡◌, ℕ, ◌<◌, ◌≤◌, ◌+◌, ◌-◌, ◌⊎◌, inl, inr, length, get_or, take, drop, List, ◌∷◌, Bool, true, false, nat_lt, refl, sym, ap, ◌∙◌, arith}
use Rattle.std.proofs.lemmas.Bool.Decides.{nat_tests}
use Rattle.std.proofs.lemmas.List.{take_more, take-append-drop, at_drop_more, at_drop_all}
use Rattle.std.proofs.lemmas.Str.{IsCharBoundary-after_ascii}
use Rattle.std.specs.List.{slice_range}
use Rattle.std.specs.Str.{IsUtf8, IsCharBoundary}
use Rattle.cs_jsonmatch.specs.declared.class.Class.{Class}
use Rattle.cs_jsonmatch.specs.declared.class.Class.TheVariants.{Letter, Digit, Other}
use Rattle.cs_jsonmatch.specs.Grammar.{class}
use Rattle.cs_jsonmatch.specs.Reading.{next_class, Took, IsNameRead}
use Rattle.cs_jsonmatch.proofs.Chars.{high_other}
use Rattle.cs_jsonmatch.proofs.Readings.{NameSoFar, more_name, whole_name}

abbrev pub IsInName : ℕ → Type 0
IsInName b = (class b ≡ Letter) ⊎ (class b ≡ Digit)

low_by : (b : ℕ) → IsInName b → (low : Bool) → nat_lt b 128 ≡ low → b < 128
low_by b is true h = grind (arith, nat_tests)
low_by b (inl k) false h =
    let up : 128 ≤ b = grind (arith, nat_tests) in
    let other = high_other b up in
    absurd (cc)
low_by b (inr k) false h =
    let up : 128 ≤ b = grind (arith, nat_tests) in
    let other = high_other b up in
    absurd (cc)

next_byte : (text : List ℕ) (i : ℕ) → i < length text → drop i text ≡ get_or text i 0 ∷ drop (i + 1) text
next_byte text i here = at_drop_more (λ t. t) text i 0 here

took : (b : ℕ) (old new : List ℕ) → old ≡ b ∷ new → IsInName b → (Took Letter b old new) ⊎ (Took Digit b old new)
took b old new e (inl k) = inl (e, k)
took b old new e (inr k) = inr (e, k)

-- what is read of a name, and that the text may be cut behind it
pub record IsReadTo (text : List ℕ) (i : ℕ) : Type 0 where
  pub name : NameSoFar (take i text) (drop i text)
  pub cut : IsCharBoundary text i

pub one_more : (text : List ℕ) (i : ℕ) → IsUtf8 text → i < length text → IsInName (get_or text i 0) → IsReadTo text i → IsReadTo text (i + 1)
one_more text i utf8 here is so_far = record {
  name = inr (rw (take_more text i 0 here) (more_name (take i text) (drop i text) (drop (i + 1) text) (get_or text i 0) so_far.name (took (get_or text i 0) (drop i text) (drop (i + 1) text) (next_byte text i here) is)));
  cut = IsCharBoundary-after_ascii text i utf8 here (low_by (get_or text i 0) is (nat_lt (get_or text i 0) 128) refl);
}

pub name_ends : (text : List ℕ) (i : ℕ) → IsReadTo text i → (next_class (drop i text) ≡ Letter → ⊥) → (next_class (drop i text) ≡ Digit → ⊥) → IsNameRead (take i text) text (drop i text)
name_ends text i so_far k l = (sym (take-append-drop i text), whole_name (take i text) (drop i text) so_far.name k, k, l)

-- the class of a byte is that of what follows from it on
pub not_next : (text : List ℕ) (i : ℕ) (k : Class) → i < length text → (class (get_or text i 0) ≡ k → ⊥) → next_class (drop i text) ≡ k → ⊥
not_next text i k here h e = h (sym (ap next_class (next_byte text i here)) ∙ e)

-- no byte is left
pub none_next : (text : List ℕ) (i : ℕ) (k : Class) → length text ≤ i → (Other ≡ k → ⊥) → next_class (drop i text) ≡ k → ⊥
none_next text i k past h e = h (sym (at_drop_all next_class text i past) ∙ e)

pub from_start : (text : List ℕ) (n : ℕ) → slice_range text 0 n ≡ take n text
from_start text n =
    let same : n - 0 ≡ n = omega arith in
    ap (λ k. take k text) same
