-- What a write leaves of an object's other attributes, and how deep it gets.
use Rattle.std.proofs.Common.{◌≡◌, ℕ, suc, ◌≤◌, max, List, true, false, Option, Some, Ordering, Less, Equal, Greater, nat_cmp, nat_le, bytes_eq, refl, sym, ap, ◌∙◌, arith}
use Rattle.std.proofs.lemmas.Cmp.{nat_list_cmp_total, tied_itself}
use Rattle.std.proofs.lemmas.Map.Lookups.{exact_bytes}
use Rattle.std.proofs.lemmas.Map.Text.{is_eq-slice_cmp}
use Rattle.std.proofs.lemmas.Grind.{common_steps}
use Rattle.std.specs.Cmp.Lexicographic.{slice_cmp}
use Rattle.std.specs.Ordering.{is_eq, match_ordering}
use Rattle.cs_value.specs.Tree.{Tree, text, object, Pairs, no_pairs, more_pairs, depth, pairs_depth}
use Rattle.cs_value.specs.Pairs.{find, put, without}
use Rattle.cs_view.specs.Document.{is_shallow}
use Rattle.cs_alter.specs.Within.{update_pair}

passed_by : (o : Ordering) (x y : Option Tree) → is_eq o ≡ false → match_ordering o x y x ≡ x
passed_by Less x y h = refl
passed_by Equal x y h = cc
passed_by Greater x y h = refl

-- another name is passed by
pub passes : (n l : List ℕ) (t : Tree) (ps : Pairs)
    → bytes_eq n l ≡ false → find n (more_pairs l t ps) ≡ find n ps
passes n l t ps h = passed_by (slice_cmp nat_cmp n l) (find n ps) (Some t) (is_eq-slice_cmp n l ∙
    h)

-- what is found behind the first attribute
behind : (n l : List ℕ) (t : Tree) (ps qs : Pairs)
    → find n ps ≡ find n qs → find n (more_pairs l t ps) ≡ find n (more_pairs l t qs)
behind n l t ps qs h = ap (λ r. match_ordering (slice_cmp nat_cmp n l) r (Some t) r) h

same_name : (n k l : List ℕ) → slice_cmp nat_cmp k l ≡ Equal → bytes_eq n k ≡ false
    → bytes_eq n l ≡ false
same_name n k l e h = ap (bytes_eq n) (sym (exact_bytes k l e)) ∙ h

-- Of another name than the one that is written the same is found.
pub other-put : (n k : List ℕ) (x : Tree) (ps : Pairs)
    → bytes_eq n k ≡ false → find n (put k x ps) ≡ find n ps
other-put n k x no_pairs h = passes n k x no_pairs h
other-put n k x (more_pairs l u ps) h =
    elim (slice_cmp nat_cmp k l) as (λ o. slice_cmp nat_cmp k l ≡ o → find n (match_ordering o
    (more_pairs k x (more_pairs l u ps)) (more_pairs l x ps) (more_pairs l u (put k x ps))) ≡
    find n (more_pairs l u ps)) [
      | Less ↦ λ e. passes n k x (more_pairs l u ps) h
      | Equal ↦ λ e. let g = same_name n k l e h in passes n l x ps g ∙ sym (passes n l u ps g)
      | Greater ↦ λ e. behind n l u (put k x ps) ps (other-put n k x ps h)
    ] refl

pub other-without : (n k : List ℕ) (ps : Pairs)
    → bytes_eq n k ≡ false → find n (without k ps) ≡ find n ps
other-without n k no_pairs h = refl
other-without n k (more_pairs l u ps) h =
    elim (slice_cmp nat_cmp k l) as (λ o. slice_cmp nat_cmp k l ≡ o → find n (match_ordering o
    (more_pairs l u (without k ps)) ps (more_pairs l u (without k ps))) ≡ find n (more_pairs l
    u ps)) [
      | Less ↦ λ e. behind n l u (without k ps) ps (other-without n k ps h)
      | Equal ↦ λ e. sym (passes n l u ps (same_name n k l e h))
      | Greater ↦ λ e. behind n l u (without k ps) ps (other-without n k ps h)
    ] refl

pub other-update : (n k : List ℕ) (f : Tree → Tree) (ps : Pairs)
    → bytes_eq n k ≡ false → find n (update_pair k f ps) ≡ find n ps
other-update n k f no_pairs h = refl
other-update n k f (more_pairs l u ps) h =
    elim (slice_cmp nat_cmp k l) as (λ o. slice_cmp nat_cmp k l ≡ o → find n (match_ordering o
    (more_pairs l u (update_pair k f ps)) (more_pairs l (f u) ps) (more_pairs l u (update_pair
    k f ps))) ≡ find n (more_pairs l u ps)) [
      | Less ↦ λ e. behind n l u (update_pair k f ps) ps (other-update n k f ps h)
      | Equal ↦ λ e. let g = same_name n k l e h in passes n l (f u) ps g ∙ sym (passes n l u ps g)
      | Greater ↦ λ e. behind n l u (update_pair k f ps) ps (other-update n k f ps h)
    ] refl

found_here : (k l : List ℕ) (x : Tree) (ps : Pairs)
    → slice_cmp nat_cmp k l ≡ Equal → find k (more_pairs l x ps) ≡ Some x
found_here k l x ps e = ap (λ o. match_ordering o (find k ps) (Some x) (find k ps)) e

-- What is written is found.
pub same-put : (k : List ℕ) (x : Tree) (ps : Pairs) → find k (put k x ps) ≡ Some x
same-put k x no_pairs = found_here k k x no_pairs (tied_itself nat_list_cmp_total k)
same-put k x (more_pairs l u ps) =
    elim (slice_cmp nat_cmp k l) as (λ o. slice_cmp nat_cmp k l ≡ o → find k (match_ordering o
    (more_pairs k x (more_pairs l u ps)) (more_pairs l x ps) (more_pairs l u (put k x ps))) ≡
    Some x) [
      | Less ↦ λ e. found_here k k x (more_pairs l u ps) (tied_itself nat_list_cmp_total k)
      | Equal ↦ λ e. found_here k l x ps e
      | Greater ↦ λ e. ap (λ o. match_ordering o (find k (put k x ps)) (Some u) (find k (put k x
          ps))) e ∙ same-put k x ps
    ] refl

wider : (a b c : ℕ) → b ≤ c → max a b ≤ max a c
wider a b c h = grind (arith, common_steps)

none_wider : (a b : ℕ) → max 0 b ≤ max a b
none_wider a b = grind (arith, common_steps)

-- a text makes no object deeper
text_put : (k s : List ℕ) (ps : Pairs) → pairs_depth (put k (text s) ps) ≤ pairs_depth ps
text_put k s no_pairs = omega arith
text_put k s (more_pairs l u ps) =
    elim (slice_cmp nat_cmp k l) as (λ o. pairs_depth (match_ordering o (more_pairs k (text s)
    (more_pairs l u ps)) (more_pairs l (text s) ps) (more_pairs l u (put k (text s) ps))) ≤ max
    (depth u) (pairs_depth ps)) [
      | Less ↦ grind (arith, common_steps)
      | Equal ↦ none_wider (depth u) (pairs_depth ps)
      | Greater ↦ wider (depth u) (pairs_depth (put k (text s) ps)) (pairs_depth ps) (text_put k
          s ps)
    ]

within : (a b n : ℕ) → a ≤ b → nat_le (suc b) n ≡ true → nat_le (suc a) n ≡ true
within a b n h g = grind (arith, common_steps)

pub shallow-put : (k s : List ℕ) (ps : Pairs)
    → is_shallow (object ps) ≡ true → is_shallow (object (put k (text s) ps)) ≡ true
shallow-put k s ps h = within (pairs_depth (put k (text s) ps)) (pairs_depth ps) 48 (text_put k s
    ps) h
