-- Locations held in a set, and a target that is inside one of them.
use Rattle.std.proofs.Common.{◌≡◌, ◌<◌, ◌+◌, ℕ, zero, suc, List, [], ◌∷◌, ◌++◌, ◌||◌, ◌&&◌, Bool, true, false, cond, length, take, drop, get_or, refl, sym, ap, ◌∙◌, arith, nat_eq, bytes_eq}
use Rattle.std.specs.List.{list_any}
use Rattle.std.specs.Ordering.{is_eq, ordering_then, nat_cmp}
use Rattle.std.specs.declared.cmp.Ordering.{Ordering}
use Rattle.std.specs.declared.cmp.Ordering.TheVariants.{Less, Equal, Greater}
use Rattle.std.specs.Cmp.{nat_eq_equiv, unsigned_ties}
use Rattle.std.specs.Cmp.Lexicographic.{slice_cmp, nat_list_eq_equiv}
use Rattle.std.proofs.lemmas.List.{at_drop_more}
use Rattle.std.proofs.lemmas.Map.Text.{is_eq-slice_cmp}
use Rattle.cs_jsonmatch.specs.Places.{Location}
use Rattle.cs_jsonmatch.specs.declared.places.Part.{Part}
use Rattle.cs_jsonmatch.specs.declared.places.Part.TheVariants.{Name, Pos}
use Rattle.cs_jsonmatch.specs.contracts.places.PartOrd.TheImpl as part_order
use Rattle.cs_alter.specs.Within.{is_inside, same_part}
use Rattle.cs_targets.specs.Held.{same_location, any_before}
use Rattle.cs_targets.specs.declared.target.Target.{Target}

-- ---- the same location
then_both : (o p : Ordering) → is_eq (ordering_then o p) ≡ (is_eq o && is_eq p)
then_both Less p = refl
then_both Equal p = refl
then_both Greater p = refl

same_number : (j k : ℕ) → is_eq (nat_cmp k j) ≡ nat_eq j k
same_number j k = sym (unsigned_ties k j) ∙ nat_eq_equiv.symm k j

same_name : (m n : List ℕ) → is_eq (slice_cmp nat_cmp n m) ≡ bytes_eq m n
same_name m n = is_eq-slice_cmp n m ∙ nat_list_eq_equiv.symm n m

same_parts : (x y : Part) → is_eq (part_order.ghosts.cmp y x) ≡ same_part x y
same_parts (Name m) (Name n) = same_name m n
same_parts (Name m) (Pos k) = refl
same_parts (Pos j) (Name n) = refl
same_parts (Pos j) (Pos k) = same_number j k

same_more : (x y : Part) (l m : Location)
    → same_location (y ∷ m) (x ∷ l) ≡ (same_part x y && same_location m l)
same_more x y l m =
    then_both (part_order.ghosts.cmp y x) (slice_cmp part_order.ghosts.cmp m l)
    ∙ ap (λ b. b && same_location m l) (same_parts x y)

-- ---- what is met on the way
before-same : (p q : Location → Bool) → ((l : Location) → p l ≡ q l) → (l : Location)
    → any_before p l ≡ any_before q l
before-same p q h [] = refl
before-same p q h (x ∷ l) =
    ap (λ b. b || any_before (λ m. p (x ∷ m)) l) (h [])
    ∙ ap (λ b. q [] || b) (before-same (λ m. p (x ∷ m)) (λ m. q (x ∷ m)) (λ m. h (x ∷ m)) l)

before-false : (l : Location) → any_before (λ m. false) l ≡ false
before-false [] = refl
before-false (x ∷ l) = before-false l

or_pairs : (a b c d : Bool) → ((a || b) || (c || d)) ≡ ((a || c) || (b || d))
or_pairs true b c d = refl
or_pairs false b true d = or_true b
  where
    or_true : (b : Bool) → (b || true) ≡ true
    or_true true = refl
    or_true false = refl
or_pairs false b false d = refl

before-or : (p q : Location → Bool) (l : Location)
    → any_before (λ m. p m || q m) l ≡ (any_before p l || any_before q l)
before-or p q [] = refl
before-or p q (x ∷ l) =
    ap (λ b. (p [] || q []) || b) (before-or (λ m. p (x ∷ m)) (λ m. q (x ∷ m)) l)
    ∙ or_pairs (p []) (q []) (any_before (λ m. p (x ∷ m)) l) (any_before (λ m. q (x ∷ m)) l)

before-and : (b : Bool) (p : Location → Bool) (l : Location)
    → any_before (λ m. b && p m) l ≡ (b && any_before p l)
before-and true p l = refl
before-and false p l = before-false l

before-inside : (l m : Location) → any_before (λ k. same_location m k) l ≡ is_inside l m
before-inside [] m = refl
before-inside (x ∷ l) [] = refl
before-inside (x ∷ l) (y ∷ m) =
    before-same (λ k. same_location (y ∷ m) (x ∷ k)) (λ k. same_part x y && same_location m k)
    (λ k. same_more x y k m) l
    ∙ before-and (same_part x y) (λ k. same_location m k) l
    ∙ ap (λ b. same_part x y && b) (before-inside l m)

before-any : (ts : List Target) (l : Location)
    → any_before (λ k. list_any (λ t. same_location t.location.items k) ts) l
    ≡ list_any (λ t. is_inside l t.location.items) ts
before-any [] l = before-false l
before-any (t ∷ ts) l =
    before-or (λ k. same_location t.location.items k)
    (λ k. list_any (λ u. same_location u.location.items k) ts) l
    ∙ ap (λ b. b || any_before (λ k. list_any (λ u. same_location u.location.items k) ts) l)
    (before-inside l t.location.items)
    ∙ ap (λ b. is_inside l t.location.items || b) (before-any ts l)

-- a location is inside one of the targets' where one of these is met on the way to it
pub inside-held : (held : Location → Bool) (ts : List Target)
    → ((l : Location) → held l ≡ list_any (λ t. same_location t.location.items l) ts)
    → (l : Location) → any_before held l ≡ list_any (λ t. is_inside l t.location.items) ts
inside-held held ts h l =
    before-same held (λ k. list_any (λ t. same_location t.location.items k) ts) h l ∙ before-any ts l

-- ---- one more length looked at
before-suc : (p : Location → Bool) (l : Location) (n : ℕ) → n < length l → p (take n l) ≡ false
    → any_before (λ m. p (take n l ++ m)) (drop n l)
    ≡ any_before (λ m. p (take (suc n) l ++ m)) (drop (suc n) l)
before-suc p [] n h e = absurd (omega arith)
before-suc p (x ∷ l) zero h e = ap (λ b. b || any_before (λ m. p (x ∷ m)) l) e
before-suc p (x ∷ l) (suc n) h e = before-suc (λ m. p (x ∷ m)) l n (omega arith) e

pub before-more : (p : Location → Bool) (l : Location) (n : ℕ) → n < length l → p (take n l) ≡ false
    → any_before (λ m. p (take n l ++ m)) (drop n l)
    ≡ any_before (λ m. p (take (n + 1) l ++ m)) (drop (n + 1) l)
before-more p l n h e =
    let on : suc n ≡ n + 1 = omega arith in
    before-suc p l n h e ∙ ap (λ k. any_before (λ m. p (take k l ++ m)) (drop k l)) on

pub before-here : (p : Location → Bool) (l : Location) (n : ℕ) → n < length l → p (take n l) ≡ true
    → any_before (λ m. p (take n l ++ m)) (drop n l) ≡ true
before-here p [] n h e = absurd (omega arith)
before-here p (x ∷ l) zero h e = ap (λ b. b || any_before (λ m. p (x ∷ m)) l) e
before-here p (x ∷ l) (suc n) h e = before-here (λ m. p (x ∷ m)) l n (omega arith) e

-- ---- one more location held
or_move : (a b c : Bool) → (cond a true b || c) ≡ (b || (a || c))
or_move true true c = refl
or_move true false c = refl
or_move false b c = refl

pub hold-more : (ts : List Target) (i : ℕ) (t : Target) (l : Location) (old new whole : Bool)
    → i < length ts → t ≡ get_or ts i t
    → new ≡ cond (same_location t.location.items l) true old
    → (old || list_any (λ u. same_location u.location.items l) (drop i ts)) ≡ whole
    → (new || list_any (λ u. same_location u.location.items l) (drop (i + 1) ts)) ≡ whole
hold-more ts i t l old new whole here at is so_far =
    let rest = list_any (λ u. same_location u.location.items l) (drop (i + 1) ts) in
    ap (λ b. b || rest) is
    ∙ or_move (same_location t.location.items l) old rest
    ∙ ap (λ b. old || b) (sym (at_drop_more (list_any (λ u. same_location u.location.items l)) ts i t here
    ∙ ap (λ u. list_any (λ w. same_location w.location.items l) (u ∷ drop (i + 1) ts)) (sym at)))
    ∙ so_far
