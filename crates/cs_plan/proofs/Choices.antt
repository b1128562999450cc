-- The best of some keys is the first by kind.
use Rattle.std.proofs.Common.{◌≡◌, ℕ, List, [], ◌∷◌, ◌++◌, append_assoc, Option, Some, None, refl, sym, ap, ◌∙◌, true≢false, nat_lt, Bool, true, false, cond, arith}
use Rattle.std.specs.Prelude.{fold, filter, option_to_list}
use Rattle.std.proofs.lemmas.Grind.{common_steps}
use Rattle.cs_value.specs.Tree.{Tree, Pairs}
use Rattle.cs_syntax.specs.Expression.{Expression, run, Operands}
use Rattle.cs_view.specs.declared.key.Key.{Key}
use Rattle.cs_view.specs.declared.key.Key.TheVariants.{All, Id, Path, Elem, Ref}
use Rattle.cs_plan.specs.Filters.{all_and, conjuncts, operand_conjuncts, keys_given, first_or_all, by_kind, conjunct_key, is_id_key, is_ref_key, is_path_key, is_element_key}
use Rattle.cs_plan.specs.Picked.{rank, picked}

associative : (a b c : Key) → picked a (picked b c) ≡ picked (picked a b) c
associative a b c = grind (arith, common_steps)

with_all : (k : Key) → picked k All ≡ k
with_all (Id t) = refl
with_all (Ref t) = refl
with_all (Path ns s) = refl
with_all (Elem ns s) = refl
with_all All = refl

all_with : (k : Key) → picked All k ≡ k
all_with (Id t) = refl
all_with (Ref t) = refl
all_with (Path ns s) = refl
all_with (Elem ns s) = refl
all_with All = refl

through_one : (b : Bool) (k x : Key) (xs u v : List Key) → (b ≡ true → picked k x ≡ x) → first_or_all (xs ++ u) ≡ picked k (first_or_all (xs ++ v))
    → first_or_all (cond b (x ∷ xs) xs ++ u) ≡ picked k (first_or_all (cond b (x ∷ xs) xs ++ v))
through_one true k x xs u v h is = sym (h refl)
through_one false k x xs u v h is = is

-- behind keys that are better than k
through : (f : Key → Bool) (k : Key) → ((x : Key) → f x ≡ true → picked k x ≡ x) → (ks u v : List Key) → first_or_all u ≡ picked k (first_or_all v)
    → first_or_all (filter f ks ++ u) ≡ picked k (first_or_all (filter f ks ++ v))
through f k h [] u v base = base
through f k h (x ∷ ks) u v base = through_one (f x) k x (filter f ks) u v (h x) (through f k h ks u v base)

stays_one : (b : Bool) (k x : Key) (xs v : List Key) → (b ≡ true → picked k x ≡ k) → k ≡ picked k (first_or_all (xs ++ v)) → k ≡ picked k (first_or_all (cond b (x ∷ xs) xs ++ v))
stays_one true k x xs v h is = sym (h refl)
stays_one false k x xs v h is = is

-- before keys that are no better than k
stays : (f : Key → Bool) (k : Key) → ((x : Key) → f x ≡ true → picked k x ≡ k) → (ks v : List Key) → k ≡ picked k (first_or_all v) → k ≡ picked k (first_or_all (filter f ks ++ v))
stays f k h [] v base = base
stays f k h (x ∷ ks) v base = stays_one (f x) k x (filter f ks) v (h x) (stays f k h ks v base)

last_one : (b : Bool) (k x : Key) (xs : List Key) → (b ≡ true → picked k x ≡ k) → k ≡ picked k (first_or_all xs) → k ≡ picked k (first_or_all (cond b (x ∷ xs) xs))
last_one true k x xs h is = sym (h refl)
last_one false k x xs h is = is

last : (f : Key → Bool) (k : Key) → ((x : Key) → f x ≡ true → picked k x ≡ k) → (ks : List Key) → k ≡ picked k (first_or_all (filter f ks))
last f k h [] = sym (with_all k)
last f k h (x ∷ ks) = last_one (f x) k x (filter f ks) (h x) (last f k h ks)

under : (k x : Key) → nat_lt (rank x) (rank k) ≡ true → picked k x ≡ x
under k x h = ap (λ (b : Bool). cond b x k) h

over : (k x : Key) → nat_lt (rank x) (rank k) ≡ false → picked k x ≡ k
over k x h = ap (λ (b : Bool). cond b x k) h

rank_id : (x : Key) → is_id_key x ≡ true → rank x ≡ 0
rank_id (Id t) h = refl
rank_id (Ref t) h = absurd (true≢false (sym h))
rank_id (Path ns s) h = absurd (true≢false (sym h))
rank_id (Elem ns s) h = absurd (true≢false (sym h))
rank_id All h = absurd (true≢false (sym h))

rank_ref : (x : Key) → is_ref_key x ≡ true → rank x ≡ 1
rank_ref (Id t) h = absurd (true≢false (sym h))
rank_ref (Ref t) h = refl
rank_ref (Path ns s) h = absurd (true≢false (sym h))
rank_ref (Elem ns s) h = absurd (true≢false (sym h))
rank_ref All h = absurd (true≢false (sym h))

rank_path : (x : Key) → is_path_key x ≡ true → rank x ≡ 2
rank_path (Id t) h = absurd (true≢false (sym h))
rank_path (Ref t) h = absurd (true≢false (sym h))
rank_path (Path ns s) h = refl
rank_path (Elem ns s) h = absurd (true≢false (sym h))
rank_path All h = absurd (true≢false (sym h))

rank_elem : (x : Key) → is_element_key x ≡ true → rank x ≡ 3
rank_elem (Id t) h = absurd (true≢false (sym h))
rank_elem (Ref t) h = absurd (true≢false (sym h))
rank_elem (Path ns s) h = absurd (true≢false (sym h))
rank_elem (Elem ns s) h = refl
rank_elem All h = absurd (true≢false (sym h))

-- of keys of rank n, k or they come first
lower : (f : Key → Bool) (n : ℕ) (k : Key) → ((x : Key) → f x ≡ true → rank x ≡ n) → nat_lt n (rank k) ≡ true → (x : Key) → f x ≡ true → picked k x ≡ x
lower f n k h less x is = under k x (ap (λ (r : ℕ). nat_lt r (rank k)) (h x is) ∙ less)

higher : (f : Key → Bool) (n : ℕ) (k : Key) → ((x : Key) → f x ≡ true → rank x ≡ n) → nat_lt n (rank k) ≡ false → (x : Key) → f x ≡ true → picked k x ≡ k
higher f n k h less x is = over k x (ap (λ (r : ℕ). nat_lt r (rank k)) (h x is) ∙ less)

first_id : (t : List ℕ) (x : Key) → picked (Id t) x ≡ Id t
first_id t (Id u) = refl
first_id t (Ref u) = refl
first_id t (Path ns s) = refl
first_id t (Elem ns s) = refl
first_id t All = refl

lead : (k : Key) (ks : List Key) → first_or_all (by_kind (k ∷ ks)) ≡ picked k (first_or_all (by_kind ks))
lead All ks = sym (all_with (first_or_all (by_kind ks)))
lead (Id t) ks = sym (first_id t (first_or_all (by_kind ks)))
lead (Ref t) ks = through is_id_key (Ref t) (lower is_id_key 0 (Ref t) rank_id refl) ks _ (filter is_ref_key ks ++ (filter is_path_key ks ++ filter is_element_key ks))
    (stays is_ref_key (Ref t) (higher is_ref_key 1 (Ref t) rank_ref refl) ks _ (stays is_path_key (Ref t) (higher is_path_key 2 (Ref t) rank_path refl) ks _ (last is_element_key (Ref t) (higher is_element_key 3 (Ref t) rank_elem refl) ks)))
lead (Path ns s) ks = through is_id_key (Path ns s) (lower is_id_key 0 (Path ns s) rank_id refl) ks _ (filter is_ref_key ks ++ (filter is_path_key ks ++ filter is_element_key ks))
    (through is_ref_key (Path ns s) (lower is_ref_key 1 (Path ns s) rank_ref refl) ks _ (filter is_path_key ks ++ filter is_element_key ks)
    (stays is_path_key (Path ns s) (higher is_path_key 2 (Path ns s) rank_path refl) ks _ (last is_element_key (Path ns s) (higher is_element_key 3 (Path ns s) rank_elem refl) ks)))
lead (Elem ns s) ks = through is_id_key (Elem ns s) (lower is_id_key 0 (Elem ns s) rank_id refl) ks _ (filter is_ref_key ks ++ (filter is_path_key ks ++ filter is_element_key ks))
    (through is_ref_key (Elem ns s) (lower is_ref_key 1 (Elem ns s) rank_ref refl) ks _ (filter is_path_key ks ++ filter is_element_key ks)
    (through is_path_key (Elem ns s) (lower is_path_key 2 (Elem ns s) rank_path refl) ks _ (filter is_element_key ks)
    (last is_element_key (Elem ns s) (higher is_element_key 3 (Elem ns s) rank_elem refl) ks)))

from : (ks : List Key) (k : Key) → fold picked k ks ≡ picked k (first_or_all (by_kind ks))
from [] k = sym (with_all k)
from (x ∷ ks) k = from ks (picked k x) ∙ sym (associative k x (first_or_all (by_kind ks))) ∙ ap (picked k) (sym (lead x ks))

pub best_is_first : (ks : List Key) → fold picked All ks ≡ first_or_all (by_kind ks)
best_is_first ks = from ks All ∙ all_with (first_or_all (by_kind ks))

taken : {A : Type 0} (b : Bool) (x y : A) → b ≡ true → cond b x y ≡ x
taken true x y h = refl
taken false x y h = absurd (true≢false (sym h))

-- the conjuncts of a run of `&&` are those of its sides
pub keys_of_run : (e : Expression) (rest : Operands) (scope : List Tree) (params : Pairs)
    → all_and rest ≡ true
    → keys_given scope params (conjuncts (run e rest))
    ≡ keys_given scope params (conjuncts e ++ operand_conjuncts rest)
keys_of_run e rest scope params h = ap (keys_given scope params) (taken (all_and rest) _ _ h)

untaken : {A : Type 0} (b : Bool) (x y : A) → b ≡ false → cond b x y ≡ y
untaken true x y h = absurd (true≢false h)
untaken false x y h = refl

pub one_key : (o : Option Key) → option_to_list o ++ [] ≡ option_to_list o
one_key None = refl
one_key (Some k) = refl

-- any other run is one conjunct
pub keys_of_other : (e : Expression) (rest : Operands) (scope : List Tree) (params : Pairs)
    → all_and rest ≡ false
    → keys_given scope params (conjuncts (run e rest))
    ≡ option_to_list (conjunct_key (run e rest) scope params)
keys_of_other e rest scope params h =
    ap (keys_given scope params) (untaken (all_and rest) _ _ h)
    ∙ one_key (conjunct_key (run e rest) scope params)

pub given_both : (scope : List Tree) (params : Pairs) (xs ys : List Expression)
    → keys_given scope params (xs ++ ys) ≡ keys_given scope params xs ++ keys_given scope params ys
given_both scope params [] ys = refl
given_both scope params (x ∷ xs) ys =
    ap (λ ks. option_to_list (conjunct_key x scope params) ++ ks) (given_both scope params xs ys)
    ∙ sym (append_assoc (option_to_list (conjunct_key x scope params)) (keys_given scope params xs)
    (keys_given scope params ys))

-- the keys of the sides of a run of `&&`, one after the other, are those of the run
pub given_in_run : (ks0 ks1 ks2 : List Key) (e whole : Expression) (rest : Operands) (scope : List Tree) (params : Pairs)
    → ks1 ≡ ks0 ++ keys_given scope params (conjuncts e)
    → ks2 ≡ ks1 ++ keys_given scope params (operand_conjuncts rest)
    → all_and rest ≡ true → whole ≡ run e rest
    → ks2 ≡ ks0 ++ keys_given scope params (conjuncts whole)
given_in_run ks0 ks1 ks2 e whole rest scope params first second all is =
    let given = keys_given scope params in
    second ∙ ap (λ (ks : List Key). ks ++ given (operand_conjuncts rest)) first
    ∙ append_assoc ks0 (given (conjuncts e)) (given (operand_conjuncts rest))
    ∙ ap (λ (ks : List Key). ks0 ++ ks)
    (sym (given_both scope params (conjuncts e) (operand_conjuncts rest))
    ∙ sym (keys_of_run e rest scope params all)
    ∙ ap (λ (x : Expression). given (conjuncts x)) (sym is))
