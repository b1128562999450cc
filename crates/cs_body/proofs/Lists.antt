-- Lists each of whose members is read.
use Rattle.std.proofs.Common.{◌≡◌, ℕ, ℤ, pos, suc, List, [], ◌∷◌, ◌++◌, map, length, Bool, true, false, cond, ◌&&◌, is_some, unwrap_or, Option, Some, None, option_map, refl, sym, ap, subst, ◌∙◌, append_assoc}
use Rattle.std.specs.List.{list_all, AllByRecursion}
use Rattle.cs_value.specs.Tree.{Tree, Pairs, attributes}
use Rattle.cs_value.specs.Words.{as_integer}
use Rattle.cs_wire.specs.Commands.{given}
use Rattle.cs_patch.specs.View.{are_numbers, numbers}
use Rattle.cs_body.specs.Body.{all_read, numbered}

-- some before others, where those are there
abbrev pub joined : {B : Type 0} → List B → Option (List B) → Option (List B)
joined done more = option_map (λ bs. done ++ bs) more

pub joined_none : {B : Type 0} (more : Option (List B)) → joined [] more ≡ more
joined_none None = refl
joined_none (Some bs) = refl

nothing_more : {B : Type 0} (done : List B) → done ++ [] ≡ done
nothing_more [] = refl
nothing_more (b ∷ bs) = ap (λ r. b ∷ r) (nothing_more bs)

pub joined_end : {B : Type 0} (done : List B) → joined done (Some []) ≡ Some done
joined_end done = ap Some (nothing_more done)

pub joined_more : {B : Type 0} (done : List B) (b : B) (more : Option (List B)) → joined done (given (Some (λ bs. b ∷ bs)) more) ≡ joined (done ++ b ∷ []) more
joined_more done b None = refl
joined_more done b (Some bs) = ap Some (sym (append_assoc done (b ∷ []) bs))

-- the next one is read, or none is
pub read_more : {A B : Type 0} (read : A → Option B) (done : List B) (x : A) (xs : List A) (b : B) → read x ≡ Some b
    → joined done (all_read read (x ∷ xs)) ≡ joined (done ++ b ∷ []) (all_read read xs)
read_more read done x xs b is =
    ap (λ o. joined done (given (option_map (λ b bs. b ∷ bs) o) (all_read read xs))) is ∙ joined_more done b (all_read read xs)

pub read_none : {A B : Type 0} (read : A → Option B) (done : List B) (x : A) (xs : List A) → read x ≡ None → joined done (all_read read (x ∷ xs)) ≡ None
read_none read done x xs is = ap (λ o. joined done (given (option_map (λ b bs. b ∷ bs) o) (all_read read xs))) is

numbered_more : (k : List ℕ) (o : Option ℤ) (b : Bool) (rest : List (List ℕ × ℤ))
    → given (option_map (λ b bs. b ∷ bs) (option_map (λ n. (k, n)) o)) (cond b (Some rest) None) ≡ cond (is_some o && b) (Some ((k, unwrap_or o (pos 0)) ∷ rest)) None
numbered_more k None b rest = refl
numbered_more k (Some n) true rest = refl
numbered_more k (Some n) false rest = refl

numbered_all : (es : List (List ℕ × Tree))
    → all_read numbered es ≡ cond (list_all (λ e. is_some (as_integer e.1)) es) (Some (map (λ e. (e.0, unwrap_or (as_integer e.1) (pos 0))) es)) None
numbered_all [] = refl
numbered_all (e ∷ es) =
    ap (given (option_map (λ b bs. b ∷ bs) (numbered e))) (numbered_all es)
    ∙ numbered_more e.0 (as_integer e.1) (list_all (λ e. is_some (as_integer e.1)) es) (map (λ e. (e.0, unwrap_or (as_integer e.1) (pos 0))) es)

pub numbers_are : (ps : Pairs) (b : Bool) → b ≡ are_numbers ps → all_read numbered (attributes ps) ≡ cond b (Some (numbers ps)) None
numbers_are ps b is = numbered_all (attributes ps) ∙ ap (λ x. cond x (Some (numbers ps)) None) (sym is)

-- what is read of each member, and how many are
pub all_read_have : {A B : Type 0} (read : A → Option B) (P : A → Type 0) (Q : B → Type 0) → ((a : A) (b : B) → P a → read a ≡ Some b → Q b)
    → (xs : List A) (ys : List B) → AllByRecursion P xs → all_read read xs ≡ Some ys → AllByRecursion Q ys
all_read_have {B = B} read P Q each [] [] p e = tt
all_read_have {B = B} read P Q each [] (y ∷ ys) p e = cc
all_read_have {B = B} read P Q each (x ∷ xs) ys p e =
    both (read x) (all_read read xs) ys (λ b is. each x b p.0 is) (λ bs is. all_read_have read P Q each xs bs p.1 is) e
  where
    both : (o : Option B) (more : Option (List B)) (ys : List B) → ((b : B) → o ≡ Some b → Q b) → ((bs : List B) → more ≡ Some bs → AllByRecursion Q bs)
        → given (option_map (λ b bs. b ∷ bs) o) more ≡ Some ys → AllByRecursion Q ys
    both None more ys one others e = absurd (cc)
    both (Some b) None ys one others e = absurd (cc)
    both (Some b) (Some bs) ys one others e = let same : b ∷ bs ≡ ys = cc in subst (AllByRecursion Q) same (one b refl, others bs refl)

pub all_read_long : {A B : Type 0} (read : A → Option B) (xs : List A) (ys : List B) → all_read read xs ≡ Some ys → length ys ≡ length xs
all_read_long {B = B} read [] [] e = refl
all_read_long {B = B} read [] (y ∷ ys) e = cc
all_read_long {B = B} read (x ∷ xs) ys e = long (read x) (all_read read xs) ys (λ bs is. all_read_long read xs bs is) e
  where
    long : (o : Option B) (more : Option (List B)) (ys : List B) → ((bs : List B) → more ≡ Some bs → length bs ≡ length xs)
        → given (option_map (λ b bs. b ∷ bs) o) more ≡ Some ys → length ys ≡ suc (length xs)
    long None more ys others e = absurd (cc)
    long (Some b) None ys others e = absurd (cc)
    long (Some b) (Some bs) ys others e = let same : b ∷ bs ≡ ys = cc in ap length (sym same) ∙ ap suc (others bs refl)
