-- The functions that a query may call are those that evaluation has.
use Rattle.std.proofs.Common.{◌≡◌, ℕ, suc, List, [], ◌∷◌, ◌++◌, drop, Bool, true, false, Option, Some, None, option_map, refl, sym, ap, ◌∙◌, subst, cond, nat_cmp, rules, arith}
use Rattle.std.specs.Prelude.{All, codes, find, nat_eq, unwrap_or}
use Rattle.std.specs.List.{starts_with}
use Rattle.std.specs.Ordering.{is_eq}
use Rattle.std.specs.Str.{bytes_eq}
use Rattle.std.specs.Cmp.Lexicographic.{slice_cmp}
use Rattle.std.proofs.lemmas.Bool.Decides.{Decides-eqb}
use Rattle.std.proofs.lemmas.Map.Text.{is_eq-slice_cmp}
use Rattle.std.proofs.lemmas.Slice.Eq.{bytes_eq-Decides, starts_is}
use Rattle.cs_func.specs.Names.{names, named}
use Rattle.cs_func.specs.declared.function.Function.{Function}
use Rattle.cs_syntax.specs.Functions.{Arity, functions, arity_of, without_global}
use Rattle.cs_meaning.specs.Operators.{applying, callee}
use Rattle.cs_meaning.specs.Callees.{arity_taken}

-- what holds for each row of a table holds for the row that a name finds
found : {A : Type 0} (P : List ℕ → A → Type 0) (rows : List (List ℕ × A)) (name : List ℕ) (a : A)
    → All (λ (r : List ℕ × A). P r.0 r.1) rows
    → option_map (λ (r : List ℕ × A). r.1) (find (λ (r : List ℕ × A). is_eq (slice_cmp nat_cmp r.0 name)) rows) ≡ Some a
    → P name a
found P [] name a all h = cc
found {A} P (r ∷ rows) name a all h =
    by_name (is_eq (slice_cmp nat_cmp r.0 name)) refl h
    (found P rows name a (λ k d lt. all (suc k) d (omega arith)))
  where
    by_name : (t : Bool) → is_eq (slice_cmp nat_cmp r.0 name) ≡ t
        → option_map (λ (x : List ℕ × A). x.1)
        (cond t (Some r) (find (λ (x : List ℕ × A). is_eq (slice_cmp nat_cmp x.0 name)) rows))
        ≡ Some a
        → (option_map (λ (x : List ℕ × A). x.1)
        (find (λ (x : List ℕ × A). is_eq (slice_cmp nat_cmp x.0 name)) rows) ≡ Some a → P name a)
        → P name a
    by_name true e g later =
        subst (λ (n : List ℕ). P n a)
        ((bytes_eq-Decides r.0 name).0 (sym (is_eq-slice_cmp r.0 name) ∙ e))
        (subst (λ (x : A). P r.0 x) (ap (λ (o : Option A). unwrap_or o r.1) g)
        (all 0 r (omega arith)))
    by_name false e g later = later g

-- each function that a query may call is evaluated with its arguments
each_evaluated : All (λ (row : List ℕ × Arity). arity_taken (callee row.0) ≡ Some row.1) functions
each_evaluated = search rules

-- each function of values may be called
each_called : All (λ (row : List ℕ × Function). arity_of row.0 ≡ arity_taken (applying (Some row.1)))
    names
each_called = search rules

-- a name that is this word with or without `global::` in front
bare_is : (name word : List ℕ) (A : Type 0) → bytes_eq (without_global name) word ≡ true
    → (name ≡ word → A) → (name ≡ codes "global::" ++ word → A) → A
bare_is name word A h alone behind = by_start (starts_with nat_eq name (codes "global::")) refl h
  where
    by_start : (t : Bool) → starts_with nat_eq name (codes "global::") ≡ t
        → bytes_eq (cond t (drop 8 name) name) word ≡ true → A
    by_start true e g =
        behind ((starts_is Decides-eqb name (codes "global::") _ refl).0 e
        ∙ ap (λ (rest : List ℕ). codes "global::" ++ rest)
        ((bytes_eq-Decides (drop 8 name) word).0 g))
    by_start false e g = alone ((bytes_eq-Decides name word).0 g)

-- a word that may be called with and without `global::` in front is no name without a function
not_bare : (name word : List ℕ) (a b : Arity) → arity_of name ≡ None → arity_of word ≡ Some a
    → arity_of (codes "global::" ++ word) ≡ Some b → bytes_eq (without_global name) word ≡ false
not_bare name word a b none alone behind = by_test (bytes_eq (without_global name) word) refl
  where
    by_test : (t : Bool) → bytes_eq (without_global name) word ≡ t → t ≡ false
    by_test false e = refl
    by_test true e =
        bare_is name word (true ≡ false) e
        (λ is. let no : None ≡ Some a = sym none ∙ (ap arity_of is ∙ alone) in cc)
        (λ is. let no : None ≡ Some b = sym none ∙ (ap arity_of is ∙ behind) in cc)

-- a name without arity is that of no function of values
none_named : (name : List ℕ) (o : Option Function) → arity_of name ≡ None → named name ≡ o
    → None ≡ arity_taken (applying o)
none_named name None none is = refl
none_named name (Some f) none is =
    sym none
    ∙ found (λ n g. arity_of n ≡ arity_taken (applying (Some g))) names name f each_called is

pub arity_is_taken : (name : List ℕ) → arity_of name ≡ arity_taken (callee name)
arity_is_taken name = by_arity (arity_of name) refl
  where
    by_arity : (o : Option Arity) → arity_of name ≡ o → o ≡ arity_taken (callee name)
    by_arity (Some a) h =
        sym (found (λ n x. arity_taken (callee n) ≡ Some x) functions name a each_evaluated h)
    by_arity None h =
        let coalesce = not_bare name (codes "coalesce") _ _ h refl refl in
        let select = not_bare name (codes "select") _ _ h refl refl in
        let references = not_bare name (codes "references") _ _ h refl refl in
        rw coalesce (rw select (rw references (none_named name (named name) h refl)))
