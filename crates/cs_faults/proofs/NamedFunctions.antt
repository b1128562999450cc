-- No function's name is one that the profile leaves out, and `order` is none either.
use Rattle.std.proofs.Common.{◌≡◌, ℕ, List, [], ◌∷◌, map, Bool, true, false, not, Some, None, option_map, refl, sym, ap, ◌∙◌, cond, nat_cmp, bytes_eq, codes}
use Rattle.std.specs.Prelude.{◌||◌, if◌then◌else◌}
use Rattle.std.specs.List.{list_all}
use Rattle.std.specs.Ordering.{is_eq}
use Rattle.std.specs.Cmp.Lexicographic.{slice_cmp}
use Rattle.std.proofs.lemmas.Bool.{and_parts, not-true}
use Rattle.std.proofs.lemmas.Map.Text.{is_eq-slice_cmp}
use Rattle.std.proofs.lemmas.Slice.Eq.{bytes_eq-Decides}
use Rattle.cs_table.specs.Row.{row_of}
use Rattle.cs_syntax.specs.Expression.{Arguments, OrderKeys}
use Rattle.cs_syntax.specs.Faults.{is_path, unsupported, unknown_function, arity_faults, call_faults, order_faults, pipe_faults}
use Rattle.cs_value.specs.Words.{first_of}
use Rattle.cs_faults.specs.Found.{no_function}
use Rattle.cs_syntax.specs.Functions.{Arity, functions, arity_of, is_left_out}

-- what passes for the name of each row passes for the name of a row that is found
found_passes : (p : List ℕ → Bool) (rows : List (List ℕ × Arity)) (name : List ℕ) (a : Arity)
    → list_all p (map (λ (r : List ℕ × Arity). r.0) rows) ≡ true
    → option_map (λ (r : List ℕ × Arity). r.1) (row_of (λ (r : List ℕ × Arity). r.0) name rows)
    ≡ Some a
    → p name ≡ true
found_passes p [] name a all h = cc
found_passes p (r ∷ rows) name a all h =
    by_name (is_eq (slice_cmp nat_cmp r.0 name)) refl (and_parts (p r.0) _ all) h
    (found_passes p rows name a)
  where
    by_name : (t : Bool) → is_eq (slice_cmp nat_cmp r.0 name) ≡ t
        → (p r.0 ≡ true) × (list_all p (map (λ (x : List ℕ × Arity). x.0) rows) ≡ true)
        → option_map (λ (x : List ℕ × Arity). x.1)
        (cond t (Some r) (row_of (λ (x : List ℕ × Arity). x.0) name rows)) ≡ Some a
        → (list_all p (map (λ (x : List ℕ × Arity). x.0) rows) ≡ true
        → option_map (λ (x : List ℕ × Arity). x.1)
        (row_of (λ (x : List ℕ × Arity). x.0) name rows) ≡ Some a
        → p name ≡ true)
        → p name ≡ true
    by_name true e q g ih =
        ap p (sym ((bytes_eq-Decides r.0 name).0 (sym (is_eq-slice_cmp r.0 name) ∙ e))) ∙ q.0
    by_name false e q g ih = ih q.1 g

abbrev is_kept : List ℕ → Bool
is_kept name = not (is_left_out name || is_path name)

pub is_not_left_out : (name : List ℕ) (a : Arity) → arity_of name ≡ Some a →
    (is_left_out name || is_path name) ≡ false
is_not_left_out name a h = not-true _ (found_passes is_kept functions name a refl h)

-- the faults of a call of a function
pub call_of_function : (name : List ℕ) (args : Arguments) (a : Arity) → arity_of name ≡ Some a
    → call_faults name args ≡ arity_faults name args (Some a)
call_of_function name args a h =
    ap (λ t. if t then unsupported name ∷ []
    else arity_faults name args (arity_of name)) (is_not_left_out name a h)
    ∙ ap (λ o. arity_faults name args o) h

-- the first fault of a call whose name no function has
pub call_of_no_function : (name : List ℕ) (args : Arguments) → arity_of name ≡ None
    → first_of (call_faults name args) ≡ Some (no_function name)
call_of_no_function name args h = by_name (is_left_out name || is_path name)
  where
    by_name : (t : Bool)
        → first_of (if t then unsupported name ∷ [] else arity_faults name args (arity_of name))
        ≡ Some (if t then unsupported name else unknown_function name)
    by_name true = refl
    by_name false = ap (λ o. first_of (arity_faults name args o)) h

-- the faults of a piped call of `order`
pub pipe_of_order : (name : List ℕ) (keys : OrderKeys) → bytes_eq name (codes "order") ≡ true
    → pipe_faults name keys ≡ order_faults name keys
pipe_of_order name keys h =
    ap (λ s. pipe_faults s keys) named ∙ ap (λ s. order_faults s keys) (sym named)
  where
    named : name ≡ codes "order"
    named = (bytes_eq-Decides name (codes "order")).0 h
