-- Calls and the right side of `in`, by their arguments.
use Rattle.std.proofs.Common.{◌≡◌, ℕ, ◌+◌, ◌≤◌, List, [], ◌∷◌, ◌++◌, refl, sym, ap, subst, ◌∙◌, Bool, true, false, cond, codes, Option, Some, None, arith, option_map, length}
use Rattle.std.specs.Option.{option_map_or}
use Rattle.std.specs.Str.{bytes_eq}
use Rattle.std.proofs.lemmas.Slice.Eq.{bytes_eq-Decides}
use Rattle.cs_value.specs.Tree.{Tree, Pairs}
use Rattle.cs_view.specs.declared.key.Key.{Key}
use Rattle.cs_ops.specs.Operators as operators
use Rattle.cs_syntax.specs.Expression.{Expression, call, within, Arguments, more_arguments, Argument, argument, when_argument}
use Rattle.cs_syntax.specs.Faults.{is_path}
use Rattle.cs_parts.specs.Callees.{path_arguments}
use Rattle.cs_meaning.specs.Operators.{is_true, callee, in_list_or_path, in_path, sole}
use Rattle.cs_meaning.specs.Values.{value, arguments_values, selected, path_pattern}
use Rattle.cs_meaning.specs.Looked.{looked, arguments_looked, coalesced_looked, selected_looked, called_looked}
use Rattle.cs_expr.proofs.Answered.{no_some}
use Rattle.cs_expr.specs.Choosing.{chosen, chosen_looked}
use Rattle.cs_expr.specs.Weight.{weight, argument_weight, arguments_weight}

some_is : {A : Type 0} (x y : A) → Some x ≡ Some y → x ≡ y
some_is x y h = cc

-- `select`
taken : {A : Type 0} (b : Bool) (e : Expression) (f : Expression → A) (r : A) → cond b (f e) r ≡ option_map_or f (cond b (Some e) None) r
taken true e f r = refl
taken false e f r = refl

selected_by : (docs : List Tree) (params : Pairs) (x : Argument) (xs : Arguments) (scope : List Tree)
    → selected docs params (more_arguments x xs) scope ≡ option_map_or (λ e. value docs params e scope) (chosen docs params x scope) (selected docs params xs scope)
selected_by docs params (argument e) xs scope = refl
selected_by docs params (when_argument c e) xs scope = taken (is_true (value docs params c scope)) e (λ x. value docs params x scope) (selected docs params xs scope)

selected_looks_by : (docs : List Tree) (params : Pairs) (x : Argument) (xs : Arguments) (scope : List Tree)
    → selected_looked docs params (more_arguments x xs) scope ≡ chosen_looked docs params x scope ++ option_map_or (λ e. looked docs params e scope) (chosen docs params x scope) (selected_looked docs params xs scope)
selected_looks_by docs params (argument e) xs scope = refl
selected_looks_by docs params (when_argument c e) xs scope = ap (λ (ks : List Key). looked docs params c scope ++ ks) (taken (is_true (value docs params c scope)) e (λ x. looked docs params x scope) (selected_looked docs params xs scope))

pub selected_on : (docs : List Tree) (params : Pairs) (x : Argument) (xs : Arguments) (scope : List Tree) → chosen docs params x scope ≡ None
    → selected docs params xs scope ≡ selected docs params (more_arguments x xs) scope
selected_on docs params x xs scope h = sym (selected_by docs params x xs scope ∙ ap (λ (o : Option Expression). option_map_or (λ e. value docs params e scope) o (selected docs params xs scope)) h)

pub selected_looks_on : (docs : List Tree) (params : Pairs) (x : Argument) (xs : Arguments) (scope : List Tree) → chosen docs params x scope ≡ None
    → chosen_looked docs params x scope ++ selected_looked docs params xs scope ≡ selected_looked docs params (more_arguments x xs) scope
selected_looks_on docs params x xs scope h = sym (selected_looks_by docs params x xs scope ∙ ap (λ (o : Option Expression). chosen_looked docs params x scope ++ option_map_or (λ e. looked docs params e scope) o (selected_looked docs params xs scope)) h)

pub selected_here : (docs : List Tree) (params : Pairs) (x : Argument) (xs : Arguments) (scope : List Tree) (e : Expression) → chosen docs params x scope ≡ Some e
    → value docs params e scope ≡ selected docs params (more_arguments x xs) scope
selected_here docs params x xs scope e h = sym (selected_by docs params x xs scope ∙ ap (λ (o : Option Expression). option_map_or (λ y. value docs params y scope) o (selected docs params xs scope)) h)

pub selected_looks_here : (docs : List Tree) (params : Pairs) (x : Argument) (xs : Arguments) (scope : List Tree) (e : Expression) → chosen docs params x scope ≡ Some e
    → chosen_looked docs params x scope ++ looked docs params e scope ≡ selected_looked docs params (more_arguments x xs) scope
selected_looks_here docs params x xs scope e h = sym (selected_looks_by docs params x xs scope ∙ ap (λ (o : Option Expression). chosen_looked docs params x scope ++ option_map_or (λ y. looked docs params y scope) o (selected_looked docs params xs scope)) h)

chosen_weight_by : (b : Bool) (c e d : Expression) → cond b (Some d) None ≡ Some e → weight e + 9 ≤ argument_weight (when_argument c d)
chosen_weight_by true c e d h = omega (arith, ap weight (some_is d e h))
chosen_weight_by false c e d h = absurd (no_some h)

pub chosen_weight : (docs : List Tree) (params : Pairs) (x : Argument) (scope : List Tree) (e : Expression) → chosen docs params x scope ≡ Some e → weight e + 9 ≤ argument_weight x
chosen_weight docs params (argument d) scope e h = omega (arith, ap weight (some_is d e h))
chosen_weight docs params (when_argument c d) scope e h = chosen_weight_by (is_true (value docs params c scope)) c e d h

-- `in` with a call of `path`
pattern_by : {A B : Type 0} (f : A → B) (b : Bool) (x : A) → cond b (Some (f x)) None ≡ option_map f (cond b (Some x) None)
pattern_by f true x = refl
pattern_by f false x = refl

pattern_of : (docs : List Tree) (params : Pairs) (e : Expression) (scope : List Tree) → path_pattern docs params e scope ≡ option_map (λ xs. sole (arguments_values docs params xs scope)) (path_arguments e)
pattern_of docs params (call name args) scope = pattern_by (λ xs. sole (arguments_values docs params xs scope)) (is_path name) args
pattern_of docs params _ scope = refl

pub within_path : (docs : List Tree) (params : Pairs) (left right : Expression) (scope : List Tree) (xs : Arguments) (v : Tree) → v ≡ value docs params left scope → path_arguments right ≡ Some xs
    → in_path v (sole (arguments_values docs params xs scope)) ≡ value docs params (within left right) scope
within_path docs params left right scope xs v is h =
    let p : path_pattern docs params right scope ≡ Some (sole (arguments_values docs params xs scope)) = pattern_of docs params right scope ∙ ap (option_map (λ ys. sole (arguments_values docs params ys scope))) h in
    ap (λ (u : Tree). in_path u (sole (arguments_values docs params xs scope))) is ∙ sym (ap (λ (o : Option Tree). in_list_or_path (value docs params left scope) o (value docs params right scope)) p)

pub within_list : (docs : List Tree) (params : Pairs) (left right : Expression) (scope : List Tree) (v w : Tree) → v ≡ value docs params left scope → w ≡ value docs params right scope → path_arguments right ≡ None
    → operators.within v w ≡ value docs params (within left right) scope
within_list docs params left right scope v w is-v is-w h =
    let p : path_pattern docs params right scope ≡ None = pattern_of docs params right scope ∙ ap (option_map (λ ys. sole (arguments_values docs params ys scope))) h in
    ap (λ (u : Tree). operators.within u w) is-v ∙ (ap (operators.within (value docs params left scope)) is-w ∙ sym (ap (λ (o : Option Tree). in_list_or_path (value docs params left scope) o (value docs params right scope)) p))

path_callee : (name : List ℕ) (a b m : List Key) → bytes_eq name (codes "path") ≡ true → called_looked (callee name) a b m ≡ m
path_callee name a b m h = subst (λ (n : List ℕ). called_looked (callee n) a b m ≡ m) (sym ((bytes_eq-Decides name (codes "path")).0 h)) refl

path_looked_by : (docs : List Tree) (params : Pairs) (name : List ℕ) (args xs : Arguments) (scope : List Tree) (b : Bool) → is_path name ≡ b → cond b (Some args) None ≡ Some xs
    → looked docs params (call name args) scope ≡ arguments_looked docs params xs scope
path_looked_by docs params name args xs scope true is h =
    path_callee name (coalesced_looked docs params args scope) (selected_looked docs params args scope) (arguments_looked docs params args scope) is ∙ ap (λ (ys : Arguments). arguments_looked docs params ys scope) (some_is args xs h)
path_looked_by docs params name args xs scope false is h = absurd (no_some h)

pub path_looked : (docs : List Tree) (params : Pairs) (e : Expression) (scope : List Tree) (xs : Arguments) → path_arguments e ≡ Some xs → looked docs params e scope ≡ arguments_looked docs params xs scope
path_looked docs params (call name args) scope xs h = path_looked_by docs params name args xs scope (is_path name) refl h
path_looked docs params _ scope xs h = absurd (no_some h)

path_weight_by : (name : List ℕ) (args xs : Arguments) (b : Bool) → cond b (Some args) None ≡ Some xs → weight (call name args) ≡ 9 + arguments_weight xs
path_weight_by name args xs true h = ap (λ (ys : Arguments). 9 + arguments_weight ys) (some_is args xs h)
path_weight_by name args xs false h = absurd (no_some h)

pub path_weight : (e : Expression) (xs : Arguments) → path_arguments e ≡ Some xs → weight e ≡ 9 + arguments_weight xs
path_weight (call name args) xs h = path_weight_by name args xs (is_path name) h
path_weight _ xs h = absurd (no_some h)

pub none_left : {A : Type 0} (xs : List A) → length xs ≡ 0 → xs ≡ []
none_left [] h = refl
none_left (x ∷ xs) h = absurd (omega arith)
