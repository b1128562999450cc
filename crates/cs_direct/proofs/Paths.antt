-- `in` with a call of `path`.
use Rattle.std.proofs.Common.{◌≡◌, ℕ, List, [], true, false, true≢false, refl, sym, ap, subst, Bool, cond, codes, Some, None}
use Rattle.std.specs.Str.{bytes_eq}
use Rattle.std.proofs.lemmas.Slice.Eq.{bytes_eq-Decides}
use Rattle.cs_value.specs.Tree.{Tree, Pairs}
use Rattle.cs_view.specs.declared.key.Key.{Key}
use Rattle.cs_syntax.specs.Expression.{Expression, call}
use Rattle.cs_meaning.specs.Operators.{callee, sole}
use Rattle.cs_meaning.specs.Values.{arguments_values, path_pattern}
use Rattle.cs_meaning.specs.Looked.{looked, arguments_looked, coalesced_looked, selected_looked, called_looked}
use Rattle.cs_direct.specs.Paths.{is_path_call, arguments_in}

pub path_has : (params : Pairs) (e : Expression) (scope : List Tree) → is_path_call e ≡ true
    → path_pattern [] params e scope
    ≡ Some (sole (arguments_values [] params (arguments_in e) scope))
path_has params (call name args) scope h =
    ap (λ (b : Bool). cond b (Some (sole (arguments_values [] params args scope))) None) h
path_has params _ scope h = absurd (true≢false (sym h))

pub no_path : (params : Pairs) (e : Expression) (scope : List Tree) → is_path_call e ≡ false
    → path_pattern [] params e scope ≡ None
no_path params (call name args) scope h =
    ap (λ (b : Bool). cond b (Some (sole (arguments_values [] params args scope))) None) h
no_path params _ scope h = refl

path_callee : (name : List ℕ) (a b m : List Key) → bytes_eq name (codes "path") ≡ true
    → called_looked (callee name) a b m ≡ m
path_callee name a b m h =
    subst (λ (n : List ℕ). called_looked (callee n) a b m ≡ m)
    (sym ((bytes_eq-Decides name (codes "path")).0 h)) refl

pub path_looks : (params : Pairs) (e : Expression) (scope : List Tree) → is_path_call e ≡ true
    → looked [] params e scope ≡ arguments_looked [] params (arguments_in e) scope
path_looks params (call name args) scope h =
    path_callee name (coalesced_looked [] params args scope) (selected_looked [] params args scope)
    (arguments_looked [] params args scope) h
path_looks params _ scope h = absurd (true≢false (sym h))
