-- The nodes of lists, each by its expression, over plain variables.
use Rattle.std.proofs.lemmas.List.{append-nil}
use Rattle.std.proofs.Common.{◌≡◌, ◌+◌, ◌≤◌, List, [], ◌++◌, refl, sym, ap, ◌∙◌, append_assoc, true, false, cond, Some, None, arith}
use Rattle.cs_value.specs.Tree.{Tree, Pairs}
use Rattle.cs_view.specs.declared.key.Key.{Key}
use Rattle.cs_syntax.specs.Expression.{Expression, Element, element, spread_element, Entry, keyed, bare, when, spread}
use Rattle.cs_meaning.specs.Operators.{is_true, spread_into}
use Rattle.cs_meaning.specs.Values.{value, element_values, entry_pairs}
use Rattle.cs_meaning.specs.Looked.{looked, element_looked, entry_looked}
use Rattle.cs_levels.specs.Nodes.{element_expression, element_adds, entry_condition, entry_expression, entry_put}
use Rattle.cs_expr.proofs.Answered.{no_some, one_after_another}
use Rattle.cs_expr.specs.Weight.{weight, element_weight, entry_weight}

element_is : (docs : List Tree) (params : Pairs) (x : Element) (scope : List Tree) → element_values docs params x scope ≡ element_adds x (value docs params (element_expression x) scope)
element_is docs params (element e) scope = refl
element_is docs params (spread_element e) scope = refl

element_looks : (docs : List Tree) (params : Pairs) (x : Element) (scope : List Tree) → element_looked docs params x scope ≡ looked docs params (element_expression x) scope
element_looks docs params (element e) scope = refl
element_looks docs params (spread_element e) scope = refl

pub element_weighs : (x : Element) → element_weight x ≡ 9 + weight (element_expression x)
element_weighs (element e) = refl
element_weighs (spread_element e) = refl

-- one element more of an array
pub element_turn_value : (docs : List Tree) (params : Pairs) (scope : List Tree) (x : Element) (e : Expression) (v : Tree) (before after rest : List Tree)
    → e ≡ element_expression x → v ≡ value docs params e scope → after ≡ before ++ element_adds x v
    → after ++ rest ≡ before ++ (element_values docs params x scope ++ rest)
element_turn_value docs params scope x e v before after rest is is-v adds =
    ap (λ ts. ts ++ rest) (adds ∙ ap (λ u. before ++ element_adds x u) (is-v ∙ ap (λ y. value docs params y scope) is))
    ∙ (append_assoc before (element_adds x (value docs params (element_expression x) scope)) rest
    ∙ ap (λ ts. before ++ (ts ++ rest)) (sym (element_is docs params x scope)))

pub element_turn_looks : (docs : List Tree) (params : Pairs) (scope : List Tree) (x : Element) (e : Expression) (k0 k1 rest : List Key)
    → e ≡ element_expression x → k1 ≡ k0 ++ looked docs params e scope
    → k1 ++ rest ≡ k0 ++ (element_looked docs params x scope ++ rest)
element_turn_looks docs params scope x e k0 k1 rest is looks =
    one_after_another k0 k1 (element_looked docs params x scope ++ rest) (looked docs params e scope) rest looks
    (ap (λ ks. ks ++ rest) (element_looks docs params x scope ∙ ap (λ y. looked docs params y scope) (sym is)))

-- an entry of an object, whose condition is true where it has one
pub entry_taken : (docs : List Tree) (params : Pairs) (x : Entry) (scope : List Tree) (pairs : Pairs) → entry_condition x ≡ None
    → entry_put x (value docs params (entry_expression x) scope) pairs ≡ entry_pairs docs params x scope pairs
entry_taken docs params (keyed k e) scope pairs h = refl
entry_taken docs params (bare e) scope pairs h = refl
entry_taken docs params (when c e) scope pairs h = absurd (no_some (sym h))
entry_taken docs params (spread e) scope pairs h = refl

pub entry_taken_looks : (docs : List Tree) (params : Pairs) (x : Entry) (scope : List Tree) → entry_condition x ≡ None
    → looked docs params (entry_expression x) scope ≡ entry_looked docs params x scope
entry_taken_looks docs params (keyed k e) scope h = refl
entry_taken_looks docs params (bare e) scope h = refl
entry_taken_looks docs params (when c e) scope h = absurd (no_some (sym h))
entry_taken_looks docs params (spread e) scope h = refl

is_some : (a b : Expression) → Some a ≡ Some b → a ≡ b
is_some a b h = cc

pub entry_met : (docs : List Tree) (params : Pairs) (x : Entry) (scope : List Tree) (pairs : Pairs) (c : Expression) → entry_condition x ≡ Some c → is_true (value docs params c scope) ≡ true
    → entry_put x (value docs params (entry_expression x) scope) pairs ≡ entry_pairs docs params x scope pairs
entry_met docs params (keyed k e) scope pairs c h t = absurd (no_some h)
entry_met docs params (bare e) scope pairs c h t = absurd (no_some h)
entry_met docs params (when d e) scope pairs c h t =
    sym (ap (λ b. cond b (spread_into pairs (value docs params e scope)) pairs) (ap (λ y. is_true (value docs params y scope)) (is_some d c h) ∙ t))
entry_met docs params (spread e) scope pairs c h t = absurd (no_some h)

pub entry_met_looks : (docs : List Tree) (params : Pairs) (x : Entry) (scope : List Tree) (c : Expression) → entry_condition x ≡ Some c → is_true (value docs params c scope) ≡ true
    → entry_looked docs params x scope ≡ looked docs params c scope ++ looked docs params (entry_expression x) scope
entry_met_looks docs params (keyed k e) scope c h t = absurd (no_some h)
entry_met_looks docs params (bare e) scope c h t = absurd (no_some h)
entry_met_looks docs params (when d e) scope c h t =
    ap (λ b. looked docs params d scope ++ cond b (looked docs params e scope) []) (ap (λ y. is_true (value docs params y scope)) (is_some d c h) ∙ t)
    ∙ ap (λ y. looked docs params y scope ++ looked docs params e scope) (is_some d c h)
entry_met_looks docs params (spread e) scope c h t = absurd (no_some h)

pub entry_left : (docs : List Tree) (params : Pairs) (x : Entry) (scope : List Tree) (pairs : Pairs) (c : Expression) → entry_condition x ≡ Some c → is_true (value docs params c scope) ≡ false
    → pairs ≡ entry_pairs docs params x scope pairs
entry_left docs params (keyed k e) scope pairs c h t = absurd (no_some h)
entry_left docs params (bare e) scope pairs c h t = absurd (no_some h)
entry_left docs params (when d e) scope pairs c h t =
    sym (ap (λ b. cond b (spread_into pairs (value docs params e scope)) pairs) (ap (λ y. is_true (value docs params y scope)) (is_some d c h) ∙ t))
entry_left docs params (spread e) scope pairs c h t = absurd (no_some h)

pub entry_left_looks : (docs : List Tree) (params : Pairs) (x : Entry) (scope : List Tree) (c : Expression) → entry_condition x ≡ Some c → is_true (value docs params c scope) ≡ false
    → looked docs params c scope ≡ entry_looked docs params x scope
entry_left_looks docs params (keyed k e) scope c h t = absurd (no_some h)
entry_left_looks docs params (bare e) scope c h t = absurd (no_some h)
entry_left_looks docs params (when d e) scope c h t =
    sym (ap (λ b. looked docs params d scope ++ cond b (looked docs params e scope) []) (ap (λ y. is_true (value docs params y scope)) (is_some d c h) ∙ t)
    ∙ (append-nil (looked docs params d scope) ∙ ap (λ y. looked docs params y scope) (is_some d c h)))
entry_left_looks docs params (spread e) scope c h t = absurd (no_some h)

pub condition_weighs : (x : Entry) (c : Expression) → entry_condition x ≡ Some c → 9 + weight c ≤ entry_weight x
condition_weighs (keyed k e) c h = absurd (no_some h)
condition_weighs (bare e) c h = absurd (no_some h)
condition_weighs (when d e) c h = omega (arith, ap weight (is_some d c h))
condition_weighs (spread e) c h = absurd (no_some h)

pub entry_weighs : (x : Entry) → 9 + weight (entry_expression x) ≤ entry_weight x
entry_weighs (keyed k e) = omega arith
entry_weighs (bare e) = omega arith
entry_weighs (when d e) = omega arith
entry_weighs (spread e) = omega arith
