use Rattle.std.proofs.Common.{rules, ◌≡◌, ◌<◌, ◌≤◌, ℕ, ℤ, length, get_or, map, nat_eq, false, sym, ap, ◌∙◌, subst, ◌∷◌, arith, to_z, of_z, w64}
use Rattle.cs_value.specs.View.{tree, list_tree}
use Rattle.cs_value.specs.Tree.{list, trees, trees_len}
use Rattle.cs_jsonmatch.specs.Places.{places, is_at}
use Rattle.cs_jsonmatch.specs.Sole.{sole_step, IsMember}
use Rattle.cs_jsonmatch.specs.declared.sole.Sole.{Sole}
use Rattle.cs_jsonmatch.specs.declared.places.Part.TheVariants.{Pos}
use Rattle.cs_jsonmatch.proofs.Following.{element_none, element_past, element_at, element_not_named}
use Rattle.cs_jsonmatch.proofs.Walks.{size-list}
use Rattle.cs_jsonmatch.proofs.sole.element.Goals as goal

pub returns-in_err-index-in-Position : goal.returns-in_err-index-in-Position
returns-in_err-index-in-Position c = λ ss.
    let xs = c.args.items.now.items in
    let ts = trees (list_tree xs) in
    let n = c.in-Position.position in
    let back : to_z w64 (of_z w64 n) ≡ n = search (rules) in
    let count : c.len.result ≡ trees_len ts = omega (arith, size-list xs) in
    let none = subst (λ (most : ℕ). (k : ℕ) → k < most → is_at n most k ≡ false) count
    (subst (λ (p : ℤ). (k : ℕ) → k < c.len.result → is_at p c.len.result k ≡ false) back c.in_err-index-in-Position.ensures) in
    subst (λ r. IsMember (list ts) c.args.sole ss r) (sym c.from_residual.ensures)
    (ap (λ (s : Sole). places (sole_step s ∷ ss) (list ts)) c.in-Position.is ∙ element_none n ss ts none)

pub returns-in_err-found-in-Position : goal.returns-in_err-found-in-Position
returns-in_err-found-in-Position c = λ ss.
    let xs = c.args.items.now.items in
    let ts = trees (list_tree xs) in
    let n = c.in-Position.position in
    let i = c.in_ok-index-in-Position.index in
    let back : to_z w64 (of_z w64 n) ≡ n = search (rules) in
    let count : c.len.result ≡ trees_len ts = omega (arith, size-list xs) in
    let is = subst (λ (most : ℕ). (k : ℕ) → is_at n most k ≡ nat_eq i k) count
    (subst (λ (p : ℤ). (k : ℕ) → is_at p c.len.result k ≡ nat_eq i k) back c.in_ok-index-in-Position.ensures) in
    let past : length xs ≤ i = omega (arith, c.in_err-found-in-Position.ensures.lookup.3, ap length c.deref.ensures.value) in
    subst (λ r. IsMember (list ts) c.args.sole ss r) (sym c.from_residual-in_err-found-in-Position.ensures)
    (ap (λ (s : Sole). places (sole_step s ∷ ss) (list ts)) c.in-Position.is ∙ element_past n ss xs i is past)

pub returns-in-Name : goal.returns-in-Name
returns-in-Name c = λ ss.
    let ts = trees (list_tree c.args.items.now.items) in
    ap (λ (s : Sole). places (sole_step s ∷ ss) (list ts)) c.in-Name.is ∙ element_not_named c.in-Name.field-0.now ss ts

pub returns-in_ok-found-in-Position : goal.returns-in_ok-found-in-Position
returns-in_ok-found-in-Position c = λ ss.
    let xs = c.args.items.now.items in
    let ts = trees (list_tree xs) in
    let n = c.in-Position.position in
    let i = c.in_ok-index-in-Position.index in
    let x = c.in_ok-found-in-Position.found.now in
    let back : to_z w64 (of_z w64 n) ≡ n = search (rules) in
    let count : c.len.result ≡ trees_len ts = omega (arith, size-list xs) in
    let is = subst (λ (most : ℕ). (m : ℕ) → is_at n most m ≡ nat_eq i m) count
    (subst (λ (p : ℤ). (m : ℕ) → is_at p c.len.result m ≡ nat_eq i m) back c.in_ok-index-in-Position.ensures) in
    let here : i < length xs = omega (arith, c.in_ok-found-in-Position.ensures.lookup.3.0, ap length c.deref.ensures.value) in
    let at : x ≡ get_or xs i x = c.in_ok-found-in-Position.ensures.lookup.1 ∙ ap (λ ys. get_or ys i x) c.deref.ensures.value in
    ap (λ (s : Sole). places (sole_step s ∷ ss) (list ts)) c.in-Position.is ∙ element_at n ss xs i x is here
    ∙ ap (λ y. map (λ l. Pos i ∷ l) (places ss (tree y))) (sym at)
