use Rattle.std.proofs.Common.{◌≡◌, ◌∙◌, ap, refl, subst, ℕ, List, Vec, Global}
use Rattle.std.specs.Prelude.{IfSome}
use Rattle.cs_index.specs.Picking.{is_found_among, places_in, under}
use Rattle.cs_index.proofs.Picked.{all_found, implied-here}
use Rattle.cs_index.proofs.narrow.first_of_few.Goals as goal

pub returns-in-Some : goal.returns-in-Some
returns-in-Some c = λ d are y.
    let ks = c.args.keys.now in let key = c.key-item.result in let m = c.args.entries.now in
    let few : c.in-Some.places.items ≡ places_in (under m c.key_code.result)
    = subst (λ o. IfSome o (λ (places : Vec ℕ Global). places.items ≡ places_in (under m c.key_code.result))) c.in-Some.is (c.in_ok-places.ensures) in
    ap (λ (ps : List ℕ). is_found_among d ks ps y) (few ∙ ap (λ (x : ℕ). places_in (under m x)) c.key_code.ensures)
    ∙ all_found c.args.coding.now d m key ks (c.if-codes.ensures refl) (implied-here ks c.loop-key.key-index key c.loop-key-test.true c.key-item.is c.loop-key.invariant) are y
