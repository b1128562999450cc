-- What stands at places of a working dataset.
use Rattle.std.proofs.Common.{◌≡◌, ℕ, ◌-◌, ◌<◌, cond, Option, Some, None, option_map, refl, ap, ◌∙◌, arith}
use Rattle.std.proofs.lemmas.Bool.{lt-ltb, le-ltb}
use Rattle.std.specs.Prelude.{IfSome}
use Rattle.cs_shelf.specs.Places.{most_places}
use Rattle.cs_shelf.specs.View as shelf
use Rattle.cs_index.specs.View as store
use Rattle.cs_working.specs.Merged.{behind}
use Rattle.cs_working.specs.Working.{doc_at}
use Rattle.cs_working.specs.declared.working.Working.{Working}

-- low places are those of the store
pub low_at : (w : Working) (p : ℕ) → p < most_places → doc_at w p ≡ store.doc_at w.store p
low_at w p h = ap (λ b. cond b (store.doc_at w.store p) (shelf.doc_at w.put (p - most_places))) (lt-ltb p most_places h)

-- and behind them stand those of what is put
pub behind_at : (w : Working) (p : ℕ) → doc_at w (behind p) ≡ shelf.doc_at w.put p
behind_at w p =
    let same : behind p - most_places ≡ p = omega arith in
    ap (λ b. cond b (store.doc_at w.store (behind p)) (shelf.doc_at w.put (behind p - most_places))) (le-ltb (behind p) most_places (omega arith))
    ∙ ap (shelf.doc_at w.put) same

pub low_place : (w : Working) (o : Option ℕ) → IfSome o (λ p. p < most_places) → option_map (doc_at w) o ≡ option_map (store.doc_at w.store) o
low_place w None h = refl
low_place w (Some p) h = ap Some (low_at w p h)

pub behind_place : (w : Working) (o : Option ℕ) → option_map (doc_at w) (option_map behind o) ≡ option_map (shelf.doc_at w.put) o
behind_place w None = refl
behind_place w (Some p) = ap Some (behind_at w p)
