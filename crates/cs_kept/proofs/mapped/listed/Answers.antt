use Rattle.std.proofs.Common.{◌≡◌, ◌∙◌, ◌∷◌, ◌++◌, ℕ, List, [], ap, sym, subst, refl}
use Rattle.cs_interest.specs.Interest.{interest_code}
use Rattle.cs_hits.specs.Shares.{shares_looked}
use Rattle.cs_kept.specs.Found.{AreListed}
use Rattle.cs_kept.proofs.mapped.listed.Goals as goal

pub returns : goal.returns
returns c =
    let behind : List ℕ = c.in_ok-behind.behind.items in
    let code : ℕ = c.interest_code.result in
    let own : c.push.new.self.items ≡ code ∷ []
    = c.in_ok-push.ensures.items ∙ ap (λ (xs : List ℕ). xs ++ code ∷ []) c.in_ok-codes.ensures.items in
    let whole : c.extend_from_slice.new.self.items ≡ interest_code c.args.seed.now c.args.own.now ∷ behind
    = c.in_ok-extend_from_slice.ensures.items
    ∙ (ap (λ (xs : List ℕ). xs ++ c.deref.result.now) own
    ∙ (ap (λ (ys : List ℕ). code ∷ ys) c.deref.ensures.value
    ∙ ap (λ (n : ℕ). n ∷ behind) c.interest_code.ensures)) in
    subst (λ (cs : List ℕ). AreListed c.args.seed.now c.args.own.now (shares_looked c.args.shares.now) cs) (sym whole)
    record {
      first = refl;
      behind = c.in_ok-behind.ensures;
    }
