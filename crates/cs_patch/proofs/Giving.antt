-- What writes at targets come to, from what the code found.
use Rattle.std.proofs.Common.{◌≡◌, ◌<◌, ℕ, List, [], ◌∷◌, map, length, Bool, ◌&&◌, cond, Option, Some, None, option_map, is_some, nat_le, Bor, refl, sym, ap, ◌∙◌, arith}
use Rattle.cs_value.specs.Tree.{Tree, depth}
use Rattle.cs_alter.specs.Within.{at, changed}
use Rattle.cs_targets.specs.Targets.{if_some}
use Rattle.cs_patch.specs.Operations.{document, refused, too_deep, bounded}
use Rattle.cs_targets.specs.Seen.{Seen, seen, each_seen, are_standing}
use Rattle.cs_patch.specs.Asked.{refusal_of, check_of, first_seen}
use Rattle.cs_patch.specs.Outcomes.{outcome_of}
use Rattle.cs_patch.specs.declared.refusal.Ask.TheVariants as ask
use Rattle.cs_patch.specs.declared.refusal.Cause.{Cause}
use Rattle.cs_targets.specs.declared.target.Target.{Target}

abbrev pub seen_all : List (List ℕ) → List (Bor Target) → List Seen
seen_all ns ts = map (λ t. seen ns t.now) ts

-- which names lead on is nothing to whether the places stand
pub same_standing : (v : Tree) (m n : List (List ℕ)) (ts : List (Bor Target))
    → are_standing v (seen_all m ts) ≡ are_standing v (seen_all n ts)
same_standing v m n [] = refl
same_standing v m n (t ∷ ts) = ap (λ b. is_some (at t.now.place.items v) && b) (same_standing v m n ts)

pub some_there : (ns : List (List ℕ)) (ts : List (Bor Target)) (k : ℕ) → 0 < k → k ≡ length ts
    → 0 < length (seen_all ns ts)
some_there ns [] k h e = absurd (omega arith)
some_there ns (t ∷ ts) k h e = omega arith

module _ (path : List ℕ) (ns : List (List ℕ)) (o : Option Cause) (ts us : List (Bor Target)) (found : option_map (refusal_of path) o ≡ first_seen (check_of ask.Free path) (seen_all ns us)) (same : us ≡ ts) where
  pub stopped : (cause : Cause) (f : Tree → Tree) (v : Tree) → o ≡ Some cause
      → outcome_of path ask.Free f (seen_all ns ts) v ≡ refused (refusal_of path cause)
  stopped cause f v is =
      ap (if_some refused (bounded (each_seen (λ x. changed x.place f) (seen_all ns ts) v)))
      (ap (λ zs. first_seen (check_of ask.Free path) (seen_all ns zs)) (sym same) ∙ sym found
      ∙ ap (option_map (refusal_of path)) is)

  none_of : (q : Option Cause) → ((x : Cause) → q ≡ Some x → ⊥) → q ≡ None
  none_of None h = refl
  none_of (Some x) h = absurd (h x refl)

  pub unstopped : ((x : Cause) → o ≡ Some x → ⊥)
      → first_seen (check_of ask.Free path) (seen_all ns ts) ≡ None
  unstopped h =
      ap (λ zs. first_seen (check_of ask.Free path) (seen_all ns zs)) (sym same) ∙ sym found
      ∙ ap (option_map (refusal_of path)) (none_of o h)

-- what was written, asked how deep it is
pub written_out : (path : List ℕ) (f g : Tree → Tree) (xs : List Seen) (v w : Tree) (shallow : Bool)
    → first_seen (check_of ask.Free path) xs ≡ None
    → w ≡ each_seen (λ x. changed x.place g) xs v → g ≡ f → nat_le (depth w) 48 ≡ shallow
    → outcome_of path ask.Free f xs v ≡ cond shallow (document w) (refused too_deep)
written_out path f g xs v w shallow none is same deep =
    ap (if_some refused (bounded (each_seen (λ x. changed x.place f) xs v))) none
    ∙ ap bounded (ap (λ h. each_seen (λ x. changed x.place h) xs v) (sym same) ∙ sym is)
    ∙ ap (λ b. cond b (document w) (refused too_deep)) deep
