-- One walk for several targets finds what a walk for each finds.
use Rattle.std.proofs.Common.{◌≡◌, ℕ, List, [], ◌∷◌, Bool, true, false, ◌||◌, refl, sym, ap, ◌∙◌, codes, Option, Some, None, option_and_then}
use Rattle.std.specs.List.{list_any}
use Rattle.std.proofs.Math.Bool.{or-false}
use Rattle.cs_value.specs.Tree.{Tree, null, boolean, integer, text, list, object, Trees, no_trees, more_trees, Pairs, no_pairs, more_pairs}
use Rattle.cs_value.specs.Pairs.{find}
use Rattle.cs_value.specs.Words.{as_text}
use Rattle.cs_func.specs.Refers.{refers, some_refers, some_pair_refers, reference_or, reference_among_or, refers_to_one, some_refers_to_one, some_pair_refers_to_one}

none_of : (targets : List (List ℕ)) → false ≡ list_any (λ target. false) targets
none_of [] = refl
none_of (t ∷ ts) = none_of ts

shuffled : (a b c d : Bool) → ((a || b) || (c || d)) ≡ ((a || c) || (b || d))
shuffled true b c d = refl
shuffled false true true d = refl
shuffled false true false d = refl
shuffled false false c d = refl

either_of : (p q : List ℕ → Bool) (targets : List (List ℕ)) → list_any (λ target. p target || q target) targets ≡ (list_any p targets || list_any q targets)
either_of p q [] = refl
either_of p q (t ∷ ts) = ap (λ (b : Bool). (p t || q t) || b) (either_of p q ts) ∙ shuffled (p t) (q t) (list_any p ts) (list_any q ts)

reference_of_each : (targets : List (List ℕ)) (one : Bool) (inside : List ℕ → Bool) (o : Option (List ℕ)) → one ≡ list_any inside targets
    → reference_among_or one targets o ≡ list_any (λ target. reference_or (inside target) target o) targets
reference_of_each targets one inside None h = h
reference_of_each targets one inside (Some s) h = refl

mutual
  one_of_each : (targets : List (List ℕ)) (v : Tree) → refers_to_one targets v ≡ list_any (λ target. refers target v) targets
  one_of_each targets null = none_of targets
  one_of_each targets (boolean b) = none_of targets
  one_of_each targets (integer n) = none_of targets
  one_of_each targets (text s) = none_of targets
  one_of_each targets (list ts) = one_of_each_list targets ts
  one_of_each targets (object ps) = reference_of_each targets (some_pair_refers_to_one targets ps) (λ target. some_pair_refers target ps) (option_and_then as_text (find (codes "_ref") ps)) (one_of_each_pair targets ps)

  one_of_each_list : (targets : List (List ℕ)) (vs : Trees) → some_refers_to_one targets vs ≡ list_any (λ target. some_refers target vs) targets
  one_of_each_list targets no_trees = none_of targets
  one_of_each_list targets (more_trees t ts) =
      ap (λ (b : Bool). b || some_refers_to_one targets ts) (one_of_each targets t) ∙ (ap (λ (b : Bool). list_any (λ target. refers target t) targets || b) (one_of_each_list targets ts)
      ∙ sym (either_of (λ target. refers target t) (λ target. some_refers target ts) targets))

  one_of_each_pair : (targets : List (List ℕ)) (ps : Pairs) → some_pair_refers_to_one targets ps ≡ list_any (λ target. some_pair_refers target ps) targets
  one_of_each_pair targets no_pairs = none_of targets
  one_of_each_pair targets (more_pairs k t ps) =
      ap (λ (b : Bool). b || some_pair_refers_to_one targets ps) (one_of_each targets t) ∙ (ap (λ (b : Bool). list_any (λ target. refers target t) targets || b) (one_of_each_pair targets ps)
      ∙ sym (either_of (λ target. refers target t) (λ target. some_pair_refers target ps) targets))

pub one_of_targets : (targets : List (List ℕ)) (v : Tree) → refers_to_one targets v ≡ list_any (λ target. refers target v) targets
one_of_targets targets v = one_of_each targets v

pub only_target : (target : List ℕ) (v : Tree) → refers_to_one (target ∷ []) v ≡ refers target v
only_target target v = one_of_each (target ∷ []) v ∙ or-false (refers target v)
