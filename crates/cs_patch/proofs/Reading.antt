-- Texts that are read one after the other, and the first of them that is no path.
use Rattle.std.proofs.Common.{◌≡◌, ℕ, List, [], ◌∷◌, ◌++◌, map, Option, Some, None, option_map, Result, Ok, Err, refl, sym, ap, subst, ◌∙◌}
use Rattle.std.specs.Prelude.{IfErr, IsErrAnd}
use Rattle.std.specs.Option.{option_to_list}
use Rattle.cs_jsonmatch.specs.Verdict.{spelled, path_verdict}
use Rattle.cs_jsonmatch.specs.Path.{Path}
use Rattle.cs_targets.specs.Targets.{if_some}
use Rattle.cs_patch.specs.Operations.{Refusal}
use Rattle.cs_patch.specs.Patched.{Patch, paths, first_fault, fault_of}
use Rattle.cs_patch.specs.Readings.{AreShort, ArePathsShort}
use Rattle.cs_patch.specs.Faults.{IsFirstFault, IsPathsFault}
use Rattle.cs_patch.specs.declared.fault.PathsFault.{PathsFault}
use Rattle.cs_patch.specs.declared.fault.PathsFault.TheVariants.{BadPath, NoMemory}

first_stays : (o p q : Option Refusal) (r : Refusal) → (p ≡ Some r → q ≡ Some r)
    → if_some Some p o ≡ Some r → if_some Some q o ≡ Some r
first_stays None p q r f h = f h
first_stays (Some s) p q r f h = h

found_before : (xs ys : List (List ℕ)) (r : Refusal) → first_fault xs ≡ Some r
    → first_fault (xs ++ ys) ≡ Some r
found_before [] ys r h = absurd cc
found_before (x ∷ xs) ys r h =
    first_stays (fault_of x (path_verdict x)) (first_fault xs) (first_fault (xs ++ ys)) r
    (found_before xs ys r) h

none_first : (o p : Option Refusal) → if_some Some p o ≡ None → (o ≡ None) × (p ≡ None)
none_first None p h = (refl, h)
none_first (Some r) p h = absurd cc

pub none_before : (xs ys : List (List ℕ)) → first_fault xs ≡ None
    → first_fault (xs ++ ys) ≡ first_fault ys
none_before [] ys h = refl
none_before (x ∷ xs) ys h =
    let s = none_first (fault_of x (path_verdict x)) (first_fault xs) h in
    ap (if_some Some (first_fault (xs ++ ys))) s.0 ∙ none_before xs ys s.1

pub fault_before : (f : PathsFault) (xs ys : List (List ℕ)) → IsFirstFault f xs
    → IsFirstFault f (xs ++ ys)
fault_before (BadPath path at) xs ys h = found_before xs ys _ h
fault_before NoMemory xs ys h = tt

pub fault_after : (f : PathsFault) (xs ys : List (List ℕ)) → first_fault xs ≡ None
    → IsFirstFault f ys → IsFirstFault f (xs ++ ys)
fault_after (BadPath path at) xs ys h g = none_before xs ys h ∙ g
fault_after NoMemory xs ys h g = tt

pub none_both : (xs ys : List (List ℕ)) → first_fault xs ≡ None → first_fault ys ≡ None
    → first_fault (xs ++ ys) ≡ None
none_both xs ys g h = none_before xs ys g ∙ h

pub short_first : (xs ys : List (List ℕ)) → AreShort (xs ++ ys) → AreShort xs
short_first [] ys h = tt
short_first (x ∷ xs) ys h = (h.0, short_first xs ys h.1)

pub short_rest : (xs ys : List (List ℕ)) → AreShort (xs ++ ys) → AreShort ys
short_rest [] ys h = h
short_rest (x ∷ xs) ys h = short_rest xs ys h.1

-- a text that is read has no fault
pub read_none : (text : List ℕ) (p : Path) → path_verdict text ≡ spelled p
    → first_fault (text ∷ []) ≡ None
read_none text p h = ap (λ r. if_some Some None (fault_of text r)) h

-- a fault that is handed on
pub passed : {A : Type 0} (P : PathsFault → Type 0) (r : Result A PathsFault) (e : PathsFault)
    → IsErrAnd r (λ y. y ≡ e) → P e → IfErr r P
passed P (Ok x) e is h = absurd is
passed P (Err y) e is h = subst P (sym is) h

-- ---- the paths of a patch, operation by operation
module _ (p : Patch) where
  abbrev a : List (List ℕ)
  a = map (λ e. e.0) p.set_if_missing

  abbrev b : List (List ℕ)
  b = map (λ e. e.0) p.set

  abbrev c : List (List ℕ)
  c = p.unset

  abbrev d : List (List ℕ)
  d = map (λ e. e.0) p.inc

  abbrev e : List (List ℕ)
  e = map (λ e. e.0) p.dec

  abbrev f : List (List ℕ)
  f = option_to_list (option_map (λ i. i.path) p.insert)

  pub short_1 : ArePathsShort p → AreShort a
  short_1 h =
      short_first a b (short_first (a ++ b) c (short_first (a ++ b ++ c) d
      (short_first (a ++ b ++ c ++ d) e (short_first (a ++ b ++ c ++ d ++ e) f h))))

  pub short_2 : ArePathsShort p → AreShort b
  short_2 h =
      short_rest a b (short_first (a ++ b) c (short_first (a ++ b ++ c) d
      (short_first (a ++ b ++ c ++ d) e (short_first (a ++ b ++ c ++ d ++ e) f h))))

  pub short_3 : ArePathsShort p → AreShort c
  short_3 h =
      short_rest (a ++ b) c (short_first (a ++ b ++ c) d
      (short_first (a ++ b ++ c ++ d) e (short_first (a ++ b ++ c ++ d ++ e) f h)))

  pub short_4 : ArePathsShort p → AreShort d
  short_4 h =
      short_rest (a ++ b ++ c) d
      (short_first (a ++ b ++ c ++ d) e (short_first (a ++ b ++ c ++ d ++ e) f h))

  pub short_5 : ArePathsShort p → AreShort e
  short_5 h = short_rest (a ++ b ++ c ++ d) e (short_first (a ++ b ++ c ++ d ++ e) f h)

  pub short_6 : ArePathsShort p → AreShort f
  short_6 h = short_rest (a ++ b ++ c ++ d ++ e) f h

  pub none_2 : first_fault a ≡ None → first_fault b ≡ None → first_fault (a ++ b) ≡ None
  none_2 g h = none_both a b g h

  pub none_3 : first_fault (a ++ b) ≡ None → first_fault c ≡ None → first_fault (a ++ b ++ c) ≡ None
  none_3 g h = none_both (a ++ b) c g h

  pub none_4 : first_fault (a ++ b ++ c) ≡ None → first_fault d ≡ None
      → first_fault (a ++ b ++ c ++ d) ≡ None
  none_4 g h = none_both (a ++ b ++ c) d g h

  pub none_5 : first_fault (a ++ b ++ c ++ d) ≡ None → first_fault e ≡ None
      → first_fault (a ++ b ++ c ++ d ++ e) ≡ None
  none_5 g h = none_both (a ++ b ++ c ++ d) e g h

  pub none_6 : first_fault (a ++ b ++ c ++ d ++ e) ≡ None → first_fault f ≡ None
      → first_fault (paths p) ≡ None
  none_6 g h = none_both (a ++ b ++ c ++ d ++ e) f g h

  pub fault_1 : (x : PathsFault) → IsFirstFault x a → IsPathsFault x p
  fault_1 x h =
      fault_before x (a ++ b ++ c ++ d ++ e) f (fault_before x (a ++ b ++ c ++ d) e
      (fault_before x (a ++ b ++ c) d (fault_before x (a ++ b) c (fault_before x a b h))))

  pub fault_2 : (x : PathsFault) → first_fault a ≡ None → IsFirstFault x b → IsPathsFault x p
  fault_2 x g h =
      fault_before x (a ++ b ++ c ++ d ++ e) f (fault_before x (a ++ b ++ c ++ d) e
      (fault_before x (a ++ b ++ c) d (fault_before x (a ++ b) c (fault_after x a b g h))))

  pub fault_3 : (x : PathsFault) → first_fault (a ++ b) ≡ None → IsFirstFault x c
      → IsPathsFault x p
  fault_3 x g h =
      fault_before x (a ++ b ++ c ++ d ++ e) f (fault_before x (a ++ b ++ c ++ d) e
      (fault_before x (a ++ b ++ c) d (fault_after x (a ++ b) c g h)))

  pub fault_4 : (x : PathsFault) → first_fault (a ++ b ++ c) ≡ None → IsFirstFault x d
      → IsPathsFault x p
  fault_4 x g h =
      fault_before x (a ++ b ++ c ++ d ++ e) f (fault_before x (a ++ b ++ c ++ d) e
      (fault_after x (a ++ b ++ c) d g h))

  pub fault_5 : (x : PathsFault) → first_fault (a ++ b ++ c ++ d) ≡ None → IsFirstFault x e
      → IsPathsFault x p
  fault_5 x g h =
      fault_before x (a ++ b ++ c ++ d ++ e) f (fault_after x (a ++ b ++ c ++ d) e g h)

  pub fault_6 : (x : PathsFault) → first_fault (a ++ b ++ c ++ d ++ e) ≡ None
      → IsFirstFault x f → IsPathsFault x p
  fault_6 x g h = fault_after x (a ++ b ++ c ++ d ++ e) f g h
