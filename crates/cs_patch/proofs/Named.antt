-- Targets of a run have its names, so the code can give the same names at each.
use Rattle.std.proofs.Common.{◌≡◌, ℕ, List, [], ◌∷◌, ◌++◌, Bool, true, false, cond, Option, Some, None, map, filter, reverse, refl, sym, ap, ◌∙◌, Result}
use Rattle.std.specs.Prelude.{⊤}
use Rattle.std.proofs.lemmas.List.{reverse-reverse}
use Rattle.cs_value.specs.Tree.{Tree}
use Rattle.cs_jsonmatch.specs.Path.{Path}
use Rattle.cs_jsonmatch.specs.Verdict.{PathReading, spelled, bad_path}
use Rattle.cs_patch.specs.Readings.{starts_at}
use Rattle.cs_jsonmatch.specs.Places.{Location, places}
use Rattle.cs_alter.specs.Within.{changed, given, at, Reach, present, absent, blocked, reach}
use Rattle.cs_targets.specs.Targets.{Target, if_some, target_by, targets_from, outermost, run_of, prefix_of, cut}
use Rattle.cs_patch.specs.Operations.{refused, bounded, each, first_refusal, fixed_check, set_at, set_by, by_reading}
use Rattle.cs_targets.specs.Seen.{seen_of, outer_seen, each_seen}
use Rattle.cs_patch.specs.Asked.{check_of}
use Rattle.cs_patch.specs.Outcomes.{outcome_of, Answers}
use Rattle.cs_patch.specs.declared.refusal.Ask.TheVariants as ask
use Rattle.cs_patch.specs.declared.stop.Stop.{Stop}
use Rattle.cs_patch.proofs.Seeing.{each_same, first_same, outer_same, some_same}

abbrev pub Named : List (List ℕ) → List Target → Type 0
Named ns [] = ⊤
Named ns (t ∷ ts) = (t.names ≡ ns) × Named ns ts

named_by : (l : Location) (ns : List (List ℕ)) (r : Reach) (ts : List Target) → Named ns ts → Named ns (target_by l ns r ++ ts)
named_by l ns (present u) ts h = (refl, h)
named_by l ns absent ts h = (refl, h)
named_by l ns blocked ts h = h

named_some : (l : Location) (ns : List (List ℕ)) (o : Option Tree) (ts : List Target) → Named ns ts → Named ns (if_some (λ t. target_by l ns (reach ns t)) [] o ++ ts)
named_some l ns None ts h = h
named_some l ns (Some t) ts h = named_by l ns (reach ns t) ts h

pub named_from : (v : Tree) (ns : List (List ℕ)) (ls : List Location) → Named ns (targets_from v ns ls)
named_from v ns [] = tt
named_from v ns (l ∷ ls) = named_some l ns (at l v) (targets_from v ns ls) (named_from v ns ls)

named_cond : (b : Bool) (ns : List (List ℕ)) (t : Target) (ts : List Target) → t.names ≡ ns → Named ns ts → Named ns (cond b (t ∷ ts) ts)
named_cond true ns t ts e h = (e, h)
named_cond false ns t ts e h = h

pub named_filter : (test : Target → Bool) (ns : List (List ℕ)) (ts : List Target) → Named ns ts → Named ns (filter test ts)
named_filter test ns [] h = tt
named_filter test ns (t ∷ ts) h = named_cond (test t) ns t (filter test ts) h.0 (named_filter test ns ts h.1)

each_named : (ns : List (List ℕ)) (new : Tree) (ts : List Target) (v : Tree) → Named ns ts → each (set_at new) ts v ≡ each (λ t. changed t.place (given ns new)) ts v
each_named ns new [] v h = refl
each_named ns new (t ∷ ts) v h = ap (λ m. changed t.place (given m new) (each (set_at new) ts v)) h.0 ∙ ap (changed t.place (given ns new)) (each_named ns new ts v h.1)

set_same : (t : List ℕ) (p : Path) (new v : Tree)
    → set_by new p v ≡ outcome_of t ask.Free (given (run_of p) new) (outer_seen (map seen_of (targets_from v (run_of p) (places (prefix_of p) v)))) v
set_same t p new v =
    let all = targets_from v (run_of p) (places (prefix_of p) v) in
    let ts = outermost all in
    ap (λ w. if_some refused (bounded w) (first_refusal fixed_check ts))
    (each_named (run_of p) new ts v (named_filter _ (run_of p) all (named_from v (run_of p) (places (prefix_of p) v))) ∙ each_same (λ x. changed x.place (given (run_of p) new)) ts v)
    ∙ ap (if_some refused (bounded (each_seen (λ x. changed x.place (given (run_of p) new)) (map seen_of ts) v))) (first_same fixed_check (check_of ask.Free t) (λ u. refl) ts)
    ∙ ap (λ xs. outcome_of t ask.Free (given (run_of p) new) xs v) (outer_same all)

pub parted : {A B : Type 0} (p q : A) (m n : B)
    → ◌≡◌ {A = Option (A × B)} (Some (p, m)) (Some (q, n)) → (p ≡ q) × (m ≡ n)
parted {A} {B} p q m n h =
    let both = some_same {A = A × B} (p, m) (q, n) h in
    (ap (λ x. x.0) both, ap (λ x. x.1) both)

pub set_answers : (t : List ℕ) (q : PathReading) (new v after : Tree) (r : Result (Unit {0}) Stop) (names : List (List ℕ)) (ls : List Location)
    → starts_at q v ≡ Some (ls, names)
    → Answers t r after (outcome_of t ask.Free (given names new) (outer_seen (map seen_of (targets_from v names ls))) v)
    → Answers t r after (by_reading t (set_by new) q v)
set_answers t (bad_path at) new v after r names ls read h = absurd cc
set_answers t (spelled p) new v after r names ls read h =
    let both = parted (places (prefix_of p) v) ls (run_of p) names read in
    let whole : outcome_of t ask.Free (given names new) (outer_seen (map seen_of (targets_from v names ls))) v ≡ set_by new p v =
    ap (λ ns. outcome_of t ask.Free (given ns new) (outer_seen (map seen_of (targets_from v ns ls))) v) (sym both.1)
    ∙ ap (λ ks. outcome_of t ask.Free (given (run_of p) new) (outer_seen (map seen_of (targets_from v (run_of p) ks))) v) (sym both.0)
    ∙ sym (set_same t p new v) in
    rw (← whole) h

-- what a path is cut into
pub cut_starts : (r : PathReading) (p q : Path) (names : List (List ℕ)) → r ≡ spelled p
    → cut [] (reverse p) ≡ (names, reverse q)
    → (v : Tree) → starts_at r v ≡ Some (places q v, names)
cut_starts r p q names read h v =
    ap (λ z. starts_at z v) read
    ∙ ap (λ x. Some (places (reverse x.1) v, x.0)) h
    ∙ ap (λ z. Some (places z v, names)) (reverse-reverse q)
