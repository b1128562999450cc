-- `setIfMissing` acts at the absent targets alone.
use Rattle.std.proofs.Common.{◌≡◌, ℕ, List, [], ◌∷◌, cond, Option, Some, None, map, filter, refl, sym, ap, ◌∙◌, Result}
use Rattle.cs_value.specs.Tree.{Tree, null, boolean, integer, text, list, object}
use Rattle.cs_jsonmatch.specs.Path.{Path}
use Rattle.cs_jsonmatch.specs.Verdict.{PathReading, spelled, bad_path}
use Rattle.cs_patch.specs.Readings.{starts_at}
use Rattle.cs_jsonmatch.specs.Places.{Location, places}
use Rattle.cs_alter.specs.Within.{changed, given}
use Rattle.cs_targets.specs.Targets.{Target, if_some, targets_from, outermost, run_of, prefix_of}
use Rattle.cs_patch.specs.Operations.{Refusal, refused, bounded, each, first_refusal, missing_check, set_missing_at, set_missing_by, by_reading}
use Rattle.cs_targets.specs.Seen.{Seen, seen_of, value_of, outer_seen, each_seen, is_absent, is_missing}
use Rattle.cs_patch.specs.Asked.{check_of, first_seen}
use Rattle.cs_patch.specs.Outcomes.{outcome_of, Answers}
use Rattle.cs_patch.specs.declared.refusal.Ask.TheVariants as ask
use Rattle.cs_patch.specs.declared.stop.Stop.{Stop}
use Rattle.cs_patch.proofs.Seeing.{outer_same}
use Rattle.cs_patch.proofs.Named.{Named, named_filter, named_from, parted}

each_by : (o : Option Tree) (f : Seen → Tree → Tree) (x : Seen) (xs : List Seen) (w v : Tree) → w ≡ each_seen f xs v → if_some (λ u. w) (f x w) o ≡ each_seen f (cond (is_absent (value_of o)) (x ∷ xs) xs) v
each_by None f x xs w v h = ap (f x) h
each_by (Some null) f x xs w v h = h
each_by (Some (boolean b)) f x xs w v h = h
each_by (Some (integer n)) f x xs w v h = h
each_by (Some (text s)) f x xs w v h = h
each_by (Some (list ts)) f x xs w v h = h
each_by (Some (object ps)) f x xs w v h = h

first_by : (o : Option Tree) (check : Seen → Option Refusal) (x : Seen) (xs : List Seen) (r : Option Refusal) → r ≡ first_seen check xs
    → if_some Some r (if_some (λ u. None) (check x) o) ≡ first_seen check (cond (is_absent (value_of o)) (x ∷ xs) xs)
first_by None check x xs r h = ap (λ q. if_some Some q (check x)) h
first_by (Some null) check x xs r h = h
first_by (Some (boolean b)) check x xs r h = h
first_by (Some (integer n)) check x xs r h = h
first_by (Some (text s)) check x xs r h = h
first_by (Some (list ts)) check x xs r h = h
first_by (Some (object ps)) check x xs r h = h

each_missing : (ns : List (List ℕ)) (new : Tree) (ts : List Target) (v : Tree) → Named ns ts → each (set_missing_at new) ts v ≡ each_seen (λ x. changed x.place (given ns new)) (filter is_missing (map seen_of ts)) v
each_missing ns new [] v h = refl
each_missing ns new (t ∷ ts) v h =
    ap (λ m. if_some (λ u. each (set_missing_at new) ts v) (changed t.place (given m new) (each (set_missing_at new) ts v)) t.value) h.0
    ∙ each_by t.value (λ x. changed x.place (given ns new)) (seen_of t) (filter is_missing (map seen_of ts)) (each (set_missing_at new) ts v) v (each_missing ns new ts v h.1)

first_missing : (t : List ℕ) (ts : List Target) → first_refusal missing_check ts ≡ first_seen (check_of ask.Free t) (filter is_missing (map seen_of ts))
first_missing t [] = refl
first_missing t (u ∷ ts) = first_by u.value (check_of ask.Free t) (seen_of u) (filter is_missing (map seen_of ts)) (first_refusal missing_check ts) (first_missing t ts)

missing_same : (t : List ℕ) (p : Path) (new v : Tree)
    → set_missing_by new p v ≡ outcome_of t ask.Free (given (run_of p) new) (filter is_missing (outer_seen (map seen_of (targets_from v (run_of p) (places (prefix_of p) v))))) v
missing_same t p new v =
    let all = targets_from v (run_of p) (places (prefix_of p) v) in
    let ts = outermost all in
    ap (λ w. if_some refused (bounded w) (first_refusal missing_check ts)) (each_missing (run_of p) new ts v (named_filter _ (run_of p) all (named_from v (run_of p) (places (prefix_of p) v))))
    ∙ ap (if_some refused (bounded (each_seen (λ x. changed x.place (given (run_of p) new)) (filter is_missing (map seen_of ts)) v))) (first_missing t ts)
    ∙ ap (λ xs. outcome_of t ask.Free (given (run_of p) new) (filter is_missing xs) v) (outer_same all)

pub missing_answers : (t : List ℕ) (q : PathReading) (new v after : Tree) (r : Result (Unit {0}) Stop) (names : List (List ℕ)) (ls : List Location)
    → starts_at q v ≡ Some (ls, names)
    → Answers t r after (outcome_of t ask.Free (given names new) (filter is_missing (outer_seen (map seen_of (targets_from v names ls)))) v)
    → Answers t r after (by_reading t (set_missing_by new) q v)
missing_answers t (bad_path at) new v after r names ls read h = absurd cc
missing_answers t (spelled p) new v after r names ls read h =
    let both = parted (places (prefix_of p) v) ls (run_of p) names read in
    let whole : outcome_of t ask.Free (given names new) (filter is_missing (outer_seen (map seen_of (targets_from v names ls)))) v ≡ set_missing_by new p v =
    ap (λ ns. outcome_of t ask.Free (given ns new) (filter is_missing (outer_seen (map seen_of (targets_from v ns ls)))) v) (sym both.1)
    ∙ ap (λ ks. outcome_of t ask.Free (given (run_of p) new) (filter is_missing (outer_seen (map seen_of (targets_from v (run_of p) ks)))) v) (sym both.0)
    ∙ sym (missing_same t p new v) in
    rw (← whole) h
