-- An insertion, by the lists that its path leads to.
use Rattle.std.proofs.Common.{◌≡◌, ℕ, List, [], ◌∷◌, map, reverse, Bool, true, false, cond, Option, Some, None, Result, refl, sym, ap, ◌∙◌}
use Rattle.std.specs.Prelude.{IfSome}
use Rattle.cs_value.specs.Tree.{Tree}
use Rattle.cs_value.specs.Same.{same_tree}
use Rattle.cs_view.proofs.Sames.{same-one, one-same}
use Rattle.cs_jsonmatch.specs.Path.{Path}
use Rattle.cs_jsonmatch.specs.Places.{Location, places}
use Rattle.cs_jsonmatch.specs.Verdict.{PathReading, spelled, bad_path}
use Rattle.cs_alter.specs.Alterations.{altered}
use Rattle.cs_alter.specs.Inserted.{Side, insert_into, is_misplaced}
use Rattle.cs_patch.specs.Readings.{lists_before, lists_at, put_last, put_by}
use Rattle.cs_targets.specs.Targets.{targets_from}
use Rattle.cs_patch.specs.Operations.{refused, not_array, insert_last, insert_by, by_reading}
use Rattle.cs_targets.specs.Seen.{seen_of, outer_seen}
use Rattle.cs_patch.specs.Outcomes.{outcome_of, Answers}
use Rattle.cs_patch.specs.declared.entries.Lists.{Lists}
use Rattle.cs_patch.specs.declared.refusal.Ask.TheVariants as ask
use Rattle.cs_patch.specs.declared.stop.Stop.{Stop}
use Rattle.cs_patch.proofs.Seeing.{alike, insert_answers}

-- ---- what was read
pub same_put : (o : Option Lists) (t f : Tree) → IfSome o (λ w. altered w.alteration t ≡ f) → IfSome o (λ w. same_tree (altered w.alteration t) f ≡ true)
same_put None t f h = tt
same_put (Some w) t f h = ap (same_tree (altered w.alteration t)) (sym h) ∙ one-same (altered w.alteration t)

-- ---- a path that nothing can be put in by
misplaced_by : (b : Bool) (ls : List Location) → cond b None (Some ls) ≡ None → b ≡ true
misplaced_by true ls h = refl
misplaced_by false ls h = absurd cc

last_refused : (side : Side) (items : List Tree) (text : List ℕ) (p : Path) (v : Tree) → lists_before p v ≡ None → insert_last side items text p v ≡ refused (not_array text)
last_refused side items text [] v h = refl
last_refused side items text (s ∷ ss) v h = rw (misplaced_by (is_misplaced s) (places (reverse ss) v) h) refl

pub put_refused : (side : Side) (items : List Tree) (text : List ℕ) (r : PathReading) (v : Tree) → lists_at r v ≡ Some None → by_reading text (insert_by side items text) r v ≡ refused (not_array text)
put_refused side items text (spelled p) v h =
    let none : lists_before (reverse p) v ≡ None = cc in
    last_refused side items text (reverse p) v none
put_refused side items text (bad_path at) v h = absurd cc

-- ---- the lists that it goes into
well_placed : (b : Bool) (ls ks : List Location) → cond b None (Some ls) ≡ Some ks → (b ≡ false) × (ls ≡ ks)
well_placed true ls ks h = absurd cc
well_placed false ls ks h = (refl, cc)

last_answers : (side : Side) (items : List Tree) (text : List ℕ) (p : Path) (v new : Tree) (result : Result (Unit {0}) Stop) (ls : List Location) (g : Tree → Tree)
    → lists_before p v ≡ Some ls → ((t : Tree) → g t ≡ put_last side items p t)
    → Answers text result new (outcome_of text ask.List g (outer_seen (map seen_of (targets_from v [] ls))) v)
    → Answers text result new (insert_last side items text p v)
last_answers side items text [] v new result ls g at is h = absurd cc
last_answers side items text (s ∷ ss) v new result ls g at is h =
    let w = well_placed (is_misplaced s) (places (reverse ss) v) ls at in
    rw (w.0) (insert_answers text side items s (reverse ss) v new result ls g (alike g (insert_into side s items) is) (sym w.1) h)

pub put_answers : (side : Side) (items : List Tree) (text : List ℕ) (r : PathReading) (v new : Tree) (result : Result (Unit {0}) Stop) (ls : List Location) (g : Tree → Tree)
    → lists_at r v ≡ Some (Some ls) → ((t : Tree) → same_tree (g t) (put_by side items r t) ≡ true)
    → Answers text result new (outcome_of text ask.List g (outer_seen (map seen_of (targets_from v [] ls))) v)
    → Answers text result new (by_reading text (insert_by side items text) r v)
put_answers side items text (spelled p) v new result ls g at is h =
    let before : lists_before (reverse p) v ≡ Some ls = cc in
    last_answers side items text (reverse p) v new result ls g before (λ t. same-one (g t) (put_last side items (reverse p) t) (is t)) h
put_answers side items text (bad_path place) v new result ls g at is h = absurd cc
