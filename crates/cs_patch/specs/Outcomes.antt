-- What one path comes to, as the code sees it. For private clauses.
use Rattle.std.specs.Prelude.{◌≡◌, ℕ, List, ⊤, MatchResult}
use Rattle.std.specs.declared.result.Result.{Result}
use Rattle.cs_value.specs.Tree.{Tree}
use Rattle.cs_alter.specs.Within.{changed, removed}
use Rattle.cs_targets.specs.Targets.{if_some}
use Rattle.cs_patch.specs.Operations.{Outcome, document, refused, too_deep, bounded}
use Rattle.cs_targets.specs.Seen.{Seen, each_seen}
use Rattle.cs_patch.specs.Asked.{refusal_of, check_of, first_seen}
use Rattle.cs_patch.specs.Faults.{IsPatchFault}
use Rattle.cs_patch.specs.declared.fault.PatchFault.{PatchFault}
use Rattle.cs_patch.specs.declared.refusal.Ask.{Ask}
use Rattle.cs_patch.specs.declared.refusal.Ask.TheVariants as ask
use Rattle.cs_patch.specs.declared.stop.Stop.{Stop}
use Rattle.cs_patch.specs.declared.stop.Stop.TheVariants as stop

-- a write at each of these, where none of them is refused and it does not get too deep
abbrev pub outcome_of : List ℕ → Ask → (Tree → Tree) → List Seen → Tree → Outcome
outcome_of path a f xs v =
    if_some refused
    (bounded (each_seen (λ x. changed x.place f) xs v))
    (first_seen (check_of a path) xs)

-- a removal of each of these
abbrev pub removal : List ℕ → List Seen → Tree → Outcome
removal path xs v =
    if_some refused
    (bounded (each_seen (λ x. removed x.place) xs v))
    (first_seen (check_of ask.Free path) xs)

abbrev pub IsStop : List ℕ → Outcome → Stop → Type 0
IsStop path o (stop.Because c) = o ≡ refused (refusal_of path c)
IsStop path o stop.TooDeep = o ≡ refused too_deep
IsStop path o stop.NoMemory = ⊤

-- Ok exactly with the document that is the outcome; a cause or too deep exactly where that is the
-- refusal
abbrev pub Answers : List ℕ → Result (Unit {0}) Stop → Tree → Outcome → Type 0
Answers path r new o = MatchResult r (λ _. o ≡ document new) (λ e. IsStop path o e)

-- the same of what is told in the end
abbrev pub Tells : Result (Unit {0}) PatchFault → Tree → Outcome → Type 0
Tells r new o = MatchResult r (λ _. o ≡ document new) (IsPatchFault (λ f. o ≡ refused f))
