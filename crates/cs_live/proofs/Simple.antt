-- Where each live query is simple, nothing is asked after changes.
use Rattle.std.proofs.Common.{◌≡◌, ◌∙◌, ℕ, zero, suc, ◌<◌, List, [], ◌∷◌, length, get_or, map, true, sym, true≢false, arith}
use Rattle.cs_value.specs.Tree.{Tree}
use Rattle.cs_view.specs.Changes.{Edit}
use Rattle.cs_view.proofs.Booleans.{and-left, and-right, or-left}
use Rattle.cs_plan.specs.Simple.{is_simple}
use Rattle.cs_kept.specs.Kept.{kept_expression}
use Rattle.cs_live.specs.Entries.{entries, live_query}
use Rattle.cs_kept.specs.Fits.{FitsKept, IsQuiet}
use Rattle.cs_live.specs.Laws.{SimpleLivesAskNothing}
use Rattle.cs_live.specs.Lives.{are_simple_lives}
use Rattle.cs_live.specs.declared.entry.Entry.{Entry}
use Rattle.cs_kept.specs.declared.kept.Kept.{Kept}
use Rattle.cs_kept.specs.declared.kept.Kept.TheVariants.{ByRecord, InRows, InShares}

simple_at : (es : List Entry) (j : ℕ) (e : Entry) → j < length es
    → are_simple_lives (map live_query es) ≡ true
    → is_simple (kept_expression (get_or es j e).kept) ≡ true
simple_at [] j e low h = absurd (omega (arith, low))
simple_at (x ∷ xs) zero e low h =
    and-left (is_simple (kept_expression x.kept)) (are_simple_lives (map live_query xs)) h
simple_at (x ∷ xs) (suc j) e low h =
    simple_at xs j e (omega (arith, low))
    (and-right (is_simple (kept_expression x.kept)) (are_simple_lives (map live_query xs)) h)

-- one that is simple is kept in rows
kept_quiet : (docs : List Tree) (cs : List Edit) (k : Kept) → FitsKept docs k
    → is_simple (kept_expression k) ≡ true → IsQuiet cs k
kept_quiet docs cs (ByRecord r) fits h = absurd (true≢false (sym h ∙ or-left _ _ fits.compound))
kept_quiet docs cs (InRows r) fits h = tt
kept_quiet docs cs (InShares m) fits h = absurd (true≢false (sym h ∙ fits.compound))

pub simple_quiet : SimpleLivesAskNothing
simple_quiet l docs cs fits h = λ j e low.
    kept_quiet docs cs (get_or (entries l) j e).kept (fits.answers j e low)
    (simple_at (entries l) j e low h)
