-- How far the counter rises over a line.
use Rattle.std.proofs.Common.{◌≡◌, sym, subst, ℕ, List, Bool, false, cond, Option, None}
use Rattle.cs_view.specs.Changes.{changes_between}
use Rattle.cs_json.specs.Reading.{outcome}
use Rattle.cs_wire.specs.Blank.{is_blank_line}
use Rattle.cs_wire.specs.Commands.{Request}
use Rattle.cs_docs.specs.Store.{docs}
use Rattle.cs_live.specs.Laws.{SimpleLivesAskNothing}
use Rattle.cs_machine.specs.Fold.{Stepped}
use Rattle.cs_machine.specs.Machine.{deepest_line, heard, step}
use Rattle.cs_machine.specs.Rows.{row}
use Rattle.cs_machine.specs.State.{State}
use Rattle.cs_state.proofs.Visiting.{few_as}
use Rattle.cs_core.specs.Core.{state, IsSound}
use Rattle.cs_core.specs.Visits.{CostsAtMost, VisitsFew, is_simple_command, command_cost, read_command, is_simple_line, line_cost}
use Rattle.cs_core.specs.declared.machine.Core.{Core}
use Rattle.cs_core.proofs.Replying.{step_heard}

-- a line that is not blank
pub few_heard : (core : Core) (n : ℕ) (line : List ℕ) (old new : ℕ) → is_blank_line line ≡ false
    → VisitsFew (is_simple_command n (read_command (outcome deepest_line line)))
    (command_cost (state core) n (read_command (outcome deepest_line line))) core
    (heard row (state core) n (outcome deepest_line line)) old new
    → VisitsFew (is_simple_line n line) (line_cost (state core) n line) core
    (step (state core) n line) old new
few_heard core n line old new b h =
    let read : Option Request = read_command (outcome deepest_line line) in
    few_as _ _ core.state _ _ old new (step_heard (state core) n line b)
    (subst (λ c. VisitsFew (is_simple_command n (cond c None read))
    (command_cost (state core) n (cond c None read)) core
    (heard row (state core) n (outcome deepest_line line)) old new) (sym b) h)

-- no live query is asked where each is simple
pub few_of_simple : SimpleLivesAskNothing → (b : Bool) (n : ℕ) (core : Core)
    (out : Stepped State) (old new : ℕ) → IsSound core → core.state.spent ≡ false
    → VisitsFew b n core out old new → CostsAtMost b n (state core) old new
few_of_simple quiet b n core out old new sound unspent few simple lives =
    few simple (quiet core.state.live (docs core.state.docs)
    (changes_between (docs core.state.docs) out.state.docs) (sound unspent).lives lives)
