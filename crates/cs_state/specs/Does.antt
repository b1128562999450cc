-- What contracts say of a line and the state that it leaves.
use Rattle.std.specs.Prelude.{◌≡◌, ℕ, suc, ◌+◌, List, ◌++◌, map, Bool, true, false}
use Rattle.std.specs.List.{list_any}
use Rattle.cs_docs.specs.Store.{docs}
use Rattle.cs_gen.specs.Tally.{IsTally}
use Rattle.cs_gen.specs.declared.tally.Tally.{Tally}
use Rattle.cs_live.specs.Lives.{Said}
use Rattle.cs_reply.specs.Reply.{Event, committed}
use Rattle.cs_reply.specs.Reply as plain
use Rattle.cs_machine.specs.Expected.{counted}
use Rattle.cs_machine.specs.Fold.{Stepped}
use Rattle.cs_machine.specs.Replies.{Reply, reply_lines, numbered, said}
use Rattle.cs_machine.specs.Rows.{live_reply}
use Rattle.cs_machine.specs.State.{State}
use Rattle.cs_state.specs.State.{state, IsUsable}
use Rattle.cs_state.specs.declared.state.State.{State as Held}

-- What was added to what is written, how many replies these are, and the state now, are those of a
-- step with the line of the number; and the state can be used on.
pub record Does (before after : List ℕ) (tally : Tally) (held : Held) (n : ℕ) (out : Stepped State)
    : Type 0 where
  pub written : after ≡ before ++ reply_lines (numbered n out.replies)
  pub tallied : IsTally tally (map counted out.replies)
  pub state_is : state held ≡ out.state
  pub usable : IsUsable held

-- the tally of the reply to an accepted transaction, so many events, and so many answers of live
-- queries
pub record IsTallyOf (t : Tally) (events answers : ℕ) : Type 0 where
  pub replies : t.replies ≡ suc (events + answers)
  pub events_are : t.events ≡ events
  pub answers_are : t.live ≡ answers
  pub none : t.refused ≡ 0

-- the lines of replies
abbrev pub lines_of : ℕ → List plain.Reply → List ℕ
lines_of n rs = reply_lines (numbered n (map said rs))

-- the lines of events
abbrev pub heard_lines : ℕ → List Event → List ℕ
heard_lines n es = lines_of n (map plain.event es)

-- the lines of the answers of live queries
abbrev pub live_lines : ℕ → List Said → List ℕ
live_lines n answers = lines_of n (map live_reply answers)

-- the documents and their index apart, the state is as it was
pub record AllButStore (old new : Held) : Type 0 where
  pub moment : new.moment ≡ old.moment
  pub used : new.used ≡ old.used
  pub live : new.live ≡ old.live
  pub listeners : new.listeners ≡ old.listeners
  pub spent : new.spent ≡ old.spent

-- a failed step left the state as it was
pub record IsKept (old new : Held) : Type 0 where
  pub state_is : state new ≡ state old
  pub usable : IsUsable new

-- the reply tells that a transaction was accepted
abbrev pub is_accepted : Reply → Bool
is_accepted (said (committed tx outcomes)) = true
is_accepted r = false

-- the step is that of an accepted transaction, and its documents stand
pub record IsInstalled (new : Held) (out : Stepped State) : Type 0 where
  pub accepted : list_any is_accepted out.replies ≡ true
  pub docs_are : docs new.docs ≡ out.state.docs

abbrev pub LeavesBy : Bool → Held → Held → Stepped State → Type 0
LeavesBy false old new out = IsKept old new
LeavesBy true old new out = IsInstalled new out

-- How a step that found no memory leaves the state: as it was; or spent, which only the line of an
-- accepted transaction does, and then with the documents after it.
abbrev pub Leaves : Held → Held → Stepped State → Type 0
Leaves old new out = LeavesBy new.spent old new out
