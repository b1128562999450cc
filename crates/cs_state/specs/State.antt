-- What contracts see of the state.
use Rattle.std.specs.Prelude.{◌≡◌, ℕ, List, Bool, false}
use Rattle.indexmap.specs.IndexSet.{contains_text}
use Rattle.cs_value.specs.Tree.{Tree}
use Rattle.cs_docs.specs.Store.{docs}
use Rattle.cs_index.specs.Index.{IsIndexOf}
use Rattle.cs_live.specs.Entries.{lives}
use Rattle.cs_live.specs.Fits.{Fits}
use Rattle.cs_live.specs.Lives.{LiveQuery}
use Rattle.cs_listen.specs.Events.{Listener}
use Rattle.cs_listen.specs.Listeners.{listeners}
use Rattle.cs_machine.specs.State.{State}
use Rattle.cs_state.specs.declared.state.State.{State as Held}

abbrev pub seen :
    List Tree → List ℕ → (List ℕ → Bool) → List LiveQuery → List Listener → State
seen documents moment is_used living listening =
    record {
      docs = documents;
      moment = moment;
      is_used = is_used;
      lives = living;
      listeners = listening;
    }

abbrev pub state : Held → State
state h = seen (docs h.docs) h.moment (contains_text h.used) (lives h.live) (listeners h.listeners)

-- what is kept beside the documents fits them: the index is theirs; and of the live queries the
-- answers are their values, and what is kept with these is what finding them looked up
pub record IsFitting (h : Held) : Type 0 where
  pub lives : Fits h.live (docs h.docs)
  pub index : IsIndexOf h.index h.docs

-- where the state is not spent, what is kept beside its documents fits them
abbrev pub IsSound : Held → Type 0
IsSound h = h.spent ≡ false → IsFitting h

-- it is not spent, and what is kept beside its documents fits them
pub record IsUsable (h : Held) : Type 0 where
  pub unspent : h.spent ≡ false
  pub fitting : IsFitting h
