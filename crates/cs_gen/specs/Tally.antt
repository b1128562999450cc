-- What contracts see of a tally: this project's profile.
use Rattle.std.specs.Prelude.{◌≡◌, ◌≤◌, ◌+◌, ◌^◌, ◌⊎◌, List, length, count_by}
use Rattle.cs_reply.specs.Reply.{Reply}
use Rattle.cs_gen.specs.Summary.{is_event, is_live, is_refusal}
use Rattle.cs_gen.specs.declared.tally.Tally.{Tally}

-- the tally counts these replies
pub record IsTally (t : Tally) (rs : List Reply) : Type 0 where
  pub replies : t.replies ≡ length rs
  pub events : t.events ≡ count_by is_event rs
  pub live : t.live ≡ count_by is_live rs
  pub refused : t.refused ≡ count_by is_refusal rs

-- a count of the replies of both has more than 32 bits
abbrev pub IsBeyond : Tally → Tally → Type 0
IsBeyond one other = ((2 ^ 32 ≤ one.replies + other.replies) ⊎ (2 ^ 32 ≤ one.events + other.events))
    ⊎ ((2 ^ 32 ≤ one.live + other.live) ⊎ (2 ^ 32 ≤ one.refused + other.refused))
