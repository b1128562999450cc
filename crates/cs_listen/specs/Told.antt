-- What the listeners of numbers are told of changes: for private clauses.
use Rattle.std.specs.Prelude.{ℕ, List, filter, filter_map, flat_map, nat_eq}
use Rattle.cs_view.specs.Changes.{Edit}
use Rattle.cs_reply.specs.Reply.{Event}
use Rattle.cs_listen.specs.Events.{heard}
use Rattle.cs_listen.specs.Listeners.{listener}
use Rattle.cs_listen.specs.declared.listening.Listening.{Listening}

-- what one listener is told of all changes
abbrev pub own_events : List ℕ → List ℕ → List Edit → Listening → List Event
own_events tx moment cs l = filter_map (heard tx moment (listener l)) cs

-- what those of one number are told: there is at most one
abbrev pub told : List ℕ → List ℕ → List Edit → List Listening → ℕ → List Event
told tx moment cs ls n = flat_map (own_events tx moment cs) (filter (λ l. nat_eq n l.number) ls)

abbrev pub all_told : List ℕ → List ℕ → List Edit → List Listening → List ℕ → List Event
all_told tx moment cs ls ns = flat_map (told tx moment cs ls) ns
