-- The fields of an event in their order are its fields.
use Rattle.std.proofs.Common.{◌≡◌, refl, ℕ, List, ◌∷◌, Option, None, Some, codes}
use Rattle.cs_value.specs.Tree.{Tree, pairs}
use Rattle.cs_reply.specs.Fields.{pairs_with, number}
use Rattle.cs_reply.specs.Reply.{Event, Transition, event_fields}
use Rattle.cs_reply.specs.Sorted.{in_order}

abbrev event_of : (listener id tx moment : List ℕ) (t : Transition) (pr rr : Option (List ℕ))
    (p r : Option Tree) → Event
event_of listener id tx moment t pr rr p r = record {
  listener = listener;
  id = id;
  transition = t;
  previous_rev = pr;
  result_rev = rr;
  previous = p;
  result = r;
  tx = tx;
  moment = moment;
}

by_sides : (n : ℕ) (listener id tx moment : List ℕ) (t : Transition) (pr rr : Option (List ℕ))
    (p r : Option Tree)
    → pairs (in_order n (event_of listener id tx moment t pr rr p r))
    ≡ pairs_with ((codes "line", number n)
    ∷ event_fields (event_of listener id tx moment t pr rr p r))
by_sides n listener id tx moment t None None None None = refl
by_sides n listener id tx moment t None None None (Some r) = refl
by_sides n listener id tx moment t None None (Some p) None = refl
by_sides n listener id tx moment t None None (Some p) (Some r) = refl
by_sides n listener id tx moment t None (Some rr) None None = refl
by_sides n listener id tx moment t None (Some rr) None (Some r) = refl
by_sides n listener id tx moment t None (Some rr) (Some p) None = refl
by_sides n listener id tx moment t None (Some rr) (Some p) (Some r) = refl
by_sides n listener id tx moment t (Some pr) None None None = refl
by_sides n listener id tx moment t (Some pr) None None (Some r) = refl
by_sides n listener id tx moment t (Some pr) None (Some p) None = refl
by_sides n listener id tx moment t (Some pr) None (Some p) (Some r) = refl
by_sides n listener id tx moment t (Some pr) (Some rr) None None = refl
by_sides n listener id tx moment t (Some pr) (Some rr) None (Some r) = refl
by_sides n listener id tx moment t (Some pr) (Some rr) (Some p) None = refl
by_sides n listener id tx moment t (Some pr) (Some rr) (Some p) (Some r) = refl

-- put together in their order, they are the fields put together in any
pub sorted_event : (n : ℕ) (e : Event)
    → pairs (in_order n e) ≡ pairs_with ((codes "line", number n) ∷ event_fields e)
sorted_event n e =
    by_sides n e.listener e.id e.tx e.moment e.transition e.previous_rev e.result_rev e.previous
    e.result
