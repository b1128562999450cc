use Rattle.cs_view.specs.View.{document_of}
use Rattle.std.proofs.Common.{map}
use Rattle.cs_shelf.proofs.Gathering.{sound_made, entered_made, low_made, trees_made}
use Rattle.cs_shelf.proofs.shelf.Shelf.of.Goals as goal

pub invariant_of-result : goal.invariant_of-result
invariant_of-result c =
    let l = c.in_ok-store.field-0 in
    let docs = map document_of c.args.documents.items in
    record {
      sound = sound_made l.store l.places.items docs c.in_ok-order.order c.in_ok-store.ensures c.in_ok-order.ensures;
      entered = entered_made l.store l.places.items docs c.in_ok-order.order c.in_ok-store.ensures c.in_ok-order.ensures;
      low = low_made l.store l.places.items docs c.in_ok-order.order c.in_ok-store.ensures c.in_ok-order.ensures;
      hinted = c.in_ok-hints.ensures;
      ordered = c.in_ok-order.ensures.1;
    }

pub returns : goal.returns
returns c =
    let l = c.in_ok-store.field-0 in
    trees_made l.store l.places.items (map document_of c.args.documents.items) c.in_ok-order.order c.in_ok-store.ensures c.in_ok-order.ensures c.requires
