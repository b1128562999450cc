-- What a commit leaves of one entry.
use Rattle.std.proofs.Common.{◌≡◌, List, Bool, ap, ◌∙◌}
use Rattle.std.specs.Prelude.{not}
use Rattle.cs_value.specs.Tree.{Tree}
use Rattle.cs_value.specs.Same.{same_tree}
use Rattle.cs_view.specs.Changes.{Edit}
use Rattle.cs_live.specs.Lives.{is_stale}
use Rattle.cs_kept.specs.Kept.{last_of}
use Rattle.cs_live.specs.Entries.{live_query}
use Rattle.cs_kept.specs.Fits.{RefreshesKept}
use Rattle.cs_live.specs.Fits.{Refreshes}
use Rattle.cs_live.specs.declared.entry.Entry.{Entry}

pub entry-refreshed : (docs : List Tree) (cs : List Edit) (old new : Entry) → new.name ≡ old.name → new.number ≡ old.number → RefreshesKept docs cs old.kept new.kept → Refreshes docs cs old new
entry-refreshed docs cs old new same number m = record {
  live = λ i. record { name = same i; query = m.answers.query i; params = m.answers.params i; last = m.answers.last i };
  fits = m.answers.fits;
  records = m.records;
  number = number;
}

-- whether the answer is another than the last one
pub stale-is : (docs : List Tree) (cs : List Edit) (old new : Entry) (b : Bool) → RefreshesKept docs cs old.kept new.kept → b ≡ not (same_tree (last_of new.kept) (last_of old.kept)) → b ≡ is_stale docs (live_query old)
stale-is docs cs old new b m is = is ∙ ap (λ t. not (same_tree t (last_of old.kept))) m.answers.last
