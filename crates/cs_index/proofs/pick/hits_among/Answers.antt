use Rattle.std.proofs.Common.{◌∙◌, ap, sym, ℕ, List, ◌||◌, slice_index_or}
use Rattle.std.proofs.lemmas.List.{drop_more}
use Rattle.cs_index.specs.Picking.{is_hit, is_found_at, is_found_among}
use Rattle.cs_index.proofs.Marks.{or_more}
use Rattle.cs_index.proofs.pick.hits_among.Goals as goal

pub loop-place-preserved : goal.loop-place-preserved
loop-place-preserved c =
    let d = c.args.docs.now in let k = c.args.keys.now in
    let ps = c.args.places.now in let i = c.loop-place.place-index in (
      c.in_ok-choose.ensures.wanted,
      λ y.
          or_more (is_found_at d k (slice_index_or ps i 0) y) _ _ _ _ (c.in_ok-choose.ensures.finds y)
          (sym (ap (λ (xs : List ℕ). is_found_among d k xs y || is_hit y c.loop-place.hits.items) (drop_more ps i 0 c.loop-place-test.true)) ∙ c.loop-place.invariant.1 y),
    )
