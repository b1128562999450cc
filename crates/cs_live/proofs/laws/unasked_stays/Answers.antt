use Rattle.cs_live.proofs.Untouched.{hits_have_hit_key, unasked-still}
use Rattle.cs_live.proofs.laws.unasked_stays.Goals as goal

pub returns : goal.returns
returns c =
    unasked-still c.touched_is_asked.ensures c.looked_settles_value.ensures c.hits_have_key.ensures c.windowed_is_tail_of_hits.ensures c.looked_settles_tail.ensures c.looked_settles_share.ensures c.mapped_is_shares_of_hits.ensures c.simple_is_tail_of_hits.ensures (hits_have_hit_key c.true_has_each_key.ensures c.narrowest_is_had.ensures)
    c.untouched_selects_the_same.ensures c.changes_lead_back_and_on.ensures
