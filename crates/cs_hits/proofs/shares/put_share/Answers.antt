use Rattle.std.proofs.Common.{◌≡◌, ◌∙◌, ◌<◌, ℕ, List, length, get_or, map, set, sym, ap, subst}
use Rattle.std.proofs.lemmas.List.{get_or-set_same}
use Rattle.cs_interest.specs.Interest.{interest_code}
use Rattle.cs_hits.specs.Shares.{SameBut, share_values, shares_looked}
use Rattle.cs_hits.specs.declared.share.Share.{Share}
use Rattle.cs_hits.proofs.Nearing.{some_is}
use Rattle.cs_hits.proofs.Recoding.{one-other}
use Rattle.cs_hits.proofs.Renewing.{but-share, one-more}
use Rattle.cs_hits.proofs.shares.put_share.Goals as goal

pub returns-in_ok-push-in-Some-clause-but : goal.returns-in_ok-push-in-Some-clause-but
returns-in_ok-push-in-Some-clause-but c = λ unshifted ts but.
    let old = c.args.shares.now.items in let i = c.in-Some.stood in let s = c.args.share in let now = c.put.new.all.items in
    let stood : (i < length old) × (now ≡ set old i s) × ((d : Share) → c.in-Some.old ≡ get_or old i d)
    = some_is c.in_ok-stood.field-0 (i, c.in-Some.old)
    (λ (x : ℕ × Share). (x.0 < length old) × (now ≡ set old x.0 s) × ((d : Share) → x.1 ≡ get_or old x.0 d)) (cc c.in-Some.is) c.in_ok-stood.ensures.stood in
    subst (λ (ss : List Share). SameBut c.push.new.self.items ts (share_values ss)) (sym stood.1)
    (subst (λ (ps : List ℕ). SameBut ps ts (share_values (set old i s))) (sym c.in_ok-push-in-Some.ensures.items)
    (but-share c.args.anew.now.items ts old i s stood.0 but))

pub returns-in_ok-push-in-Some-clause-noted : goal.returns-in_ok-push-in-Some-clause-noted
returns-in_ok-push-in-Some-clause-noted c = λ unshifted none.
    one-more c.args.anew.now.items c.in-Some.stood (sym c.in_ok-push-in-Some.ensures.items ∙ none)

pub returns-in_ok-push-in-Some-clause-codes : goal.returns-in_ok-push-in-Some-clause-codes
returns-in_ok-push-in-Some-clause-codes c = λ unset.
    let old = c.args.shares.now.items in let i = c.in-Some.stood in let s = c.args.share in let now = c.put.new.all.items in
    let seed = c.args.seed.now in let was = c.in-Some.old in let there = c.index.result.now in
    let stood : (i < length old) × (now ≡ set old i s) × ((d : Share) → was ≡ get_or old i d)
    = some_is c.in_ok-stood.field-0 (i, was)
    (λ (x : ℕ × Share). (x.0 < length old) × (now ≡ set old x.0 s) × ((d : Share) → x.1 ≡ get_or old x.0 d)) (cc c.in-Some.is) c.in_ok-stood.ensures.stood in
    let told = c.tell_codes.ensures unset in
    let here : there ≡ s
    = c.index.ensures ∙ ap (λ (ss : List Share). get_or ss i there) stood.1 ∙ get_or-set_same old i s there stood.0 in
    let same : map (interest_code seed) s.looked ≡ map (interest_code seed) (get_or old i s).looked
    = ap (λ (x : Share). map (interest_code seed) x.looked) (sym here)
    ∙ ap (map (interest_code seed)) (sym c.keys-now.ensures) ∙ told.1 ∙ ap (map (interest_code seed)) c.keys.ensures
    ∙ ap (λ (x : Share). map (interest_code seed) x.looked) (stood.2 s) in
    (told.0, ap (λ (ss : List Share). map (interest_code seed) (shares_looked ss)) stood.1 ∙ one-other seed old i s s stood.0 same)
