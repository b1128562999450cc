-- An entry that is not asked stays as it is.
use Rattle.std.proofs.Common.{◌≡◌, ◌∙◌, ℕ, ◌<◌, get_or, arith, List, [], ◌∷◌, Bool, true, false, cond, ◌||◌, refl, sym, ap, true≢false, nat_eq, eq-eqb}
use Rattle.std.proofs.lemmas.List.Elements.{Contains-push}
use Rattle.std.proofs.lemmas.Bool.{or_right}
use Rattle.cs_value.specs.Tree.{Tree, null, Pairs}
use Rattle.cs_value.specs.View.{fields}
use Rattle.cs_syntax.specs.Expression.{Expression}
use Rattle.cs_syntax.specs.Queries.{expression_of}
use Rattle.cs_view.specs.Changes.{Edit, are_changes, LeadTo, before_changes}
use Rattle.cs_view.specs.Dataset.{ascending}
use Rattle.cs_view.specs.Keys.{having, has}
use Rattle.cs_view.specs.Laws.{ChangesLeadBackAndOn, UntouchedSelectsTheSame}
use Rattle.cs_view.specs.Touched.{touched, is_touched}
use Rattle.cs_view.specs.declared.key.Key.{Key}
use Rattle.cs_plan.specs.Simple.{filter_of, steps_behind, query_keys}
use Rattle.cs_meaning.specs.Laws.{HitsHaveKey, LookedSettlesValue, SimpleIsTailOfHits, TrueHasEachKey}
use Rattle.cs_meaning.specs.Hits.{is_hit, hits, tail}
use Rattle.cs_meaning.proofs.Sound.{filter-within}
use Rattle.cs_window.specs.Laws.{LookedSettlesShare, LookedSettlesTail, MappedIsSharesOfHits, WindowedIsTailOfHits}
use Rattle.cs_interest.specs.Interest.{holds, interest_code, is_asked}
use Rattle.cs_interest.specs.Laws.{NarrowestIsHad, TouchedIsAsked}
use Rattle.cs_interest.specs.declared.interest.Interest.{Interest}
use Rattle.cs_live.specs.Brought.{Still, UnaskedStays}
use Rattle.cs_kept.specs.Kept.{last_of}
use Rattle.cs_live.specs.Entries.{entries, live_query}
use Rattle.cs_kept.specs.Fits.{FitsKept, FitsRows, RefreshesKept}
use Rattle.cs_hits.specs.Codes.{has_code}
use Rattle.cs_kept.specs.Found.{IsFound, hit_key, interests}
use Rattle.cs_live.specs.Lives.{is_stale, news_of, refreshed, say}
use Rattle.cs_kept.specs.Rows.{rows}
use Rattle.cs_live.specs.declared.entry.Entry.{Entry}
use Rattle.cs_kept.specs.declared.kept.Kept.{Kept}
use Rattle.cs_kept.specs.declared.kept.Kept.TheVariants.{ByRecord, InRows, InShares}
use Rattle.cs_kept.specs.declared.rows.Rows.{Rows}
use Rattle.cs_live.proofs.Refreshing.{entry-refreshed}
use Rattle.cs_kept.proofs.Coded.{coded-among}
use Rattle.cs_kept.proofs.Sharing.{mapped-untouched}
use Rattle.cs_kept.proofs.Windowed.{untouched-refreshed}
use Rattle.cs_kept.proofs.Sames.{not_another}

-- ---- no key of a number that is not asked is touched
module _ (asks : TouchedIsAsked) (i : Interest) (cs : List Edit) (changes : are_changes cs ≡ true) (n : ℕ) (quiet : is_asked i cs n ≡ false) where
  none_touched : (ks : List Key) → ((c : ℕ) → has_code i.seed c ks ≡ true → holds i c n ≡ true) → touched ks cs ≡ false
  none_touched [] all = refl
  none_touched (k ∷ ks) all = by_test (none_touched ks (λ c h. all c (or_right (nat_eq c (interest_code i.seed k)) (has_code i.seed c ks) h))) (is_touched cs k) refl where
    own : has_code i.seed (interest_code i.seed k) (k ∷ ks) ≡ true
    own = ap (λ b. b || has_code i.seed (interest_code i.seed k) ks) (eq-eqb (interest_code i.seed k) (interest_code i.seed k) refl)

    by_test : touched ks cs ≡ false → (b : Bool) → is_touched cs k ≡ b → (b || touched ks cs) ≡ false
    by_test rest true e = absurd (true≢false (sym (asks i cs k n changes e (all (interest_code i.seed k) own)) ∙ quiet))
    by_test rest false e = rest

  pub untouched_keys : (k : Kept) → IsFound i n k → touched (interests k) cs ≡ false
  untouched_keys k found = none_touched (interests k) (λ c h. found.stands c ∙ coded-among i.seed k found.coded c ∙ h)

-- ---- what is untouched is refreshed as it stands
-- the hits of a query are hits among the documents that have its hits' key
abbrev pub HitsHaveHitKey : Type 0
HitsHaveHitKey = (e : Expression) (params : Pairs) (docs : List Tree)
    → hits e params docs ≡ hits e params (having (hit_key e params) docs)

pub hits_have_hit_key : TrueHasEachKey → NarrowestIsHad → HitsHaveHitKey
hits_have_hit_key each narrow e params docs =
    filter-within (is_hit e params) (has (hit_key e params))
    (λ d h. narrow (query_keys e params) d
    ((each (filter_of (steps_behind e)) params (null ∷ []) [] d).0 h)) docs

pub rows-still : SimpleIsTailOfHits → HitsHaveHitKey → UntouchedSelectsTheSame → ChangesLeadBackAndOn
    → (docs : List Tree) (cs : List Edit) → ascending docs ≡ true → are_changes cs ≡ true → LeadTo docs cs
    → (r : Rows) → touched (hit_key (expression_of r.query) (fields r.params) ∷ []) cs ≡ false → FitsRows (before_changes docs cs) r → RefreshesKept docs cs (InRows r) (InRows r)
rows-still settles have untouched back docs cs h changes leads r quiet fits =
    let e = expression_of r.query in let params = fields r.params in let key = hit_key e params in
    let same : having key (before_changes docs cs) ≡ having key docs =
    untouched docs cs h changes (key ∷ []) quiet key (Contains-push [] key) ∙ ap (having key) (back docs cs h changes leads).0 in
    let here : rows r ≡ hits e params docs = fits.rows ∙ have e params (before_changes docs cs) ∙ ap (hits e params) same ∙ sym (have e params docs) in
    record {
      answers = record {
        query = refl;
        params = refl;
        last = fits.settled.answered ∙ ap (tail e params) here ∙ sym (settles e params docs fits.simple);
        fits = record {
          simple = fits.simple;
          rows = here;
          settled = fits.settled;
        };
      };
      records = tt;
    }

pub kept-still : LookedSettlesValue → HitsHaveKey → WindowedIsTailOfHits → LookedSettlesTail → LookedSettlesShare → MappedIsSharesOfHits → SimpleIsTailOfHits → HitsHaveHitKey → UntouchedSelectsTheSame → ChangesLeadBackAndOn
    → (docs : List Tree) (cs : List Edit) → ascending docs ≡ true → are_changes cs ≡ true → LeadTo docs cs
    → (k : Kept) → touched (interests k) cs ≡ false → FitsKept (before_changes docs cs) k → RefreshesKept docs cs k k
kept-still looked keyed windowed tails shared mapped settles have untouched back docs cs h changes leads (ByRecord r) quiet fits = untouched-refreshed docs cs h changes leads untouched back keyed windowed tails looked r quiet fits
kept-still looked keyed windowed tails shared mapped settles have untouched back docs cs h changes leads (InRows r) quiet fits = rows-still settles have untouched back docs cs h changes leads r quiet fits
kept-still looked keyed windowed tails shared mapped settles have untouched back docs cs h changes leads (InShares m) quiet fits = mapped-untouched docs cs h changes leads untouched back shared keyed mapped m quiet fits

no-line : (docs : List Tree) (e : Entry) (b : Bool) → b ≡ is_stale docs (live_query e) → b ≡ false → news_of docs (live_query e) ≡ []
no-line docs e b is h = ap (λ t. cond t (say (refreshed docs (live_query e)) ∷ []) []) (sym is ∙ h)

pub still : (docs : List Tree) (cs : List Edit) (e : Entry) → RefreshesKept docs cs e.kept e.kept → Still docs cs e
still docs cs e m = record {
  refreshes = entry-refreshed docs cs e e refl refl m;
  silent = no-line docs e false (not_another (last_of e.kept) _ m.answers.last) refl;
}

pub unasked-still : TouchedIsAsked → LookedSettlesValue → HitsHaveKey → WindowedIsTailOfHits → LookedSettlesTail → LookedSettlesShare → MappedIsSharesOfHits → SimpleIsTailOfHits → HitsHaveHitKey → UntouchedSelectsTheSame → ChangesLeadBackAndOn → UnaskedStays
unasked-still asks looked keyed windowed tails shared mapped settles have untouched back docs cs l ns sorted changes leads fits asked j e low none =
    let d : Entry = get_or (entries l) j e in
    let found : IsFound l.interest d.number d.kept = fits.found.found j e low in
    let under : d.number < l.next = fits.found.below j e low in
    let bound = fits.found.bound in
    let quiet : is_asked l.interest cs d.number ≡ false = sym (asked.exact d.number (omega (arith, under, bound))) ∙ none in
    still docs cs d (kept-still looked keyed windowed tails shared mapped settles have untouched back docs cs sorted changes leads d.kept (untouched_keys asks l.interest cs changes d.number quiet d.kept found) (fits.answers j e low))
