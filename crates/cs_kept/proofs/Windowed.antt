-- What a commit leaves of a record: where no change touches it, where what settles the answer of a
-- windowed query stays, and where the answer is found anew.
use Rattle.std.proofs.Common.{◌≡◌, List, [], ◌∷◌, ◌++◌, true, false, true≢false, refl, sym, ap, ◌∙◌, subst, arith, Option, Some, None}
use Rattle.std.specs.Prelude.{IfSome, Contains}
use Rattle.std.proofs.lemmas.List.Elements.{Contains-append_left}
use Rattle.cs_value.specs.Tree.{Tree, null, Pairs}
use Rattle.cs_value.specs.View.{tree, fields}
use Rattle.cs_syntax.specs.Expression.{Expression}
use Rattle.cs_syntax.specs.Queries.{expression_of}
use Rattle.cs_view.specs.Changes.{Edit, are_changes, LeadTo, before_changes}
use Rattle.cs_view.specs.Dataset.{ascending}
use Rattle.cs_view.specs.Keys.{having}
use Rattle.cs_view.specs.Laws.{ChangesLeadBackAndOn, FilterFollowsChanges, UntouchedSelectsTheSame}
use Rattle.cs_view.specs.Touched.{touched}
use Rattle.cs_view.specs.declared.key.Key.{Key}
use Rattle.cs_plan.specs.Simple.{query_key}
use Rattle.cs_meaning.specs.Hits.{hits, tail_looked, tail_over}
use Rattle.cs_meaning.specs.Laws.{HitsHaveKey, LookedSettlesValue}
use Rattle.cs_meaning.specs.Looked.{query_looked}
use Rattle.cs_meaning.specs.Values.{query_value}
use Rattle.cs_window.specs.Laws.{LookedSettlesTail, WindowedIsFiltered, WindowedIsTailOfHits, WindowSettlesTailOver}
use Rattle.cs_window.specs.Windowed.{is_windowed}
use Rattle.cs_codes.specs.declared.seed.Seed.{Seed}
use Rattle.cs_hits.proofs.Brought.{stays}
use Rattle.cs_kept.specs.Fits.{is_by_hits, FitsRecord, FitsWindow, RefreshesKept}
use Rattle.cs_hits.specs.Behind.{Follows}
use Rattle.cs_kept.specs.Followed.{AreHeld, CanFollow, Followed, FollowedBy, KeepsAnswer, StayBy, Stays, StaysSettled}
use Rattle.cs_hits.specs.Behind.{AreBehind}
use Rattle.cs_keys.specs.Keys.{SameKeys, all_keys, own_of, rest_of}
use Rattle.cs_kept.specs.declared.kept.Kept.TheVariants.{ByRecord}
use Rattle.cs_hits.specs.declared.behind.Behind.{Behind}
use Rattle.cs_kept.specs.Evaluated.{IsEvaluated}
use Rattle.cs_kept.specs.declared.evaluated.Evaluated.{Evaluated}
use Rattle.cs_keys.specs.declared.keys.Keys.{Keys}
use Rattle.cs_kept.specs.declared.recorded.Recorded.{Recorded}
use Rattle.cs_hits.proofs.Behinds.{are_by, behind_after, behind_ascend, enough_by, enough_still, stay_settles}
use Rattle.cs_keys.proofs.Keyed.{are_one, in_turn}

-- the same documents, under names of the other list
same-keys : (ks xs ys : List Key) → SameKeys ks xs → xs ≡ ys → SameKeys ks ys
same-keys ks xs ys h is = in_turn ks xs ys h (are_one xs ys is)

module _ (docs : List Tree) (cs : List Edit) (sorted : ascending docs ≡ true) (changes : are_changes cs ≡ true) (leads : LeadTo docs cs)
    (untouched : UntouchedSelectsTheSame) (back : ChangesLeadBackAndOn) where
  abbrev before : List Tree
  before = before_changes docs cs

  -- ---- no change touches the record
  module _ (have : HitsHaveKey) (windowed : WindowedIsTailOfHits) (looked : LookedSettlesTail) where
    window-still : (e : Expression) (params : Pairs) (ks rest own : List Key) → ks ≡ rest ++ own → touched ks cs ≡ false → SameKeys ks (query_looked before params e) → (b : Behind)
        → FitsWindow before e params rest b → FitsWindow docs e params rest b
    window-still e params ks rest own all quiet same b fits =
        let key : Key = query_key e params in
        let first : Contains (query_looked before params e) key = subst (λ (us : List Key). Contains us key) (sym (windowed e params before fits.windowed).1) (0, omega arith, refl) in
        let sel : having key before ≡ having key docs = stays docs cs sorted changes leads untouched back ks quiet key (same.back key first) in
        let one : hits e params before ≡ hits e params docs = have e params before ∙ (ap (hits e params) sel ∙ sym (have e params docs)) in
        let agree : (k : Key) → Contains (tail_looked before e params (hits e params before)) k → having k before ≡ having k docs
        = λ k at. stays docs cs sorted changes leads untouched back ks quiet k (subst (λ (us : List Key). Contains us k) (sym all) (Contains-append_left rest own k (fits.looked.back k at))) in
        record {
          windowed = fits.windowed;
          are = are_by e params before docs b one fits.are;
          enough = enough_by e params before docs b one fits.enough;
          looked = same-keys rest (tail_looked before e params (hits e params before)) (tail_looked docs e params (hits e params docs)) fits.looked
              ((looked e params (hits e params before) before docs agree).1 ∙ ap (tail_looked docs e params) one);
        }

    some-still : (e : Expression) (params : Pairs) (ks rest own : List Key) → ks ≡ rest ++ own → touched ks cs ≡ false → SameKeys ks (query_looked before params e) → (o : Option Behind)
        → IfSome o (FitsWindow before e params rest) → IfSome o (FitsWindow docs e params rest)
    some-still e params ks rest own all quiet same None fits = tt
    some-still e params ks rest own all quiet same (Some h) fits = window-still e params ks rest own all quiet same h fits

    -- a record that no change touches fits the dataset after the changes as it fitted the one before
    still-fits : LookedSettlesValue → (r : Recorded) → touched (all_keys r.keys) cs ≡ false → FitsRecord before r → FitsRecord docs r
    still-fits settles r quiet fits =
        let e = expression_of r.query in let params = fields r.params in
        let settled = settles e params (null ∷ []) before docs (λ k at. stays docs cs sorted changes leads untouched back (all_keys r.keys) quiet k (fits.keys.back k at)) in
        record {
          compound = fits.compound;
          last = fits.last ∙ settled.0;
          keys = same-keys (all_keys r.keys) (query_looked before params e) (query_looked docs params e) fits.keys settled.1;
          behind = some-still e params (all_keys r.keys) (rest_of r.keys) (own_of r.keys) refl quiet fits.keys r.behind fits.behind;
        }

    pub untouched-refreshed : LookedSettlesValue → (r : Recorded) → touched (all_keys r.keys) cs ≡ false → FitsRecord before r → RefreshesKept docs cs (ByRecord r) (ByRecord r)
    untouched-refreshed settles r quiet fits =
        let now = still-fits settles r quiet fits in
        record { answers = record { query = refl; params = refl; last = now.last; fits = now }; records = λ _. refl }

  -- ---- documents that are brought behind the changes
  pub can-follow : WindowedIsFiltered → (r : Recorded) (rest : List Key) (o : Option Behind) → IfSome o (FitsWindow before (expression_of r.query) (fields r.params) rest) → IfSome o (CanFollow r)
  can-follow filtered r rest None fits = tt
  can-follow filtered r rest (Some b) fits = record {
    filtered = filtered (expression_of r.query) fits.windowed;
    sorted = behind_ascend (expression_of r.query) (fields r.params) docs cs sorted b fits.are;
  }

  module _ (follows : FilterFollowsChanges) (e : Expression) (params : Pairs) (rest : List Key) where
    after : (a b : Behind) → FitsWindow before e params rest a → Follows cs e params a b → AreBehind docs e params b
    after a b fits f = behind_after e params back follows docs cs sorted changes leads a b fits.are f

    pub held-by : (r : Recorded) → expression_of r.query ≡ e → fields r.params ≡ params → (o o' : Option Behind) → IfSome o (FitsWindow before e params rest) → FollowedBy cs e params o o' → IfSome o' (AreHeld docs r)
    held-by r q p o None fits f = tt
    held-by r q p None (Some b) fits f = absurd f
    held-by r q p (Some a) (Some b) fits f = record {
      windowed = ap is_windowed q ∙ fits.windowed;
      are = subst (λ (ps : Pairs). AreBehind docs (expression_of r.query) ps b) (sym p) (subst (λ (x : Expression). AreBehind docs x params b) (sym q) (after a b fits f));
    }

    -- where what settles the answer stays, the same is looked up and the answer is the same
    module _ (over : WindowSettlesTailOver) (looked : LookedSettlesTail) (r : Recorded) (same-rest : rest_of r.keys ≡ rest) where
      tails : (a b : Behind) → FitsWindow before e params rest a → Follows cs e params a b → Stays cs r a b
          → (tail_over before e params (hits e params before) ≡ tail_over docs e params (hits e params docs)) × (tail_looked before e params (hits e params before) ≡ tail_looked docs e params (hits e params docs))
      tails a b fits f stay =
          let value = stay_settles e params before docs (tail_over before e params) (λ bound xs ys n s. (over e params bound xs ys before fits.windowed n s).0) a b f.kind fits.are (after a b fits f) stay.same fits.enough in
          let keys = stay_settles e params before docs (tail_looked before e params) (λ bound xs ys n s. (over e params bound xs ys before fits.windowed n s).1) a b f.kind fits.are (after a b fits f) stay.same fits.enough in
          let agree : (k : Key) → Contains (tail_looked before e params (hits e params docs)) k → having k before ≡ having k docs
          = λ k at. stays docs cs sorted changes leads untouched back (rest_of r.keys) stay.quiet k (subst (λ (us : List Key). Contains us k) (sym same-rest) (fits.looked.back k (subst (λ (us : List Key). Contains us k) (sym keys) at))) in
          let on = looked e params (hits e params docs) before docs agree in
          (value ∙ on.0, keys ∙ on.1)

      stay-fits : (a b : Behind) → FitsWindow before e params rest a → Follows cs e params a b → Stays cs r a b → FitsWindow docs e params rest b
      stay-fits a b fits f stay = record {
        windowed = fits.windowed;
        are = after a b fits f;
        enough = enough_still e params before docs a b f.kind fits.are (after a b fits f) stay.same fits.enough;
        looked = same-keys rest (tail_looked before e params (hits e params before)) (tail_looked docs e params (hits e params docs)) fits.looked (tails a b fits f stay).1;
      }

      stay-same : WindowedIsTailOfHits → (a b : Behind) → FitsWindow before e params rest a → Follows cs e params a b → Stays cs r a b
          → (query_value before params e ≡ query_value docs params e) × (query_looked before params e ≡ query_looked docs params e)
      stay-same windowed a b fits f stay =
          let one = windowed e params before fits.windowed in
          let other = windowed e params docs fits.windowed in
          let both = tails a b fits f stay in
          (one.0 ∙ (both.0 ∙ sym other.0), one.1 ∙ (ap (λ (ks : List Key). query_key e params ∷ ks) both.1 ∙ sym other.1))

      pub some-stay : WindowedIsTailOfHits → (o o' : Option Behind) → IfSome o (FitsWindow before e params rest) → FollowedBy cs e params o o' → StayBy cs r o o'
          → IfSome o' (FitsWindow docs e params rest) × ((query_value before params e ≡ query_value docs params e) × (query_looked before params e ≡ query_looked docs params e))
      some-stay windowed (Some a) (Some b) fits f stay = (stay-fits a b fits f stay, stay-same windowed a b fits f stay)
      some-stay windowed None None fits f stay = absurd stay
      some-stay windowed None (Some b) fits f stay = absurd stay
      some-stay windowed (Some a) None fits f stay = absurd stay

-- ---- a record that was found anew, or stays
abbrev pub FitsFor : List Tree → Recorded → Expression → Pairs → Type 0
FitsFor docs r e params =
    ((is_by_hits e ≡ false) × (tree r.last ≡ query_value docs params e))
    × (SameKeys (all_keys r.keys) (query_looked docs params e) × IfSome r.behind (FitsWindow docs e params (rest_of r.keys)))

fits-for : (docs : List Tree) (r : Recorded) (e : Expression) (params : Pairs) → expression_of r.query ≡ e → fields r.params ≡ params → FitsFor docs r e params → FitsRecord docs r
fits-for docs r e params q p all =
    let own : FitsFor docs r (expression_of r.query) (fields r.params) = subst (λ (x : Expression). FitsFor docs r x (fields r.params)) (sym q) (subst (λ (x : Pairs). FitsFor docs r e x) (sym p) all) in
    record { compound = own.0.0; last = own.0.1; keys = own.1.0; behind = own.1.1 }

pub refreshed : (docs : List Tree) (cs : List Edit) (old new : Recorded) → expression_of new.query ≡ expression_of old.query → fields new.params ≡ fields old.params
    → FitsFor docs new (expression_of old.query) (fields old.params) → (touched (all_keys old.keys) cs ≡ false → all_keys new.keys ≡ all_keys old.keys) → RefreshesKept docs cs (ByRecord old) (ByRecord new)
refreshed docs cs old new q p all keeps = record {
  answers = record { query = q; params = p; last = all.0.1; fits = fits-for docs new (expression_of old.query) (fields old.params) q p all };
  records = keeps;
}

pub stayed : (docs : List Tree) (cs : List Edit) → ascending docs ≡ true → are_changes cs ≡ true → LeadTo docs cs → UntouchedSelectsTheSame → ChangesLeadBackAndOn → FilterFollowsChanges
    → WindowSettlesTailOver → LookedSettlesTail → WindowedIsTailOfHits
    → (old mid : Recorded) → KeepsAnswer old mid → FitsRecord (before_changes docs cs) old → Followed cs old mid → StaysSettled cs old mid → RefreshesKept docs cs (ByRecord old) (ByRecord mid)
stayed docs cs sorted changes leads untouched back follows over looked windowed old mid keeps fits followed stay =
    let e = expression_of old.query in let params = fields old.params in
    let s = some-stay docs cs sorted changes leads untouched back follows e params (rest_of old.keys) over looked old refl windowed old.behind mid.behind fits.behind followed stay in
    let same : SameKeys (all_keys old.keys) (query_looked docs params e) = same-keys (all_keys old.keys) (query_looked (before_changes docs cs) params e) (query_looked docs params e) fits.keys s.1.1 in
    refreshed docs cs old mid (ap expression_of keeps.query) (ap fields keeps.params) (
      (fits.compound, ap tree keeps.last ∙ (fits.last ∙ s.1.0)),
      (
        subst (λ (k : Keys). SameKeys (all_keys k) (query_looked docs params e)) (sym keeps.keys) same,
        subst (λ (k : Keys). IfSome mid.behind (FitsWindow docs e params (rest_of k))) (sym keeps.keys) s.0,
      ),
    )
    (λ _. ap all_keys keeps.keys)

-- the hits of which the answer is found anew
pub held : (docs : List Tree) (cs : List Edit) → ascending docs ≡ true → are_changes cs ≡ true → LeadTo docs cs → UntouchedSelectsTheSame → ChangesLeadBackAndOn → FilterFollowsChanges
    → (old mid : Recorded) → KeepsAnswer old mid → FitsRecord (before_changes docs cs) old → Followed cs old mid → IfSome mid.behind (AreHeld docs mid)
held docs cs sorted changes leads untouched back follows old mid keeps fits followed =
    held-by docs cs sorted changes leads untouched back follows (expression_of old.query) (fields old.params) (rest_of old.keys) mid (ap expression_of keeps.query) (ap fields keeps.params) old.behind mid.behind fits.behind followed

-- an answer that was found anew
pub found-anew : (docs : List Tree) (cs : List Edit) (old mid new : Recorded) (v : Evaluated) (seed : Seed) → expression_of new.query ≡ expression_of old.query → fields new.params ≡ fields old.params
    → expression_of mid.query ≡ expression_of old.query → fields mid.params ≡ fields old.params → new.last ≡ v.answer → new.keys ≡ v.keys → is_by_hits (expression_of old.query) ≡ false
    → IsEvaluated docs (expression_of mid.query) (fields mid.params) seed v → IfSome new.behind (FitsWindow docs (expression_of mid.query) (fields mid.params) (rest_of v.keys)) → touched (all_keys old.keys) cs ≡ true
    → RefreshesKept docs cs (ByRecord old) (ByRecord new)
found-anew docs cs old mid new v seed q p mq mp last keys compound evaluated fits hot =
    let ev : IsEvaluated docs (expression_of old.query) (fields old.params) seed v
    = subst (λ (x : Expression). IsEvaluated docs x (fields old.params) seed v) mq (subst (λ (x : Pairs). IsEvaluated docs (expression_of mid.query) x seed v) mp evaluated) in
    let held : IfSome new.behind (FitsWindow docs (expression_of old.query) (fields old.params) (rest_of v.keys))
    = subst (λ (x : Expression). IfSome new.behind (FitsWindow docs x (fields old.params) (rest_of v.keys))) mq (subst (λ (x : Pairs). IfSome new.behind (FitsWindow docs (expression_of mid.query) x (rest_of v.keys))) mp fits) in
    refreshed docs cs old new q p (
      (compound, ap tree last ∙ ev.answer),
      (
        subst (λ (k : Keys). SameKeys (all_keys k) (query_looked docs (fields old.params) (expression_of old.query))) (sym keys) ev.keys,
        subst (λ (k : Keys). IfSome new.behind (FitsWindow docs (expression_of old.query) (fields old.params) (rest_of k))) (sym keys) held,
      ),
    )
    (λ quiet. absurd (true≢false (sym hot ∙ quiet)))
