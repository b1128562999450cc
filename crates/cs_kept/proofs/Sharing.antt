-- What a commit leaves of an answer that is kept in shares.
use Rattle.std.proofs.Common.{◌≡◌, List, true, false, refl, sym, ap, ◌∙◌, subst, arith}
use Rattle.std.specs.Prelude.{Contains}
use Rattle.cs_value.specs.Tree.{Tree, Pairs}
use Rattle.cs_value.specs.View.{tree, fields}
use Rattle.cs_value.specs.Words.{list_of}
use Rattle.cs_syntax.specs.Expression.{Expression}
use Rattle.cs_syntax.specs.Queries.{expression_of}
use Rattle.cs_view.specs.Changes.{Edit, are_changes, LeadTo, before_changes}
use Rattle.cs_view.specs.Dataset.{ascending}
use Rattle.cs_view.specs.Keys.{having}
use Rattle.cs_view.specs.Laws.{ChangesLeadBackAndOn, FilterFollowsChanges, UntouchedSelectsTheSame}
use Rattle.cs_view.specs.Touched.{is_touched, touched}
use Rattle.cs_view.specs.declared.key.Key.{Key}
use Rattle.cs_view.proofs.Booleans.{or-right}
use Rattle.cs_plan.specs.Simple.{is_simple, query_key}
use Rattle.cs_meaning.specs.Hits.{hits}
use Rattle.cs_meaning.specs.Laws.{HitsHaveKey}
use Rattle.cs_window.specs.Laws.{LookedSettlesShare, MappedIsSharesOfHits}
use Rattle.cs_window.specs.Mapped.{is_mapped}
use Rattle.cs_hits.specs.Shares.{AreShares, SharesFollow, share_docs, share_values}
use Rattle.cs_hits.proofs.Brought.{hits-after, stays}
use Rattle.cs_hits.proofs.Sharing.{all-still, shares-value}
use Rattle.cs_kept.specs.Fits.{FitsShares, RefreshesKept}
use Rattle.cs_kept.specs.Mapped.{mapped_keys}
use Rattle.cs_kept.specs.declared.kept.Kept.TheVariants.{InShares}
use Rattle.cs_kept.specs.declared.mapped.Mapped.{Mapped}

-- ---- shares that no change touches
module _ (docs : List Tree) (cs : List Edit) (sorted : ascending docs ≡ true) (changes : are_changes cs ≡ true) (leads : LeadTo docs cs)
    (untouched : UntouchedSelectsTheSame) (back : ChangesLeadBackAndOn) (looked : LookedSettlesShare) where
  abbrev before : List Tree
  before = before_changes docs cs

  -- a mapped query that no change touches is refreshed as it stands
  pub mapped-untouched : HitsHaveKey → MappedIsSharesOfHits → (m : Mapped) → touched (mapped_keys m) cs ≡ false → FitsShares before m → RefreshesKept docs cs (InShares m) (InShares m)
  mapped-untouched have law m quiet fits =
      let e = expression_of m.query in let params = fields m.params in
      let key : Key = query_key e params in
      let own : Contains (mapped_keys m) key = subst (Contains (mapped_keys m)) fits.own (0, omega arith, refl) in
      let sel : having key before ≡ having key docs = stays docs cs sorted changes leads untouched back (mapped_keys m) quiet key own in
      let one : hits e params before ≡ hits e params docs = have e params before ∙ (ap (hits e params) sel ∙ sym (have e params docs)) in
      let here : share_docs m.shares.items ≡ hits e params docs = fits.hits ∙ one in
      let all : AreShares docs e params m.shares.items = all-still docs cs sorted changes leads untouched back looked e params m.shares.items (or-right (is_touched cs m.own) _ quiet) fits.shares in
      record {
        answers = record {
          query = refl;
          params = refl;
          last = shares-value law docs e params m.shares.items (tree m.last) fits.mapped here all fits.last;
          fits = record { compound = fits.compound; mapped = fits.mapped; own = fits.own; hits = here; shares = all; last = fits.last };
        };
        records = λ _. refl;
      }

-- ---- shares that were brought behind changes
pub mapped-refreshed : MappedIsSharesOfHits → ChangesLeadBackAndOn → FilterFollowsChanges → (docs : List Tree) (cs : List Edit) → ascending docs ≡ true → are_changes cs ≡ true → LeadTo docs cs
    → (old new : Mapped) → FitsShares (before_changes docs cs) old → expression_of new.query ≡ expression_of old.query → fields new.params ≡ fields old.params → new.own ≡ old.own
    → SharesFollow docs cs (expression_of old.query) (fields old.params) old.shares.items new.shares.items → tree new.last ≡ list_of (share_values new.shares.items)
    → (touched (mapped_keys old) cs ≡ false → mapped_keys new ≡ mapped_keys old)
    → RefreshesKept docs cs (InShares old) (InShares new)
mapped-refreshed law back follows docs cs sorted changes leads old new fits q p own follow is keeps =
    let e = expression_of old.query in let params = fields old.params in
    let here : share_docs new.shares.items ≡ hits e params docs = hits-after back follows docs cs sorted changes leads e params (share_docs old.shares.items) (share_docs new.shares.items) fits.hits follow.hits in
    record {
      answers = record {
        query = q;
        params = p;
        last = shares-value law docs e params new.shares.items (tree new.last) fits.mapped here follow.shares is;
        fits = record {
          compound = ap is_simple q ∙ fits.compound;
          mapped = ap is_mapped q ∙ fits.mapped;
          own = own ∙ fits.own ∙ sym (λ i. query_key (q i) (p i));
          hits = here ∙ sym (λ i. hits (q i) (p i) docs);
          shares = subst (λ (x : Expression). AreShares docs x (fields new.params) new.shares.items) (sym q) (subst (λ (ps : Pairs). AreShares docs e ps new.shares.items) (sym p) follow.shares);
          last = is;
        };
      };
      records = keeps;
    }
