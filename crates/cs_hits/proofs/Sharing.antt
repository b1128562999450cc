-- The shares of a mapped query's hits: what they make, and what changes leave of them.
use Rattle.std.proofs.Common.{◌≡◌, List, [], ◌∷◌, map, true, false, ◌||◌, refl, sym, ap, ◌∙◌, subst}
use Rattle.std.specs.Prelude.{Contains}
use Rattle.std.proofs.lemmas.List.Folds.{list_any-append}
use Rattle.cs_value.specs.Tree.{Tree, Pairs}
use Rattle.cs_value.specs.Words.{list_of}
use Rattle.cs_json.specs.Text.{json_text}
use Rattle.cs_syntax.specs.Expression.{Expression}
use Rattle.cs_view.specs.Changes.{Edit, are_changes, LeadTo, before_changes}
use Rattle.cs_view.specs.Dataset.{ascending}
use Rattle.cs_view.specs.Keys.{having}
use Rattle.cs_view.specs.Laws.{ChangesLeadBackAndOn, UntouchedSelectsTheSame}
use Rattle.cs_view.specs.Touched.{is_touched, touched}
use Rattle.cs_view.specs.declared.key.Key.{Key}
use Rattle.cs_view.proofs.Booleans.{or-left, or-right}
use Rattle.cs_meaning.specs.Hits.{hits}
use Rattle.cs_meaning.specs.Values.{query_value}
use Rattle.cs_window.specs.Laws.{LookedSettlesShare, MappedIsSharesOfHits}
use Rattle.cs_window.specs.Mapped.{is_mapped, share, share_looked}
use Rattle.cs_hits.specs.Shares.{AreShares, IsShare, share_doc, share_docs, share_values, shares_looked}
use Rattle.cs_hits.specs.declared.share.Share.{Share}
use Rattle.cs_hits.proofs.Brought.{stays}

-- ---- what shares make
made-of : (docs : List Tree) (e : Expression) (params : Pairs) (ss : List Share) → AreShares docs e params ss → share_values ss ≡ map (share docs e params) (share_docs ss)
made-of docs e params [] all = refl
made-of docs e params (s ∷ ss) all =
    ap (λ (v : Tree). v ∷ share_values ss) all.0.value ∙ ap (λ (vs : List Tree). share docs e params (share_doc s) ∷ vs) (made-of docs e params ss all.1)

pub shares-value : MappedIsSharesOfHits → (docs : List Tree) (e : Expression) (params : Pairs) (ss : List Share) (v : Tree) → is_mapped e ≡ true
    → share_docs ss ≡ hits e params docs → AreShares docs e params ss → v ≡ list_of (share_values ss) → v ≡ query_value docs params e
shares-value law docs e params ss v mapped are all is =
    is ∙ ap list_of (made-of docs e params ss all ∙ ap (map (share docs e params)) are) ∙ sym (law e params docs mapped).0

-- the texts of shares are those of their values
pub texts-of : (docs : List Tree) (e : Expression) (params : Pairs) (ss : List Share) → AreShares docs e params ss → map (λ (s : Share). s.text.items) ss ≡ map json_text (share_values ss)
texts-of docs e params [] all = refl
texts-of docs e params (s ∷ ss) all = λ i. all.0.text i ∷ texts-of docs e params ss all.1 i

-- ---- shares that no change touches
module _ (docs : List Tree) (cs : List Edit) (sorted : ascending docs ≡ true) (changes : are_changes cs ≡ true) (leads : LeadTo docs cs)
    (untouched : UntouchedSelectsTheSame) (back : ChangesLeadBackAndOn) (looked : LookedSettlesShare) where
  abbrev before : List Tree
  before = before_changes docs cs

  pub share-still : (e : Expression) (params : Pairs) (s : Share) → touched s.looked cs ≡ false → IsShare before e params s → IsShare docs e params s
  share-still e params s quiet is =
      let agree : (k : Key) → Contains (share_looked before e params (share_doc s)) k → having k before ≡ having k docs
      = λ k at. stays docs cs sorted changes leads untouched back s.looked quiet k (subst (λ (ks : List Key). Contains ks k) (sym is.looked) at) in
      let settled = looked e params (share_doc s) before docs agree in
      record { value = is.value ∙ settled.0; text = is.text; looked = is.looked ∙ settled.1 }

  pub all-still : (e : Expression) (params : Pairs) (ss : List Share) → touched (shares_looked ss) cs ≡ false → AreShares before e params ss → AreShares docs e params ss
  all-still e params [] quiet all = tt
  all-still e params (s ∷ ss) quiet all =
      let both : (touched s.looked cs || touched (shares_looked ss) cs) ≡ false = sym (list_any-append (is_touched cs) s.looked (shares_looked ss)) ∙ quiet in
      (share-still e params s (or-left _ _ both) all.0, all-still e params ss (or-right (touched s.looked cs) _ both) all.1)
