-- What contracts see of the shares that hits have in the answer of a mapped query. This project's
-- profile.
use Rattle.std.specs.Prelude.{◌≡◌, ℕ, ◌<◌, Bool, List, length, get_or, false, map, flat_map}
use Rattle.std.specs.List.{All, AllByRecursion}
use Rattle.cs_value.specs.Tree.{Tree, Pairs}
use Rattle.cs_value.specs.View.{tree}
use Rattle.cs_json.specs.Text.{json_text}
use Rattle.cs_syntax.specs.Expression.{Expression}
use Rattle.cs_view.specs.Changes.{Edit, after_changes, changes_where}
use Rattle.cs_view.specs.View.{document_of}
use Rattle.cs_view.specs.declared.key.Key.{Key}
use Rattle.cs_codes.specs.Codes.{is_among}
use Rattle.cs_codes.specs.declared.seed.Seed.{Seed}
use Rattle.cs_interest.specs.Interest.{interest_code}
use Rattle.cs_meaning.specs.Hits.{is_hit}
use Rattle.cs_window.specs.Mapped.{share, share_looked}
use Rattle.cs_hits.specs.declared.share.Share.{Share}

-- the documents, in their order
abbrev pub share_doc : Share → Tree
share_doc s = document_of s.doc

abbrev pub share_docs : List Share → List Tree
share_docs ss = map share_doc ss

-- the shares themselves
abbrev pub share_values : List Share → List Tree
share_values ss = map (λ s. tree s.value) ss

-- the keys that finding them looked up
abbrev pub shares_looked : List Share → List Key
shares_looked ss = flat_map (λ s. s.looked) ss

-- a flag is unset only where it was, and where interest in the keys that are looked up now has the
-- codes, in their order, that it had in those before
abbrev pub TellsCodes : Seed → List Key → List Key → Bool → Bool → Type 0
TellsCodes seed were are was is =
    is ≡ false → (was ≡ false) × (map (interest_code seed) are ≡ map (interest_code seed) were)

-- it is the share of its document over a dataset, with its text and what finding it looks up
pub record IsShare (docs : List Tree) (e : Expression) (params : Pairs) (s : Share) : Type 0 where
  pub value : tree s.value ≡ share docs e params (share_doc s)
  pub text : s.text.items ≡ json_text (tree s.value)
  pub looked : s.looked ≡ share_looked docs e params (share_doc s)

abbrev pub AreShares : List Tree → Expression → Pairs → List Share → Type 0
AreShares docs e params ss = AllByRecursion (IsShare docs e params) ss

-- the shares of hits behind changes: of those documents, over the dataset
pub record SharesFollow (docs : List Tree) (cs : List Edit) (e : Expression) (params : Pairs)
    (old new : List Share) : Type 0 where
  pub hits : share_docs new ≡ after_changes (share_docs old) (changes_where (is_hit e params) cs)
  pub shares : AreShares docs e params new

-- one list of trees is the other, but at these places
pub record SameBut (places : List ℕ) (ts us : List Tree) : Type 0 where
  pub long : length ts ≡ length us
  pub within : All (λ i. i < length ts) places
  pub same : (i : ℕ) (t : Tree) → i < length ts → is_among i places ≡ false
      → get_or ts i t ≡ get_or us i t
