-- What changes leave of rows.
use Rattle.std.proofs.Common.{◌≡◌, List, true, sym, ap, ◌∙◌, subst}
use Rattle.std.specs.Prelude.{IsTrue}
use Rattle.cs_value.specs.Tree.{Tree}
use Rattle.cs_value.specs.View.{fields}
use Rattle.cs_syntax.specs.Queries.{expression_of}
use Rattle.cs_view.specs.Changes.{Edit, are_changes, LeadTo, before_changes, after_changes, changes_where}
use Rattle.cs_view.specs.Dataset.{ascending}
use Rattle.cs_view.specs.Laws.{ChangesLeadBackAndOn, FilterFollowsChanges}
use Rattle.cs_meaning.specs.Laws.{SimpleIsTailOfHits}
use Rattle.cs_meaning.specs.Hits.{hits, tail}
use Rattle.cs_plan.specs.Simple.{is_simple}
use Rattle.cs_view.proofs.Changed.{ascending-before_changes}
use Rattle.cs_hits.specs.Hits.{NoneIsNew}
use Rattle.cs_hits.proofs.Brought.{hits-after, hits-ascend}
use Rattle.cs_hits.proofs.Newly.{none-is-new}
use Rattle.cs_kept.specs.Fits.{FitsRows, RefreshesKept}
use Rattle.cs_kept.specs.Rows.{rows, is_row, AsksTheSame, IsSettled}
use Rattle.cs_kept.specs.declared.kept.Kept.TheVariants.{InRows}
use Rattle.cs_kept.specs.declared.rows.Rows.{Rows}

pub asks-on : (old cur new : Rows) → AsksTheSame old cur → AsksTheSame cur new → AsksTheSame old new
asks-on old cur new a b = record { query = b.query ∙ a.query; params = b.params ∙ a.params; codes = b.codes ∙ a.codes }

-- rows that fit the dataset before ascend
pub rows-ascend : (docs : List Tree) (cs : List Edit) → ascending docs ≡ true → (r : Rows) → FitsRows (before_changes docs cs) r → ascending (rows r) ≡ true
rows-ascend docs cs h r fits = hits-ascend docs cs h (expression_of r.query) (fields r.params) (rows r) fits.rows

-- and none of them is new
pub rows-new : (docs : List Tree) (cs : List Edit) → ascending docs ≡ true → are_changes cs ≡ true → LeadTo docs cs → ChangesLeadBackAndOn → (r : Rows) → FitsRows (before_changes docs cs) r → NoneIsNew cs (rows r)
rows-new docs cs h changes leads back r fits =
    subst (NoneIsNew cs) (sym fits.rows) (none-is-new (is_row r) (before_changes docs cs) (ascending-before_changes docs cs h) cs (back docs cs h changes leads).1)

-- rows that were refreshed fit the dataset after
pub rows-refreshed : SimpleIsTailOfHits → ChangesLeadBackAndOn → FilterFollowsChanges
    → (docs : List Tree) (cs : List Edit) → ascending docs ≡ true → are_changes cs ≡ true → LeadTo docs cs
    → (old new : Rows) → FitsRows (before_changes docs cs) old → rows new ≡ after_changes (rows old) (changes_where (is_row old) cs) → IsSettled new → AsksTheSame old new
    → RefreshesKept docs cs (InRows old) (InRows new)
rows-refreshed settles back follows docs cs h changes leads old new fits is settled asks =
    let e = expression_of old.query in let params = fields old.params in
    let here : rows new ≡ hits e params docs = hits-after back follows docs cs h changes leads e params (rows old) (rows new) fits.rows is in
    record {
      answers = record {
        query = asks.query;
        params = asks.params;
        last = settled.answered ∙ (λ i. tail (asks.query i) (asks.params i) (rows new)) ∙ ap (tail e params) here ∙ sym (settles e params docs fits.simple);
        fits = record {
          simple = subst (λ q. IsTrue (is_simple q)) (sym asks.query) fits.simple;
          rows = here ∙ (λ i. hits (sym asks.query i) (sym asks.params i) docs);
          settled = settled;
        };
      };
      records = tt;
    }
