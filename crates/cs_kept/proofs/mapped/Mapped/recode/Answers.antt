use Rattle.std.proofs.Common.{◌≡◌, ◌∙◌, ap, sym, ℕ, List, Vec, Global, subst}
use Rattle.std.proofs.lemmas.Slice.Eq.{bytes_eq-Decides}
use Rattle.cs_codes.specs.Codes.{is_among}
use Rattle.cs_codes.specs.declared.seed.Seed.{Seed}
use Rattle.cs_interest.specs.Interest.{Entered, Left}
use Rattle.cs_kept.specs.Found.{AreListed, IsCoded}
use Rattle.cs_hits.specs.Shares.{shares_looked}
use Rattle.cs_view.specs.declared.key.Key.{Key}
use Rattle.cs_kept.specs.declared.kept.Kept.TheVariants.{InShares}
use Rattle.cs_kept.specs.declared.mapped.Mapped.{Mapped}
use Rattle.cs_hits.specs.declared.share.Share.{Share}
use Rattle.cs_kept.proofs.Coded.{listed-still}
use Rattle.cs_kept.proofs.Found.{found-moved}
use Rattle.cs_kept.proofs.mapped.Mapped.recode.Goals as goal

pub returns-clause-found : goal.returns-clause-found
returns-clause-found c m h own told found =
    let i = c.args.interest.now in let j = c.leave.new.self in
    let old = c.args.self.now in
    let new : Mapped = record { query = old.query; params = old.params; last = old.last; own = old.own; shares = old.shares; codes = c.in_ok-codes.codes } in
    let seed : Seed = c.seed.result.now in
    let is : m.codes.items ≡ old.codes.items = ap (λ (v : Vec ℕ Global). v.items) h in
    let listed : AreListed seed old.own (shares_looked old.shares.items) c.in_ok-codes.codes.items
    = subst (λ (ss : List Share). AreListed seed old.own (shares_looked ss) c.in_ok-codes.codes.items) c.deref.ensures.value c.in_ok-codes.ensures in
    found-moved i j c.enter.new.self c.args.number (InShares m) (InShares new)
    (subst (λ (cs : List ℕ). Left c.args.number cs i j) (c.deref-2.ensures.value ∙ sym is) c.leave.ensures.left) c.leave.ensures.seed
    (subst (λ (cs : List ℕ). Entered c.args.number cs j c.enter.new.self) c.deref-3.ensures.value c.in_ok-enter.ensures.entered) c.enter.ensures.seed
    found
    (subst (λ (s : Seed). IsCoded s (InShares new)) c.seed.ensures listed)

pub returns-then-eq-clause-found : goal.returns-then-eq-clause-found
returns-then-eq-clause-found c m h own told found =
    let old = c.args.self.now in
    let new : Mapped = record { query = old.query; params = old.params; last = old.last; own = old.own; shares = old.shares; codes = old.codes } in
    let seed : Seed = c.seed.result.now in
    let lent : c.as_slice.result.now ≡ c.as_slice-2.result.now =
    (bytes_eq-Decides c.as_slice.result.now c.as_slice-2.result.now).0 (sym c.eq.ensures ∙ c.if-eq.true) in
    let same : c.in_ok-codes.codes.items ≡ old.codes.items = sym c.as_slice.ensures.value ∙ lent ∙ c.as_slice-2.ensures.value in
    let listed : AreListed seed old.own (shares_looked old.shares.items) old.codes.items
    = subst (λ (cs : List ℕ). AreListed seed old.own (shares_looked old.shares.items) cs) same
    (subst (λ (ss : List Share). AreListed seed old.own (shares_looked ss) c.in_ok-codes.codes.items) c.deref.ensures.value c.in_ok-codes.ensures) in
    record {
      stands = λ n. found.stands n ∙ ap (λ (v : Vec ℕ Global). is_among n v.items) h;
      coded = subst (λ (s : Seed). IsCoded s (InShares new)) c.seed.ensures listed;
    }

pub returns-then-not-moved-clause-found : goal.returns-then-not-moved-clause-found
returns-then-not-moved-clause-found c m h own told found =
    let seed = c.args.interest.now.seed in
    let old = c.args.self.now in
    let same = (told c.if-not-moved.true).1 in
    let were : AreListed seed old.own (shares_looked m.shares.items) old.codes.items
    = subst (λ (k : Key). AreListed seed k (shares_looked m.shares.items) old.codes.items) own
    (subst (λ (v : Vec ℕ Global). AreListed seed m.own (shares_looked m.shares.items) v.items) h found.coded) in
    record {
      stands = λ n. found.stands n ∙ ap (λ (v : Vec ℕ Global). is_among n v.items) h;
      coded = listed-still seed old.own (shares_looked old.shares.items) (shares_looked m.shares.items) old.codes.items same were;
    }
