-- How outcomes that enough steps give are put together.
use Rattle.std.proofs.Common.{◌≡◌, ℕ, zero, suc, ◌+◌, ◌≤◌, List, Option, Some, None, refl, sym, ap, ◌∙◌, arith}
use Rattle.cs_syntax.specs.Expression.{Tok, Expression}
use Rattle.cs_grammar.specs.Reading.{Goal, Outcome, fail, got, bind, Oracle, match_after, read_goal, read, Gives, Reads}

pub by_const : (o : Outcome) → Gives (λ f. o) o
by_const o = record { enough = 0; from = λ n h. refl }

pub by_call : {g : Goal} {ts : List Tok} {o : Outcome} → Reads g ts o → Gives (λ f. f g ts) o
by_call r = r.given

pub by_bind : {φ : Oracle → Outcome} (k : Oracle → Expression → List Tok →
    Outcome) {e : Expression} {r : List Tok} {o : Outcome} →
    Gives φ (got e r) → Gives (λ f. k f e r) o → Gives (λ f. bind (φ f) (k f)) o
by_bind k a b = record {
  enough = a.enough + b.enough;
  from = λ n h. ap (λ x. bind x (k (read n))) (a.from n (omega arith)) ∙ b.from n (omega arith);
}

pub by_fail : {φ : Oracle → Outcome} (k : Oracle → Expression → List Tok → Outcome) →
    Gives φ fail → Gives (λ f. bind (φ f) (k f)) fail
by_fail k a =
    record { enough = a.enough; from = λ n h. ap (λ x. bind x (k (read n))) (a.from n h) }

pub by_some : {A : Type 0} (k : Oracle → A → Outcome) (d : Oracle →
    Outcome) {x : Option A} {r : A} {o : Outcome} →
    x ≡ Some r → Gives (λ f. k f r) o → Gives (λ f. match_after x (k f) (d f)) o
by_some k d e b =
    record {
      enough = b.enough;
      from = λ n h. ap (λ y. match_after y (k (read n)) (d (read n))) e
          ∙ b.from n h;
    }

pub by_none : {A : Type 0} (k : Oracle → A → Outcome) (d : Oracle →
    Outcome) {x : Option A} {o : Outcome} →
    x ≡ None → Gives d o → Gives (λ f. match_after x (k f) (d f)) o
by_none k d e b =
    record {
      enough = b.enough;
      from = λ n h. ap (λ y. match_after y (k (read n)) (d (read n))) e
          ∙ b.from n h;
    }

read_of_step : (g : Goal) (ts : List Tok) (o : Outcome) (m : ℕ) →
    ((n : ℕ) → m ≤ n → read_goal (read n) g ts ≡ o) → (n : ℕ) → m + 1 ≤ n → read n g ts ≡ o
unfolding read
read_of_step g ts o m all zero h = absurd (omega arith)
read_of_step g ts o m all (suc n) h = all n (omega arith)

pub by_step : {g : Goal} {ts : List Tok} {o : Outcome} → Gives (λ f. read_goal f g ts) o → Reads g ts o
by_step {g = g} {ts = ts} {o = o} a =
    record { given = record { enough = a.enough + 1; from = read_of_step g ts o a.enough a.from } }

pub same_outcome : {g : Goal} {ts : List Tok} {o p : Outcome} → Reads g ts o → Reads g ts p → o ≡ p
same_outcome a b =
    sym (a.given.from (a.given.enough + b.given.enough) (omega arith))
    ∙ b.given.from (a.given.enough + b.given.enough) (omega arith)
