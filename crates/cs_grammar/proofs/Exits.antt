-- What the exits of a reader answer.
use Rattle.std.proofs.Common.{◌≡◌, ◌≢◌, ◌+◌, suc, arith, ℕ, List, [], ◌∷◌, ◌++◌, Option, Some, None, Result, Ok, Err, refl, sym, subst, true≢false}
use Rattle.std.specs.Prelude.{IsErrAnd, IsSome, IsTrue, false}
use Rattle.cs_syntax.specs.declared.sign.Sign.{Sign}
use Rattle.cs_syntax.specs.declared.sign.Sign.TheVariants as sign
use Rattle.cs_syntax.specs.Expression.{Tok, sign_tok, Expression}
use Rattle.cs_syntax.specs.View.{expression}
use Rattle.cs_grammar.specs.declared.fault.GrammarFault.{GrammarFault}
use Rattle.cs_grammar.specs.declared.fault.GrammarFault.TheVariants.{Syntax, NoMemory}
use Rattle.cs_grammar.specs.View.{left}
use Rattle.cs_grammar.specs.Reading.{Goal, base, carets_from, after_caret, Outcome, fail, got, Oracle, Gives, Reads}
use Rattle.cs_grammar.proofs.Steps.{begins_base, reads_caret, reads_no_base}
use Rattle.cs_grammar.specs.Answers.{Refuses, Replies, Parsed, Answers}

refuses_as : {M N : Type 0} (e : GrammarFault) → (N → M) → Refuses e N → Refuses e M
refuses_as Syntax f h = f h
refuses_as NoMemory f h = tt

-- a fault of a callee is handed on
pub passed : {X : Type 0} (found : X →
    Type 0) {M N : Type 0} (r : Result X GrammarFault) (e : GrammarFault) →
    IsErrAnd r (λ y. y ≡ e) → (N → M) → Refuses e N → Replies found M r
passed found (Ok x) e is f h = absurd is
passed found {M = M} (Err y) e is f h = subst (λ z. Refuses z M) (sym is) (refuses_as e f h)

-- what a callee answers is answered
pub answers_as : {g h : Goal} (ls : List Tok) (i j : ℕ) (r : Result Parsed GrammarFault) →
    ((o : Outcome) → Reads g (left ls i) o → Reads h (left ls j) o) → Answers g ls i r →
    Answers h ls j r
answers_as ls i j (Ok x) f k = f _ k
answers_as ls i j (Err e) f k = refuses_as e (f fail) k

-- what a part of a step of reading gives, at what the goal reads
pub gives_as : (φ : Oracle →
    Outcome) (g : Goal) (ts : List Tok) (ls : List Tok) (r : Result Parsed GrammarFault) →
    ((o : Outcome) → Gives φ o → Reads g ts o) →
    Replies (λ (x : Parsed). Gives φ (got (expression x.0.value) (left ls x.1))) (Gives φ fail) r →
    Replies (λ (x : Parsed). Reads g ts (got (expression x.0.value) (left ls x.1)))
    (Reads g ts fail) r
gives_as φ g ts ls (Ok x) f k = f _ k
gives_as φ g ts ls (Err e) f k = refuses_as e (f fail) k

-- an expression that was made, at what it stands for
pub got_as : {g : Goal} {ts r : List Tok} {t u : Expression} → t ≡ u → Reads g ts (got u r) →
    Reads g ts (got t r)
got_as {g = g} {ts = ts} {r = r} h k = subst (λ z. Reads g ts (got z r)) (sym h) k

pub gives_got : {φ : Oracle → Outcome} {r : List Tok} {t u : Expression} → t ≡ u →
    Gives φ (got u r) → Gives φ (got t r)
gives_got {φ = φ} {r = r} h k = subst (λ z. Gives φ (got z r)) (sym h) k

-- the last member that was made, at what it stands for
pub with_last : {A : Type 0} (g : List A →
    Goal) (xs : List A) {s t : A} {ts : List Tok} {o : Outcome} → s ≡ t →
    Reads (g (xs ++ (s ∷ []))) ts o → Reads (g (xs ++ (t ∷ []))) ts o
with_last g xs {ts = ts} {o = o} h k = subst (λ z. Reads (g (xs ++ (z ∷ []))) ts o) h k

pub none_found : {A : Type 0} (x : Option A) → (IsSome x → IsTrue false) → x ≡ None
none_found None h = refl
none_found (Some k) h = absurd (true≢false (sym (h refl)))

pub some_found : {A : Type 0} (x : Option A) → IsSome x → (k : A) × (x ≡ Some k)
some_found None h = absurd (true≢false (sym h))
some_found (Some k) h = (k, refl)

-- one caret more, counted as the code counts
pub reads_caret_more : (n : ℕ) {ts r : List Tok} {o : Outcome} → after_caret ts ≡ Some r →
    Reads (carets_from (n + 1)) r o → Reads (carets_from n) ts o
reads_caret_more n {r = r} {o = o} h k =
    let e : n + 1 ≡ suc n = omega arith in
    reads_caret h (subst (λ z. Reads (carets_from z) r o) e k)

-- a sign with which no base begins
other_sign : (s : Sign) → s ≢ sign.At → s ≢ sign.Star → s ≢ sign.Caret → s ≢ sign.OpenParen →
    s ≢ sign.OpenBracket → s ≢ sign.OpenBrace → begins_base s ≡ false
other_sign sign.At a b c d e f = absurd (a refl)
other_sign sign.Star a b c d e f = absurd (b refl)
other_sign sign.Caret a b c d e f = absurd (c refl)
other_sign sign.OpenParen a b c d e f = absurd (d refl)
other_sign sign.OpenBracket a b c d e f = absurd (e refl)
other_sign sign.OpenBrace a b c d e f = absurd (f refl)
other_sign _ a b c d e f = refl

pub reads_other_sign : (s : Sign) (r : List Tok) → s ≢ sign.At → s ≢ sign.Star → s ≢ sign.Caret →
    s ≢ sign.OpenParen → s ≢ sign.OpenBracket → s ≢ sign.OpenBrace →
    Reads base (sign_tok s ∷ r) fail
reads_other_sign s r a b c d e f = reads_no_base s refl (other_sign s a b c d e f)
