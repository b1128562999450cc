-- What the tokens that reading takes are, goal by goal, and the parts of one step that gave an
-- expression.
use Rattle.std.proofs.Common.{◌≡◌, ℕ, List, [], ◌∷◌, ◌++◌, Option, Some, None, refl, sym, ap, ◌∙◌, subst, append_assoc, append-nil}
use Rattle.cs_grammar.specs.declared.level.Level.{Level}
use Rattle.cs_grammar.specs.declared.level.Level.TheVariants as level
use Rattle.cs_syntax.specs.declared.sign.Sign.{Sign}
use Rattle.cs_syntax.specs.declared.sign.Sign.TheVariants as sign
use Rattle.cs_syntax.specs.declared.tree.BinSign.{BinSign}
use Rattle.cs_syntax.specs.declared.tree.PreSign.{PreSign}
use Rattle.cs_syntax.specs.Expression.{Tok, sign_tok, Expression, call, array, object_literal, Step, deref, pipe, Entry, Element, Argument, OrderKey, entries_of, elements_of, arguments_of, keys_of, run_of, chain_of, prefix_of}
use Rattle.cs_grammar.specs.Spells.{AreCarets, IsExpr, IsAnd, IsCmp, IsSum, IsProd, IsNeg, IsPow, IsPre, IsChain, IsBase, AreElements, IsElement, AreArguments, IsArgument, AreSteps, IsStep, AreKeys, IsKey, AreEntries, IsEntry}
use Rattle.cs_grammar.specs.Reading.{Goal, expr, expr_from, conjunction, cmp, cmp_from, sum, product, run_from, neg_from, pow, pow_from, pre_from, link, base, carets_from, steps_from, arrow_from, bracket_from, pipe_from, keys_from, next_key, args_from, arg_from, next_arg, elements_from, next_element, entries_from, keyed_from, next_entry, Outcome, out, fail, got, bind, Oracle, match_after, expect, after}
use Rattle.cs_grammar.proofs.Behind.{after_is}

-- a first part and the rest
pub record Bound (x : Outcome) (k : Expression → List Tok →
    Outcome) (e : Expression) (r : List Tok) : Type 0 where
  pub tree : Expression
  pub rest : List Tok
  pub first : x ≡ got tree rest
  pub second : k tree rest ≡ got e r

pub bound : (x : Outcome) (k : Expression → List Tok → Outcome) {e : Expression} {r : List Tok} →
    bind x k ≡ got e r → Bound x k e r
bound out k h = absurd (cc)
bound fail k h = absurd (cc)
bound (got f s) k h = record { tree = f; rest = s; first = refl; second = h }

-- whether something stands first
pub data Split {A : Type 0} (x : Option A) (k : A →
    Outcome) (d : Outcome) (o : Outcome) : Type 0 where
  found : (r : A) → x ≡ Some r → k r ≡ o → Split x k d o
  missing : x ≡ None → d ≡ o → Split x k d o

pub split : {A : Type 0} (x : Option A) (k : A → Outcome) (d : Outcome) {o : Outcome} →
    match_after x k d ≡ o → Split x k d o
split (Some r) k d h = found r refl h
split None k d h = missing refl h

-- what must stand first
pub record Must {A : Type 0} (x : Option A) (k : A → Outcome) (o : Outcome) : Type 0 where
  pub value : A
  pub is : x ≡ Some value
  pub goes_on : k value ≡ o

pub must : {A : Type 0} (x : Option A) (k : A → Outcome) {e : Expression} {r : List Tok} →
    match_after x k fail ≡ got e r → Must x k (got e r)
must (Some v) k h = record { value = v; is = refl; goes_on = h }
must None k h = absurd (cc)

pub record Expected (s : Sign) (ts : List Tok) (k : List Tok →
    Outcome) (o : Outcome) : Type 0 where
  pub rest : List Tok
  pub is : ts ≡ sign_tok s ∷ rest
  pub goes_on : k rest ≡ o

pub expected : (s : Sign) (ts : List Tok) (k : List Tok →
    Outcome) {e : Expression} {r : List Tok} → expect s ts k ≡ got e r → Expected s ts k (got e r)
expected s ts k h =
    let m = must (after s ts) k h in
    record { rest = m.value; is = after_is s ts m.is; goes_on = m.goes_on }

pub got_tree : {e f : Expression} {r s : List Tok} → got e r ≡ got f s → e ≡ f
got_tree h = cc

pub got_rest : {e f : Expression} {r s : List Tok} → got e r ≡ got f s → r ≡ s
got_rest h = cc

-- the tokens ts are those of a, and then r
pub record Took (ts a r : List Tok) : Type 0 where
  pub is : ts ≡ a ++ r

infixr 5 ◌then◌
pub ◌then◌ : {ts s r a b : List Tok} → Took ts a s → Took s b r → Took ts (a ++ b) r
◌then◌ {r = r} {a = a} {b = b} p q =
    record { is = p.is ∙ ap (λ z. a ++ z) q.is ∙ sym (append_assoc a b r) }

pub one : {ts r : List Tok} {x : Tok} → ts ≡ x ∷ r → Took ts (x ∷ []) r
one h = record { is = h }

pub two : {ts r : List Tok} {x y : Tok} → ts ≡ x ∷ y ∷ r → Took ts (x ∷ y ∷ []) r
two h = record { is = h }

pub none : {ts r : List Tok} → ts ≡ r → Took ts [] r
none h = record { is = h }

-- the tokens spell a run that is the expression, and prefixes that are it behind those read before
pub record RunTree (P : List Tok → Expression → List (BinSign × Expression) →
    Type 0) (a : List Tok) (t : Expression) : Type 0 where
  pub first : Expression
  pub rest : List (BinSign × Expression)
  pub spelled : P a first rest
  pub is : t ≡ run_of first rest

pub record PrefixTree (P : List Tok → List PreSign → Expression →
    Type 0) (acc : List PreSign) (a : List Tok) (t : Expression) : Type 0 where
  pub signs : List PreSign
  pub operand : Expression
  pub spelled : P a signs operand
  pub is : t ≡ prefix_of (acc ++ signs) operand

-- the operands of `**` behind those read before
pub record MorePow (f : Expression) (acc : List (BinSign
    × Expression)) (a : List Tok) (t : Expression) : Type 0 where
  pub rest : List (BinSign × Expression)
  pub is : t ≡ run_of f (acc ++ rest)
  pub spelled : (b : List Tok) (ps : List PreSign) (g : Expression) → IsPre b ps g →
      IsPow (b ++ a) (prefix_of ps g) rest

-- the steps behind those read before, and those behind `->`
pub record MoreSteps (f : Expression) (acc : List Step) (a : List Tok) (t : Expression) : Type 0
  where
    pub steps : List Step
    pub spelled : AreSteps a steps
    pub is : t ≡ chain_of f (acc ++ steps)

pub record ArrowSteps (f : Expression) (acc : List Step) (a : List Tok) (t : Expression) : Type 0
  where
    pub steps : List Step
    pub spelled : AreSteps (sign_tok sign.Arrow ∷ a) (deref ∷ steps)
    pub is : t ≡ chain_of f (acc ++ steps)

-- the items of a list behind those read before, the sign that closes it, and what all of them give
pub record More {X : Type 0} (P : List Tok → List X → Type 0) (close : Sign) (Q : List X →
    List Tok → Type 0) (acc : List X) (a : List Tok) : Type 0 where
  pub items : List X
  pub inner : List Tok
  pub behind : List Tok
  pub closed : a ≡ inner ++ (sign_tok close ∷ behind)
  pub spelled : P inner items
  pub gives : Q (acc ++ items) behind

-- the same behind an item
pub record Next {X : Type 0} (I : List Tok → X → Type 0) (P : List Tok → List X →
    Type 0) (close : Sign) (Q : List X → List Tok →
    Type 0) (acc : List X) (a : List Tok) : Type 0 where
  pub items : List X
  pub behind : List Tok
  pub gives : Q (acc ++ items) behind
  pub spelled : (b : List Tok) (x : X) → I b x →
      (inner : List Tok) × (b ++ a ≡ inner ++ (sign_tok close ∷ behind)) × P inner (x ∷ items)

-- all items are read, and nothing behind them
pub record IsMade {X : Type 0} (made : List X →
    Expression) (t : Expression) (xs : List X) (behind : List Tok) : Type 0 where
  pub nothing : behind ≡ []
  pub is : t ≡ made xs

-- the relation of a run's level
abbrev pub IsRun : Level → List Tok → Expression → List (BinSign × Expression) → Type 0
IsRun level.Or = IsExpr
IsRun level.And = IsAnd
IsRun level.Sum = IsSum
IsRun level.Product = IsProd

abbrev pub MoreKeys : Expression → List Step → List ℕ → List OrderKey → List Tok → Expression →
    Type 0
MoreKeys e ss w acc a t =
    More AreKeys sign.CloseParen (λ ks b. MoreSteps e (ss ++ (pipe w (keys_of ks) ∷ [])) b t) acc a

abbrev pub NextKey : Expression → List Step → List ℕ → List OrderKey → List Tok → Expression →
    Type 0
NextKey e ss w acc a t =
    Next IsKey AreKeys sign.CloseParen (λ ks b. MoreSteps e (ss
    ++ (pipe w (keys_of ks) ∷ [])) b t) acc a

abbrev pub MoreArguments : List ℕ → List Argument → List Tok → Expression → Type 0
MoreArguments w acc a t =
    More AreArguments sign.CloseParen (IsMade (λ xs. call w (arguments_of xs)) t) acc a

abbrev pub NextArgument : List ℕ → List Argument → List Tok → Expression → Type 0
NextArgument w acc a t =
    Next IsArgument AreArguments sign.CloseParen (IsMade (λ xs. call w (arguments_of xs)) t) acc a

abbrev pub MoreElements : List Element → List Tok → Expression → Type 0
MoreElements acc a t =
    More AreElements sign.CloseBracket (IsMade (λ xs. array (elements_of xs)) t) acc a

abbrev pub NextElement : List Element → List Tok → Expression → Type 0
NextElement acc a t =
    Next IsElement AreElements sign.CloseBracket (IsMade (λ xs. array (elements_of xs)) t) acc a

abbrev pub MoreEntries : List Entry → List Tok → Expression → Type 0
MoreEntries acc a t =
    More AreEntries sign.CloseBrace (IsMade (λ xs. object_literal (entries_of xs)) t) acc a

abbrev pub NextEntry : List Entry → List Tok → Expression → Type 0
NextEntry acc a t =
    Next IsEntry AreEntries sign.CloseBrace (IsMade (λ xs. object_literal (entries_of xs)) t) acc a

-- what the tokens that were read spell
abbrev pub SoundFor : Goal → List Tok → Expression → Type 0
SoundFor expr a t = RunTree IsExpr a t
SoundFor (expr_from l) a t = (b : List Tok) → RunTree IsSum b l → RunTree IsExpr (b ++ a) t
SoundFor conjunction a t = RunTree IsAnd a t
SoundFor cmp a t = IsCmp a t
SoundFor (cmp_from l) a t = (b : List Tok) → RunTree IsSum b l → IsCmp (b ++ a) t
SoundFor sum a t = RunTree IsSum a t
SoundFor product a t = RunTree IsProd a t
SoundFor (run_from l f xs) a t = (b : List Tok) → IsRun l b f xs → RunTree (IsRun l) (b ++ a) t
SoundFor (neg_from acc) a t = PrefixTree IsNeg acc a t
SoundFor pow a t = RunTree IsPow a t
SoundFor (pow_from f acc) a t = MorePow f acc a t
SoundFor (pre_from acc) a t = PrefixTree IsPre acc a t
SoundFor link a t = IsChain a t
SoundFor base a t = IsBase a t
SoundFor (carets_from n) a t = (b : List Tok) → AreCarets b n → IsBase (b ++ a) t
SoundFor (steps_from f acc) a t = MoreSteps f acc a t
SoundFor (arrow_from f acc) a t = ArrowSteps f acc a t
SoundFor (bracket_from f acc) a t = MoreSteps f acc (sign_tok sign.OpenBracket ∷ a) t
SoundFor (pipe_from f acc) a t = MoreSteps f acc (sign_tok sign.Pipe ∷ a) t
SoundFor (keys_from e ss w acc) a t = MoreKeys e ss w acc a t
SoundFor (next_key e ss w acc) a t = NextKey e ss w acc a t
SoundFor (args_from w acc) a t = MoreArguments w acc a t
SoundFor (arg_from w acc l) a t = (b : List Tok) → RunTree IsExpr b l →
    MoreArguments w acc (b ++ a) t
SoundFor (next_arg w acc) a t = NextArgument w acc a t
SoundFor (elements_from acc) a t = MoreElements acc a t
SoundFor (next_element acc) a t = NextElement acc a t
SoundFor (entries_from acc) a t = MoreEntries acc a t
SoundFor (keyed_from acc l) a t = (b : List Tok) → RunTree IsExpr b l → MoreEntries acc (b ++ a) t
SoundFor (next_entry acc) a t = NextEntry acc a t

-- what reading from g gives is spelled by what it takes
pub record Sound (g : Goal) (ts : List Tok) (t : Expression) (r : List Tok) : Type 0 where
  pub taken : List Tok
  pub took : Took ts taken r
  pub fact : SoundFor g taken t

abbrev pub IsSound : Oracle → Type 0
IsSound f = (g : Goal) (ts : List Tok) (t : Expression) (r : List Tok) → f g ts ≡ got t r →
    Sound g ts t r

-- the same base, step, element, argument, entry under another expression that is equal to it
pub base_as : {a : List Tok} {e t : Expression} → e ≡ t → IsBase a e → IsBase a t
base_as {a = a} h k = subst (λ z. IsBase a z) h k

pub cmp_as : {a : List Tok} {e t : Expression} → e ≡ t → IsCmp a e → IsCmp a t
cmp_as {a = a} h k = subst (λ z. IsCmp a z) h k

pub step_as : {a : List Tok} {s t : Step} → s ≡ t → IsStep a s → IsStep a t
step_as {a = a} h k = subst (λ z. IsStep a z) h k

pub element_as : {a : List Tok} {s t : Element} → s ≡ t → IsElement a s → IsElement a t
element_as {a = a} h k = subst (λ z. IsElement a z) h k

pub argument_as : {a : List Tok} {s t : Argument} → s ≡ t → IsArgument a s → IsArgument a t
argument_as {a = a} h k = subst (λ z. IsArgument a z) h k

pub key_as : {a : List Tok} {s t : OrderKey} → s ≡ t → IsKey a s → IsKey a t
key_as {a = a} h k = subst (λ z. IsKey a z) h k

pub entry_as : {a : List Tok} {s t : Entry} → s ≡ t → IsEntry a s → IsEntry a t
entry_as {a = a} h k = subst (λ z. IsEntry a z) h k

-- how lists are put together: the last item, one before others, none
module _ {X : Type 0} (P : List Tok → List X → Type 0) (close : Sign) (Q : List X → List Tok →
    Type 0) where
  pub more_none : (acc : List X) (behind : List Tok) → P [] [] → Q acc behind →
      More P close Q acc (sign_tok close ∷ behind)
  more_none acc behind h q = record {
    items = [];
    inner = [];
    behind = behind;
    closed = refl;
    spelled = h;
    gives = subst (λ z. Q z behind) (sym (append-nil acc)) q;
  }

  module _ (I : List Tok → X → Type 0) where
    pub next_close : (acc : List X) (behind : List Tok) →
        ((b : List Tok) (x : X) → I b x → P b (x ∷ [])) → Q acc behind →
        Next I P close Q acc (sign_tok close ∷ behind)
    next_close acc behind last q = record {
      items = [];
      behind = behind;
      gives = subst (λ z. Q z behind) (sym (append-nil acc)) q;
      spelled = λ b x k. (b, refl, last b x k);
    }

    pub next_comma : (acc : List X) (a : List Tok) →
        ((b c : List Tok) (x : X) (xs : List X) → I b x → P c xs →
        P (b ++ (sign_tok sign.Comma ∷ c)) (x ∷ xs)) → More P close Q acc a →
        Next I P close Q acc (sign_tok sign.Comma ∷ a)
    next_comma acc a more m = record {
      items = m.items;
      behind = m.behind;
      gives = m.gives;
      spelled = λ b x k. (
        b ++ (sign_tok sign.Comma ∷ m.inner),
        ap (λ z. b ++ (sign_tok sign.Comma ∷ z)) m.closed
            ∙ sym (append_assoc b (sign_tok sign.Comma ∷ m.inner) (sign_tok close ∷ m.behind)),
        more b m.inner x m.items k m.spelled,
      );
    }

    pub more_item : (acc : List X) (x : X) (a b : List Tok) → I b x →
        Next I P close Q (acc ++ (x ∷ [])) a → More P close Q acc (b ++ a)
    more_item acc x a b k n =
        let s = n.spelled b x k in
        record {
          items = x ∷ n.items;
          inner = s.0;
          behind = n.behind;
          closed = s.1;
          spelled = s.2;
          gives = subst (λ z. Q z n.behind) (append_assoc acc (x ∷ []) n.items) n.gives;
        }

-- where nothing is behind the list, the sign that closes it stands last
pub all_closed : {X : Type 0} {P : List Tok → List X → Type 0} {close : Sign} {made : List X →
    Expression} {t : Expression} {acc : List X} {a : List Tok}
    (m : More P close (IsMade made t) acc a) → m.inner ++ (sign_tok close ∷ []) ≡ a
all_closed {close = close} m =
    sym (m.closed ∙ ap (λ z. m.inner ++ (sign_tok close ∷ z)) m.gives.nothing)
