-- What a reader of the code answers, beside what reading gives. For private clauses.
use Rattle.std.specs.Prelude.{◌≡◌, ℕ, List, [], ◌∷◌, ◌++◌, Option, Some, None, Result, Ok, Err, Vec, Box}
use Rattle.std.specs.Option.{option_map, option_and_then}
use Rattle.std.specs.declared.alloc.Global.{Global}
use Rattle.cs_syntax.specs.declared.sign.Sign.{Sign}
use Rattle.cs_syntax.specs.declared.sign.Sign.TheVariants as sign
use Rattle.cs_syntax.specs.declared.tree.Arg.{Arg}
use Rattle.cs_syntax.specs.declared.tree.Elem.{Elem}
use Rattle.cs_syntax.specs.declared.tree.Entry.{Entry as CodeEntry}
use Rattle.cs_syntax.specs.declared.tree.Expr.{Expr}
use Rattle.cs_syntax.specs.declared.tree.OrderKey.{OrderKey as CodeOrderKey}
use Rattle.cs_syntax.specs.declared.tree.Step.{Step as CodeStep}
use Rattle.cs_syntax.specs.Expression.{Tok, number_tok, text_tok, param_tok, word_tok, sign_tok, Expression, call, array, object_literal, pipe, deref, Step, Entry, Element, Argument, OrderKey, arguments_of, elements_of, entries_of, keys_of, chain_of}
use Rattle.cs_syntax.specs.View.{expression, step_of, entry_of, element_of, argument_of, order_key_of, entries, elements, arguments, keys}
use Rattle.cs_grammar.specs.declared.fault.GrammarFault.{GrammarFault}
use Rattle.cs_grammar.specs.declared.fault.GrammarFault.TheVariants.{Syntax, NoMemory}
use Rattle.cs_grammar.specs.View.{left}
use Rattle.cs_grammar.specs.Reading.{Goal, base, steps_from, arrow_from, bracket_from, pipe_from, keys_from, next_key, args_from, next_arg, elements_from, next_element, entries_from, next_entry, Outcome, fail, got, after, after_word, name_of_words, read_call, Gives, Reads}

-- Syntax where nothing is read; want of memory at any time
abbrev pub Refuses : GrammarFault → Type 0 → Type 0
Refuses Syntax p = p
Refuses NoMemory p = Unit {0}

abbrev pub Replies : {X : Type 0} → (X → Type 0) → Type 0 → Result X GrammarFault → Type 0
Replies found nothing (Ok x) = found x
Replies found nothing (Err e) = Refuses e nothing

abbrev pub Parsed : Type 0
Parsed = Box Expr Global × ℕ

-- what reading from the goal gives
abbrev pub Answers : Goal → List Tok → ℕ → Result Parsed GrammarFault → Type 0
Answers g ls i r =
    Replies (λ (x : Parsed). Reads g (left ls i) (got (expression x.0.value) (left ls x.1)))
    (Reads g (left ls i) fail) r

-- the base that begins with the word
abbrev pub AnswersWord : List ℕ → List Tok → ℕ → Result Parsed GrammarFault → Type 0
AnswersWord w ls i r = Replies
    (λ (x : Parsed). Reads base (word_tok w ∷ left ls i)
    (got (expression x.0.value) (left ls x.1)))
    (Reads base (word_tok w ∷ left ls i) fail) r

-- the base that begins with the sign
abbrev pub AnswersSign : Sign → List Tok → ℕ → Result Parsed GrammarFault → Type 0
AnswersSign s ls i r = Replies
    (λ (x : Parsed). Reads base (sign_tok s ∷ left ls i)
    (got (expression x.0.value) (left ls x.1)))
    (Reads base (sign_tok s ∷ left ls i) fail) r

-- behind the bracket that opens a call of the name
abbrev pub AnswersCall : List ℕ → List Tok → ℕ → Result Parsed GrammarFault → Type 0
AnswersCall w ls i r = Replies
    (λ (x : Parsed). Gives (λ f. read_call f w (left ls i))
    (got (expression x.0.value) (left ls x.1)))
    (Gives (λ f. read_call f w (left ls i)) fail) r

abbrev pub AnswersArgs : List Tok → ℕ → Result (Vec Arg Global × ℕ) GrammarFault → Type 0
AnswersArgs ls i r = Replies
    (λ (x : Vec Arg Global × ℕ). (w : List ℕ) →
    Reads (args_from w []) (left ls i)
    (got (call w (arguments_of (arguments x.0.items))) (left ls x.1)))
    ((w : List ℕ) → Reads (args_from w []) (left ls i) fail) r

-- one argument, whatever is read behind it
abbrev pub AnswersArg : List Tok → ℕ → Result (Arg × ℕ) GrammarFault → Type 0
AnswersArg ls i r = Replies
    (λ (x : Arg × ℕ). (w : List ℕ) (xs : List Argument) (o : Outcome) →
    Reads (next_arg w (xs ++ (argument_of x.0 ∷ []))) (left ls x.1) o →
    Reads (args_from w xs) (left ls i) o)
    ((w : List ℕ) (xs : List Argument) → Reads (args_from w xs) (left ls i) fail) r

abbrev pub AnswersElements : List Tok → ℕ → Result (Vec Elem Global × ℕ) GrammarFault → Type 0
AnswersElements ls i r = Replies
    (λ (x : Vec Elem Global × ℕ). Reads (elements_from []) (left ls i)
    (got (array (elements_of (elements x.0.items))) (left ls x.1)))
    (Reads (elements_from []) (left ls i) fail) r

-- one element, whatever is read behind it
abbrev pub AnswersElement : List Tok → ℕ → Result (Elem × ℕ) GrammarFault → Type 0
AnswersElement ls i r = Replies
    (λ (x : Elem × ℕ). (xs : List Element) (o : Outcome) →
    after sign.CloseBracket (left ls i) ≡ None →
    Reads (next_element (xs ++ (element_of x.0 ∷ []))) (left ls x.1) o →
    Reads (elements_from xs) (left ls i) o)
    ((xs : List Element) → after sign.CloseBracket (left ls i) ≡ None →
    Reads (elements_from xs) (left ls i) fail) r

abbrev pub AnswersEntries : List Tok → ℕ → Result (Vec CodeEntry Global × ℕ) GrammarFault → Type 0
AnswersEntries ls i r = Replies
    (λ (x : Vec CodeEntry Global × ℕ). Reads (entries_from []) (left ls i)
    (got (object_literal (entries_of (entries x.0.items))) (left ls x.1)))
    (Reads (entries_from []) (left ls i) fail) r

-- one entry, whatever is read behind it
abbrev pub AnswersEntry : List Tok → ℕ → Result (CodeEntry × ℕ) GrammarFault → Type 0
AnswersEntry ls i r = Replies
    (λ (x : CodeEntry × ℕ). (xs : List Entry) (o : Outcome) →
    after sign.CloseBrace (left ls i) ≡ None →
    Reads (next_entry (xs ++ (entry_of x.0 ∷ []))) (left ls x.1) o →
    Reads (entries_from xs) (left ls i) o)
    ((xs : List Entry) → after sign.CloseBrace (left ls i) ≡ None →
    Reads (entries_from xs) (left ls i) fail) r

-- behind `...` where an entry stands
abbrev pub AnswersSpread : List Tok → ℕ → Result (CodeEntry × ℕ) GrammarFault → Type 0
AnswersSpread ls i r = Replies
    (λ (x : CodeEntry × ℕ). (ts : List Tok) (xs : List Entry) (o : Outcome) →
    after sign.DotDotDot ts ≡ Some (left ls i) →
    Reads (next_entry (xs ++ (entry_of x.0 ∷ []))) (left ls x.1) o → Reads (entries_from xs) ts o)
    ((ts : List Tok) (xs : List Entry) → after sign.DotDotDot ts ≡ Some (left ls i) →
    Reads (entries_from xs) ts fail) r

-- behind `->`: the steps with it, and with the attribute that stands there
abbrev pub AnswersArrow : List Step → List Tok → ℕ → List Step → ℕ → Type 0
AnswersArrow before ls i steps j = (e : Expression) (o : Outcome) →
    Reads (steps_from e steps) (left ls j) o →
    Reads (arrow_from e (before ++ (deref ∷ []))) (left ls i) o

-- one more step of a chain, or the end of the chain
abbrev pub IsStepOrEnd : List Tok → ℕ → Option (CodeStep × ℕ) → Type 0
IsStepOrEnd ls i (Some x) = (e : Expression) (ss : List Step) (o : Outcome) →
    Reads (steps_from e (ss ++ (step_of x.0 ∷ []))) (left ls x.1) o →
    Reads (steps_from e ss) (left ls i) o
IsStepOrEnd ls i None = (e : Expression) (ss : List Step) → after sign.Arrow (left ls i) ≡ None →
    Reads (steps_from e ss) (left ls i) (got (chain_of e ss) (left ls i))

abbrev pub AnswersStep : List Tok → ℕ → Result (Option (CodeStep × ℕ)) GrammarFault → Type 0
AnswersStep ls i r = Replies (IsStepOrEnd ls i) ((e : Expression) (ss : List Step) →
    Reads (steps_from e ss) (left ls i) fail) r

-- behind the bracket that opens a step, and behind `|`: whatever is read behind the step
abbrev pub AnswersPart : (Expression → List Step → Goal) → List Tok → ℕ →
    Result (CodeStep × ℕ) GrammarFault → Type 0
AnswersPart g ls i r = Replies
    (λ (x : CodeStep × ℕ). (e : Expression) (ss : List Step) (o : Outcome) →
    Reads (steps_from e (ss ++ (step_of x.0 ∷ []))) (left ls x.1) o →
    Reads (g e ss) (left ls i) o)
    ((e : Expression) (ss : List Step) → Reads (g e ss) (left ls i) fail) r

abbrev pub AnswersBracket : List Tok → ℕ → Result (CodeStep × ℕ) GrammarFault → Type 0
AnswersBracket = AnswersPart bracket_from

abbrev pub AnswersPipe : List Tok → ℕ → Result (CodeStep × ℕ) GrammarFault → Type 0
AnswersPipe = AnswersPart pipe_from

-- the name that stands first, and the tokens behind it: a word, or two joined by `::`
abbrev pub after_colons : List ℕ → List Tok → Option (List Tok) → Option (List ℕ × List Tok)
after_colons w r (Some s) = option_map (λ x. (name_of_words w x.0, x.1)) (after_word s)
after_colons w r None = Some (w, r)

abbrev pub after_name : List Tok → Option (List ℕ × List Tok)
after_name ts =
    option_and_then (λ x. after_colons x.0 x.1 (after sign.ColonColon x.1)) (after_word ts)

abbrev pub AnswersName : List Tok → ℕ → Result (List ℕ × ℕ) GrammarFault → Type 0
AnswersName ls i r =
    Replies (λ (x : List ℕ × ℕ). after_name (left ls i)
    ≡ Some (x.0, left ls x.1)) (after_name (left ls i) ≡ None) r

-- the text that is a key before a colon, and the tokens behind the colon
abbrev pub after_key : List Tok → Option (List ℕ × List Tok)
after_key [] = None
after_key (number_tok n ∷ r) = None
after_key (text_tok t ∷ r) = option_map (λ s. (t, s)) (after sign.Colon r)
after_key (param_tok p ∷ r) = None
after_key (word_tok w ∷ r) = None
after_key (sign_tok s ∷ r) = None

-- the keys of a piped call, whatever is read behind the bracket that closes
abbrev pub AnswersKeys : List Tok → ℕ → Result (Vec CodeOrderKey Global × ℕ) GrammarFault → Type 0
AnswersKeys ls i r = Replies
    (λ (x : Vec CodeOrderKey Global × ℕ). (e : Expression) (ss : List Step) (w : List ℕ)
    (o : Outcome) →
    Reads (steps_from e (ss ++ (pipe w (keys_of (keys x.0.items)) ∷ []))) (left ls x.1) o →
    Reads (keys_from e ss w []) (left ls i) o)
    ((e : Expression) (ss : List Step) (w : List ℕ) →
    Reads (keys_from e ss w []) (left ls i) fail) r

-- one key, whatever is read behind it
abbrev pub AnswersKey : List Tok → ℕ → Result (CodeOrderKey × ℕ) GrammarFault → Type 0
AnswersKey ls i r = Replies
    (λ (x : CodeOrderKey × ℕ). (e : Expression) (ss : List Step) (w : List ℕ) (ks : List OrderKey)
    (o : Outcome) →
    Reads (next_key e ss w (ks ++ (order_key_of x.0 ∷ []))) (left ls x.1) o →
    Reads (keys_from e ss w ks) (left ls i) o)
    ((e : Expression) (ss : List Step) (w : List ℕ) (ks : List OrderKey) →
    Reads (keys_from e ss w ks) (left ls i) fail) r
