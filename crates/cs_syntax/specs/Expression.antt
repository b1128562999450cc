-- Expressions and tokens without where they lie in memory: GROQ-1.revision1 "Syntax" and
-- "Expressions", as this project's profile has them. Each constructor is a variant of the code's
-- trees, and the lists inside a tree are families of their own.
use Rattle.std.specs.Prelude.{ℕ, List, [], ◌∷◌, Bool}
use Rattle.cs_syntax.specs.declared.sign.Sign.{Sign}
use Rattle.cs_syntax.specs.declared.tree.BinSign.{BinSign}
use Rattle.cs_syntax.specs.declared.tree.PreSign.{PreSign}

-- a token: a number as written, a text with its escapes read, the name of a parameter, a word, a
-- sign
pub data Tok : Type 0 where
  number_tok : List ℕ → Tok
  text_tok : List ℕ → Tok
  param_tok : List ℕ → Tok
  word_tok : List ℕ → Tok
  sign_tok : Sign → Tok

mutual
  pub data Expression : Type 0 where
    null_literal : Expression
    bool_literal : Bool → Expression
    number_literal : List ℕ → Expression
    text_literal : List ℕ → Expression
    param : List ℕ → Expression
    word : List ℕ → Expression
    this : Expression
    everything : Expression
    parent : ℕ → Expression
    round : Expression → Expression
    call : List ℕ → Arguments → Expression
    array : Elements → Expression
    object_literal : Entries → Expression
    chain : Expression → Steps → Expression
    prefix : List PreSign → Expression → Expression
    run : Expression → Operands → Expression
    within : Expression → Expression → Expression
    between : Expression → Expression → Expression → Bool → Expression

  -- operators, each with its right operand
  pub data Operands : Type 0 where
    no_operands : Operands
    more_operands : BinSign → Expression → Operands → Operands

  pub data Step : Type 0 where
    attr : List ℕ → Step
    deref : Step
    each : Step
    slice : Expression → Expression → Bool → Step
    bracket : Expression → Step
    project : Entries → Step
    pipe : List ℕ → OrderKeys → Step

  pub data Steps : Type 0 where
    no_steps : Steps
    more_steps : Step → Steps → Steps

  pub data Entry : Type 0 where
    keyed : List ℕ → Expression → Entry
    bare : Expression → Entry
    when : Expression → Expression → Entry
    spread : Expression → Entry

  pub data Entries : Type 0 where
    no_entries : Entries
    more_entries : Entry → Entries → Entries

  pub data Element : Type 0 where
    element : Expression → Element
    spread_element : Expression → Element

  pub data Elements : Type 0 where
    no_elements : Elements
    more_elements : Element → Elements → Elements

  pub data Argument : Type 0 where
    argument : Expression → Argument
    when_argument : Expression → Expression → Argument

  pub data Arguments : Type 0 where
    no_arguments : Arguments
    more_arguments : Argument → Arguments → Arguments

  -- a key of `order`, and whether it is descending
  pub data OrderKey : Type 0 where
    order_key : Expression → Bool → OrderKey

  pub data OrderKeys : Type 0 where
    no_keys : OrderKeys
    more_keys : OrderKey → OrderKeys → OrderKeys

abbrev pub operands_of : List (BinSign × Expression) → Operands
operands_of [] = no_operands
operands_of (x ∷ xs) = more_operands x.0 x.1 (operands_of xs)

abbrev pub steps_of : List Step → Steps
steps_of [] = no_steps
steps_of (s ∷ ss) = more_steps s (steps_of ss)

abbrev pub entries_of : List Entry → Entries
entries_of [] = no_entries
entries_of (x ∷ xs) = more_entries x (entries_of xs)

abbrev pub elements_of : List Element → Elements
elements_of [] = no_elements
elements_of (x ∷ xs) = more_elements x (elements_of xs)

abbrev pub arguments_of : List Argument → Arguments
arguments_of [] = no_arguments
arguments_of (x ∷ xs) = more_arguments x (arguments_of xs)

abbrev pub keys_of : List OrderKey → OrderKeys
keys_of [] = no_keys
keys_of (k ∷ ks) = more_keys k (keys_of ks)

-- an expression is itself where no operator, step or prefix stands beside it
abbrev pub run_of : Expression → List (BinSign × Expression) → Expression
run_of e [] = e
run_of e (x ∷ xs) = run e (operands_of (x ∷ xs))

abbrev pub chain_of : Expression → List Step → Expression
chain_of e [] = e
chain_of e (s ∷ ss) = chain e (steps_of (s ∷ ss))

abbrev pub prefix_of : List PreSign → Expression → Expression
prefix_of [] e = e
prefix_of (p ∷ ps) e = prefix (p ∷ ps) e
