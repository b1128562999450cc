-- The trees of small texts, computed: each sign, operator, step and entry once at least, as another
-- reader of the language has them.
use Rattle.std.proofs.Common.{◌≡◌, ℕ, List, [], ◌∷◌, true, false, Option, Some, None, refl}
use Rattle.std.specs.Prelude.{codes}
use Rattle.cs_syntax.specs.declared.tree.BinSign.TheVariants as op
use Rattle.cs_syntax.specs.declared.tree.PreSign.TheVariants as pre
use Rattle.cs_syntax.specs.Expression.{Expression, null_literal, bool_literal, number_literal, text_literal, param, word, this, everything, parent, round, call, array, object_literal, chain, prefix, run, within, between, attr, deref, each, slice, bracket, project, pipe, keyed, bare, when, spread, element, spread_element, argument, when_argument, order_key, operands_of, steps_of, entries_of, elements_of, arguments_of, keys_of, no_arguments, no_entries, no_elements}
use Rattle.cs_syntax.specs.Lex.{meanings}
use Rattle.cs_grammar.specs.Reading.{read}
use Rattle.cs_parse.specs.Spelling.{expression_in}
use Rattle.cs_parse.specs.Tokens.{Lexing, lexed, no_token_at, lexing, tokens_from}
use Rattle.cs_parse.specs.Verdict.{query, verdict}

-- the tree of a text also where it has a fault
abbrev tree_in : List ℕ → Lexing → Option Expression
tree_in text (lexed ts) = expression_in (meanings text ts)
tree_in text (no_token_at at) = None

abbrev tree : List ℕ → Option Expression
tree text = tree_in text (lexing text)

constants : verdict (codes "[null, true, false, 10, 'a']") ≡ query
    (array (elements_of (element null_literal ∷ element (bool_literal true) ∷ element
    (bool_literal false) ∷ element (number_literal (codes "10")) ∷ element (text_literal (codes
    "a")) ∷ [])))
unfolding verdict tokens_from expression_in read
constants = refl

prefixes : verdict (codes "!a && !!+b") ≡ query
    (run (prefix (pre.Not ∷ []) (word (codes "a"))) (operands_of ((
      op.And,
      prefix (pre.Not ∷
          pre.Not ∷ pre.Plus ∷ []) (word (codes "b")),
    ) ∷ [])))
unfolding verdict tokens_from expression_in read
prefixes = refl

minuses : verdict (codes "--1 - -+2") ≡ query
    (run (prefix (pre.Minus ∷ pre.Minus ∷ []) (number_literal (codes "1"))) (operands_of ((
      op.Sub,
      prefix (pre.Minus ∷ []) (prefix (pre.Plus ∷ []) (number_literal (codes "2"))),
    ) ∷ [])))
unfolding verdict tokens_from expression_in read
minuses = refl

levels : verdict (codes "a || b && c == d + e * -f") ≡ query
    (run (word (codes "a")) (operands_of ((
      op.Or,
      run (word (codes "b")) (operands_of ((
        op.And,
        run (word (codes "c")) (operands_of ((
          op.Eq,
          run (word (codes "d")) (operands_of ((
            op.Add,
            run
                (word (codes "e"))
                (operands_of ((op.Mul, prefix (pre.Minus ∷ []) (word (codes "f"))) ∷ [])),
          )
              ∷ [])),
        ) ∷ [])),
      ) ∷ [])),
    ) ∷ [])))
unfolding verdict tokens_from expression_in read
levels = refl

sums : verdict (codes "a + b - c") ≡ query
    (run (word (codes "a")) (operands_of ((op.Add, word (codes "b")) ∷ (op.Sub, word (codes "c"))
    ∷ [])))
unfolding verdict tokens_from expression_in read
sums = refl

products : verdict (codes "a * b % c") ≡ query
    (run (word (codes "a")) (operands_of ((op.Mul, word (codes "b")) ∷ (op.Rem, word (codes "c"))
    ∷ [])))
unfolding verdict tokens_from expression_in read
products = refl

division : tree (codes "a + b / c") ≡ Some
    (run (word (codes "a")) (operands_of ((
      op.Add,
      run (word (codes "b")) (operands_of ((
        op.Div,
        word (codes "c"),
      ) ∷ [])),
    ) ∷ [])))
unfolding tokens_from expression_in read
division = refl

powers : tree (codes "a ** b ** c") ≡ Some
    (run (word (codes "a")) (operands_of ((op.Pow, word (codes "b")) ∷ (op.Pow, word (codes "c"))
    ∷ [])))
unfolding tokens_from expression_in read
powers = refl

equal : verdict (codes "a == (b != c)") ≡ query
    (run (word (codes "a")) (operands_of ((
      op.Eq,
      round (run (word (codes "b")) (operands_of
          ((op.Ne, word (codes "c")) ∷ []))),
    ) ∷ [])))
unfolding verdict tokens_from expression_in read
equal = refl

below : verdict (codes "(a < b) == (c <= d)") ≡ query
    (run (round (run (word (codes "a")) (operands_of ((op.Lt, word (codes "b")) ∷ []))))
    (operands_of ((
      op.Eq,
      round (run (word (codes "c")) (operands_of ((op.Le, word (codes "d")) ∷
          []))),
    ) ∷ [])))
unfolding verdict tokens_from expression_in read
below = refl

above : verdict (codes "(a > b) == (c >= d)") ≡ query
    (run (round (run (word (codes "a")) (operands_of ((op.Gt, word (codes "b")) ∷ []))))
    (operands_of ((
      op.Eq,
      round (run (word (codes "c")) (operands_of ((op.Ge, word (codes "d")) ∷
          []))),
    ) ∷ [])))
unfolding verdict tokens_from expression_in read
above = refl

matches : tree (codes "a match 'b*'") ≡ Some
    (run (word (codes "a")) (operands_of ((op.Match, text_literal (codes "b*")) ∷ [])))
unfolding tokens_from expression_in read
matches = refl

in_list : verdict (codes "a in b") ≡ query
    (within (word (codes "a")) (word (codes "b")))
unfolding verdict tokens_from expression_in read
in_list = refl

closed_range : verdict (codes "a in 1..2") ≡ query
    (between (word (codes "a")) (number_literal (codes "1")) (number_literal (codes "2")) true)
unfolding verdict tokens_from expression_in read
closed_range = refl

open_range : verdict (codes "a in b...-1") ≡ query
    (between (word (codes "a")) (word (codes "b")) (prefix (pre.Minus ∷ []) (number_literal (codes
    "1"))) false)
unfolding verdict tokens_from expression_in read
open_range = refl

parameter : verdict (codes "$p.a") ≡ query
    (chain (param (codes "p")) (steps_of (attr (codes "a") ∷ [])))
unfolding verdict tokens_from expression_in read
parameter = refl

parents : verdict (codes "^.^.^._id") ≡ query
    (chain (parent 3) (steps_of (attr (codes "_id") ∷ [])))
unfolding verdict tokens_from expression_in read
parents = refl

parent_alone : verdict (codes "^[^.a]") ≡ query
    (chain (parent 1) (steps_of (bracket (chain (parent 1) (steps_of (attr (codes "a") ∷ []))) ∷
    [])))
unfolding verdict tokens_from expression_in read
parent_alone = refl

this_alone : verdict (codes "@.a[@ > 1]") ≡ query
    (chain this (steps_of (attr (codes "a") ∷ bracket (run this (operands_of ((
      op.Gt,
      number_literal (codes "1"),
    ) ∷ []))) ∷ [])))
unfolding verdict tokens_from expression_in read
this_alone = refl

dereferences : verdict (codes "a->b->.c-> == d") ≡ query
    (run (chain (word (codes "a")) (steps_of (deref ∷ attr (codes "b") ∷ deref ∷ attr (codes "c")
    ∷ deref ∷ []))) (operands_of ((op.Eq, word (codes "d")) ∷ [])))
unfolding verdict tokens_from expression_in read
dereferences = refl

arrow_before_in : verdict (codes "a->in [1]") ≡ query
    (within (chain (word (codes "a")) (steps_of (deref ∷ []))) (array (elements_of (element
    (number_literal (codes "1")) ∷ []))))
unfolding verdict tokens_from expression_in read
arrow_before_in = refl

each_item : verdict (codes "a[].b[]") ≡ query
    (chain (word (codes "a")) (steps_of (each ∷ attr (codes "b") ∷ each ∷ [])))
unfolding verdict tokens_from expression_in read
each_item = refl

last_element : verdict (codes "*[-1]") ≡ query
    (chain everything (steps_of (bracket (prefix (pre.Minus ∷ []) (number_literal (codes "1"))) ∷
    [])))
unfolding verdict tokens_from expression_in read
last_element = refl

element_from_front : verdict (codes "a[0]['b']") ≡ query
    (chain (word (codes "a")) (steps_of (bracket (number_literal (codes "0")) ∷ bracket
    (text_literal (codes "b")) ∷ [])))
unfolding verdict tokens_from expression_in read
element_from_front = refl

closed_slice : verdict (codes "*[0..-2]") ≡ query
    (chain everything (steps_of (slice (number_literal (codes "0")) (prefix (pre.Minus ∷ [])
    (number_literal (codes "2"))) true ∷ [])))
unfolding verdict tokens_from expression_in read
closed_slice = refl

open_slice : verdict (codes "*[1...3]") ≡ query
    (chain everything (steps_of (slice (number_literal (codes "1")) (number_literal (codes "3"))
    false ∷ [])))
unfolding verdict tokens_from expression_in read
open_slice = refl

projection : verdict (codes "a{b, 'k': c}") ≡ query
    (chain (word (codes "a")) (steps_of (project (entries_of (bare (word (codes "b")) ∷ keyed
    (codes "k") (word (codes "c")) ∷ [])) ∷ [])))
unfolding verdict tokens_from expression_in read
projection = refl

piped_projection : verdict (codes "a | {...} | {b}") ≡ query
    (chain (word (codes "a")) (steps_of (project (entries_of (spread this ∷ [])) ∷ project
    (entries_of (bare (word (codes "b")) ∷ [])) ∷ [])))
unfolding verdict tokens_from expression_in read
piped_projection = refl

members : verdict (codes "{'k': 1, a, b => c, ...d, ..., a[]{b},}") ≡ query
    (object_literal (entries_of (keyed (codes "k") (number_literal (codes "1")) ∷ bare (word
    (codes "a")) ∷ when (word (codes "b")) (word (codes "c")) ∷ spread (word (codes "d")) ∷ spread
    this ∷ bare (chain (word (codes "a")) (steps_of (each ∷ project (entries_of (bare (word (codes
    "b")) ∷ [])) ∷ []))) ∷ [])))
unfolding verdict tokens_from expression_in read
members = refl

empties : verdict (codes "{'a': {}, 'b': []}") ≡ query
    (object_literal (entries_of (keyed (codes "a") (object_literal no_entries) ∷ keyed (codes "b")
    (array no_elements) ∷ [])))
unfolding verdict tokens_from expression_in read
empties = refl

items : verdict (codes "[1, ...a, [2,],]") ≡ query
    (array (elements_of (element (number_literal (codes "1")) ∷ spread_element (word (codes "a"))
    ∷ element (array (elements_of (element (number_literal (codes "2")) ∷ []))) ∷ [])))
unfolding verdict tokens_from expression_in read
items = refl

call_of_function : verdict (codes "coalesce()") ≡ query
    (call (codes "coalesce") no_arguments)
unfolding verdict tokens_from expression_in read
call_of_function = refl

call_with_name : verdict (codes "math::sum(a)") ≡ query
    (call (codes "math::sum") (arguments_of (argument (word (codes "a")) ∷ [])))
unfolding verdict tokens_from expression_in read
call_with_name = refl

call_of_no_function : tree (codes "a :: b(1, c => d, e)") ≡ Some
    (call (codes "a::b") (arguments_of (argument (number_literal (codes "1")) ∷ when_argument
    (word (codes "c")) (word (codes "d")) ∷ argument (word (codes "e")) ∷ [])))
unfolding tokens_from expression_in read
call_of_no_function = refl

select_pairs : verdict (codes "select(a => 1, b => 2, 3)") ≡ query
    (call (codes "select") (arguments_of (when_argument (word (codes "a")) (number_literal (codes
    "1")) ∷ when_argument (word (codes "b")) (number_literal (codes "2")) ∷ argument
    (number_literal (codes "3")) ∷ [])))
unfolding verdict tokens_from expression_in read
select_pairs = refl

ordered : verdict (codes "* | order(a, b asc, c.d desc)") ≡ query
    (chain everything (steps_of (pipe (codes "order") (keys_of (order_key (word (codes "a")) false
    ∷ order_key (word (codes "b")) false ∷ order_key (chain (word (codes "c")) (steps_of (attr
    (codes "d") ∷ []))) true ∷ [])) ∷ [])))
unfolding verdict tokens_from expression_in read
ordered = refl

ordered_slice : verdict (codes "*[a == $p] | order(desc desc)[0...2]{a}") ≡ query
    (chain everything (steps_of (bracket (run (word (codes "a")) (operands_of ((
      op.Eq,
      param
          (codes "p"),
    ) ∷ []))) ∷ pipe (codes "order") (keys_of (order_key (word (codes "desc")) true ∷
    [])) ∷ slice (number_literal (codes "0")) (number_literal (codes "2")) false ∷ project
    (entries_of (bare (word (codes "a")) ∷ [])) ∷ [])))
unfolding verdict tokens_from expression_in read
ordered_slice = refl

joined : verdict (codes "*[_type == 'a']{'n': *[r._ref == ^._id].n}") ≡ query
    (chain everything (steps_of (bracket (run (word (codes "_type")) (operands_of ((
      op.Eq,
      text_literal (codes "a"),
    ) ∷ []))) ∷ project (entries_of (keyed (codes "n") (chain everything
    (steps_of (bracket (run (chain (word (codes "r")) (steps_of (attr (codes "_ref") ∷ [])))
    (operands_of ((op.Eq, chain (parent 1) (steps_of (attr (codes "_id") ∷ []))) ∷ []))) ∷ attr
    (codes "n") ∷ []))) ∷ [])) ∷ [])))
unfolding verdict tokens_from expression_in read
joined = refl

wide_power : tree (codes "-a ** !b") ≡ Some
    (prefix (pre.Minus ∷ []) (run (word (codes "a")) (operands_of ((
      op.Pow,
      prefix (pre.Not ∷ [])
          (word (codes "b")),
    ) ∷ []))))
unfolding tokens_from expression_in read
wide_power = refl

in_as_name : verdict (codes "in in match") ≡ query
    (within (word (codes "in")) (word (codes "match")))
unfolding verdict tokens_from expression_in read
in_as_name = refl
