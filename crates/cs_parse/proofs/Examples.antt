-- What small texts are as queries, computed.
use Rattle.std.proofs.Common.{◌≡◌, [], ◌∷◌, ◌++◌, true, replicate, refl}
use Rattle.std.specs.Prelude.{codes}
use Rattle.cs_syntax.specs.declared.tree.BinSign.TheVariants as op
use Rattle.cs_syntax.specs.Expression.{number_literal, everything, chain, run, word, param, text_literal, no_steps, more_steps, bracket, pipe, more_keys, no_keys, order_key, more_operands, no_operands}
use Rattle.cs_syntax.specs.Faults.{unsupported, unknown_function, arity, no_key}
use Rattle.cs_grammar.specs.Reading.{read}
use Rattle.cs_parse.specs.Spelling.{expression_in}
use Rattle.cs_parse.specs.Tokens.{tokens_from}
use Rattle.cs_parse.specs.Verdict.{query, bad_token, too_deep, no_syntax, faulty, verdict}

number : verdict (codes " 1 // one") ≡ query (number_literal (codes "1"))
unfolding verdict tokens_from expression_in read
number = refl

filter : verdict (codes "*[a == 'b']")
    ≡ query (chain everything
    (more_steps (bracket
    (run (word (codes "a")) (more_operands op.Eq (text_literal (codes "b")) no_operands)))
    no_steps))
unfolding verdict tokens_from expression_in read
filter = refl

order : verdict (codes "$d | order(t desc)")
    ≡ query (chain (param (codes "d"))
    (more_steps (pipe (codes "order") (more_keys (order_key (word (codes "t")) true) no_keys))
    no_steps))
unfolding verdict tokens_from expression_in read
order = refl

-- `f("é") #`: the place counts bytes, and a place without a token comes before the call of no
-- function
bad : verdict (codes "f(\"" ++ 195 ∷ 169 ∷ codes "\") #") ≡ bad_token 8
unfolding verdict tokens_from expression_in read
bad = refl

unclosed : verdict (codes "a 'b") ≡ bad_token 2
unfolding verdict tokens_from expression_in read
unclosed = refl

deep : verdict (replicate 49 40) ≡ too_deep
unfolding verdict tokens_from expression_in read
deep = refl

empty : verdict [] ≡ no_syntax
unfolding verdict tokens_from expression_in read
empty = refl

half : verdict (codes "f(1) +") ≡ no_syntax
unfolding verdict tokens_from expression_in read
half = refl

exponent : verdict (codes "1e3") ≡ faulty (unsupported (codes "exponent"))
unfolding verdict tokens_from expression_in read
exponent = refl

-- of two faults the first in the text
unknown : verdict (codes "[f(1), count()]") ≡ faulty (unknown_function (codes "f"))
unfolding verdict tokens_from expression_in read
unknown = refl

wrong_count : verdict (codes "count(1, 2)") ≡ faulty (arity (codes "count"))
unfolding verdict tokens_from expression_in read
wrong_count = refl

no_name : verdict (codes "{1}") ≡ faulty no_key
unfolding verdict tokens_from expression_in read
no_name = refl
