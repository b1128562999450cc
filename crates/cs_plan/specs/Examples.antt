-- Examples of the keys of filters and of simple queries, computed from the definitions: this
-- project's profile.
use Rattle.std.specs.Prelude.{◌≡◌, List, [], ◌∷◌, true, false, pos, negsuc, codes}
use Rattle.cs_value.specs.Tree.{Tree, null, text, list, trees, Pairs, pairs}
use Rattle.cs_syntax.specs.declared.tree.BinSign.TheVariants as sign
use Rattle.cs_syntax.specs.declared.tree.PreSign.TheVariants as front
use Rattle.cs_syntax.specs.Expression.{null_literal, bool_literal, number_literal, text_literal, param, word, this, everything, parent, round, prefix, run, within, no_operands, more_operands, attr, deref, each, slice, bracket, pipe, keyed, bare, order_key, keys_of}
use Rattle.cs_view.specs.declared.key.Scalar.TheVariants.{Bool as Boolean, Num, Text}
use Rattle.cs_view.specs.declared.key.Key.TheVariants.{All, Id, Path, Elem, Ref}
use Rattle.cs_plan.specs.Filters.{key_in}
use Rattle.cs_plan.specs.Simple.{is_simple}
use Rattle.cs_plan.specs.Written.{path, from_all, binary_of, listed, calling, projecting, whole, object_of}

-- The parameters of these examples, and the scope around a filter.
abbrev pub given : Pairs
given = pairs
    ((codes "l", list (trees (text (codes "x") ∷ []))) ∷ (codes "p", text (codes "x")) ∷ [])

abbrev pub outer : List Tree
outer = object_of ((codes "_id", text (codes "a")) ∷ (codes "n", whole 7) ∷ []) ∷ null ∷ []

-- An id counts before a reference, a reference before a value at a path, and this before an
-- element.
-- `n == 1 && 'x' in tags && references('a') && _id == 'b'` `'x' in tags && n == 1 &&
-- references('a')` `'x' in tags && n == 1` `'x' in tags && n > 1`
abbrev pub KindsInOrder : Type 0
KindsInOrder =
    (key_in (run (binary_of (word (codes "n")) sign.Eq (number_literal (codes "1")))
    (more_operands sign.And (within (text_literal (codes "x")) (word (codes "tags")))
    (more_operands sign.And (calling (codes "references") (text_literal (codes "a") ∷ []))
    (more_operands sign.And (binary_of (word (codes "_id")) sign.Eq (text_literal (codes "b")))
    no_operands)))) (null ∷ []) given ≡ Id (codes "b"))
    × (key_in (run (within (text_literal (codes "x")) (word (codes "tags")))
    (more_operands sign.And (binary_of (word (codes "n")) sign.Eq (number_literal (codes "1")))
    (more_operands sign.And (calling (codes "references") (text_literal (codes "a") ∷ []))
    no_operands))) (null ∷ []) given ≡ Ref (codes "a"))
    × (key_in (binary_of (within (text_literal (codes "x")) (word (codes "tags"))) sign.And
    (binary_of (word (codes "n")) sign.Eq (number_literal (codes "1")))) (null ∷ []) given
    ≡ Path (codes "n" ∷ []) (Num (pos 1)))
    × (key_in (binary_of (within (text_literal (codes "x")) (word (codes "tags"))) sign.And
    (binary_of (word (codes "n")) sign.Gt (number_literal (codes "1")))) (null ∷ []) given
    ≡ Elem (codes "tags" ∷ []) (Text (codes "x")))

-- Of two keys of one kind the leftmost counts, whichever side its path is on.
-- `a == 1 && b == 2` `2 == b && a == 1`
abbrev pub LeftmostOfAKind : Type 0
LeftmostOfAKind =
    (key_in (binary_of (binary_of (word (codes "a")) sign.Eq (number_literal (codes "1"))) sign.And
    (binary_of (word (codes "b")) sign.Eq (number_literal (codes "2")))) (null ∷ []) given
    ≡ Path (codes "a" ∷ []) (Num (pos 1)))
    × (key_in (binary_of (binary_of (number_literal (codes "2")) sign.Eq (word (codes "b")))
    sign.And (binary_of (word (codes "a")) sign.Eq (number_literal (codes "1")))) (null ∷ []) given
    ≡ Path (codes "b" ∷ []) (Num (pos 2)))

-- What is joined by `||`, negated, compared otherwise or compared with null gives no key. `a == 1
-- || b == 2` `a == 1 || b == 2 && _id == 'c'` `!(a == 1)` `a != 1` `a == null` `true`
abbrev pub NoKeyOfEither : Type 0
NoKeyOfEither =
    (key_in (binary_of (binary_of (word (codes "a")) sign.Eq (number_literal (codes "1"))) sign.Or
    (binary_of (word (codes "b")) sign.Eq (number_literal (codes "2")))) (null ∷ []) given ≡ All)
    × (key_in (binary_of (binary_of (word (codes "a")) sign.Eq (number_literal (codes "1")))
    sign.Or (binary_of (binary_of (word (codes "b")) sign.Eq (number_literal (codes "2"))) sign.And
    (binary_of (word (codes "_id")) sign.Eq (text_literal (codes "c"))))) (null ∷ []) given ≡ All)
    × (key_in (prefix (front.Not ∷ [])
    (round (binary_of (word (codes "a")) sign.Eq (number_literal (codes "1"))))) (null ∷ []) given
    ≡ All)
    × (key_in (binary_of (word (codes "a")) sign.Ne (number_literal (codes "1"))) (null ∷ []) given
    ≡ All)
    × (key_in (binary_of (word (codes "a")) sign.Eq null_literal) (null ∷ []) given ≡ All)
    × (key_in (bool_literal true) (null ∷ []) given ≡ All)

-- Round brackets around conjuncts are opened, those around a path or a constant are not. `(x > 1)
-- && ((a == 1 && b == 2))` `(a) == 1` `a == (1)`
abbrev pub BracketsOpened : Type 0
BracketsOpened =
    (key_in (binary_of (round (binary_of (word (codes "x")) sign.Gt (number_literal (codes "1"))))
    sign.And (round
    (round (binary_of (binary_of (word (codes "a")) sign.Eq (number_literal (codes "1"))) sign.And
    (binary_of (word (codes "b")) sign.Eq (number_literal (codes "2"))))))) (null ∷ []) given
    ≡ Path (codes "a" ∷ []) (Num (pos 1)))
    × (key_in (binary_of (round (word (codes "a"))) sign.Eq (number_literal (codes "1")))
    (null ∷ []) given ≡ All)
    × (key_in (binary_of (word (codes "a")) sign.Eq (round (number_literal (codes "1"))))
    (null ∷ []) given ≡ All)

-- A path has at most four names, and each is an attribute of an object.
-- `a.b['c'].d == 1` `a.b.c.d.e == 1` `a->b == 1` `a[0] == 1`
abbrev pub PathsOfFour : Type 0
PathsOfFour =
    (key_in (binary_of
    (path (word (codes "a"))
    (attr (codes "b") ∷ bracket (text_literal (codes "c")) ∷ attr (codes "d") ∷ [])) sign.Eq
    (number_literal (codes "1"))) (null ∷ []) given
    ≡ Path (codes "a" ∷ codes "b" ∷ codes "c" ∷ codes "d" ∷ []) (Num (pos 1)))
    × (key_in (binary_of
    (path (word (codes "a"))
    (attr (codes "b") ∷ attr (codes "c") ∷ attr (codes "d") ∷ attr (codes "e") ∷ [])) sign.Eq
    (number_literal (codes "1"))) (null ∷ []) given ≡ All)
    × (key_in (binary_of (path (word (codes "a")) (deref ∷ attr (codes "b") ∷ [])) sign.Eq
    (number_literal (codes "1"))) (null ∷ []) given ≡ All)
    × (key_in (binary_of (path (word (codes "a")) (bracket (number_literal (codes "0")) ∷ []))
    sign.Eq (number_literal (codes "1"))) (null ∷ []) given ≡ All)

-- What a path may be compared with: texts, numbers, booleans, and parameters that are one of these.
-- `a == -1` `a == true` `_id == 5` `a == $p` `a == $q` `a == $l` `a == 1 + 1`
abbrev pub ConstantsOfAFilter : Type 0
ConstantsOfAFilter =
    (key_in (binary_of (word (codes "a")) sign.Eq
    (prefix (front.Minus ∷ []) (number_literal (codes "1")))) (null ∷ []) given
    ≡ Path (codes "a" ∷ []) (Num (negsuc 0)))
    × (key_in (binary_of (word (codes "a")) sign.Eq (bool_literal true)) (null ∷ []) given
    ≡ Path (codes "a" ∷ []) (Boolean true))
    × (key_in (binary_of (word (codes "_id")) sign.Eq (number_literal (codes "5"))) (null ∷ [])
    given ≡ Path (codes "_id" ∷ []) (Num (pos 5)))
    × (key_in (binary_of (word (codes "a")) sign.Eq (param (codes "p"))) (null ∷ []) given
    ≡ Path (codes "a" ∷ []) (Text (codes "x")))
    × (key_in (binary_of (word (codes "a")) sign.Eq (param (codes "q"))) (null ∷ []) given ≡ All)
    × (key_in (binary_of (word (codes "a")) sign.Eq (param (codes "l"))) (null ∷ []) given ≡ All)
    × (key_in (binary_of (word (codes "a")) sign.Eq
    (binary_of (number_literal (codes "1")) sign.Add (number_literal (codes "1")))) (null ∷ [])
    given ≡ All)

-- Values of the scope around the filter are constants; the document itself is not.
-- `r == ^._id` `^['n'] == r` `r == ^.m` `r == ^` `r == @` `r == ^.^._id`
abbrev pub OuterConstants : Type 0
OuterConstants =
    (key_in (binary_of (word (codes "r")) sign.Eq (path (parent 1) (attr (codes "_id") ∷ [])))
    outer given ≡ Path (codes "r" ∷ []) (Text (codes "a")))
    × (key_in (binary_of (path (parent 1) (bracket (text_literal (codes "n")) ∷ [])) sign.Eq
    (word (codes "r"))) outer given ≡ Path (codes "r" ∷ []) (Num (pos 7)))
    × (key_in (binary_of (word (codes "r")) sign.Eq (path (parent 1) (attr (codes "m") ∷ [])))
    outer given ≡ All)
    × (key_in (binary_of (word (codes "r")) sign.Eq (parent 1)) outer given ≡ All)
    × (key_in (binary_of (word (codes "r")) sign.Eq this) outer given ≡ All)
    × (key_in (binary_of (word (codes "r")) sign.Eq (path (parent 2) (attr (codes "_id") ∷ [])))
    outer given ≡ All)

-- A reference is looked up where one text is given.
-- `references('a')` `global::references($p)` `references('a', 'b')` `references(['a'])`
-- `references(1)`
abbrev pub ReferencesOfOneText : Type 0
ReferencesOfOneText =
    (key_in (calling (codes "references") (text_literal (codes "a") ∷ [])) (null ∷ []) given
    ≡ Ref (codes "a"))
    × (key_in (calling (codes "global::references") (param (codes "p") ∷ [])) (null ∷ []) given
    ≡ Ref (codes "x"))
    × (key_in (calling (codes "references")
    (text_literal (codes "a") ∷ text_literal (codes "b") ∷ [])) (null ∷ []) given ≡ All)
    × (key_in (calling (codes "references") (listed (text_literal (codes "a") ∷ []) ∷ []))
    (null ∷ []) given ≡ All)
    × (key_in (calling (codes "references") (number_literal (codes "1") ∷ [])) (null ∷ []) given
    ≡ All)

-- Which queries are simple: `*` with one filter, and behind it no further one, no `->` and no `*`.
-- `*[a * 2 == 4] | order(a)[0..2].b[]{c}` `*[a == 1]` `*[a == 1]['b'][-1]` `*[c[d > 1] == e]{'f':
-- g[h]}` `*[a == 1][b == 2]`: not simple `*[a == 1]->`: not simple `*[a == b->c]`: not simple `*[a
-- == 1]{'x': *[0]}`: not simple `*[count(*) > 1]`: not simple `*`: not simple `*[0]`: not simple
-- `*.a[b]`: not simple `(*)[a]`: not simple `a[b]`: not simple
abbrev pub SimpleQueries : Type 0
SimpleQueries =
    (is_simple (from_all
    (bracket (binary_of (binary_of (word (codes "a")) sign.Mul (number_literal (codes "2")))
    sign.Eq (number_literal (codes "4")))
    ∷ pipe (codes "order") (keys_of (order_key (word (codes "a")) false ∷ []))
    ∷ slice (number_literal (codes "0")) (number_literal (codes "2")) true ∷ attr (codes "b")
    ∷ each ∷ projecting (bare (word (codes "c")) ∷ []) ∷ [])) ≡ true)
    × (is_simple
    (from_all (bracket (binary_of (word (codes "a")) sign.Eq (number_literal (codes "1"))) ∷ []))
    ≡ true)
    × (is_simple
    (from_all (bracket (binary_of (word (codes "a")) sign.Eq (number_literal (codes "1")))
    ∷ bracket (text_literal (codes "b"))
    ∷ bracket (prefix (front.Minus ∷ []) (number_literal (codes "1"))) ∷ [])) ≡ true)
    × (is_simple
    (from_all (bracket
    (binary_of (path (word (codes "c"))
    (bracket (binary_of (word (codes "d")) sign.Gt (number_literal (codes "1"))) ∷ [])) sign.Eq
    (word (codes "e")))
    ∷ projecting
    (keyed (codes "f") (path (word (codes "g")) (bracket (word (codes "h")) ∷ [])) ∷ []) ∷ []))
    ≡ true)
    × (is_simple
    (from_all (bracket (binary_of (word (codes "a")) sign.Eq (number_literal (codes "1")))
    ∷ bracket (binary_of (word (codes "b")) sign.Eq (number_literal (codes "2"))) ∷ [])) ≡ false)
    × (is_simple
    (from_all (bracket (binary_of (word (codes "a")) sign.Eq (number_literal (codes "1"))) ∷ deref
    ∷ [])) ≡ false)
    × (is_simple
    (from_all (bracket
    (binary_of (word (codes "a")) sign.Eq
    (path (word (codes "b")) (deref ∷ attr (codes "c") ∷ []))) ∷ [])) ≡ false)
    × (is_simple
    (from_all (bracket (binary_of (word (codes "a")) sign.Eq (number_literal (codes "1")))
    ∷ projecting (keyed (codes "x") (from_all (bracket (number_literal (codes "0")) ∷ [])) ∷ [])
    ∷ [])) ≡ false)
    × (is_simple
    (from_all (bracket
    (binary_of (calling (codes "count") (everything ∷ [])) sign.Gt (number_literal (codes "1")))
    ∷ [])) ≡ false)
    × (is_simple (everything) ≡ false)
    × (is_simple (from_all (bracket (number_literal (codes "0")) ∷ [])) ≡ false)
    × (is_simple (from_all (attr (codes "a") ∷ bracket (word (codes "b")) ∷ [])) ≡ false)
    × (is_simple (path (round everything) (bracket (word (codes "a")) ∷ [])) ≡ false)
    × (is_simple (path (word (codes "a")) (bracket (word (codes "b")) ∷ [])) ≡ false)
