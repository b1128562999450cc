-- Examples of values and of what is looked up, computed from the definitions: GROQ-1.revision1, by
-- the sections named, as this project's profile has them.
use Rattle.std.specs.Prelude.{◌≡◌, ℕ, List, [], ◌∷◌, true, false, negsuc, codes}
use Rattle.cs_value.specs.Words.{list_of}
use Rattle.cs_value.specs.Tree.{Tree, null, boolean, integer, text, no_pairs, pairs}
use Rattle.cs_syntax.specs.declared.tree.BinSign.TheVariants as sign
use Rattle.cs_syntax.specs.declared.tree.PreSign.TheVariants as front
use Rattle.cs_syntax.specs.Expression.{Expression, null_literal, bool_literal, number_literal, text_literal, param, word, this, everything, parent, round, call, array, object_literal, prefix, within, between, attr, deref, each, slice, bracket, pipe, keyed, bare, when, spread, element, spread_element, argument, when_argument, order_key, elements_of, entries_of, arguments_of, keys_of}
use Rattle.cs_view.specs.declared.key.Scalar.TheVariants.{Text}
use Rattle.cs_view.specs.declared.key.Key.TheVariants.{All, Id, Path, Ref}
use Rattle.cs_meaning.specs.Looked.{query_looked}
use Rattle.cs_meaning.specs.Values.{query_value}
use Rattle.cs_plan.specs.Written.{path, from_all, binary_of, listed, record_of, calling, projecting, whole, object_of}

-- `[0,1,2,3]`
abbrev pub zero_to_three : Expression
zero_to_three = listed
    (number_literal (codes "0") ∷ number_literal (codes "1") ∷ number_literal (codes "2")
    ∷ number_literal (codes "3") ∷ [])

-- A number with `-` in front.
abbrev pub negative : List ℕ → Expression
negative digits = prefix (front.Minus ∷ []) (number_literal digits)

-- Some authors, posts and tags.
abbrev pub library : List Tree
library = object_of
    ((codes "_id", text (codes "au-ann")) ∷ (codes "_type", text (codes "author"))
    ∷ (codes "name", text (codes "Ann")) ∷ [])
    ∷ object_of ((codes "_id", text (codes "drafts.p4")) ∷ (codes "_type", text (codes "post"))
    ∷ (codes "publishedAt", text (codes "2024-06-01")) ∷ (codes "title", text (codes "Four")) ∷ [])
    ∷ object_of ((codes "_id", text (codes "p1")) ∷ (codes "_type", text (codes "post"))
    ∷ (codes "author", object_of ((codes "_ref", text (codes "au-ann")) ∷ []))
    ∷ (codes "publishedAt", text (codes "2024-03-01"))
    ∷ (
      codes "tags",
      list_of
          (object_of ((codes "_key", text (codes "k1")) ∷ (codes "_ref", text (codes "t-db")) ∷ [])
          ∷ object_of ((codes "_key", text (codes "k2")) ∷ (codes "_ref", text (codes "t-ql")) ∷ [])
          ∷ []),
    ) ∷ (codes "title", text (codes "One")) ∷ [])
    ∷ object_of ((codes "_id", text (codes "p2")) ∷ (codes "_type", text (codes "post"))
    ∷ (
      codes "author",
      object_of
          ((codes "_ref", text (codes "au-bob")) ∷ (codes "_weak", boolean true) ∷ []),
    )
    ∷ (codes "publishedAt", text (codes "2024-05-01")) ∷ (codes "title", text (codes "Two")) ∷ [])
    ∷ object_of ((codes "_id", text (codes "p3")) ∷ (codes "_type", text (codes "post"))
    ∷ (codes "author", object_of ((codes "_ref", text (codes "au-ann")) ∷ []))
    ∷ (codes "publishedAt", text (codes "2024-03-01"))
    ∷ (
      codes "tags",
      list_of
          (object_of ((codes "_key", text (codes "k1")) ∷ (codes "_ref", text (codes "t-ql")) ∷ [])
          ∷ []),
    ) ∷ (codes "title", text (codes "Three")) ∷ [])
    ∷ object_of ((codes "_id", text (codes "t-db")) ∷ (codes "_type", text (codes "tag"))
    ∷ (codes "title", text (codes "Databases")) ∷ [])
    ∷ object_of ((codes "_id", text (codes "t-ql")) ∷ (codes "_type", text (codes "tag"))
    ∷ (codes "title", text (codes "Queries")) ∷ []) ∷ []

-- Documents with tags, without, and with none.
abbrev pub tagged : List Tree
tagged = object_of
    ((codes "_id", text (codes "a")) ∷ (codes "_type", text (codes "t"))
    ∷ (codes "tags", list_of (text (codes "x") ∷ text (codes "y") ∷ [])) ∷ [])
    ∷ object_of ((codes "_id", text (codes "b")) ∷ (codes "_type", text (codes "t")) ∷ [])
    ∷ object_of ((codes "_id", text (codes "c")) ∷ (codes "_type", text (codes "t"))
    ∷ (codes "tags", list_of ([])) ∷ []) ∷ []

-- Published posts, the newest first, with their author and tags: "Filter", "Order pipe function",
-- "Slice", "Projection", "Dereference", "In operator".
-- `*[_type == 'post' && !(_id in path('drafts.**'))] | order(publishedAt desc)[0..9]{title,
-- 'author': author->name, 'tags': tags[]->title}`
abbrev pub Posts : Type 0
Posts = query_value library no_pairs
    (from_all (bracket
    (binary_of (binary_of (word (codes "_type")) sign.Eq (text_literal (codes "post"))) sign.And
    (prefix (front.Not ∷ [])
    (round (within (word (codes "_id"))
    (calling (codes "path") (text_literal (codes "drafts.**") ∷ []))))))
    ∷ pipe (codes "order") (keys_of (order_key (word (codes "publishedAt")) true ∷ []))
    ∷ slice (number_literal (codes "0")) (number_literal (codes "9")) true
    ∷ projecting
    (bare (word (codes "title"))
    ∷ keyed (codes "author") (path (word (codes "author")) (deref ∷ attr (codes "name") ∷ []))
    ∷ keyed (codes "tags") (path (word (codes "tags")) (each ∷ deref ∷ attr (codes "title") ∷ []))
    ∷ []) ∷ []))
    ≡ list_of (object_of
    ((codes "author", null) ∷ (codes "tags", null) ∷ (codes "title", text (codes "Two")) ∷ [])
    ∷ object_of ((codes "author", text (codes "Ann"))
    ∷ (codes "tags", list_of (text (codes "Databases") ∷ text (codes "Queries") ∷ []))
    ∷ (codes "title", text (codes "One")) ∷ [])
    ∷ object_of ((codes "author", text (codes "Ann"))
    ∷ (codes "tags", list_of (text (codes "Queries") ∷ [])) ∷ (codes "title", text (codes "Three"))
    ∷ []) ∷ [])

-- A query in a projection: its `^` is the object that is projected: "Parent", "Everything".
-- `*[_type == 'author']{name, 'posts': *[_type == 'post' && author._ref == ^._id].title}`
abbrev pub PostsOfAuthors : Type 0
PostsOfAuthors =
    query_value library no_pairs
    (from_all (bracket (binary_of (word (codes "_type")) sign.Eq (text_literal (codes "author")))
    ∷ projecting
    (bare (word (codes "name"))
    ∷ keyed (codes "posts")
    (from_all (bracket
    (binary_of (binary_of (word (codes "_type")) sign.Eq (text_literal (codes "post"))) sign.And
    (binary_of (path (word (codes "author")) (attr (codes "_ref") ∷ [])) sign.Eq
    (path (parent 1) (attr (codes "_id") ∷ [])))) ∷ attr (codes "title") ∷ [])) ∷ []) ∷ []))
    ≡ list_of (object_of
    ((codes "name", text (codes "Ann"))
    ∷ (codes "posts", list_of (text (codes "One") ∷ text (codes "Three") ∷ [])) ∷ []) ∷ [])

-- The documents that refer to one: "references()".
-- `*[references('au-ann')]._id`
abbrev pub WhatRefersToAnn : Type 0
WhatRefersToAnn =
    query_value library no_pairs
    (from_all (bracket (calling (codes "references") (text_literal (codes "au-ann") ∷ []))
    ∷ attr (codes "_id") ∷ []))
    ≡ list_of (text (codes "p1") ∷ text (codes "p3") ∷ [])

-- A list and a text give the texts sought together: "references()".
-- `*[references(['au-bob'], 't-db')]._id`
abbrev pub WhatRefersToSome : Type 0
WhatRefersToSome =
    query_value library no_pairs
    (from_all (bracket
    (calling (codes "references")
    (listed (text_literal (codes "au-bob") ∷ []) ∷ text_literal (codes "t-db") ∷ []))
    ∷ attr (codes "_id") ∷ []))
    ≡ list_of (text (codes "p1") ∷ text (codes "p2") ∷ [])

-- A list that is not there is null among the joined lists, and an empty one adds nothing: the fifth
-- rule of joining.
-- `*.tags[]`
abbrev pub Tags : Type 0
Tags = query_value tagged no_pairs (from_all (attr (codes "tags") ∷ each ∷ []))
    ≡ list_of (text (codes "x") ∷ text (codes "y") ∷ null ∷ [])

-- An element of each list: the fourth rule of joining.
-- `*.tags[0]`
abbrev pub FirstTags : Type 0
FirstTags = query_value tagged no_pairs
    (from_all (attr (codes "tags") ∷ bracket (number_literal (codes "0")) ∷ []))
    ≡ list_of (text (codes "x") ∷ null ∷ null ∷ [])

-- A condition is true, false or neither: "And operator", "Or operator", "Equality operators",
-- "Comparison operators".
-- `[true && null, false && null, null || true, null == null, [1] == [1], 1 < 'a']`
abbrev pub ThreeTruths : Type 0
ThreeTruths =
    query_value [] no_pairs
    (listed (binary_of (bool_literal true) sign.And null_literal
    ∷ binary_of (bool_literal false) sign.And null_literal
    ∷ binary_of null_literal sign.Or (bool_literal true)
    ∷ binary_of null_literal sign.Eq null_literal
    ∷ binary_of (listed (number_literal (codes "1") ∷ [])) sign.Eq
    (listed (number_literal (codes "1") ∷ []))
    ∷ binary_of (number_literal (codes "1")) sign.Lt (text_literal (codes "a")) ∷ []))
    ≡ list_of (null ∷ boolean false ∷ boolean true ∷ boolean true ∷ boolean false ∷ null ∷ [])

-- Numbers end at 64 bits, and a remainder has the sign of its left side: "Plus operator", "Percent
-- operator".
-- `[9223372036854775807 + 1, 7 % 0, -7 % 2]`
abbrev pub NumbersEnd : Type 0
NumbersEnd =
    query_value [] no_pairs
    (listed (binary_of (number_literal (codes "9223372036854775807")) sign.Add
    (number_literal (codes "1"))
    ∷ binary_of (number_literal (codes "7")) sign.Rem (number_literal (codes "0"))
    ∷ binary_of (negative (codes "7")) sign.Rem
    (number_literal (codes "2")) ∷ []))
    ≡ list_of (null ∷ null ∷ integer (negsuc 0) ∷ [])

-- Numbers, then texts, then booleans, then everything else as it stood: "Total comparison".
-- `[2, 'b', true, null, {'x': 1}, 1, 'a', false] | order(@)`
abbrev pub Ascending : Type 0
Ascending = query_value [] no_pairs
    (path (listed
    (number_literal (codes "2") ∷ text_literal (codes "b") ∷ bool_literal true ∷ null_literal
    ∷ record_of ((codes "x", number_literal (codes "1")) ∷ []) ∷ number_literal (codes "1")
    ∷ text_literal (codes "a") ∷ bool_literal false ∷ []))
    (pipe (codes "order") (keys_of (order_key this false ∷ [])) ∷ []))
    ≡ list_of (whole 1 ∷ whole 2 ∷ text (codes "a") ∷ text (codes "b") ∷ boolean false
    ∷ boolean true ∷ null ∷ object_of ((codes "x", whole 1) ∷ []) ∷ [])

-- The reverse, with ties as they stood: "Order pipe function".
-- `[2, 'b', true, null, {'x': 1}, 1, 'a', false] | order(@ desc)`
abbrev pub Descending : Type 0
Descending =
    query_value [] no_pairs
    (path (listed
    (number_literal (codes "2") ∷ text_literal (codes "b") ∷ bool_literal true ∷ null_literal
    ∷ record_of ((codes "x", number_literal (codes "1")) ∷ []) ∷ number_literal (codes "1")
    ∷ text_literal (codes "a") ∷ bool_literal false ∷ []))
    (pipe (codes "order") (keys_of (order_key this true ∷ [])) ∷ []))
    ≡ list_of (null ∷ object_of ((codes "x", whole 1) ∷ []) ∷ boolean true ∷ boolean false
    ∷ text (codes "b") ∷ text (codes "a") ∷ whole 2 ∷ whole 1 ∷ [])

-- Ties of the first key go by the second: "Order pipe function".
-- `[{'k':2,'n':'x'},{'k':1,'n':'y'},{'k':2,'n':'z'},{'k':1,'n':'w'}] | order(k, n desc).n`
abbrev pub TwoKeys : Type 0
TwoKeys = query_value [] no_pairs
    (path (listed
    (record_of ((codes "k", number_literal (codes "2")) ∷ (codes "n", text_literal (codes "x"))
    ∷ []) ∷ record_of
    ((codes "k", number_literal (codes "1")) ∷ (codes "n", text_literal (codes "y")) ∷ [])
    ∷ record_of ((codes "k", number_literal (codes "2")) ∷ (codes "n", text_literal (codes "z"))
    ∷ []) ∷ record_of
    ((codes "k", number_literal (codes "1")) ∷ (codes "n", text_literal (codes "w")) ∷ []) ∷ []))
    (pipe (codes "order")
    (keys_of (order_key (word (codes "k")) false ∷ order_key (word (codes "n")) true ∷ []))
    ∷ attr (codes "n") ∷ []))
    ≡ list_of (text (codes "y") ∷ text (codes "w") ∷ text (codes "z") ∷ text (codes "x") ∷ [])

-- Slices and elements, also from the end, past it, and of no list: "Slice", "Element access".
-- `{'a': [0,1,2,3][1..2], 'b': [0,1,2,3][1...-1], 'c': [0,1,2,3][-2..9], 'd': [0,1,2,3][-1], 'e':
-- [0,1,2,3][9], 'f': 'x'[0..1]}`
abbrev pub Slices : Type 0
Slices = query_value [] no_pairs
    (record_of ((
      codes "a",
      path
          zero_to_three
          (slice (number_literal (codes "1")) (number_literal (codes "2")) true ∷ []),
    )
    ∷ (
      codes "b",
      path
          zero_to_three
          (slice (number_literal (codes "1")) (negative (codes "1"))
          false ∷ []),
    )
    ∷ (
      codes "c",
      path
          zero_to_three
          (slice (negative (codes "2")) (number_literal (codes "9"))
          true ∷ []),
    ) ∷ (
      codes "d",
      path
          zero_to_three
          (bracket (negative (codes "1")) ∷ []),
    )
    ∷ (
      codes "e",
      path
          zero_to_three (bracket (number_literal (codes "9")) ∷ []),
    )
    ∷ (
      codes "f",
      path (text_literal (codes "x"))
          (slice (number_literal (codes "0")) (number_literal (codes "1")) true ∷ []),
    ) ∷ []))
    ≡ object_of ((codes "a", list_of (whole 1 ∷ whole 2 ∷ []))
    ∷ (codes "b", list_of (whole 1 ∷ whole 2 ∷ [])) ∷ (codes "c", list_of (whole 2 ∷ whole 3 ∷ []))
    ∷ (codes "d", whole 3) ∷ (codes "e", null) ∷ (codes "f", null) ∷ [])

-- Each function once: "Functions".
-- `[length('héé'), string(12), array::join(['a', 1, true], '-'), string::split('a,b,', ','),
-- math::sum([1, null, 2]), math::min([]), array::unique([1, 1, 'a', null, null]),
-- array::compact([null, 1]), coalesce(null, 3), select(false => 1, 2), defined(null)]`
abbrev pub FunctionsOfValues : Type 0
FunctionsOfValues =
    query_value [] no_pairs
    (listed (calling (codes "length") (text_literal (104 ∷ 195 ∷ 169 ∷ 195 ∷ 169 ∷ []) ∷ [])
    ∷ calling (codes "string") (number_literal (codes "12") ∷ [])
    ∷ calling (codes "array::join")
    (listed (text_literal (codes "a") ∷ number_literal (codes "1") ∷ bool_literal true ∷ [])
    ∷ text_literal (codes "-") ∷ [])
    ∷ calling (codes "string::split") (text_literal (codes "a,b,") ∷ text_literal (codes ",") ∷ [])
    ∷ calling (codes "math::sum")
    (listed (number_literal (codes "1") ∷ null_literal ∷ number_literal (codes "2") ∷ []) ∷ [])
    ∷ calling (codes "math::min") (listed ([]) ∷ [])
    ∷ calling (codes "array::unique")
    (listed (number_literal (codes "1") ∷ number_literal (codes "1") ∷ text_literal (codes "a")
    ∷ null_literal ∷ null_literal ∷ []) ∷ [])
    ∷ calling (codes "array::compact")
    (listed (null_literal ∷ number_literal (codes "1") ∷ []) ∷ [])
    ∷ calling (codes "coalesce") (null_literal ∷ number_literal (codes "3") ∷ [])
    ∷ call (codes "select")
    (arguments_of
    (when_argument (bool_literal false) (number_literal (codes "1"))
    ∷ argument (number_literal (codes "2")) ∷ [])) ∷ calling (codes "defined") (null_literal ∷ [])
    ∷ []))
    ≡ list_of (whole 3 ∷ text (codes "12") ∷ text (codes "a-1-true")
    ∷ list_of (text (codes "a") ∷ text (codes "b") ∷ text (codes "") ∷ []) ∷ whole 3 ∷ null
    ∷ list_of (whole 1 ∷ text (codes "a") ∷ null ∷ []) ∷ list_of (whole 1 ∷ []) ∷ whole 3 ∷ whole 2
    ∷ boolean false ∷ [])

-- The first condition that is true counts, and one that is not a boolean is not true: "select()",
-- "coalesce()".
-- `[select(true => 1, true => 2), select(null => 1), coalesce(), count([1,2]), global::count([1])]`
abbrev pub FirstConditions : Type 0
FirstConditions =
    query_value [] no_pairs
    (listed (call (codes "select")
    (arguments_of
    (when_argument (bool_literal true) (number_literal (codes "1"))
    ∷ when_argument (bool_literal true) (number_literal (codes "2")) ∷ []))
    ∷ call (codes "select")
    (arguments_of (when_argument null_literal (number_literal (codes "1")) ∷ []))
    ∷ calling (codes "coalesce") ([])
    ∷ calling (codes "count")
    (listed (number_literal (codes "1") ∷ number_literal (codes "2") ∷ []) ∷ [])
    ∷ calling (codes "global::count") (listed (number_literal (codes "1") ∷ []) ∷ []) ∷ []))
    ≡ list_of (whole 1 ∷ null ∷ null ∷ whole 2 ∷ whole 1 ∷ [])

-- Whether a value is in a list or in a range: "In operator".
-- `['x' in ['x'], null in [null], 2 in 1..3, 3 in 1...3, 'a' in 1..3]`
abbrev pub Ranges : Type 0
Ranges = query_value [] no_pairs
    (listed (within (text_literal (codes "x")) (listed (text_literal (codes "x") ∷ []))
    ∷ within null_literal (listed (null_literal ∷ []))
    ∷ between (number_literal (codes "2")) (number_literal (codes "1"))
    (number_literal (codes "3")) true
    ∷ between (number_literal (codes "3")) (number_literal (codes "1"))
    (number_literal (codes "3")) false
    ∷ between (text_literal (codes "a")) (number_literal (codes "1")) (number_literal (codes "3"))
    true ∷ []))
    ≡ list_of (boolean true ∷ boolean true ∷ boolean true ∷ boolean false ∷ null ∷ [])

-- `...` adds what a list has, and nothing of anything else: "Array".
-- `[...[1,2], ...3, 4]`
abbrev pub Spreads : Type 0
Spreads = query_value [] no_pairs
    (array (elements_of
    (spread_element (listed (number_literal (codes "1") ∷ number_literal (codes "2") ∷ []))
    ∷ spread_element (number_literal (codes "3")) ∷ element (number_literal (codes "4")) ∷ [])))
    ≡ list_of (whole 1 ∷ whole 2 ∷ whole 4 ∷ [])

-- A later value of a key replaces an earlier one, whether its entry is a bare word or `...`:
-- "Object".
-- `[{'n':5}]{'n': 1, n, 'm': 2, ...{'m': 3}}`
abbrev pub Replaced : Type 0
Replaced = query_value [] no_pairs
    (path (listed (record_of ((codes "n", number_literal (codes "5")) ∷ []) ∷ []))
    (projecting (keyed (codes "n") (number_literal (codes "1")) ∷ bare (word (codes "n"))
    ∷ keyed (codes "m") (number_literal (codes "2"))
    ∷ spread (record_of ((codes "m", number_literal (codes "3")) ∷ [])) ∷ []) ∷ []))
    ≡ list_of (object_of ((codes "m", whole 3) ∷ (codes "n", whole 5) ∷ []) ∷ [])

-- The first rule: one value goes through the rest as it is, also where it is a list, and where the
-- rest takes an array.
-- `[{'a':[1,2]}.a[0], {'a':[{'b':1}]}.a.b]`
abbrev pub OneValue : Type 0
OneValue = query_value [] no_pairs
    (listed (path
    (record_of ((codes "a", listed (number_literal (codes "1") ∷ number_literal (codes "2") ∷ []))
    ∷ [])) (attr (codes "a") ∷ bracket (number_literal (codes "0")) ∷ [])
    ∷ path (record_of
    ((codes "a", listed (record_of ((codes "b", number_literal (codes "1")) ∷ []) ∷ [])) ∷ []))
    (attr (codes "a") ∷ attr (codes "b") ∷ []) ∷ []))
    ≡ list_of (whole 1 ∷ null ∷ [])

-- The second rule: before a rest that takes an array a projection is mapped.
-- `[{'a':1},{'a':2}]{'b': a}[1]`
abbrev pub ProjectionsFirst : Type 0
ProjectionsFirst =
    query_value [] no_pairs
    (path (listed
    (record_of ((codes "a", number_literal (codes "1")) ∷ [])
    ∷ record_of ((codes "a", number_literal (codes "2")) ∷ []) ∷ []))
    (projecting (keyed (codes "b") (word (codes "a")) ∷ []) ∷ bracket (number_literal (codes "1"))
    ∷ []))
    ≡ object_of ((codes "b", whole 2) ∷ [])

-- The third rule: an array goes through a rest that takes one as it is.
-- `[[1,2],[3]][][0]`
abbrev pub ArraysGoOn : Type 0
ArraysGoOn =
    query_value [] no_pairs
    (path (listed
    (listed (number_literal (codes "1") ∷ number_literal (codes "2") ∷ [])
    ∷ listed (number_literal (codes "3") ∷ []) ∷ []))
    (each ∷ bracket (number_literal (codes "0")) ∷ []))
    ≡ list_of (whole 1 ∷ whole 2 ∷ [])

-- The fourth rule: an array is mapped over a rest that takes and gives one value.
-- `[{'a':1},{}][].a`
abbrev pub ArraysAreMapped : Type 0
ArraysAreMapped =
    query_value [] no_pairs
    (path (listed (record_of ((codes "a", number_literal (codes "1")) ∷ []) ∷ record_of ([]) ∷ []))
    (each ∷ attr (codes "a") ∷ []))
    ≡ list_of (whole 1 ∷ null ∷ [])

-- The fifth rule: an array is mapped over a rest that takes one value and gives an array, and the
-- lists among the results are joined. A result that is no list stays.
-- `[{'t':[1,2]},{},{'t':[3]}].t[]`
abbrev pub ArraysAreJoined : Type 0
ArraysAreJoined =
    query_value [] no_pairs
    (path (listed
    (record_of ((codes "t", listed (number_literal (codes "1") ∷ number_literal (codes "2") ∷ []))
    ∷ []) ∷ record_of ([]) ∷ record_of ((codes "t", listed (number_literal (codes "3") ∷ [])) ∷ [])
    ∷ [])) (attr (codes "t") ∷ each ∷ []))
    ≡ list_of (whole 1 ∷ whole 2 ∷ null ∷ whole 3 ∷ [])

-- What stands in round brackets gives one value, whatever it is.
-- `([{'a':1}]).a`
abbrev pub BracketsEndJoining : Type 0
BracketsEndJoining =
    query_value [] no_pairs
    (path (round (listed (record_of ((codes "a", number_literal (codes "1")) ∷ []) ∷ [])))
    (attr (codes "a") ∷ []))
    ≡ null

-- A mapped step makes no scope, so `^` in a later filter is the value around the chain: "Parent".
-- `[[{'n':1,'xs':[{'m':1}]}].xs[m == ^.n], [{'n':1,'xs':[{'m':1}]}].xs[^ == null]]`
abbrev pub MappingMakesNoScope : Type 0
MappingMakesNoScope =
    query_value [] no_pairs
    (listed (path
    (listed (record_of
    ((codes "n", number_literal (codes "1"))
    ∷ (codes "xs", listed (record_of ((codes "m", number_literal (codes "1")) ∷ []) ∷ [])) ∷ [])
    ∷ [])) (attr (codes "xs")
    ∷ bracket (binary_of (word (codes "m")) sign.Eq (path (parent 1) (attr (codes "n") ∷ [])))
    ∷ []) ∷ path
    (listed (record_of
    ((codes "n", number_literal (codes "1"))
    ∷ (codes "xs", listed (record_of ((codes "m", number_literal (codes "1")) ∷ []) ∷ [])) ∷ [])
    ∷ [])) (attr (codes "xs") ∷ bracket (binary_of (parent 1) sign.Eq null_literal) ∷ []) ∷ []))
    ≡ list_of (list_of ([]) ∷ list_of (object_of ((codes "m", whole 1) ∷ []) ∷ []) ∷ [])

-- A projection makes one: "Parent", "Projection".
-- `[{'n':1,'xs':[{'m':1}]}]{'ys': xs[m == ^.n]}`
abbrev pub ProjectionsMakeScopes : Type 0
ProjectionsMakeScopes =
    query_value [] no_pairs
    (path (listed
    (record_of ((codes "n", number_literal (codes "1"))
    ∷ (codes "xs", listed (record_of ((codes "m", number_literal (codes "1")) ∷ []) ∷ [])) ∷ [])
    ∷ [])) (projecting
    (keyed (codes "ys")
    (path (word (codes "xs"))
    (bracket (binary_of (word (codes "m")) sign.Eq (path (parent 1) (attr (codes "n") ∷ [])))
    ∷ [])) ∷ []) ∷ []))
    ≡ list_of (object_of ((codes "ys", list_of (object_of ((codes "m", whole 1) ∷ []) ∷ [])) ∷ [])
    ∷ [])

-- A later value replaces an earlier one of the same key, and pairs under a condition come where it
-- is true: "Object".
-- `*[0]{..., 'n': n + 1, n > 5 => {'big': true}, n == 1 => {'one': true}}`
abbrev pub Changed : Type 0
Changed = query_value
    (object_of ((codes "_createdAt", text (codes "1970-01-01T00:00:00Z"))
    ∷ (codes "_id", text (codes "a")) ∷ (codes "_rev", text (codes "tx-1"))
    ∷ (codes "_type", text (codes "t")) ∷ (codes "_updatedAt", text (codes "1970-01-01T00:00:00Z"))
    ∷ (codes "n", whole 1) ∷ []) ∷ []) no_pairs
    (from_all (bracket (number_literal (codes "0"))
    ∷ projecting
    (spread this
    ∷ keyed (codes "n") (binary_of (word (codes "n")) sign.Add (number_literal (codes "1")))
    ∷ when (binary_of (word (codes "n")) sign.Gt (number_literal (codes "5")))
    (record_of ((codes "big", bool_literal true) ∷ []))
    ∷ when (binary_of (word (codes "n")) sign.Eq (number_literal (codes "1")))
    (record_of ((codes "one", bool_literal true) ∷ [])) ∷ []) ∷ []))
    ≡ object_of ((codes "_createdAt", text (codes "1970-01-01T00:00:00Z"))
    ∷ (codes "_id", text (codes "a")) ∷ (codes "_rev", text (codes "tx-1"))
    ∷ (codes "_type", text (codes "t")) ∷ (codes "_updatedAt", text (codes "1970-01-01T00:00:00Z"))
    ∷ (codes "n", whole 2) ∷ (codes "one", boolean true) ∷ [])

-- A parameter, and one that is not given: "Parameter".
-- `[$p.a, $q]`
abbrev pub Parameters : Type 0
Parameters =
    query_value [] (pairs ((codes "p", object_of ((codes "a", whole 1) ∷ [])) ∷ []))
    (listed (path (param (codes "p")) (attr (codes "a") ∷ []) ∷ param (codes "q") ∷ []))
    ≡ list_of (whole 1 ∷ null ∷ [])

-- A dereference is looked up whether or not a document is found; what has no reference is not.
-- `*[_type == 'post'].author->name` `*[_id == 'p2']{'a': author->}` `*[_type == 'tag']->`
abbrev pub EachDereference : Type 0
EachDereference =
    (query_looked library no_pairs
    (from_all (bracket (binary_of (word (codes "_type")) sign.Eq (text_literal (codes "post")))
    ∷ attr (codes "author") ∷ deref ∷ attr (codes "name") ∷ []))
    ≡ Path (codes "_type" ∷ []) (Text (codes "post")) ∷ Id (codes "au-ann") ∷ Id (codes "au-bob")
    ∷ Id (codes "au-ann") ∷ [])
    × (query_looked library no_pairs
    (from_all (bracket (binary_of (word (codes "_id")) sign.Eq (text_literal (codes "p2")))
    ∷ projecting (keyed (codes "a") (path (word (codes "author")) (deref ∷ [])) ∷ []) ∷ []))
    ≡ Id (codes "p2") ∷ Id (codes "au-bob") ∷ [])
    × (query_looked library no_pairs
    (from_all (bracket (binary_of (word (codes "_type")) sign.Eq (text_literal (codes "tag")))
    ∷ deref ∷ [])) ≡ Path (codes "_type" ∷ []) (Text (codes "tag")) ∷ [])

-- A filter of `*` is looked up by its key, and what it looks up itself is looked up for the
-- documents of the key; without a key all documents are.
-- `*[_type == 'author']{name, 'posts': *[_type == 'post' && author._ref == ^._id].title}`
-- `*[author._ref == 'au-ann' && count(*[references(^._id)]) > 0]._id` `*[_type == 'post' || _type
-- == 'tag']` `count(*)` `*{name}` `(*)[_id == 'p1']`
abbrev pub FiltersByKeys : Type 0
FiltersByKeys =
    (query_looked library no_pairs
    (from_all (bracket (binary_of (word (codes "_type")) sign.Eq (text_literal (codes "author")))
    ∷ projecting
    (bare (word (codes "name"))
    ∷ keyed (codes "posts")
    (from_all (bracket
    (binary_of (binary_of (word (codes "_type")) sign.Eq (text_literal (codes "post"))) sign.And
    (binary_of (path (word (codes "author")) (attr (codes "_ref") ∷ [])) sign.Eq
    (path (parent 1) (attr (codes "_id") ∷ [])))) ∷ attr (codes "title") ∷ [])) ∷ []) ∷ []))
    ≡ Path (codes "_type" ∷ []) (Text (codes "author"))
    ∷ Path (codes "_type" ∷ []) (Text (codes "post")) ∷ [])
    × (query_looked library no_pairs
    (from_all (bracket
    (binary_of (binary_of (path (word (codes "author")) (attr (codes "_ref") ∷ [])) sign.Eq
    (text_literal (codes "au-ann"))) sign.And
    (binary_of (calling (codes "count")
    (from_all (bracket
    (calling (codes "references") (path (parent 1) (attr (codes "_id") ∷ []) ∷ [])) ∷ []) ∷ []))
    sign.Gt (number_literal (codes "0")))) ∷ attr (codes "_id") ∷ []))
    ≡ Path (codes "author" ∷ codes "_ref" ∷ []) (Text (codes "au-ann")) ∷ Ref (codes "p1")
    ∷ Ref (codes "p3") ∷ [])
    × (query_looked library no_pairs
    (from_all (bracket
    (binary_of (binary_of (word (codes "_type")) sign.Eq (text_literal (codes "post"))) sign.Or
    (binary_of (word (codes "_type")) sign.Eq (text_literal (codes "tag")))) ∷ [])) ≡ All ∷ [])
    × (query_looked library no_pairs (calling (codes "count") (everything ∷ [])) ≡ All ∷ [])
    × (query_looked library no_pairs (from_all (projecting (bare (word (codes "name")) ∷ []) ∷ []))
    ≡ All ∷ [])
    × (query_looked library no_pairs
    (path (round everything)
    (bracket (binary_of (word (codes "_id")) sign.Eq (text_literal (codes "p1"))) ∷ [])) ≡ All ∷ [])

-- A right side is not looked at where the left one decides.
-- `false && count(*) > 0` `true || count(*) > 0` `true && count(*) > 0` `null && count(*) > 0`
-- `false || count(*) > 0` `*[_type == 'post' && author->name == 'Ann']._id`
abbrev pub DecidedAlready : Type 0
DecidedAlready =
    (query_looked library no_pairs
    (binary_of (bool_literal false) sign.And
    (binary_of (calling (codes "count") (everything ∷ [])) sign.Gt (number_literal (codes "0"))))
    ≡ [])
    × (query_looked library no_pairs
    (binary_of (bool_literal true) sign.Or
    (binary_of (calling (codes "count") (everything ∷ [])) sign.Gt (number_literal (codes "0"))))
    ≡ [])
    × (query_looked library no_pairs
    (binary_of (bool_literal true) sign.And
    (binary_of (calling (codes "count") (everything ∷ [])) sign.Gt (number_literal (codes "0"))))
    ≡ All ∷ [])
    × (query_looked library no_pairs
    (binary_of null_literal sign.And
    (binary_of (calling (codes "count") (everything ∷ [])) sign.Gt (number_literal (codes "0"))))
    ≡ All ∷ [])
    × (query_looked library no_pairs
    (binary_of (bool_literal false) sign.Or
    (binary_of (calling (codes "count") (everything ∷ [])) sign.Gt (number_literal (codes "0"))))
    ≡ All ∷ [])
    × (query_looked library no_pairs
    (from_all (bracket
    (binary_of (binary_of (word (codes "_type")) sign.Eq (text_literal (codes "post"))) sign.And
    (binary_of (path (word (codes "author")) (deref ∷ attr (codes "name") ∷ [])) sign.Eq
    (text_literal (codes "Ann")))) ∷ attr (codes "_id") ∷ []))
    ≡ Path (codes "_type" ∷ []) (Text (codes "post")) ∷ Id (codes "au-ann") ∷ Id (codes "au-bob")
    ∷ Id (codes "au-ann") ∷ [])

-- `coalesce` and `select` look at no argument behind the one that counts, nor at values that are
-- not taken; an entry under a condition is looked at where this is true.
-- `coalesce(1, count(*))` `coalesce(null, count(*))` `select(true => 1, count(*))` `select(false =>
-- count(*), 2)` `select(count(*) > 0 => 1, *[_id == 'p1'])` `{false => *[0], true => *[_id ==
-- 'p1'][0]}`
abbrev pub ArgumentsThatCount : Type 0
ArgumentsThatCount =
    (query_looked library no_pairs
    (calling (codes "coalesce")
    (number_literal (codes "1") ∷ calling (codes "count") (everything ∷ []) ∷ [])) ≡ [])
    × (query_looked library no_pairs
    (calling (codes "coalesce") (null_literal ∷ calling (codes "count") (everything ∷ []) ∷ []))
    ≡ All ∷ [])
    × (query_looked library no_pairs
    (call (codes "select")
    (arguments_of
    (when_argument (bool_literal true) (number_literal (codes "1"))
    ∷ argument (calling (codes "count") (everything ∷ [])) ∷ []))) ≡ [])
    × (query_looked library no_pairs
    (call (codes "select")
    (arguments_of
    (when_argument (bool_literal false) (calling (codes "count") (everything ∷ []))
    ∷ argument (number_literal (codes "2")) ∷ []))) ≡ [])
    × (query_looked library no_pairs
    (call (codes "select")
    (arguments_of
    (when_argument
    (binary_of (calling (codes "count") (everything ∷ [])) sign.Gt (number_literal (codes "0")))
    (number_literal (codes "1"))
    ∷ argument (from_all
    (bracket (binary_of (word (codes "_id")) sign.Eq (text_literal (codes "p1"))) ∷ [])) ∷ [])))
    ≡ All ∷ [])
    × (query_looked library no_pairs
    (object_literal
    (entries_of (when (bool_literal false) (from_all (bracket (number_literal (codes "0")) ∷ []))
    ∷ when (bool_literal true)
    (from_all (bracket (binary_of (word (codes "_id")) sign.Eq (text_literal (codes "p1")))
    ∷ bracket (number_literal (codes "0")) ∷ [])) ∷ []))) ≡ Id (codes "p1") ∷ [])

-- What is mapped looks up for each element in order, an order for the keys of each, and `path` for
-- its pattern.
-- `[{'_ref': 'a'}, 1, {'_ref': 'b', '_dataset': 'c'}, {'_ref': 'd'}][]->` `[{'_ref': 'b'}, {'_ref':
-- 'a'}] | order(@->name)[0]->` `'x' in path(*[_id == 'p1'][0].title)`
abbrev pub EachElement : Type 0
EachElement =
    (query_looked library no_pairs
    (path (listed
    (record_of ((codes "_ref", text_literal (codes "a")) ∷ []) ∷ number_literal (codes "1")
    ∷ record_of ((codes "_ref", text_literal (codes "b"))
    ∷ (codes "_dataset", text_literal (codes "c")) ∷ [])
    ∷ record_of ((codes "_ref", text_literal (codes "d")) ∷ []) ∷ [])) (each ∷ deref ∷ []))
    ≡ Id (codes "a") ∷ Id (codes "d") ∷ [])
    × (query_looked library no_pairs
    (path (listed
    (record_of ((codes "_ref", text_literal (codes "b")) ∷ [])
    ∷ record_of ((codes "_ref", text_literal (codes "a")) ∷ []) ∷ []))
    (pipe (codes "order")
    (keys_of (order_key (path this (deref ∷ attr (codes "name") ∷ [])) false ∷ []))
    ∷ bracket (number_literal (codes "0")) ∷ deref ∷ []))
    ≡ Id (codes "b") ∷ Id (codes "a") ∷ Id (codes "b") ∷ [])
    × (query_looked library no_pairs
    (within (text_literal (codes "x"))
    (calling (codes "path")
    (from_all (bracket (binary_of (word (codes "_id")) sign.Eq (text_literal (codes "p1")))
    ∷ bracket (number_literal (codes "0")) ∷ attr (codes "title") ∷ []) ∷ [])))
    ≡ Id (codes "p1") ∷ [])
