-- Which texts may be listened to, and what listeners hear of changes, computed.
use Rattle.std.proofs.Common.{◌≡◌, ℕ, pos, List, [], ◌∷◌, ◌++◌, Bool, true, false, Option, Some, None, is_some, codes, refl}
use Rattle.cs_value.specs.Tree.{Tree, integer, text, list, object, trees, Pairs, no_pairs, pairs}
use Rattle.cs_syntax.specs.Expression.{Expression}
use Rattle.cs_grammar.specs.Reading.{read}
use Rattle.cs_parse.specs.Spelling.{expression_in}
use Rattle.cs_parse.specs.Tokens.{tokens_from}
use Rattle.cs_parse.specs.Verdict.{Reading, query, verdict}
use Rattle.cs_reply.specs.Reply.{Event, Transition, appear, changed, disappear}
use Rattle.cs_plain.specs.Plain.{listened_filter}
use Rattle.cs_listen.specs.Events.{Listener, events}

abbrev whole : ℕ → Tree
whole n = integer (pos n)

abbrev items : List Tree → Tree
items ts = list (trees ts)

abbrev obj : List (List ℕ × Tree) → Tree
obj es = object (pairs es)

abbrev moment : List ℕ
moment = codes "1970-01-01T00:00:00Z"

abbrev filter_in : Reading → Option Expression
filter_in (query e) = listened_filter e
filter_in _ = None

abbrev can_listen : List ℕ → Bool
can_listen s = is_some (filter_in (verdict s))

abbrev listener : List ℕ → Pairs → Bool → Bool → Option Expression → List Listener
listener name params result previous None = []
listener name params result previous (Some f) = record {
  name = name;
  filter = f;
  params = params;
  with_result = result;
  with_previous = previous;
} ∷ []

abbrev listening : List ℕ → List ℕ → Pairs → Bool → Bool → List Listener
listening name s params result previous =
    listener name params result previous (filter_in (verdict s))

abbrev told :
    List ℕ → List ℕ → Transition → Option (List ℕ) → Option (List ℕ) → Option Tree → Option Tree
    → List ℕ → Event
told name id t previous_rev result_rev previous result tx = record {
  listener = name;
  id = id;
  transition = t;
  previous_rev = previous_rev;
  result_rev = result_rev;
  previous = previous;
  result = result;
  tx = tx;
  moment = moment;
}

-- `*` stands for the filter `true`
form_1 : can_listen (codes "*") ≡ true
unfolding verdict tokens_from expression_in read
form_1 = refl

-- comparisons with `&&`, `||`, `!` and round brackets
form_2 : can_listen (codes "*[_type == \"post\" && n > 1]") ≡ true
unfolding verdict tokens_from expression_in read
form_2 = refl

form_3 : can_listen (codes "*[!(a || b == 1) && (n)]") ≡ true
unfolding verdict tokens_from expression_in read
form_3 = refl

-- an operand alone
form_4 : can_listen (codes "*[true]") ≡ true
unfolding verdict tokens_from expression_in read
form_4 = refl

form_5 : can_listen (codes "*[1 == 1]") ≡ true
unfolding verdict tokens_from expression_in read
form_5 = refl

form_6 : can_listen (codes "*[!!n]") ≡ true
unfolding verdict tokens_from expression_in read
form_6 = refl

-- `in` with an array of operands, a range, a path, an operand
form_7 : can_listen (codes "*[a in [1, -2, $p]]") ≡ true
unfolding verdict tokens_from expression_in read
form_7 = refl

form_8 : can_listen (codes "*[n in 1..5 || n in 1...$p]") ≡ true
unfolding verdict tokens_from expression_in read
form_8 = refl

form_9 : can_listen (codes "*[_id in path(\"drafts.**\")]") ≡ true
unfolding verdict tokens_from expression_in read
form_9 = refl

form_10 : can_listen (codes "*[$p in tags]") ≡ true
unfolding verdict tokens_from expression_in read
form_10 = refl

-- the functions of operands
form_11 : can_listen (codes "*[defined(a.b[\"c\"])]") ≡ true
unfolding verdict tokens_from expression_in read
form_11 = refl

form_12 : can_listen (codes "*[references(\"a\", $p)]") ≡ true
unfolding verdict tokens_from expression_in read
form_12 = refl

form_13 : can_listen (codes "*[string::startsWith(title, \"a\")]") ≡ true
unfolding verdict tokens_from expression_in read
form_13 = refl

form_14 : can_listen (codes "*[count(tags) > length(@)]") ≡ true
unfolding verdict tokens_from expression_in read
form_14 = refl

form_15 : can_listen (codes "*[global::count(tags) > 1]") ≡ true
unfolding verdict tokens_from expression_in read
form_15 = refl

-- no dereference
form_16 : can_listen (codes "*[a->b == 1]") ≡ false
unfolding verdict tokens_from expression_in read
form_16 = refl

-- no other documents
form_17 : can_listen (codes "*[count(*) > 1]") ≡ false
unfolding verdict tokens_from expression_in read
form_17 = refl

-- no round brackets around an operand
form_18 : can_listen (codes "*[a == (b)]") ≡ false
unfolding verdict tokens_from expression_in read
form_18 = refl

-- one `-` before a number
form_19 : can_listen (codes "*[--1 == n]") ≡ false
unfolding verdict tokens_from expression_in read
form_19 = refl

-- no attribute of a parameter or of `@`
form_20 : can_listen (codes "*[$p.a == 1]") ≡ false
unfolding verdict tokens_from expression_in read
form_20 = refl

form_21 : can_listen (codes "*[@.a == 1]") ≡ false
unfolding verdict tokens_from expression_in read
form_21 = refl

-- no parent
form_22 : can_listen (codes "*[^.a == 1]") ≡ false
unfolding verdict tokens_from expression_in read
form_22 = refl

-- no empty array, no spread
form_23 : can_listen (codes "*[a in []]") ≡ false
unfolding verdict tokens_from expression_in read
form_23 = refl

form_24 : can_listen (codes "*[a in [...b]]") ≡ false
unfolding verdict tokens_from expression_in read
form_24 = refl

form_25 : can_listen (codes "*[references([\"a\"])]") ≡ false
unfolding verdict tokens_from expression_in read
form_25 = refl

-- no arithmetic
form_26 : can_listen (codes "*[a + 1 == 2]") ≡ false
unfolding verdict tokens_from expression_in read
form_26 = refl

form_27 : can_listen (codes "*[coalesce(a, b) == 1]") ≡ false
unfolding verdict tokens_from expression_in read
form_27 = refl

-- one filter alone, and nothing behind it
form_28 : can_listen (codes "*[a == 1][b == 2]") ≡ false
unfolding verdict tokens_from expression_in read
form_28 = refl

form_29 : can_listen (codes "*[a == 1]{b}") ≡ false
unfolding verdict tokens_from expression_in read
form_29 = refl

-- a position is no filter
form_30 : can_listen (codes "*[0]") ≡ false
unfolding verdict tokens_from expression_in read
form_30 = refl

-- nor is a name
form_31 : can_listen (codes "*[\"a\"]") ≡ false
unfolding verdict tokens_from expression_in read
form_31 = refl

-- no other query
form_32 : can_listen (codes "1") ≡ false
unfolding verdict tokens_from expression_in read
form_32 = refl

form_33 : can_listen (codes "*[a == 1") ≡ false
unfolding verdict tokens_from expression_in read
form_33 = refl

-- a document that is created and that the filter is true of
it_appears :
    events (codes "tx-2") moment
    ((
      codes "a",
      (
        None,
        Some
            (obj
            ((codes "_createdAt", text (codes "1970-01-01T00:00:00Z"))
            ∷ (codes "_id", text (codes "a"))
            ∷ (codes "_rev", text (codes "tx-2"))
            ∷ (codes "_type", text (codes "post"))
            ∷ (codes "_updatedAt", text (codes "1970-01-01T00:00:00Z"))
            ∷ (codes "n", whole 2) ∷ [])),
      ),
    ) ∷ [])
    (listening (codes "p") (codes "*[_type == 'post' && n > 1]") no_pairs false true)
    ≡ told (codes "p") (codes "a") appear None (Some (codes "tx-2")) None None (codes "tx-2") ∷ []
unfolding verdict tokens_from expression_in read
it_appears = refl

-- one that it is true of before and after
it_is_updated :
    events (codes "tx-3") moment
    ((
      codes "a",
      (
        Some
            (obj
            ((codes "_createdAt", text (codes "1970-01-01T00:00:00Z"))
            ∷ (codes "_id", text (codes "a"))
            ∷ (codes "_rev", text (codes "tx-2"))
            ∷ (codes "_type", text (codes "post"))
            ∷ (codes "_updatedAt", text (codes "1970-01-01T00:00:00Z"))
            ∷ (codes "n", whole 2) ∷ [])),
        Some
            (obj
            ((codes "_createdAt", text (codes "1970-01-01T00:00:00Z"))
            ∷ (codes "_id", text (codes "a"))
            ∷ (codes "_rev", text (codes "tx-3"))
            ∷ (codes "_type", text (codes "post"))
            ∷ (codes "_updatedAt", text (codes "1970-01-01T00:00:00Z"))
            ∷ (codes "n", whole 3) ∷ [])),
      ),
    ) ∷ [])
    (listening (codes "p") (codes "*[_type == 'post' && n > 1]") no_pairs false true)
    ≡ told (codes "p") (codes "a") changed (Some (codes "tx-2")) (Some (codes "tx-3"))
    (Some
    (obj
    ((codes "_createdAt", text (codes "1970-01-01T00:00:00Z"))
    ∷ (codes "_id", text (codes "a"))
    ∷ (codes "_rev", text (codes "tx-2"))
    ∷ (codes "_type", text (codes "post"))
    ∷ (codes "_updatedAt", text (codes "1970-01-01T00:00:00Z"))
    ∷ (codes "n", whole 2) ∷ [])))
    None
    (codes "tx-3") ∷ []
unfolding verdict tokens_from expression_in read
it_is_updated = refl

-- one that leaves the filter disappears
it_leaves :
    events (codes "tx-4") moment
    ((
      codes "a",
      (
        Some
            (obj
            ((codes "_createdAt", text (codes "1970-01-01T00:00:00Z"))
            ∷ (codes "_id", text (codes "a"))
            ∷ (codes "_rev", text (codes "tx-3"))
            ∷ (codes "_type", text (codes "post"))
            ∷ (codes "_updatedAt", text (codes "1970-01-01T00:00:00Z"))
            ∷ (codes "n", whole 3) ∷ [])),
        Some
            (obj
            ((codes "_createdAt", text (codes "1970-01-01T00:00:00Z"))
            ∷ (codes "_id", text (codes "a"))
            ∷ (codes "_rev", text (codes "tx-4"))
            ∷ (codes "_type", text (codes "post"))
            ∷ (codes "_updatedAt", text (codes "1970-01-01T00:00:00Z"))
            ∷ (codes "n", whole 0) ∷ [])),
      ),
    ) ∷ [])
    (listening (codes "p") (codes "*[_type == 'post' && n > 1]") no_pairs false true)
    ≡ told (codes "p") (codes "a") disappear (Some (codes "tx-3")) (Some (codes "tx-4"))
    (Some
    (obj
    ((codes "_createdAt", text (codes "1970-01-01T00:00:00Z"))
    ∷ (codes "_id", text (codes "a"))
    ∷ (codes "_rev", text (codes "tx-3"))
    ∷ (codes "_type", text (codes "post"))
    ∷ (codes "_updatedAt", text (codes "1970-01-01T00:00:00Z"))
    ∷ (codes "n", whole 3) ∷ [])))
    None
    (codes "tx-4") ∷ []
unfolding verdict tokens_from expression_in read
it_leaves = refl

it_comes_back :
    events (codes "tx-5") moment
    ((
      codes "a",
      (
        Some
            (obj
            ((codes "_createdAt", text (codes "1970-01-01T00:00:00Z"))
            ∷ (codes "_id", text (codes "a"))
            ∷ (codes "_rev", text (codes "tx-4"))
            ∷ (codes "_type", text (codes "post"))
            ∷ (codes "_updatedAt", text (codes "1970-01-01T00:00:00Z"))
            ∷ (codes "n", whole 0) ∷ [])),
        Some
            (obj
            ((codes "_createdAt", text (codes "1970-01-01T00:00:00Z"))
            ∷ (codes "_id", text (codes "a"))
            ∷ (codes "_rev", text (codes "tx-5"))
            ∷ (codes "_type", text (codes "post"))
            ∷ (codes "_updatedAt", text (codes "1970-01-01T00:00:00Z"))
            ∷ (codes "n", whole 5) ∷ [])),
      ),
    ) ∷ [])
    (listening (codes "p") (codes "*[_type == 'post' && n > 1]") no_pairs false true)
    ≡ told (codes "p") (codes "a") appear (Some (codes "tx-4")) (Some (codes "tx-5"))
    (Some
    (obj
    ((codes "_createdAt", text (codes "1970-01-01T00:00:00Z"))
    ∷ (codes "_id", text (codes "a"))
    ∷ (codes "_rev", text (codes "tx-4"))
    ∷ (codes "_type", text (codes "post"))
    ∷ (codes "_updatedAt", text (codes "1970-01-01T00:00:00Z"))
    ∷ (codes "n", whole 0) ∷ [])))
    None
    (codes "tx-5") ∷ []
unfolding verdict tokens_from expression_in read
it_comes_back = refl

it_is_deleted :
    events (codes "tx-5") moment
    ((
      codes "a",
      (
        Some
            (obj
            ((codes "_createdAt", text (codes "1970-01-01T00:00:00Z"))
            ∷ (codes "_id", text (codes "a"))
            ∷ (codes "_rev", text (codes "tx-5"))
            ∷ (codes "_type", text (codes "post"))
            ∷ (codes "_updatedAt", text (codes "1970-01-01T00:00:00Z"))
            ∷ (codes "n", whole 5) ∷ [])),
        None,
      ),
    ) ∷ [])
    (listening (codes "p") (codes "*[_type == 'post' && n > 1]") no_pairs false true)
    ≡ told (codes "p") (codes "a") disappear (Some (codes "tx-5")) None
    (Some
    (obj
    ((codes "_createdAt", text (codes "1970-01-01T00:00:00Z"))
    ∷ (codes "_id", text (codes "a"))
    ∷ (codes "_rev", text (codes "tx-5"))
    ∷ (codes "_type", text (codes "post"))
    ∷ (codes "_updatedAt", text (codes "1970-01-01T00:00:00Z"))
    ∷ (codes "n", whole 5) ∷ [])))
    None
    (codes "tx-5") ∷ []
unfolding verdict tokens_from expression_in read
it_is_deleted = refl

-- where the filter is true of neither side, nothing is heard
it_is_unseen :
    events (codes "tx-6") moment
    ((
      codes "a",
      (
        Some
            (obj
            ((codes "_createdAt", text (codes "1970-01-01T00:00:00Z"))
            ∷ (codes "_id", text (codes "a"))
            ∷ (codes "_rev", text (codes "tx-5"))
            ∷ (codes "_type", text (codes "post"))
            ∷ (codes "_updatedAt", text (codes "1970-01-01T00:00:00Z"))
            ∷ (codes "n", whole 0) ∷ [])),
        Some
            (obj
            ((codes "_createdAt", text (codes "1970-01-01T00:00:00Z"))
            ∷ (codes "_id", text (codes "a"))
            ∷ (codes "_rev", text (codes "tx-6"))
            ∷ (codes "_type", text (codes "post"))
            ∷ (codes "_updatedAt", text (codes "1970-01-01T00:00:00Z"))
            ∷ (codes "n", whole 1) ∷ [])),
      ),
    )
    ∷ (
      codes "b",
      (
        None,
        Some
            (obj
            ((codes "_createdAt", text (codes "1970-01-01T00:00:00Z"))
            ∷ (codes "_id", text (codes "b"))
            ∷ (codes "_rev", text (codes "tx-6"))
            ∷ (codes "_type", text (codes "post"))
            ∷ (codes "_updatedAt", text (codes "1970-01-01T00:00:00Z"))
            ∷ (codes "n", whole 0) ∷ [])),
      ),
    )
    ∷ (
      codes "c",
      (
        Some
            (obj
            ((codes "_createdAt", text (codes "1970-01-01T00:00:00Z"))
            ∷ (codes "_id", text (codes "c"))
            ∷ (codes "_rev", text (codes "tx-1"))
            ∷ (codes "_type", text (codes "post"))
            ∷ (codes "_updatedAt", text (codes "1970-01-01T00:00:00Z")) ∷ [])),
        None,
      ),
    ) ∷ [])
    (listening (codes "p") (codes "*[_type == 'post' && n > 1]") no_pairs false true)
    ≡ []
unfolding verdict tokens_from expression_in read
it_is_unseen = refl

-- events by listener in the order made, and then by id
by_listener_and_then_by_id :
    events (codes "tx-2") moment
    ((
      codes "a",
      (
        None,
        Some
            (obj
            ((codes "_createdAt", text (codes "1970-01-01T00:00:00Z"))
            ∷ (codes "_id", text (codes "a"))
            ∷ (codes "_rev", text (codes "tx-2"))
            ∷ (codes "_type", text (codes "post"))
            ∷ (codes "_updatedAt", text (codes "1970-01-01T00:00:00Z"))
            ∷ (codes "n", whole 1) ∷ [])),
      ),
    )
    ∷ (
      codes "b",
      (
        Some
            (obj
            ((codes "_createdAt", text (codes "1970-01-01T00:00:00Z"))
            ∷ (codes "_id", text (codes "b"))
            ∷ (codes "_rev", text (codes "tx-1"))
            ∷ (codes "_type", text (codes "post"))
            ∷ (codes "_updatedAt", text (codes "1970-01-01T00:00:00Z"))
            ∷ (codes "n", whole 1) ∷ [])),
        Some
            (obj
            ((codes "_createdAt", text (codes "1970-01-01T00:00:00Z"))
            ∷ (codes "_id", text (codes "b"))
            ∷ (codes "_rev", text (codes "tx-2"))
            ∷ (codes "_type", text (codes "post"))
            ∷ (codes "_updatedAt", text (codes "1970-01-01T00:00:00Z"))
            ∷ (codes "n", whole 0) ∷ [])),
      ),
    ) ∷ [])
    (listening (codes "z") (codes "*") no_pairs false false
    ++ listening (codes "m") (codes "*[n == $n]") (pairs ((codes "n", whole 1) ∷ [])) true false)
    ≡ told (codes "z") (codes "a") appear None (Some (codes "tx-2")) None None (codes "tx-2")
    ∷ told (codes "z") (codes "b") changed (Some (codes "tx-1")) (Some (codes "tx-2")) None
    None
    (codes "tx-2")
    ∷ told (codes "m") (codes "a") appear None (Some (codes "tx-2")) None
    (Some
    (obj
    ((codes "_createdAt", text (codes "1970-01-01T00:00:00Z"))
    ∷ (codes "_id", text (codes "a"))
    ∷ (codes "_rev", text (codes "tx-2"))
    ∷ (codes "_type", text (codes "post"))
    ∷ (codes "_updatedAt", text (codes "1970-01-01T00:00:00Z"))
    ∷ (codes "n", whole 1) ∷ [])))
    (codes "tx-2")
    ∷ told (codes "m") (codes "b") disappear (Some (codes "tx-1")) (Some (codes "tx-2")) None
    (Some
    (obj
    ((codes "_createdAt", text (codes "1970-01-01T00:00:00Z"))
    ∷ (codes "_id", text (codes "b"))
    ∷ (codes "_rev", text (codes "tx-2"))
    ∷ (codes "_type", text (codes "post"))
    ∷ (codes "_updatedAt", text (codes "1970-01-01T00:00:00Z"))
    ∷ (codes "n", whole 0) ∷ [])))
    (codes "tx-2") ∷ []
unfolding verdict tokens_from expression_in read
by_listener_and_then_by_id = refl
