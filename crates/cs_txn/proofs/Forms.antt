-- Bodies that are transactions or none, computed.
use Rattle.std.proofs.Common.{◌≡◌, [], ◌∷◌, true, codes, refl}
use Rattle.std.specs.Fmt.{digits}
use Rattle.cs_value.specs.Tree.{boolean, text}
use Rattle.cs_jsonmatch.specs.Verdict.{path_verdict}
use Rattle.cs_grammar.specs.Reading.{read}
use Rattle.cs_parse.specs.Spelling.{expression_in}
use Rattle.cs_parse.specs.Tokens.{tokens_from}
use Rattle.cs_parse.specs.Verdict.{verdict}
use Rattle.cs_txn.proofs.Told.{whole, items, obj, nothing, no_form, commits, told}

-- a transaction without mutations
by_nothing :
    told
    (obj
    ((codes "_createdAt", text (codes "1970-01-01T00:00:00Z"))
    ∷ (codes "_id", text (codes "a"))
    ∷ (codes "_rev", text (codes "tx-1"))
    ∷ (codes "_type", text (codes "t"))
    ∷ (codes "_updatedAt", text (codes "1970-01-01T00:00:00Z"))
    ∷ (codes "n", whole 1) ∷ []) ∷ [])
    1
    (obj ((codes "mutations", items []) ∷ (codes "transactionId", text (codes "T")) ∷ []))
    ≡ commits
    (obj
    ((codes "_createdAt", text (codes "1970-01-01T00:00:00Z"))
    ∷ (codes "_id", text (codes "a"))
    ∷ (codes "_rev", text (codes "tx-1"))
    ∷ (codes "_type", text (codes "t"))
    ∷ (codes "_updatedAt", text (codes "1970-01-01T00:00:00Z"))
    ∷ (codes "n", whole 1) ∷ []) ∷ [])
unfolding digits
by_nothing = refl

-- a given id that has not its form
no_tx_id :
    told
    (obj
    ((codes "_createdAt", text (codes "1970-01-01T00:00:00Z"))
    ∷ (codes "_id", text (codes "a"))
    ∷ (codes "_rev", text (codes "tx-1"))
    ∷ (codes "_type", text (codes "t"))
    ∷ (codes "_updatedAt", text (codes "1970-01-01T00:00:00Z"))
    ∷ (codes "n", whole 1) ∷ []) ∷ [])
    1
    (obj ((codes "mutations", items []) ∷ (codes "transactionId", text (codes "tx-9")) ∷ []))
    ≡ no_form
unfolding digits
no_tx_id = refl

-- is told after what is no command
no_tx_text :
    told
    (obj
    ((codes "_createdAt", text (codes "1970-01-01T00:00:00Z"))
    ∷ (codes "_id", text (codes "a"))
    ∷ (codes "_rev", text (codes "tx-1"))
    ∷ (codes "_type", text (codes "t"))
    ∷ (codes "_updatedAt", text (codes "1970-01-01T00:00:00Z"))
    ∷ (codes "n", whole 1) ∷ []) ∷ [])
    1
    (obj
    ((codes "mutations", items (obj ((codes "creates", obj []) ∷ []) ∷ []))
    ∷ (codes "transactionId", text (codes "-")) ∷ []))
    ≡ nothing
unfolding digits
no_tx_text = refl

tx_of_65 :
    told
    (obj
    ((codes "_createdAt", text (codes "1970-01-01T00:00:00Z"))
    ∷ (codes "_id", text (codes "a"))
    ∷ (codes "_rev", text (codes "tx-1"))
    ∷ (codes "_type", text (codes "t"))
    ∷ (codes "_updatedAt", text (codes "1970-01-01T00:00:00Z"))
    ∷ (codes "n", whole 1) ∷ []) ∷ [])
    1
    (obj
    ((codes "mutations", items [])
    ∷ (
      codes "transactionId",
      text (codes "xxxxxxxxxxxxxxxxxxxxxxxxxxxxxxxxxxxxxxxxxxxxxxxxxxxxxxxxxxxxxxxxx"),
    ) ∷
    []))
    ≡ no_form
unfolding digits
tx_of_65 = refl

-- each mutation has exactly one key
two_keys :
    told
    (obj
    ((codes "_createdAt", text (codes "1970-01-01T00:00:00Z"))
    ∷ (codes "_id", text (codes "a"))
    ∷ (codes "_rev", text (codes "tx-1"))
    ∷ (codes "_type", text (codes "t"))
    ∷ (codes "_updatedAt", text (codes "1970-01-01T00:00:00Z"))
    ∷ (codes "n", whole 1) ∷ []) ∷ [])
    1
    (obj
    ((
      codes "mutations",
      items
          (obj
          ((codes "create", obj [])
          ∷ (codes "delete", obj ((codes "id", text (codes "a")) ∷ [])) ∷ []) ∷ []),
    )
    ∷ []))
    ≡ nothing
unfolding digits
two_keys = refl

-- a mutation is meant for an id or for a query
id_and_query :
    told
    (obj
    ((codes "_createdAt", text (codes "1970-01-01T00:00:00Z"))
    ∷ (codes "_id", text (codes "a"))
    ∷ (codes "_rev", text (codes "tx-1"))
    ∷ (codes "_type", text (codes "t"))
    ∷ (codes "_updatedAt", text (codes "1970-01-01T00:00:00Z"))
    ∷ (codes "n", whole 1) ∷ []) ∷ [])
    1
    (obj
    ((
      codes "mutations",
      items
          (obj
          ((
            codes "delete",
            obj
                ((codes "id", text (codes "a"))
                ∷ (codes "query", text (codes "*")) ∷ []),
          ) ∷ []) ∷ []),
    ) ∷ []))
    ≡ nothing
unfolding digits verdict tokens_from expression_in read
id_and_query = refl

id_and_params :
    told
    (obj
    ((codes "_createdAt", text (codes "1970-01-01T00:00:00Z"))
    ∷ (codes "_id", text (codes "a"))
    ∷ (codes "_rev", text (codes "tx-1"))
    ∷ (codes "_type", text (codes "t"))
    ∷ (codes "_updatedAt", text (codes "1970-01-01T00:00:00Z"))
    ∷ (codes "n", whole 1) ∷ []) ∷ [])
    1
    (obj
    ((
      codes "mutations",
      items
          (obj
          ((
            codes "delete",
            obj ((codes "id", text (codes "a")) ∷ (codes "params", obj []) ∷ []),
          ) ∷
          []) ∷ []),
    ) ∷ []))
    ≡ nothing
unfolding digits
id_and_params = refl

-- an insertion has one side
two_sides :
    told
    (obj
    ((codes "_createdAt", text (codes "1970-01-01T00:00:00Z"))
    ∷ (codes "_id", text (codes "a"))
    ∷ (codes "_rev", text (codes "tx-1"))
    ∷ (codes "_type", text (codes "t"))
    ∷ (codes "_updatedAt", text (codes "1970-01-01T00:00:00Z"))
    ∷ (codes "n", whole 1) ∷ []) ∷ [])
    1
    (obj
    ((
      codes "mutations",
      items
          (obj
          ((
            codes "patch",
            obj
                ((codes "id", text (codes "a"))
                ∷ (
                  codes "insert",
                  obj
                      ((codes "after", text (codes "a[0]"))
                      ∷ (codes "before", text (codes "a[0]"))
                      ∷ (codes "items", items []) ∷ []),
                ) ∷ []),
          ) ∷ []) ∷ []),
    ) ∷ []))
    ≡ nothing
unfolding digits path_verdict
two_sides = refl

-- `inc` has whole numbers
no_number :
    told
    (obj
    ((codes "_createdAt", text (codes "1970-01-01T00:00:00Z"))
    ∷ (codes "_id", text (codes "a"))
    ∷ (codes "_rev", text (codes "tx-1"))
    ∷ (codes "_type", text (codes "t"))
    ∷ (codes "_updatedAt", text (codes "1970-01-01T00:00:00Z"))
    ∷ (codes "n", whole 1) ∷ []) ∷ [])
    1
    (obj
    ((
      codes "mutations",
      items
          (obj
          ((
            codes "patch",
            obj
                ((codes "id", text (codes "a"))
                ∷ (codes "inc", obj ((codes "n", boolean true) ∷ [])) ∷ []),
          ) ∷ []) ∷
          []),
    ) ∷ []))
    ≡ nothing
unfolding digits path_verdict
no_number = refl

-- no other key stands in a patch
another_key :
    told
    (obj
    ((codes "_createdAt", text (codes "1970-01-01T00:00:00Z"))
    ∷ (codes "_id", text (codes "a"))
    ∷ (codes "_rev", text (codes "tx-1"))
    ∷ (codes "_type", text (codes "t"))
    ∷ (codes "_updatedAt", text (codes "1970-01-01T00:00:00Z"))
    ∷ (codes "n", whole 1) ∷ []) ∷ [])
    1
    (obj
    ((
      codes "mutations",
      items
          (obj
          ((
            codes "patch",
            obj ((codes "id", text (codes "a")) ∷ (codes "sets", obj []) ∷ []),
          ) ∷
          []) ∷ []),
    ) ∷ []))
    ≡ nothing
unfolding digits path_verdict
another_key = refl

-- or in the body
null_key :
    told
    (obj
    ((codes "_createdAt", text (codes "1970-01-01T00:00:00Z"))
    ∷ (codes "_id", text (codes "a"))
    ∷ (codes "_rev", text (codes "tx-1"))
    ∷ (codes "_type", text (codes "t"))
    ∷ (codes "_updatedAt", text (codes "1970-01-01T00:00:00Z"))
    ∷ (codes "n", whole 1) ∷ []) ∷ [])
    1
    (obj ((codes "dryRun", boolean true) ∷ (codes "mutations", items []) ∷ []))
    ≡ nothing
unfolding digits
null_key = refl
