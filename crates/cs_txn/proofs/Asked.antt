-- Documents that the queries of transactions find, each from the JSON of its body, computed.
use Rattle.std.proofs.Common.{◌≡◌, [], ◌∷◌, true, Some, codes, refl}
use Rattle.std.specs.Fmt.{digits}
use Rattle.cs_value.specs.Tree.{boolean, text}
use Rattle.cs_syntax.specs.Faults.{unknown_function}
use Rattle.cs_jsonmatch.specs.Verdict.{path_verdict}
use Rattle.cs_grammar.specs.Reading.{read}
use Rattle.cs_parse.specs.Spelling.{expression_in}
use Rattle.cs_parse.specs.Tokens.{tokens_from}
use Rattle.cs_parse.specs.Verdict.{verdict, bad_token, no_syntax, faulty}
use Rattle.cs_txn.specs.Refused.{no_query, not_documents, not_number}
use Rattle.cs_txn.proofs.Told.{whole, items, obj, commits, refuses, told}

-- the documents that a query finds
deleted_by_query :
    told
    (obj
    ((codes "_createdAt", text (codes "1970-01-01T00:00:00Z"))
    ∷ (codes "_id", text (codes "b"))
    ∷ (codes "_rev", text (codes "tx-1"))
    ∷ (codes "_type", text (codes "t"))
    ∷ (codes "_updatedAt", text (codes "1970-01-01T00:00:00Z"))
    ∷ (codes "n", whole 1) ∷ [])
    ∷ obj
    ((codes "_createdAt", text (codes "1970-01-01T00:00:00Z"))
    ∷ (codes "_id", text (codes "c"))
    ∷ (codes "_rev", text (codes "tx-1"))
    ∷ (codes "_type", text (codes "u"))
    ∷ (codes "_updatedAt", text (codes "1970-01-01T00:00:00Z")) ∷ [])
    ∷ obj
    ((codes "_createdAt", text (codes "1970-01-01T00:00:00Z"))
    ∷ (codes "_id", text (codes "tx-1-0"))
    ∷ (codes "_rev", text (codes "tx-1"))
    ∷ (codes "_type", text (codes "t"))
    ∷ (codes "_updatedAt", text (codes "1970-01-01T00:00:00Z"))
    ∷ (codes "n", whole 2) ∷ []) ∷ [])
    4
    (obj
    ((
      codes "mutations",
      items
          (obj ((codes "delete", obj ((codes "id", text (codes "zz")) ∷ [])) ∷ [])
          ∷ obj
          ((
            codes "delete",
            obj
                ((codes "params", obj ((codes "t", text (codes "t")) ∷ []))
                ∷ (codes "query", text (codes "*[_type == $t]")) ∷ []),
          ) ∷ []) ∷ []),
    )
    ∷ []))
    ≡ commits
    (obj
    ((codes "_createdAt", text (codes "1970-01-01T00:00:00Z"))
    ∷ (codes "_id", text (codes "c"))
    ∷ (codes "_rev", text (codes "tx-1"))
    ∷ (codes "_type", text (codes "u"))
    ∷ (codes "_updatedAt", text (codes "1970-01-01T00:00:00Z")) ∷ []) ∷ [])
unfolding digits verdict tokens_from expression_in read
deleted_by_query = refl

-- each once, ascending, as the dataset then is
found_once :
    told
    (obj
    ((codes "_createdAt", text (codes "1970-01-01T00:00:00Z"))
    ∷ (codes "_id", text (codes "a"))
    ∷ (codes "_rev", text (codes "tx-1"))
    ∷ (codes "_type", text (codes "t"))
    ∷ (codes "_updatedAt", text (codes "1970-01-01T00:00:00Z"))
    ∷ (codes "n", whole 2) ∷ [])
    ∷ obj
    ((codes "_createdAt", text (codes "1970-01-01T00:00:00Z"))
    ∷ (codes "_id", text (codes "b"))
    ∷ (codes "_rev", text (codes "tx-1"))
    ∷ (codes "_type", text (codes "t"))
    ∷ (codes "_updatedAt", text (codes "1970-01-01T00:00:00Z"))
    ∷ (codes "n", whole 1) ∷ []) ∷ [])
    2
    (obj
    ((
      codes "mutations",
      items
          (obj
          ((
            codes "patch",
            obj
                ((codes "inc", obj ((codes "n", whole 1) ∷ []))
                ∷ (codes "query", text (codes "[*[1], *[0], *[1]]")) ∷ []),
          ) ∷ [])
          ∷ obj
          ((
            codes "create",
            obj
                ((codes "_id", text (codes "c"))
                ∷ (codes "_type", text (codes "t"))
                ∷ (codes "n", whole 9) ∷ []),
          ) ∷ [])
          ∷ obj
          ((
            codes "patch",
            obj
                ((codes "query", text (codes "*[n > 2]"))
                ∷ (codes "set", obj ((codes "big", boolean true) ∷ [])) ∷ []),
          ) ∷ [])
          ∷ []),
    ) ∷ []))
    ≡ commits
    (obj
    ((codes "_createdAt", text (codes "1970-01-01T00:00:00Z"))
    ∷ (codes "_id", text (codes "a"))
    ∷ (codes "_rev", text (codes "tx-2"))
    ∷ (codes "_type", text (codes "t"))
    ∷ (codes "_updatedAt", text (codes "1970-01-01T00:00:00Z"))
    ∷ (codes "big", boolean true)
    ∷ (codes "n", whole 3) ∷ [])
    ∷ obj
    ((codes "_createdAt", text (codes "1970-01-01T00:00:00Z"))
    ∷ (codes "_id", text (codes "b"))
    ∷ (codes "_rev", text (codes "tx-2"))
    ∷ (codes "_type", text (codes "t"))
    ∷ (codes "_updatedAt", text (codes "1970-01-01T00:00:00Z"))
    ∷ (codes "n", whole 2) ∷ [])
    ∷ obj
    ((codes "_createdAt", text (codes "1970-01-01T00:00:00Z"))
    ∷ (codes "_id", text (codes "c"))
    ∷ (codes "_rev", text (codes "tx-2"))
    ∷ (codes "_type", text (codes "t"))
    ∷ (codes "_updatedAt", text (codes "1970-01-01T00:00:00Z"))
    ∷ (codes "big", boolean true)
    ∷ (codes "n", whole 9) ∷ []) ∷ [])
unfolding digits path_verdict verdict tokens_from expression_in read
found_once = refl

-- a value that is no list stands for itself, null for none
one_found :
    told
    (obj
    ((codes "_createdAt", text (codes "1970-01-01T00:00:00Z"))
    ∷ (codes "_id", text (codes "a"))
    ∷ (codes "_rev", text (codes "tx-1"))
    ∷ (codes "_type", text (codes "t"))
    ∷ (codes "_updatedAt", text (codes "1970-01-01T00:00:00Z"))
    ∷ (codes "n", whole 2) ∷ [])
    ∷ obj
    ((codes "_createdAt", text (codes "1970-01-01T00:00:00Z"))
    ∷ (codes "_id", text (codes "b"))
    ∷ (codes "_rev", text (codes "tx-1"))
    ∷ (codes "_type", text (codes "t"))
    ∷ (codes "_updatedAt", text (codes "1970-01-01T00:00:00Z"))
    ∷ (codes "n", whole 1) ∷ []) ∷ [])
    2
    (obj
    ((
      codes "mutations",
      items
          (obj ((codes "delete", obj ((codes "query", text (codes "*[0]")) ∷ [])) ∷ [])
          ∷ obj ((codes "delete", obj ((codes "query", text (codes "null")) ∷ [])) ∷ [])
          ∷ []),
    ) ∷ []))
    ≡ commits
    (obj
    ((codes "_createdAt", text (codes "1970-01-01T00:00:00Z"))
    ∷ (codes "_id", text (codes "b"))
    ∷ (codes "_rev", text (codes "tx-1"))
    ∷ (codes "_type", text (codes "t"))
    ∷ (codes "_updatedAt", text (codes "1970-01-01T00:00:00Z"))
    ∷ (codes "n", whole 1) ∷ []) ∷ [])
unfolding digits verdict tokens_from expression_in read
one_found = refl

-- a value that names no document
no_documents :
    told
    (obj
    ((codes "_createdAt", text (codes "1970-01-01T00:00:00Z"))
    ∷ (codes "_id", text (codes "b"))
    ∷ (codes "_rev", text (codes "tx-1"))
    ∷ (codes "_type", text (codes "t"))
    ∷ (codes "_updatedAt", text (codes "1970-01-01T00:00:00Z"))
    ∷ (codes "x", whole 1) ∷ []) ∷ [])
    3
    (obj
    ((
      codes "mutations",
      items
          (obj ((codes "delete", obj ((codes "query", text (codes "*.x")) ∷ [])) ∷ []) ∷
          []),
    ) ∷ []))
    ≡ refuses (Some 0) not_documents
unfolding digits verdict tokens_from expression_in read
no_documents = refl

-- nor one that stands no more
no_standing_document :
    told
    (obj
    ((codes "_createdAt", text (codes "1970-01-01T00:00:00Z"))
    ∷ (codes "_id", text (codes "b"))
    ∷ (codes "_rev", text (codes "tx-1"))
    ∷ (codes "_type", text (codes "t"))
    ∷ (codes "_updatedAt", text (codes "1970-01-01T00:00:00Z"))
    ∷ (codes "x", whole 1) ∷ []) ∷ [])
    3
    (obj
    ((
      codes "mutations",
      items
          (obj ((codes "delete", obj ((codes "id", text (codes "b")) ∷ [])) ∷ [])
          ∷ obj
          ((codes "delete", obj ((codes "query", text (codes "{'_id': 'b'}")) ∷ []))
          ∷ []) ∷ []),
    ) ∷ []))
    ≡ refuses (Some 1) not_documents
unfolding digits verdict tokens_from expression_in read
no_standing_document = refl

-- a text that is no query
no_query_text :
    told
    (obj
    ((codes "_createdAt", text (codes "1970-01-01T00:00:00Z"))
    ∷ (codes "_id", text (codes "a"))
    ∷ (codes "_rev", text (codes "tx-1"))
    ∷ (codes "_type", text (codes "t"))
    ∷ (codes "_updatedAt", text (codes "1970-01-01T00:00:00Z"))
    ∷ (codes "n", whole 1) ∷ []) ∷ [])
    3
    (obj
    ((
      codes "mutations",
      items
          (obj ((codes "delete", obj ((codes "query", text (codes "*[")) ∷ [])) ∷ []) ∷
          []),
    ) ∷ []))
    ≡ refuses (Some 0) (no_query no_syntax)
unfolding digits verdict tokens_from expression_in read
no_query_text = refl

no_token :
    told
    (obj
    ((codes "_createdAt", text (codes "1970-01-01T00:00:00Z"))
    ∷ (codes "_id", text (codes "a"))
    ∷ (codes "_rev", text (codes "tx-1"))
    ∷ (codes "_type", text (codes "t"))
    ∷ (codes "_updatedAt", text (codes "1970-01-01T00:00:00Z"))
    ∷ (codes "n", whole 1) ∷ []) ∷ [])
    3
    (obj
    ((
      codes "mutations",
      items
          (obj
          ((
            codes "patch",
            obj
                ((codes "query", text (codes "1 #"))
                ∷ (codes "set", obj ((codes "a", whole 1) ∷ [])) ∷ []),
          ) ∷ []) ∷ []),
    )
    ∷ []))
    ≡ refuses (Some 0) (no_query (bad_token 2))
unfolding digits path_verdict verdict tokens_from expression_in read
no_token = refl

no_function :
    told
    (obj
    ((codes "_createdAt", text (codes "1970-01-01T00:00:00Z"))
    ∷ (codes "_id", text (codes "a"))
    ∷ (codes "_rev", text (codes "tx-1"))
    ∷ (codes "_type", text (codes "t"))
    ∷ (codes "_updatedAt", text (codes "1970-01-01T00:00:00Z"))
    ∷ (codes "n", whole 1) ∷ []) ∷ [])
    3
    (obj
    ((
      codes "mutations",
      items
          (obj ((codes "delete", obj ((codes "query", text (codes "foo(1)")) ∷ [])) ∷ [])
          ∷ []),
    ) ∷ []))
    ≡ refuses (Some 0) (no_query (faulty (unknown_function (codes "foo"))))
unfolding digits verdict tokens_from expression_in read
no_function = refl

-- the documents are patched by ascending id up to the first that is refused
refused_by_id :
    told
    (obj
    ((codes "_createdAt", text (codes "1970-01-01T00:00:00Z"))
    ∷ (codes "_id", text (codes "a"))
    ∷ (codes "_rev", text (codes "tx-1"))
    ∷ (codes "_type", text (codes "t"))
    ∷ (codes "_updatedAt", text (codes "1970-01-01T00:00:00Z"))
    ∷ (codes "n", whole 1) ∷ [])
    ∷ obj
    ((codes "_createdAt", text (codes "1970-01-01T00:00:00Z"))
    ∷ (codes "_id", text (codes "b"))
    ∷ (codes "_rev", text (codes "tx-1"))
    ∷ (codes "_type", text (codes "t"))
    ∷ (codes "_updatedAt", text (codes "1970-01-01T00:00:00Z"))
    ∷ (codes "n", text (codes "x")) ∷ [])
    ∷ obj
    ((codes "_createdAt", text (codes "1970-01-01T00:00:00Z"))
    ∷ (codes "_id", text (codes "c"))
    ∷ (codes "_rev", text (codes "tx-1"))
    ∷ (codes "_type", text (codes "t"))
    ∷ (codes "_updatedAt", text (codes "1970-01-01T00:00:00Z")) ∷ []) ∷ [])
    3
    (obj
    ((
      codes "mutations",
      items
          (obj
          ((
            codes "patch",
            obj
                ((codes "inc", obj ((codes "n", whole 1) ∷ []))
                ∷ (codes "query", text (codes "*")) ∷ []),
          ) ∷ []) ∷ []),
    ) ∷ []))
    ≡ refuses (Some 0) (not_number (codes "b") (codes "n"))
unfolding digits path_verdict verdict tokens_from expression_in read
refused_by_id = refl
