-- Documents that transactions patch, each from the JSON of its body, computed.
use Rattle.std.proofs.Common.{◌≡◌, [], ◌∷◌, Some, codes, refl}
use Rattle.std.specs.Fmt.{digits}
use Rattle.cs_value.specs.Tree.{text}
use Rattle.cs_jsonmatch.specs.Verdict.{path_verdict}
use Rattle.cs_txn.specs.Refused.{diff, bad_path, missing, revision, immutable, overflow, not_array}
use Rattle.cs_txn.proofs.Told.{whole, items, obj, commits, refuses, told}

-- the expected revision is compared with the dataset as it then is
the_working_revision :
    told
    (obj
    ((codes "_createdAt", text (codes "1970-01-01T00:00:00Z"))
    ∷ (codes "_id", text (codes "a"))
    ∷ (codes "_rev", text (codes "tx-1"))
    ∷ (codes "_type", text (codes "t"))
    ∷ (codes "_updatedAt", text (codes "1970-01-01T00:00:00Z"))
    ∷ (codes "n", whole 1) ∷ []) ∷ [])
    2
    (obj
    ((
      codes "mutations",
      items
          (obj
          ((
            codes "patch",
            obj
                ((codes "id", text (codes "a"))
                ∷ (codes "ifRevisionID", text (codes "tx-1"))
                ∷ (codes "inc", obj ((codes "n", whole 1) ∷ [])) ∷ []),
          ) ∷ [])
          ∷ obj
          ((
            codes "patch",
            obj
                ((codes "id", text (codes "a"))
                ∷ (codes "ifRevisionID", text (codes "tx-1"))
                ∷ (codes "inc", obj ((codes "n", whole 1) ∷ [])) ∷ []),
          ) ∷ []) ∷ []),
    )
    ∷ []))
    ≡ refuses (Some 1) (revision (codes "a") (codes "tx-1") (codes "tx-2"))
unfolding digits path_verdict
the_working_revision = refl

-- which has the transaction as its revision
the_new_revision :
    told
    (obj
    ((codes "_createdAt", text (codes "1970-01-01T00:00:00Z"))
    ∷ (codes "_id", text (codes "a"))
    ∷ (codes "_rev", text (codes "tx-1"))
    ∷ (codes "_type", text (codes "t"))
    ∷ (codes "_updatedAt", text (codes "1970-01-01T00:00:00Z"))
    ∷ (codes "n", whole 1) ∷ []) ∷ [])
    2
    (obj
    ((
      codes "mutations",
      items
          (obj
          ((
            codes "patch",
            obj
                ((codes "id", text (codes "a"))
                ∷ (codes "inc", obj ((codes "n", whole 1) ∷ [])) ∷ []),
          ) ∷ [])
          ∷ obj
          ((
            codes "patch",
            obj
                ((codes "id", text (codes "a"))
                ∷ (codes "ifRevisionID", text (codes "tx-2"))
                ∷ (codes "inc", obj ((codes "n", whole 1) ∷ [])) ∷ []),
          ) ∷ []) ∷ []),
    )
    ∷ []))
    ≡ commits
    (obj
    ((codes "_createdAt", text (codes "1970-01-01T00:00:00Z"))
    ∷ (codes "_id", text (codes "a"))
    ∷ (codes "_rev", text (codes "tx-2"))
    ∷ (codes "_type", text (codes "t"))
    ∷ (codes "_updatedAt", text (codes "1970-01-01T00:00:00Z"))
    ∷ (codes "n", whole 3) ∷ []) ∷ [])
unfolding digits path_verdict
the_new_revision = refl

another_revision :
    told
    (obj
    ((codes "_createdAt", text (codes "1970-01-01T00:00:00Z"))
    ∷ (codes "_id", text (codes "a"))
    ∷ (codes "_rev", text (codes "tx-1"))
    ∷ (codes "_type", text (codes "t"))
    ∷ (codes "_updatedAt", text (codes "1970-01-01T00:00:00Z"))
    ∷ (codes "n", whole 1) ∷ []) ∷ [])
    3
    (obj
    ((
      codes "mutations",
      items
          (obj
          ((
            codes "patch",
            obj
                ((codes "id", text (codes "a"))
                ∷ (codes "ifRevisionID", text (codes "tx-0"))
                ∷ (codes "inc", obj ((codes "n", whole 1) ∷ [])) ∷ []),
          ) ∷ []) ∷ []),
    )
    ∷ []))
    ≡ refuses (Some 0) (revision (codes "a") (codes "tx-0") (codes "tx-1"))
unfolding digits path_verdict
another_revision = refl

no_change_of_type :
    told
    (obj
    ((codes "_createdAt", text (codes "1970-01-01T00:00:00Z"))
    ∷ (codes "_id", text (codes "a"))
    ∷ (codes "_rev", text (codes "tx-1"))
    ∷ (codes "_type", text (codes "t"))
    ∷ (codes "_updatedAt", text (codes "1970-01-01T00:00:00Z"))
    ∷ (codes "n", whole 1) ∷ []) ∷ [])
    4
    (obj
    ((
      codes "mutations",
      items
          (obj
          ((
            codes "patch",
            obj
                ((codes "id", text (codes "a"))
                ∷ (codes "set", obj ((codes "_type", text (codes "u")) ∷ [])) ∷ []),
          )
          ∷ []) ∷ []),
    ) ∷ []))
    ≡ refuses (Some 0) (immutable (codes "a") (codes "_type"))
unfolding digits path_verdict
no_change_of_type = refl

-- the place of the fault of a text that is no path
no_path :
    told
    (obj
    ((codes "_createdAt", text (codes "1970-01-01T00:00:00Z"))
    ∷ (codes "_id", text (codes "a"))
    ∷ (codes "_rev", text (codes "tx-1"))
    ∷ (codes "_type", text (codes "t"))
    ∷ (codes "_updatedAt", text (codes "1970-01-01T00:00:00Z"))
    ∷ (codes "n", whole 1) ∷ []) ∷ [])
    5
    (obj
    ((
      codes "mutations",
      items
          (obj
          ((
            codes "patch",
            obj
                ((codes "id", text (codes "a"))
                ∷ (codes "set", obj ((codes "a[", whole 1) ∷ [])) ∷ []),
          ) ∷ []) ∷
          []),
    ) ∷ []))
    ≡ refuses (Some 0) (bad_path (codes "a[") 2)
unfolding digits path_verdict
no_path = refl

-- is told before the document is asked for
path_before_missing :
    told
    (obj
    ((codes "_createdAt", text (codes "1970-01-01T00:00:00Z"))
    ∷ (codes "_id", text (codes "a"))
    ∷ (codes "_rev", text (codes "tx-1"))
    ∷ (codes "_type", text (codes "t"))
    ∷ (codes "_updatedAt", text (codes "1970-01-01T00:00:00Z"))
    ∷ (codes "n", whole 1) ∷ []) ∷ [])
    5
    (obj
    ((
      codes "mutations",
      items
          (obj
          ((
            codes "patch",
            obj
                ((codes "id", text (codes "zz"))
                ∷ (
                  codes "set",
                  obj ((codes "a[", whole 1) ∷ (codes "b", whole 1) ∷ []),
                )
                ∷ (codes "setIfMissing", obj ((codes "x.", whole 1) ∷ [])) ∷ []),
          ) ∷
          []) ∷ []),
    ) ∷ []))
    ≡ refuses (Some 0) (bad_path (codes "x.") 2)
unfolding digits path_verdict
path_before_missing = refl

-- `diffMatchPatch` is told before any path
no_diff :
    told
    (obj
    ((codes "_createdAt", text (codes "1970-01-01T00:00:00Z"))
    ∷ (codes "_id", text (codes "a"))
    ∷ (codes "_rev", text (codes "tx-1"))
    ∷ (codes "_type", text (codes "t"))
    ∷ (codes "_updatedAt", text (codes "1970-01-01T00:00:00Z"))
    ∷ (codes "n", whole 1) ∷ []) ∷ [])
    6
    (obj
    ((
      codes "mutations",
      items
          (obj
          ((
            codes "patch",
            obj
                ((codes "diffMatchPatch", obj [])
                ∷ (codes "id", text (codes "zz"))
                ∷ (codes "set", obj ((codes "a[", whole 1) ∷ [])) ∷ []),
          ) ∷ []) ∷
          []),
    ) ∷ []))
    ≡ refuses (Some 0) diff
unfolding digits path_verdict
no_diff = refl

missing_document :
    told
    (obj
    ((codes "_createdAt", text (codes "1970-01-01T00:00:00Z"))
    ∷ (codes "_id", text (codes "a"))
    ∷ (codes "_rev", text (codes "tx-1"))
    ∷ (codes "_type", text (codes "t"))
    ∷ (codes "_updatedAt", text (codes "1970-01-01T00:00:00Z"))
    ∷ (codes "n", whole 1) ∷ []) ∷ [])
    2
    (obj
    ((
      codes "mutations",
      items
          (obj
          ((
            codes "patch",
            obj
                ((codes "id", text (codes "zz"))
                ∷ (codes "set", obj ((codes "x", whole 1) ∷ [])) ∷ []),
          ) ∷ []) ∷ []),
    )
    ∷ []))
    ≡ refuses (Some 0) (missing (codes "zz"))
unfolding digits path_verdict
missing_document = refl

no_sum :
    told
    (obj
    ((codes "_createdAt", text (codes "1970-01-01T00:00:00Z"))
    ∷ (codes "_id", text (codes "a"))
    ∷ (codes "_rev", text (codes "tx-1"))
    ∷ (codes "_type", text (codes "t"))
    ∷ (codes "_updatedAt", text (codes "1970-01-01T00:00:00Z"))
    ∷ (codes "m", whole 9223372036854775807) ∷ []) ∷ [])
    4
    (obj
    ((
      codes "mutations",
      items
          (obj
          ((
            codes "patch",
            obj
                ((codes "id", text (codes "a"))
                ∷ (codes "inc", obj ((codes "m", whole 1) ∷ [])) ∷ []),
          ) ∷ []) ∷ []),
    )
    ∷ []))
    ≡ refuses (Some 0) (overflow (codes "a") (codes "m"))
unfolding digits path_verdict
no_sum = refl

no_list :
    told
    (obj
    ((codes "_createdAt", text (codes "1970-01-01T00:00:00Z"))
    ∷ (codes "_id", text (codes "a"))
    ∷ (codes "_rev", text (codes "tx-1"))
    ∷ (codes "_type", text (codes "t"))
    ∷ (codes "_updatedAt", text (codes "1970-01-01T00:00:00Z"))
    ∷ (codes "m", whole 1) ∷ []) ∷ [])
    6
    (obj
    ((
      codes "mutations",
      items
          (obj
          ((
            codes "patch",
            obj
                ((codes "id", text (codes "a"))
                ∷ (
                  codes "insert",
                  obj
                      ((codes "before", text (codes "m[0]"))
                      ∷ (codes "items", items []) ∷ []),
                ) ∷ []),
          ) ∷ []) ∷ []),
    ) ∷ []))
    ≡ refuses (Some 0) (not_array (codes "a") (codes "m[0]"))
unfolding digits path_verdict
no_list = refl

operations_in_order :
    told
    (obj
    ((codes "_createdAt", text (codes "1970-01-01T00:00:00Z"))
    ∷ (codes "_id", text (codes "a"))
    ∷ (codes "_rev", text (codes "tx-1"))
    ∷ (codes "_type", text (codes "t"))
    ∷ (codes "_updatedAt", text (codes "1970-01-01T00:00:00Z"))
    ∷ (codes "a", items (whole 0 ∷ whole 1 ∷ whole 2 ∷ whole 3 ∷ []))
    ∷ (codes "e", items [])
    ∷ (
      codes "items",
      items (obj ((codes "_key", text (codes "k")) ∷ (codes "n", whole 1) ∷ []) ∷ []),
    )
    ∷ []) ∷ [])
    2
    (obj
    ((
      codes "mutations",
      items
          (obj
          ((
            codes "patch",
            obj
                ((codes "id", text (codes "a"))
                ∷ (
                  codes "insert",
                  obj
                      ((codes "after", text (codes "e[-1]"))
                      ∷ (codes "items", items (text (codes "x") ∷ [])) ∷ []),
                )
                ∷ (codes "set", obj ((codes "..[_key==\"k\"].n", whole 5) ∷ []))
                ∷ (
                  codes "setIfMissing",
                  obj ((codes "a", whole 7) ∷ (codes "b.c", whole 1) ∷ []),
                )
                ∷ (codes "unset", items (text (codes "a[1:3]") ∷ [])) ∷ []),
          ) ∷ []) ∷
          []),
    ) ∷ []))
    ≡ commits
    (obj
    ((codes "_createdAt", text (codes "1970-01-01T00:00:00Z"))
    ∷ (codes "_id", text (codes "a"))
    ∷ (codes "_rev", text (codes "tx-2"))
    ∷ (codes "_type", text (codes "t"))
    ∷ (codes "_updatedAt", text (codes "1970-01-01T00:00:00Z"))
    ∷ (codes "a", items (whole 0 ∷ whole 3 ∷ []))
    ∷ (codes "b", obj ((codes "c", whole 1) ∷ []))
    ∷ (codes "e", items (text (codes "x") ∷ []))
    ∷ (
      codes "items",
      items (obj ((codes "_key", text (codes "k")) ∷ (codes "n", whole 5) ∷ []) ∷
          []),
    ) ∷ []) ∷ [])
unfolding digits path_verdict
operations_in_order = refl
