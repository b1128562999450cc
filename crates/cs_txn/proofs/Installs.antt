-- Documents that transactions create, replace and delete, each from the JSON of its body,
-- computed.
use Rattle.std.proofs.Common.{◌≡◌, [], ◌∷◌, true, Some, None, codes, refl}
use Rattle.std.specs.Fmt.{digits}
use Rattle.cs_value.specs.Tree.{null, boolean, text}
use Rattle.cs_txn.specs.Refused.{bad_document, deep_document, exists, dangling}
use Rattle.cs_txn.proofs.Told.{whole, items, obj, nested, commits, refuses, told}

-- a created document gets its revision and its moments
one_create :
    told [] 1
    (obj
    ((
      codes "mutations",
      items
          (obj
          ((
            codes "create",
            obj
                ((codes "_id", text (codes "a"))
                ∷ (codes "_type", text (codes "t"))
                ∷ (codes "n", whole 1) ∷ []),
          ) ∷ []) ∷ []),
    ) ∷ []))
    ≡ commits
    (obj
    ((codes "_createdAt", text (codes "1970-01-01T00:00:00Z"))
    ∷ (codes "_id", text (codes "a"))
    ∷ (codes "_rev", text (codes "tx-1"))
    ∷ (codes "_type", text (codes "t"))
    ∷ (codes "_updatedAt", text (codes "1970-01-01T00:00:00Z"))
    ∷ (codes "n", whole 1) ∷ []) ∷ [])
unfolding digits
one_create = refl

one_that_exists :
    told
    (obj
    ((codes "_createdAt", text (codes "1970-01-01T00:00:00Z"))
    ∷ (codes "_id", text (codes "a"))
    ∷ (codes "_rev", text (codes "tx-1"))
    ∷ (codes "_type", text (codes "t"))
    ∷ (codes "_updatedAt", text (codes "1970-01-01T00:00:00Z"))
    ∷ (codes "n", whole 1) ∷ []) ∷ [])
    3
    (obj
    ((
      codes "mutations",
      items
          (obj
          ((
            codes "create",
            obj
                ((codes "_id", text (codes "a"))
                ∷ (codes "_type", text (codes "t")) ∷ []),
          ) ∷ []) ∷ []),
    ) ∷ []))
    ≡ refuses (Some 0) (exists (codes "a"))
unfolding digits
one_that_exists = refl

-- the first mutation that is refused refuses the transaction
the_first_refusal_stands :
    told [] 1
    (obj
    ((
      codes "mutations",
      items
          (obj
          ((
            codes "create",
            obj
                ((codes "_id", text (codes "a"))
                ∷ (codes "_type", text (codes "t")) ∷ []),
          ) ∷ [])
          ∷ obj
          ((
            codes "create",
            obj
                ((codes "_id", text (codes "b"))
                ∷ (codes "_type", text (codes "t")) ∷ []),
          ) ∷ [])
          ∷ obj
          ((
            codes "create",
            obj
                ((codes "_id", text (codes "a"))
                ∷ (codes "_type", text (codes "t")) ∷ []),
          ) ∷ [])
          ∷ obj ((codes "create", obj ((codes "_id", text (codes "-")) ∷ [])) ∷ []) ∷ []),
    )
    ∷ (codes "transactionId", text (codes "T")) ∷ []))
    ≡ refuses (Some 2) (exists (codes "a"))
unfolding digits
the_first_refusal_stands = refl

-- strong references are asked of the dataset after all mutations
both_ways :
    told [] 1
    (obj
    ((
      codes "mutations",
      items
          (obj
          ((
            codes "create",
            obj
                ((codes "_id", text (codes "a"))
                ∷ (codes "_type", text (codes "t"))
                ∷ (codes "to", obj ((codes "_ref", text (codes "b")) ∷ [])) ∷ []),
          ) ∷ [])
          ∷ obj
          ((
            codes "create",
            obj
                ((codes "_id", text (codes "b"))
                ∷ (codes "_type", text (codes "t"))
                ∷ (codes "to", obj ((codes "_ref", text (codes "a")) ∷ [])) ∷ []),
          ) ∷
          []) ∷ []),
    ) ∷ []))
    ≡ commits
    (obj
    ((codes "_createdAt", text (codes "1970-01-01T00:00:00Z"))
    ∷ (codes "_id", text (codes "a"))
    ∷ (codes "_rev", text (codes "tx-1"))
    ∷ (codes "_type", text (codes "t"))
    ∷ (codes "_updatedAt", text (codes "1970-01-01T00:00:00Z"))
    ∷ (codes "to", obj ((codes "_ref", text (codes "b")) ∷ [])) ∷ [])
    ∷ obj
    ((codes "_createdAt", text (codes "1970-01-01T00:00:00Z"))
    ∷ (codes "_id", text (codes "b"))
    ∷ (codes "_rev", text (codes "tx-1"))
    ∷ (codes "_type", text (codes "t"))
    ∷ (codes "_updatedAt", text (codes "1970-01-01T00:00:00Z"))
    ∷ (codes "to", obj ((codes "_ref", text (codes "a")) ∷ [])) ∷ []) ∷ [])
unfolding digits
both_ways = refl

-- no document that another refers to strongly is deleted
a_referrer_is_left :
    told
    (obj
    ((codes "_createdAt", text (codes "1970-01-01T00:00:00Z"))
    ∷ (codes "_id", text (codes "a"))
    ∷ (codes "_rev", text (codes "tx-1"))
    ∷ (codes "_type", text (codes "t"))
    ∷ (codes "_updatedAt", text (codes "1970-01-01T00:00:00Z"))
    ∷ (codes "to", obj ((codes "_ref", text (codes "b")) ∷ [])) ∷ [])
    ∷ obj
    ((codes "_createdAt", text (codes "1970-01-01T00:00:00Z"))
    ∷ (codes "_id", text (codes "b"))
    ∷ (codes "_rev", text (codes "tx-1"))
    ∷ (codes "_type", text (codes "t"))
    ∷ (codes "_updatedAt", text (codes "1970-01-01T00:00:00Z")) ∷ []) ∷ [])
    2
    (obj
    ((
      codes "mutations",
      items (obj ((codes "delete", obj ((codes "id", text (codes "b")) ∷ [])) ∷ []) ∷
          []),
    ) ∷ []))
    ≡ refuses None (dangling (codes "a") (codes "b"))
unfolding digits
a_referrer_is_left = refl

-- but one that another refers to weakly is
a_weak_one_is_left :
    told
    (obj
    ((codes "_createdAt", text (codes "1970-01-01T00:00:00Z"))
    ∷ (codes "_id", text (codes "a"))
    ∷ (codes "_rev", text (codes "tx-1"))
    ∷ (codes "_type", text (codes "t"))
    ∷ (codes "_updatedAt", text (codes "1970-01-01T00:00:00Z"))
    ∷ (
      codes "to",
      obj ((codes "_ref", text (codes "b")) ∷ (codes "_weak", boolean true) ∷ []),
    ) ∷ [])
    ∷ obj
    ((codes "_createdAt", text (codes "1970-01-01T00:00:00Z"))
    ∷ (codes "_id", text (codes "b"))
    ∷ (codes "_rev", text (codes "tx-1"))
    ∷ (codes "_type", text (codes "t"))
    ∷ (codes "_updatedAt", text (codes "1970-01-01T00:00:00Z")) ∷ []) ∷ [])
    2
    (obj
    ((
      codes "mutations",
      items (obj ((codes "delete", obj ((codes "id", text (codes "b")) ∷ [])) ∷ []) ∷
          []),
    ) ∷ []))
    ≡ commits
    (obj
    ((codes "_createdAt", text (codes "1970-01-01T00:00:00Z"))
    ∷ (codes "_id", text (codes "a"))
    ∷ (codes "_rev", text (codes "tx-1"))
    ∷ (codes "_type", text (codes "t"))
    ∷ (codes "_updatedAt", text (codes "1970-01-01T00:00:00Z"))
    ∷ (
      codes "to",
      obj ((codes "_ref", text (codes "b")) ∷ (codes "_weak", boolean true) ∷ []),
    ) ∷
    []) ∷ [])
unfolding digits
a_weak_one_is_left = refl

-- a document created and deleted is none
created_and_deleted :
    told
    (obj
    ((codes "_createdAt", text (codes "1970-01-01T00:00:00Z"))
    ∷ (codes "_id", text (codes "a"))
    ∷ (codes "_rev", text (codes "tx-1"))
    ∷ (codes "_type", text (codes "t"))
    ∷ (codes "_updatedAt", text (codes "1970-01-01T00:00:00Z"))
    ∷ (codes "n", whole 1) ∷ []) ∷ [])
    7
    (obj
    ((
      codes "mutations",
      items
          (obj
          ((
            codes "create",
            obj
                ((codes "_id", text (codes "c"))
                ∷ (codes "_type", text (codes "t")) ∷ []),
          ) ∷ [])
          ∷ obj ((codes "delete", obj ((codes "id", text (codes "c")) ∷ [])) ∷ []) ∷ []),
    )
    ∷ []))
    ≡ commits
    (obj
    ((codes "_createdAt", text (codes "1970-01-01T00:00:00Z"))
    ∷ (codes "_id", text (codes "a"))
    ∷ (codes "_rev", text (codes "tx-1"))
    ∷ (codes "_type", text (codes "t"))
    ∷ (codes "_updatedAt", text (codes "1970-01-01T00:00:00Z"))
    ∷ (codes "n", whole 1) ∷ []) ∷ [])
unfolding digits
created_and_deleted = refl

-- one that was deleted before may be created
deleted_and_created :
    told
    (obj
    ((codes "_createdAt", text (codes "1970-01-01T00:00:00Z"))
    ∷ (codes "_id", text (codes "a"))
    ∷ (codes "_rev", text (codes "tx-1"))
    ∷ (codes "_type", text (codes "t"))
    ∷ (codes "_updatedAt", text (codes "1970-01-01T00:00:00Z"))
    ∷ (codes "n", whole 1) ∷ []) ∷ [])
    7
    (obj
    ((
      codes "mutations",
      items
          (obj ((codes "delete", obj ((codes "id", text (codes "a")) ∷ [])) ∷ [])
          ∷ obj
          ((
            codes "create",
            obj
                ((codes "_id", text (codes "a"))
                ∷ (codes "_type", text (codes "u")) ∷ []),
          ) ∷ []) ∷ []),
    ) ∷ []))
    ≡ commits
    (obj
    ((codes "_createdAt", text (codes "1970-01-01T00:00:00Z"))
    ∷ (codes "_id", text (codes "a"))
    ∷ (codes "_rev", text (codes "tx-7"))
    ∷ (codes "_type", text (codes "u"))
    ∷ (codes "_updatedAt", text (codes "1970-01-01T00:00:00Z")) ∷ []) ∷ [])
unfolding digits
deleted_and_created = refl

-- nothing happens where no document has the id
nothing_to_delete :
    told
    (obj
    ((codes "_createdAt", text (codes "1970-01-01T00:00:00Z"))
    ∷ (codes "_id", text (codes "a"))
    ∷ (codes "_rev", text (codes "tx-1"))
    ∷ (codes "_type", text (codes "t"))
    ∷ (codes "_updatedAt", text (codes "1970-01-01T00:00:00Z"))
    ∷ (codes "n", whole 1) ∷ []) ∷ [])
    4
    (obj
    ((
      codes "mutations",
      items (obj ((codes "delete", obj ((codes "id", text (codes "zz")) ∷ [])) ∷ []) ∷
          []),
    ) ∷ []))
    ≡ commits
    (obj
    ((codes "_createdAt", text (codes "1970-01-01T00:00:00Z"))
    ∷ (codes "_id", text (codes "a"))
    ∷ (codes "_rev", text (codes "tx-1"))
    ∷ (codes "_type", text (codes "t"))
    ∷ (codes "_updatedAt", text (codes "1970-01-01T00:00:00Z"))
    ∷ (codes "n", whole 1) ∷ []) ∷ [])
unfolding digits
nothing_to_delete = refl

-- a create without an id makes one of the transaction and the index; what exists is kept
made_ids :
    told [] 1
    (obj
    ((
      codes "mutations",
      items
          (obj ((codes "create", obj ((codes "_type", text (codes "t")) ∷ [])) ∷ [])
          ∷ obj
          ((
            codes "create",
            obj
                ((codes "_id", text (codes "b"))
                ∷ (codes "_type", text (codes "t")) ∷ []),
          ) ∷ [])
          ∷ obj
          ((
            codes "createIfNotExists",
            obj
                ((codes "_id", text (codes "b"))
                ∷ (codes "_type", text (codes "u")) ∷ []),
          ) ∷ []) ∷ []),
    ) ∷ []))
    ≡ commits
    (obj
    ((codes "_createdAt", text (codes "1970-01-01T00:00:00Z"))
    ∷ (codes "_id", text (codes "b"))
    ∷ (codes "_rev", text (codes "tx-1"))
    ∷ (codes "_type", text (codes "t"))
    ∷ (codes "_updatedAt", text (codes "1970-01-01T00:00:00Z")) ∷ [])
    ∷ obj
    ((codes "_createdAt", text (codes "1970-01-01T00:00:00Z"))
    ∷ (codes "_id", text (codes "tx-1-0"))
    ∷ (codes "_rev", text (codes "tx-1"))
    ∷ (codes "_type", text (codes "t"))
    ∷ (codes "_updatedAt", text (codes "1970-01-01T00:00:00Z")) ∷ []) ∷ [])
unfolding digits
made_ids = refl

-- the others need one
no_id_for_others :
    told [] 1
    (obj
    ((
      codes "mutations",
      items
          (obj ((codes "createOrReplace", obj ((codes "_type", text (codes "t")) ∷ [])) ∷
          []) ∷ []),
    ) ∷ []))
    ≡ refuses (Some 0) bad_document
unfolding digits
no_id_for_others = refl

-- `_id` is there and is no id
bad_id_of_a_document :
    told [] 5
    (obj
    ((
      codes "mutations",
      items
          (obj
          ((
            codes "create",
            obj
                ((codes "_id", text (codes "-x"))
                ∷ (codes "_type", text (codes "t")) ∷ []),
          ) ∷ []) ∷ []),
    ) ∷ []))
    ≡ refuses (Some 0) bad_document
unfolding digits
bad_id_of_a_document = refl

null_is_no_id :
    told [] 5
    (obj
    ((
      codes "mutations",
      items
          (obj
          ((
            codes "create",
            obj ((codes "_id", null) ∷ (codes "_type", text (codes "t")) ∷ []),
          ) ∷
          []) ∷ []),
    ) ∷ []))
    ≡ refuses (Some 0) bad_document
unfolding digits
null_is_no_id = refl

no_type :
    told [] 1
    (obj
    ((
      codes "mutations",
      items
          (obj
          ((
            codes "create",
            obj ((codes "_id", text (codes "a")) ∷ (codes "_type", text []) ∷ []),
          )
          ∷ []) ∷ []),
    ) ∷ []))
    ≡ refuses (Some 0) bad_document
unfolding digits
no_type = refl

no_object :
    told [] 1
    (obj
    ((codes "mutations", items (obj ((codes "createIfNotExists", items []) ∷ []) ∷ [])) ∷ []))
    ≡ refuses (Some 0) bad_document
unfolding digits
no_object = refl

-- a document of depth 49 is refused, one of depth 48 is not
deep_one :
    told [] 1
    (obj
    ((
      codes "mutations",
      items
          (obj
          ((
            codes "create",
            obj
                ((codes "_id", text (codes "a"))
                ∷ (codes "_type", text (codes "t"))
                ∷ (codes "x", nested 48 (whole 1)) ∷ []),
          ) ∷ []) ∷ []),
    ) ∷ []))
    ≡ refuses (Some 0) deep_document
unfolding digits
deep_one = refl

less_deep :
    told [] 1
    (obj
    ((
      codes "mutations",
      items
          (obj
          ((
            codes "create",
            obj
                ((codes "_id", text (codes "a"))
                ∷ (codes "_type", text (codes "t"))
                ∷ (codes "x", nested 47 (whole 1)) ∷ []),
          ) ∷ []) ∷ []),
    ) ∷ []))
    ≡ commits
    (obj
    ((codes "_createdAt", text (codes "1970-01-01T00:00:00Z"))
    ∷ (codes "_id", text (codes "a"))
    ∷ (codes "_rev", text (codes "tx-1"))
    ∷ (codes "_type", text (codes "t"))
    ∷ (codes "_updatedAt", text (codes "1970-01-01T00:00:00Z"))
    ∷ (codes "x", nested 47 (whole 1)) ∷ []) ∷ [])
unfolding digits
less_deep = refl

-- that it is no body is told first
body_before_depth :
    told [] 1
    (obj
    ((
      codes "mutations",
      items
          (obj
          ((
            codes "create",
            obj
                ((codes "_id", text (codes "a"))
                ∷ (codes "x", nested 48 (whole 1)) ∷ []),
          ) ∷ []) ∷ []),
    ) ∷ []))
    ≡ refuses (Some 0) bad_document
unfolding digits
body_before_depth = refl

-- a text `_createdAt` of the value is kept, whatever stood before; `_rev` and `_updatedAt` are not
own_creation_is_kept :
    told
    (obj
    ((codes "_createdAt", text (codes "1970-01-01T00:00:00Z"))
    ∷ (codes "_id", text (codes "a"))
    ∷ (codes "_rev", text (codes "tx-1"))
    ∷ (codes "_type", text (codes "t"))
    ∷ (codes "_updatedAt", text (codes "1970-01-01T00:00:00Z"))
    ∷ (codes "n", whole 1) ∷ []) ∷ [])
    2
    (obj
    ((
      codes "mutations",
      items
          (obj
          ((
            codes "createOrReplace",
            obj
                ((codes "_createdAt", text (codes "then"))
                ∷ (codes "_id", text (codes "a"))
                ∷ (codes "_rev", text (codes "r"))
                ∷ (codes "_type", text (codes "t"))
                ∷ (codes "_updatedAt", text (codes "now")) ∷ []),
          ) ∷ []) ∷ []),
    ) ∷ []))
    ≡ commits
    (obj
    ((codes "_createdAt", text (codes "then"))
    ∷ (codes "_id", text (codes "a"))
    ∷ (codes "_rev", text (codes "tx-2"))
    ∷ (codes "_type", text (codes "t"))
    ∷ (codes "_updatedAt", text (codes "1970-01-01T00:00:00Z")) ∷ []) ∷ [])
unfolding digits
own_creation_is_kept = refl

-- the moment of creation of the replaced document is not kept
creation_of_the_replaced :
    told
    (obj
    ((codes "_createdAt", text (codes "long ago"))
    ∷ (codes "_id", text (codes "a"))
    ∷ (codes "_rev", text (codes "tx-1"))
    ∷ (codes "_type", text (codes "t"))
    ∷ (codes "_updatedAt", text (codes "1970-01-01T00:00:00Z"))
    ∷ (codes "n", whole 1) ∷ []) ∷ [])
    2
    (obj
    ((
      codes "mutations",
      items
          (obj
          ((
            codes "createOrReplace",
            obj
                ((codes "_id", text (codes "a"))
                ∷ (codes "_type", text (codes "t")) ∷ []),
          ) ∷ []) ∷ []),
    ) ∷ []))
    ≡ commits
    (obj
    ((codes "_createdAt", text (codes "1970-01-01T00:00:00Z"))
    ∷ (codes "_id", text (codes "a"))
    ∷ (codes "_rev", text (codes "tx-2"))
    ∷ (codes "_type", text (codes "t"))
    ∷ (codes "_updatedAt", text (codes "1970-01-01T00:00:00Z")) ∷ []) ∷ [])
unfolding digits
creation_of_the_replaced = refl
