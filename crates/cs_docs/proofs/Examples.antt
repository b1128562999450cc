-- References of small documents, computed.
use Rattle.std.proofs.Common.{◌≡◌, ℕ, pos, List, [], ◌∷◌, true, false, Some, None, codes, refl}
use Rattle.cs_value.specs.Tree.{Tree, null, boolean, integer, text, list, object, trees, pairs}
use Rattle.cs_shelf.specs.Referring.{next_referrer}
use Rattle.cs_docs.specs.References.{strong, clean, first_dangling}
use Rattle.cs_docs.specs.Verdict.{fits, dangles, verdict}

abbrev whole : ℕ → Tree
whole n = integer (pos n)

abbrev items : List Tree → Tree
items ts = list (trees ts)

abbrev obj : List (List ℕ × Tree) → Tree
obj es = object (pairs es)

-- keys ascend, positions ascend, an object is before what is inside it
in_document_order :
    strong
    (obj
    ((codes "_ref", text (codes "five"))
    ∷ (
      codes "a",
      items
          (obj ((codes "_ref", text (codes "three")) ∷ [])
          ∷ obj ((codes "y", obj ((codes "_ref", text (codes "four")) ∷ [])) ∷ []) ∷ []),
    )
    ∷ (
      codes "b",
      obj
          ((codes "_ref", text (codes "one"))
          ∷ (codes "x", obj ((codes "_ref", text (codes "two")) ∷ [])) ∷ []),
    ) ∷ []))
    ≡ codes "five" ∷ codes "three" ∷ codes "four" ∷ codes "one" ∷ codes "two" ∷ []
in_document_order = refl

-- in the order of the bytes
capitals_first :
    strong
    (obj
    ((codes "A", obj ((codes "_ref", text (codes "two")) ∷ []))
    ∷ (codes "_a", obj ((codes "_ref", text (codes "one")) ∷ []))
    ∷ (codes "a", obj ((codes "_ref", text (codes "three")) ∷ [])) ∷ []))
    ≡ codes "two" ∷ codes "one" ∷ codes "three" ∷ []
capitals_first = refl

-- weak where `_weak` is true, and elsewhere where `_dataset` is there, whatever it is
weak_and_elsewhere :
    strong
    (obj
    ((
      codes "a",
      obj ((codes "_ref", text (codes "one")) ∷ (codes "_weak", boolean true) ∷ []),
    )
    ∷ (
      codes "b",
      obj ((codes "_ref", text (codes "two")) ∷ (codes "_weak", boolean false) ∷ []),
    )
    ∷ (
      codes "c",
      obj ((codes "_ref", text (codes "three")) ∷ (codes "_weak", whole 1) ∷ []),
    )
    ∷ (codes "d", obj ((codes "_ref", text (codes "four")) ∷ (codes "_weak", null) ∷ []))
    ∷ (codes "e", obj ((codes "_dataset", null) ∷ (codes "_ref", text (codes "five")) ∷ []))
    ∷ (
      codes "f",
      obj
          ((codes "_dataset", text (codes "other"))
          ∷ (codes "_ref", text (codes "six")) ∷ []),
    ) ∷ []))
    ≡ codes "two" ∷ codes "three" ∷ codes "four" ∷ []
weak_and_elsewhere = refl

-- a `_ref` that is no text refers to nothing, but what is inside it may
no_text :
    strong
    (obj
    ((codes "_ref", obj ((codes "_ref", text (codes "one")) ∷ []))
    ∷ (codes "a", obj ((codes "_ref", whole 1) ∷ []))
    ∷ (codes "b", obj ((codes "_ref", null) ∷ [])) ∷ []))
    ≡ codes "one" ∷ []
no_text = refl

-- a strong reference inside a weak one
inside_the_weak :
    strong
    (obj
    ((codes "_ref", text (codes "one"))
    ∷ (codes "_weak", boolean true)
    ∷ (codes "x", obj ((codes "_ref", text (codes "two")) ∷ [])) ∷ []))
    ≡ codes "two" ∷ []
inside_the_weak = refl

-- two documents that refer to one another
both_ways :
    first_dangling
    (obj
    ((codes "_id", text (codes "a"))
    ∷ (codes "to", obj ((codes "_ref", text (codes "b")) ∷ [])) ∷ [])
    ∷ obj
    ((codes "_id", text (codes "b"))
    ∷ (codes "to", obj ((codes "_ref", text (codes "a")) ∷ [])) ∷ []) ∷ [])
    ≡ None
both_ways = refl

both_ways_verdict :
    verdict
    (obj
    ((codes "_id", text (codes "a"))
    ∷ (codes "to", obj ((codes "_ref", text (codes "b")) ∷ [])) ∷ [])
    ∷ obj
    ((codes "_id", text (codes "b"))
    ∷ (codes "to", obj ((codes "_ref", text (codes "a")) ∷ [])) ∷ []) ∷ [])
    ≡ fits
both_ways_verdict = refl

both_ways_clean :
    clean
    (obj
    ((codes "_id", text (codes "a"))
    ∷ (codes "to", obj ((codes "_ref", text (codes "b")) ∷ [])) ∷ [])
    ∷ obj
    ((codes "_id", text (codes "b"))
    ∷ (codes "to", obj ((codes "_ref", text (codes "a")) ∷ [])) ∷ []) ∷ [])
    ≡ true
both_ways_clean = refl

-- and one that refers to itself
to_itself :
    first_dangling
    (obj
    ((codes "_id", text (codes "a"))
    ∷ (codes "to", obj ((codes "_ref", text (codes "a")) ∷ [])) ∷ []) ∷ [])
    ≡ None
to_itself = refl

to_itself_verdict :
    verdict
    (obj
    ((codes "_id", text (codes "a"))
    ∷ (codes "to", obj ((codes "_ref", text (codes "a")) ∷ [])) ∷ []) ∷ [])
    ≡ fits
to_itself_verdict = refl

to_itself_clean :
    clean
    (obj
    ((codes "_id", text (codes "a"))
    ∷ (codes "to", obj ((codes "_ref", text (codes "a")) ∷ [])) ∷ []) ∷ [])
    ≡ true
to_itself_clean = refl

-- the referrer with the least id is told, and its first target that is missing
least_referrer :
    first_dangling
    (obj
    ((codes "_id", text (codes "B"))
    ∷ (codes "a", obj ((codes "_ref", text (codes "b")) ∷ [])) ∷ [])
    ∷ obj
    ((codes "_id", text (codes "a"))
    ∷ (codes "a", obj ((codes "_ref", text (codes "b")) ∷ []))
    ∷ (
      codes "b",
      items
          (obj ((codes "_ref", text (codes "x")) ∷ [])
          ∷ obj ((codes "_ref", text (codes "w")) ∷ []) ∷ []),
    ) ∷ [])
    ∷ obj
    ((codes "_id", text (codes "b"))
    ∷ (codes "a", obj ((codes "_ref", text (codes "y")) ∷ [])) ∷ []) ∷ [])
    ≡ Some (codes "a", codes "x")
least_referrer = refl

least_referrer_verdict :
    verdict
    (obj
    ((codes "_id", text (codes "B"))
    ∷ (codes "a", obj ((codes "_ref", text (codes "b")) ∷ [])) ∷ [])
    ∷ obj
    ((codes "_id", text (codes "a"))
    ∷ (codes "a", obj ((codes "_ref", text (codes "b")) ∷ []))
    ∷ (
      codes "b",
      items
          (obj ((codes "_ref", text (codes "x")) ∷ [])
          ∷ obj ((codes "_ref", text (codes "w")) ∷ []) ∷ []),
    ) ∷ [])
    ∷ obj
    ((codes "_id", text (codes "b"))
    ∷ (codes "a", obj ((codes "_ref", text (codes "y")) ∷ [])) ∷ []) ∷ [])
    ≡ dangles (codes "a") (codes "x")
least_referrer_verdict = refl

least_referrer_clean :
    clean
    (obj
    ((codes "_id", text (codes "B"))
    ∷ (codes "a", obj ((codes "_ref", text (codes "b")) ∷ [])) ∷ [])
    ∷ obj
    ((codes "_id", text (codes "a"))
    ∷ (codes "a", obj ((codes "_ref", text (codes "b")) ∷ []))
    ∷ (
      codes "b",
      items
          (obj ((codes "_ref", text (codes "x")) ∷ [])
          ∷ obj ((codes "_ref", text (codes "w")) ∷ []) ∷ []),
    ) ∷ [])
    ∷ obj
    ((codes "_id", text (codes "b"))
    ∷ (codes "a", obj ((codes "_ref", text (codes "y")) ∷ [])) ∷ []) ∷ [])
    ≡ false
least_referrer_clean = refl

-- by any `_ref`, a weak one too
first_referrer :
    next_referrer
    (obj
    ((codes "_id", text (codes "a"))
    ∷ (
      codes "to",
      obj ((codes "_ref", text (codes "x")) ∷ (codes "_weak", boolean true) ∷ []),
    ) ∷ [])
    ∷ obj
    ((codes "_id", text (codes "b"))
    ∷ (codes "to", obj ((codes "_ref", text (codes "y")) ∷ [])) ∷ [])
    ∷ obj
    ((codes "_id", text (codes "c"))
    ∷ (
      codes "to",
      items (obj ((codes "d", obj ((codes "_ref", text (codes "x")) ∷ [])) ∷ []) ∷
          []),
    ) ∷ []) ∷ [])
    (codes "x")
    None
    ≡ Some (codes "a")
first_referrer = refl

-- above an id
referrer_above :
    next_referrer
    (obj
    ((codes "_id", text (codes "a"))
    ∷ (
      codes "to",
      obj ((codes "_ref", text (codes "x")) ∷ (codes "_weak", boolean true) ∷ []),
    ) ∷ [])
    ∷ obj
    ((codes "_id", text (codes "b"))
    ∷ (codes "to", obj ((codes "_ref", text (codes "y")) ∷ [])) ∷ [])
    ∷ obj
    ((codes "_id", text (codes "c"))
    ∷ (
      codes "to",
      items (obj ((codes "d", obj ((codes "_ref", text (codes "x")) ∷ [])) ∷ []) ∷
          []),
    ) ∷ []) ∷ [])
    (codes "x")
    (Some (codes "a"))
    ≡ Some (codes "c")
referrer_above = refl

no_referrer_above :
    next_referrer
    (obj
    ((codes "_id", text (codes "a"))
    ∷ (
      codes "to",
      obj ((codes "_ref", text (codes "x")) ∷ (codes "_weak", boolean true) ∷ []),
    ) ∷ [])
    ∷ obj
    ((codes "_id", text (codes "b"))
    ∷ (codes "to", obj ((codes "_ref", text (codes "y")) ∷ [])) ∷ [])
    ∷ obj
    ((codes "_id", text (codes "c"))
    ∷ (
      codes "to",
      items (obj ((codes "d", obj ((codes "_ref", text (codes "x")) ∷ [])) ∷ []) ∷
          []),
    ) ∷ []) ∷ [])
    (codes "x")
    (Some (codes "c"))
    ≡ None
no_referrer_above = refl
