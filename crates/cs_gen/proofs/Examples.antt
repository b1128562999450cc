-- Small generated scripts, computed, and the summary of some replies.
use Rattle.std.proofs.Common.{◌≡◌, ℕ, pos, [], ◌∷◌, ◌++◌, None, Some, length, codes, refl}
use Rattle.std.specs.Fmt.{digits}
use Rattle.cs_value.specs.Tree.{Tree, integer, null, object, pairs}
use Rattle.cs_reply.specs.Refusal.{no_key}
use Rattle.cs_reply.specs.Reply.{found, live, welcome, committed, event, appear, refused}
use Rattle.cs_gen.specs.Generated.{generated, created_line}
use Rattle.cs_gen.specs.Summary.{summary}

abbrev whole : ℕ → Tree
whole n = integer (pos n)

-- a listener, a live query and a query stand in each script
no_document :
    generated 0
    ≡ codes "{\"listen\":\"authors\",\"query\":\"*[_type == 'author']\"}"
    ∷ (codes "{\"live\":\"low\",\"query\":\"*[rank == 7 && _type == 'post'] | order(_id asc"
    ++ codes ")[0..4]{_id}\"}")
    ∷ codes "{\"query\":\"count(*)\"}"
    ∷ []
unfolding digits
no_document = refl

-- an author and a post of this author; then the author is deleted
two_documents :
    generated 2
    ≡ codes "{\"listen\":\"authors\",\"query\":\"*[_type == 'author']\"}"
    ∷ (codes "{\"live\":\"low\",\"query\":\"*[rank == 7 && _type == 'post'] | order(_id asc"
    ++ codes ")[0..4]{_id}\"}")
    ∷ (codes "{\"mutate\":{\"mutations\":[{\"create\":{\"_id\":\"d-0\",\"_type\":\"author\",\"name"
    ++ codes "\":\"Author 0\"}}]}}")
    ∷ (codes "{\"mutate\":{\"mutations\":[{\"create\":{\"_id\":\"d-1\",\"_type\":\"post\",\"author"
    ++ codes "\":{\"_ref\":\"d-0\"},\"rank\":7,\"title\":\"Post 1\"}}]}}")
    ∷ codes "{\"mutate\":{\"mutations\":[{\"delete\":{\"id\":\"d-0\"}}]}}"
    ∷ codes "{\"query\":\"count(*)\"}"
    ∷ []
unfolding digits
two_documents = refl

an_author :
    created_line 30
    ≡ codes "{\"mutate\":{\"mutations\":[{\"create\":{\"_id\":\"d-30\",\"_type\":\"author\",\"name"
    ++ codes "\":\"Author 30\"}}]}}"
unfolding digits
an_author = refl

a_post :
    created_line 33
    ≡ codes "{\"mutate\":{\"mutations\":[{\"create\":{\"_id\":\"d-33\",\"_type\":\"post\",\"author"
    ++ codes "\":{\"_ref\":\"d-30\"},\"rank\":31,\"title\":\"Post 33\"}}]}}"
unfolding digits
a_post = refl

lines_of_0 : length (generated 0) ≡ 3
lines_of_0 = refl

lines_of_1 : length (generated 1) ≡ 5
lines_of_1 = refl

lines_of_10 : length (generated 10) ≡ 14
lines_of_10 = refl

lines_of_11 : length (generated 11) ≡ 16
lines_of_11 = refl

lines_of_25 : length (generated 25) ≡ 31
lines_of_25 = refl

-- each kind of reply is counted where it is one
some_replies :
    summary 3 7
    (welcome (codes "l")
    ∷ live (codes "v") (whole 0)
    ∷ committed (codes "tx-3") []
    ∷ event (record {
      listener = codes "l";
      id = codes "a";
      transition = appear;
      previous_rev = None;
      result_rev = Some (codes "tx-3");
      previous = None;
      result = None;
      tx = codes "tx-3";
      moment = codes "1970-01-01T00:00:00Z";
    })
    ∷ live (codes "v") (whole 1)
    ∷ refused no_key
    ∷ found null
    ∷ [])
    ≡ object (pairs ((codes "documents", whole 3)
    ∷ (codes "events", whole 1)
    ∷ (codes "lines", whole 7)
    ∷ (codes "live", whole 2)
    ∷ (codes "refused", whole 1)
    ∷ (codes "replies", whole 7)
    ∷ []))
some_replies = refl
