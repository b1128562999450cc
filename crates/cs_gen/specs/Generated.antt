-- The generated script: this project's profile. Its commands are Sanity's HTTP documentation's
-- "Mutations" and "Listening", as lines of JSON (RFC 8259).
use Rattle.std.specs.Prelude.{ℕ, ◌-◌, ◌*◌, ◌%◌, List, [], ◌∷◌, ◌++◌, map, flat_map, cond, ◌==◌, codes}
use Rattle.std.specs.List.{range_with_len}
use Rattle.std.specs.Fmt.{decimal}

-- a line with one mutation, given as JSON
abbrev pub mutation_line : List ℕ → List ℕ
mutation_line mutation = codes "{\"mutate\":{\"mutations\":[" ++ mutation ++ codes "]}}"

-- every tenth document is an author
abbrev pub author : ℕ → List ℕ
author i =
    mutation_line
    (codes "{\"create\":{\"_id\":\"d-" ++ decimal i
    ++ codes "\",\"_type\":\"author\",\"name\":\"Author " ++ decimal i ++ codes "\"}}")

-- the others are posts of the author before them
abbrev pub post : ℕ → List ℕ
post i =
    mutation_line
    (codes "{\"create\":{\"_id\":\"d-" ++ decimal i
    ++ codes "\",\"_type\":\"post\",\"author\":{\"_ref\":\"d-" ++ decimal (i - i % 10)
    ++ codes "\"},\"rank\":" ++ decimal ((7 * i) % 100)
    ++ codes ",\"title\":\"Post " ++ decimal i ++ codes "\"}}")

abbrev pub created_line : ℕ → List ℕ
created_line i = cond (i % 10 == 0) (author i) (post i)

abbrev pub deleted_line : ℕ → List ℕ
deleted_line i = mutation_line (codes "{\"delete\":{\"id\":\"d-" ++ decimal i ++ codes "\"}}")

-- the authors are deleted
abbrev pub deleted_lines : ℕ → List (List ℕ)
deleted_lines i = cond (i % 10 == 0) (deleted_line i ∷ []) []

abbrev pub listen_line : List ℕ
listen_line = codes "{\"listen\":\"authors\",\"query\":\"*[_type == 'author']\"}"

abbrev pub live_line : List ℕ
live_line =
    codes "{\"live\":\"low\",\"query\":\"*[rank == 7 && _type == 'post']"
    ++ codes " | order(_id asc)[0..4]{_id}\"}"

abbrev pub count_line : List ℕ
count_line = codes "{\"query\":\"count(*)\"}"

-- The lines of the script of so many documents, without their newlines.
abbrev pub generated : ℕ → List (List ℕ)
generated n =
    listen_line
    ∷ live_line
    ∷ (map created_line (range_with_len 0 n)
    ++ flat_map deleted_lines (range_with_len 0 n)
    ++ count_line ∷ [])
