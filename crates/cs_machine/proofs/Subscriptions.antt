-- Live answers, names, made ids and moments, played from bytes to bytes.
use Rattle.std.proofs.Common.{[], ◌∷◌, ◌++◌, codes, refl}
use Rattle.std.specs.Fmt.{digits}
use Rattle.std.specs.Str.{chars, is_utf8}
use Rattle.std.specs.Float.Numeral.{scan_numeral}
use Rattle.json.specs.Print.{escape_byte}
use Rattle.json.specs.Json as json
use Rattle.json.specs.Lex.{punctuate, lex}
use Rattle.json.specs.Text.{content}
use Rattle.json.specs.Word.{word, after_number}
use Rattle.serde_json.specs.Read.{number_of}
use Rattle.cs_json.specs.Reading.{outcome}
use Rattle.cs_json.specs.Text.{json_text}
use Rattle.cs_jsonmatch.specs.Verdict.{path_verdict}
use Rattle.cs_grammar.specs.Reading.{read}
use Rattle.cs_parse.specs.Spelling.{expression_in}
use Rattle.cs_parse.specs.Tokens.{tokens_from}
use Rattle.cs_parse.specs.Verdict.{verdict}
use Rattle.cs_wire.specs.Rows.{command}
use Rattle.cs_machine.specs.DataFile.{said}
use Rattle.cs_machine.specs.Examples.{Plays}
use Rattle.cs_machine.specs.Machine.{step}

-- A live answer changes with a document that is referred to, and is not written again without a
-- change.
answers_by_reference :
    Plays
    (codes "{\"_id\":\"p\",\"_type\":\"post\",\"author\":{\"_ref\":\"au\",\"_weak\":true}}"
    ∷ [])
    (codes "{\"live\":\"v\",\"query\":\"*[_type == 'post'].author->name\"}"
    ∷ (codes "{\"mutate\":{\"mutations\":[{\"create\":{\"_id\":\"au\",\"_type\":\"person\","
    ++ codes "\"name\":\"Ann\"}}]}}")
    ∷ codes "{\"mutate\":{\"mutations\":[{\"create\":{\"_id\":\"x\",\"_type\":\"other\"}}]}}"
    ∷ [])
    (codes "{\"line\":1,\"live\":\"v\",\"result\":[null]}"
    ∷ (codes "{\"line\":2,\"results\":[{\"id\":\"au\",\"operation\":\"create\"}],"
    ++ codes "\"transactionId\":\"tx-2\"}")
    ∷ codes "{\"line\":2,\"live\":\"v\",\"result\":[\"Ann\"]}"
    ∷ (codes "{\"line\":3,\"results\":[{\"id\":\"x\",\"operation\":\"create\"}],"
    ++ codes "\"transactionId\":\"tx-3\"}")
    ∷ [])
unfolding step said outcome command verdict path_verdict tokens_from expression_in read
    json_text escape_byte json.value punctuate lex content word after_number number_of scan_numeral
    is_utf8 chars digits lib.Utf8.encode
answers_by_reference = refl

-- An absent attribute is null, and so is a parameter that is not given.
absent_is_null :
    Plays
    []
    (codes "{\"live\":\"v\",\"query\":\"*[author == $x]{_id}\"}"
    ∷ codes "{\"mutate\":{\"mutations\":[{\"create\":{\"_id\":\"a\",\"_type\":\"t\"}}]}}"
    ∷ (codes "{\"mutate\":{\"mutations\":[{\"patch\":{\"id\":\"a\",\"set\":"
    ++ codes "{\"author\":\"z\"}}}]}}")
    ∷ codes "{\"mutate\":{\"mutations\":[{\"patch\":{\"id\":\"a\",\"unset\":[\"author\"]}}]}}"
    ∷ [])
    (codes "{\"line\":1,\"live\":\"v\",\"result\":[]}"
    ∷ (codes "{\"line\":2,\"results\":[{\"id\":\"a\",\"operation\":\"create\"}],"
    ++ codes "\"transactionId\":\"tx-2\"}")
    ∷ codes "{\"line\":2,\"live\":\"v\",\"result\":[{\"_id\":\"a\"}]}"
    ∷ (codes "{\"line\":3,\"results\":[{\"id\":\"a\",\"operation\":\"update\"}],"
    ++ codes "\"transactionId\":\"tx-3\"}")
    ∷ codes "{\"line\":3,\"live\":\"v\",\"result\":[]}"
    ∷ (codes "{\"line\":4,\"results\":[{\"id\":\"a\",\"operation\":\"update\"}],"
    ++ codes "\"transactionId\":\"tx-4\"}")
    ∷ codes "{\"line\":4,\"live\":\"v\",\"result\":[{\"_id\":\"a\"}]}"
    ∷ [])
unfolding step said outcome command verdict path_verdict tokens_from expression_in read
    json_text escape_byte json.value punctuate lex content word after_number number_of scan_numeral
    is_utf8 chars digits lib.Utf8.encode
absent_is_null = refl

-- Live queries and listeners share their names.
names :
    Plays
    []
    (codes "{\"listen\":\"s\",\"query\":\"*\"}"
    ∷ codes "{\"live\":\"s\",\"query\":\"1\"}"
    ∷ codes "{\"listen\":\"u\",\"query\":\"*[a->b == 1]\"}"
    ∷ codes "{\"stop\":\"s\"}"
    ∷ codes "{\"stop\":\"s\"}"
    ∷ [])
    (codes "{\"line\":1,\"listener\":\"s\",\"type\":\"welcome\"}"
    ∷ codes "{\"error\":\"name-used\",\"line\":2,\"name\":\"s\"}"
    ∷ codes "{\"error\":\"not-listenable\",\"line\":3}"
    ∷ codes "{\"line\":4,\"stopped\":\"s\"}"
    ∷ codes "{\"error\":\"no-name\",\"line\":5,\"name\":\"s\"}"
    ∷ [])
unfolding step said outcome command verdict path_verdict tokens_from expression_in read
    json_text escape_byte json.value punctuate lex content word after_number number_of scan_numeral
    is_utf8 chars digits lib.Utf8.encode
names = refl

-- A created document without an id gets one; documents are deleted by a query.
made_ids :
    Plays
    []
    ((codes "{\"mutate\":{\"mutations\":[{\"create\":{\"_type\":\"t\"}},{\"create\":"
    ++ codes "{\"_id\":\"b\",\"_type\":\"t\"}},{\"createIfNotExists\":{\"_id\":\"b\","
    ++ codes "\"_type\":\"u\"}}]}}")
    ∷ codes "{\"mutate\":{\"mutations\":[{\"patch\":{\"id\":\"zz\",\"set\":{\"x\":1}}}]}}"
    ∷ codes "{\"mutate\":{\"mutations\":[{\"delete\":{\"query\":\"*.x\"}}]}}"
    ∷ (codes "{\"mutate\":{\"mutations\":[{\"delete\":{\"id\":\"zz\"}},{\"delete\":"
    ++ codes "{\"query\":\"*[_type == $t]\",\"params\":{\"t\":\"t\"}}}]}}")
    ∷ codes "{\"mutate\":{\"mutations\":[{\"create\":{\"_id\":\"-x\",\"_type\":\"t\"}}]}}"
    ∷ [])
    ((codes "{\"line\":1,\"results\":[{\"id\":\"b\",\"operation\":\"create\"},"
    ++ codes "{\"id\":\"tx-1-0\",\"operation\":\"create\"}],\"transactionId\":\"tx-1\"}")
    ∷ codes "{\"error\":\"missing\",\"id\":\"zz\",\"line\":2,\"mutation\":0}"
    ∷ codes "{\"error\":\"not-documents\",\"line\":3,\"mutation\":0}"
    ∷ (codes "{\"line\":4,\"results\":[{\"id\":\"b\",\"operation\":\"delete\"},"
    ++ codes "{\"id\":\"tx-1-0\",\"operation\":\"delete\"}],\"transactionId\":\"tx-4\"}")
    ∷ codes "{\"error\":\"bad-document\",\"line\":5,\"mutation\":0}"
    ∷ [])
unfolding step said outcome command verdict path_verdict tokens_from expression_in read
    json_text escape_byte json.value punctuate lex content word after_number number_of scan_numeral
    is_utf8 chars digits lib.Utf8.encode
made_ids = refl

-- A line sets the moment, which stamps documents, and tells no live answer.
moments :
    Plays
    []
    (codes "{\"at\":\"2024-02-30T00:00:00Z\"}"
    ∷ codes "{\"at\":\"2024-02-29T12:00:00Z\"}"
    ∷ codes "{\"mutate\":{\"mutations\":[{\"create\":{\"_id\":\"a\",\"_type\":\"t\"}}]}}"
    ∷ codes "{\"at\":\"2024-03-01T00:00:00Z\"}"
    ∷ codes "{\"mutate\":{\"mutations\":[{\"patch\":{\"id\":\"a\",\"set\":{\"n\":1}}}]}}"
    ∷ codes "{\"query\":\"*[0]{_createdAt, _updatedAt, _rev}\"}"
    ∷ codes "{\"live\":\"v\",\"query\":\"1\"}"
    ∷ codes "{\"at\":\"2024-03-02T00:00:00Z\"}"
    ∷ [])
    (codes "{\"error\":\"bad-moment\",\"line\":1}"
    ∷ codes "{\"at\":\"2024-02-29T12:00:00Z\",\"line\":2}"
    ∷ (codes "{\"line\":3,\"results\":[{\"id\":\"a\",\"operation\":\"create\"}],"
    ++ codes "\"transactionId\":\"tx-3\"}")
    ∷ codes "{\"at\":\"2024-03-01T00:00:00Z\",\"line\":4}"
    ∷ (codes "{\"line\":5,\"results\":[{\"id\":\"a\",\"operation\":\"update\"}],"
    ++ codes "\"transactionId\":\"tx-5\"}")
    ∷ (codes "{\"line\":6,\"result\":{\"_createdAt\":\"2024-02-29T12:00:00Z\","
    ++ codes "\"_rev\":\"tx-5\",\"_updatedAt\":\"2024-03-01T00:00:00Z\"}}")
    ∷ codes "{\"line\":7,\"live\":\"v\",\"result\":1}"
    ∷ codes "{\"at\":\"2024-03-02T00:00:00Z\",\"line\":8}"
    ∷ [])
unfolding step said outcome command verdict path_verdict tokens_from expression_in read
    json_text escape_byte json.value punctuate lex content word after_number number_of scan_numeral
    is_utf8 chars digits lib.Utf8.encode
moments = refl

-- After a transaction come its reply, the events by listener and then by document, and the live
-- answers in the order made.
each_in_its_order :
    Plays
    (codes "{\"_id\":\"b\",\"_type\":\"t\",\"n\":1}"
    ∷ codes "{\"_id\":\"c\",\"_type\":\"t\",\"n\":2}"
    ∷ [])
    (codes "{\"live\":\"w\",\"query\":\"*[n > 1]._id\"}"
    ∷ codes "{\"listen\":\"z\",\"query\":\"*[n > 1]\",\"includeResult\":true}"
    ∷ codes "{\"live\":\"v\",\"query\":\"count(*)\"}"
    ∷ codes "{\"listen\":\"y\",\"query\":\"*\"}"
    ∷ codes "{\"live\":\"u\",\"query\":\"1\"}"
    ∷ (codes "{\"mutate\":{\"mutations\":[{\"patch\":{\"query\":\"*[n > 0]\",\"inc\":"
    ++ codes "{\"n\":1}}},{\"createOrReplace\":{\"_id\":\"a\",\"_type\":\"t\",\"n\":5}},"
    ++ codes "{\"delete\":{\"id\":\"c\"}}]}}")
    ∷ [])
    (codes "{\"line\":1,\"live\":\"w\",\"result\":[\"c\"]}"
    ∷ codes "{\"line\":2,\"listener\":\"z\",\"type\":\"welcome\"}"
    ∷ codes "{\"line\":3,\"live\":\"v\",\"result\":2}"
    ∷ codes "{\"line\":4,\"listener\":\"y\",\"type\":\"welcome\"}"
    ∷ codes "{\"line\":5,\"live\":\"u\",\"result\":1}"
    ∷ (codes "{\"line\":6,\"results\":[{\"id\":\"a\",\"operation\":\"create\"},{\"id\":\"b\","
    ++ codes "\"operation\":\"update\"},{\"id\":\"c\",\"operation\":\"delete\"}],"
    ++ codes "\"transactionId\":\"tx-6\"}")
    ∷ (codes "{\"documentId\":\"a\",\"line\":6,\"listener\":\"z\",\"result\":"
    ++ codes "{\"_createdAt\":\"1970-01-01T00:00:00Z\",\"_id\":\"a\",\"_rev\":\"tx-6\","
    ++ codes "\"_type\":\"t\",\"_updatedAt\":\"1970-01-01T00:00:00Z\",\"n\":5},"
    ++ codes "\"resultRev\":\"tx-6\",\"timestamp\":\"1970-01-01T00:00:00Z\","
    ++ codes "\"transactionId\":\"tx-6\",\"transition\":\"appear\",\"type\":\"mutation\"}")
    ∷ (codes "{\"documentId\":\"b\",\"line\":6,\"listener\":\"z\",\"previousRev\":\"import\","
    ++ codes "\"result\":{\"_createdAt\":\"1970-01-01T00:00:00Z\",\"_id\":\"b\","
    ++ codes "\"_rev\":\"tx-6\",\"_type\":\"t\",\"_updatedAt\":\"1970-01-01T00:00:00Z\","
    ++ codes "\"n\":2},\"resultRev\":\"tx-6\",\"timestamp\":\"1970-01-01T00:00:00Z\","
    ++ codes "\"transactionId\":\"tx-6\",\"transition\":\"appear\",\"type\":\"mutation\"}")
    ∷ (codes "{\"documentId\":\"c\",\"line\":6,\"listener\":\"z\",\"previousRev\":\"import\","
    ++ codes "\"timestamp\":\"1970-01-01T00:00:00Z\",\"transactionId\":\"tx-6\","
    ++ codes "\"transition\":\"disappear\",\"type\":\"mutation\"}")
    ∷ (codes "{\"documentId\":\"a\",\"line\":6,\"listener\":\"y\",\"resultRev\":\"tx-6\","
    ++ codes "\"timestamp\":\"1970-01-01T00:00:00Z\",\"transactionId\":\"tx-6\","
    ++ codes "\"transition\":\"appear\",\"type\":\"mutation\"}")
    ∷ (codes "{\"documentId\":\"b\",\"line\":6,\"listener\":\"y\",\"previousRev\":\"import\","
    ++ codes "\"resultRev\":\"tx-6\",\"timestamp\":\"1970-01-01T00:00:00Z\","
    ++ codes "\"transactionId\":\"tx-6\",\"transition\":\"update\",\"type\":\"mutation\"}")
    ∷ (codes "{\"documentId\":\"c\",\"line\":6,\"listener\":\"y\",\"previousRev\":\"import\","
    ++ codes "\"timestamp\":\"1970-01-01T00:00:00Z\",\"transactionId\":\"tx-6\","
    ++ codes "\"transition\":\"disappear\",\"type\":\"mutation\"}")
    ∷ codes "{\"line\":6,\"live\":\"w\",\"result\":[\"a\",\"b\"]}"
    ∷ [])
unfolding step said outcome command verdict path_verdict tokens_from expression_in read
    json_text escape_byte json.value punctuate lex content word after_number number_of scan_numeral
    is_utf8 chars digits lib.Utf8.encode
each_in_its_order = refl
