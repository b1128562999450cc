-- Whole runs, played from bytes to bytes.
use Rattle.std.proofs.Common.{◌≡◌, [], ◌∷◌, ◌++◌, codes, refl}
use Rattle.std.specs.Fmt.{digits}
use Rattle.std.specs.Str.{chars, is_utf8}
use Rattle.std.specs.Float.Numeral.{scan_numeral}
use Rattle.json.specs.Print.{escape_byte}
use Rattle.json.specs.Json as json
use Rattle.json.specs.Lex.{punctuate, lex}
use Rattle.json.specs.Text.{content}
use Rattle.json.specs.Word.{word, after_number}
use Rattle.serde_json.specs.Read.{number_of}
use Rattle.cs_json.specs.Reading.{outcome}
use Rattle.cs_json.specs.Text.{json_text}
use Rattle.cs_jsonmatch.specs.Verdict.{path_verdict}
use Rattle.cs_grammar.specs.Reading.{read}
use Rattle.cs_parse.specs.Spelling.{expression_in}
use Rattle.cs_parse.specs.Tokens.{tokens_from}
use Rattle.cs_parse.specs.Verdict.{verdict}
use Rattle.cs_gen.specs.Generated.{generated}
use Rattle.cs_wire.specs.Rows.{command}
use Rattle.cs_machine.specs.DataFile.{said}
use Rattle.cs_machine.specs.Examples.{Plays, Ends}
use Rattle.cs_machine.specs.Expected.{done, bad_data, summary_of}
use Rattle.cs_machine.specs.Machine.{step}

-- A document is created, found, and not created twice.
a_document :
    Plays
    []
    (codes "{\"mutate\":{\"mutations\":[{\"create\":{\"_id\":\"a\",\"_type\":\"t\",\"n\":1}}]}}"
    ∷ codes "{\"query\":\"*\"}"
    ∷ codes "{\"mutate\":{\"mutations\":[{\"create\":{\"_id\":\"a\",\"_type\":\"t\"}}]}}"
    ∷ [])
    ((codes "{\"line\":1,\"results\":[{\"id\":\"a\",\"operation\":\"create\"}],"
    ++ codes "\"transactionId\":\"tx-1\"}")
    ∷ (codes "{\"line\":2,\"result\":[{\"_createdAt\":\"1970-01-01T00:00:00Z\",\"_id\":\"a\","
    ++ codes "\"_rev\":\"tx-1\",\"_type\":\"t\",\"_updatedAt\":\"1970-01-01T00:00:00Z\","
    ++ codes "\"n\":1}]}")
    ∷ codes "{\"error\":\"exists\",\"id\":\"a\",\"line\":3,\"mutation\":0}"
    ∷ [])
unfolding step said outcome command verdict path_verdict tokens_from expression_in read
    json_text escape_byte json.value punctuate lex content word after_number number_of scan_numeral
    is_utf8 chars digits lib.Utf8.encode
a_document = refl

-- A blank line is counted and has no reply.
blank_lines :
    Plays
    []
    (codes ""
    ∷ codes " \t\r"
    ∷ codes "{\"mutate\":{\"mutations\":[{\"create\":{\"_id\":\"a\",\"_type\":\"t\",\"n\":1}}]}}"
    ∷ codes "{\"query\":\"*\"}"
    ∷ codes "{\"mutate\":{\"mutations\":[{\"create\":{\"_id\":\"a\",\"_type\":\"t\"}}]}}"
    ∷ [])
    ((codes "{\"line\":3,\"results\":[{\"id\":\"a\",\"operation\":\"create\"}],"
    ++ codes "\"transactionId\":\"tx-3\"}")
    ∷ (codes "{\"line\":4,\"result\":[{\"_createdAt\":\"1970-01-01T00:00:00Z\",\"_id\":\"a\","
    ++ codes "\"_rev\":\"tx-3\",\"_type\":\"t\",\"_updatedAt\":\"1970-01-01T00:00:00Z\","
    ++ codes "\"n\":1}]}")
    ∷ codes "{\"error\":\"exists\",\"id\":\"a\",\"line\":5,\"mutation\":0}"
    ∷ [])
unfolding step said outcome command verdict path_verdict tokens_from expression_in read
    json_text escape_byte json.value punctuate lex content word after_number number_of scan_numeral
    is_utf8 chars digits lib.Utf8.encode
blank_lines = refl

-- Each refused line says its cause.
refused_lines :
    Plays
    []
    (codes "{\"query\":"
    ∷ codes "{\"query\":\"$p\",\"params\":{\"p\":9223372036854775808}}"
    ∷ codes "{\"query\":1}"
    ∷ codes " \t"
    ∷ codes "{\"query\":\"1 #\"}"
    ∷ codes "{\"query\":\"\"}"
    ∷ codes "{\"query\":\"*[a / 2 > 1]\"}"
    ∷ codes "{\"query\":\"foo(1)\"}"
    ∷ codes "{\"query\":\"count()\"}"
    ∷ codes "{\"query\":\"*{a.b}\"}"
    ∷ codes "{\"listen\":\"u\",\"query\":\"*[a->b == 1]\"}"
    ∷ codes "{\"live\":\"s\",\"query\":\"1\"}"
    ∷ codes "{\"listen\":\"s\",\"query\":\"*\"}"
    ∷ codes "{\"stop\":\"t\"}"
    ∷ codes "{\"at\":\"2023-02-29T00:00:00Z\"}"
    ∷ codes "{\"mutate\":{\"mutations\":[],\"transactionId\":\"tx-9\"}}"
    ∷ codes "{\"mutate\":{\"mutations\":[],\"transactionId\":\"T\"}}"
    ∷ codes "{\"mutate\":{\"mutations\":[],\"transactionId\":\"T\"}}"
    ∷ codes "{\"mutate\":{\"mutations\":[{\"delete\":{\"query\":\"*[a\"}}]}}"
    ∷ [])
    (codes "{\"error\":\"not-json\",\"line\":1}"
    ∷ codes "{\"error\":\"not-whole\",\"line\":2}"
    ∷ codes "{\"error\":\"bad-command\",\"line\":3}"
    ∷ codes "{\"at\":2,\"error\":\"bad-token\",\"line\":5}"
    ∷ codes "{\"error\":\"syntax\",\"line\":6}"
    ∷ codes "{\"error\":\"unsupported\",\"line\":7,\"name\":\"/\"}"
    ∷ codes "{\"error\":\"unknown-function\",\"line\":8,\"name\":\"foo\"}"
    ∷ codes "{\"error\":\"arity\",\"line\":9,\"name\":\"count\"}"
    ∷ codes "{\"error\":\"no-key\",\"line\":10}"
    ∷ codes "{\"error\":\"not-listenable\",\"line\":11}"
    ∷ codes "{\"line\":12,\"live\":\"s\",\"result\":1}"
    ∷ codes "{\"error\":\"name-used\",\"line\":13,\"name\":\"s\"}"
    ∷ codes "{\"error\":\"no-name\",\"line\":14,\"name\":\"t\"}"
    ∷ codes "{\"error\":\"bad-moment\",\"line\":15}"
    ∷ codes "{\"error\":\"bad-tx\",\"line\":16}"
    ∷ codes "{\"line\":17,\"results\":[],\"transactionId\":\"T\"}"
    ∷ codes "{\"error\":\"tx-used\",\"id\":\"T\",\"line\":18}"
    ∷ codes "{\"error\":\"syntax\",\"line\":19,\"mutation\":0}"
    ∷ [])
unfolding step said outcome command verdict path_verdict tokens_from expression_in read
    json_text escape_byte json.value punctuate lex content word after_number number_of scan_numeral
    is_utf8 chars digits lib.Utf8.encode
refused_lines = refl

-- A data file's documents stand in the order of their ids, with the attributes that they lack.
loaded :
    Plays
    (codes "{\"_id\":\"b\",\"_type\":\"t\",\"_rev\":\"r\"}"
    ∷ codes "{\"_id\":\"a\",\"_type\":\"t\"}"
    ∷ [])
    (codes "{\"query\":\"*\"}"
    ∷ [])
    ((codes "{\"line\":1,\"result\":[{\"_createdAt\":\"1970-01-01T00:00:00Z\",\"_id\":\"a\","
    ++ codes "\"_rev\":\"import\",\"_type\":\"t\",\"_updatedAt\":\"1970-01-01T00:00:00Z\"},"
    ++ codes "{\"_createdAt\":\"1970-01-01T00:00:00Z\",\"_id\":\"b\",\"_rev\":\"r\","
    ++ codes "\"_type\":\"t\",\"_updatedAt\":\"1970-01-01T00:00:00Z\"}]}")
    ∷ [])
unfolding step said outcome command verdict path_verdict tokens_from expression_in read
    json_text escape_byte json.value punctuate lex content word after_number number_of scan_numeral
    is_utf8 chars digits lib.Utf8.encode
loaded = refl

-- A line of a data file that is no document stops the run.
no_document :
    Plays
    (codes "{\"_id\":\"b\",\"_type\":\"t\"}"
    ∷ codes "{\"_id\":\"a\"}"
    ∷ [])
    (codes "{\"mutate\":{\"mutations\":[{\"create\":{\"_id\":\"a\",\"_type\":\"t\",\"n\":1}}]}}"
    ∷ codes "{\"query\":\"*\"}"
    ∷ codes "{\"mutate\":{\"mutations\":[{\"create\":{\"_id\":\"a\",\"_type\":\"t\"}}]}}"
    ∷ [])
    (codes "{\"cause\":\"bad-document\",\"error\":\"data\",\"line\":2}"
    ∷ [])
unfolding step said outcome command verdict path_verdict tokens_from expression_in read
    json_text escape_byte json.value punctuate lex content word after_number number_of scan_numeral
    is_utf8 chars digits lib.Utf8.encode
no_document = refl

-- It then ends so.
no_document_ends :
    Ends
    (codes "{\"_id\":\"b\",\"_type\":\"t\"}"
    ∷ codes "{\"_id\":\"a\"}"
    ∷ [])
    (codes "{\"mutate\":{\"mutations\":[{\"create\":{\"_id\":\"a\",\"_type\":\"t\",\"n\":1}}]}}"
    ∷ codes "{\"query\":\"*\"}"
    ∷ codes "{\"mutate\":{\"mutations\":[{\"create\":{\"_id\":\"a\",\"_type\":\"t\"}}]}}"
    ∷ [])
    bad_data
unfolding step said outcome command verdict path_verdict tokens_from expression_in read
    json_text escape_byte json.value punctuate lex content word after_number number_of scan_numeral
    is_utf8 chars digits lib.Utf8.encode
no_document_ends = refl

-- So does an id that stands twice.
repeated :
    Plays
    (codes "{\"_id\":\"a\",\"_type\":\"t\"}"
    ∷ codes "{\"_id\":\"a\",\"_type\":\"u\"}"
    ∷ [])
    (codes "{\"mutate\":{\"mutations\":[{\"create\":{\"_id\":\"a\",\"_type\":\"t\",\"n\":1}}]}}"
    ∷ codes "{\"query\":\"*\"}"
    ∷ codes "{\"mutate\":{\"mutations\":[{\"create\":{\"_id\":\"a\",\"_type\":\"t\"}}]}}"
    ∷ [])
    (codes "{\"cause\":\"repeated\",\"error\":\"data\",\"id\":\"a\",\"line\":2}"
    ∷ [])
unfolding step said outcome command verdict path_verdict tokens_from expression_in read
    json_text escape_byte json.value punctuate lex content word after_number number_of scan_numeral
    is_utf8 chars digits lib.Utf8.encode
repeated = refl

-- So does a strong reference to no document.
dangling :
    Plays
    (codes "{\"_id\":\"a\",\"_type\":\"t\",\"r\":{\"_ref\":\"b\"}}"
    ∷ [])
    (codes "{\"mutate\":{\"mutations\":[{\"create\":{\"_id\":\"a\",\"_type\":\"t\",\"n\":1}}]}}"
    ∷ codes "{\"query\":\"*\"}"
    ∷ codes "{\"mutate\":{\"mutations\":[{\"create\":{\"_id\":\"a\",\"_type\":\"t\"}}]}}"
    ∷ [])
    (codes "{\"cause\":\"dangling\",\"error\":\"data\",\"from\":\"a\",\"to\":\"b\"}"
    ∷ [])
unfolding step said outcome command verdict path_verdict tokens_from expression_in read
    json_text escape_byte json.value punctuate lex content word after_number number_of scan_numeral
    is_utf8 chars digits lib.Utf8.encode
dangling = refl

-- A script that is read to its end ends so, whatever its lines are.
all_done :
    Ends
    (codes "{\"_id\":\"a\",\"_type\":\"t\"}"
    ∷ [])
    (codes "{\"query\":"
    ∷ codes "{\"query\":\"$p\",\"params\":{\"p\":9223372036854775808}}"
    ∷ codes "{\"query\":1}"
    ∷ [])
    done
unfolding step said outcome command verdict path_verdict tokens_from expression_in read
    json_text escape_byte json.value punctuate lex content word after_number number_of scan_numeral
    is_utf8 chars digits lib.Utf8.encode
all_done = refl

-- The generated script without documents.
generated_0 :
    summary_of step (generated 0)
    ≡ (codes "{\"documents\":0,\"events\":0,\"lines\":3,\"live\":1,\"refused\":0,\"re"
    ++ codes "plies\":3}\n")
unfolding step said outcome command verdict path_verdict tokens_from expression_in read
    json_text escape_byte json.value punctuate lex content word after_number number_of scan_numeral
    is_utf8 chars digits lib.Utf8.encode
generated_0 = refl

-- Two authors appear to the listener, and are not deleted, since posts refer to them.
generated_20 :
    summary_of step (generated 20)
    ≡ (codes "{\"documents\":20,\"events\":2,\"lines\":25,\"live\":2,\"refused\":2,\""
    ++ codes "replies\":28}\n")
unfolding step said outcome command verdict path_verdict tokens_from expression_in read
    json_text escape_byte json.value punctuate lex content word after_number number_of scan_numeral
    is_utf8 chars digits lib.Utf8.encode
generated_20 = refl
