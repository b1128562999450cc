-- Transactions and events, played from bytes to bytes.
use Rattle.std.proofs.Common.{[], ◌∷◌, ◌++◌, codes, refl}
use Rattle.std.specs.Fmt.{digits}
use Rattle.std.specs.Str.{chars, is_utf8}
use Rattle.std.specs.Float.Numeral.{scan_numeral}
use Rattle.json.specs.Print.{escape_byte}
use Rattle.json.specs.Json as json
use Rattle.json.specs.Lex.{punctuate, lex}
use Rattle.json.specs.Text.{content}
use Rattle.json.specs.Word.{word, after_number}
use Rattle.serde_json.specs.Read.{number_of}
use Rattle.cs_json.specs.Reading.{outcome}
use Rattle.cs_json.specs.Text.{json_text}
use Rattle.cs_jsonmatch.specs.Verdict.{path_verdict}
use Rattle.cs_grammar.specs.Reading.{read}
use Rattle.cs_parse.specs.Spelling.{expression_in}
use Rattle.cs_parse.specs.Tokens.{tokens_from}
use Rattle.cs_parse.specs.Verdict.{verdict}
use Rattle.cs_wire.specs.Rows.{command}
use Rattle.cs_machine.specs.DataFile.{said}
use Rattle.cs_machine.specs.Examples.{Plays}
use Rattle.cs_machine.specs.Machine.{step}

-- Documents that refer to one another are created together; one is deleted once the other refers
-- to it weakly.
references_both_ways :
    Plays
    []
    ((codes "{\"mutate\":{\"mutations\":[{\"create\":{\"_id\":\"a\",\"_type\":\"t\",\"to\":"
    ++ codes "{\"_ref\":\"b\"}}},{\"create\":{\"_id\":\"b\",\"_type\":\"t\",\"to\":"
    ++ codes "{\"_ref\":\"a\"}}}]}}")
    ∷ codes "{\"mutate\":{\"mutations\":[{\"delete\":{\"id\":\"b\"}}]}}"
    ∷ (codes "{\"mutate\":{\"mutations\":[{\"patch\":{\"id\":\"a\",\"set\":"
    ++ codes "{\"to._weak\":true}}}]}}")
    ∷ codes "{\"mutate\":{\"mutations\":[{\"delete\":{\"id\":\"b\"}}]}}"
    ∷ [])
    ((codes "{\"line\":1,\"results\":[{\"id\":\"a\",\"operation\":\"create\"},{\"id\":\"b\","
    ++ codes "\"operation\":\"create\"}],\"transactionId\":\"tx-1\"}")
    ∷ codes "{\"error\":\"dangling\",\"from\":\"a\",\"line\":2,\"to\":\"b\"}"
    ∷ (codes "{\"line\":3,\"results\":[{\"id\":\"a\",\"operation\":\"update\"}],"
    ++ codes "\"transactionId\":\"tx-3\"}")
    ∷ (codes "{\"line\":4,\"results\":[{\"id\":\"b\",\"operation\":\"delete\"}],"
    ++ codes "\"transactionId\":\"tx-4\"}")
    ∷ [])
unfolding step said outcome command verdict path_verdict tokens_from expression_in read
    json_text escape_byte json.value punctuate lex content word after_number number_of scan_numeral
    is_utf8 chars digits lib.Utf8.encode
references_both_ways = refl

-- A refused transaction changes nothing, and its id can be used again.
refused_as_a_whole :
    Plays
    []
    (codes "{\"listen\":\"l\",\"query\":\"*\"}"
    ∷ codes "{\"live\":\"v\",\"query\":\"count(*)\"}"
    ∷ (codes "{\"mutate\":{\"transactionId\":\"T\",\"mutations\":[{\"create\":{\"_id\":\"a\","
    ++ codes "\"_type\":\"t\"}},{\"create\":{\"_id\":\"b\",\"_type\":\"t\"}},{\"create\":"
    ++ codes "{\"_id\":\"a\",\"_type\":\"t\"}}]}}")
    ∷ (codes "{\"mutate\":{\"transactionId\":\"T\",\"mutations\":[{\"create\":{\"_id\":\"a\","
    ++ codes "\"_type\":\"t\"}}]}}")
    ∷ codes "{\"mutate\":{\"transactionId\":\"T\",\"mutations\":[]}}"
    ∷ codes "{\"mutate\":{\"transactionId\":\"tx-9\",\"mutations\":[]}}"
    ∷ [])
    (codes "{\"line\":1,\"listener\":\"l\",\"type\":\"welcome\"}"
    ∷ codes "{\"line\":2,\"live\":\"v\",\"result\":0}"
    ∷ codes "{\"error\":\"exists\",\"id\":\"a\",\"line\":3,\"mutation\":2}"
    ∷ (codes "{\"line\":4,\"results\":[{\"id\":\"a\",\"operation\":\"create\"}],"
    ++ codes "\"transactionId\":\"T\"}")
    ∷ (codes "{\"documentId\":\"a\",\"line\":4,\"listener\":\"l\",\"resultRev\":\"T\","
    ++ codes "\"timestamp\":\"1970-01-01T00:00:00Z\",\"transactionId\":\"T\","
    ++ codes "\"transition\":\"appear\",\"type\":\"mutation\"}")
    ∷ codes "{\"line\":4,\"live\":\"v\",\"result\":1}"
    ∷ codes "{\"error\":\"tx-used\",\"id\":\"T\",\"line\":5}"
    ∷ codes "{\"error\":\"bad-tx\",\"line\":6}"
    ∷ [])
unfolding step said outcome command verdict path_verdict tokens_from expression_in read
    json_text escape_byte json.value punctuate lex content word after_number number_of scan_numeral
    is_utf8 chars digits lib.Utf8.encode
refused_as_a_whole = refl

-- A patch is refused for another revision, an attribute that stays, a text that is no path, and a
-- form that is refused.
patch_refusals :
    Plays
    []
    (codes "{\"mutate\":{\"mutations\":[{\"create\":{\"_id\":\"a\",\"_type\":\"t\",\"n\":1}}]}}"
    ∷ (codes "{\"mutate\":{\"mutations\":[{\"patch\":{\"id\":\"a\",\"ifRevisionID\":\"tx-1\","
    ++ codes "\"inc\":{\"n\":1}}}]}}")
    ∷ (codes "{\"mutate\":{\"mutations\":[{\"patch\":{\"id\":\"a\",\"ifRevisionID\":\"tx-1\","
    ++ codes "\"inc\":{\"n\":1}}}]}}")
    ∷ codes "{\"mutate\":{\"mutations\":[{\"patch\":{\"id\":\"a\",\"set\":{\"_type\":\"u\"}}}]}}"
    ∷ codes "{\"mutate\":{\"mutations\":[{\"patch\":{\"id\":\"a\",\"set\":{\"a[\":1}}}]}}"
    ∷ codes "{\"mutate\":{\"mutations\":[{\"patch\":{\"id\":\"a\",\"diffMatchPatch\":{}}}]}}"
    ∷ [])
    ((codes "{\"line\":1,\"results\":[{\"id\":\"a\",\"operation\":\"create\"}],"
    ++ codes "\"transactionId\":\"tx-1\"}")
    ∷ (codes "{\"line\":2,\"results\":[{\"id\":\"a\",\"operation\":\"update\"}],"
    ++ codes "\"transactionId\":\"tx-2\"}")
    ∷ (codes "{\"error\":\"revision\",\"expected\":\"tx-1\",\"found\":\"tx-2\",\"id\":\"a\","
    ++ codes "\"line\":3,\"mutation\":0}")
    ∷ codes "{\"error\":\"immutable\",\"id\":\"a\",\"line\":4,\"mutation\":0,\"name\":\"_type\"}"
    ∷ codes "{\"at\":2,\"error\":\"bad-path\",\"line\":5,\"mutation\":0,\"path\":\"a[\"}"
    ∷ codes "{\"error\":\"unsupported\",\"line\":6,\"mutation\":0,\"name\":\"diffMatchPatch\"}"
    ∷ [])
unfolding step said outcome command verdict path_verdict tokens_from expression_in read
    json_text escape_byte json.value punctuate lex content word after_number number_of scan_numeral
    is_utf8 chars digits lib.Utf8.encode
patch_refusals = refl

-- Paths match several places, negative positions and ranges; some places can't be patched.
paths :
    Plays
    []
    ((codes "{\"mutate\":{\"mutations\":[{\"create\":{\"_id\":\"a\",\"_type\":\"t\",\"a\":[0,1,"
    ++ codes "2,3],\"e\":[],\"items\":[{\"_key\":\"k\",\"n\":1},{\"sub\":[{\"_key\":\"k\"}]}],"
    ++ codes "\"m\":9223372036854775807}}]}}")
    ∷ (codes "{\"mutate\":{\"mutations\":[{\"patch\":{\"id\":\"a\",\"setIfMissing\":{\"a\":7,"
    ++ codes "\"b.c\":1},\"set\":{\"..[_key=='k'].n\":5},\"unset\":[\"a[1:3]\"],\"insert\":"
    ++ codes "{\"after\":\"e[-1]\",\"items\":[\"x\"]}}}]}}")
    ∷ codes "{\"query\":\"*[0]{a, b, e, items}\"}"
    ∷ codes "{\"mutate\":{\"mutations\":[{\"patch\":{\"id\":\"a\",\"inc\":{\"m\":1}}}]}}"
    ∷ codes "{\"mutate\":{\"mutations\":[{\"patch\":{\"id\":\"a\",\"inc\":{\"e\":1}}}]}}"
    ∷ (codes "{\"mutate\":{\"mutations\":[{\"patch\":{\"id\":\"a\",\"insert\":{\"before\":\"m"
    ++ codes "[0]\",\"items\":[]}}}]}}")
    ∷ [])
    ((codes "{\"line\":1,\"results\":[{\"id\":\"a\",\"operation\":\"create\"}],"
    ++ codes "\"transactionId\":\"tx-1\"}")
    ∷ (codes "{\"line\":2,\"results\":[{\"id\":\"a\",\"operation\":\"update\"}],"
    ++ codes "\"transactionId\":\"tx-2\"}")
    ∷ (codes "{\"line\":3,\"result\":{\"a\":[0,3],\"b\":{\"c\":1},\"e\":[\"x\"],\"items\":["
    ++ codes "{\"_key\":\"k\",\"n\":5},{\"sub\":[{\"_key\":\"k\",\"n\":5}]}]}}")
    ∷ codes "{\"error\":\"overflow\",\"id\":\"a\",\"line\":4,\"mutation\":0,\"path\":\"m\"}"
    ∷ codes "{\"error\":\"not-number\",\"id\":\"a\",\"line\":5,\"mutation\":0,\"path\":\"e\"}"
    ∷ codes "{\"error\":\"not-array\",\"id\":\"a\",\"line\":6,\"mutation\":0,\"path\":\"m[0]\"}"
    ∷ [])
unfolding step said outcome command verdict path_verdict tokens_from expression_in read
    json_text escape_byte json.value punctuate lex content word after_number number_of scan_numeral
    is_utf8 chars digits lib.Utf8.encode
paths = refl

-- A document appears to a listener, changes and disappears.
transitions :
    Plays
    []
    ((codes "{\"listen\":\"p\",\"query\":\"*[_type == 'post' && n > 1]\","
    ++ codes "\"includePrevious\":true}")
    ∷ (codes "{\"mutate\":{\"mutations\":[{\"create\":{\"_id\":\"a\",\"_type\":\"post\","
    ++ codes "\"n\":2}}]}}")
    ∷ codes "{\"mutate\":{\"mutations\":[{\"patch\":{\"id\":\"a\",\"set\":{\"n\":3}}}]}}"
    ∷ codes "{\"mutate\":{\"mutations\":[{\"patch\":{\"id\":\"a\",\"set\":{\"n\":0}}}]}}"
    ∷ codes "{\"mutate\":{\"mutations\":[{\"patch\":{\"id\":\"a\",\"set\":{\"n\":5}}}]}}"
    ∷ codes "{\"mutate\":{\"mutations\":[{\"delete\":{\"id\":\"a\"}}]}}"
    ∷ (codes "{\"mutate\":{\"mutations\":[{\"create\":{\"_id\":\"c\",\"_type\":\"post\","
    ++ codes "\"n\":9}},{\"delete\":{\"id\":\"c\"}}]}}")
    ∷ [])
    (codes "{\"line\":1,\"listener\":\"p\",\"type\":\"welcome\"}"
    ∷ (codes "{\"line\":2,\"results\":[{\"id\":\"a\",\"operation\":\"create\"}],"
    ++ codes "\"transactionId\":\"tx-2\"}")
    ∷ (codes "{\"documentId\":\"a\",\"line\":2,\"listener\":\"p\",\"resultRev\":\"tx-2\","
    ++ codes "\"timestamp\":\"1970-01-01T00:00:00Z\",\"transactionId\":\"tx-2\","
    ++ codes "\"transition\":\"appear\",\"type\":\"mutation\"}")
    ∷ (codes "{\"line\":3,\"results\":[{\"id\":\"a\",\"operation\":\"update\"}],"
    ++ codes "\"transactionId\":\"tx-3\"}")
    ∷ (codes "{\"documentId\":\"a\",\"line\":3,\"listener\":\"p\",\"previous\":"
    ++ codes "{\"_createdAt\":\"1970-01-01T00:00:00Z\",\"_id\":\"a\",\"_rev\":\"tx-2\","
    ++ codes "\"_type\":\"post\",\"_updatedAt\":\"1970-01-01T00:00:00Z\",\"n\":2},"
    ++ codes "\"previousRev\":\"tx-2\",\"resultRev\":\"tx-3\","
    ++ codes "\"timestamp\":\"1970-01-01T00:00:00Z\",\"transactionId\":\"tx-3\","
    ++ codes "\"transition\":\"update\",\"type\":\"mutation\"}")
    ∷ (codes "{\"line\":4,\"results\":[{\"id\":\"a\",\"operation\":\"update\"}],"
    ++ codes "\"transactionId\":\"tx-4\"}")
    ∷ (codes "{\"documentId\":\"a\",\"line\":4,\"listener\":\"p\",\"previous\":"
    ++ codes "{\"_createdAt\":\"1970-01-01T00:00:00Z\",\"_id\":\"a\",\"_rev\":\"tx-3\","
    ++ codes "\"_type\":\"post\",\"_updatedAt\":\"1970-01-01T00:00:00Z\",\"n\":3},"
    ++ codes "\"previousRev\":\"tx-3\",\"resultRev\":\"tx-4\","
    ++ codes "\"timestamp\":\"1970-01-01T00:00:00Z\",\"transactionId\":\"tx-4\","
    ++ codes "\"transition\":\"disappear\",\"type\":\"mutation\"}")
    ∷ (codes "{\"line\":5,\"results\":[{\"id\":\"a\",\"operation\":\"update\"}],"
    ++ codes "\"transactionId\":\"tx-5\"}")
    ∷ (codes "{\"documentId\":\"a\",\"line\":5,\"listener\":\"p\",\"previous\":"
    ++ codes "{\"_createdAt\":\"1970-01-01T00:00:00Z\",\"_id\":\"a\",\"_rev\":\"tx-4\","
    ++ codes "\"_type\":\"post\",\"_updatedAt\":\"1970-01-01T00:00:00Z\",\"n\":0},"
    ++ codes "\"previousRev\":\"tx-4\",\"resultRev\":\"tx-5\","
    ++ codes "\"timestamp\":\"1970-01-01T00:00:00Z\",\"transactionId\":\"tx-5\","
    ++ codes "\"transition\":\"appear\",\"type\":\"mutation\"}")
    ∷ (codes "{\"line\":6,\"results\":[{\"id\":\"a\",\"operation\":\"delete\"}],"
    ++ codes "\"transactionId\":\"tx-6\"}")
    ∷ (codes "{\"documentId\":\"a\",\"line\":6,\"listener\":\"p\",\"previous\":"
    ++ codes "{\"_createdAt\":\"1970-01-01T00:00:00Z\",\"_id\":\"a\",\"_rev\":\"tx-5\","
    ++ codes "\"_type\":\"post\",\"_updatedAt\":\"1970-01-01T00:00:00Z\",\"n\":5},"
    ++ codes "\"previousRev\":\"tx-5\",\"timestamp\":\"1970-01-01T00:00:00Z\","
    ++ codes "\"transactionId\":\"tx-6\",\"transition\":\"disappear\",\"type\":\"mutation\"}")
    ∷ codes "{\"line\":7,\"results\":[],\"transactionId\":\"tx-7\"}"
    ∷ [])
unfolding step said outcome command verdict path_verdict tokens_from expression_in read
    json_text escape_byte json.value punctuate lex content word after_number number_of scan_numeral
    is_utf8 chars digits lib.Utf8.encode
transitions = refl
