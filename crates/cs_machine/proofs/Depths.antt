-- Limits of depth, played from bytes to bytes.
use Rattle.std.proofs.Common.{[], ◌∷◌, ◌++◌, codes, refl}
use Rattle.std.specs.Fmt.{digits}
use Rattle.std.specs.Str.{chars, is_utf8}
use Rattle.std.specs.Float.Numeral.{scan_numeral}
use Rattle.json.specs.Print.{escape_byte}
use Rattle.json.specs.Json as json
use Rattle.json.specs.Lex.{punctuate, lex}
use Rattle.json.specs.Text.{content}
use Rattle.json.specs.Word.{word, after_number}
use Rattle.serde_json.specs.Read.{number_of}
use Rattle.cs_json.specs.Reading.{outcome}
use Rattle.cs_json.specs.Text.{json_text}
use Rattle.cs_jsonmatch.specs.Verdict.{path_verdict}
use Rattle.cs_grammar.specs.Reading.{read}
use Rattle.cs_parse.specs.Spelling.{expression_in}
use Rattle.cs_parse.specs.Tokens.{tokens_from}
use Rattle.cs_parse.specs.Verdict.{verdict}
use Rattle.cs_wire.specs.Rows.{command}
use Rattle.cs_machine.specs.DataFile.{said}
use Rattle.cs_machine.specs.Examples.{Plays}
use Rattle.cs_machine.specs.Machine.{step}

-- As many brackets as may be open in a query, and one more.
brackets :
    Plays
    []
    ((codes "{\"query\":\"((((((((((((((((((((((((((((((((((((((((((((((((1))))))))))))))))))))"
    ++ codes "))))))))))))))))))))))))))))\"}")
    ∷ (codes "{\"query\":\"(((((((((((((((((((((((((((((((((((((((((((((((((1))))))))))))))))))"
    ++ codes ")))))))))))))))))))))))))))))))\"}")
    ∷ [])
    (codes "{\"line\":1,\"result\":1}"
    ∷ codes "{\"error\":\"deep-query\",\"line\":2}"
    ∷ [])
unfolding step said outcome command verdict path_verdict tokens_from expression_in read
    json_text escape_byte json.value punctuate lex content word after_number number_of scan_numeral
    is_utf8 chars digits lib.Utf8.encode
brackets = refl

-- A line that is too deep, and a document that is.
deep_lines :
    Plays
    []
    ((codes "[[[[[[[[[[[[[[[[[[[[[[[[[[[[[[[[[[[[[[[[[[[[[[[[[[[[[[[[[[[[[[[["
    ++ codes "[]]]]]]]]]]]]]]]]]]]]]]]]]]]]]]]]]]]]]]]]]]]]]]]]]]]]]]]]]]]]]]]]]")
    ∷ (codes "{\"mutate\":{\"mutations\":[{\"create\":{\"_id\":\"a\",\"_type\":\"t\",\"x\":[[["
    ++ codes "[[[[[[[[[[[[[[[[[[[[[[[[[[[[[[[[[[[[[[[[[[[[[]]]]]]]]]]]]]]]]]]]]]]]]]]]]]]]]]]]]"
    ++ codes "]]]]]]]]]]]]}}]}}")
    ∷ [])
    (codes "{\"error\":\"too-deep\",\"line\":1}"
    ∷ codes "{\"error\":\"deep-document\",\"line\":2,\"mutation\":0}"
    ∷ [])
unfolding step said outcome command verdict path_verdict tokens_from expression_in read
    json_text escape_byte json.value punctuate lex content word after_number number_of scan_numeral
    is_utf8 chars digits lib.Utf8.encode
deep_lines = refl

-- A document of a data file that is as deep as may be.
deepest_document :
    Plays
    ((codes "{\"_id\":\"a\",\"_type\":\"t\",\"x\":[[[[[[[[[[[[[[[[[[[[[[[[[[[[[[[[[[[[[[[[[[[["
    ++ codes "[[[]]]]]]]]]]]]]]]]]]]]]]]]]]]]]]]]]]]]]]]]]]]]]]]}")
    ∷ [])
    (codes "{\"query\":\"count(*)\"}"
    ∷ [])
    (codes "{\"line\":1,\"result\":1}"
    ∷ [])
unfolding step said outcome command verdict path_verdict tokens_from expression_in read
    json_text escape_byte json.value punctuate lex content word after_number number_of scan_numeral
    is_utf8 chars digits lib.Utf8.encode
deepest_document = refl

-- A document of a data file that is too deep.
deep_document :
    Plays
    ((codes "{\"_id\":\"a\",\"_type\":\"t\",\"x\":[[[[[[[[[[[[[[[[[[[[[[[[[[[[[[[[[[[[[[[[[[[["
    ++ codes "[[[[]]]]]]]]]]]]]]]]]]]]]]]]]]]]]]]]]]]]]]]]]]]]]]]]}")
    ∷ [])
    (codes "{\"query\":\"count(*)\"}"
    ∷ [])
    (codes "{\"cause\":\"too-deep\",\"error\":\"data\",\"line\":1}"
    ∷ [])
unfolding step said outcome command verdict path_verdict tokens_from expression_in read
    json_text escape_byte json.value punctuate lex content word after_number number_of scan_numeral
    is_utf8 chars digits lib.Utf8.encode
deep_document = refl
