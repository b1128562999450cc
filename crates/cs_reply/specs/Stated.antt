-- The line that is written where the data file or the size of a source ends a run: this project's
-- profile.
use Rattle.std.specs.Prelude.{ℕ, List, [], ◌∷◌, codes}
use Rattle.cs_value.specs.Tree.{text}
use Rattle.cs_reply.specs.Fields.{Fields, object_of, number}
use Rattle.cs_reply.specs.Reply.{written_line}

-- why a line of a data file is refused
pub data Cause : Type 0 where
  no_json : Cause
  deep : Cause
  fraction : Cause
  no_document : Cause
  repeated : List ℕ → Cause
  full : Cause

pub data Source : Type 0 where
  data_file : Source
  script : Source

-- what ends a run before its end
pub data Stop : Type 0 where
  -- the line of the number is too long, or the source has too many bytes there
  long_line : Source → ℕ → Stop
  much : Source → ℕ → Stop
  -- the line of the number is refused, or a strong reference dangles
  bad : ℕ → Cause → Stop
  dangling : List ℕ → List ℕ → Stop

abbrev pub cause_word : Cause → List ℕ
cause_word no_json = codes "not-json"
cause_word deep = codes "too-deep"
cause_word fraction = codes "not-whole"
cause_word no_document = codes "bad-document"
cause_word (repeated id) = codes "repeated"
cause_word full = codes "full-documents"

abbrev pub cause_details : Cause → Fields
cause_details no_json = []
cause_details deep = []
cause_details fraction = []
cause_details no_document = []
cause_details (repeated id) = (codes "id", text id) ∷ []
cause_details full = []

abbrev pub source_word : Source → List ℕ
source_word data_file = codes "data"
source_word script = codes "script"

abbrev pub size_fields : List ℕ → Source → ℕ → Fields
size_fields word source line =
    (codes "error", text word) ∷ (codes "line", number line)
    ∷ (codes "source", text (source_word source)) ∷ []

abbrev pub stop_fields : Stop → Fields
stop_fields (long_line source line) = size_fields (codes "too-long") source line
stop_fields (much source line) = size_fields (codes "too-much") source line
stop_fields (bad line cause) =
    (codes "cause", text (cause_word cause)) ∷ (codes "error", text (codes "data"))
    ∷ (codes "line", number line) ∷ cause_details cause
stop_fields (dangling from to) =
    (codes "cause", text (codes "dangling")) ∷ (codes "error", text (codes "data"))
    ∷ (codes "from", text from) ∷ (codes "to", text to) ∷ []

-- the line that is written
abbrev pub stated_line : Stop → List ℕ
stated_line stop = written_line (object_of (stop_fields stop))
