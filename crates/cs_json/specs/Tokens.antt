-- The tokens of a tree's compact text: RFC 8259, "JSON Grammar". For private clauses.
use Rattle.std.specs.Prelude.{List}
use Rattle.json.specs.Token.{Token}
use Rattle.json.specs.Tree.{json_tokens, items_tokens, members_tokens}
use Rattle.serde_json.specs.Written.{outline, items_outline, members_outline}
use Rattle.cs_value.specs.Tree.{Tree, Trees, Pairs}
use Rattle.cs_json.specs.Text.{data_of, items_of, members_of}

abbrev pub tokens_of : Tree → List Token
tokens_of t = json_tokens (outline (data_of t))

-- those of a list's values, with the closing bracket
abbrev pub tokens_of_items : Trees → List Token
tokens_of_items ts = items_tokens (items_outline (items_of ts))

-- those of an object's attributes, with the closing bracket
abbrev pub tokens_of_members : Pairs → List Token
tokens_of_members ps = members_tokens (members_outline (members_of ps))
