-- The signs: GROQ-1.revision1 "Syntax", as this project's profile has them.
use Rattle.std.specs.Prelude.{ℕ, List, [], ◌∷◌, Option, option_map, codes}
use Rattle.cs_table.specs.Row.{row_of}
use Rattle.cs_syntax.specs.declared.sign.Sign.{Sign}
use Rattle.cs_syntax.specs.declared.sign.Sign.TheVariants.{FatArrow, EqEq, Ne, Le, Ge, Lt, Gt, AndAnd, OrOr, Pipe, Not, Plus, Minus, StarStar, Star, Slash, Percent, DotDotDot, DotDot, Dot, Arrow, OpenBracket, CloseBracket, OpenBrace, CloseBrace, OpenParen, CloseParen, Comma, ColonColon, Colon, At, Caret}

-- each sign as it is written, in the order of the bytes
abbrev pub signs : List (List ℕ × Sign)
signs = (codes "!", Not) ∷ (codes "!=", Ne) ∷ (codes "%", Percent) ∷ (codes "&&", AndAnd) ∷ (
  codes
      "(",
  OpenParen,
) ∷ (codes ")", CloseParen)
    ∷ (codes "*", Star) ∷ (codes "**", StarStar) ∷ (codes "+", Plus) ∷ (codes ",", Comma) ∷ (
      codes
          "-",
      Minus,
    ) ∷ (codes "->", Arrow)
    ∷ (codes ".", Dot) ∷ (codes "..", DotDot) ∷ (codes "...", DotDotDot) ∷ (
      codes "/",
      Slash,
    ) ∷ (codes ":", Colon) ∷ (codes "::", ColonColon)
    ∷ (codes "<", Lt) ∷ (codes "<=", Le) ∷ (codes "==", EqEq) ∷ (codes "=>", FatArrow) ∷ (
      codes
          ">",
      Gt,
    ) ∷ (codes ">=", Ge)
    ∷ (codes "@", At) ∷ (codes "[", OpenBracket) ∷ (codes "]", CloseBracket) ∷ (
      codes "^",
      Caret,
    ) ∷ (codes "{", OpenBrace)
    ∷ (codes "|", Pipe) ∷ (codes "||", OrOr) ∷ (codes "}", CloseBrace) ∷ []

-- the sign that is written so
abbrev pub sign_of : List ℕ → Option Sign
sign_of source = option_map (λ row. row.1) (row_of (λ row. row.0) source signs)
