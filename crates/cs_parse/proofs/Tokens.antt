-- `lexing` finds the tokens of a text, or the first place without one.
use Rattle.std.proofs.Common.{◌≡◌, ℕ, zero, suc, ◌+◌, ◌-◌, ◌<◌, ◌≤◌, List, [], ◌∷◌, length, drop, get_or, Bool, true, false, not, Option, Some, None, refl, arith, length-drop}
use Rattle.std.specs.Prelude.{if◌then◌else◌, nat_lt, ◌||◌, ◌&&◌, ◌==◌}
use Rattle.cs_syntax.specs.declared.token.Kind.{Kind}
use Rattle.cs_syntax.specs.declared.token.Token.{Token}
use Rattle.cs_syntax.specs.Lex.{is_blank, opens_comment, blank_from, blank, past_blank, IsLongest}
use Rattle.cs_syntax.specs.Ends.{kind_of, token_end}
use Rattle.cs_syntax.proofs.FirstBytes.{Spoken, spoken}
use Rattle.cs_parse.specs.Tokens.{Lexing, lexed, no_token_at, token_then, by_end, tokens_from, IsLexing}

blank_by : (b : Bool) (n m : ℕ) → n ≤ m → (if b then suc n else 0) ≤ suc m
blank_by true n m h = omega arith
blank_by false n m h = omega arith

blank_within : (open_comment : Bool) (s : List ℕ) → blank_from open_comment s ≤ length s
blank_within c [] = omega arith
blank_within c (b ∷ bs) =
    blank_by (is_blank b || c
    || opens_comment (b ∷ bs)) _ (length bs) (blank_within (not (b == 10)
    && (c || opens_comment (b ∷ bs))) bs)

past_within : (s : List ℕ) (at : ℕ) → at ≤ length s → past_blank s at ≤ length s
past_within s at l =
    let k : blank (drop at s) ≤ length (drop at s) = blank_within false (drop at s) in
    let m = length-drop at s in
    omega arith

module _ (s : List ℕ) (at : ℕ) where
  from_here : (t : Token) (l : Lexing) → t.from ≡ past_blank s at →
      IsLongest (drop t.from s) t.kind (t.to - t.from) → IsLexing s t.to l →
      IsLexing s at (token_then t l)
  from_here t (lexed ts) e k h =
      record { end = h.end; reads = (e, k, h.reads); no_more = h.no_more }
  from_here t (no_token_at bad) e k h =
      record {
        tokens = t ∷ h.tokens;
        end = h.end;
        reads = (e, k, h.reads);
        place =
            h.place;
        more = h.more;
        no_token = h.no_token;
      }

  ended : (f : ℕ → Lexing) (k : Kind) (o : Option ℕ) → past_blank s at < length s →
      Spoken s (past_blank s at) k o →
      ((to : ℕ) → past_blank s at < to → to ≤ length s → IsLexing s to (f to)) →
      IsLexing s at (by_end f (past_blank s at) k o)
  ended f k None l h ih = record {
    tokens = [];
    end = at;
    reads = refl;
    place = refl;
    more =
        l;
    no_token = h;
  }
  ended f k (Some to) l h ih =
      from_here (record {
        kind = k;
        from = past_blank s at;
        to =
            to;
      }) (f to) refl h.longest (ih to h.more h.within)

  by_more : (f : ℕ → Lexing) → at ≤ length s →
      ((to : ℕ) → past_blank s at < to → to ≤ length s → IsLexing s to (f to)) → (b : Bool) →
      nat_lt (past_blank s at) (length s) ≡ b →
      IsLexing s at (if b
      then by_end f (past_blank s at) (kind_of (get_or s (past_blank s at) 0))
      (token_end s (past_blank s at) (kind_of (get_or s (past_blank s at) 0))) else lexed [])
  by_more f l ih true e =
      let below : past_blank s at < length s = grind arith in
      ended f (kind_of (get_or s (past_blank s at) 0)) _ below (spoken s (past_blank s at) below)
      ih
  by_more f l ih false e =
      let not_below : length s ≤ past_blank s at = grind arith in
      let within = past_within s at l in
      record { end = at; reads = refl; no_more = omega arith }

pub is_lexing : (n : ℕ) (s : List ℕ) (at : ℕ) → at ≤ length s → length s < n + at →
    IsLexing s at (tokens_from n s at)
unfolding tokens_from
is_lexing zero s at l h = absurd (omega arith)
is_lexing (suc n) s at l h =
    by_more s at (tokens_from n s) l (λ to more within. is_lexing n s to within (omega arith))
    (nat_lt (past_blank s at) (length s)) refl
