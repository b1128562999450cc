-- What a reader gives next, where the bytes of its source are told.
use Rattle.std.proofs.Common.{◌≡◌, ◌∙◌, ap, refl, ℕ, ◌+◌, List, [], ◌∷◌, ◌++◌, Bool, true, false, ◌==◌, Option, None, Some, Result, Ok, Err, arith}
use Rattle.std.proofs.lemmas.Bool.Decides.{nat_tests}
use Rattle.cs_io.specs.Lines.{IsPlain, Feed, End, LineTooLong, SourceTooMuch, More, feed, whole_lines}
use Rattle.cs_io.specs.Next.{Gives, Texts}
use Rattle.cs_io.specs.Reader.{Reader, feed_at, rest_at}
use Rattle.cs_io.specs.declared.lines.Line.{Line}
use Rattle.cs_io.specs.declared.lines.LineFault.{LineFault}
use Rattle.cs_io.specs.declared.lines.LineFault.TheVariants.{Read, TooLong, TooMuch}

-- what is given, from the bytes from here on, and back
feed_from_rest : (r : Reader) (left : Option (List ℕ)) (y : List ℕ) → rest_at r left ≡ Some y → feed_at r left ≡ Some (feed (r.given + 1) r.taken [] y)
feed_from_rest r None y e = cc
feed_from_rest r (Some x) y e = let same : r.ahead ++ x ≡ y = cc in rw same refl

rest_from_feed : (r : Reader) (left : Option (List ℕ)) (g : Feed) → feed_at r left ≡ Some g → (y : List ℕ) × (rest_at r left ≡ Some y) × (g ≡ feed (r.given + 1) r.taken [] y)
rest_from_feed r None g e = cc
rest_from_feed r (Some x) g e = (r.ahead ++ x, refl, cc)

gives_more : (F G : Option Feed) (f : Feed) (l : Line) → Gives (Ok (Some l)) F G → F ≡ Some f → (g : Feed) × (G ≡ Some g) × (f ≡ More l.number l.bytes.items g)
gives_more None G f l h e = cc
gives_more (Some k) None f l h e = absurd h
gives_more (Some k) (Some g) f l h e = (g, refl, cc)

gives_told : (res : Result (Option Line) LineFault) (F G : Option Feed) (f : Feed) → Gives res F G → F ≡ Some f → (g : Feed) × (G ≡ Some g)
gives_told res None G f h e = cc
gives_told res (Some k) None f h e = absurd h
gives_told res (Some k) (Some g) f h e = (g, refl)

gives_end : (F G : Option Feed) (f : Feed) → Gives (Ok None) F G → F ≡ Some f → f ≡ End
gives_end None G f h e = cc
gives_end (Some k) None f h e = absurd h
gives_end (Some k) (Some g) f h e = let over = h.0 in cc

gives_long : (F G : Option Feed) (f : Feed) (n : ℕ) → Gives (Err (TooLong n)) F G → F ≡ Some f → f ≡ LineTooLong n
gives_long None G f n h e = cc
gives_long (Some k) None f n h e = absurd h
gives_long (Some k) (Some g) f n h e = cc

gives_much : (F G : Option Feed) (f : Feed) (n : ℕ) → Gives (Err (TooMuch n)) F G → F ≡ Some f → f ≡ SourceTooMuch n
gives_much None G f n h e = cc
gives_much (Some k) None f n h e = absurd h
gives_much (Some k) (Some g) f n h e = cc

-- a reader before an answer and after it, of whose bytes y are not yet given before
module _ (r r' : Reader) (left left' : Option (List ℕ)) (y : List ℕ) (rest : rest_at r left ≡ Some y) where
  pub given_line : (l : Line) → Gives (Ok (Some l)) (feed_at r left) (feed_at r' left') → (z : List ℕ) × (rest_at r' left' ≡ Some z) × (feed (r.given + 1) r.taken [] y ≡ More l.number l.bytes.items (feed (r'.given + 1) r'.taken [] z))
  given_line l gives =
      let more = gives_more (feed_at r left) (feed_at r' left') (feed (r.given + 1) r.taken [] y) l gives (feed_from_rest r left y rest) in
      let z = rest_from_feed r' left' more.0 more.1 in
      (z.0, z.1, more.2 ∙ ap (λ g. More l.number l.bytes.items g) z.2)

  pub given_told : (res : Result (Option Line) LineFault) → Gives res (feed_at r left) (feed_at r' left') → (z : List ℕ) × (rest_at r' left' ≡ Some z)
  given_told res gives =
      let told = gives_told res (feed_at r left) (feed_at r' left') (feed (r.given + 1) r.taken [] y) gives (feed_from_rest r left y rest) in
      let z = rest_from_feed r' left' told.0 told.1 in
      (z.0, z.1)

  pub given_end : Gives (Ok None) (feed_at r left) (feed_at r' left') → feed (r.given + 1) r.taken [] y ≡ End
  given_end gives = gives_end (feed_at r left) (feed_at r' left') (feed (r.given + 1) r.taken [] y) gives (feed_from_rest r left y rest)

  pub given_long : (n : ℕ) → Gives (Err (TooLong n)) (feed_at r left) (feed_at r' left') → feed (r.given + 1) r.taken [] y ≡ LineTooLong n
  given_long n gives = gives_long (feed_at r left) (feed_at r' left') (feed (r.given + 1) r.taken [] y) n gives (feed_from_rest r left y rest)

  pub given_much : (n : ℕ) → Gives (Err (TooMuch n)) (feed_at r left) (feed_at r' left') → feed (r.given + 1) r.taken [] y ≡ SourceTooMuch n
  given_much n gives = gives_much (feed_at r left) (feed_at r' left') (feed (r.given + 1) r.taken [] y) n gives (feed_from_rest r left y rest)

-- of the bytes that are not yet given, those that the source has left
pub left_from_rest : (r : Reader) (left : Option (List ℕ)) (y : List ℕ) → rest_at r left ≡ Some y → (x : List ℕ) × (left ≡ Some x) × (r.ahead ++ x ≡ y)
left_from_rest r None y e = cc
left_from_rest r (Some x) y e = (x, refl, cc)

-- the bytes that an answer took
pub texts_more : (X Y : Option (List ℕ)) (x y : List ℕ) (l : Line) (ended : Bool) → Texts (Ok (Some l)) X Y ended → X ≡ Some x → Y ≡ Some y → ended ≡ false → IsPlain l.bytes.items × (x ≡ l.bytes.items ++ 10 ∷ y)
texts_more None Y x y l ended h e k s = cc
texts_more (Some a) None x y l ended h e k s = cc
texts_more (Some a) (Some b) x y l true h e k s = cc
texts_more (Some a) (Some b) x y l false h e k s = let text = h.1 in (h.0, cc)

pub texts_end : (X Y : Option (List ℕ)) (x y : List ℕ) (ended : Bool) → Texts (Ok None) X Y ended → X ≡ Some x → Y ≡ Some y → y ≡ []
texts_end None Y x y ended h e k = cc
texts_end (Some a) None x y ended h e k = cc
texts_end (Some a) (Some b) x y ended h e k = let over = h.1 in cc

pub texts_read : (X Y : Option (List ℕ)) (x y : List ℕ) (ended : Bool) → Texts (Err Read) X Y ended → X ≡ Some x → Y ≡ Some y → (part : List ℕ) × IsPlain part × (x ≡ part ++ y)
texts_read None Y x y ended h e k = cc
texts_read (Some a) None x y ended h e k = cc
texts_read (Some a) (Some b) x y ended h e k = let text = h.2 in (h.0, h.1, cc)

-- the whole lines of a line, its newline and the rest, and of a part without a newline
pub whole_line : (line rest : List ℕ) → IsPlain line → whole_lines (line ++ 10 ∷ rest) ≡ line ∷ whole_lines rest
whole_line [] rest p = refl
whole_line (b ∷ line) rest p = let no : (b == 10) ≡ false = grind (arith, nat_tests) in rw (no, whole_line line rest p.1) refl

pub whole_plain : (part : List ℕ) → IsPlain part → whole_lines part ≡ []
whole_plain [] p = refl
whole_plain (b ∷ part) p = let no : (b == 10) ≡ false = grind (arith, nat_tests) in rw (no, whole_plain part p.1) refl
