-- The next line from the steps of its reader.
use Rattle.std.proofs.Common.{◌≡◌, ◌∙◌, ap, sym, refl, ℕ, List, ◌∷◌, ◌++◌, append_assoc, false, Option, None, Some, Ok}
use Rattle.std.specs.Io.KnownBytes.{Consumes, Keeps}
use Rattle.cs_io.specs.Lines.{IsPlain, Feed}
use Rattle.cs_io.specs.Reader.{Reader, rest_at}
use Rattle.cs_io.specs.Moves.{Ended, GoesOn, SamePlace, SameFeed, feed_after}
use Rattle.cs_io.specs.Next.{Texts}
use Rattle.cs_io.specs.declared.lines.Line.{Line}

pub same_trans : (a b c : Option Feed) → SameFeed a b → SameFeed b c → SameFeed a c
same_trans None b c h k = tt
same_trans (Some f) None c h k = absurd h
same_trans (Some f) (Some g) None h k = absurd k
same_trans (Some f) (Some g) (Some e) h k = h ∙ k

-- after the line took what was read ahead
pub went_feed : (r r1 : Reader) (line line1 : List ℕ) (left : Option (List ℕ)) → GoesOn r r1 line line1 → SameFeed (feed_after r line left) (feed_after r1 line1 left)
went_feed r r1 line line1 None w = tt
went_feed r r1 line line1 (Some xs) w = w.feeds xs

pub went_text : (z : Option (List ℕ)) (r r1 : Reader) (line line1 : List ℕ) (left : Option (List ℕ)) → GoesOn r r1 line line1 → Consumes z (rest_at r left) line → Consumes z (rest_at r1 left) line1
went_text None r r1 line line1 left w k = tt
went_text (Some zs) r r1 line line1 None w k = absurd k
went_text (Some zs) r r1 line line1 (Some xs) w k = rw (w.text, w.ahead) (k ∙ sym (append_assoc line r.ahead xs))

pub ended_texts : (z : Option (List ℕ)) (r r1 : Reader) (line : List ℕ) (left : Option (List ℕ)) (l : Line) → Ended r r1 line l.bytes.items → r.ended ≡ false → IsPlain line → Consumes z (rest_at r left) line → Texts (Ok (Some l)) z (rest_at r1 left) r1.ended
ended_texts None r r1 line left l e o p k = tt
ended_texts (Some zs) r r1 line None l e o p k = absurd k
ended_texts (Some zs) r r1 line (Some xs) l e o p k =
    let going : r1.ended ≡ false = e.ended ∙ o in
    let whole : zs ≡ l.bytes.items ++ 10 ∷ (r1.ahead ++ xs) = k ∙ sym (append_assoc line r.ahead xs) ∙ ap (λ v. v ++ xs) e.text ∙ append_assoc l.bytes.items (10 ∷ r1.ahead) xs in
    rw going (e.plain p, whole)

-- what is left stays, and so does what is given
pub kept_feed : (r r1 : Reader) (line : List ℕ) (left left1 : Option (List ℕ)) → SamePlace r r1 → Keeps (rest_at r left) (rest_at r1 left1) → SameFeed (feed_after r line left) (feed_after r1 line left1)
kept_feed r r1 line None left1 p h = tt
kept_feed r r1 line (Some xs) None p h = absurd h
kept_feed r r1 line (Some xs) (Some ys) p h = rw (p.given, p.taken, h) refl

pub kept_text : (z a b : Option (List ℕ)) (line : List ℕ) → Keeps a b → Consumes z a line → Consumes z b line
kept_text None a b line h k = tt
kept_text (Some zs) None b line h k = absurd k
kept_text (Some zs) (Some xs) None line h k = absurd h
kept_text (Some zs) (Some xs) (Some ys) line h k = rw h k

-- bytes were read ahead, and the line took them
pub on_feed : (z : Option Feed) (r r1 r2 : Reader) (line line2 : List ℕ) (left left1 : Option (List ℕ)) → SameFeed z (feed_after r line left) → SamePlace r r1 → Keeps (rest_at r left) (rest_at r1 left1) → GoesOn r1 r2 line line2 → SameFeed z (feed_after r2 line2 left1)
on_feed z r r1 r2 line line2 left left1 so_far place kept went =
    let read = kept_feed r r1 line left left1 place kept in
    let took = went_feed r1 r2 line line2 left1 went in
    same_trans z (feed_after r line left) (feed_after r2 line2 left1) so_far (same_trans (feed_after r line left) (feed_after r1 line left1) (feed_after r2 line2 left1) read took)

pub on_text : (z : Option (List ℕ)) (r r1 r2 : Reader) (line line2 : List ℕ) (left left1 : Option (List ℕ)) → Consumes z (rest_at r left) line → Keeps (rest_at r left) (rest_at r1 left1) → GoesOn r1 r2 line line2 → Consumes z (rest_at r2 left1) line2
on_text z r r1 r2 line line2 left left1 so_far kept went = went_text z r1 r2 line line2 left1 went (kept_text z (rest_at r left) (rest_at r1 left1) line kept so_far)
