-- What a piece does to the line under way, by the place of its first newline.
use Rattle.std.proofs.Common.{◌≡◌, ◌∙◌, ap, sym, refl, ℕ, List, ◌∷◌, ◌++◌, take, drop, length, get_or, ◌+◌, ◌<◌, ◌≤◌, append_assoc, arith, length-append}
use Rattle.std.proofs.lemmas.List.{take-append-drop, drop_more, length-take-le, take_all}
use Rattle.cs_io.specs.Lines.{IsPlain, feed, LineTooLong, SourceTooMuch, longest_line, largest_source}
use Rattle.cs_io.specs.Parts.{EndsLine, TakesAll}
use Rattle.cs_io.proofs.Cutting.{IsPlain-append, feed_newline, feed_segment, feed_long, feed_much, feed_too_much}

-- the piece, and what follows it, in two parts
parted : (piece rest : List ℕ) (e : ℕ) → piece ++ rest ≡ take e piece ++ (drop e piece ++ rest)
parted piece rest e = ap (λ v. v ++ rest) (sym (take-append-drop e piece)) ∙ append_assoc (take e piece) (drop e piece) rest

at_newline : (piece : List ℕ) (e : ℕ) → e < length piece → get_or piece e 0 ≡ 10 → drop e piece ≡ 10 ∷ drop (e + 1) piece
at_newline piece e l h = drop_more piece e 0 l ∙ ap (λ b. b ∷ drop (e + 1) piece) h

pub long_at : (piece : List ℕ) (e n t : ℕ) (line rest : List ℕ) → e ≤ length piece → IsPlain (take e piece) → length line ≤ longest_line → longest_line < length line + e → longest_line + t ≤ largest_source + length line → feed n t line (piece ++ rest) ≡ LineTooLong n
long_at piece e n t line rest l p k h s =
    let size = length-take-le e piece l in
    rw (parted piece rest e) (feed_long (take e piece) n t line (drop e piece ++ rest) p k (omega arith) s)

pub much_at : (piece : List ℕ) (e n t : ℕ) (line rest : List ℕ) → e ≤ length piece → IsPlain (take e piece) → t ≤ largest_source → largest_source < t + e → largest_source + length line < longest_line + t → feed n t line (piece ++ rest) ≡ SourceTooMuch n
much_at piece e n t line rest l p k h s =
    let size = length-take-le e piece l in
    rw (parted piece rest e) (feed_much (take e piece) n t line (drop e piece ++ rest) p k (omega arith) s)

pub much_after : (piece : List ℕ) (e n t : ℕ) (line rest : List ℕ) → e < length piece → IsPlain (take e piece) → get_or piece e 0 ≡ 10 → length line + e ≤ longest_line → t + e ≡ largest_source → feed n t line (piece ++ rest) ≡ SourceTooMuch n
much_after piece e n t line rest l p b k h =
    let size = length-take-le e piece (omega arith) in
    let first = feed_segment (take e piece) n t line (drop e piece ++ rest) p (omega arith) (omega arith) in
    let seam = ap (λ v. v ++ rest) (at_newline piece e l b) in
    rw (parted piece rest e, first) (
    rw seam (feed_too_much n (t + length (take e piece)) (line ++ take e piece) (drop (e + 1) piece ++ rest) 10 (λ _. refl) (omega arith)))

text_at : (piece : List ℕ) (e : ℕ) (line : List ℕ) → e < length piece → get_or piece e 0 ≡ 10 → line ++ piece ≡ line ++ take e piece ++ 10 ∷ drop (e + 1) piece
text_at piece e line l b =
    let whole = sym (take-append-drop e piece) ∙ ap (λ v. take e piece ++ v) (at_newline piece e l b) in
    ap (λ v. line ++ v) whole ∙ sym (append_assoc line (take e piece) (10 ∷ drop (e + 1) piece))

pub whole_at : (piece : List ℕ) (e t : ℕ) (line : List ℕ) → e < length piece → IsPlain (take e piece) → get_or piece e 0 ≡ 10 → length line + e ≤ longest_line → t + e < largest_source → EndsLine (e + 1) piece t line (line ++ take e piece)
whole_at piece e t line l p b k h =
    let size = length-take-le e piece (omega arith) in
    record {
      some = omega arith;
      within = omega arith;
      fits = omega arith;
      text = text_at piece e line l b;
      plain = λ q. IsPlain-append line (take e piece) q p;
      short = simp length-append (omega arith);
      feeds = λ n rest.
          let first = feed_segment (take e piece) n t line (drop e piece ++ rest) p (omega arith) (omega arith) in
          let seam = ap (λ v. v ++ rest) (at_newline piece e l b) in
          let count : t + length (take e piece) + 1 ≡ t + (e + 1) = omega arith in
          let step = feed_newline n (t + length (take e piece)) (line ++ take e piece) (drop (e + 1) piece ++ rest) 10 refl (omega arith) in
          rw (parted piece rest e, first, seam, step, count) refl;
    }

pub rest_at : (piece : List ℕ) (e t : ℕ) (line : List ℕ) → e ≡ length piece → IsPlain (take e piece) → length line + e ≤ longest_line → t + e ≤ largest_source → TakesAll piece t line (line ++ take e piece)
rest_at piece e t line l p k h =
    let all : take e piece ≡ piece = take_all e piece (omega arith) in
    let q : IsPlain piece = rw all at p in
    record {
      text = ap (λ v. line ++ v) all;
      plain = λ w. IsPlain-append line (take e piece) w p;
      short = rw all (simp length-append (omega arith));
      fits = omega arith;
      feeds = λ n rest. rw all (feed_segment piece n t line rest q (omega arith) (omega arith));
    }
