-- The lines that a source gives are those of its bytes.
use Rattle.std.proofs.Common.{◌≡◌, ◌≢◌, ◌∙◌, ap, sym, refl, subst, ℕ, List, [], ◌∷◌, ◌++◌, take, length, ◌+◌, ◌-◌, append_assoc, arith, true, false, ◌==◌, Option, None, Some, inl, inr, ◌⊎◌}
use Rattle.std.proofs.lemmas.List.{append-nil}
use Rattle.std.proofs.lemmas.Bool.Decides.{nat_tests}
use Rattle.std.proofs.lemmas.Bool.{cases_eq}
use Rattle.std.specs.Prelude.{MatchOption}
use Rattle.std.specs.List.{onto_first}
use Rattle.cs_io.specs.Lines.{IsPlain, Feed, LineTooLong, SourceTooMuch, More, feed, feed_of, cut, onto_line, whole_lines, longest_line, largest_source}
use Rattle.cs_io.specs.Laws.{given_lines, fault_line, FollowsCut, EndsIn, FollowsWhole}
use Rattle.cs_io.proofs.Cutting.{IsPlain-append, feed_newline, feed_byte, feed_too_long, feed_too_much}

cut_line : (line rest : List ℕ) → IsPlain line → cut (line ++ 10 ∷ rest) ≡ line ∷ cut rest
cut_line [] rest p = refl
cut_line (b ∷ line) rest p = let no : (b == 10) ≡ false = grind (arith, nat_tests) in rw (no, cut_line line rest p.1) refl

cut_plain : (b : ℕ) (line : List ℕ) → IsPlain (b ∷ line) → cut (b ∷ line) ≡ (b ∷ line) ∷ []
cut_plain b [] p = let no : (b == 10) ≡ false = grind (arith, nat_tests) in rw no refl
cut_plain b (x ∷ line) p = let no : (b == 10) ≡ false = grind (arith, nat_tests) in rw (no, cut_plain x line p.1) refl

-- what is given from a line under way: all lines, or those before the faulty one, whose number
-- counts them
pub record Follows (n : ℕ) (f : Feed) (lines : List (List ℕ)) : Type 0 where
  pub whole : fault_line f ≡ None → given_lines f ≡ lines
  pub part : (m : ℕ) → fault_line f ≡ Some m → (m ≡ n + length (given_lines f)) × (given_lines f ≡ take (length (given_lines f)) lines)

stops_long : (n m : ℕ) (lines : List (List ℕ)) → m ≡ n → Follows n (LineTooLong m) lines
stops_long n m lines e = record { whole = λ h. cc; part = λ k h. (let same : m ≡ k = cc in omega arith, refl) }

stops_much : (n m : ℕ) (lines : List (List ℕ)) → m ≡ n → Follows n (SourceTooMuch m) lines
stops_much n m lines e = record { whole = λ h. cc; part = λ k h. (let same : m ≡ k = cc in omega arith, refl) }

gives : (n : ℕ) (line : List ℕ) (f : Feed) (lines : List (List ℕ)) → Follows (n + 1) f lines → Follows n (More n line f) (line ∷ lines)
gives n line f lines h = record {
  whole = λ e. ap (λ v. line ∷ v) (h.whole e);
  part = λ m e. let p = h.part m e in (omega (arith, p.0), ap (λ v. line ∷ v) p.1);
}

along : (n : ℕ) (f g : Feed) (ls ms : List (List ℕ)) → f ≡ g → ls ≡ ms → Follows n g ms → Follows n f ls
along n f g ls ms e k h = subst (λ x. Follows n x ls) (sym e) (subst (λ v. Follows n g v) (sym k) h)

pub follows : (rest : List ℕ) (n t : ℕ) (line : List ℕ) → IsPlain line → Follows n (feed n t line rest) (cut (line ++ rest))
follows [] n t [] p = record { whole = λ e. refl; part = λ m e. cc }
follows [] n t (b ∷ line) p = record { whole = λ e. sym (cut_plain b line p) ∙ ap cut (sym (append-nil (b ∷ line))); part = λ m e. cc }
follows (b ∷ rest) n t line p =
    elim (cases_eq b 10) [
      | inl e ↦ elim (cases_eq t largest_source) [
        | inl full ↦ along n _ _ _ _ (feed_too_much n t line rest b (λ _. e) full) refl (stops_much n n (cut (line ++ b ∷ rest)) refl)
        | inr ne ↦ along n _ _ _ _ (feed_newline n t line rest b e ne) (ap (λ x. cut (line ++ x ∷ rest)) e ∙ cut_line line rest p) (gives n line (feed (n + 1) (t + 1) [] rest) (cut rest) (follows rest (n + 1) (t + 1) [] tt))
      ]
      | inr other ↦ elim (cases_eq (length line) longest_line) [
        | inl long ↦ along n _ _ _ _ (feed_too_long n t line rest b other long) refl (stops_long n n (cut (line ++ b ∷ rest)) refl)
        | inr short ↦ elim (cases_eq t largest_source) [
          | inl full ↦ along n _ _ _ _ (feed_too_much n t line rest b (λ long. absurd (short long)) full) refl (stops_much n n (cut (line ++ b ∷ rest)) refl)
          | inr ne ↦ along n _ _ _ _ (feed_byte n t line rest b other short ne) (ap cut (sym (append_assoc line (b ∷ []) rest))) ((follows rest n (t + 1) (line ++ b ∷ []) (IsPlain-append line (b ∷ []) p (other, tt))))
        ]
      ]
    ]

by_fault : (f : Feed) (lines : List (List ℕ)) (o : Option ℕ) → fault_line f ≡ o → Follows 1 f lines → MatchOption o (given_lines f ≡ lines) (λ n. given_lines f ≡ take (n - 1) lines)
by_fault f lines None e h = h.whole e
by_fault f lines (Some m) e h =
    let p = h.part m e in
    let count : length (given_lines f) ≡ m - 1 = omega (arith, p.0) in
    p.1 ∙ ap (λ k. take k lines) count

pub follows_cut : (bytes : List ℕ) → FollowsCut bytes
follows_cut bytes = by_fault (feed_of bytes) (cut bytes) (fault_line (feed_of bytes)) refl (follows bytes 1 0 [] tt)

-- a byte in front of the lines is in front of the whole lines too, unless it begins the last line
onto_whole : (b : ℕ) (lines : List (List ℕ)) → b ≢ 10 → (onto_first b lines ≡ onto_line b lines) ⊎ ((last : List ℕ) × EndsIn (onto_first b lines) (onto_line b lines) last)
onto_whole b [] p = inr (b ∷ [], record { some = λ e. cc; plain = (p, tt); parts = refl })
onto_whole b (line ∷ lines) p = inl refl

onto_last : (b : ℕ) (whole : List (List ℕ)) (last : List ℕ) → b ≢ 10 → last ≢ [] → IsPlain last → (more : List ℕ) × EndsIn (onto_first b (whole ++ last ∷ [])) (onto_line b whole) more
onto_last b [] last p s plain = (b ∷ last, record { some = λ e. cc; plain = (p, plain); parts = refl })
onto_last b (line ∷ whole) last p s plain = (last, record { some = s; plain = plain; parts = refl })

cut_at : (b : ℕ) (bytes : List ℕ) → b ≡ 10 → cut (b ∷ bytes) ≡ [] ∷ cut bytes
cut_at b bytes e = let yes : (b == 10) ≡ true = grind (arith, nat_tests) in rw yes refl

whole_at : (b : ℕ) (bytes : List ℕ) → b ≡ 10 → whole_lines (b ∷ bytes) ≡ [] ∷ whole_lines bytes
whole_at b bytes e = let yes : (b == 10) ≡ true = grind (arith, nat_tests) in rw yes refl

cut_onto : (b : ℕ) (bytes : List ℕ) → b ≢ 10 → cut (b ∷ bytes) ≡ onto_first b (cut bytes)
cut_onto b bytes e = let no : (b == 10) ≡ false = grind (arith, nat_tests) in rw no refl

whole_onto : (b : ℕ) (bytes : List ℕ) → b ≢ 10 → whole_lines (b ∷ bytes) ≡ onto_line b (whole_lines bytes)
whole_onto b bytes e = let no : (b == 10) ≡ false = grind (arith, nat_tests) in rw no refl

pub follows_whole : (bytes : List ℕ) → FollowsWhole bytes
follows_whole [] = inl refl
follows_whole (b ∷ bytes) =
    elim (cases_eq b 10) [
      | inl e ↦ elim (follows_whole bytes) [
        | inl same ↦ inl (cut_at b bytes e ∙ ap (λ v. [] ∷ v) same ∙ sym (whole_at b bytes e))
        | inr more ↦ inr (
          more.0,
          record {
            some = more.1.some;
            plain = more.1.plain;
            parts = cut_at b bytes e ∙ ap (λ v. [] ∷ v) more.1.parts ∙ ap (λ v. v ++ more.0 ∷ []) (sym (whole_at b bytes e));
          },
        )
      ]
      | inr other ↦ rw (cut_onto b bytes other, whole_onto b bytes other) (elim (follows_whole bytes) [
        | inl same ↦ rw same (onto_whole b (whole_lines bytes) other)
        | inr more ↦ rw more.1.parts (inr (onto_last b (whole_lines bytes) more.0 other more.1.some more.1.plain))
      ])
    ]
