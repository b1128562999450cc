use Rattle.std.proofs.Common.{◌≡◌, ◌<◌, ◌≤◌, ℕ, List, length, get_or, inl, refl, subst, sym, arith}
use Rattle.std.proofs.lemmas.Str.{IsCharBoundary-start, IsCharBoundary-end}
use Rattle.std.specs.Str.{IsCharBoundary}
use Rattle.cs_jsonmatch.specs.Grammar.{class}
use Rattle.cs_jsonmatch.specs.declared.class.Class.{Class}
use Rattle.cs_jsonmatch.specs.declared.class.Class.TheVariants.{Letter, Digit}
use Rattle.cs_jsonmatch.proofs.Names.{IsInName, IsReadTo, one_more, name_ends, not_next, none_next}
use Rattle.cs_jsonmatch.proofs.literals.name_len.Goals as goal

pub loop-at-init : goal.loop-at-init
loop-at-init c = record { name = inl (refl, c.requires); cut = IsCharBoundary-start c.args.text.now c.utf8.text }

pub loop-at-preserved : goal.loop-at-preserved
loop-at-preserved c =
    let i = c.loop-at.at in
    let here : i < length c.args.text.now = omega arith in
    let is = subst (λ (bytes : List ℕ). IsInName (get_or bytes i 0)) c.as_bytes-bytes.ensures.value c.if-not-is_in_name.ensures in
    one_more c.args.text.now i c.utf8.text here is c.loop-at.invariant

pub returns : goal.returns
returns c =
    let text = c.args.text.now in
    let n = length c.as_bytes-bytes.result.now in
    let all : n ≡ length text = c.as_bytes-bytes.ensures.len in
    let end : c.loop-at.at ≡ n = omega arith in
    let past : length text ≤ n = omega arith in
    record {
      name = name_ends text n (subst (IsReadTo text) end c.loop-at.invariant) (none_next text n Letter past (λ e. cc)) (none_next text n Digit past (λ e. cc));
      cut = subst (IsCharBoundary text) (sym all) (IsCharBoundary-end text);
    }

pub returns-then-not-is_in_name : goal.returns-then-not-is_in_name
returns-then-not-is_in_name c =
    let text = c.args.text.now in
    let i = c.loop-at.at in
    let here : i < length text = omega arith in
    let other = λ (k : Class). subst (λ (bytes : List ℕ). class (get_or bytes i 0) ≡ k → ⊥) c.as_bytes-bytes.ensures.value in
    record {
      name = name_ends text i c.loop-at.invariant (not_next text i Letter here (other Letter c.if-not-is_in_name.ensures.0)) (not_next text i Digit here (other Digit c.if-not-is_in_name.ensures.1));
      cut = c.loop-at.invariant.cut;
    }
