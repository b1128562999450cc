-- Reading stops exactly behind the longest prefix that is a prefix of some path.
use Rattle.std.proofs.Common.{◌≡◌, ℕ, zero, suc, ◌<◌, ◌≤◌, ◌+◌, ◌-◌, length, take, List, [], ◌∷◌, ◌++◌, Bool, cond, Option, Some, None, option_and_then, refl, sym, ap, ◌∙◌, subst, arith}
use Rattle.cs_value.specs.Tree.{Tree}
use Rattle.cs_jsonmatch.specs.Path.{Item, meets, Path}
use Rattle.cs_jsonmatch.specs.declared.path.Comparison.{Comparison}
use Rattle.cs_jsonmatch.specs.declared.class.Class.TheVariants.{Quote}
use Rattle.cs_jsonmatch.specs.Grammar.{class, IsPath, IsBegun, IsLongest, IsFault}
use Rattle.cs_jsonmatch.specs.Machine.{Slot, text_item, State, start, first_dot, one_dot, two_dots, word, before, sign, digits, quoted, escape, to, left, left_dot, left_done, half, angle, literal, letters, after, done, more, by_class, taken, run, accept, counted, stuck}
use Rattle.cs_jsonmatch.specs.Reading.{spelled, cut, ended, go_on, reading}
use Rattle.cs_jsonmatch.proofs.Complete.{first_byte, same_number, path_run}
use Rattle.cs_jsonmatch.proofs.Sound.{Reached, IfReached, IfPath, reached, accepted}

-- a state that can go on to accept has read a prefix of a path
by_run : (u : List ℕ) (s : State) (w : List ℕ) (s1 : State) (p : Path) → Reached u s → run w s ≡ Some s1 → accept s1 ≡ Some p → IsBegun u
by_run u s w s1 p r e f =
    let here : Reached (u ++ w) s1 = subst (λ o. IfReached (u ++ w) o) e (reached w u s r) in
    (w, p, subst (λ o. IfPath (u ++ w) o) f (accepted (u ++ w) s1 here))

pub quote_ends : (p : Path) (d : Bool) (is : List Item) (g : Slot) (q : ℕ) (s : List ℕ) → class q ≡ Quote → taken (quoted p d is g q s) q ≡ Some (after p d (is ++ text_item g s ∷ []))
quote_ends p d is g q s k = ap (λ c. by_class (quoted p d is g q s) q c) k ∙ ap (λ t. cond t (Some (after p d (is ++ text_item g s ∷ []))) (Some (quoted p d is g q (s ++ q ∷ [])))) (same_number q)

letters_run : (p : Path) (d : Bool) (is : List Item) (ns : List (List ℕ)) (c : Comparison) (t : Tree) (rest : List ℕ) → 0 < length rest → run (rest ++ 93 ∷ []) (letters p d is ns c t rest) ≡ Some (done (more p d (is ++ meets ns c t ∷ [])))
letters_run p d is ns c t [] h = absurd (omega arith)
letters_run p d is ns c t (l ∷ []) h = first_byte l (93 ∷ []) (letters p d is ns c t (l ∷ [])) (after p d (is ++ meets ns c t ∷ [])) _ (ap (λ e. cond e (Some (after p d (is ++ meets ns c t ∷ []))) None) (same_number l)) refl
letters_run p d is ns c t (l ∷ m ∷ rest) h =
    first_byte l ((m ∷ rest) ++ 93 ∷ []) (letters p d is ns c t (l ∷ m ∷ rest)) (letters p d is ns c t (m ∷ rest)) _ (ap (λ e. cond e (Some (letters p d is ns c t (m ∷ rest))) None) (same_number l)) (letters_run p d is ns c t (m ∷ rest) (omega arith))

-- from each state a path can still be completed
pub alive : (u : List ℕ) (s : State) → Reached u s → IsBegun u
alive u start r = by_run u start (97 ∷ []) _ _ r refl refl
alive u first_dot r = by_run u first_dot (46 ∷ 97 ∷ []) _ _ r refl refl
alive u (one_dot p) r = by_run u (one_dot p) (97 ∷ []) _ _ r refl refl
alive u (two_dots p) r = by_run u (two_dots p) (97 ∷ []) _ _ r refl refl
alive u (word p d w) r = by_run u (word p d w) [] _ _ r refl refl
alive u (before p d is) r = by_run u (before p d is) (42 ∷ 93 ∷ []) _ _ r refl refl
alive u (sign p d is g) r = by_run u (sign p d is g) (48 ∷ 93 ∷ []) _ _ r refl refl
alive u (digits p d is g neg w) r = by_run u (digits p d is g neg w) (93 ∷ []) _ _ r refl refl
alive u (quoted p d is g q s) r = by_run u (quoted p d is g q s) (q ∷ 93 ∷ []) (done (more p d (is ++ text_item g s ∷ []))) _ r (first_byte q (93 ∷ []) (quoted p d is g q s) _ _ (quote_ends p d is g q s r.4) refl) refl
alive u (escape p d is g q s) r =
    by_run u (escape p d is g q s) (92 ∷ q ∷ 93 ∷ []) (done (more p d (is ++ text_item g (s ++ 92 ∷ []) ∷ []))) _ r
    (first_byte 92 (q ∷ 93 ∷ []) (escape p d is g q s) (quoted p d is g q (s ++ 92 ∷ [])) _ refl (first_byte q (93 ∷ []) (quoted p d is g q (s ++ 92 ∷ [])) _ _ (quote_ends p d is g q (s ++ 92 ∷ []) r.4) refl)) refl
alive u (to p d is a) r = by_run u (to p d is a) (93 ∷ []) _ _ r refl refl
alive u (left p d is ns w) r = by_run u (left p d is ns w) (61 ∷ 61 ∷ 49 ∷ 93 ∷ []) _ _ r refl refl
alive u (left_dot p d is ns) r = by_run u (left_dot p d is ns) (97 ∷ 61 ∷ 61 ∷ 49 ∷ 93 ∷ []) _ _ r refl refl
alive u (left_done p d is ns) r = by_run u (left_done p d is ns) (61 ∷ 61 ∷ 49 ∷ 93 ∷ []) _ _ r refl refl
alive u (half p d is ns c) r = by_run u (half p d is ns c) (61 ∷ 49 ∷ 93 ∷ []) _ _ r refl refl
alive u (angle p d is ns c1 c2) r = by_run u (angle p d is ns c1 c2) (49 ∷ 93 ∷ []) _ _ r refl refl
alive u (literal p d is ns c) r = by_run u (literal p d is ns c) (49 ∷ 93 ∷ []) _ _ r refl refl
alive u (letters p d is ns c t rest) r = by_run u (letters p d is ns c t rest) (rest ++ 93 ∷ []) (done (more p d (is ++ meets ns c t ∷ []))) _ r (letters_run p d is ns c t rest r.5) refl
alive u (after p d is) r = by_run u (after p d is) (93 ∷ []) _ _ r refl refl
alive u (done p) r = by_run u (done p) [] _ _ r refl refl

within_on : (t : List ℕ) → ((s : State) → stuck t s ≤ length t) → (o : Option State) → counted (stuck t) o ≤ suc (length t)
within_on t h None = omega arith
within_on t h (Some s) = let k : stuck t s ≤ length t = h s in omega arith

within : (t : List ℕ) (s : State) → stuck t s ≤ length t
within [] s = omega arith
within (b ∷ t) s = within_on t (within t) (taken s b)

read_on : (b : ℕ) (t : List ℕ) (s : State) → ((s1 : State) → (s2 : State) × (run (take (stuck t s1) t) s1 ≡ Some s2)) → (o : Option State) → taken s b ≡ o
    → (s2 : State) × (run (take (counted (stuck t) o) (b ∷ t)) s ≡ Some s2)
read_on b t s h None e = (s, refl)
read_on b t s h (Some s1) e = let r = h s1 in (r.0, first_byte b (take (stuck t s1) t) s s1 _ e r.1)

-- the bytes before the fault are all read
read_so_far : (t : List ℕ) (s : State) → (s2 : State) × (run (take (stuck t s) t) s ≡ Some s2)
read_so_far [] s = (s, refl)
read_so_far (b ∷ t) s = read_on b t s (read_so_far t) (taken s b) refl

furthest_on : (t w : List ℕ) (k : ℕ) (s2 : State) → ((s : State) → run (take k t ++ w) s ≡ Some s2 → k ≤ stuck t s) → (o : Option State)
    → option_and_then (run (take k t ++ w)) o ≡ Some s2 → suc k ≤ counted (stuck t) o
furthest_on t w k s2 h None e = absurd (cc)
furthest_on t w k s2 h (Some s) e = let m : k ≤ stuck t s = h s e in omega arith

-- a run that goes on reads no further
furthest : (t w : List ℕ) (k : ℕ) (s s2 : State) → k ≤ length t → run (take k t ++ w) s ≡ Some s2 → k ≤ stuck t s
furthest t w zero s s2 few e = omega arith
furthest [] w (suc k) s s2 few e = absurd (omega arith)
furthest (b ∷ t) w (suc k) s s2 few e = furthest_on t w k s2 (λ s1. furthest t w k s1 s2 (omega arith)) (taken s b) e

pub longest : (t : List ℕ) → IsLongest t (stuck t start)
longest t =
    let r = read_so_far t start in
    record {
      within = within t start;
      begun = alive (take (stuck t start) t) r.0 (subst (λ o. IfReached (take (stuck t start) t) o) r.1 (reached (take (stuck t start) t) [] start refl));
      longest = λ k few begun. let c = path_run begun.2 in furthest t begun.0 k start c.0 few c.1;
    }

ended_path : (o : Option Path) (p : Path) → ended o ≡ spelled p → o ≡ Some p
ended_path None p h = absurd (cc)
ended_path (Some q) p h = cc

path_on : (b : ℕ) (t : List ℕ) (p : Path) → ((s : State) → reading t s ≡ spelled p → (s2 : State) × (run t s ≡ Some s2) × (accept s2 ≡ Some p)) → (o : Option State)
    → go_on (reading t) (b ∷ t) o ≡ spelled p → (s2 : State) × (option_and_then (run t) o ≡ Some s2) × (accept s2 ≡ Some p)
path_on b t p h None e = absurd (cc)
path_on b t p h (Some s) e = h s e

-- a path that is read is that of the last state
path_read : (t : List ℕ) (s : State) (p : Path) → reading t s ≡ spelled p → (s2 : State) × (run t s ≡ Some s2) × (accept s2 ≡ Some p)
path_read [] s p h = (s, refl, ended_path (accept s) p h)
path_read (b ∷ t) s p h = path_on b t p (λ s1. path_read t s1 p) (taken s b) h

ended_cut : (o : Option Path) (r : List ℕ) → ended o ≡ cut r → ([] ≡ r) × (o ≡ None)
ended_cut None r h = (cc, refl)
ended_cut (Some q) r h = absurd (cc)

-- what is left where the reading stops, and that the last state accepts nothing
abbrev IsCut : List ℕ → State → List ℕ → Type 0
IsCut t s r = (stuck t s + length r ≡ length t) × ((p : Path) (s2 : State) → run t s ≡ Some s2 → accept s2 ≡ Some p → ⊥)

cut_on : (b : ℕ) (t r : List ℕ) (s : State) → ((s1 : State) → reading t s1 ≡ cut r → IsCut t s1 r) → (o : Option State) → taken s b ≡ o
    → go_on (reading t) (b ∷ t) o ≡ cut r → IsCut (b ∷ t) s r
cut_on b t r s h None e f =
    let rest : b ∷ t ≡ r = cc in
    (let m : length r ≡ length t + 1 = ap length (sym rest) ∙ omega arith in ap (λ o. counted (stuck t) o + length r) e ∙ omega arith, λ p s2 k a. absurd (cc (k, e)))
cut_on b t r s h (Some s1) e f =
    let k = h s1 f in
    let n : stuck t s1 + length r ≡ length t = k.0 in
    (ap (λ o. counted (stuck t) o + length r) e ∙ omega arith, λ p s2 g a. k.1 p s2 (sym (ap (λ o. option_and_then (run t) o) e) ∙ g) a)

cut_read : (t : List ℕ) (s : State) (r : List ℕ) → reading t s ≡ cut r → IsCut t s r
cut_read [] s r h =
    let e = ended_cut (accept s) r h in
    (let m : length r ≡ 0 = ap length (sym e.0) in omega arith, λ p s2 k a. absurd (cc (k, a, e.1)))
cut_read (b ∷ t) s r h = cut_on b t r s (λ s1. cut_read t s1 r) (taken s b) refl h

pub exact_path : (t : List ℕ) (p : Path) → reading t start ≡ spelled p → IsPath t p
exact_path t p h =
    let r = path_read t start p h in
    subst (λ o. IfPath t o) r.2 (accepted t r.0 (subst (λ o. IfReached t o) r.1 (reached t [] start refl)))

-- what is left is no longer than the text
pub cut_shorter : (t r : List ℕ) (s : State) → reading t s ≡ cut r → length r ≤ length t
cut_shorter t r s h = let k = (cut_read t s r h).0 in omega (arith, k)

pub exact_fault : (t r : List ℕ) → reading t start ≡ cut r → IsFault t (length t - length r)
exact_fault t r h =
    let k = cut_read t start r h in
    let n : stuck t start + length r ≡ length t = k.0 in
    let at : stuck t start ≡ length t - length r = omega arith in
    (λ p path. let c = path_run path in k.1 p c.0 c.1 c.2, subst (λ m. IsLongest t m) at (longest t))

-- a text spells at most one path
pub one_path : (t : List ℕ) (p q : Path) → IsPath t p → IsPath t q → p ≡ q
one_path t p q h k =
    let a = path_run h in
    let b = path_run k in
    let same : Some a.0 ≡ Some b.0 = sym a.1 ∙ b.1 in
    let states : a.0 ≡ b.0 = cc in
    let paths : Some p ≡ Some q = sym a.2 ∙ ap accept states ∙ b.2 in
    cc
