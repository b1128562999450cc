-- The total order is by rank, then by number, then by text; so it has the laws of these three orders.
use Rattle.std.proofs.Common.{◌≡◌, ℕ, List, [], ℤ, pos, true, false, refl, sym, ap, ◌∙◌, nat_cmp, Some, IsTrue}
use Rattle.std.specs.Cmp.{IsTotalOrder}
use Rattle.std.specs.Cmp.Lexicographic.{slice_cmp}
use Rattle.std.specs.Ordering.{int_cmp, on, then_cmp, ordering_reverse, ordering_then, is_eq}
use Rattle.std.specs.declared.cmp.Ordering.{Ordering}
use Rattle.std.specs.declared.cmp.Ordering.TheVariants.{Less, Equal, Greater}
use Rattle.std.proofs.lemmas.Cmp.{nat_cmp_total, int_cmp_total, nat_list_cmp_total, on_total, then_total}
use Rattle.std.proofs.lemmas.Map.Text.{is_eq-slice_cmp}
use Rattle.cs_value.specs.Tree.{Tree, null, boolean, integer, text, list, object}
use Rattle.cs_ops.specs.Equal.{equal}
use Rattle.cs_ops.specs.Order.{partial, rank, total}

-- what a value has of a number, and of a text
num : Tree → ℤ
num (integer n) = n
num (boolean true) = pos 1
num (boolean false) = pos 0
num (text s) = pos 0
num null = pos 0
num (list ts) = pos 0
num (object ps) = pos 0

codes : Tree → List ℕ
codes (text s) = s
codes (integer n) = []
codes (boolean b) = []
codes null = []
codes (list ts) = []
codes (object ps) = []

inside : Tree → Tree → Ordering
inside = then_cmp (on num int_cmp) (on codes (slice_cmp nat_cmp))

by_parts : Tree → Tree → Ordering
by_parts = then_cmp (on rank nat_cmp) inside

laws : IsTotalOrder by_parts
unfolding by_parts inside
laws = then_total (on_total rank nat_cmp_total) (then_total (on_total num int_cmp_total) (on_total codes nat_list_cmp_total))

then_equal : (o : Ordering) → o ≡ ordering_then o Equal
then_equal Less = refl
then_equal Equal = refl
then_equal Greater = refl

-- a value that is neither a number nor a text nor a boolean
other_first : (b : Tree) → ordering_then (nat_cmp 3 (rank b)) Equal ≡ ordering_then (nat_cmp 3 (rank b)) (ordering_then (int_cmp (pos 0) (num b)) (slice_cmp nat_cmp [] (codes b)))
unfolding num codes
other_first (boolean false) = refl
other_first (boolean true) = refl
other_first null = refl
other_first (integer n) = refl
other_first (text s) = refl
other_first (list ts) = refl
other_first (object ps) = refl

by_key : (a b : Tree) → total a b ≡ by_parts a b
unfolding by_parts inside num codes
by_key null b = other_first b
by_key (list ts) b = other_first b
by_key (object ps) b = other_first b
by_key (integer m) (integer n) = then_equal (int_cmp m n)
by_key (text s) (text t) = refl
by_key (boolean false) (boolean false) = refl
by_key (boolean false) (boolean true) = refl
by_key (boolean true) (boolean false) = refl
by_key (boolean true) (boolean true) = refl
by_key a b = refl

pub total-laws : IsTotalOrder total
total-laws = record {
  antisymm = λ a b. by_key a b ∙ laws.antisymm a b ∙ ap ordering_reverse (sym (by_key b a));
  trans = λ a b c h k. by_key a c ∙ laws.trans a b c (sym (by_key a b) ∙ h) (sym (by_key b c) ∙ k);
  congr = λ a b c h. by_key a c ∙ laws.congr a b c (sym (by_key a b) ∙ h) ∙ sym (by_key b c);
}

is_equal : (o : Ordering) → Some o ≡ Some Equal → is_eq o ≡ true
is_equal o h = let e : o ≡ Equal = cc in ap is_eq e

pub equal-compared : (a b : Tree) → partial a b ≡ Some Equal → IsTrue (equal a b)
equal-compared (integer m) (integer n) h = is_equal _ h
equal-compared (text s) (text t) h = sym (is_eq-slice_cmp s t) ∙ is_equal _ h
equal-compared (boolean x) (boolean y) h = is_equal _ h
equal-compared a b h = absurd (cc)
