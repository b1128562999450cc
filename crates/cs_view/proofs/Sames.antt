-- Two trees are one exactly where `same_tree` says so.
use Rattle.std.proofs.Common.{◌≡◌, Bool, true, false, ◌&&◌, refl, ap, ap₂}
use Rattle.std.specs.Ordering.{is_eq, bool_cmp}
use Rattle.std.specs.Str.{bytes_eq}
use Rattle.std.proofs.lemmas.Bool.Decides.{Decides-int_eq}
use Rattle.std.proofs.lemmas.Slice.Eq.{bytes_eq-Decides}
use Rattle.std.proofs.lemmas.Bool.{and_from}
use Rattle.cs_value.specs.Tree.{Tree, null, boolean, integer, text, list, object, Trees, no_trees, more_trees, Pairs, no_pairs, more_pairs}
use Rattle.cs_view.proofs.Booleans.{and-left, and-right}
use Rattle.cs_value.specs.Same.{same_tree, same_trees, same_pairs}

same-bools : (a b : Bool) → is_eq (bool_cmp a b) ≡ true → a ≡ b
same-bools true true h = refl
same-bools true false h = absurd (cc)
same-bools false true h = absurd (cc)
same-bools false false h = refl

bools-same : (a : Bool) → is_eq (bool_cmp a a) ≡ true
bools-same true = refl
bools-same false = refl

mutual
  pub same-one : (a b : Tree) → same_tree a b ≡ true → a ≡ b
  same-one null null h = refl
  same-one null (boolean b) h = absurd (cc)
  same-one null (integer n) h = absurd (cc)
  same-one null (text s) h = absurd (cc)
  same-one null (list ts) h = absurd (cc)
  same-one null (object ps) h = absurd (cc)
  same-one (boolean b) null h = absurd (cc)
  same-one (boolean b1) (boolean b2) h = ap boolean (same-bools b1 b2 h)
  same-one (boolean b) (integer n) h = absurd (cc)
  same-one (boolean b) (text s) h = absurd (cc)
  same-one (boolean b) (list ts) h = absurd (cc)
  same-one (boolean b) (object ps) h = absurd (cc)
  same-one (integer n) null h = absurd (cc)
  same-one (integer n) (boolean b) h = absurd (cc)
  same-one (integer n1) (integer n2) h = ap integer ((Decides-int_eq n1 n2).0 h)
  same-one (integer n) (text s) h = absurd (cc)
  same-one (integer n) (list ts) h = absurd (cc)
  same-one (integer n) (object ps) h = absurd (cc)
  same-one (text s) null h = absurd (cc)
  same-one (text s) (boolean b) h = absurd (cc)
  same-one (text s) (integer n) h = absurd (cc)
  same-one (text s1) (text s2) h = ap text ((bytes_eq-Decides s1 s2).0 h)
  same-one (text s) (list ts) h = absurd (cc)
  same-one (text s) (object ps) h = absurd (cc)
  same-one (list ts) null h = absurd (cc)
  same-one (list ts) (boolean b) h = absurd (cc)
  same-one (list ts) (integer n) h = absurd (cc)
  same-one (list ts) (text s) h = absurd (cc)
  same-one (list ts1) (list ts2) h = ap list (same-trees ts1 ts2 h)
  same-one (list ts) (object ps) h = absurd (cc)
  same-one (object ps) null h = absurd (cc)
  same-one (object ps) (boolean b) h = absurd (cc)
  same-one (object ps) (integer n) h = absurd (cc)
  same-one (object ps) (text s) h = absurd (cc)
  same-one (object ps) (list ts) h = absurd (cc)
  same-one (object ps1) (object ps2) h = ap object (same-pairs ps1 ps2 h)

  same-trees : (a b : Trees) → same_trees a b ≡ true → a ≡ b
  same-trees no_trees no_trees h = refl
  same-trees no_trees (more_trees u us) h = absurd (cc)
  same-trees (more_trees t ts) no_trees h = absurd (cc)
  same-trees (more_trees t ts) (more_trees u us) h =
      ap₂ more_trees (same-one t u (and-left (same_tree t u) (same_trees ts us) h))
      (same-trees ts us (and-right (same_tree t u) (same_trees ts us) h))

  same-pairs : (a b : Pairs) → same_pairs a b ≡ true → a ≡ b
  same-pairs no_pairs no_pairs h = refl
  same-pairs no_pairs (more_pairs l u qs) h = absurd (cc)
  same-pairs (more_pairs k t ps) no_pairs h = absurd (cc)
  same-pairs (more_pairs k t ps) (more_pairs l u qs) h =
      let rest = and-right (bytes_eq k l) (same_tree t u && same_pairs ps qs) h in
      let e : k ≡ l = (bytes_eq-Decides k l).0 (and-left (bytes_eq k l) (same_tree t u && same_pairs ps qs) h) in
      let f : t ≡ u = same-one t u (and-left (same_tree t u) (same_pairs ps qs) rest) in
      let g : ps ≡ qs = same-pairs ps qs (and-right (same_tree t u) (same_pairs ps qs) rest) in
      λ i. more_pairs (e i) (f i) (g i)

mutual
  pub one-same : (a : Tree) → same_tree a a ≡ true
  one-same null = refl
  one-same (boolean b) = bools-same b
  one-same (integer n) = (Decides-int_eq n n).1 refl
  one-same (text s) = (bytes_eq-Decides s s).1 refl
  one-same (list ts) = trees-same ts
  one-same (object ps) = pairs-same ps

  trees-same : (a : Trees) → same_trees a a ≡ true
  trees-same no_trees = refl
  trees-same (more_trees t ts) = and_from (same_tree t t) (same_trees ts ts) (one-same t) (trees-same ts)

  pairs-same : (a : Pairs) → same_pairs a a ≡ true
  pairs-same no_pairs = refl
  pairs-same (more_pairs k t ps) =
      and_from (bytes_eq k k) (same_tree t t && same_pairs ps ps) ((bytes_eq-Decides k k).1 refl)
      (and_from (same_tree t t) (same_pairs ps ps) (one-same t) (pairs-same ps))
