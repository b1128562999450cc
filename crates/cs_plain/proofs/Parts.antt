-- The one argument of a call, and a left side that decides.
use Rattle.std.proofs.Common.{◌≡◌, ◌<◌, List, [], ◌∷◌, map, length, sym, ap, refl, arith, Option, Some, None, Bool, true, false, true≢false}
use Rattle.cs_value.specs.Tree.{Tree, null, Pairs}
use Rattle.cs_syntax.specs.Expression.{arguments_of}
use Rattle.cs_syntax.specs.View.{argument_of}
use Rattle.cs_syntax.specs.declared.tree.Arg.{Arg}
use Rattle.cs_syntax.specs.declared.tree.BinSign.{BinSign}
use Rattle.cs_syntax.specs.declared.tree.BinSign.TheVariants as sign
use Rattle.cs_plain.specs.Truths.{one_value, one_argument, decides, junction}

pub one_alone : (params : Pairs) (d : Tree) (xs : List Arg) (x : Arg) (ys : List Arg) → xs ≡ x ∷ ys
    → length ys ≡ 0 → one_argument params d (argument_of x) ≡ one_value params d (arguments_of (map argument_of xs))
one_alone params d xs x [] h g =
    ap (λ (zs : List Arg). one_value params d (arguments_of (map argument_of zs))) (sym h)
one_alone params d xs x (y ∷ ys) h g = absurd (omega (arith, g))

pub not_alone : (params : Pairs) (d : Tree) (xs : List Arg) (x : Arg) (ys : List Arg) → xs ≡ x ∷ ys
    → 0 < length ys → null ≡ one_value params d (arguments_of (map argument_of xs))
not_alone params d xs x [] h g = absurd (omega (arith, g))
not_alone params d xs x (y ∷ ys) h g =
    ap (λ (zs : List Arg). one_value params d (arguments_of (map argument_of zs))) (sym h)

-- where the left side of `&&` or `||` decides, the right one does not matter
pub decided : (s : BinSign) (x y : Option Bool) → decides s x ≡ true → x ≡ junction s x y
decided sign.And (Some false) y h = refl
decided sign.Or (Some true) y h = refl
decided sign.And (Some true) y h = absurd (true≢false (sym h))
decided sign.And None y h = absurd (true≢false (sym h))
decided sign.Or (Some false) y h = absurd (true≢false (sym h))
decided sign.Or None y h = absurd (true≢false (sym h))
decided _ x y h = absurd (true≢false (sym h))
