-- The keys and scalars that borrowed ones stand for.
use Rattle.cs_view.specs.declared.key.Scalar.{Scalar}
use Rattle.cs_view.specs.declared.key.Scalar.TheVariants as scalar
use Rattle.cs_view.specs.declared.key.Key.{Key}
use Rattle.cs_view.specs.declared.key.Key.TheVariants as key
use Rattle.cs_plan.specs.declared.lent.LentScalar.{LentScalar}
use Rattle.cs_plan.specs.declared.lent.LentScalar.TheVariants as of
use Rattle.cs_plan.specs.declared.lent.LentKey.{LentKey}
use Rattle.cs_plan.specs.declared.lent.LentKey.TheVariants as lent

abbrev pub scalar_lent : LentScalar → Scalar
scalar_lent (of.Bool b) = scalar.Bool b
scalar_lent (of.Num n) = scalar.Num n
scalar_lent (of.Text t) = scalar.Text t.now

abbrev pub key_lent : LentKey → Key
key_lent (lent.Id t) = key.Id t.now
key_lent (lent.Path names s) = key.Path names (scalar_lent s)
key_lent (lent.Elem names s) = key.Elem names (scalar_lent s)
key_lent (lent.Ref t) = key.Ref t.now
