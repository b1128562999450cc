-- The causes of the code, and what it asks of targets. For private clauses.
use Rattle.std.specs.Prelude.{ℕ, List, [], ◌∷◌, Option, Some, None, codes, cond}
use Rattle.cs_ops.specs.Arithmetic.{is_of_64_bits}
use Rattle.cs_targets.specs.Targets.{if_some}
use Rattle.cs_patch.specs.Operations.{Refusal, immutable, not_number, overflow, not_array, fixed_at, or_else}
use Rattle.cs_alter.specs.Alterations.{counted}
use Rattle.cs_targets.specs.Seen.{Seen}
use Rattle.cs_alter.specs.declared.alteration.Change.{Change}
use Rattle.cs_targets.specs.declared.target.Stands.{Stands}
use Rattle.cs_targets.specs.declared.target.Stands.TheVariants as stands
use Rattle.cs_patch.specs.declared.refusal.Fixed.{Fixed}
use Rattle.cs_patch.specs.declared.refusal.Fixed.TheVariants as name
use Rattle.cs_patch.specs.declared.refusal.Cause.{Cause}
use Rattle.cs_patch.specs.declared.refusal.Cause.TheVariants as cause
use Rattle.cs_patch.specs.declared.refusal.Ask.{Ask}
use Rattle.cs_patch.specs.declared.refusal.Ask.TheVariants as ask

abbrev pub name_of : Fixed → List ℕ
name_of name.Id = codes "_id"
name_of name.Type = codes "_type"
name_of name.Rev = codes "_rev"
name_of name.CreatedAt = codes "_createdAt"
name_of name.UpdatedAt = codes "_updatedAt"

abbrev pub refusal_of : List ℕ → Cause → Refusal
refusal_of path (cause.Immutable f) = immutable (name_of f)
refusal_of path cause.NotNumber = not_number path
refusal_of path cause.Overflow = overflow path
refusal_of path cause.NotArray = not_array path

abbrev pub number_of : List ℕ → Change → Stands → Option Refusal
number_of path c (stands.Number m) = cond (is_of_64_bits (counted c m)) None (Some (overflow path))
number_of path c _ = Some (not_number path)

abbrev pub list_at : List ℕ → Stands → Option Refusal
list_at path stands.List = None
list_at path _ = Some (not_array path)

abbrev pub check_of : Ask → List ℕ → Seen → Option Refusal
check_of ask.Free path x = fixed_at x.location
check_of (ask.Number c) path x = or_else (fixed_at x.location) (number_of path c x.stands)
check_of ask.List path x = or_else (fixed_at x.location) (list_at path x.stands)

abbrev pub first_seen : (Seen → Option Refusal) → List Seen → Option Refusal
first_seen check [] = None
first_seen check (x ∷ xs) = if_some Some (first_seen check xs) (check x)
