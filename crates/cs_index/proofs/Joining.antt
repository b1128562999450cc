-- A set of entries joined to another.
use Rattle.std.proofs.Common.{◌≡◌, ◌∙◌, List, [], ◌∷◌, Bool, true, false, cond, ◌||◌, refl, ap}
use Rattle.std.proofs.lemmas.Cmp.{nat_cmp_total}
use Rattle.std.specs.BTreeSet.{BTreeSet, InsertsAll, IsFromIterResult, MovesPrefix}
use Rattle.std.specs.Cmp.{IsTotalOrder, eq_by_cmp_equiv, then_total, on_total}
use Rattle.std.specs.List.{list_any}
use Rattle.std.specs.Ordering.{eq_by_cmp}
use Rattle.cs_index.specs.Entries.{entry_cmp, has_entry, is_in, Gain, Grows}
use Rattle.cs_index.specs.declared.entry.Entry.{Entry}

entry_total : IsTotalOrder entry_cmp
entry_total = then_total (on_total (λ (e : Entry). e.code) nat_cmp_total) (on_total (λ (e : Entry). e.place) nat_cmp_total)

-- equality may be asked from either side
member : (q : Entry) (es : List Entry) → list_any (eq_by_cmp entry_cmp q) es ≡ is_in q es
member q [] = refl
member q (e ∷ es) =
    ap (λ b. b || list_any (eq_by_cmp entry_cmp q) es) ((eq_by_cmp_equiv entry_total).symm q e)
    ∙ ap (λ b. eq_by_cmp entry_cmp e q || b) (member q es)

turned : (a b : Bool) → (a || b) ≡ cond b true a
turned true true = refl
turned true false = refl
turned false true = refl
turned false false = refl

stays : (a b : Bool) → a ≡ true → (a || b) ≡ true
stays a b h = ap (λ x. x || b) h

-- the entries of a list are added, where all of the set are
pub gained : (es : List Entry) (apart old new : BTreeSet Entry) → IsFromIterResult entry_cmp es apart → InsertsAll entry_cmp old apart.keys new → Gain (λ q. is_in q es) old new
gained es apart old new made joins q =
    joins.0 q ∙ ap (λ b. has_entry old q || b) (made.0 q ∙ member q es) ∙ turned (has_entry old q) (is_in q es)

-- and none is lost, also where some of them are left behind
pub grown : (apart rest old new : BTreeSet Entry) → MovesPrefix entry_cmp old apart new rest → Grows old new
grown apart rest old new moves q has = moves.2.0 q ∙ stays (has_entry old q) (list_any (eq_by_cmp entry_cmp q) moves.0) has
