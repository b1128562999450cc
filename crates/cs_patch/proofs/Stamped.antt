-- The document that a patch comes to, once its operations are done.
use Rattle.std.proofs.Common.{◌≡◌, ℕ, List, [], ◌∷◌, ◌++◌, map, Bool, true, false, ◌&&◌, Option, Some, None, option_map, option_to_list, length, nat_lt, is_some, option_and_then, unwrap_or, bytes_eq, codes, refl, sym, ap, subst, ◌∙◌}
use Rattle.cs_value.specs.Tree.{Tree, null, boolean, integer, text, list, object, Pairs}
use Rattle.cs_value.specs.Pairs.{attribute, find, put}
use Rattle.cs_value.specs.Id.{is_id}
use Rattle.cs_value.specs.Words.{is_object, as_text}
use Rattle.cs_view.specs.Document.{passes, is_document, is_shallow, is_body, has_id, has_type, has_text, id_of, rev_of}
use Rattle.cs_view.proofs.Booleans.{or-left, or-right}
use Rattle.cs_view.proofs.Documents.{parts, whole}
use Rattle.cs_patch.specs.Laws.{is_stamp}
use Rattle.cs_patch.specs.Operations.{Outcome, document, and_then, Insertion, set_path, set_missing_path, unset_path, inc_path, dec_path}
use Rattle.cs_patch.specs.Patched.{Patch, paths, in_turn, maybe_insert, operations, stamped, revision_refusal, worked, patched}
use Rattle.cs_patch.proofs.Fixed.{other-put, same-put, shallow-put}
use Rattle.cs_patch.proofs.Worked.{AreRead, Kept, refusing, then_is, same_document, operations-kept}

-- what a patched document was before its stamps
record Before (p : Patch) (d e : Tree) (tx moment : List ℕ) : Type 0 where
  pub worked : Tree
  pub comes : operations p d ≡ document worked
  pub is : stamped tx moment worked ≡ e

before : (p : Patch) (d e : Tree) (tx moment : List ℕ) → patched p d tx moment ≡ document e
    → Before p d e tx moment
before p d e tx moment h =
    let r = refusing (revision_refusal p.if_revision (rev_of d)) (worked p d tx moment) e h in
    let s = then_is (λ t. document (stamped tx moment t)) (operations p d) e r.1 in
    record { worked = s.0; comes = s.1; is = same_document (stamped tx moment s.0) e s.2 }

pub pairs_of : (w : Tree) → is_object w ≡ true → (ps : Pairs) × (w ≡ object ps)
pairs_of null h = absurd cc
pairs_of (boolean b) h = absurd cc
pairs_of (integer n) h = absurd cc
pairs_of (text s) h = absurd cc
pairs_of (list ts) h = absurd cc
pairs_of (object ps) h = (ps, refl)

-- another attribute than the two stamps
unstamped : (n tx moment : List ℕ) (ps : Pairs) → is_stamp n ≡ false
    → attribute n (stamped tx moment (object ps)) ≡ find n ps
unstamped n tx moment ps h =
    other-put n (codes "_updatedAt") (text moment) (put (codes "_rev") (text tx) ps)
    (or-right (bytes_eq n (codes "_rev")) (bytes_eq n (codes "_updatedAt")) h)
    ∙ other-put n (codes "_rev") (text tx) ps
    (or-left (bytes_eq n (codes "_rev")) (bytes_eq n (codes "_updatedAt")) h)

-- the two stamps
updated : (tx moment : List ℕ) (ps : Pairs)
    → attribute (codes "_updatedAt") (stamped tx moment (object ps)) ≡ Some (text moment)
updated tx moment ps = same-put (codes "_updatedAt") (text moment) (put (codes "_rev") (text tx)
    ps)

revised : (tx moment : List ℕ) (ps : Pairs)
    → attribute (codes "_rev") (stamped tx moment (object ps)) ≡ Some (text tx)
revised tx moment ps =
    other-put (codes "_rev") (codes "_updatedAt") (text moment) (put (codes "_rev") (text tx) ps)
    refl
    ∙ same-put (codes "_rev") (text tx) ps

three : (a b c : Bool) → (a && b && c) ≡ true → (a ≡ true) × (b ≡ true) × (c ≡ true)
three true true true h = (refl, refl, refl)
three false b c h = cc
three true false c h = cc
three true true false h = cc

all_three : (a b c : Bool) → a ≡ true → b ≡ true → c ≡ true → (a && b && c) ≡ true
all_three a b c g h i = rw (g, h, i) refl

-- a body with its moment of creation, once it is stamped, is a document of the same id
pub stamped-body : (ps : Pairs) (tx moment : List ℕ) → is_body (object ps) ≡ true
    → is_shallow (object ps) ≡ true → has_text (codes "_createdAt") (object ps) ≡ true
    → (is_document (stamped tx moment (object ps)) ≡ true)
    × (id_of (stamped tx moment (object ps)) ≡ id_of (object ps))
stamped-body ps tx moment body shallow created =
    let e = stamped tx moment (object ps) in
    let b = three true (has_id (object ps)) (has_type (object ps)) body in
    let id : attribute (codes "_id") e ≡ find (codes "_id") ps =
    unstamped (codes "_id") tx moment ps refl in
    let type : attribute (codes "_type") e ≡ find (codes "_type") ps =
    unstamped (codes "_type") tx moment ps refl in
    let made : attribute (codes "_createdAt") e ≡ find (codes "_createdAt") ps =
    unstamped (codes "_createdAt") tx moment ps refl in (
      whole e (record {
        body = all_three (is_object e) (has_id e) (has_type e) refl
            (ap (λ a. passes is_id (option_and_then as_text a)) id ∙ b.1)
            (ap (λ a. passes (λ s. nat_lt 0 (length s)) (option_and_then as_text a)) type ∙ b.2);
        shallow =
            shallow-put (codes "_updatedAt") moment (put (codes "_rev") (text tx) ps)
            (shallow-put (codes "_rev") tx ps shallow);
        rev = ap (λ a. is_some (option_and_then as_text a)) (revised tx moment ps);
        created = ap (λ a. is_some (option_and_then as_text a)) made ∙ created;
        updated = ap (λ a. is_some (option_and_then as_text a)) (updated tx moment ps);
      }),
      ap (λ a. unwrap_or (option_and_then as_text a) []) id,
    )

stamped_document : (d : Tree) (ps : Pairs) (tx moment : List ℕ) → is_document d ≡ true
    → Kept d (object ps)
    → (is_document (stamped tx moment (object ps)) ≡ true)
    × (id_of (stamped tx moment (object ps)) ≡ id_of d)
stamped_document d ps tx moment h k =
    let p = parts d h in
    let b = three (is_object d) (has_id d) (has_type d) p.body in
    let s = stamped-body ps tx moment
    (all_three true (has_id (object ps)) (has_type (object ps)) refl
    (ap (λ a. passes is_id (option_and_then as_text a)) (k.keeps.same (codes "_id") refl) ∙ b.1)
    (ap (λ a. passes (λ s. nat_lt 0 (length s)) (option_and_then as_text a))
    (k.keeps.same (codes "_type") refl) ∙ b.2))
    (k.shallow p.shallow)
    (ap (λ a. is_some (option_and_then as_text a)) (k.keeps.same (codes "_createdAt") refl)
    ∙ p.created) in
    (s.0, s.1 ∙ ap (λ a. unwrap_or (option_and_then as_text a) []) (k.keeps.same (codes "_id") refl))

is_object_of : (d : Tree) → is_document d ≡ true → is_object d ≡ true
is_object_of d h = (three (is_object d) (has_id d) (has_type d) (parts d h).body).0

-- the patched document is one, with the same id
pub patched-document : AreRead → (p : Patch) (d e : Tree) (tx moment : List ℕ)
    → is_document d ≡ true → patched p d tx moment ≡ document e
    → (is_document e ≡ true) × (id_of e ≡ id_of d)
patched-document read p d e tx moment h g =
    let b = before p d e tx moment g in
    let k = operations-kept read p d b.worked b.comes in
    let o = pairs_of b.worked (k.keeps.object (is_object_of d h)) in
    subst (λ t. (is_document t ≡ true) × (id_of t ≡ id_of d)) (ap (stamped tx moment) (sym o.1) ∙
    b.is)
    (stamped_document d o.0 tx moment h (subst (λ t. Kept d t) o.1 k))

-- ---- a patch without operations
no_left : {A : Type 0} (xs ys : List A) → xs ++ ys ≡ [] → xs ≡ []
no_left [] ys h = refl
no_left (x ∷ xs) ys h = absurd cc

no_right : {A : Type 0} (xs ys : List A) → xs ++ ys ≡ [] → ys ≡ []
no_right [] ys h = h
no_right (x ∷ xs) ys h = absurd cc

none_mapped : {A B : Type 0} (f : A → B) (xs : List A) → map f xs ≡ [] → xs ≡ []
none_mapped f [] h = refl
none_mapped f (x ∷ xs) h = absurd cc

none_there : (o : Option Insertion) → option_to_list (option_map (λ i. i.path) o) ≡ [] → o ≡ None
none_there None h = refl
none_there (Some i) h = absurd cc

-- nothing happens in turn
idle : {A : Type 0} (f : A → Tree → Outcome) (xs : List A) (o : Outcome) (v : Tree)
    → xs ≡ [] → o ≡ document v → and_then (in_turn f xs) o ≡ document v
idle f xs o v h g = ap (and_then (in_turn f xs)) g ∙ ap (λ ys. in_turn f ys v) h

no_operations : (p : Patch) (v : Tree) → paths p ≡ [] → operations p v ≡ document v
no_operations p v h =
    let a = map (λ e. e.0) p.set_if_missing in
    let b = map (λ e. e.0) p.set in
    let c = p.unset in
    let d = map (λ e. e.0) p.inc in
    let e = map (λ e. e.0) p.dec in
    let f = option_to_list (option_map (λ i. i.path) p.insert) in
    let h1 : a ++ b ++ c ++ d ++ e ≡ [] = no_left (a ++ b ++ c ++ d ++ e) f h in
    let h2 : a ++ b ++ c ++ d ≡ [] = no_left (a ++ b ++ c ++ d) e h1 in
    let h3 : a ++ b ++ c ≡ [] = no_left (a ++ b ++ c) d h2 in
    let h4 : a ++ b ≡ [] = no_left (a ++ b) c h3 in
    let o1 = ap (λ xs. in_turn set_missing_path xs v)
    (none_mapped (λ x. x.0) p.set_if_missing (no_left a b h4)) in
    let o2 = idle set_path p.set (in_turn set_missing_path p.set_if_missing v) v
    (none_mapped (λ x. x.0) p.set (no_right a b h4)) o1 in
    let o3 = idle unset_path p.unset _ v (no_right (a ++ b) c h3) o2 in
    let o4 = idle inc_path p.inc _ v
    (none_mapped (λ x. x.0) p.inc (no_right (a ++ b ++ c) d h2)) o3 in
    let o5 = idle dec_path p.dec _ v
    (none_mapped (λ x. x.0) p.dec (no_right (a ++ b ++ c ++ d) e h1)) o4 in
    ap (and_then (maybe_insert p.insert)) o5 ∙ ap (λ o. maybe_insert o v)
    (none_there p.insert (no_right (a ++ b ++ c ++ d ++ e) f h))

-- the two texts alone are others
pub nothing-asked : (p : Patch) (d e : Tree) (tx moment : List ℕ)
    → is_document d ≡ true → paths p ≡ [] → patched p d tx moment ≡ document e
    → (attribute (codes "_rev") e ≡ Some (text tx))
    × (attribute (codes "_updatedAt") e ≡ Some (text moment))
    × ((n : List ℕ) → is_stamp n ≡ false → attribute n e ≡ attribute n d)
nothing-asked p d e tx moment h none g =
    let b = before p d e tx moment g in
    let same : d ≡ b.worked = same_document d b.worked (sym (no_operations p d none) ∙ b.comes) in
    let o = pairs_of d (is_object_of d h) in
    let is : stamped tx moment (object o.0) ≡ e =
    ap (stamped tx moment) (sym o.1 ∙ same) ∙ b.is in (
      ap (attribute (codes "_rev")) (sym is) ∙ revised tx moment o.0,
      ap (attribute (codes "_updatedAt")) (sym is) ∙ updated tx moment o.0,
      λ n s. ap (attribute n) (sym is) ∙ unstamped n tx moment o.0 s ∙ ap (attribute n) (sym o.1),
    )
