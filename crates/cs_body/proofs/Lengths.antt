-- What a transaction has stands in the body that it is.
use Rattle.std.proofs.Common.{◌≡◌, ◌≤◌, ◌⊎◌, inl, inr, ℕ, suc, ℤ, List, [], ◌∷◌, ◌++◌, map, length, Bool, true, false, cond, Option, Some, None, option_map, option_and_then, bytes_eq, codes, Ordering, Less, Equal, Greater, nat_cmp, refl, sym, ap, subst, ◌∙◌, arith}
use Rattle.std.specs.Prelude.{IfSome}
use Rattle.std.specs.Cmp.Lexicographic.{slice_cmp}
use Rattle.std.specs.Ordering.{match_ordering}
use Rattle.std.specs.Option.{option_to_list}
use Rattle.std.specs.List.{AllByRecursion}
use Rattle.cs_value.specs.Tree.{Tree, null, boolean, integer, text, list, object, Trees, no_trees, more_trees, Pairs, no_pairs, more_pairs, members, attributes, widest, trees_len, trees_widest, pairs_widest}
use Rattle.cs_value.specs.Pairs.{find}
use Rattle.cs_value.specs.Words.{as_text, as_list, as_object, as_integer}
use Rattle.cs_wire.specs.Commands.{has_keys, given, text_in, params_in, value_or}
use Rattle.cs_alter.specs.Inserted.{Side, before, after, replace as instead}
use Rattle.cs_patch.specs.Operations.{Insertion}
use Rattle.cs_patch.specs.Patched.{Patch}
use Rattle.cs_body.specs.Body.{Body, no_command, bad_id, transaction, all_read, values_in, numbered, numbers_in, texts_in, text_or_none, inserted_at, insertion_of, insertion_in, patch_of, patch_in, patch_keys, aim_in, removal_in, has_diff, change_in, action_at, sole_action, action, is_tx_id, tx_of_line, by_id, by_actions, of_pairs, body_of}
use Rattle.cs_body.specs.Transaction.{Aim, one, asked, Action, create, replace, if_none, remove, change, Transaction}
use Rattle.cs_body.specs.Laws.{AimIsWithin, ValuesAreWithin, InsertionIsWithin, PatchIsWithin, ActionIsWithin}
use Rattle.cs_body.proofs.Lists.{all_read_have, all_read_long}

-- ---- options
either : {A : Type 0} (b : Bool) (x y : Option A) (a : A) (P : Type 0) → (x ≡ Some a → P) → (y ≡ Some a → P) → cond b x y ≡ Some a → P
either true x y a P these those e = these e
either false x y a P these those e = those e

mapped : {A B : Type 0} (f : A → B) (o : Option A) (b : B) (P : Type 0) → ((a : A) → o ≡ Some a → f a ≡ b → P) → option_map f o ≡ Some b → P
mapped f None b P k e = absurd (cc)
mapped f (Some a) b P k e = let same : f a ≡ b = cc in k a refl same

then_is : {A B : Type 0} (f : A → Option B) (o : Option A) (b : B) (P : Type 0) → ((a : A) → o ≡ Some a → f a ≡ Some b → P) → option_and_then f o ≡ Some b → P
then_is f None b P k e = absurd (cc)
then_is f (Some a) b P k e = k a refl e

both : {A B : Type 0} (f : Option (A → B)) (o : Option A) (b : B) (P : Type 0) → ((g : A → B) (a : A) → f ≡ Some g → o ≡ Some a → g a ≡ b → P) → given f o ≡ Some b → P
both None o b P k e = absurd (cc)
both (Some g) None b P k e = absurd (cc)
both (Some g) (Some a) b P k e = let same : g a ≡ b = cc in k g a refl refl same

-- ---- values
text_of : (t : Tree) (s : List ℕ) → as_text t ≡ Some s → length s ≤ widest t
text_of null s e = cc
text_of (boolean b) s e = cc
text_of (integer n) s e = cc
text_of (text u) s e = let same : u ≡ s = cc in omega (arith, ap length same)
text_of (list ts) s e = cc
text_of (object ps) s e = cc

object_of : (t : Tree) (qs : Pairs) → as_object t ≡ Some qs → pairs_widest qs ≤ widest t
object_of null qs e = cc
object_of (boolean b) qs e = cc
object_of (integer n) qs e = cc
object_of (text s) qs e = cc
object_of (list ts) qs e = cc
object_of (object ps) qs e = let same : ps ≡ qs = cc in omega (arith, ap pairs_widest same)

members_long : (ts : Trees) → length (members ts) ≡ trees_len ts
members_long no_trees = refl
members_long (more_trees t ts) = ap suc (members_long ts)

members_within : (n : ℕ) (ts : Trees) → trees_widest ts ≤ n → AllByRecursion (λ t. widest t ≤ n) (members ts)
members_within n no_trees h = tt
members_within n (more_trees t ts) h = (omega arith, members_within n ts (omega arith))

abbrev ListIsWithin : ℕ → List Tree → Type 0
ListIsWithin n ts = (length ts ≤ n) × AllByRecursion (λ t. widest t ≤ n) ts

list_of : (n : ℕ) (t : Tree) (ts : List Tree) → widest t ≤ n → as_list t ≡ Some ts → ListIsWithin n ts
list_of n null ts h e = absurd (cc)
list_of n (boolean b) ts h e = absurd (cc)
list_of n (integer m) ts h e = absurd (cc)
list_of n (text s) ts h e = absurd (cc)
list_of n (list us) ts h e =
    let same : members us ≡ ts = cc in
    subst (ListIsWithin n) same (omega (arith, members_long us), members_within n us (omega arith))
list_of n (object ps) ts h e = absurd (cc)

find_within : (n : ℕ) (k : List ℕ) (ps : Pairs) (t : Tree) → pairs_widest ps ≤ n → find k ps ≡ Some t → widest t ≤ n
find_within n k no_pairs t h e = absurd (cc)
find_within n k (more_pairs l u ps) t h e =
    found (slice_cmp nat_cmp k l) (find k ps) (λ f. find_within n k ps t (omega arith) f) e
  where
    found : (o : Ordering) (rest : Option Tree) → (rest ≡ Some t → widest t ≤ n) → match_ordering o rest (Some u) rest ≡ Some t → widest t ≤ n
    found Less rest more f = more f
    found Equal rest more f = let same : u ≡ t = cc in omega (arith, ap widest same)
    found Greater rest more f = more f

abbrev EntryIsWithin : ℕ → List ℕ × Tree → Type 0
EntryIsWithin n e = (length e.0 ≤ n) × (widest e.1 ≤ n)

attributes_within : (n : ℕ) (ps : Pairs) → pairs_widest ps ≤ n → AllByRecursion (EntryIsWithin n) (attributes ps)
attributes_within n no_pairs h = tt
attributes_within n (more_pairs k t ps) h = ((omega arith, omega arith), attributes_within n ps (omega arith))

-- ---- parts
text_in_within : (n : ℕ) (k : List ℕ) (ps : Pairs) (s : List ℕ) → pairs_widest ps ≤ n → text_in k ps ≡ Some s → length s ≤ n
text_in_within n k ps s h e =
    then_is as_text (find k ps) s (length s ≤ n) (λ t is f. omega (arith, text_of t s f, find_within n k ps t h is)) e

value_within : {A : Type 0} (n : ℕ) (k : List ℕ) (ps : Pairs) (absent : A) (read : Tree → Option A) (a : A) (P : A → Type 0) → pairs_widest ps ≤ n → P absent
    → ((t : Tree) → widest t ≤ n → read t ≡ Some a → P a) → value_or absent read (find k ps) ≡ Some a → P a
value_within {A = A} n k ps absent read a P h none there e = by_find (find k ps) (λ t is. find_within n k ps t h is) e
  where
    by_find : (o : Option Tree) → ((t : Tree) → o ≡ Some t → widest t ≤ n) → value_or absent read o ≡ Some a → P a
    by_find None low f = let same : absent ≡ a = cc in subst P same none
    by_find (Some t) low f = there t (low t refl) f

params_within : (n : ℕ) (ps qs : Pairs) → pairs_widest ps ≤ n → params_in ps ≡ Some qs → pairs_widest qs ≤ n
params_within n ps qs h e =
    value_within n (codes "params") ps no_pairs as_object qs (λ q. pairs_widest q ≤ n) h (omega arith) (λ t low is. omega (arith, object_of t qs is)) e

values_within : (n : ℕ) (k : List ℕ) (ps : Pairs) (es : List (List ℕ × Tree)) → pairs_widest ps ≤ n → values_in k ps ≡ Some es → AllByRecursion (EntryIsWithin n) es
values_within n k ps es h e =
    value_within n k ps [] (λ t. option_map attributes (as_object t)) es (AllByRecursion (EntryIsWithin n)) h tt
    (λ t low is. mapped attributes (as_object t) es (AllByRecursion (EntryIsWithin n) es)
    (λ qs from same. subst (AllByRecursion (EntryIsWithin n)) same (attributes_within n qs (omega (arith, object_of t qs from)))) is) e

abbrev NumberIsWithin : ℕ → List ℕ × ℤ → Type 0
NumberIsWithin n e = length e.0 ≤ n

numbers_within : (n : ℕ) (k : List ℕ) (ps : Pairs) (es : List (List ℕ × ℤ)) → pairs_widest ps ≤ n → numbers_in k ps ≡ Some es → AllByRecursion (NumberIsWithin n) es
numbers_within n k ps es h e =
    then_is (all_read numbered) (values_in k ps) es (AllByRecursion (NumberIsWithin n) es)
    (λ vs is f. all_read_have numbered (EntryIsWithin n) (NumberIsWithin n)
    (λ v m low g. mapped (λ i. (v.0, i)) (as_integer v.1) m (NumberIsWithin n m) (λ i from same. subst (NumberIsWithin n) same low.0) g) vs es (values_within n k ps vs h is) f) e

abbrev TextIsWithin : ℕ → List ℕ → Type 0
TextIsWithin n s = length s ≤ n

texts_within : (n : ℕ) (k : List ℕ) (ps : Pairs) (ss : List (List ℕ)) → pairs_widest ps ≤ n → texts_in k ps ≡ Some ss → AllByRecursion (TextIsWithin n) ss
texts_within n k ps ss h e =
    value_within n k ps [] (λ t. option_and_then (all_read as_text) (as_list t)) ss (AllByRecursion (TextIsWithin n)) h tt
    (λ t low is. then_is (all_read as_text) (as_list t) ss (AllByRecursion (TextIsWithin n) ss)
    (λ ts from f. all_read_have as_text (λ u. widest u ≤ n) (TextIsWithin n) (λ u s wide g. omega (arith, text_of u s g)) ts ss (list_of n t ts low from).1 f) is) e

text_or_none_within : (n : ℕ) (k : List ℕ) (ps : Pairs) (s : Option (List ℕ)) → pairs_widest ps ≤ n → text_or_none k ps ≡ Some s → IfSome s (λ r. length r ≤ n)
text_or_none_within n k ps s h e =
    value_within n k ps None (λ t. option_map Some (as_text t)) s (λ s. IfSome s (λ r. length r ≤ n)) h tt
    (λ t low is. mapped Some (as_text t) s (IfSome s (λ r. length r ≤ n)) (λ r from same. subst (λ s. IfSome s (λ r. length r ≤ n)) same (omega (arith, text_of t r from))) is) e

abbrev InsertIsWithin : ℕ → Insertion → Type 0
InsertIsWithin n i = (length i.path ≤ n) × InsertionIsWithin n i

inserted_within : (n : ℕ) (side : Side) (k : List ℕ) (ps : Pairs) (i : Insertion) → pairs_widest ps ≤ n → inserted_at side k ps ≡ Some i → InsertIsWithin n i
inserted_within n side k ps i h e =
    both (option_map (λ path items. record { side = side; path = path; items = items }) (text_in k ps)) (option_and_then as_list (find (codes "items") ps)) i (InsertIsWithin n i)
    (λ g items first second last.
    mapped (λ path items. record { side = side; path = path; items = items }) (text_in k ps) g (InsertIsWithin n i)
    (λ path from made. then_is as_list (find (codes "items") ps) items (InsertIsWithin n i)
    (λ t is f. let whole : record { side = side; path = path; items = items } ≡ i = ap (λ m. m items) made ∙ last in
    subst (InsertIsWithin n) whole (text_in_within n k ps path h from, (list_of n t items (find_within n (codes "items") ps t h is) f).1)) second) first) e

insertion_within : (n : ℕ) (ps : Pairs) (i : Insertion) → pairs_widest ps ≤ n → insertion_of ps ≡ Some i → InsertIsWithin n i
insertion_within n ps i h e =
    either (has_keys (codes "items" ∷ codes "before" ∷ []) [] ps) (inserted_at before (codes "before") ps) _ i (InsertIsWithin n i) (inserted_within n before (codes "before") ps i h)
    (either (has_keys (codes "items" ∷ codes "after" ∷ []) [] ps) (inserted_at after (codes "after") ps) _ i (InsertIsWithin n i) (inserted_within n after (codes "after") ps i h)
    (either (has_keys (codes "items" ∷ codes "replace" ∷ []) [] ps) (inserted_at instead (codes "replace") ps) None i (InsertIsWithin n i) (inserted_within n instead (codes "replace") ps i h)
    (λ f. absurd (cc)))) e

insert_within : (n : ℕ) (ps : Pairs) (i : Option Insertion) → pairs_widest ps ≤ n → insertion_in ps ≡ Some i → IfSome i (InsertIsWithin n)
insert_within n ps i h e =
    value_within n (codes "insert") ps None (λ t. option_map Some (option_and_then insertion_of (as_object t))) i (λ i. IfSome i (InsertIsWithin n)) h tt
    (λ t low is. mapped Some (option_and_then insertion_of (as_object t)) i (IfSome i (InsertIsWithin n))
    (λ j from same. subst (λ i. IfSome i (InsertIsWithin n)) same
    (then_is insertion_of (as_object t) j (InsertIsWithin n j) (λ qs is_object f. insertion_within n qs j (omega (arith, object_of t qs is_object)) f) from)) is) e

-- ---- patches
all_append : {A : Type 0} (P : A → Type 0) (xs ys : List A) → AllByRecursion P xs → AllByRecursion P ys → AllByRecursion P (xs ++ ys)
all_append P [] ys these those = those
all_append P (x ∷ xs) ys these those = (these.0, all_append P xs ys these.1 those)

all_map : {A B : Type 0} (P : A → Type 0) (Q : B → Type 0) (f : A → B) (xs : List A) → ((a : A) → P a → Q (f a)) → AllByRecursion P xs → AllByRecursion Q (map f xs)
all_map P Q f [] each h = tt
all_map P Q f (x ∷ xs) each h = (each x h.0, all_map P Q f xs each h.1)

all_weaker : {A : Type 0} (P Q : A → Type 0) (xs : List A) → ((a : A) → P a → Q a) → AllByRecursion P xs → AllByRecursion Q xs
all_weaker P Q [] each h = tt
all_weaker P Q (x ∷ xs) each h = (each x h.0, all_weaker P Q xs each h.1)

last_path : (n : ℕ) (i : Option Insertion) → IfSome i (InsertIsWithin n) → AllByRecursion (TextIsWithin n) (option_to_list (option_map (λ i. i.path) i))
last_path n None h = tt
last_path n (Some i) h = (h.0, tt)

items_within : (n : ℕ) (i : Option Insertion) → IfSome i (InsertIsWithin n) → IfSome i (InsertionIsWithin n)
items_within n None h = tt
items_within n (Some i) h = h.1

seven : (revision : Option (Option (List ℕ))) (missing set : Option (List (List ℕ × Tree))) (unset : Option (List (List ℕ))) (inc dec : Option (List (List ℕ × ℤ))) (insert : Option (Option Insertion))
    (p : Patch) (P : Type 0)
    → ((r : Option (List ℕ)) (m s : List (List ℕ × Tree)) (u : List (List ℕ)) (i d : List (List ℕ × ℤ)) (j : Option Insertion)
    → revision ≡ Some r → missing ≡ Some m → set ≡ Some s → unset ≡ Some u → inc ≡ Some i → dec ≡ Some d → insert ≡ Some j → patch_of r m s u i d j ≡ p → P)
    → given (given (given (given (given (given (option_map patch_of revision) missing) set) unset) inc) dec) insert ≡ Some p → P
seven None missing set unset inc dec insert p P k e = absurd (cc)
seven (Some r) None set unset inc dec insert p P k e = absurd (cc)
seven (Some r) (Some m) None unset inc dec insert p P k e = absurd (cc)
seven (Some r) (Some m) (Some s) None inc dec insert p P k e = absurd (cc)
seven (Some r) (Some m) (Some s) (Some u) None dec insert p P k e = absurd (cc)
seven (Some r) (Some m) (Some s) (Some u) (Some i) None insert p P k e = absurd (cc)
seven (Some r) (Some m) (Some s) (Some u) (Some i) (Some d) None p P k e = absurd (cc)
seven (Some r) (Some m) (Some s) (Some u) (Some i) (Some d) (Some j) p P k e =
    let same : patch_of r m s u i d j ≡ p = cc in k r m s u i d j refl refl refl refl refl refl refl same

patch_within : (n : ℕ) (ps : Pairs) (p : Patch) → pairs_widest ps ≤ n → patch_in ps ≡ Some p → PatchIsWithin n p
patch_within n ps p h e =
    seven (text_or_none (codes "ifRevisionID") ps) (values_in (codes "setIfMissing") ps) (values_in (codes "set") ps) (texts_in (codes "unset") ps) (numbers_in (codes "inc") ps) (numbers_in (codes "dec") ps)
    (insertion_in ps) p (PatchIsWithin n p)
    (λ r m s u i d j er em es eu ei ed ej made.
    let missing = values_within n (codes "setIfMissing") ps m h em in
    let set = values_within n (codes "set") ps s h es in
    let insert = insert_within n ps j h ej in
    let paths_of : (vs : List (List ℕ × Tree)) → AllByRecursion (EntryIsWithin n) vs → AllByRecursion (TextIsWithin n) (map (λ e. e.0) vs) = λ vs low. all_map (EntryIsWithin n) (TextIsWithin n) (λ e. e.0) vs (λ e f. f.0) low in
    let counted : (vs : List (List ℕ × ℤ)) → AllByRecursion (NumberIsWithin n) vs → AllByRecursion (TextIsWithin n) (map (λ e. e.0) vs) = λ vs low. all_map (NumberIsWithin n) (TextIsWithin n) (λ e. e.0) vs (λ e f. f) low in
    let to_set = all_append (TextIsWithin n) _ _ (paths_of m missing) (paths_of s set) in
    let to_unset = all_append (TextIsWithin n) _ _ to_set (texts_within n (codes "unset") ps u h eu) in
    let to_inc = all_append (TextIsWithin n) _ _ to_unset (counted i (numbers_within n (codes "inc") ps i h ei)) in
    let to_dec = all_append (TextIsWithin n) _ _ to_inc (counted d (numbers_within n (codes "dec") ps d h ed)) in
    let every = all_append (TextIsWithin n) _ _ to_dec (last_path n j insert) in
    let only : (vs : List (List ℕ × Tree)) → AllByRecursion (EntryIsWithin n) vs → ValuesAreWithin n vs = λ vs low. all_weaker (EntryIsWithin n) (λ e. widest e.1 ≤ n) vs (λ e f. f.1) low in
    subst (PatchIsWithin n) made (every, text_or_none_within n (codes "ifRevisionID") ps r h er, only m missing, only s set, items_within n j insert)) e

-- ---- mutations
aim_within : (n : ℕ) (others : List (List ℕ)) (ps : Pairs) (aim : Aim) → pairs_widest ps ≤ n → aim_in others ps ≡ Some aim → AimIsWithin n aim
aim_within n others ps aim h e =
    either (has_keys (codes "id" ∷ []) others ps) (option_map (λ id. one id) (text_in (codes "id") ps)) _ aim (AimIsWithin n aim)
    (λ f. mapped (λ id. one id) (text_in (codes "id") ps) aim (AimIsWithin n aim) (λ id is same. subst (AimIsWithin n) same (text_in_within n (codes "id") ps id h is)) f)
    (either (has_keys (codes "query" ∷ []) (codes "params" ∷ others) ps) (given (option_map (λ s params. asked s params) (text_in (codes "query") ps)) (params_in ps)) None aim (AimIsWithin n aim)
    (λ f. both (option_map (λ s params. asked s params) (text_in (codes "query") ps)) (params_in ps) aim (AimIsWithin n aim)
    (λ g params first second last. mapped (λ s params. asked s params) (text_in (codes "query") ps) g (AimIsWithin n aim)
    (λ s is made. let whole : asked s params ≡ aim = ap (λ m. m params) made ∙ last in
    subst (AimIsWithin n) whole (text_in_within n (codes "query") ps s h is, params_within n ps params h second)) first) f)
    (λ f. absurd (cc))) e

change_within : (n : ℕ) (ps : Pairs) (a : Action) → pairs_widest ps ≤ n → change_in ps ≡ Some a → ActionIsWithin n a
change_within n ps a h e =
    both (option_map (λ aim p. change aim p (has_diff ps)) (aim_in patch_keys ps)) (patch_in ps) a (ActionIsWithin n a)
    (λ g p first second last. mapped (λ aim p. change aim p (has_diff ps)) (aim_in patch_keys ps) g (ActionIsWithin n a)
    (λ aim is made. let whole : change aim p (has_diff ps) ≡ a = ap (λ m. m p) made ∙ last in
    subst (ActionIsWithin n) whole (aim_within n patch_keys ps aim h is, patch_within n ps p h second)) first) e

removal_within : (n : ℕ) (ps : Pairs) (a : Action) → pairs_widest ps ≤ n → removal_in ps ≡ Some a → ActionIsWithin n a
removal_within n ps a h e =
    mapped (λ aim. remove aim) (aim_in [] ps) a (ActionIsWithin n a) (λ aim is same. subst (ActionIsWithin n) same (aim_within n [] ps aim h is)) e

installed : (n : ℕ) (made : Tree → Action) (t : Tree) (a : Action) → ActionIsWithin n (made t) → ◌≡◌ {A = Option Action} (Some (made t)) (Some a) → ActionIsWithin n a
installed n made t a h e = let same : made t ≡ a = cc in subst (ActionIsWithin n) same h

action_at_within : (n : ℕ) (k : List ℕ) (t : Tree) (a : Action) → widest t ≤ n → action_at k t ≡ Some a → ActionIsWithin n a
action_at_within n k t a h e =
    let P = ActionIsWithin n a in
    let of_object : (read : Pairs → Option Action) → ((qs : Pairs) → pairs_widest qs ≤ n → read qs ≡ Some a → P) → option_and_then read (as_object t) ≡ Some a → P =
    λ read each f. then_is read (as_object t) a P (λ qs is g. each qs (omega (arith, object_of t qs is)) g) f in
    either (bytes_eq k (codes "create")) (Some (create t)) _ a P (λ f. installed n (λ u. create u) t a h f)
    (either (bytes_eq k (codes "createOrReplace")) (Some (replace t)) _ a P (λ f. installed n (λ u. replace u) t a h f)
    (either (bytes_eq k (codes "createIfNotExists")) (Some (if_none t)) _ a P (λ f. installed n (λ u. if_none u) t a h f)
    (either (bytes_eq k (codes "delete")) (option_and_then removal_in (as_object t)) _ a P (of_object removal_in (λ qs low g. removal_within n qs a low g))
    (either (bytes_eq k (codes "patch")) (option_and_then change_in (as_object t)) None a P (of_object change_in (λ qs low g. change_within n qs a low g)) (λ f. absurd (cc)))))) e

sole_within : (n : ℕ) (ps : Pairs) (a : Action) → pairs_widest ps ≤ n → sole_action (attributes ps) ≡ Some a → ActionIsWithin n a
sole_within n no_pairs a h e = absurd (cc)
sole_within n (more_pairs k t no_pairs) a h e = action_at_within n k t a (omega arith) e
sole_within n (more_pairs k t (more_pairs l u ps)) a h e = absurd (cc)

action_within : (n : ℕ) (t : Tree) (a : Action) → widest t ≤ n → action t ≡ Some a → ActionIsWithin n a
action_within n t a h e =
    then_is (λ ps. sole_action (attributes ps)) (as_object t) a (ActionIsWithin n a) (λ ps is f. sole_within n ps a (omega (arith, object_of t ps is)) f) e

actions_within : (n : ℕ) (ps : Pairs) (acts : List Action) → pairs_widest ps ≤ n → option_and_then (all_read action) (option_and_then as_list (find (codes "mutations") ps)) ≡ Some acts
    → (length acts ≤ n) × AllByRecursion (ActionIsWithin n) acts
actions_within n ps acts h e =
    let P = (length acts ≤ n) × AllByRecursion (ActionIsWithin n) acts in
    then_is (all_read action) (option_and_then as_list (find (codes "mutations") ps)) acts P
    (λ ts is f. then_is as_list (find (codes "mutations") ps) ts P
    (λ t there g. let low = list_of n t ts (find_within n (codes "mutations") ps t h there) g in
    (omega (arith, all_read_long action ts acts f, low.0), all_read_have action (λ u. widest u ≤ n) (ActionIsWithin n) (λ u a wide r. action_within n u a wide r) ts acts low.1 f)) is) e

-- ---- transactions
abbrev HasIdOf : ℕ → Transaction → Type 0
HasIdOf n x = (is_tx_id x.id ≡ true) ⊎ (x.id ≡ tx_of_line n)

with_id_made : (b : Bool) (n : ℕ) (acts : List Action) (id : List ℕ) (x : Transaction) → is_tx_id id ≡ b
    → cond b (transaction (record { id = id; actions = acts })) bad_id ≡ transaction x → (acts ≡ x.actions) × HasIdOf n x
with_id_made true n acts id x form e =
    let same : record { id = id; actions = acts } ≡ x = cc in (ap (λ y. y.actions) same, inl (ap (λ y. is_tx_id y.id) (sym same) ∙ form))
with_id_made false n acts id x form e = absurd (cc)

made : (n : ℕ) (acts : List Action) (given_id : Option (Option (List ℕ))) (x : Transaction) → by_id n acts given_id ≡ transaction x → (acts ≡ x.actions) × HasIdOf n x
made n acts None x e = absurd (cc)
made n acts (Some None) x e =
    let same : record { id = tx_of_line n; actions = acts } ≡ x = cc in (ap (λ y. y.actions) same, inr (ap (λ y. y.id) (sym same)))
made n acts (Some (Some id)) x e = with_id_made (is_tx_id id) n acts id x refl e

abbrev IsMade : ℕ → Pairs → Transaction → Type 0
IsMade n ps x = (option_and_then (all_read action) (option_and_then as_list (find (codes "mutations") ps)) ≡ Some x.actions) × HasIdOf n x

by_actions_made : (n : ℕ) (ps : Pairs) (found : Option (List Action)) (x : Transaction) → by_actions n ps found ≡ transaction x → (found ≡ Some x.actions) × HasIdOf n x
by_actions_made n ps None x e = absurd (cc)
by_actions_made n ps (Some acts) x e =
    let is = made n acts (text_or_none (codes "transactionId") ps) x e in (ap Some is.0, is.1)

of_pairs_made : (b : Bool) (n : ℕ) (ps : Pairs) (whole : Body) (x : Transaction) → (whole ≡ transaction x → IsMade n ps x) → cond b whole no_command ≡ transaction x → IsMade n ps x
of_pairs_made true n ps whole x is e = is e
of_pairs_made false n ps whole x is e = absurd (cc)

pairs_made : (n : ℕ) (ps : Pairs) (x : Transaction) → of_pairs n ps ≡ transaction x → IsMade n ps x
pairs_made n ps x e =
    of_pairs_made (has_keys (codes "mutations" ∷ []) (codes "transactionId" ∷ []) ps) n ps _ x
    (λ f. by_actions_made n ps (option_and_then (all_read action) (option_and_then as_list (find (codes "mutations") ps))) x f) e

pub transaction_within : (body : Tree) (n : ℕ) (x : Transaction) → body_of body n ≡ transaction x
    → (length x.actions ≤ widest body) × AllByRecursion (ActionIsWithin (widest body)) x.actions
transaction_within null n x e = absurd (cc)
transaction_within (boolean b) n x e = absurd (cc)
transaction_within (integer m) n x e = absurd (cc)
transaction_within (text s) n x e = absurd (cc)
transaction_within (list ts) n x e = absurd (cc)
transaction_within (object ps) n x e = actions_within (pairs_widest ps) ps x.actions (omega arith) (pairs_made n ps x e).0

pub transaction_has_id : (body : Tree) (n : ℕ) (x : Transaction) → body_of body n ≡ transaction x → HasIdOf n x
transaction_has_id null n x e = absurd (cc)
transaction_has_id (boolean b) n x e = absurd (cc)
transaction_has_id (integer m) n x e = absurd (cc)
transaction_has_id (text s) n x e = absurd (cc)
transaction_has_id (list ts) n x e = absurd (cc)
transaction_has_id (object ps) n x e = (pairs_made n ps x e).1
