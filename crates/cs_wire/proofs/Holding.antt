-- The parts of a command are parts of its value: what holds of each attribute holds of them.
use Rattle.std.proofs.Common.{◌≡◌, ◌≤◌, ℕ, List, [], ◌∷◌, Bool, true, false, Option, Some, None, option_and_then, Ordering, Less, Equal, Greater, nat_cmp, codes, refl, subst, if◌then◌else◌, arith}
use Rattle.std.specs.Cmp.Lexicographic.{slice_cmp}
use Rattle.std.specs.Ordering.{match_ordering}
use Rattle.std.specs.List.{AllByRecursion}
use Rattle.cs_value.specs.Tree.{Tree, null, boolean, integer, text, list, object, Pairs, no_pairs, more_pairs, depth, pairs_depth, widest, pairs_widest}
use Rattle.cs_value.specs.Pairs.{find, attribute}
use Rattle.cs_value.specs.Value.{IsValue, HaveValues}
use Rattle.cs_value.specs.Words.{as_text, as_object}
use Rattle.cs_value.specs.Id.{is_id}
use Rattle.cs_wire.specs.Commands.{Request, mutate, query, live, listen, stop, at, given, value_or, as_name, text_in, name_in, params_in, flag_in, has_keys}
use Rattle.cs_wire.specs.Rows.{Row, rows, by_rows, command}

-- the fact holds of each text, name, object of parameters and body of the command
abbrev pub Holds : (Tree → Type 0) → Request → Type 0
Holds G (mutate body) = G body
Holds G (query s ps) = G (text s) × G (object ps)
Holds G (live n s ps) = G (text n) × G (text s) × G (object ps)
Holds G (listen n s ps r q) = G (text n) × G (text s) × G (object ps)
Holds G (stop n) = G (text n)
Holds G (at m) = G (text m)

-- what each attribute has
abbrev pub EachHas : (Tree → Type 0) → Pairs → Type 0
EachHas G ps = (k : List ℕ) (t : Tree) → find k ps ≡ Some t → G t

text_is : (t : Tree) (s : List ℕ) → as_text t ≡ Some s → t ≡ text s
text_is null s h = absurd (cc)
text_is (boolean b) s h = absurd (cc)
text_is (integer n) s h = absurd (cc)
text_is (text u) s h = cc
text_is (list ts) s h = absurd (cc)
text_is (object ps) s h = absurd (cc)

object_is : (t : Tree) (qs : Pairs) → as_object t ≡ Some qs → t ≡ object qs
object_is null qs h = absurd (cc)
object_is (boolean b) qs h = absurd (cc)
object_is (integer n) qs h = absurd (cc)
object_is (text s) qs h = absurd (cc)
object_is (list ts) qs h = absurd (cc)
object_is (object ps) qs h = cc

text_has : (G : Tree → Type 0) (o : Option Tree) (s : List ℕ) → ((t : Tree) → o ≡ Some t → G t) → option_and_then as_text o ≡ Some s → G (text s)
text_has G None s each h = absurd (cc)
text_has G (Some t) s each h = subst G (text_is t s h) (each t refl)

name_is : (b : Bool) (s n : List ℕ) → (if b then Some s else None) ≡ Some n → s ≡ n
name_is true s n h = cc
name_is false s n h = absurd (cc)

name_has : (G : Tree → Type 0) (o : Option (List ℕ)) (n : List ℕ) → ((s : List ℕ) → o ≡ Some s → G (text s)) → option_and_then as_name o ≡ Some n → G (text n)
name_has G None n each h = absurd (cc)
name_has G (Some s) n each h = subst (λ x. G (text x)) (name_is (is_id s) s n h) (each s refl)

params_has : (G : Tree → Type 0) (o : Option Tree) (qs : Pairs) → G (object no_pairs) → ((t : Tree) → o ≡ Some t → G t) → value_or no_pairs as_object o ≡ Some qs → G (object qs)
params_has G None qs none each h = let same : no_pairs ≡ qs = cc in subst (λ x. G (object x)) same none
params_has G (Some t) qs none each h = subst G (object_is t qs h) (each t refl)

mutate_holds : (G : Tree → Type 0) (body : Option Tree) (r : Request) → ((t : Tree) → body ≡ Some t → G t) → given (Some (λ b. mutate b)) body ≡ Some r → Holds G r
mutate_holds G None r b h = absurd (cc)
mutate_holds G (Some t) r b h = let same : mutate t ≡ r = cc in subst (Holds G) same (b t refl)

stop_holds : (G : Tree → Type 0) (name : Option (List ℕ)) (r : Request) → ((n : List ℕ) → name ≡ Some n → G (text n)) → given (Some (λ n. stop n)) name ≡ Some r → Holds G r
stop_holds G None r b h = absurd (cc)
stop_holds G (Some n) r b h = let same : stop n ≡ r = cc in subst (Holds G) same (b n refl)

at_holds : (G : Tree → Type 0) (moment : Option (List ℕ)) (r : Request) → ((n : List ℕ) → moment ≡ Some n → G (text n)) → given (Some (λ n. at n)) moment ≡ Some r → Holds G r
at_holds G None r b h = absurd (cc)
at_holds G (Some n) r b h = let same : at n ≡ r = cc in subst (Holds G) same (b n refl)

query_holds : (G : Tree → Type 0) (text' : Option (List ℕ)) (params : Option Pairs) (r : Request) → ((s : List ℕ) → text' ≡ Some s → G (text s)) → ((qs : Pairs) → params ≡ Some qs → G (object qs))
    → given (given (Some (λ t p. query t p)) text') params ≡ Some r → Holds G r
query_holds G None params r t p h = absurd (cc)
query_holds G (Some s) None r t p h = absurd (cc)
query_holds G (Some s) (Some qs) r t p h = let same : query s qs ≡ r = cc in subst (Holds G) same (t s refl, p qs refl)

live_holds : (G : Tree → Type 0) (name text' : Option (List ℕ)) (params : Option Pairs) (r : Request) → ((n : List ℕ) → name ≡ Some n → G (text n)) → ((s : List ℕ) → text' ≡ Some s → G (text s)) → ((qs : Pairs) → params ≡ Some qs → G (object qs))
    → given (given (given (Some (λ n t p. live n t p)) name) text') params ≡ Some r → Holds G r
live_holds G None text' params r n t p h = absurd (cc)
live_holds G (Some m) None params r n t p h = absurd (cc)
live_holds G (Some m) (Some s) None r n t p h = absurd (cc)
live_holds G (Some m) (Some s) (Some qs) r n t p h = let same : live m s qs ≡ r = cc in subst (Holds G) same (n m refl, t s refl, p qs refl)

listen_holds : (G : Tree → Type 0) (name text' : Option (List ℕ)) (params : Option Pairs) (result previous : Option Bool) (r : Request) → ((n : List ℕ) → name ≡ Some n → G (text n)) → ((s : List ℕ) → text' ≡ Some s → G (text s)) → ((qs : Pairs) → params ≡ Some qs → G (object qs))
    → given (given (given (given (given (Some (λ n t p a b. listen n t p a b)) name) text') params) result) previous ≡ Some r → Holds G r
listen_holds G None text' params result previous r n t p h = absurd (cc)
listen_holds G (Some m) None params result previous r n t p h = absurd (cc)
listen_holds G (Some m) (Some s) None result previous r n t p h = absurd (cc)
listen_holds G (Some m) (Some s) (Some qs) None previous r n t p h = absurd (cc)
listen_holds G (Some m) (Some s) (Some qs) (Some a) None r n t p h = absurd (cc)
listen_holds G (Some m) (Some s) (Some qs) (Some a) (Some b) r n t p h = let same : listen m s qs a b ≡ r = cc in subst (Holds G) same (n m refl, t s refl, p qs refl)

either : (b : Bool) (x y : Option Request) (r : Request) (P : Type 0) → (x ≡ Some r → P) → (y ≡ Some r → P) → (if b then x else y) ≡ Some r → P
either true x y r P one other h = one h
either false x y r P one other h = other h

-- what the command of each row has
by_rows_holds : (rs : List Row) (ps : Pairs) (r : Request) (P : Type 0) → AllByRecursion (λ w. w.command ps ≡ Some r → P) rs → by_rows rs ps ≡ Some r → P
by_rows_holds [] ps r P each h = absurd (cc)
by_rows_holds (w ∷ rs) ps r P each h = either (has_keys w.must w.may ps) (w.command ps) (by_rows rs ps) r P each.0 (λ e. by_rows_holds rs ps r P each.1 e) h

rows_hold : (G : Tree → Type 0) (ps : Pairs) (r : Request) → G (object no_pairs) → EachHas G ps → by_rows rows ps ≡ Some r → Holds G r
rows_hold G ps r none each h =
    let texts = λ (k s : List ℕ) (e : text_in k ps ≡ Some s). text_has G (find k ps) s (each k) e in
    let names = λ (k n : List ℕ) (e : name_in k ps ≡ Some n). name_has G (text_in k ps) n (texts k) e in
    let params = λ (qs : Pairs) (e : params_in ps ≡ Some qs). params_has G (find (codes "params") ps) qs none (each (codes "params")) e in
    let mutates = mutate_holds G (find (codes "mutate") ps) r (each (codes "mutate")) in
    let queries = query_holds G (text_in (codes "query") ps) (params_in ps) r (texts (codes "query")) params in
    let lives = live_holds G (name_in (codes "live") ps) (text_in (codes "query") ps) (params_in ps) r (names (codes "live")) (texts (codes "query")) params in
    let listens = listen_holds G (name_in (codes "listen") ps) (text_in (codes "query") ps) (params_in ps) (flag_in (codes "includeResult") ps) (flag_in (codes "includePrevious") ps) r (names (codes "listen")) (texts (codes "query")) params in
    let stops = stop_holds G (name_in (codes "stop") ps) r (names (codes "stop")) in
    let moments = at_holds G (text_in (codes "at") ps) r (texts (codes "at")) in
    by_rows_holds rows ps r (Holds G r) (mutates, (queries, (lives, (listens, (stops, (moments, tt)))))) h

pub command-holds : (G : Tree → Type 0) (t : Tree) (r : Request) → G (object no_pairs) → ((k : List ℕ) (u : Tree) → attribute k t ≡ Some u → G u) → command t ≡ Some r → Holds G r
unfolding command
command-holds G null r none each h = absurd (cc)
command-holds G (boolean b) r none each h = absurd (cc)
command-holds G (integer n) r none each h = absurd (cc)
command-holds G (text s) r none each h = absurd (cc)
command-holds G (list ts) r none each h = absurd (cc)
command-holds G (object ps) r none each h = rows_hold G ps r none each h

-- an attribute is no wider, and no deeper, than its object, and is a value where the object is one
found_or : (P : Tree → Type 0) (o : Ordering) (t u : Tree) (rest : Option Tree) → P t → ((w : Tree) → rest ≡ Some w → P w) → match_ordering o rest (Some t) rest ≡ Some u → P u
found_or P Less t u rest here there h = there u h
found_or P Equal t u rest here there h = let same : t ≡ u = cc in subst P same here
found_or P Greater t u rest here there h = there u h

find-widest : (k : List ℕ) (ps : Pairs) (u : Tree) → find k ps ≡ Some u → widest u ≤ pairs_widest ps
find-widest k no_pairs u h = absurd (cc)
find-widest k (more_pairs l t ps) u h =
    found_or (λ w. widest w ≤ pairs_widest (more_pairs l t ps)) (slice_cmp nat_cmp k l) t u (find k ps) (omega arith) (λ w e. let below = find-widest k ps w e in omega arith) h

find-depth : (k : List ℕ) (ps : Pairs) (u : Tree) → find k ps ≡ Some u → depth u ≤ pairs_depth ps
find-depth k no_pairs u h = absurd (cc)
find-depth k (more_pairs l t ps) u h =
    found_or (λ w. depth w ≤ pairs_depth (more_pairs l t ps)) (slice_cmp nat_cmp k l) t u (find k ps) (omega arith) (λ w e. let below = find-depth k ps w e in omega arith) h

find-IsValue : (k : List ℕ) (ps : Pairs) (u : Tree) → HaveValues ps → find k ps ≡ Some u → IsValue u
find-IsValue k no_pairs u is h = absurd (cc)
find-IsValue k (more_pairs l t ps) u is h = found_or IsValue (slice_cmp nat_cmp k l) t u (find k ps) is.1 (λ w e. find-IsValue k ps w is.2 e) h

attribute-widest : (k : List ℕ) (t u : Tree) → attribute k t ≡ Some u → widest u ≤ widest t
attribute-widest k null u h = absurd (cc)
attribute-widest k (boolean b) u h = absurd (cc)
attribute-widest k (integer n) u h = absurd (cc)
attribute-widest k (text s) u h = absurd (cc)
attribute-widest k (list ts) u h = absurd (cc)
attribute-widest k (object ps) u h = find-widest k ps u h

attribute-IsValue : (k : List ℕ) (t u : Tree) → IsValue t → attribute k t ≡ Some u → IsValue u
attribute-IsValue k null u is h = absurd (cc)
attribute-IsValue k (boolean b) u is h = absurd (cc)
attribute-IsValue k (integer n) u is h = absurd (cc)
attribute-IsValue k (text s) u is h = absurd (cc)
attribute-IsValue k (list ts) u is h = absurd (cc)
attribute-IsValue k (object ps) u is h = find-IsValue k ps u is.1 h

-- the texts and parameters of a command are no wider than its value
pub command-widest : (t : Tree) (r : Request) → command t ≡ Some r → Holds (λ u. widest u ≤ widest t) r
command-widest t r h = command-holds (λ u. widest u ≤ widest t) t r (omega arith) (λ k u e. attribute-widest k t u e) h

-- they are values where it is one
pub command-IsValue : (t : Tree) (r : Request) → IsValue t → command t ≡ Some r → Holds IsValue r
command-IsValue t r is h = command-holds IsValue t r (tt, tt) (λ k u e. attribute-IsValue k t u is e) h

-- and they are no deeper
pub command-depth : (t : Tree) (r : Request) → command t ≡ Some r → Holds (λ u. depth u ≤ depth t) r
unfolding command
command-depth null r h = absurd (cc)
command-depth (boolean b) r h = absurd (cc)
command-depth (integer n) r h = absurd (cc)
command-depth (text s) r h = absurd (cc)
command-depth (list ts) r h = absurd (cc)
command-depth (object ps) r h =
    rows_hold (λ u. depth u ≤ depth (object ps)) ps r (omega arith) (λ k u e. let below = find-depth k ps u e in omega arith) h
