-- Two evaluations over lists of documents that agree on what the first looks up: how their parts are put together.
use Rattle.std.proofs.Common.{◌≡◌, Bool, true, false, cond, List, [], ◌∷◌, ◌++◌, map, refl, ap, Option, Some, None}
use Rattle.std.specs.Prelude.{⊤, filter, flat_map}
use Rattle.std.specs.Option.{option_map_or}
use Rattle.cs_value.specs.Words.{as_list, list_of}
use Rattle.cs_value.specs.Tree.{Tree, null}
use Rattle.cs_view.specs.Keys.{having}
use Rattle.cs_view.specs.declared.key.Key.{Key}
use Rattle.cs_meaning.specs.Joining.{mapped, flat_elements, flattened, entered, onward}
use Rattle.cs_meaning.specs.Looked.{each_looked, entered_looked, onward_looked}
use Rattle.cs_meaning.specs.Operators.{is_true}
use Rattle.cs_meaning.specs.Ordered.{Ranked, ranked, in_order, ordered}
use Rattle.cs_meaning.specs.Values.{filtered}
use Rattle.cs_meaning.specs.declared.join.Entrance.{Entrance}
use Rattle.cs_meaning.specs.declared.join.Entrance.TheVariants.{Whole, Mapped, Flat}
use Rattle.cs_meaning.specs.declared.join.Way.{Way}
use Rattle.cs_meaning.specs.declared.join.Way.TheVariants.{Through, Over, After, Ends}

-- the same documents have each of these keys
abbrev pub AllSame : List Tree → List Tree → List Key → Type 0
AllSame d1 d2 [] = ⊤
AllSame d1 d2 (k ∷ ks) = (having k d1 ≡ having k d2) × AllSame d1 d2 ks

pub left : (d1 d2 : List Tree) (a b : List Key) → AllSame d1 d2 (a ++ b) → AllSame d1 d2 a
left d1 d2 [] b h = tt
left d1 d2 (k ∷ a) b h = (h.0, left d1 d2 a b h.1)

pub right : (d1 d2 : List Tree) (a b : List Key) → AllSame d1 d2 (a ++ b) → AllSame d1 d2 b
right d1 d2 [] b h = h
right d1 d2 (k ∷ a) b h = right d1 d2 a b h.1

-- where the documents agree on the first keys, the values and the keys are the same
abbrev pub Same : List Tree → List Tree → {B : Type 0} → List Key → List Key → B → B → Type 0
Same d1 d2 {B} k1 k2 v1 v2 = AllSame d1 d2 k1 → (v1 ≡ v2) × (k1 ≡ k2)

-- the same of two functions, at each argument
abbrev pub Agree : List Tree → List Tree → {A B : Type 0} → (A → List Key) → (A → List Key) → (A → B) → (A → B) → Type 0
Agree d1 d2 {A} {B} k1 k2 r1 r2 = (x : A) → Same d1 d2 (k1 x) (k2 x) (r1 x) (r2 x)

module _ (d1 d2 : List Tree) where
  pub nothing-agree : {A : Type 0} (x : A) → Same d1 d2 [] [] x x
  nothing-agree x s = (refl, refl)

  pub apply-agree : {A B : Type 0} (f : A → B) (k1 k2 : List Key) (x1 x2 : A) → Same d1 d2 k1 k2 x1 x2 → Same d1 d2 k1 k2 (f x1) (f x2)
  apply-agree f k1 k2 x1 x2 h s = let a = h s in (ap f a.0, a.1)

  -- one after the other
  pub then-agree : {A B : Type 0} (b1 b2 : List Key) (v1 v2 : A) (k1 k2 : A → List Key) (r1 r2 : A → B)
      → Same d1 d2 b1 b2 v1 v2 → Agree d1 d2 k1 k2 r1 r2 → Same d1 d2 (b1 ++ k1 v1) (b2 ++ k2 v2) (r1 v1) (r2 v2)
  then-agree b1 b2 v1 v2 k1 k2 r1 r2 g h s =
      let a = g (left d1 d2 b1 (k1 v1) s) in
      let b = h v1 (right d1 d2 b1 (k1 v1) s) in
      (cc, cc)

  -- two parts in a row
  pub both-agree : {A B C : Type 0} (f : A → B → C) (a1 a2 b1 b2 : List Key) (x1 x2 : A) (y1 y2 : B)
      → Same d1 d2 a1 a2 x1 x2 → Same d1 d2 b1 b2 y1 y2 → Same d1 d2 (a1 ++ b1) (a2 ++ b2) (f x1 y1) (f x2 y2)
  both-agree f a1 a2 b1 b2 x1 x2 y1 y2 g h s =
      let a = g (left d1 d2 a1 b1 s) in
      let b = h (right d1 d2 a1 b1 s) in
      (cc, cc)

  -- the part that a test takes
  pub cond-agree : {A : Type 0} (b : Bool) (k1 k2 l1 l2 : List Key) (x1 x2 y1 y2 : A)
      → Same d1 d2 k1 k2 x1 x2 → Same d1 d2 l1 l2 y1 y2 → Same d1 d2 (cond b k1 l1) (cond b k2 l2) (cond b x1 y1) (cond b x2 y2)
  cond-agree true k1 k2 l1 l2 x1 x2 y1 y2 g h = g
  cond-agree false k1 k2 l1 l2 x1 x2 y1 y2 g h = h

  -- keys that a test takes for one value
  pub choose-agree : {A : Type 0} (b : Bool) (k1 k2 l1 l2 : List Key) (x1 x2 : A)
      → (b ≡ true → Same d1 d2 k1 k2 x1 x2) → Same d1 d2 l1 l2 x1 x2 → Same d1 d2 (cond b k1 l1) (cond b k2 l2) x1 x2
  choose-agree true k1 k2 l1 l2 x1 x2 g h = g refl
  choose-agree false k1 k2 l1 l2 x1 x2 g h = h

  pub map-agree : {B : Type 0} (k1 k2 : Tree → List Key) (r1 r2 : Tree → B) → Agree d1 d2 k1 k2 r1 r2 → (xs : List Tree) → Same d1 d2 (flat_map k1 xs) (flat_map k2 xs) (map r1 xs) (map r2 xs)
  map-agree k1 k2 r1 r2 h [] s = (refl, refl)
  map-agree k1 k2 r1 r2 h (x ∷ xs) s =
      let a = h x (left d1 d2 (k1 x) (flat_map k1 xs) s) in
      let b = map-agree k1 k2 r1 r2 h xs (right d1 d2 (k1 x) (flat_map k1 xs) s) in
      (cc, cc)

  pub filter-agree : (k1 k2 : Tree → List Key) (r1 r2 : Tree → Tree) → Agree d1 d2 k1 k2 r1 r2 → (xs : List Tree)
      → Same d1 d2 (flat_map k1 xs) (flat_map k2 xs) (filter (λ x. is_true (r1 x)) xs) (filter (λ x. is_true (r2 x)) xs)
  filter-agree k1 k2 r1 r2 h [] s = (refl, refl)
  filter-agree k1 k2 r1 r2 h (x ∷ xs) s =
      let a = h x (left d1 d2 (k1 x) (flat_map k1 xs) s) in
      let b = filter-agree k1 k2 r1 r2 h xs (right d1 d2 (k1 x) (flat_map k1 xs) s) in
      (cc, cc)

  -- the elements of a list, where there is one
  pub each-agree : {C : Type 0} (c : C) (k1 k2 : Tree → List Key) (f1 f2 : List Tree → C)
      → ((xs : List Tree) → Same d1 d2 (flat_map k1 xs) (flat_map k2 xs) (f1 xs) (f2 xs)) → (o : Option (List Tree))
      → Same d1 d2 (option_map_or (flat_map k1) o []) (option_map_or (flat_map k2) o []) (option_map_or f1 o c) (option_map_or f2 o c)
  each-agree c k1 k2 f1 f2 h None s = (refl, refl)
  each-agree c k1 k2 f1 f2 h (Some xs) s = h xs s

  pub mapped-agree : (k1 k2 : Tree → List Key) (r1 r2 : Tree → Tree) → Agree d1 d2 k1 k2 r1 r2 → Agree d1 d2 (each_looked k1) (each_looked k2) (mapped r1) (mapped r2)
  mapped-agree k1 k2 r1 r2 h v =
      each-agree null k1 k2 (λ xs. list_of (map r1 xs)) (λ xs. list_of (map r2 xs))
      (λ xs. apply-agree list_of (flat_map k1 xs) (flat_map k2 xs) (map r1 xs) (map r2 xs) (map-agree k1 k2 r1 r2 h xs)) (as_list v)

  pub flattened-agree : (k1 k2 : Tree → List Key) (r1 r2 : Tree → Tree) → Agree d1 d2 k1 k2 r1 r2 → Agree d1 d2 (each_looked k1) (each_looked k2) (flattened r1) (flattened r2)
  flattened-agree k1 k2 r1 r2 h v =
      each-agree null k1 k2 (λ xs. list_of (flat_map flat_elements (map r1 xs))) (λ xs. list_of (flat_map flat_elements (map r2 xs)))
      (λ xs. apply-agree (λ ys. list_of (flat_map flat_elements ys)) (flat_map k1 xs) (flat_map k2 xs) (map r1 xs) (map r2 xs) (map-agree k1 k2 r1 r2 h xs)) (as_list v)

  pub filtered-agree : (k1 k2 : Tree → List Key) (r1 r2 : Tree → Tree) → Agree d1 d2 k1 k2 r1 r2
      → Agree d1 d2 (each_looked k1) (each_looked k2) (filtered (λ x. is_true (r1 x))) (filtered (λ x. is_true (r2 x)))
  filtered-agree k1 k2 r1 r2 h v =
      each-agree null k1 k2 (λ xs. list_of (filter (λ x. is_true (r1 x)) xs)) (λ xs. list_of (filter (λ x. is_true (r2 x)) xs))
      (λ xs. apply-agree list_of (flat_map k1 xs) (flat_map k2 xs) (filter (λ x. is_true (r1 x)) xs) (filter (λ x. is_true (r2 x)) xs) (filter-agree k1 k2 r1 r2 h xs)) (as_list v)

  ranked-agree : (k1 k2 : Tree → List Key) (r1 r2 : Tree → List Tree) → Agree d1 d2 k1 k2 r1 r2 → Agree d1 d2 k1 k2 (ranked r1) (ranked r2)
  ranked-agree k1 k2 r1 r2 h x = apply-agree (λ (y : List Tree). let z : Ranked = record { by = y; item = x } in z) (k1 x) (k2 x) (r1 x) (r2 x) (h x)

  pub ordered-agree : (ds : List Bool) (k1 k2 : Tree → List Key) (r1 r2 : Tree → List Tree) → Agree d1 d2 k1 k2 r1 r2 → Agree d1 d2 (each_looked k1) (each_looked k2) (ordered ds r1) (ordered ds r2)
  ordered-agree ds k1 k2 r1 r2 h v =
      each-agree null k1 k2 (λ xs. in_order ds (map (ranked r1) xs)) (λ xs. in_order ds (map (ranked r2) xs))
      (λ xs. apply-agree (in_order ds) (flat_map k1 xs) (flat_map k2 xs) (map (ranked r1) xs) (map (ranked r2) xs) (map-agree k1 k2 (ranked r1) (ranked r2) (ranked-agree k1 k2 r1 r2 h) xs)) (as_list v)

  pub entered-agree : (e : Entrance) (k1 k2 : Tree → List Key) (r1 r2 : Tree → Tree) → Agree d1 d2 k1 k2 r1 r2 → Agree d1 d2 (entered_looked e k1) (entered_looked e k2) (entered e r1) (entered e r2)
  entered-agree Whole k1 k2 r1 r2 h v = h v
  entered-agree Mapped k1 k2 r1 r2 h v = mapped-agree k1 k2 r1 r2 h v
  entered-agree Flat k1 k2 r1 r2 h v = flattened-agree k1 k2 r1 r2 h v

  pub onward-agree : (w : Way) (e : Entrance) (sk1 sk2 : Tree → List Key) (s1 s2 : Tree → Tree) (k1 k2 : Tree → List Key) (r1 r2 : Tree → Tree)
      → Agree d1 d2 sk1 sk2 s1 s2 → Agree d1 d2 k1 k2 r1 r2 → Agree d1 d2 (onward_looked w e s1 sk1 k1) (onward_looked w e s2 sk2 k2) (onward w e s1 r1) (onward w e s2 r2)
  onward-agree Through e sk1 sk2 s1 s2 k1 k2 r1 r2 g h v = then-agree (sk1 v) (sk2 v) (s1 v) (s2 v) k1 k2 r1 r2 (g v) h
  onward-agree Over e sk1 sk2 s1 s2 k1 k2 r1 r2 g h v =
      then-agree (each_looked sk1 v) (each_looked sk2 v) (mapped s1 v) (mapped s2 v) k1 k2 r1 r2 (mapped-agree sk1 sk2 s1 s2 g v) h
  onward-agree After e sk1 sk2 s1 s2 k1 k2 r1 r2 g h v =
      then-agree (sk1 v) (sk2 v) (s1 v) (s2 v) (entered_looked e k1) (entered_looked e k2) (entered e r1) (entered e r2) (g v) (entered-agree e k1 k2 r1 r2 h)
  onward-agree Ends e sk1 sk2 s1 s2 k1 k2 r1 r2 g h v = nothing-agree v
