-- What is made token by token is what serde_json reads, moved into a tree.
use Rattle.std.proofs.Common.{◌≡◌, ℕ, ◌^◌, ◌<◌, ◌≤◌, List, [], ◌∷◌, length, true, false, Option, Some, None, option_map, option_and_then, IfSome, SomeIff, Ordering, Less, Equal, Greater, nat_cmp, ℤ, pos, FitsSigned, w64, int_lt, refl, sym, ap, ◌∙◌, arith, lt-ltb, le-leb}
use Rattle.std.specs.Cmp.Lexicographic.{slice_cmp}
use Rattle.std.specs.Ordering.{match_ordering}
use Rattle.fast_float.specs.Text.{Parts, digits_of, with_sign, IsInteger}
use Rattle.json.specs.Token.{Token}
use Rattle.json.specs.Lex.{tokens}
use Rattle.json.specs.Json as json
use Rattle.serde_json.specs.Data.{Num, Data, null, boolean, number, string, array, object, Items, no_items, item, Members, no_members, member, put}
use Rattle.serde_json.specs.Find.{as_i64}
use Rattle.serde_json.specs.Read.{is_integer, number_from, number_of, of_json, of_items, of_members, converted, max_depth, read}
use Rattle.cs_value.specs.Tree as tree
use Rattle.cs_value.specs.Tree.{Tree, Trees, more_trees, Pairs, no_pairs, more_pairs}
use Rattle.cs_value.specs.Pairs as pairs
use Rattle.cs_json.specs.Direct.{Named, put_all, made, made_items, named}
use Rattle.cs_json.specs.Reading.{whole, whole_items, whole_members}

-- ---- numbers

integer_is : (p : Parts) → IsInteger p → is_integer p ≡ true
integer_is p h = rw (lt-ltb 0 (length p.whole) h.0, h.1, h.2) refl

unsigned_is : (p : Parts) → IsInteger p → FitsSigned w64 (with_sign false (digits_of p)) → option_and_then as_i64 (number_from false p) ≡ Some (with_sign false (digits_of p))
unsigned_is p h fits =
    let few : digits_of p < 2 ^ 63 = grind arith in
    let fewer : digits_of p < 2 ^ 64 = omega arith in
    rw (integer_is p h, lt-ltb (digits_of p) (2 ^ 64) fewer) (rw (lt-ltb (digits_of p) (2 ^ 63) few) refl)

negative_is : (p : Parts) → IsInteger p → FitsSigned w64 (with_sign true (digits_of p)) → 0 < digits_of p → option_and_then as_i64 (number_from true p) ≡ Some (with_sign true (digits_of p))
negative_is p h fits some =
    let few : digits_of p ≤ 2 ^ 63 = grind arith in
    rw (integer_is p h, lt-ltb 0 (digits_of p) some, le-leb (digits_of p) (2 ^ 63) few) refl

pub unsigned_read : (r : Option ℤ) (p : Parts) (o : Option Num) → number_from false p ≡ o → SomeIff r (IsInteger p × FitsSigned w64 (with_sign false (digits_of p))) (with_sign false (digits_of p)) → IfSome r (λ n. option_and_then as_i64 o ≡ Some n)
unsigned_read None p o e h = tt
unsigned_read (Some n) p o e h = ap (option_and_then as_i64) (sym e) ∙ unsigned_is p h.0.0 h.0.1 ∙ ap Some (sym h.1)

pub negative_read : (n : ℤ) (p : Parts) (o : Option Num) → number_from true p ≡ o → int_lt n (pos 0) ≡ true → (IsInteger p × FitsSigned w64 (with_sign true (digits_of p))) × (n ≡ with_sign true (digits_of p)) → option_and_then as_i64 o ≡ Some n
negative_read n p o e below h =
    let some : 0 < digits_of p = grind arith in
    ap (option_and_then as_i64) (sym e) ∙ negative_is p h.0.0 h.0.1 some ∙ ap Some (sym h.1)

-- ---- parts of an option

pub mapped : {A B : Type 0} (f : A → B) (o : Option A) (b : B) → option_map f o ≡ Some b → (a : A) × (o ≡ Some a) × (f a ≡ b)
mapped f None b e = absurd (cc)
mapped f (Some a) b e = (a, refl, cc)

pub two : {A B C : Type 0} (f : A → B → C) (o : Option A) (r : Option B) (c : C) → option_and_then (λ a. option_map (f a) r) o ≡ Some c → (a : A) × (b : B) × (f a b ≡ c) × (o ≡ Some a) × (r ≡ Some b)
two f None r c e = absurd (cc)
two f (Some a) None c e = absurd (cc)
two f (Some a) (Some b) c e = (a, b, cc, refl, refl)

abbrev pick : {A : Type 0} → A → Option A → A
pick d None = d
pick d (Some a) = a

found : {A B : Type 0} (a : A) (r s : List Token) (x : Option B) (b : B) → option_map {U = B × List Token} (λ y. (y, r)) x ≡ Some (b, s) → (r ≡ s) × (x ≡ Some b)
found a r s None b e = absurd (cc)
found a r s (Some y) b e = let same = ap (pick (y, r)) e in (ap (λ p. p.1) same, ap (λ p. Some p.0) same)

pub converted_some : {A B : Type 0} (f : A → Option B) (o : Option (A × List Token)) (b : B) (r : List Token) → converted f o ≡ Some (b, r) → (a : A) × (o ≡ Some (a, r)) × (f a ≡ Some b)
converted_some f None b r e = absurd (cc)
converted_some f (Some p) b r e = let both = found p.0 p.1 r (f p.0) b e in (p.0, ap (λ s. Some (p.0, s)) both.0, both.1)

-- ---- a member put among others

by_order : (o : Ordering) (a b c : Members) (x y z : Pairs) → whole_members a ≡ Some x → whole_members b ≡ Some y → whole_members c ≡ Some z → whole_members (match_ordering o a b c) ≡ Some (match_ordering o x y z)
by_order Less a b c x y z h i j = h
by_order Equal a b c x y z h i j = i
by_order Greater a b c x y z h i j = j

one_more : (k : List ℕ) (d : Data) (t : Tree) (ms : Members) (ps : Pairs) → whole d ≡ Some t → whole_members ms ≡ Some ps → whole_members (member k d ms) ≡ Some (more_pairs k t ps)
one_more k d t ms ps h is = rw (h, is) refl

put_whole : (k : List ℕ) (d : Data) (t : Tree) (ms : Members) (ps : Pairs) → whole d ≡ Some t → whole_members ms ≡ Some ps → whole_members (put k d ms) ≡ Some (pairs.put k t ps)
put_whole k d t no_members ps h is =
    let none : no_pairs ≡ ps = cc in
    rw (← none) (one_more k d t no_members no_pairs h refl)
put_whole k d t (member l e ms) ps h is =
    let s = two (more_pairs l) (whole e) (whole_members ms) ps is in
    rw (← s.2)
    (by_order (slice_cmp nat_cmp k l) (member k d (member l e ms)) (member l d ms) (member l e (put k d ms)) _ _ _
    (one_more k d t (member l e ms) (more_pairs l s.0 s.1) h (one_more l e s.0 ms s.1 s.3 s.4)) (one_more l d t ms s.1 h s.4) (one_more l e s.0 (put k d ms) _ s.3 (put_whole k d t ms s.1 h s.4)))

-- ---- a value

number_made : (o : Option Num) (t : Tree) → option_map tree.integer (option_and_then as_i64 o) ≡ Some t → (x : Num) × (o ≡ Some x) × (whole (number x) ≡ Some t)
number_made None t e = absurd (cc)
number_made (Some x) t e = (x, refl, e)

abbrev IsData : json.Json → Tree → Type 0
IsData j t = (d : Data) × (of_json j ≡ Some d) × (whole d ≡ Some t)

mutual
  pub made_is : (j : json.Json) (t : Tree) → made j ≡ Some t → IsData j t
  made_is json.null t e = (null, refl, e)
  made_is (json.boolean b) t e = (boolean b, refl, e)
  made_is (json.number s) t e =
      let n = number_made (number_of s) t e in
      (number n.0, ap (option_map number) n.1, n.2)
  made_is (json.string s) t e = (string s, refl, e)
  made_is (json.array js) t e =
      let m = mapped tree.list (made_items js) t e in
      let r = items_are js m.0 m.1 in
      (array r.0, ap (option_map array) r.1, ap (option_map tree.list) r.2 ∙ ap Some m.2)
  made_is (json.object ms) t e =
      let m = mapped (λ es. tree.object (put_all es no_pairs)) (named ms) t e in
      let r = members_are ms m.0 no_members no_pairs m.1 refl in
      (object r.0, ap (option_map object) r.1, ap (option_map tree.object) r.2 ∙ ap Some m.2)

  items_are : (js : json.Items) (ts : Trees) → made_items js ≡ Some ts → (ds : Items) × (of_items js ≡ Some ds) × (whole_items ds ≡ Some ts)
  items_are json.no_items ts e = (no_items, refl, e)
  items_are (json.item j js) ts e =
      let s = two more_trees (made j) (made_items js) ts e in
      let d = made_is j s.0 s.3 in
      let r = items_are js s.1 s.4 in
      (item d.0 r.0, rw (d.1, r.1) refl, rw (d.2, r.2) (ap Some s.2))

  members_are : (ms : json.Members) (es : List Named) (old : Members) (ps : Pairs) → named ms ≡ Some es → whole_members old ≡ Some ps
      → (ds : Members) × (of_members ms old ≡ Some ds) × (whole_members ds ≡ Some (put_all es ps))
  members_are json.no_members es old ps e h =
      let none : [] ≡ es = cc in
      (old, refl, h ∙ ap (λ fs. Some (put_all fs ps)) none)
  members_are (json.member k j ms) es old ps e h =
      let s = two (λ t fs. (k, t) ∷ fs) (made j) (named ms) es e in
      let d = made_is j s.0 s.3 in
      let r = members_are ms s.1 (put k d.0 old) (pairs.put k s.0 ps) s.4 (put_whole k d.0 s.0 old ps d.2 h) in
      (r.0, rw d.1 r.1, r.2 ∙ ap (λ fs. Some (put_all fs ps)) s.2)

-- what is made of a whole text is what serde_json reads
pub made_of_text : (text : List ℕ) (t : Tree) → converted made (json.value max_depth (tokens text)) ≡ Some (t, []) → (d : Data) × (read text ≡ Some d) × (whole d ≡ Some t)
made_of_text text t e =
    let j = converted_some made (json.value max_depth (tokens text)) t [] e in
    let d = made_is j.0 t j.2 in
    (d.0, ap (λ o. option_and_then of_json (option_and_then (λ p. json.if_last p.0 p.1) o)) j.1 ∙ d.1, d.2)
