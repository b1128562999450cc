-- The loops that read token by token, a turn at a time, and what the values that they read have.
use Rattle.std.proofs.Common.{◌≡◌, ℕ, ◌-◌, ◌<◌, ◌≤◌, List, [], ◌∷◌, ◌++◌, length, Option, Some, None, option_map, Ordering, Less, Equal, Greater, nat_cmp, Result, Ok, Err, IfOk, IfSome, MatchResult, Vec, Global, is_ok, if◌then◌else◌, refl, sym, ap, ◌∙◌, subst, arith, append_assoc, append-nil}
use Rattle.std.specs.Result.{result_ok}
use Rattle.std.proofs.lemmas.Cmp.{nat_list_cmp_total}
use Rattle.std.specs.Prelude.{IsUtf8}
use Rattle.std.specs.Cmp.Lexicographic.{slice_cmp}
use Rattle.std.specs.Ordering.{match_ordering, ordering_reverse}
use Rattle.json.specs.Token.{Token}
use Rattle.json.specs.Json as json
use Rattle.json.specs.Json.{Parse, parse_map, after_end_array, read_key, items, members}
use Rattle.json.proofs.Grammar.{items_end, items_more, members_end, members_more}
use Rattle.serde_json.specs.Read.{converted}
use Rattle.cs_value.specs.Tree.{Tree, list, object, Trees, no_trees, more_trees, trees, Pairs, no_pairs, more_pairs, pairs_depth, trees_depth}
use Rattle.cs_value.specs.Pairs.{put}
use Rattle.cs_value.specs.declared.val.Val.{Val}
use Rattle.cs_value.specs.Value.{IsBelow, Ascends, AreValues, HaveValues}
use Rattle.cs_json.specs.Direct.{Named, put_all, made, made_items, named, Fits, AllFit, NamedFit}
use Rattle.cs_json.proofs.Made.{converted_some}

twice : {A B : Type 0} (g : A → B) (r : List Token) (x : Option A) → option_map (λ b. (b, r)) (option_map g x) ≡ parse_map g (option_map (λ a. (a, r)) x)
twice g r None = refl
twice g r (Some a) = refl

pub made-array : (o : Option (json.Items × List Token)) → converted made (parse_map json.array o) ≡ parse_map list (converted made_items o)
made-array None = refl
made-array (Some p) = twice list p.1 (made_items p.0)

pub made-object : (o : Option (json.Members × List Token)) → converted made (parse_map json.object o) ≡ parse_map (λ es. object (put_all es no_pairs)) (converted named o)
made-object None = refl
made-object (Some p) = twice (λ es. object (put_all es no_pairs)) p.1 (named p.0)

with_item : (j : json.Json) (t : Tree) → made j ≡ Some t → (o : Option (json.Items × List Token)) → converted made_items (parse_map (json.item j) o) ≡ parse_map (more_trees t) (converted made_items o)
with_item j t e None = refl
with_item j t e (Some p) = rw e (twice (more_trees t) p.1 (made_items p.0))

with_member : (k : List ℕ) (j : json.Json) (t : Tree) → made j ≡ Some t → (o : Option (json.Members × List Token)) → converted named (parse_map (json.member k j) o) ≡ parse_map (λ es. (k, t) ∷ es) (converted named o)
with_member k j t e None = refl
with_member k j t e (Some p) = rw e (twice (λ es. (k, t) ∷ es) p.1 (named p.0))

-- ---- items

abbrev pub before : List Tree → Trees → Trees
before [] rest = rest
before (t ∷ ts) rest = more_trees t (before ts rest)

pub before-no_trees : (ts : List Tree) → before ts no_trees ≡ trees ts
before-no_trees [] = refl
before-no_trees (t ∷ ts) = ap (more_trees t) (before-no_trees ts)

before-push : (ts : List Tree) (t : Tree) (rest : Trees) → before ts (more_trees t rest) ≡ before (ts ++ t ∷ []) rest
before-push [] t rest = refl
before-push (u ∷ ts) t rest = ap (more_trees u) (before-push ts t rest)

one_more_item : (ts : List Tree) (t : Tree) (r : Option (Trees × List Token)) → parse_map (before ts) (parse_map (more_trees t) r) ≡ parse_map (before (ts ++ t ∷ [])) r
one_more_item ts t None = refl
one_more_item ts t (Some p) = ap (λ us. Some (us, p.1)) (before-push ts t p.0)

pub none_before : (r : Option (Trees × List Token)) → r ≡ parse_map (before []) r
none_before None = refl
none_before (Some p) = refl

-- ---- members

one_more_member : (es : List Named) (e : Named) (r : Option (List Named × List Token)) → parse_map (λ fs. es ++ fs) (parse_map (λ fs. e ∷ fs) r) ≡ parse_map (λ fs. (es ++ e ∷ []) ++ fs) r
one_more_member es e None = refl
one_more_member es e (Some p) = ap (λ fs. Some (fs, p.1)) (sym (append_assoc es (e ∷ []) p.0))

pub no_member_before : (r : Option (List Named × List Token)) → r ≡ parse_map (λ fs. [] ++ fs) r
no_member_before None = refl
no_member_before (Some p) = refl

pub put_all-push : (es : List Named) (e : Named) (ps : Pairs) → put_all (es ++ e ∷ []) ps ≡ put e.0 e.1 (put_all es ps)
put_all-push [] e ps = refl
put_all-push (f ∷ es) e ps = put_all-push es e (put f.0 f.1 ps)

module _ (p : Parse json.Json) where
  -- one more item was read
  pub item_read : (all : Option (Trees × List Token)) (done : List Tree) (n : ℕ) (ts r : List Token) (t : Tree) → 0 < n → after_end_array ts ≡ None
      → all ≡ parse_map (before done) (converted made_items (items p n ts)) → converted made (p ts) ≡ Some (t, r)
      → all ≡ parse_map (before (done ++ t ∷ [])) (converted made_items (items p (n - 1) r))
  item_read all done n ts r t some going is e =
      let j = converted_some made (p ts) t r e in
      is ∙ ap (parse_map (before done)) (ap (converted made_items) (items_more p n ts r j.0 some going j.1) ∙ with_item j.0 t j.2 (items p (n - 1) r)) ∙ one_more_item done t (converted made_items (items p (n - 1) r))

  pub items_over : (all : Option (Trees × List Token)) (done : List Tree) (n : ℕ) (ts r : List Token) → length ts ≤ n → after_end_array ts ≡ Some r
      → all ≡ parse_map (before done) (converted made_items (items p n ts)) → all ≡ Some (trees done, r)
  items_over all done n ts r enough e is =
      is ∙ ap (λ o. parse_map (before done) (converted made_items o)) (items_end p n ts r enough e) ∙ ap (λ us. Some (us, r)) (before-no_trees done)

  -- one more member was read
  pub member_read : (all : Option (List Named × List Token)) (done : List Named) (n : ℕ) (k : List ℕ) (ts s r : List Token) (t : Tree) → 0 < n → read_key ts ≡ Some (Some k, s)
      → all ≡ parse_map (λ fs. done ++ fs) (converted named (members p n ts)) → converted made (p s) ≡ Some (t, r)
      → all ≡ parse_map (λ fs. (done ++ (k, t) ∷ []) ++ fs) (converted named (members p (n - 1) r))
  member_read all done n k ts s r t some key is e =
      let j = converted_some made (p s) t r e in
      is ∙ ap (parse_map (λ fs. done ++ fs)) (ap (converted named) (members_more p n k ts s r j.0 some key j.1) ∙ with_member k j.0 t j.2 (members p (n - 1) r))
      ∙ one_more_member done (k, t) (converted named (members p (n - 1) r))

  pub members_over : (all : Option (List Named × List Token)) (done : List Named) (n : ℕ) (ts r : List Token) → length ts ≤ n → read_key ts ≡ Some (None, r)
      → all ≡ parse_map (λ fs. done ++ fs) (converted named (members p n ts)) → all ≡ Some (done, r)
  members_over all done n ts r enough e is =
      is ∙ ap (λ o. parse_map (λ fs. done ++ fs) (converted named o)) (members_end p n ts r enough e) ∙ ap (λ fs. Some (fs, r)) (append-nil done)

-- ---- a result as an option

pub ok_pushed : {A E X : Type 0} (r : Result A E) (a : A) (new more same : List X) → Some a ≡ result_ok r → new ≡ (if is_ok r then more else same) → new ≡ more
ok_pushed (Ok b) a new more same e h = h
ok_pushed (Err b) a new more same e h = absurd (cc)

pub ok_holds : {A E : Type 0} (P : A → Type 0) (r : Result A E) (a : A) → Some a ≡ result_ok r → IfOk r P → P a
ok_holds P (Ok b) a e h = let same : b ≡ a = cc in subst P same h
ok_holds P (Err b) a e h = absurd (cc)

pub match_holds : {A E : Type 0} (P : A → Type 0) (Q : E → Type 0) (r : Result A E) (a : A) → Some a ≡ result_ok r → MatchResult r P Q → P a
match_holds P Q (Ok b) a e h = let same : b ≡ a = cc in subst P same h
match_holds P Q (Err b) a e h = absurd (cc)

pub same_items : (r : Option (Vec Val Global)) (vs : List Val) (P : List Val → Type 0) → P vs → IfSome r (λ v. v.items ≡ vs) → IfSome r (λ v. P v.items)
same_items None vs P h e = tt
same_items (Some v) vs P h e = subst P (sym e) h

-- ---- what the parts have

pub AllFit-push : (n : ℕ) (ts : List Tree) (t : Tree) → AllFit n ts → Fits n t → AllFit n (ts ++ t ∷ [])
AllFit-push n [] t h is = (is, tt)
AllFit-push n (u ∷ ts) t h is = (h.0, AllFit-push n ts t h.1 is)

pub NamedFit-push : (n : ℕ) (es : List Named) (e : Named) → NamedFit n es → IsUtf8 e.0 → Fits n e.1 → NamedFit n (es ++ e ∷ [])
NamedFit-push n [] e h utf8 is = (utf8, is, tt)
NamedFit-push n (f ∷ es) e h utf8 is = (h.0, h.1, NamedFit-push n es e h.2 utf8 is)

items_fit : (n : ℕ) (ts : List Tree) → AllFit n ts → AreValues (trees ts) × (trees_depth (trees ts) ≤ n)
items_fit n [] h = (tt, omega arith)
items_fit n (t ∷ ts) h = let r = items_fit n ts h.1 in ((h.0.0, r.0), omega (arith, h.0.1, r.1))

pub list_fits : (n : ℕ) (ts : List Tree) → 0 < n → AllFit (n - 1) ts → Fits n (list (trees ts))
list_fits n ts some h = let r = items_fit (n - 1) ts h in (r.0, omega (arith, r.1))

abbrev PairsFit : ℕ → Pairs → Type 0
PairsFit n ps = HaveValues ps × (pairs_depth ps ≤ n)

fit_by_order : (o : Ordering) (n : ℕ) (a b c : Pairs) → PairsFit n a → PairsFit n b → PairsFit n c → PairsFit n (match_ordering o a b c)
fit_by_order Less n a b c h i j = h
fit_by_order Equal n a b c h i j = i
fit_by_order Greater n a b c h i j = j

pair_fits : (n : ℕ) (k : List ℕ) (t : Tree) (ps : Pairs) → IsUtf8 k → Fits n t → PairsFit n ps → PairsFit n (more_pairs k t ps)
pair_fits n k t ps utf8 h is = ((utf8, h.0, is.0), omega (arith, h.1, is.1))

put_fits : (n : ℕ) (k : List ℕ) (t : Tree) (ps : Pairs) → IsUtf8 k → Fits n t → PairsFit n ps → PairsFit n (put k t ps)
put_fits n k t no_pairs utf8 h is = pair_fits n k t no_pairs utf8 h is
put_fits n k t (more_pairs l u ps) utf8 h is =
    let first : Fits n u = (is.0.1, omega (arith, is.1)) in
    let rest : PairsFit n ps = (is.0.2, omega (arith, is.1)) in
    fit_by_order (slice_cmp nat_cmp k l) n (more_pairs k t (more_pairs l u ps)) (more_pairs l t ps) (more_pairs l u (put k t ps)) (pair_fits n k t (more_pairs l u ps) utf8 h is) (pair_fits n l t ps is.0.0 h rest) (pair_fits n l u (put k t ps) is.0.0 first (put_fits n k t ps utf8 h rest))

below_by_order : (o : Ordering) (l k m : List ℕ) (t v : Tree) (qs rs : Pairs) → slice_cmp nat_cmp l k ≡ Less → slice_cmp nat_cmp l m ≡ Less → IsBelow l (match_ordering o (more_pairs k t (more_pairs m v qs)) (more_pairs m t qs) (more_pairs m v rs))
below_by_order Less l k m t v qs rs h i = h
below_by_order Equal l k m t v qs rs h i = i
below_by_order Greater l k m t v qs rs h i = i

below_put : (l k : List ℕ) (t : Tree) (ps : Pairs) → IsBelow l ps → slice_cmp nat_cmp l k ≡ Less → IsBelow l (put k t ps)
below_put l k t no_pairs b h = h
below_put l k t (more_pairs m v qs) b h = below_by_order (slice_cmp nat_cmp k m) l k m t v qs (put k t qs) h b

ascend_by_order : (o : Ordering) (k l : List ℕ) (t u : Tree) (ps rest : Pairs) → slice_cmp nat_cmp k l ≡ o → Ascends (more_pairs l u ps) → (slice_cmp nat_cmp l k ≡ Less → IsBelow l rest) → Ascends rest
    → Ascends (match_ordering o (more_pairs k t (more_pairs l u ps)) (more_pairs l t ps) (more_pairs l u rest))
ascend_by_order Less k l t u ps rest e h b a = (e, h)
ascend_by_order Equal k l t u ps rest e h b a = h
ascend_by_order Greater k l t u ps rest e h b a = (b (nat_list_cmp_total.antisymm l k ∙ ap ordering_reverse e), a)

put_ascends : (k : List ℕ) (t : Tree) (ps : Pairs) → Ascends ps → Ascends (put k t ps)
put_ascends k t no_pairs h = (tt, tt)
put_ascends k t (more_pairs l u ps) h = ascend_by_order (slice_cmp nat_cmp k l) k l t u ps (put k t ps) refl h (below_put l k t ps h.0) (put_ascends k t ps h.1)

all_put : (n : ℕ) (es : List Named) (ps : Pairs) → NamedFit n es → Ascends ps → PairsFit n ps → Ascends (put_all es ps) × PairsFit n (put_all es ps)
all_put n [] ps h a is = (a, is)
all_put n (e ∷ es) ps h a is = all_put n es (put e.0 e.1 ps) h.2 (put_ascends e.0 e.1 ps a) (put_fits n e.0 e.1 ps h.0 h.1 is)

pub object_fits : (n : ℕ) (es : List Named) → 0 < n → NamedFit (n - 1) es → Fits n (object (put_all es no_pairs))
object_fits n es some h =
    let r = all_put (n - 1) es no_pairs h tt (tt, omega arith) in
    ((r.0, r.1.0), omega (arith, r.1.1))
