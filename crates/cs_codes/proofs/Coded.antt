-- A document that has a key of a kind that has codes has the key's code among those of the kind.
use Rattle.std.proofs.Common.{◌≡◌, ℕ, List, [], ◌∷◌, Option, Some, None, true, sym, subst, true≢false, ⊎_elim, inl, inr, ◌∙◌, ◌+◌, ◌<◌, ap, length, drop, get_or}
use Rattle.std.proofs.lemmas.List.{drop_more}
use Rattle.cs_value.specs.Tree.{Tree, null, boolean, integer, text, list, object}
use Rattle.cs_value.specs.Words.{followed}
use Rattle.cs_view.specs.Document.{passes}
use Rattle.cs_view.specs.Keys.{has, equals, has_element}
use Rattle.cs_view.specs.declared.key.Scalar.{Scalar}
use Rattle.cs_view.specs.declared.key.Key.{Key}
use Rattle.cs_view.specs.declared.key.Key.TheVariants.{All, Id, Path, Elem, Ref}
use Rattle.cs_codes.specs.Codes.{Hash, start, with_names, with_value, with_element, scalar_code, key_code, is_among}
use Rattle.cs_codes.specs.Kinds.{IsOfKind, IsOfSome, IsCoded, value_codes, element_codes, kind_codes, kinds_codes, coded}
use Rattle.cs_codes.specs.declared.coding.Coding.{Coding}
use Rattle.cs_codes.specs.declared.kind.KeyKind.{KeyKind}
use Rattle.cs_codes.specs.declared.kind.KeyKind.TheVariants.{Path as Values, Elem as Elements, Ref as References}
use Rattle.cs_codes.specs.declared.seed.Seed.{Seed}
use Rattle.cs_codes.proofs.Listed.{among-left, among-right, scalar_listed, elements_listed, ref_listed}

value_listed : (s : Scalar) (h : Hash) (o : Option Tree) → passes (equals s) o ≡ true → is_among (scalar_code (with_value h) s) (value_codes h o) ≡ true
value_listed s h None k = absurd (true≢false (sym k))
value_listed s h (Some t) k = scalar_listed s (with_value h) t k

element_listed : (s : Scalar) (h : Hash) (o : Option Tree) → passes (has_element s) o ≡ true → is_among (scalar_code (with_element h) s) (element_codes h o) ≡ true
element_listed s h None k = absurd (true≢false (sym k))
element_listed s h (Some null) k = absurd (true≢false (sym k))
element_listed s h (Some (boolean b)) k = absurd (true≢false (sym k))
element_listed s h (Some (integer n)) k = absurd (true≢false (sym k))
element_listed s h (Some (text t)) k = absurd (true≢false (sym k))
element_listed s h (Some (list ts)) k = elements_listed s (with_element h) ts k
element_listed s h (Some (object ps)) k = absurd (true≢false (sym k))

of_kind : (seed : Seed) (q : Key) (kind : KeyKind) (d : Tree) → IsOfKind q kind → has q d ≡ true → is_among (key_code seed q) (kind_codes seed kind d) ≡ true
of_kind seed (Path ns s) (Values ms) d is h =
    subst (λ (k : List (List ℕ)). is_among (key_code seed (Path ns s)) (kind_codes seed (Values k) d) ≡ true) is
    (value_listed s (with_names (start seed) ns) (followed ns d) h)
of_kind seed (Elem ns s) (Elements ms) d is h =
    subst (λ (k : List (List ℕ)). is_among (key_code seed (Elem ns s)) (kind_codes seed (Elements k) d) ≡ true) is
    (element_listed s (with_names (start seed) ns) (followed ns d) h)
of_kind seed (Ref t) References d is h = ref_listed seed t d h
of_kind seed All kind d is h = absurd is
of_kind seed (Id t) kind d is h = absurd is
of_kind seed (Path ns s) (Elements ms) d is h = absurd is
of_kind seed (Path ns s) References d is h = absurd is
of_kind seed (Elem ns s) (Values ms) d is h = absurd is
of_kind seed (Elem ns s) References d is h = absurd is
of_kind seed (Ref t) (Values ms) d is h = absurd is
of_kind seed (Ref t) (Elements ms) d is h = absurd is

of_some : (seed : Seed) (q : Key) (kinds : List KeyKind) (d : Tree) → IsOfSome q kinds → has q d ≡ true → is_among (key_code seed q) (kinds_codes seed kinds d) ≡ true
of_some seed q [] d is h = absurd is
of_some seed q (k ∷ ks) d is h =
    ⊎_elim (λ (i : IsOfKind q k). among-left (key_code seed q) (kind_codes seed k d) (kinds_codes seed ks d) (of_kind seed q k d i h))
    (λ (i : IsOfSome q ks). among-right (key_code seed q) (kind_codes seed k d) (kinds_codes seed ks d) (of_some seed q ks d i h)) is

pub coded_listed : (coding : Coding) (q : Key) (d : Tree) → IsCoded coding q → has q d ≡ true → is_among (key_code coding.seed q) (coded coding d) ≡ true
coded_listed coding q d is h = of_some coding.seed q coding.kinds.items d is h

-- a key is of some of the kinds from a place on: of the one there, or of those behind it
split_kinds : (ks : List KeyKind) (i : ℕ) (k : KeyKind) → i < length ks → k ≡ get_or ks i k → drop i ks ≡ k ∷ drop (i + 1) ks
split_kinds ks i k low is = drop_more ks i k low ∙ ap (λ (x : KeyKind). x ∷ drop (i + 1) ks) (sym is)

pub of_this : (q : Key) (ks : List KeyKind) (i : ℕ) (k : KeyKind) → i < length ks → k ≡ get_or ks i k → IsOfKind q k → IsOfSome q (drop i ks)
of_this q ks i k low is h = subst (IsOfSome q) (sym (split_kinds ks i k low is)) (inl h)

pub of_later : (q : Key) (ks : List KeyKind) (i : ℕ) (k : KeyKind) → i < length ks → k ≡ get_or ks i k → IsOfSome q (drop (i + 1) ks) → IsOfSome q (drop i ks)
of_later q ks i k low is h = subst (IsOfSome q) (sym (split_kinds ks i k low is)) (inr h)
