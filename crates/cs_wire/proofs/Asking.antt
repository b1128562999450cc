-- A part of an object that others were taken out of, and the commands of given parts.
use Rattle.std.proofs.Common.{◌≡◌, ℕ, List, Bool, false, true≢false, Option, Some, Ordering, Less, Equal, Greater, nat_cmp, is_eq, bytes_eq, option_and_then, codes, refl, sym, ap, ◌∙◌}
use Rattle.std.specs.Cmp.Lexicographic.{slice_cmp}
use Rattle.std.specs.Ordering.{match_ordering}
use Rattle.std.proofs.lemmas.Map.Text.{is_eq-slice_cmp}
use Rattle.std.proofs.lemmas.Slice.Eq.{bytes_eq-Decides}
use Rattle.cs_value.specs.Tree.{Tree, Pairs, no_pairs, more_pairs}
use Rattle.cs_value.specs.Pairs.{find, without}
use Rattle.cs_value.specs.Words.{as_text, as_boolean, as_object}
use Rattle.cs_wire.specs.Commands.{query, live, listen, given, value_or, text_in, name_in, params_in, flag_in, query_of, live_of, listen_of}

-- two texts that compare as equal are one
pub equal_texts : (k l : List ℕ) → slice_cmp nat_cmp k l ≡ Equal → k ≡ l
equal_texts k l h = (bytes_eq-Decides k l).0 (sym (is_eq-slice_cmp k l) ∙ ap is_eq h)

keep : (o : Ordering) (k l m : List ℕ) (t : Tree) (ps rest : Pairs) → slice_cmp nat_cmp l m ≡ o → bytes_eq k l ≡ false → find k rest ≡ find k ps
    → find k (match_ordering o (more_pairs m t rest) ps (more_pairs m t rest)) ≡ match_ordering (slice_cmp nat_cmp k m) (find k ps) (Some t) (find k ps)
keep Less k l m t ps rest e ne same = ap (λ f. match_ordering (slice_cmp nat_cmp k m) f (Some t) f) same
keep Greater k l m t ps rest e ne same = ap (λ f. match_ordering (slice_cmp nat_cmp k m) f (Some t) f) same
keep Equal k l m t ps rest e ne same = other (slice_cmp nat_cmp k m) refl
  where
    other : (o : Ordering) → slice_cmp nat_cmp k m ≡ o → find k ps ≡ match_ordering o (find k ps) (Some t) (find k ps)
    other Less h = refl
    other Greater h = refl
    other Equal h =
        let one : k ≡ l = equal_texts k m h ∙ sym (equal_texts l m e) in
        absurd (true≢false (sym ((bytes_eq-Decides k l).1 one) ∙ ne))

pub find-without : (k l : List ℕ) (ps : Pairs) → bytes_eq k l ≡ false → find k (without l ps) ≡ find k ps
find-without k l no_pairs ne = refl
find-without k l (more_pairs m t ps) ne = keep (slice_cmp nat_cmp l m) k l m t ps (without l ps) refl ne (find-without k l ps ne)

-- what stands at a name is what stood there before another name was taken out
pub find-left : (k l : List ℕ) (ps left : Pairs) → bytes_eq k l ≡ false → left ≡ without l ps → find k left ≡ find k ps
find-left k l ps left ne is = ap (find k) is ∙ find-without k l ps ne

-- the parts that are taken one after the other are those of the whole object
pub query_asks : (ps rest : Pairs) (text : Option (List ℕ)) (params : Option Pairs) → text ≡ text_in (codes "query") ps
    → rest ≡ without (codes "query") ps → params ≡ params_in rest
    → given (given (Some (λ t p. query t p)) text) params ≡ query_of ps
query_asks ps rest text params t a p =
    let params_are : params ≡ params_in ps = p ∙ ap (value_or no_pairs as_object) (find-left (codes "params") (codes "query") ps rest refl a) in
    rw (t, params_are) refl

pub live_asks : (ps ps1 ps2 : Pairs) (name text : Option (List ℕ)) (params : Option Pairs) → name ≡ name_in (codes "live") ps
    → ps1 ≡ without (codes "live") ps → text ≡ text_in (codes "query") ps1
    → ps2 ≡ without (codes "query") ps1 → params ≡ params_in ps2
    → given (given (given (Some (λ n t p. live n t p)) name) text) params ≡ live_of ps
live_asks ps ps1 ps2 name text params n a t b p =
    let text_is : text ≡ text_in (codes "query") ps = t ∙ ap (option_and_then as_text) (find-left (codes "query") (codes "live") ps ps1 refl a) in
    let params_at = find-left (codes "params") (codes "query") ps1 ps2 refl b ∙ find-left (codes "params") (codes "live") ps ps1 refl a in
    let params_are : params ≡ params_in ps = p ∙ ap (value_or no_pairs as_object) params_at in
    rw (n, text_is, params_are) refl

pub listen_asks : (ps ps1 ps2 ps3 ps4 : Pairs) (name text : Option (List ℕ)) (params : Option Pairs) (result previous : Option Bool) → name ≡ name_in (codes "listen") ps
    → ps1 ≡ without (codes "listen") ps → text ≡ text_in (codes "query") ps1
    → ps2 ≡ without (codes "query") ps1 → params ≡ params_in ps2
    → ps3 ≡ without (codes "params") ps2 → result ≡ flag_in (codes "includeResult") ps3
    → ps4 ≡ without (codes "includeResult") ps3 → previous ≡ flag_in (codes "includePrevious") ps4
    → given (given (given (given (given (Some (λ n t p r q. listen n t p r q)) name) text) params) result) previous ≡ listen_of ps
listen_asks ps ps1 ps2 ps3 ps4 name text params result previous n a t b p d r e q =
    let text_is : text ≡ text_in (codes "query") ps = t ∙ ap (option_and_then as_text) (find-left (codes "query") (codes "listen") ps ps1 refl a) in
    let params_at = find-left (codes "params") (codes "query") ps1 ps2 refl b ∙ find-left (codes "params") (codes "listen") ps ps1 refl a in
    let params_are : params ≡ params_in ps = p ∙ ap (value_or no_pairs as_object) params_at in
    let result_at = find-left (codes "includeResult") (codes "params") ps2 ps3 refl d ∙ find-left (codes "includeResult") (codes "query") ps1 ps2 refl b ∙ find-left (codes "includeResult") (codes "listen") ps ps1 refl a in
    let result_is : result ≡ flag_in (codes "includeResult") ps = r ∙ ap (value_or false as_boolean) result_at in
    let previous_at = find-left (codes "includePrevious") (codes "includeResult") ps3 ps4 refl e ∙ find-left (codes "includePrevious") (codes "params") ps2 ps3 refl d
    ∙ find-left (codes "includePrevious") (codes "query") ps1 ps2 refl b ∙ find-left (codes "includePrevious") (codes "listen") ps ps1 refl a in
    let previous_is : previous ≡ flag_in (codes "includePrevious") ps = q ∙ ap (value_or false as_boolean) previous_at in
    rw (n, text_is, params_are, result_is, previous_is) refl
