-- A member taken out of an object whose names ascend, changed and put back.
use Rattle.std.proofs.Common.{◌≡◌, ℕ, List, Option, Some, None, Result, Ok, Err, Ordering, Less, Equal, Greater, nat_cmp, is_eq, refl, sym, ap, ◌∙◌}
use Rattle.std.proofs.lemmas.Cmp.{nat_list_cmp_total}
use Rattle.std.proofs.lemmas.Map.Text.{is_eq-slice_cmp}
use Rattle.std.proofs.lemmas.Slice.Eq.{bytes_eq-Decides}
use Rattle.std.specs.Cmp.Lexicographic.{slice_cmp}
use Rattle.std.specs.Ordering.{match_ordering}
use Rattle.std.specs.Result.{OnOk}
use Rattle.cs_value.specs.Tree.{Tree, Pairs, no_pairs, more_pairs}
use Rattle.cs_value.specs.Pairs.{find, put, without}
use Rattle.cs_value.specs.Value.{IsBelow, Ascends}
use Rattle.cs_alter.specs.Within.{update_pair}

pub on_ok : {T E : Type 0} (r : Result T E) (P Q : Type 0) → (P → Q) → OnOk r P → OnOk r Q
on_ok (Ok x) P Q f h = f h
on_ok (Err e) P Q f h = h

-- a name that is not there
none_or : (o : Ordering) (l : List ℕ) (t : Tree) (f : Tree → Tree) (ps : Pairs)
    (found : Option Tree) (qs : Pairs)
    → match_ordering o found (Some t) found ≡ None → (found ≡ None → ps ≡ qs)
    → more_pairs l t ps
    ≡ match_ordering o (more_pairs l t qs) (more_pairs l (f t) ps) (more_pairs l t qs)
none_or Less l t f ps found qs h more = ap (more_pairs l t) (more h)
none_or Equal l t f ps found qs h more = absurd cc
none_or Greater l t f ps found qs h more = ap (more_pairs l t) (more h)

none-updated : (k : List ℕ) (f : Tree → Tree) (ps : Pairs) → find k ps ≡ None
    → ps ≡ update_pair k f ps
none-updated k f no_pairs h = refl
none-updated k f (more_pairs l t ps) h =
    none_or (slice_cmp nat_cmp k l) l t f ps (find k ps) (update_pair k f ps) h
    (none-updated k f ps)

-- a name below all names is none of them
none_above : (k : List ℕ) (ps : Pairs) → IsBelow k ps → Ascends ps → find k ps ≡ None
none_above k no_pairs below ascends = refl
none_above k (more_pairs l t no_pairs) below ascends = rw below refl
none_above k (more_pairs l t (more_pairs m u ps)) below ascends =
    rw below (none_above k (more_pairs m u ps)
    (nat_list_cmp_total.trans k l m below ascends.0) ascends.1)

below_rest : (k l : List ℕ) (ps : Pairs) → slice_cmp nat_cmp k l ≡ Less → IsBelow l ps
    → IsBelow k ps
below_rest k l no_pairs h below = tt
below_rest k l (more_pairs m u ps) h below = nat_list_cmp_total.trans k l m h below

put_first : (k : List ℕ) (x : Tree) (ps : Pairs) → IsBelow k ps → put k x ps ≡ more_pairs k x ps
put_first k x no_pairs below = refl
put_first k x (more_pairs l t ps) below = rw below refl

below_same : (k l : List ℕ) (ps : Pairs) → slice_cmp nat_cmp k l ≡ Equal → IsBelow l ps
    → IsBelow k ps
below_same k l no_pairs h below = tt
below_same k l (more_pairs m u ps) h below = nat_list_cmp_total.congr k l m h ∙ below

same_name : (k l : List ℕ) → slice_cmp nat_cmp k l ≡ Equal → k ≡ l
same_name k l h = (bytes_eq-Decides k l).0 (sym (is_eq-slice_cmp k l) ∙ ap is_eq h)

back_by : (o : Ordering) (k l : List ℕ) (t v : Tree) (f : Tree → Tree) (ps : Pairs)
    → slice_cmp nat_cmp k l ≡ o → IsBelow l ps → Ascends ps
    → match_ordering o (find k ps) (Some t) (find k ps) ≡ Some v
    → (find k ps ≡ Some v → put k (f v) (without k ps) ≡ update_pair k f ps)
    → put k (f v)
    (match_ordering o (more_pairs l t (without k ps)) ps (more_pairs l t (without k ps)))
    ≡ match_ordering o (more_pairs l t (update_pair k f ps)) (more_pairs l (f t) ps)
    (more_pairs l t (update_pair k f ps))
back_by Less k l t v f ps h below ascends found more =
    let none = none_above k ps (below_rest k l ps h below) ascends in absurd cc
back_by Equal k l t v f ps h below ascends found more =
    let same : v ≡ t = cc in
    put_first k (f v) ps (below_same k l ps h below)
    ∙ ap (λ m. more_pairs m (f v) ps) (same_name k l h) ∙ ap (λ u. more_pairs l (f u) ps) same
back_by Greater k l t v f ps h below ascends found more = rw h (ap (more_pairs l t) (more found))

-- what was taken out goes back, changed, to where it was
put_back : (k : List ℕ) (f : Tree → Tree) (v : Tree) (ps : Pairs) → Ascends ps
    → find k ps ≡ Some v → put k (f v) (without k ps) ≡ update_pair k f ps
put_back k f v no_pairs ascends found = absurd cc
put_back k f v (more_pairs l t ps) ascends found =
    back_by (slice_cmp nat_cmp k l) k l t v f ps refl ascends.0 ascends.1 found
    (put_back k f v ps ascends.1)

-- at the names as the code has them
pub member_back : (n k l : List ℕ) (f : Tree → Tree) (v w : Tree) (ps qs rs : Pairs) → Ascends ps
    → k ≡ n → l ≡ n → Some v ≡ find k ps → qs ≡ without k ps → w ≡ f v → rs ≡ put l w qs
    → rs ≡ update_pair n f ps
member_back n k l f v w ps qs rs ascends first second found left is there =
    there ∙ ap (λ m. put m w qs) second ∙ ap (λ u. put n u qs) is
    ∙ ap (put n (f v)) (left ∙ ap (λ m. without m ps) first)
    ∙ put_back n f v ps ascends (ap (λ m. find m ps) (sym first) ∙ sym found)

without_or : (o : Ordering) (l : List ℕ) (t : Tree) (found : Option Tree) (ps qs : Pairs)
    → match_ordering o found (Some t) found ≡ None → (found ≡ None → qs ≡ ps)
    → match_ordering o (more_pairs l t qs) ps (more_pairs l t qs) ≡ more_pairs l t ps
without_or Less l t found ps qs h more = ap (more_pairs l t) (more h)
without_or Equal l t found ps qs h more = absurd cc
without_or Greater l t found ps qs h more = ap (more_pairs l t) (more h)

none-left : (k : List ℕ) (ps : Pairs) → find k ps ≡ None → without k ps ≡ ps
none-left k no_pairs h = refl
none-left k (more_pairs l t ps) h =
    without_or (slice_cmp nat_cmp k l) l t (find k ps) ps (without k ps) h (none-left k ps)

pub no_member : (n k : List ℕ) (f : Tree → Tree) (ps qs : Pairs) → k ≡ n → None ≡ find k ps
    → qs ≡ without k ps → qs ≡ update_pair n f ps
no_member n k f ps qs same found left =
    let none : find n ps ≡ None = ap (λ m. find m ps) (sym same) ∙ sym found in
    left ∙ ap (λ m. without m ps) same ∙ none-left n ps none ∙ none-updated n f ps none
