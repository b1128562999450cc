-- A member taken out of an object, changed and put back.
use Rattle.std.proofs.Common.{◌≡◌, ℕ, List, ◌∷◌, Option, Ordering, Less, Equal, Greater, nat_cmp, unwrap_or, refl, ap, ◌∙◌}
use Rattle.std.specs.Cmp.Lexicographic.{slice_cmp}
use Rattle.std.specs.Ordering.{match_ordering, ordering_reverse}
use Rattle.std.proofs.lemmas.Cmp.{nat_list_cmp_total}
use Rattle.cs_value.specs.Tree.{Tree, null, boolean, integer, text, list, object, Pairs, no_pairs, more_pairs}
use Rattle.cs_value.specs.Pairs.{attribute, find, put}
use Rattle.cs_alter.specs.Within.{given, object_pairs}
use Rattle.cs_value.specs.Words.{field}

own_reverse : (o : Ordering) → o ≡ ordering_reverse o → o ≡ Equal
own_reverse Less h = absurd (cc)
own_reverse Equal h = refl
own_reverse Greater h = absurd (cc)

same : (k : List ℕ) → slice_cmp nat_cmp k k ≡ Equal
same k = own_reverse (slice_cmp nat_cmp k k) (nat_list_cmp_total.antisymm k k)

twice_by : (o : Ordering) (k l : List ℕ) (t u v : Tree) (ps : Pairs) → slice_cmp nat_cmp k l ≡ o → put k t (put k u ps) ≡ put k t ps
    → put k t (match_ordering o (more_pairs k u (more_pairs l v ps)) (more_pairs l u ps) (more_pairs l v (put k u ps))) ≡ match_ordering o (more_pairs k t (more_pairs l v ps)) (more_pairs l t ps) (more_pairs l v (put k t ps))
twice_by Less k l t u v ps h more = rw (same k) refl
twice_by Equal k l t u v ps h more = rw h refl
twice_by Greater k l t u v ps h more = rw h (ap (more_pairs l v) more)

-- what is put at a name again stands alone there
pub put_twice : (k : List ℕ) (t u : Tree) (ps : Pairs) → put k t (put k u ps) ≡ put k t ps
put_twice k t u no_pairs = rw (same k) refl
put_twice k t u (more_pairs l v ps) = twice_by (slice_cmp nat_cmp k l) k l t u v ps refl (put_twice k t u ps)

-- an attribute is found among the attributes of an object
pub found_in : (n : List ℕ) (v : Tree) → find n (object_pairs v) ≡ attribute n v
found_in n null = refl
found_in n (boolean b) = refl
found_in n (integer m) = refl
found_in n (text s) = refl
found_in n (list ts) = refl
found_in n (object ps) = refl

pub gift_step : (names rest : List (List ℕ)) (n k l : List ℕ) (val new held below inner : Tree) (old : Option Tree) (ps qs rs : Pairs)
    → names ≡ n ∷ rest → k ≡ n → l ≡ n → ps ≡ object_pairs val → old ≡ find k ps → qs ≡ put k held ps → below ≡ unwrap_or old null → inner ≡ given rest new below → rs ≡ put l inner qs
    → object rs ≡ given names new val
gift_step names rest n k l val new held below inner old ps qs rs is k_is l_is ps_is old_is qs_is below_is inner_is rs_is =
    let twice = put_twice n inner held ps in
    let left : rs ≡ put n inner ps = rs_is ∙ ap (λ x. put x inner qs) l_is ∙ ap (put n inner) (qs_is ∙ ap (λ x. put x held ps) k_is) ∙ twice in
    let deep : inner ≡ given rest new (field n val) =
    inner_is ∙ ap (given rest new) (below_is ∙ ap (λ o. unwrap_or o null) (old_is ∙ ap (λ x. find x ps) k_is
    ∙ ap (find n) ps_is ∙ found_in n val)) in
    rw is (ap object (left ∙ ap (λ x. put n x ps) deep ∙ ap (put n (given rest new (field n val))) ps_is))
