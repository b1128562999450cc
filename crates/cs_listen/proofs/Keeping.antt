-- Listeners stay posted, also where one is added or some are taken out.
use Rattle.std.proofs.Common.{◌≡◌, ◌∙◌, ◌<◌, ◌+◌, ℕ, zero, suc, List, [], ◌∷◌, ◌++◌, map, length, get_or, Bool, true, false, cond, ◌&&◌, ◌||◌, not, sym, ap, nat_eq, ne_eqb, eq-eqb, true≢false, arith, filter}
use Rattle.std.proofs.lemmas.Bool.{or_right}
use Rattle.std.proofs.Math.Bool.{and-false}
use Rattle.std.proofs.lemmas.List.Elements.{All-filter, All-push, filter_passes}
use Rattle.std.proofs.lemmas.List.Kept.{AllPairs-filter}
use Rattle.std.proofs.lemmas.List.Quantifiers.{all_pairs_push}
use Rattle.std.specs.List.{All}
use Rattle.cs_value.specs.View.{fields}
use Rattle.cs_codes.specs.declared.seed.Seed.{Seed}
use Rattle.cs_plain.specs.Predicates.{filter as filter_of}
use Rattle.cs_listen.specs.Listeners.{has_name, is_listening, listener}
use Rattle.cs_listen.specs.Posted.{ArePosted, IsPosted, filter_code, is_posted}
use Rattle.cs_listen.specs.declared.listening.Listening.{Listening}
use Rattle.cs_listen.specs.declared.postings.Posting.{Posting}

abbrev own_code : Seed → Listening → ℕ
own_code seed l = filter_code seed (filter_of l.predicate) (fields l.params)

module _ (seed : Seed) (old new : List Posting) where
  -- what was posted before is posted still
  one_still : (l : Listening) → ((c : ℕ) → is_posted c l.number new ≡ is_posted c l.number old)
      → IsPosted seed old l → IsPosted seed new l
  one_still l same posted = same (own_code seed l) ∙ posted

  pub still_posted : (next : ℕ) (ls : List Listening)
      → ((c n : ℕ) → n < next → is_posted c n new ≡ is_posted c n old)
      → ArePosted seed old next ls → ArePosted seed new next ls
  still_posted next ls same are = record {
    posted = λ k d low. one_still (get_or ls k d) (λ c. same c _ (are.below k d low)) (are.posted k d low);
    ascend = are.ascend;
    below = are.below;
  }

  -- one more under the next number
  pub posted_one : (next code : ℕ) (ls : List Listening) (l : Listening)
      → ((c n : ℕ) → is_posted c n new ≡ ((nat_eq c code && nat_eq n next) || is_posted c n old))
      → l.number ≡ next → code ≡ own_code seed l
      → ArePosted seed old next ls → ArePosted seed new (next + 1) (ls ++ l ∷ [])
  posted_one next code ls l same numbered coded are = record {
    posted = All-push (IsPosted seed new) ls l
        (λ k d low. same (own_code seed (get_or ls k d)) _ ∙ or_right _ _ (are.posted k d low))
        (same (own_code seed l) l.number
        ∙ ap (λ b. (b && nat_eq l.number next) || is_posted (own_code seed l) l.number old) (eq-eqb (own_code seed l) code (sym coded))
        ∙ ap (λ b. b || is_posted (own_code seed l) l.number old) (eq-eqb l.number next numbered));
    ascend = all_pairs_push (λ (a b : Listening). a.number < b.number) ls l are.ascend
        (λ k d low. let under = are.below k d low in omega (arith, under, numbered));
    below = All-push (λ (x : Listening). x.number < next + 1) ls l
        (λ k d low. let under = are.below k d low in omega (arith, under)) (omega (arith, numbered));
  }

  -- all but those that have a name, of which one has the number
  pub posted_others : (next number : ℕ) (name : List ℕ) (ls : List Listening)
      → ((c n : ℕ) → is_posted c n new ≡ cond (nat_eq n number) false (is_posted c n old))
      → All (λ l. l.number ≡ number → has_name name (listener l) ≡ true) ls
      → ArePosted seed old next ls → ArePosted seed new next (filter (λ l. not (has_name name (listener l))) ls)
  posted_others next number name ls same own are = let others : Listening → Bool = λ l. not (has_name name (listener l)) in record {
    posted = λ k d low.
        let l = get_or (filter others ls) k d in
        let named : l.number ≡ number → has_name name (listener l) ≡ true
        = All-filter others (λ (x : Listening). x.number ≡ number → has_name name (listener x) ≡ true) ls own k d low in
        let apart : nat_eq l.number number ≡ false
        = ne_eqb l.number number (λ is. true≢false (sym (filter_passes others ls k d low) ∙ ap not (named is))) in
        same (own_code seed l) l.number ∙ ap (λ b. cond b false (is_posted (own_code seed l) l.number old)) apart
        ∙ All-filter others (IsPosted seed old) ls are.posted k d low;
    ascend = AllPairs-filter (λ (a b : Listening). a.number < b.number) others ls are.ascend;
    below = All-filter others (λ (x : Listening). x.number < next) ls are.below;
  }

-- what was posted and is withdrawn again leaves all that is posted of lower numbers
pub undone : (next code : ℕ) (old posted after : List Posting)
    → ((c n : ℕ) → is_posted c n posted ≡ ((nat_eq c code && nat_eq n next) || is_posted c n old))
    → ((c n : ℕ) → is_posted c n after ≡ cond (nat_eq n next) false (is_posted c n posted))
    → (c n : ℕ) → n < next → is_posted c n after ≡ is_posted c n old
undone next code old posted after more less c n low =
    let apart : nat_eq n next ≡ false = ne_eqb n next (λ is. omega (arith, low, is)) in
    less c n ∙ ap (λ b. cond b false (is_posted c n posted)) apart ∙ more c n
    ∙ ap (λ b. (nat_eq c code && b) || is_posted c n old) apart
    ∙ ap (λ b. b || is_posted c n old) (and-false (nat_eq c code))

-- a listener that has the name is listening
pub named_at : (name : List ℕ) (ls : List Listening) (i : ℕ) (d : Listening) → i < length ls
    → has_name name (listener (get_or ls i d)) ≡ true → is_listening name (map listener ls) ≡ true
named_at name [] i d low h = absurd (omega arith)
named_at name (l ∷ ls) zero d low h = ap (λ b. b || is_listening name (map listener ls)) h
named_at name (l ∷ ls) (suc i) d low h = or_right (has_name name (listener l)) _ (named_at name ls i d (omega (arith, low)) h)
