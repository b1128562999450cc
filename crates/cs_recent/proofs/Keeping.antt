-- Each query that is kept is what its text is read as, whatever is asked or kept next.
use Rattle.std.proofs.Common.{◌≡◌, ◌⊎◌, inl, inr, ℕ, Bool, true, List, Contains, IfSome, Option, Some, None, String, string_bytes, bytes_eq, Bor, Result, Ok, Err, OnOk, OnErr, sym, ap, subst, ◌∙◌}
use Rattle.std.specs.Map.{lookup}
use Rattle.std.specs.Option.{option_copied}
use Rattle.std.specs.String.{string_eq}
use Rattle.std.specs.declared.alloc.Global.{Global}
use Rattle.std.proofs.lemmas.List.Elements.{All-contains, All-contains_itself}
use Rattle.std.proofs.lemmas.Slice.Eq.{bytes_eq-Decides}
use Rattle.lru.specs.LruCache.{LruCache, lru_cache, promoted, put_entries}
use Rattle.lru.proofs.CallerLemmas.{Contains-lookup, Contains-promoted, Contains-put_entries, IsPut}
use Rattle.cs_syntax.specs.declared.query.Query.{Query}
use Rattle.cs_syntax.specs.Queries.{expression_of}
use Rattle.cs_parse.specs.Verdict.{query, verdict}
use Rattle.cs_recent.specs.Recent.{AreRead, IsReadOf}

-- the order of use changes nothing
pub asked_again : (test : String Global → Bool) (es : List (String Global × Query))
    → AreRead es → AreRead (promoted test es)
asked_again test es read k d below = All-contains IsReadOf es _ read
    (Contains-promoted test es _ (All-contains_itself (promoted test es) k d below))

-- one more is kept
of_equal_text : (k j : String Global) (q : Query) → IsReadOf (k, q) → string_eq k j ≡ true
    → IsReadOf (j, q)
of_equal_text k j q read same =
    ap verdict (sym ((bytes_eq-Decides (string_bytes k) (string_bytes j)).0 same)) ∙ read

put_or_kept : (c : LruCache (String Global) Query) (k : String Global) (q : Query)
    (e : String Global × Query) → AreRead c.entries → IsReadOf (k, q)
    → Contains c.entries e ⊎ IsPut string_eq c k q e → IsReadOf e
put_or_kept c k q e read new (inl was) = All-contains IsReadOf c.entries e read was
put_or_kept c k q e read new (inr (is, inl key)) =
    ap (λ j. verdict (string_bytes j)) key ∙ (new ∙ ap (λ x. query (expression_of x)) (sym is))
put_or_kept c k q e read new (inr (is, inr (w, was, same))) =
    of_equal_text k e.0 q new same ∙ ap (λ x. query (expression_of x)) (sym is)

one_more : (c : LruCache (String Global) Query) (k : String Global) (q : Query)
    → AreRead c.entries → IsReadOf (k, q) → AreRead (put_entries string_eq c k q)
one_more c k q read new n d below = put_or_kept c k q _ read new
    (Contains-put_entries string_eq c k q _ (All-contains_itself (put_entries string_eq c k q) n d below))

pub kept : {A B : Type 0} (r : Result A B) (old new : LruCache (String Global) Query)
    (k : String Global) (q : Query) → OnOk r (new ≡ lru_cache (put_entries string_eq old k q) old.cap)
    → OnErr r (new ≡ old) → AreRead old.entries → IsReadOf (k, q) → AreRead new.entries
kept (Ok a) old new k q put same read is =
    subst AreRead (sym (ap (λ c. c.entries) put)) (one_more old k q read is)
kept (Err b) old new k q put same read is = subst AreRead (sym (ap (λ c. c.entries) same)) read

-- what is found by a text is what the text is read as
of_found : (text : List ℕ) (es : List (String Global × Query)) (o : Option Query) → AreRead es
    → o ≡ lookup (λ k. bytes_eq text (string_bytes k)) es
    → IfSome o (λ q. verdict text ≡ query (expression_of q))
of_found text es None read is = tt
of_found text es (Some q) read is =
    let found = Contains-lookup (λ k. bytes_eq text (string_bytes k)) es q (sym is) in
    ap verdict ((bytes_eq-Decides text (string_bytes found.0)).0 found.2)
    ∙ All-contains IsReadOf es (found.0, q) read found.1

lent : (P : Query → Type 0) (o : Option (Bor Query)) → IfSome (option_copied o) P
    → IfSome o (λ q. P q.now)
lent P None h = tt
lent P (Some q) h = h

pub recalled : (text : List ℕ) (es : List (String Global × Query)) (o : Option (Bor Query))
    → AreRead es → option_copied o ≡ lookup (λ k. bytes_eq text (string_bytes k)) es
    → IfSome o (λ q. verdict text ≡ query (expression_of q.now))
recalled text es o read is = lent (λ q. verdict text ≡ query (expression_of q)) o
    (of_found text es (option_copied o) read is)
