-- Pairs in order in a vector: how far a scan has come.
use Rattle.std.proofs.Common.{◌≡◌, ℕ, ◌+◌, ◌<◌, length, get_or, drop, List, Option, Some, None, Bool, true, false, cond, Result, Ok, Err, Ordering, Less, Equal, Greater, ap, ◌∙◌, arith}
use Rattle.std.proofs.lemmas.List.{at_drop_more, at_drop_all}
use Rattle.std.specs.Map.{lookup}
use Rattle.std.specs.Ordering.{match_ordering}
use Rattle.std_collections.specs.Layout.BTreeMap.{seek, one_further}
use Rattle.cs_value.specs.Entries.{Name}

-- an answer of the rest of a list, n places on
abbrev pub further : ℕ → Result ℕ ℕ → Result ℕ ℕ
further n (Ok i) = Ok (n + i)
further n (Err i) = Err (n + i)

further-one_further : (n : ℕ) (r : Result ℕ ℕ) → further n (one_further r) ≡ further (n + 1) r
further-one_further n (Ok i) = ap Ok (omega arith)
further-one_further n (Err i) = ap Err (omega arith)

-- from the start
pub whole : (r : Result ℕ ℕ) → further 0 r ≡ r
whole (Ok i) = ap Ok (omega arith)
whole (Err i) = ap Err (omega arith)

module _ {V : Type 0} (q : Name → Ordering) (es : List (Name × V)) (i : ℕ) where
  abbrev at : List (Name × V) → Result ℕ ℕ
  at xs = further i (seek q xs)

  -- at the end
  pub ended : i ≡ length es → at (drop i es) ≡ Err (length es)
  ended e = at_drop_all at es i (omega arith) ∙ ap Err (omega arith)

  module _ (d : Name × V) (here : i < length es) where
    abbrev left : List (Name × V)
    left = drop (i + 1) es

    step : (o : Ordering) → q (get_or es i d).0 ≡ o
        → at (drop i es) ≡ further i (match_ordering o (Err 0) (Ok 0) (one_further (seek q left)))
    step o h =
        at_drop_more at es i d here
        ∙ ap (λ p. further i (match_ordering p (Err 0) (Ok 0) (one_further (seek q left)))) h

    pub ends_below : q (get_or es i d).0 ≡ Less → at (drop i es) ≡ Err i
    ends_below h = step Less h ∙ ap Err (omega arith)

    pub ends_at : q (get_or es i d).0 ≡ Equal → at (drop i es) ≡ Ok i
    ends_at h = step Equal h ∙ ap Ok (omega arith)

    pub goes_on : q (get_or es i d).0 ≡ Greater → at (drop i es) ≡ further (i + 1) (seek q left)
    goes_on h = step Greater h ∙ further-one_further i _

-- how far a search for the first name that passes a test has come
module _ {V : Type 0} (test : Name → Bool) (es : List (Name × V)) (i : ℕ) where
  pub nowhere : i ≡ length es → lookup test (drop i es) ≡ None
  nowhere e = at_drop_all (lookup test) es i (omega arith)

  module _ (d : Name × V) (here : i < length es) where
    abbrev rest : Option V
    rest = lookup test (drop (i + 1) es)

    asked : (b : Bool) → test (get_or es i d).0 ≡ b
        → lookup test (drop i es) ≡ cond b (Some (get_or es i d).1) rest
    asked b h =
        at_drop_more (lookup test) es i d here
        ∙ ap (λ t. cond t (Some (get_or es i d).1) rest) h

    pub first_here : test (get_or es i d).0 ≡ true
        → lookup test (drop i es) ≡ Some (get_or es i d).1
    first_here h = asked true h

    pub later : test (get_or es i d).0 ≡ false → lookup test (drop i es) ≡ rest
    later h = asked false h
