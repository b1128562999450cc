-- What the library on which words are read says of the number of `--gen`.
use Rattle.std.proofs.Common.{◌≡◌, ◌∙◌, ◌<◌, ◌≤◌, ◌^◌, refl, ap, sym, subst, ℕ, zero, suc, Bool, true, false, ◌&&◌, ◌==◌, cond, drop, length, List, [], ◌∷◌, inl, inr, Option, Some, None, map, option_map, codes, arith}
use Rattle.std.specs.Prelude.{IfSome, Ok, Err, Result, pos, slice_get, slice_index, unwrap_or}
use Rattle.std.specs.Borrow.{Bor}
use Rattle.std.specs.List.{All, slice_index_or}
use Rattle.std.specs.Str.{bytes_eq}
use Rattle.std.specs.Str.Parse.{IsNumeral, ParsesUnsigned, digits_value, starts_with_minus, without_leading_plus}
use Rattle.std.proofs.lemmas.Bool.{ne_eqb, not-true}
use Rattle.std.proofs.lemmas.Bool.Decides.{nat_tests}
use Rattle.std.proofs.lemmas.Int.{ints}
use Rattle.std.proofs.lemmas.List.Elements.{All-get_or}
use Rattle.std.proofs.lemmas.Slice.Eq.{bytes_eq-Decides}
use Rattle.std.proofs.lemmas.Str.Parse.{digit_from_value}
use Rattle.clap.specs.Words.{Accepts, Rule, IsParsedFrom, ReadsOne, app_of, args_of, first_value, found_of, groups_of, matched_of, one_text, parser_of, reading_of, rule_of, without_minus}
use Rattle.clap.specs.Built.{NamesNoGroup}
use Rattle.clap.specs.Facts.{Entry, EntryPasses, HasReading, PassesArg, parser_of_value}
use Rattle.clap.specs.Simple.{has_plain_fields}
use Rattle.clap.specs.Walk.{is_empty, is_simple_arg}
use Rattle.clap.specs.Values.{IsSignedIn}
use Rattle.clap.specs.declared.builder.arg.Arg.{Arg}
use Rattle.clap.specs.declared.builder.command.Command.{Command}
use Rattle.clap.specs.declared.builder.command.Command.TheViews.{out-Command}
use Rattle.clap.specs.declared.builder.value_parser.Reading.{Reading}
use Rattle.clap.specs.declared.parser.matches.ArgMatches.{ArgMatches}
use Rattle.clap.specs.declared.parser.matches.MatchedArg.{MatchedArg}
use Rattle.clap.proofs.CallerLemmas.{entry_by_id, same_rules_by_id}
use Rattle.cs_args.specs.Words.{command_app, data_rule, script_rule, gen_rule, is_generated, most_generated, number_of}

-- ---- the text of a number
minus_off : (t : List ℕ) → without_minus t ≡ cond (starts_with_minus t) (drop 1 t) t
minus_off [] = refl
minus_off (x ∷ xs) = go (x == 45)
  where
    go : (b : Bool) → unwrap_or (cond b (Some xs) None) (x ∷ xs) ≡ cond b xs (x ∷ xs)
    go true = refl
    go false = refl

no_plus : (ds : List ℕ) → IsNumeral 10 ds → without_leading_plus ds ≡ ds
no_plus [] h = refl
no_plus (d ∷ ds) h =
    let plus : (d == 43) ≡ false = ne_eqb _ _ (λ e. omega (arith, digit_from_value d h.1.0)) in
    ap (λ b. drop (cond b 1 0) (d ∷ ds)) plus

-- a number was read, and it is that of the text
abbrev pub IsNumberOf : Option ℕ → List ℕ → Type 0
IsNumberOf r t = (r ≡ Some (number_of t)) × (number_of t ≤ most_generated)

-- a text within the bounds is read as its number
reads : (E : Type 0) (G : List ℕ → Result ℕ E → Type 0) (t : List ℕ) (r : Option ℕ) → ReadsOne G (without_minus t) r
    → ((u : List ℕ) (x : Result ℕ E) → G u x → ParsesUnsigned 32 10 u x)
    → IsSignedIn (pos 0) (pos most_generated) t → IsNumberOf r t
reads E G t r read only passed =
    go (starts_with_minus t) refl r (subst (λ u. ReadsOne G u r) (minus_off t) read)
  where
    go : (b : Bool) → starts_with_minus t ≡ b → (o : Option ℕ) → ReadsOne G (cond (starts_with_minus t) (drop 1 t) t) o → IsNumberOf o t
    go true minus (Some v) h =
        let low = rw minus at passed.2 in
        let numeral : IsNumeral 10 (drop 1 t) = rw minus at passed.0 in
        let parsed = only (drop 1 t) (Ok v) (rw minus at h) in
        let is : v ≡ digits_value 10 (drop 1 t) = parsed.1 ∙ ap (digits_value 10) (no_plus (drop 1 t) numeral) in
        (rw minus (ap Some is), rw minus (omega (arith, ints)))
    go true minus None h =
        let low = rw minus at passed.2 in
        let numeral : IsNumeral 10 (drop 1 t) = rw minus at passed.0 in
        let same = no_plus (drop 1 t) numeral in
        let small : digits_value 10 (drop 1 t) < 2 ^ 32 = omega (arith, ints) in
        absurd (only (drop 1 t) (Err h.0) (rw minus at h.1) (rw same numeral, rw same small))
    go false minus (Some v) h =
        let high = rw minus at passed.3 in
        let parsed = only t (Ok v) (rw minus at h) in
        (rw minus (ap Some parsed.1), rw minus (omega (arith, ints)))
    go false minus None h =
        let high = rw minus at passed.3 in
        let numeral = rw minus at passed.0 in
        absurd (only t (Err h.0) (rw minus at h.1) (numeral, omega (arith, ints)))

-- ---- the three options of the command
both : (a b : Bool) → (a && b) ≡ true → (a ≡ true) × (b ≡ true)
both true true e = (refl, refl)
both true false e = cc
both false b e = cc

empty_is : {X : Type 0} (xs : List X) → is_empty xs ≡ true → xs ≡ []
empty_is [] e = refl
empty_is (x ∷ xs) e = absurd (grind (arith, nat_tests, e))

-- the arguments of the command
record Options (c : Command) : Type 0 where
  pub first : Arg
  pub second : Arg
  pub third : Arg
  pub args : args_of c ≡ first ∷ second ∷ third ∷ []
  pub first_is : rule_of first ≡ data_rule
  pub second_is : rule_of second ≡ script_rule
  pub third_is : rule_of third ≡ gen_rule

three : (xs : List Arg) → map rule_of xs ≡ data_rule ∷ script_rule ∷ gen_rule ∷ []
    → (a b g : Arg) × (xs ≡ a ∷ b ∷ g ∷ []) × (rule_of a ≡ data_rule) × (rule_of b ≡ script_rule) × (rule_of g ≡ gen_rule)
three [] e = absurd (omega (arith, ap length e))
three (a ∷ []) e = absurd (omega (arith, ap length e))
three (a ∷ b ∷ []) e = absurd (omega (arith, ap length e))
three (a ∷ b ∷ g ∷ []) e = (a, b, g, refl, ap (λ l. unwrap_or (slice_get l 0) gen_rule) e, ap (λ l. unwrap_or (slice_get l 1) gen_rule) e, ap (λ l. unwrap_or (slice_get l 2) gen_rule) e)
three (a ∷ b ∷ g ∷ x ∷ xs) e = absurd (omega (arith, ap length e))

options : (c : Command) → app_of c ≡ command_app → Options c
options c e =
    let t = three (args_of c) (ap (λ a. a.top.rules) e) in
    record { first = t.0; second = t.1; third = t.2; args = t.3; first_is = t.4; second_is = t.5; third_is = t.6 }

-- what all three have, each of them has
all_three : (P : Arg → Type 0) (a b g : Arg) → P a → P b → P g → All P (a ∷ b ∷ g ∷ [])
all_three P a b g pa pb pg zero d lt = pa
all_three P a b g pa pb pg (suc zero) d lt = pb
all_three P a b g pa pb pg (suc (suc zero)) d lt = pg
all_three P a b g pa pb pg (suc (suc (suc k))) d lt = absurd (omega arith)

in_no_group : (a : Arg) (r : Rule) → rule_of a ≡ r → r.is_simple ≡ true → a.groups.items ≡ []
in_no_group a r e h =
    let simple : is_simple_arg a ≡ true = ap (λ x. x.is_simple) e ∙ h in
    empty_is a.groups.items (both _ _ (both _ _ (both _ _ simple).1).1).0

plain_fields : (c : Command) → app_of c ≡ command_app → has_plain_fields (out-Command c) ≡ true
plain_fields c e = ap (λ a. a.top.is_plain) e

no_groups : (c : Command) → app_of c ≡ command_app → groups_of c ≡ []
no_groups c e = empty_is (groups_of c) (both _ _ (plain_fields c e)).0

no_globals : (c : Command) → app_of c ≡ command_app → (out-Command c).has_globals ≡ false
no_globals c e = not-true _ (both _ _ (both _ _ (both _ _ (plain_fields c e)).1).1).0

no_group_named : (c : Command) → app_of c ≡ command_app → NamesNoGroup c
no_group_named c e =
    let o = options c e in
    subst (All (λ a. a.groups.items ≡ [])) (sym o.args)
    (all_three (λ a. a.groups.items ≡ []) o.first o.second o.third (in_no_group o.first data_rule o.first_is refl) (in_no_group o.second script_rule o.second_is refl) (in_no_group o.third gen_rule o.third_is refl))

-- ---- the entry of the number
named : codes "gen" ≡ [] → ⊥
named e = cc

-- an argument of the built command with the name reads numbers within the bounds
gen_parser : (c : Command) (m : ArgMatches) (p : IsParsedFrom c m) → app_of c ≡ command_app → (j : ℕ) (x : Arg) → j < length (args_of p.built)
    → slice_index_or (args_of p.built) j x ≡ x → bytes_eq x.id.now (codes "gen") ≡ true → parser_of x ≡ is_generated
gen_parser c m p e j x high there same =
    let o = options c e in
    let long : length (args_of c) ≡ 3 = ap length o.args in
    let there_is : slice_index_or (args_of c) 2 o.third ≡ o.third = ap (λ l. slice_index_or l 2 o.third) o.args in
    let id : (slice_index_or (args_of c) 2 o.third).id.now ≡ codes "gen" = ap (λ a. a.id.now) there_is ∙ ap (λ r. r.id) o.third_is in
    let rules = same_rules_by_id c m p 2 o.third (omega (arith, long)) (only o id long)
    (λ auto. elim auto [
      | inl h ↦
          let bad : 103 ≡ 104 = ap (λ (t : List ℕ). slice_index t 0) (sym id ∙ h) in
          absurd (omega arith)
      | inr h ↦
          let bad : 103 ≡ 118 = ap (λ (t : List ℕ). slice_index t 0) (sym id ∙ h) in
          absurd (omega arith)
    ])
    j x high there (subst (λ t. bytes_eq x.id.now t ≡ true) (sym id) same) in
    let parser : (slice_index_or (args_of c) 2 o.third).value_parser ≡ Some is_generated = ap (λ a. a.value_parser) there_is ∙ ap (λ r. r.parser) o.third_is in
    ap parser_of_value (rules.parser is_generated parser)
  where
    only : (o : Options c) → (slice_index_or (args_of c) 2 o.third).id.now ≡ codes "gen" → length (args_of c) ≡ 3
        → (k : ℕ) (d : Arg) → k < length (args_of c) → bytes_eq (slice_index_or (args_of c) k d).id.now (slice_index_or (args_of c) 2 o.third).id.now ≡ true → k ≡ 2
    only o id long zero d lt h =
        let name : (slice_index_or (args_of c) 0 d).id.now ≡ codes "data" = ap (λ l. (slice_index_or l 0 d).id.now) o.args ∙ ap (λ r. r.id) o.first_is in
        let bad : bytes_eq (codes "data") (codes "gen") ≡ true = rw (name, id) at h in
        cc
    only o id long (suc zero) d lt h =
        let name : (slice_index_or (args_of c) 1 d).id.now ≡ codes "script" = ap (λ l. (slice_index_or l 1 d).id.now) o.args ∙ ap (λ r. r.id) o.second_is in
        let bad : bytes_eq (codes "script") (codes "gen") ≡ true = rw (name, id) at h in
        cc
    only o id long (suc (suc zero)) d lt h = refl
    only o id long (suc (suc (suc k))) d lt h = absurd (omega (arith, long))

gen_accepts : (c : Command) (m : ArgMatches) (p : IsParsedFrom c m) → app_of c ≡ command_app → (t : List ℕ) → PassesArg p.built (codes "gen") t
    → IsSignedIn (pos 0) (pos most_generated) t
gen_accepts c m p e t pass =
    let is = gen_parser c m p e pass.0 pass.1 pass.2 pass.3 pass.4.0 in
    subst (λ q. Accepts pass.1.ignore_case q t) is pass.4.1

gen_reading : (c : Command) (m : ArgMatches) (p : IsParsedFrom c m) → app_of c ≡ command_app → (how : Reading) → HasReading p.built (codes "gen") how → how ≡ reading_of is_generated
gen_reading c m p e how has =
    sym has.4.1 ∙ ap reading_of (gen_parser c m p e has.0 has.1 has.2 has.3 has.4.0)

-- what holds of the values of the entry
record Gen (x : MatchedArg) : Type 0 where
  pub reading : x.reading ≡ reading_of is_generated
  pub values : All (λ v. IsSignedIn (pos 0) (pos most_generated) v.now) x.vals.items

gen_entry : (c : Command) (m : ArgMatches) (p : IsParsedFrom c m) → app_of c ≡ command_app → (x : MatchedArg) → matched_of (found_of m) (codes "gen") ≡ Some x → Gen x
gen_entry c m p e x found =
    let parsed = p.parsed (p.from.globals ∙ no_globals c e) in
    let none : groups_of p.built ≡ [] = (p.from.same_groups (no_group_named c e)).1 ∙ no_groups c e in
    let got = entry_by_id (EntryPasses p.built) (found_of m).entries.items (codes "gen") x parsed.values found in
    of_entry got.0 got.1 ((bytes_eq-Decides got.0.0.now (codes "gen")).0 got.2) none got.3
  where
    of_entry : (n : Entry) → n.1 ≡ x → n.0.now ≡ codes "gen" → groups_of p.built ≡ [] → EntryPasses p.built n → Gen x
    of_entry n is name none pass =
        let single : n.1.is_group ≡ true → ⊥ = λ g. elim (pass.3 g) [
          | inl empty ↦ absurd (named (sym name ∙ empty))
          | inr lots ↦
              let bad : 0 < 0 = rw none at lots in
              absurd (omega arith)
        ] in
        let reading : n.1.reading ≡ reading_of is_generated = elim pass.4 [
          | inl g ↦ absurd (single g)
          | inr h ↦ gen_reading c m p e n.1.reading (subst (λ w. HasReading p.built w n.1.reading) name h)
        ] in
        let values : All (λ v. IsSignedIn (pos 0) (pos most_generated) v.now) n.1.vals.items = elim pass.0 [
          | inl g ↦ absurd (single g)
          | inr all ↦ λ k d lt. gen_accepts c m p e _ (subst (λ w. PassesArg p.built w (slice_index_or n.1.vals.items k d).now) name (all k d lt))
        ] in
        subst Gen is (record { reading = reading; values = values })

-- what was read of the number, by the text of it: nothing where there is none
abbrev pub IsNumber : Option ℕ → Option (List ℕ) → Type 0
IsNumber r None = r ≡ None
IsNumber r (Some t) = IsNumberOf r t

pub number_read : (E : Type 0) (G : List ℕ → Result ℕ E → Type 0) (c : Command) (m : ArgMatches) (r : Option ℕ) → IsParsedFrom c m → app_of c ≡ command_app
    → (one_text (found_of m) (codes "gen") ≡ None → r ≡ None) → ((t : List ℕ) → one_text (found_of m) (codes "gen") ≡ Some t → ReadsOne G t r)
    → ((u : List ℕ) (x : Result ℕ E) → G u x → ParsesUnsigned 32 10 u x)
    → IsNumber r (first_value (found_of m) (codes "gen"))
number_read E G c m r p e none some only = go (matched_of (found_of m) (codes "gen")) refl
  where
    values : (x : MatchedArg) (vs : List (Bor (List ℕ))) → x.vals.items ≡ vs → matched_of (found_of m) (codes "gen") ≡ Some x → Gen x → IsNumber r (first_value (found_of m) (codes "gen"))
    values x [] v found g =
        let first : first_value (found_of m) (codes "gen") ≡ None = rw (found, v) refl in
        rw first (none (rw (found, v) refl))
    values x (t ∷ ts) v found g =
        let first : first_value (found_of m) (codes "gen") ≡ Some t.now = rw (found, v) refl in
        let text : one_text (found_of m) (codes "gen") ≡ Some (without_minus t.now) = rw (found, g.reading, v) refl in
        let passed = All-get_or (λ w. IsSignedIn (pos 0) (pos most_generated) w.now) (t ∷ ts) 0 t (omega arith) (rw v at g.values) in
        rw first (reads E G t.now r (some (without_minus t.now) text) only passed)

    go : (found : Option MatchedArg) → matched_of (found_of m) (codes "gen") ≡ found → IsNumber r (first_value (found_of m) (codes "gen"))
    go None found =
        let first : first_value (found_of m) (codes "gen") ≡ None = rw found refl in
        rw first (none (rw found refl))
    go (Some x) found = values x x.vals.items refl found (gen_entry c m p e x found)

-- what is read is the number of the text, and it is within the bounds
pub number_is : (r : Option ℕ) (text : Option (List ℕ)) → IsNumber r text → (r ≡ option_map number_of text) × IfSome r (λ n. n ≤ most_generated)
number_is r None h = (h, subst (λ o. IfSome o (λ n. n ≤ most_generated)) (sym h) tt)
number_is r (Some t) h = (h.0, subst (λ o. IfSome o (λ n. n ≤ most_generated)) (sym h.0) h.1)
