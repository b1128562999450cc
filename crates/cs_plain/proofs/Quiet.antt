-- A plain predicate has neither `*` nor `->`.
use Rattle.std.proofs.Common.{◌≡◌, Bool, true, false, cond, ◌&&◌, List, [], ◌∷◌, refl, ap, sym, ◌∙◌, Option, Some, None, option_map}
use Rattle.std.specs.Prelude.{is_some, ◌||◌, ℕ}
use Rattle.std.proofs.lemmas.Bool.{and_from}
use Rattle.cs_syntax.specs.Expression.{Expression, null_literal, bool_literal, number_literal, text_literal, param, word, this, everything, round, call, array, chain, prefix, run, within, between, Operands, no_operands, more_operands, attr, bracket, Steps, no_steps, more_steps, element, spread_element, Elements, no_elements, more_elements, Arguments, no_arguments, more_arguments, argument, when_argument}
use Rattle.cs_syntax.specs.Faults.{is_path}
use Rattle.cs_syntax.specs.declared.tree.PreSign.{PreSign}
use Rattle.cs_syntax.specs.declared.tree.PreSign.TheVariants as front
use Rattle.cs_plan.specs.Simple.{is_quiet, is_filter, quiet_operands, quiet_arguments, quiet_elements, quiet_steps}
use Rattle.cs_plan.specs.Steps.{names_of}
use Rattle.cs_func.specs.declared.function.Function.TheVariants.{Count, Length, Defined, StartsWith}
use Rattle.cs_meaning.specs.Operators.{Callee, referring, applying, callee}
use Rattle.cs_meaning.proofs.Silent.{both-true}
use Rattle.cs_plain.specs.Plain.{is_word, is_negative, is_measure, is_operand, is_one, are_operands, are_some, are_two, is_test, are_elements, are_some_elements, is_container, is_compared, is_comparison, is_junction, all_not, is_plain, are_junctions, filter_alone, listened_filter}

pub either-way : {P : Type 0} (a b : Bool) → (a || b) ≡ true → (a ≡ true → P) → (b ≡ true → P) → P
either-way true b h f g = f refl
either-way false b h f g = g h

pub some-inside : {A B : Type 0} (f : A → B) (o : Option A) → is_some (option_map f o) ≡ true →
    is_some o ≡ true
some-inside f None h = absurd (cc)
some-inside f (Some x) h = refl

quiet-names : (ss : Steps) → is_some (names_of ss) ≡ true → quiet_steps ss ≡ true
quiet-names no_steps h = refl
quiet-names (more_steps (attr w) ss) h = quiet-names ss (some-inside (λ (ns : List (List ℕ)). w ∷
    ns) (names_of ss) h)
quiet-names (more_steps (bracket (text_literal s)) ss) h = quiet-names ss (some-inside (λ (ns :
    List (List ℕ)). s ∷ ns) (names_of ss) h)
quiet-names (more_steps _ ss) h = absurd (cc)

quiet-chain : (base : Expression) (ss : Steps) → is_word base ≡ true → quiet_steps ss ≡ true →
    (is_quiet base && quiet_steps ss) ≡ true
quiet-chain (word w) ss h g = g
quiet-chain _ ss h g = absurd (cc)

quiet-negative : (signs : List PreSign) (e : Expression) → is_negative signs e ≡ true → is_quiet
    e ≡ true
quiet-negative (front.Minus ∷ []) (number_literal n) h = refl
quiet-negative (front.Minus ∷ []) _ h = absurd (cc)
quiet-negative _ e h = absurd (cc)

mutual
  pub quiet-operand : (e : Expression) → is_operand e ≡ true → is_quiet e ≡ true
  quiet-operand null_literal h = refl
  quiet-operand (bool_literal b) h = refl
  quiet-operand (number_literal n) h = refl
  quiet-operand (text_literal s) h = refl
  quiet-operand (param p) h = refl
  quiet-operand (word w) h = refl
  quiet-operand this h = refl
  quiet-operand (chain base ss) h =
      let p = both-true (is_word base) (is_some (names_of ss)) h in
      quiet-chain base ss p.0 (quiet-names ss p.1)
  quiet-operand (prefix signs e) h = quiet-negative signs e h
  quiet-operand (call name args) h = quiet-one args (both-true (is_measure (callee name)) (is_one
      args) h).1
  quiet-operand _ h = absurd (cc)

  pub quiet-one : (xs : Arguments) → is_one xs ≡ true → quiet_arguments xs ≡ true
  quiet-one (more_arguments (argument e) no_arguments) h = and_from (is_quiet e) true (quiet-operand
      e h) refl
  quiet-one _ h = absurd (cc)

quiet-all : (xs : Arguments) → are_operands xs ≡ true → quiet_arguments xs ≡ true
quiet-all no_arguments h = refl
quiet-all (more_arguments (argument e) xs) h =
    let p = both-true (is_operand e) (are_operands xs) h in
    and_from (is_quiet e) (quiet_arguments xs) (quiet-operand e p.0) (quiet-all xs p.1)
quiet-all (more_arguments (when_argument c e) xs) h = absurd (cc)

quiet-some : (xs : Arguments) → are_some xs ≡ true → quiet_arguments xs ≡ true
quiet-some no_arguments h = refl
quiet-some (more_arguments x xs) h = quiet-all (more_arguments x xs) h

quiet-two : (xs : Arguments) → are_two xs ≡ true → quiet_arguments xs ≡ true
quiet-two (more_arguments x (more_arguments y no_arguments)) h = quiet-all (more_arguments x
    (more_arguments y no_arguments)) h
quiet-two _ h = absurd (cc)

quiet-test : (f : Callee) (xs : Arguments) → is_test f xs ≡ true → quiet_arguments xs ≡ true
quiet-test (applying (Some Defined)) xs h = quiet-one xs h
quiet-test (applying (Some StartsWith)) xs h = quiet-two xs h
quiet-test (applying (Some Count)) xs h = quiet-one xs h
quiet-test (applying (Some Length)) xs h = quiet-one xs h
quiet-test referring xs h = quiet-some xs h
quiet-test _ xs h = absurd (cc)

quiet-each : (xs : Elements) → are_elements xs ≡ true → quiet_elements xs ≡ true
quiet-each no_elements h = refl
quiet-each (more_elements (element e) xs) h =
    let p = both-true (is_operand e) (are_elements xs) h in
    and_from (is_quiet e) (quiet_elements xs) (quiet-operand e p.0) (quiet-each xs p.1)
quiet-each (more_elements (spread_element e) xs) h = absurd (cc)

quiet-array : (xs : Elements) → are_some_elements xs ≡ true → quiet_elements xs ≡ true
quiet-array no_elements h = refl
quiet-array (more_elements x xs) h = quiet-each (more_elements x xs) h

quiet-call : (name : List ℕ) (xs : Arguments) (b : Bool) → cond b (is_one xs) (is_operand (call
    name xs)) ≡ true → quiet_arguments xs ≡ true
quiet-call name xs true h = quiet-one xs h
quiet-call name xs false h = quiet-operand (call name xs) h

quiet-container : (e : Expression) → is_container e ≡ true → is_quiet e ≡ true
quiet-container (array es) h = quiet-array es h
quiet-container (call name xs) h = quiet-call name xs (is_path name) h
quiet-container e h = quiet-operand e h

quiet-compared : (rest : Operands) → is_compared rest ≡ true → quiet_operands rest ≡ true
quiet-compared (more_operands s e no_operands) h = and_from (is_quiet e) true (quiet-operand e
    (both-true (is_comparison s) (is_operand e) h).1) refl
quiet-compared _ h = absurd (cc)

mutual
  pub quiet-plain : (e : Expression) → is_plain e ≡ true → is_quiet e ≡ true
  quiet-plain (round e) h = quiet-plain e h
  quiet-plain (run e rest) h =
      either-way (is_plain e && are_junctions rest) (is_operand e && is_compared rest) h
      (λ g. let p = both-true (is_plain e) (are_junctions rest) g in and_from (is_quiet e)
      (quiet_operands rest) (quiet-plain e p.0) (quiet-junctions rest p.1))
      (λ g. let p = both-true (is_operand e) (is_compared rest) g in and_from (is_quiet e)
      (quiet_operands rest) (quiet-operand e p.0) (quiet-compared rest p.1))
  quiet-plain (prefix signs e) h =
      either-way (all_not signs && is_plain e) (is_negative signs e) h
      (λ g. quiet-plain e (both-true (all_not signs) (is_plain e) g).1)
      (λ g. quiet-negative signs e g)
  quiet-plain (within e right) h =
      let p = both-true (is_operand e) (is_container right) h in
      and_from (is_quiet e) (is_quiet right) (quiet-operand e p.0) (quiet-container right p.1)
  quiet-plain (between e from to closed) h =
      let p = both-true (is_operand e) (is_operand from && is_operand to) h in
      let r = both-true (is_operand from) (is_operand to) p.1 in
      and_from (is_quiet e) (is_quiet from && is_quiet to) (quiet-operand e p.0) (and_from (is_quiet
      from) (is_quiet to) (quiet-operand from r.0) (quiet-operand to r.1))
  quiet-plain (call name xs) h = quiet-test (callee name) xs h
  quiet-plain e h = quiet-operand e h

  quiet-junctions : (rest : Operands) → are_junctions rest ≡ true → quiet_operands rest ≡ true
  quiet-junctions no_operands h = refl
  quiet-junctions (more_operands s e rest) h =
      let p = both-true (is_junction s) (is_plain e && are_junctions rest) h in
      let r = both-true (is_plain e) (are_junctions rest) p.1 in
      and_from (is_quiet e) (quiet_operands rest) (quiet-plain e r.0) (quiet-junctions rest r.1)

kept : (b : Bool) (e filter : Expression) → cond b (Some e) None ≡ Some filter → (b ≡ true) × (e
    ≡ filter)
kept true e filter h = (refl, ap (unwrapped e) h)
  where
    unwrapped : Expression → Option Expression → Expression
    unwrapped d None = d
    unwrapped d (Some x) = x
kept false e filter h = absurd (cc)

alone : (ss : Steps) (filter : Expression) → filter_alone ss ≡ Some filter → is_plain filter ≡ true
alone (more_steps (bracket e) no_steps) filter h =
    let p = kept (is_filter (bracket e) && is_plain e) e filter h in
    ap is_plain (sym p.1) ∙ (both-true (is_filter (bracket e)) (is_plain e) p.0).1
alone (more_steps _ no_steps) filter h = absurd (cc)
alone (more_steps _ (more_steps s ss)) filter h = absurd (cc)
alone no_steps filter h = absurd (cc)

pub listened-plain : (q filter : Expression) → listened_filter q ≡ Some filter → is_plain filter
    ≡ true
listened-plain everything filter h = ap is_plain (sym (kept true (bool_literal true) filter h).1)
listened-plain (chain everything ss) filter h = alone ss filter h
listened-plain _ filter h = absurd (cc)
