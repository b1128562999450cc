-- What the code finds of operands and conditions is what they are worth.
use Rattle.std.proofs.Common.{◌≡◌, Bool, true, false, cond, ◌&&◌, List, [], ◌∷◌, ◌++◌, ℕ, refl, ap, sym, ◌∙◌, Option, Some, None, option_map}
use Rattle.std.specs.Prelude.{ℤ, neg_ℤ, is_some, ◌||◌, flat_map}
use Rattle.std.specs.List.{list_any}
use Rattle.std.specs.Ordering.{is_lt, is_le, is_gt, is_ge}
use Rattle.std.specs.declared.cmp.Ordering.{Ordering}
use Rattle.cs_value.specs.Tree.{Tree, null, boolean, integer, text, list, object, Pairs}
use Rattle.cs_value.proofs.Views.{members-trees}
use Rattle.cs_syntax.specs.Faults.{is_path}
use Rattle.cs_syntax.specs.Expression.{Expression, null_literal, bool_literal, number_literal, text_literal, param, word, this, round, call, array, chain, prefix, run, within, between, Operands, no_operands, more_operands, attr, bracket, Steps, no_steps, more_steps, element, spread_element, Elements, no_elements, more_elements, Arguments, no_arguments, more_arguments, argument, when_argument}
use Rattle.cs_syntax.specs.declared.tree.PreSign.{PreSign}
use Rattle.cs_syntax.specs.declared.tree.PreSign.TheVariants as front
use Rattle.cs_syntax.specs.declared.tree.BinSign.{BinSign}
use Rattle.cs_syntax.specs.declared.tree.BinSign.TheVariants as sign
use Rattle.cs_ops.specs.Arithmetic.{is_of_64_bits}
use Rattle.cs_ops.specs.Equal.{equal}
use Rattle.cs_ops.specs.Order.{partial}
use Rattle.cs_ops.specs.Operators as operators
use Rattle.cs_ops.specs.Truth.{truth, said, both, either, opposite}
use Rattle.cs_ops.specs.declared.op.Pre.TheVariants.{Minus}
use Rattle.cs_func.specs.Lists.{count, defined}
use Rattle.cs_func.specs.Texts.{size, begins}
use Rattle.cs_func.specs.Refers.{refers}
use Rattle.cs_func.specs.declared.function.Function.TheVariants.{Count, Length, Defined, StartsWith}
use Rattle.cs_plan.specs.Constants.{literal}
use Rattle.cs_plan.specs.Steps.{names_of}
use Rattle.cs_value.specs.Words.{field}
use Rattle.cs_meaning.specs.Operators.{Callee, referring, applying, callee, called, operated, signed, in_path, in_list_or_path, sole, targets}
use Rattle.cs_meaning.specs.Values.{value, run_value, path_pattern, arguments_values, coalesced, selected, elements_values, rest_value, pipes_value}
use Rattle.cs_meaning.proofs.Silent.{both-true}
use Rattle.cs_plain.specs.Plain.{is_word, is_negative, is_measure, is_operand, is_one, are_operands, are_some, are_two, is_test, are_elements, are_some_elements, is_container, is_compared, is_comparison, is_junction, all_not, is_plain, are_junctions}
use Rattle.cs_plain.specs.Truths.{negated, chain_value, measured, operand_value, one_value, first_value, rest_of, some_referred, some_equal, contained, tested, comparison, compared, junction, is_joining, flipped, condition_truth, run_truth}
use Rattle.cs_plan.specs.Parts.{negative_of, tree_at}
use Rattle.cs_plan.proofs.PathNames.{tree_at_more}
use Rattle.cs_plain.proofs.Quiet.{either-way, some-inside}

pub impossible : {P : Type 0} → false ≡ true → P
impossible h = absurd (cc)

negative-value : (signs : List PreSign) (e : Expression) (v : Tree) → is_negative signs e ≡ true → ((n : List ℕ) → e ≡ number_literal n → v ≡ literal n) → negated (negative_of signs e) ≡ signed signs v
negative-value (front.Minus ∷ []) (number_literal n) v h g = ap (operators.prefix Minus) (sym (g n refl))
negative-value (front.Minus ∷ []) _ v h g = absurd (cc)
negative-value _ e v h g = absurd (cc)

measured-called : (f : Callee) (a b d x : Tree) → is_measure f ≡ true → measured f x ≡ called f a b d (x ∷ [])
measured-called (applying (Some Count)) a b d x h = refl
measured-called (applying (Some Length)) a b d x h = refl
measured-called _ a b d x h = absurd (cc)

module _ (docs : List Tree) (params : Pairs) (d : Tree) (out : List Tree) where
  rest-names : (ss : Steps) → is_some (names_of ss) ≡ true → (v : Tree) → tree_at ss v ≡ rest_value docs params ss (d ∷ out) v
  rest-names no_steps h v = refl
  rest-names (more_steps (attr w) ss) h v = tree_at_more (attr w) ss v ∙ rest-names ss (some-inside (λ (ns : List (List ℕ)). w ∷ ns) (names_of ss) h) (field w v)
  rest-names (more_steps (bracket (text_literal s)) ss) h v = tree_at_more (bracket (text_literal s)) ss v ∙ rest-names ss (some-inside (λ (ns : List (List ℕ)). s ∷ ns) (names_of ss) h) (field s v)
  rest-names (more_steps _ ss) h v = absurd (cc)

  pipes-names : (ss : Steps) → is_some (names_of ss) ≡ true → (v : Tree) → v ≡ pipes_value docs params ss (d ∷ out) v
  pipes-names no_steps h v = refl
  pipes-names (more_steps (attr w) ss) h v = pipes-names ss (some-inside (λ (ns : List (List ℕ)). w ∷ ns) (names_of ss) h) v
  pipes-names (more_steps (bracket (text_literal s)) ss) h v = pipes-names ss (some-inside (λ (ns : List (List ℕ)). s ∷ ns) (names_of ss) h) v
  pipes-names (more_steps _ ss) h v = absurd (cc)

  chain-agrees : (base : Expression) (ss : Steps) → is_word base ≡ true → is_some (names_of ss) ≡ true → chain_value base ss d ≡ value docs params (chain base ss) (d ∷ out)
  chain-agrees (word w) ss h g = rest-names ss g (field w d) ∙ pipes-names ss g (rest_value docs params ss (d ∷ out) (field w d))
  chain-agrees _ ss h g = absurd (cc)

  number-agrees : (e : Expression) (n : List ℕ) → e ≡ number_literal n → value docs params e (d ∷ out) ≡ literal n
  number-agrees e n h = ap (λ (x : Expression). value docs params x (d ∷ out)) h

  mutual
    pub operand-agrees : (e : Expression) → is_operand e ≡ true → operand_value params d e ≡ value docs params e (d ∷ out)
    operand-agrees null_literal h = refl
    operand-agrees (bool_literal b) h = refl
    operand-agrees (number_literal n) h = refl
    operand-agrees (text_literal s) h = refl
    operand-agrees (param p) h = refl
    operand-agrees (word w) h = refl
    operand-agrees this h = refl
    operand-agrees (chain base ss) h =
        let p = both-true (is_word base) (is_some (names_of ss)) h in
        chain-agrees base ss p.0 p.1
    operand-agrees (prefix signs e) h = negative-value signs e (value docs params e (d ∷ out)) h (number-agrees e)
    operand-agrees (call name args) h =
        let p = both-true (is_measure (callee name)) (is_one args) h in
        measured-called (callee name) (coalesced docs params args (d ∷ out)) (selected docs params args (d ∷ out)) d (one_value params d args) p.0
        ∙ ap (λ (vs : List Tree). called (callee name) (coalesced docs params args (d ∷ out)) (selected docs params args (d ∷ out)) d vs) (one-agrees args p.1)
    operand-agrees _ h = absurd (cc)

    pub one-agrees : (xs : Arguments) → is_one xs ≡ true → (one_value params d xs ∷ []) ≡ arguments_values docs params xs (d ∷ out)
    one-agrees (more_arguments (argument e) no_arguments) h = ap (λ (v : Tree). v ∷ []) (operand-agrees e h)
    one-agrees _ h = absurd (cc)

truth-said : (o : Option Bool) → truth (said o) ≡ o
truth-said None = refl
truth-said (Some b) = refl

number-none : (b : Bool) (n : ℤ) → truth (cond b (integer n) null) ≡ None
number-none true n = refl
number-none false n = refl

of-ordering : (test : Ordering → Bool) (o : Option Ordering) → option_map test o ≡ truth (operators.compared test o)
of-ordering test None = refl
of-ordering test (Some o) = refl

comparison-agrees : (s : BinSign) (a b : Tree) → is_comparison s ≡ true → comparison s a b ≡ truth (operated s a b)
comparison-agrees sign.Eq a b h = refl
comparison-agrees sign.Ne a b h = refl
comparison-agrees sign.Lt a b h = of-ordering is_lt (partial a b)
comparison-agrees sign.Le a b h = of-ordering is_le (partial a b)
comparison-agrees sign.Gt a b h = of-ordering is_gt (partial a b)
comparison-agrees sign.Ge a b h = of-ordering is_ge (partial a b)
comparison-agrees _ a b h = absurd (cc)

junction-agrees : (s : BinSign) (v w : Tree) → is_junction s ≡ true → junction s (truth v) (truth w) ≡ truth (operated s v w)
junction-agrees sign.And v w h = sym (truth-said (both (truth v) (truth w)))
junction-agrees sign.Or v w h = sym (truth-said (either (truth v) (truth w)))
junction-agrees _ v w h = absurd (cc)

not-opposite : (ps : List PreSign) (x : Option Bool) → all_not ps ≡ true → flipped ps (opposite x) ≡ opposite (flipped ps x)
not-opposite [] x h = refl
not-opposite (front.Not ∷ ps) x h = not-opposite ps (opposite x) h
not-opposite (_ ∷ ps) x h = absurd (cc)

flipped-agrees : (ps : List PreSign) (v : Tree) → all_not ps ≡ true → flipped ps (truth v) ≡ truth (signed ps v)
flipped-agrees [] v h = refl
flipped-agrees (front.Not ∷ ps) v h = not-opposite ps (truth v) h ∙ (ap opposite (flipped-agrees ps v h) ∙ sym (truth-said (opposite (truth (signed ps v)))))
flipped-agrees (_ ∷ ps) v h = absurd (cc)

minus-none : (v : Tree) → truth (operators.prefix Minus v) ≡ None
minus-none null = refl
minus-none (boolean b) = refl
minus-none (integer n) = number-none (is_of_64_bits (neg_ℤ n)) (neg_ℤ n)
minus-none (text s) = refl
minus-none (list ts) = refl
minus-none (object ps) = refl

negative-agrees : (signs : List PreSign) (e : Expression) (x : Option Bool) (v : Tree) → is_negative signs e ≡ true → flipped signs x ≡ truth (signed signs v)
negative-agrees (front.Minus ∷ []) e x v h = sym (minus-none v)
negative-agrees _ e x v h = absurd (cc)

joining : (rest : Operands) → are_junctions rest ≡ true → is_joining rest ≡ true
joining no_operands h = refl
joining (more_operands sign.And e rest) h = refl
joining (more_operands sign.Or e rest) h = refl
joining (more_operands _ e rest) h = absurd (cc)

comparing : (rest : Operands) → is_compared rest ≡ true → is_joining rest ≡ false
comparing no_operands h = absurd (cc)
comparing (more_operands sign.And e no_operands) h = absurd (cc)
comparing (more_operands sign.And e (more_operands s f rest)) h = absurd (cc)
comparing (more_operands sign.Or e no_operands) h = absurd (cc)
comparing (more_operands sign.Or e (more_operands s f rest)) h = absurd (cc)
comparing (more_operands _ e rest) h = refl

cond-true : {A : Type 0} (b : Bool) (x y : A) → b ≡ true → cond b x y ≡ x
cond-true true x y h = refl
cond-true false x y h = absurd (cc)

cond-false : {A : Type 0} (b : Bool) (x y : A) → b ≡ false → cond b x y ≡ y
cond-false true x y h = absurd (cc)
cond-false false x y h = refl

module _ (docs : List Tree) (params : Pairs) (d : Tree) (out : List Tree) where
  at-container : (v w x : Tree) (o : Option Tree) → o ≡ None → w ≡ x → truth (operators.within v w) ≡ truth (in_list_or_path v o x)
  at-container v w x None h g = ap (λ (y : Tree). truth (operators.within v y)) g
  at-container v w x (Some p) h g = absurd (cc)

  elements-agree : (xs : Elements) → are_elements xs ≡ true → (v : Tree) → some_equal params d xs v ≡ list_any (λ t. equal t v) (elements_values docs params xs (d ∷ out))
  elements-agree no_elements h v = refl
  elements-agree (more_elements (element e) xs) h v =
      let p = both-true (is_operand e) (are_elements xs) h in
      rw (operand-agrees docs params d out e p.0, elements-agree xs p.1 v) refl
  elements-agree (more_elements (spread_element e) xs) h v = absurd (cc)

  array-agrees : (es : Elements) → are_some_elements es ≡ true → (v : Tree) → some_equal params d es v ≡ list_any (λ t. equal t v) (elements_values docs params es (d ∷ out))
  array-agrees no_elements h v = absurd (cc)
  array-agrees (more_elements x xs) h v = elements-agree (more_elements x xs) h v

  head-of : List Tree → Tree
  head-of [] = null
  head-of (v ∷ vs) = v

  one-sole : (xs : Arguments) → is_one xs ≡ true → one_value params d xs ≡ sole (arguments_values docs params xs (d ∷ out))
  one-sole xs h = ap sole (one-agrees docs params d out xs h)

  in-call : (v : Tree) (name : List ℕ) (xs : Arguments) (b : Bool) → cond b (is_one xs) (is_operand (call name xs)) ≡ true
      → cond b (truth (in_path v (one_value params d xs))) (truth (operators.within v (operand_value params d (call name xs))))
      ≡ truth (in_list_or_path v (cond b (Some (sole (arguments_values docs params xs (d ∷ out)))) None) (value docs params (call name xs) (d ∷ out)))
  in-call v name xs true h = ap (λ (p : Tree). truth (in_path v p)) (one-sole xs h)
  in-call v name xs false h = ap (λ (w : Tree). truth (operators.within v w)) (operand-agrees docs params d out (call name xs) h)

  container-agrees : (v : Tree) (e : Expression) → is_container e ≡ true → contained params d e v ≡ truth (in_list_or_path v (path_pattern docs params e (d ∷ out)) (value docs params e (d ∷ out)))
  container-agrees v (array es) h = ap (λ (b : Bool). Some b) (array-agrees es h v ∙ ap (λ (ts : List Tree). list_any (λ t. equal t v) ts) (sym (members-trees (elements_values docs params es (d ∷ out)))))
  container-agrees v (call name xs) h = in-call v name xs (is_path name) h
  container-agrees v e h = ap (λ (w : Tree). truth (operators.within v w)) (operand-agrees docs params d out e h)

  first-second : (xs : Arguments) → are_two xs ≡ true → (f : Tree → Tree → Tree) (g : List Tree → Tree) → ((v w : Tree) → g (v ∷ w ∷ []) ≡ f v w)
      → f (first_value params d xs) (one_value params d (rest_of xs)) ≡ g (arguments_values docs params xs (d ∷ out))
  first-second (more_arguments (argument a) (more_arguments (argument b) no_arguments)) h f g k =
      let p = both-true (is_operand a) (is_operand b && true) h in
      let q = both-true (is_operand b) true p.1 in
      rw (operand-agrees docs params d out a p.0, operand-agrees docs params d out b q.0) (sym (k (value docs params a (d ∷ out)) (value docs params b (d ∷ out))))
  first-second (more_arguments (argument a) (more_arguments (when_argument c b) no_arguments)) h f g k = impossible (both-true (is_operand a) false h).1
  first-second (more_arguments (when_argument c a) (more_arguments y no_arguments)) h f g k = impossible h
  first-second (more_arguments x (more_arguments y (more_arguments z zs))) h f g k = impossible h
  first-second (more_arguments x no_arguments) h f g k = impossible h
  first-second no_arguments h f g k = impossible h

  any-both : (p : List ℕ → Bool) (xs ys : List (List ℕ)) → list_any p (xs ++ ys) ≡ (list_any p xs || list_any p ys)
  any-both p [] ys = refl
  any-both p (x ∷ xs) ys = rw (any-both p xs ys) (or-first (p x) (list_any p xs) (list_any p ys))
    where
      or-first : (a b c : Bool) → (a || (b || c)) ≡ ((a || b) || c)
      or-first true b c = refl
      or-first false b c = refl

  referred-agrees : (xs : Arguments) → are_operands xs ≡ true → some_referred params d xs ≡ list_any (λ t. refers t d) (flat_map targets (arguments_values docs params xs (d ∷ out)))
  referred-agrees no_arguments h = refl
  referred-agrees (more_arguments (argument e) xs) h =
      let p = both-true (is_operand e) (are_operands xs) h in
      rw (operand-agrees docs params d out e p.0, referred-agrees xs p.1)
      (sym (any-both (λ t. refers t d) (targets (value docs params e (d ∷ out))) (flat_map targets (arguments_values docs params xs (d ∷ out)))))
  referred-agrees (more_arguments (when_argument c e) xs) h = absurd (cc)

  some-agrees : (xs : Arguments) → are_some xs ≡ true → some_referred params d xs ≡ list_any (λ t. refers t d) (flat_map targets (arguments_values docs params xs (d ∷ out)))
  some-agrees no_arguments h = absurd (cc)
  some-agrees (more_arguments x xs) h = referred-agrees (more_arguments x xs) h

  count-none : (v : Tree) → truth (count v) ≡ None
  count-none null = refl
  count-none (boolean b) = refl
  count-none (integer n) = refl
  count-none (text s) = refl
  count-none (list ts) = refl
  count-none (object ps) = refl

  size-none : (v : Tree) → truth (size v) ≡ None
  size-none null = refl
  size-none (boolean b) = refl
  size-none (integer n) = refl
  size-none (text s) = refl
  size-none (list ts) = refl
  size-none (object ps) = refl

  of-one : (xs : Arguments) → is_one xs ≡ true → (f : Tree → Option Bool) (g : List Tree → Option Bool) → ((v : Tree) → g (v ∷ []) ≡ f v) → f (one_value params d xs) ≡ g (arguments_values docs params xs (d ∷ out))
  of-one xs h f g k = sym (k (one_value params d xs)) ∙ ap g (one-agrees docs params d out xs h)

  test-agrees : (f : Callee) (a b : Tree) (xs : Arguments) → is_test f xs ≡ true → tested f params d xs ≡ truth (called f a b d (arguments_values docs params xs (d ∷ out)))
  test-agrees (applying (Some Defined)) a b xs h = of-one xs h (λ v. truth (defined v)) (λ vs. truth (called (applying (Some Defined)) a b d vs)) (λ v. refl)
  test-agrees (applying (Some Count)) a b xs h = of-one xs h (λ v. None) (λ vs. truth (called (applying (Some Count)) a b d vs)) count-none
  test-agrees (applying (Some Length)) a b xs h = of-one xs h (λ v. None) (λ vs. truth (called (applying (Some Length)) a b d vs)) size-none
  test-agrees (applying (Some StartsWith)) a b xs h = ap truth (first-second xs h begins (λ vs. called (applying (Some StartsWith)) a b d vs) (λ v w. refl))
  test-agrees referring a b xs h = ap (λ (x : Bool). Some x) (some-agrees xs h)
  test-agrees _ a b xs h = absurd (cc)

  compared-agrees : (rest : Operands) → is_compared rest ≡ true → (v : Tree) → compared params d rest v ≡ truth (run_value docs params rest (d ∷ out) v)
  compared-agrees (more_operands s e no_operands) h v =
      let p = both-true (is_comparison s) (is_operand e) h in
      ap (λ (w : Tree). comparison s v w) (operand-agrees docs params d out e p.1) ∙ comparison-agrees s v (value docs params e (d ∷ out)) p.0
  compared-agrees _ h v = absurd (cc)

  mutual
    pub plain-agrees : (e : Expression) → is_plain e ≡ true → condition_truth params d e ≡ truth (value docs params e (d ∷ out))
    plain-agrees (round e) h = plain-agrees e h
    plain-agrees (run e rest) h =
        either-way (is_plain e && are_junctions rest) (is_operand e && is_compared rest) h
        (λ g. let p = both-true (is_plain e) (are_junctions rest) g in
        cond-true (is_joining rest) (run_truth params d rest (condition_truth params d e)) (compared params d rest (operand_value params d e)) (joining rest p.1)
        ∙ (ap (λ (x : Option Bool). run_truth params d rest x) (plain-agrees e p.0) ∙ run-agrees rest p.1 (value docs params e (d ∷ out))))
        (λ g. let p = both-true (is_operand e) (is_compared rest) g in
        cond-false (is_joining rest) (run_truth params d rest (condition_truth params d e)) (compared params d rest (operand_value params d e)) (comparing rest p.1)
        ∙ (ap (λ (v : Tree). compared params d rest v) (operand-agrees docs params d out e p.0) ∙ compared-agrees rest p.1 (value docs params e (d ∷ out))))
    plain-agrees (prefix signs e) h =
        either-way (all_not signs && is_plain e) (is_negative signs e) h
        (λ g. let p = both-true (all_not signs) (is_plain e) g in
        ap (λ (x : Option Bool). flipped signs x) (plain-agrees e p.1) ∙ flipped-agrees signs (value docs params e (d ∷ out)) p.0)
        (λ g. negative-agrees signs e (condition_truth params d e) (value docs params e (d ∷ out)) g)
    plain-agrees (within e right) h =
        let p = both-true (is_operand e) (is_container right) h in
        ap (λ (v : Tree). contained params d right v) (operand-agrees docs params d out e p.0) ∙ container-agrees (value docs params e (d ∷ out)) right p.1
    plain-agrees (between e from to closed) h =
        let p = both-true (is_operand e) (is_operand from && is_operand to) h in
        let r = both-true (is_operand from) (is_operand to) p.1 in
        rw (operand-agrees docs params d out e p.0, operand-agrees docs params d out from r.0, operand-agrees docs params d out to r.1) refl
    plain-agrees (call name args) h = test-agrees (callee name) (coalesced docs params args (d ∷ out)) (selected docs params args (d ∷ out)) args h
    plain-agrees e h = ap truth (operand-agrees docs params d out e h)

    pub run-agrees : (rest : Operands) → are_junctions rest ≡ true → (v : Tree) → run_truth params d rest (truth v) ≡ truth (run_value docs params rest (d ∷ out) v)
    run-agrees no_operands h v = refl
    run-agrees (more_operands s e rest) h v =
        let p = both-true (is_junction s) (is_plain e && are_junctions rest) h in
        let r = both-true (is_plain e) (are_junctions rest) p.1 in
        ap (λ (x : Option Bool). run_truth params d rest x) (ap (λ (x : Option Bool). junction s (truth v) x) (plain-agrees e r.0) ∙ junction-agrees s v (value docs params e (d ∷ out)) p.0)
        ∙ run-agrees rest r.1 (operated s v (value docs params e (d ∷ out)))
