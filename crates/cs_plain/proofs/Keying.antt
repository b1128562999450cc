-- The keys that are found by the form of a query are those of the filter that the query stands for.
use Rattle.std.proofs.Common.{◌≡◌, List, [], Bool, true, cond, refl, ap, sym, ◌∙◌, Option, Some, None}
use Rattle.std.specs.Prelude.{is_some, unwrap_or}
use Rattle.std.specs.Option.{option_map_or}
use Rattle.cs_value.specs.Tree.{Pairs}
use Rattle.cs_syntax.specs.Expression.{Expression, null_literal, everything, chain, Step, bracket, Steps, no_steps, more_steps}
use Rattle.cs_view.specs.declared.key.Key.{Key}
use Rattle.cs_plain.specs.Plain.{filter_in, filter_alone, listened_filter}
use Rattle.cs_plain.specs.Keyed.{predicate_keys, step_condition, first_condition, query_condition}
use Rattle.cs_plain.proofs.Agree.{impossible}

module _ (params : Pairs) where
  -- the keys of a condition, where one was found
  abbrev of_found : Option Expression → List Key
  of_found o = option_map_or (λ e. predicate_keys e params) o []

  abbrev of_filter : Option Expression → List Key
  of_filter o = predicate_keys (unwrap_or o null_literal) params

  kept-key : (e : Expression) (b : Bool) → is_some (cond b (Some e) None) ≡ true
      → predicate_keys e params ≡ of_filter (cond b (Some e) None)
  kept-key e true h = refl
  kept-key e _ h = impossible h

  step-keyed : (s : Step) → is_some (filter_in s) ≡ true
      → of_found (step_condition s) ≡ of_filter (filter_in s)
  step-keyed (bracket e) h = kept-key e _ h
  step-keyed _ h = impossible h

  steps-keyed : (ss : Steps) → is_some (filter_alone ss) ≡ true
      → of_found (first_condition ss) ≡ of_filter (filter_alone ss)
  steps-keyed no_steps h = impossible h
  steps-keyed (more_steps s no_steps) h = step-keyed s h
  steps-keyed (more_steps s (more_steps t ss)) h = impossible h

  pub query_keyed : (q : Expression) → is_some (listened_filter q) ≡ true
      → of_found (query_condition q) ≡ of_filter (listened_filter q)
  query_keyed everything h = refl
  query_keyed (chain everything ss) h = steps-keyed ss h
  query_keyed (chain _ ss) h = impossible h
  query_keyed _ h = impossible h

  -- a condition that was found has the keys of the filter
  pub some_keyed : (q e : Expression) → is_some (listened_filter q) ≡ true
      → query_condition q ≡ Some e → predicate_keys e params ≡ of_filter (listened_filter q)
  some_keyed q e h is = ap of_found (sym is) ∙ query_keyed q h
