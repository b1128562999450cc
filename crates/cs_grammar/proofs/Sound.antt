-- What is read is spelled so, whatever is read.
use Rattle.std.proofs.Common.{◌≡◌, ℕ, zero, suc, List, arith}
use Rattle.cs_syntax.specs.Expression.{Tok, Expression}
use Rattle.cs_grammar.specs.Reading.{Goal, expr, expr_from, conjunction, cmp, cmp_from, sum, product, run_from, neg_from, pow, pow_from, pre_from, link, base, carets_from, steps_from, arrow_from, bracket_from, pipe_from, keys_from, next_key, args_from, arg_from, next_arg, elements_from, next_element, entries_from, keyed_from, next_entry, got, Oracle, read_goal, read, Reads}
use Rattle.cs_grammar.proofs.Taken.{Sound, IsSound}
use Rattle.cs_grammar.proofs.SoundLevels.{sound_expr, sound_conjunction, sound_cmp, sound_sum, sound_product, sound_pow, sound_link, sound_expr_from, sound_run, sound_cmp_from, sound_neg, sound_pow_from, sound_pre}
use Rattle.cs_grammar.proofs.SoundBases.{sound_base, sound_carets}
use Rattle.cs_grammar.proofs.SoundSteps.{sound_steps, sound_arrow, sound_bracket, sound_pipe, sound_keys, sound_next_key}
use Rattle.cs_grammar.proofs.SoundLists.{sound_args, sound_arg, sound_next_arg, sound_elements, sound_next_element, sound_entries, sound_keyed, sound_next_entry}

-- one step
sound_step : (f : Oracle) → IsSound f →
    (g : Goal) (ts : List Tok) (t : Expression) (r : List Tok) → read_goal f g ts ≡ got t r →
    Sound g ts t r
sound_step f h expr ts t r eq = sound_expr f h ts t r eq
sound_step f h (expr_from e) ts t r eq = sound_expr_from f h e ts t r eq
sound_step f h conjunction ts t r eq = sound_conjunction f h ts t r eq
sound_step f h cmp ts t r eq = sound_cmp f h ts t r eq
sound_step f h (cmp_from e) ts t r eq = sound_cmp_from f h e ts t r eq
sound_step f h sum ts t r eq = sound_sum f h ts t r eq
sound_step f h product ts t r eq = sound_product f h ts t r eq
sound_step f h (run_from l e xs) ts t r eq = sound_run f h l e xs ts t r eq
sound_step f h (neg_from ps) ts t r eq = sound_neg f h ps ts t r eq
sound_step f h pow ts t r eq = sound_pow f h ts t r eq
sound_step f h (pow_from e xs) ts t r eq = sound_pow_from f h e xs ts t r eq
sound_step f h (pre_from ps) ts t r eq = sound_pre f h ps ts t r eq
sound_step f h link ts t r eq = sound_link f h ts t r eq
sound_step f h base ts t r eq = sound_base f h ts t r eq
sound_step f h (carets_from n) ts t r eq = sound_carets f h n ts t r eq
sound_step f h (steps_from e ss) ts t r eq = sound_steps f h e ss ts t r eq
sound_step f h (arrow_from e ss) ts t r eq = sound_arrow f h e ss ts t r eq
sound_step f h (bracket_from e ss) ts t r eq = sound_bracket f h e ss ts t r eq
sound_step f h (pipe_from e ss) ts t r eq = sound_pipe f h e ss ts t r eq
sound_step f h (keys_from e ss w ks) ts t r eq = sound_keys f h e ss w ks ts t r eq
sound_step f h (next_key e ss w ks) ts t r eq = sound_next_key f h e ss w ks ts t r eq
sound_step f h (args_from w xs) ts t r eq = sound_args f h w xs ts t r eq
sound_step f h (arg_from w xs e) ts t r eq = sound_arg f h w xs e ts t r eq
sound_step f h (next_arg w xs) ts t r eq = sound_next_arg f h w xs ts t r eq
sound_step f h (elements_from xs) ts t r eq = sound_elements f h xs ts t r eq
sound_step f h (next_element xs) ts t r eq = sound_next_element f h xs ts t r eq
sound_step f h (entries_from xs) ts t r eq = sound_entries f h xs ts t r eq
sound_step f h (keyed_from xs e) ts t r eq = sound_keyed f h xs e ts t r eq
sound_step f h (next_entry xs) ts t r eq = sound_next_entry f h xs ts t r eq

-- any number of steps
sound : (n : ℕ) (g : Goal) (ts : List Tok) (t : Expression) (r : List Tok) →
    read n g ts ≡ got t r → Sound g ts t r
unfolding read
sound zero g ts t r eq = absurd (cc)
sound (suc n) g ts t r eq = sound_step (read n) (sound n) g ts t r eq

pub reads_sound : {g : Goal} {ts : List Tok} {t : Expression} {r : List Tok} →
    Reads g ts (got t r) → Sound g ts t r
reads_sound {g = g} {ts = ts} {t = t} {r = r} h =
    sound h.given.enough g ts t r (h.given.from h.given.enough (omega arith))
