-- The costs of the lines of a script, as far as a run has come.
use Rattle.std.proofs.Common.{◌≡◌, ◌∙◌, ap, sym, refl, subst, ℕ, suc, List, [], ◌∷◌, ◌++◌, take, drop, length, ◌+◌, ◌≤◌, true, ◌&&◌, Option, None, Some, Ok, arith}
use Rattle.std.proofs.lemmas.List.{take-append-drop}
use Rattle.cs_view.proofs.Booleans.{and-left, and-right}
use Rattle.cs_docs.specs.Store.{docs}
use Rattle.cs_docs.specs.declared.docs.Docs.{Docs}
use Rattle.cs_io.specs.Names.{Files, told_bytes, file_bytes}
use Rattle.cs_live.specs.Lives.{are_simple_lives}
use Rattle.cs_machine.specs.Expected.{Task, no_task, play, generate, Start, begins, stops, start_with}
use Rattle.cs_machine.specs.Machine.{state_after}
use Rattle.cs_machine.specs.State.{State, begun}
use Rattle.cs_core.specs.Does.{step_state}
use Rattle.cs_core.specs.Laws.{SimpleLinesKeepLivesSimple}
use Rattle.cs_core.specs.Visits.{CostsAtMost, is_simple_line, line_cost}
use Rattle.cs_run.specs.Script.{ToldStarts}
use Rattle.cs_run.specs.Visits.{are_simple_lines, lines_cost, ScriptCosts, StartCosts, TaskCosts, RunCosts}
use Rattle.cs_run.proofs.Folding.{next_of}

count_on : (n k : ℕ) → n + 1 + k ≡ n + suc k
count_on n k = omega arith

-- one line more
cost_push : (s : State) (n : ℕ) (lines : List (List ℕ)) (line : List ℕ)
    → lines_cost s n (lines ++ line ∷ [])
    ≡ lines_cost s n lines + line_cost (state_after s n lines) (n + length lines) line
cost_push s n [] line =
    let none : n + 0 ≡ n = omega arith in
    let same : line_cost s (n + 0) line ≡ line_cost s n line =
    ap (λ (m : ℕ). line_cost s m line) none in
    omega (arith, same)
cost_push s n (l ∷ lines) line =
    let next = step_state s n l in
    let more = cost_push next (n + 1) lines line in
    let same : line_cost (state_after next (n + 1) lines) (n + 1 + length lines) line
    ≡ line_cost (state_after next (n + 1) lines) (n + suc (length lines)) line =
    ap (λ (m : ℕ). line_cost (state_after next (n + 1) lines) m line)
    (count_on n (length lines)) in
    omega (arith, more, same)

-- the first lines cost no more than all
cost_front : (s : State) (n : ℕ) (xs ys : List (List ℕ))
    → lines_cost s n xs ≤ lines_cost s n (xs ++ ys)
cost_front s n [] ys = omega arith
cost_front s n (x ∷ xs) ys = omega (arith, cost_front (step_state s n x) (n + 1) xs ys)

pub cost_taken : (s : State) (k : ℕ) (lines : List (List ℕ))
    → lines_cost s 1 (take k lines) ≤ lines_cost s 1 lines
cost_taken s k lines =
    subst (λ (ls : List (List ℕ)). lines_cost s 1 (take k lines) ≤ lines_cost s 1 ls)
    (take-append-drop k lines) (cost_front s 1 (take k lines) (drop k lines))

-- the lines in front are simple, and so are those behind
simple_front : (n : ℕ) (xs ys : List (List ℕ)) → are_simple_lines n (xs ++ ys) ≡ true
    → are_simple_lines n xs ≡ true
simple_front n [] ys h = refl
simple_front n (x ∷ xs) ys h =
    ap (λ b. b && are_simple_lines (n + 1) xs)
    (and-left (is_simple_line n x) (are_simple_lines (n + 1) (xs ++ ys)) h)
    ∙ simple_front (n + 1) xs ys
    (and-right (is_simple_line n x) (are_simple_lines (n + 1) (xs ++ ys)) h)

simple_back : (n : ℕ) (xs ys : List (List ℕ)) → are_simple_lines n (xs ++ ys) ≡ true
    → are_simple_lines (n + length xs) ys ≡ true
simple_back n [] ys h =
    let none : n + 0 ≡ n = omega arith in
    ap (λ (m : ℕ). are_simple_lines m ys) none ∙ h
simple_back n (x ∷ xs) ys h =
    ap (λ (m : ℕ). are_simple_lines m ys) (sym (count_on n (length xs)))
    ∙ simple_back (n + 1) xs ys
    (and-right (is_simple_line n x) (are_simple_lines (n + 1) (xs ++ ys)) h)

lives_after : SimpleLinesKeepLivesSimple → (s : State) (n : ℕ) (lines : List (List ℕ))
    → are_simple_lines n lines ≡ true → are_simple_lives s.lives ≡ true
    → are_simple_lives (state_after s n lines).lives ≡ true
lives_after keep s n [] h simple = simple
lives_after keep s n (l ∷ lines) h simple =
    let first = and-left (is_simple_line n l) (are_simple_lines (n + 1) lines) h in
    lives_after keep (step_state s n l) (n + 1) lines
    (and-right (is_simple_line n l) (are_simple_lines (n + 1) lines) h)
    (keep s n l first simple)

-- what was visited behind one line more, in a run whose live queries were simple at first
pub spent_more : SimpleLinesKeepLivesSimple → (s0 s : State) (k number : ℕ)
    (all : List (List ℕ)) (line : List ℕ) (more : List (List ℕ)) (was before after : ℕ)
    → are_simple_lives s0.lives ≡ true → drop k all ≡ line ∷ more
    → s ≡ state_after s0 1 (take k all) → number ≡ k + 1 → are_simple_lines 1 all ≡ true
    → before ≤ was + lines_cost s0 1 (take k all)
    → CostsAtMost (is_simple_line number line) (line_cost s number line) s before after
    → after ≤ was + lines_cost s0 1 (take (suc k) all)
spent_more keep s0 s k number all line more was before after lives drops is at simple low costs =
    let nx = next_of k all line more drops in
    let front = take k all in
    let count : 1 + length front ≡ number = omega (arith, nx.front, at) in
    let parts : are_simple_lines 1 (front ++ drop k all) ≡ true =
    ap (are_simple_lines 1) (take-append-drop k all) ∙ simple in
    let back : are_simple_lines number (line ∷ more) ≡ true =
    ap (λ (m : ℕ). are_simple_lines m (line ∷ more)) (sym count)
    ∙ ap (are_simple_lines (1 + length front)) (sym drops)
    ∙ simple_back 1 front (drop k all) parts in
    let now : are_simple_lives s.lives ≡ true =
    ap (λ (x : State). are_simple_lives x.lives) is
    ∙ lives_after keep s0 1 front (simple_front 1 front (drop k all) parts) lives in
    let spent = costs
    (and-left (is_simple_line number line) (are_simple_lines (number + 1) more) back) now in
    let own : line_cost (state_after s0 1 front) (1 + length front) line
    ≡ line_cost s number line =
    ap (λ (m : ℕ). line_cost (state_after s0 1 front) m line) count
    ∙ ap (λ (x : State). line_cost x number line) (sym is) in
    let sum : lines_cost s0 1 (take (suc k) all)
    ≡ lines_cost s0 1 front + line_cost (state_after s0 1 front) (1 + length front) line =
    ap (lines_cost s0 1) nx.taken ∙ cost_push s0 1 front line in
    omega (arith, spent, low, own, sum)

-- ---- what a whole run costs
-- nothing was visited
start_unvisited : (start : Start) (script : List ℕ) (n : ℕ) → StartCosts start script n n
start_unvisited (begins s) script n = λ simple. omega arith
start_unvisited (stops stop) script n = omega arith

task_unvisited : (task : Task) (files : Files) (n : ℕ) → TaskCosts task files n n
task_unvisited no_task files n = omega arith
task_unvisited (play name script) files n =
    start_unvisited (start_with name files) (file_bytes files script) n
task_unvisited (generate documents) files n = tt

pub unvisited : (task : Task) (files : Option Files) (n : ℕ) → RunCosts task files n n
unvisited task None n = tt
unvisited task (Some files) n = task_unvisited task files n

-- nothing is said of a generated script
pub generated_costs : (documents : ℕ) (files : Option Files) (before after : ℕ)
    → RunCosts (generate documents) files before after
generated_costs documents None before after = tt
generated_costs documents (Some files) before after = tt

-- the script was run from the documents that were loaded
pub played_costs : (name : Option (List ℕ)) (script : List ℕ) (files : Option Files) (d : Docs)
    (before after : ℕ) → ToldStarts (Ok d) name files
    → ScriptCosts (begun (docs d)) (told_bytes files script) before after
    → RunCosts (play name script) files before after
played_costs name script None d before after starts h = tt
played_costs name script (Some files) d before after starts h =
    subst (λ (start : Start). StartCosts start (file_bytes files script) before after)
    (sym starts) h

-- the bytes of the script were told
pub told_costs : (s : State) (left : Option (List ℕ)) (before after : ℕ)
    → ((script : List ℕ) → left ≡ Some script → ScriptCosts s (Some script) before after)
    → ScriptCosts s left before after
told_costs s None before after f = tt
told_costs s (Some script) before after f = f script refl
