-- How often a number stands in a list.
use Rattle.std.proofs.Common.{◌≡◌, ◌==◌, ℕ, zero, suc, ◌+◌, ◌≤◌, ◌||◌, Bool, true, false, true≢false, cond, List, [], ◌∷◌, length, map, refl, sym, ap, ◌∙◌, arith}
use Rattle.std.specs.Prelude.{count_by}
use Rattle.std.proofs.lemmas.Bool.Decides.{nat_tests}
use Rattle.std.proofs.lemmas.List.Sums.{sum_by-append, sum_by-cons}
use Rattle.import_graph.specs.Graph.{Rows, has}
use Rattle.import_graph.specs.Closure.{those, reaches, reached_of, need_of, cut}
use Rattle.registry_core.specs.declared.imports.Import.{Import}
use Rattle.registry_core.specs.Verdicts.{count_rows}

abbrev one_if : Bool → ℕ
one_if b = cond b 1 0

-- how often it stands there
abbrev pub count_of : ℕ → List ℕ → ℕ
count_of n ns = count_by (λ k. k == n) ns

pub eq_swap : (a b : ℕ) → (a == b) ≡ (b == a)
eq_swap a b = grind (arith, nat_tests)

count-cons : (n k : ℕ) (ns : List ℕ) → count_of n (k ∷ ns) ≡ one_if (k == n) + count_of n ns
count-cons n k ns = sum_by-cons (λ x. one_if (x == n)) k ns

-- one that stands there counts
pub count_some : (n : ℕ) (ns : List ℕ) → has n ns ≡ true → 1 ≤ count_of n ns
count_some n [] h = absurd (true≢false (sym h))
count_some n (k ∷ ns) h = by (n == k) refl h (count_some n ns)
  where
    by : (b : Bool) → (n == k) ≡ b → b || has n ns ≡ true → (has n ns ≡ true → 1 ≤ count_of n ns) → 1 ≤ count_of n (k ∷ ns)
    by true e h rest = omega (arith, count-cons n k ns, ap one_if (eq_swap k n ∙ e))
    by false e h rest = omega (arith, count-cons n k ns, rest h)

pub count_none : (n : ℕ) (ns : List ℕ) → has n ns ≡ false → count_of n ns ≡ 0
count_none n [] h = refl
count_none n (k ∷ ns) h = by (n == k) refl h (count_none n ns)
  where
    by : (b : Bool) → (n == k) ≡ b → b || has n ns ≡ false → (has n ns ≡ false → count_of n ns ≡ 0) → count_of n (k ∷ ns) ≡ 0
    by true e h rest = absurd (true≢false h)
    by false e h rest = omega (arith, count-cons n k ns, ap one_if (eq_swap k n ∙ e), rest h)

one_at_most : (b : Bool) → one_if b ≤ 1
one_at_most true = omega arith
one_at_most false = omega arith

last_count : (b : Bool) (k n : ℕ) → count_of n (cond b (k ∷ []) []) ≤ one_if (k == n)
last_count true k n = omega (arith, count-cons n k [])
last_count false k n = omega arith

count-last : (test : ℕ → Bool) (c n : ℕ) → count_of n (those test (suc c)) ≡ count_of n (those test c) + count_of n (cond (test c) (c ∷ []) [])
count-last test c n = sum_by-append (λ k. one_if (k == n)) (those test c) (cond (test c) (c ∷ []) [])

past_those : (test : ℕ → Bool) (c n : ℕ) → c ≤ n → count_of n (those test c) ≡ 0
past_those test zero n l = refl
past_those test (suc c) n l =
    let no : (c == n) ≡ false = grind (arith, nat_tests) in
    omega (arith, count-last test c n, past_those test c n (omega arith), last_count (test c) c n, ap one_if no)

those_once : (test : ℕ → Bool) (c n : ℕ) → count_of n (those test c) ≤ 1
those_once test zero n = omega arith
those_once test (suc c) n = by (c == n) refl (those_once test c n)
  where
    by : (b : Bool) → (c == n) ≡ b → count_of n (those test c) ≤ 1 → count_of n (those test (suc c)) ≤ 1
    by true e rest =
        let same : c ≡ n = grind (arith, nat_tests) in
        omega (arith, count-last test c n, past_those test c n (omega arith), last_count (test c) c n, one_at_most (c == n))
    by false e rest = omega (arith, count-last test c n, rest, last_count (test c) c n, ap one_if e)

-- a need has each number once
pub need_once : (rows : Rows) (m n : ℕ) → count_of n (need_of rows m) ≤ 1
unfolding need_of reached_of
need_once rows m n = those_once (reaches (cut rows) m) (length (cut rows)) n

pub count_rows-cons : {V : Type 0} (n : ℕ) (row : Import V) (rows : List (Import V)) → count_rows n (row ∷ rows) ≡ one_if (row.module == n) + count_rows n rows
count_rows-cons {V} n row rows = sum_by-cons (λ (x : Import V). one_if (x.module == n)) row rows

count-map : {V : Type 0} (n : ℕ) (rows : List (Import V)) → count_rows n rows ≡ count_of n (map (λ (row : Import V). row.module) rows)
count-map n [] = refl
count-map {V} n (row ∷ rows) = omega (arith, count_rows-cons n row rows, count-cons n row.module (map (λ (x : Import V). x.module) rows), count-map n rows)

-- rows of the modules of a need
pub rows_once : {V : Type 0} (graph : Rows) (m n : ℕ) (rows : List (Import V)) → map (λ (row : Import V). row.module) rows ≡ need_of graph m
    → has n (need_of graph m) ≡ true → count_rows n rows ≡ 1
rows_once graph m n rows e h = omega (arith, count-map n rows, ap (count_of n) e, count_some n (need_of graph m) h, need_once graph m n)

pub rows_none : {V : Type 0} (graph : Rows) (m n : ℕ) (rows : List (Import V)) → map (λ (row : Import V). row.module) rows ≡ need_of graph m
    → has n (need_of graph m) ≡ false → count_rows n rows ≡ 0
rows_none graph m n rows e h = count-map n rows ∙ ap (count_of n) e ∙ count_none n (need_of graph m) h
