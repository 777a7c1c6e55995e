-- Rows and their parts, as the code walks them.
use Rattle.std.proofs.Common.{◌≡◌, ℕ, zero, suc, ◌<◌, ◌≤◌, ◌+◌, Bool, true, false, cond, List, [], ◌∷◌, ◌++◌, length, drop, Some, None, nat_lt, add-one, drop-cons, refl, sym, ap, ◌∙◌, subst, arith}
use Rattle.std.specs.Prelude.{slice_get, slice_index_or}
use Rattle.std.specs.List.{list_all}
use Rattle.std.proofs.lemmas.Bool.Decides.{nat_tests}
use Rattle.std.proofs.lemmas.Grind.{common_steps}
use Rattle.import_graph.specs.declared.rows.DirectImport.{DirectImport}
use Rattle.import_graph.specs.Graph.{Rows, row_of, imports, is_graph}
use Rattle.import_graph.specs.Closure.{reaches, is_cyclic, those, direct_of, reached_of, need_of, cut_from, cut, line_back, cyclic_line}
use Rattle.import_graph.specs.Sets.{is_in, words_for, IsTable}
use Rattle.import_graph.proofs.ByChains.{row_all}
use Rattle.std.proofs.lemmas.List.{get_or_default}
use Rattle.import_graph.proofs.Bools.{and_left, and_right, and_both}
use Rattle.import_graph.proofs.Cuts.{length-cut}

-- the row that is there
pub row_at : (rows : Rows) (m : ℕ) (row : List DirectImport) → slice_get rows m ≡ Some row → row_of rows m ≡ row
row_at [] m row h = absurd cc
row_at (x ∷ rest) zero row h = cc
row_at (x ∷ rest) (suc m) row h = row_at rest m row h

pub named_at : (count : ℕ) (row : List DirectImport) (k : ℕ) (d : DirectImport) → list_all (λ i. nat_lt i.module count) row ≡ true → k < length row → (slice_index_or row k d).module < count
named_at count [] k d all l = absurd (omega arith)
named_at count (i ∷ rest) zero d all l = test i.module (and_left (nat_lt i.module count) _ all)
  where
    test : (n : ℕ) → nat_lt n count ≡ true → n < count
    test n h = grind (arith, nat_tests)
named_at count (i ∷ rest) (suc k) d all l = named_at count rest k d (and_right (nat_lt i.module count) (list_all (λ i. nat_lt i.module count) rest) all) (omega arith)

-- rows whose imports name modules, after the cut
cut_from_all : (test : DirectImport → Bool) (rows : Rows) (from : ℕ) (rest : Rows) → list_all (list_all test) rest ≡ true → list_all (list_all test) (cut_from rows from rest) ≡ true
cut_from_all test rows from [] h = refl
cut_from_all test rows from (row ∷ rest) h =
    and_both (list_all test (cond (is_cyclic rows from) [] row)) (list_all (list_all test) (cut_from rows (suc from) rest))
    (either (is_cyclic rows from) (and_left (list_all test row) _ h))
    (cut_from_all test rows (suc from) rest (and_right (list_all test row) (list_all (list_all test) rest) h))
  where
    either : (b : Bool) → list_all test row ≡ true → list_all test (cond b [] row) ≡ true
    either true h = refl
    either false h = h

of_cut : (rows : Rows) (test : DirectImport → Bool) → list_all (list_all test) rows ≡ true → list_all (list_all test) (cut rows) ≡ true
unfolding cut
of_cut rows test h = cut_from_all test rows zero rows h

pub is_graph-cut : (rows : Rows) → is_graph rows ≡ true → is_graph (cut rows) ≡ true
is_graph-cut rows h = subst (λ (count : ℕ). list_all (list_all (λ i. nat_lt i.module count)) (cut rows) ≡ true) (sym (length-cut rows)) (of_cut rows (λ i. nat_lt i.module (length rows)) h)

-- the rows that are kept, at the start and at each row
pub cut_start : (rows : Rows) → [] ++ cut_from rows 0 (drop 0 rows) ≡ cut rows
unfolding cut
cut_start rows = refl

-- the import at k of a row leads back, or doesn't, or is none
pub line_here : (rows : Rows) (m k : ℕ) (row : List DirectImport) (d : DirectImport) → k < length row → reaches rows (slice_index_or row k d).module m ≡ true → line_back rows m (drop k row) ≡ Some (slice_index_or row k d).line
line_here rows m k row d l h = ap (line_back rows m) (drop-cons row k d l) ∙ ap (λ b. cond b (Some (slice_index_or row k d).line) (line_back rows m (drop (suc k) row))) h

pub line_later : (rows : Rows) (m k : ℕ) (row : List DirectImport) (d : DirectImport) → k < length row → reaches rows (slice_index_or row k d).module m ≡ false → line_back rows m (drop (k + 1) row) ≡ line_back rows m (drop k row)
line_later rows m k row d l h =
    ap (λ (j : ℕ). line_back rows m (drop j row)) (add-one k)
    ∙ sym (ap (line_back rows m) (drop-cons row k d l) ∙ ap (λ b. cond b (Some (slice_index_or row k d).line) (line_back rows m (drop (suc k) row))) h)

pub line_none : (rows : Rows) (m k : ℕ) (row : List DirectImport) → length row ≤ k → line_back rows m (drop k row) ≡ None
line_none rows m k row l = ap (line_back rows m) (nothing_left row k l)
  where
    nothing_left : (row : List DirectImport) (k : ℕ) → length row ≤ k → drop k row ≡ []
    nothing_left row k l = grind (arith, common_steps)

-- two tests that agree below the bound
pub those_same : (f g : ℕ → Bool) (c : ℕ) → ((n : ℕ) → n < c → f n ≡ g n) → those f c ≡ those g c
those_same f g zero h = refl
those_same f g (suc k) h =
    ap (λ xs. xs ++ cond (f k) (k ∷ []) []) (those_same f g k (λ n l. h n (omega arith))) ∙ ap (λ b. those g k ++ cond b (k ∷ []) []) (h k (omega arith))

-- the imports of a row that is there name modules
pub named_row : (rows : Rows) (m count : ℕ) (row : List DirectImport) → is_graph rows ≡ true → slice_get rows m ≡ Some row → count ≡ length rows → list_all (λ i. nat_lt i.module count) row ≡ true
named_row rows m count row all h e =
    subst (λ (k : ℕ). list_all (λ i. nat_lt i.module k) row ≡ true) (sym e)
    (subst (λ (r : List DirectImport). list_all (λ i. nat_lt i.module (length rows)) r ≡ true) (row_at rows m row h) (row_all (length rows) rows m all))

-- the line is that of the row
pub line_of_row : (rows : Rows) (m : ℕ) (row : List DirectImport) → slice_get rows m ≡ Some row → line_back rows m row ≡ cyclic_line rows m
unfolding cyclic_line
line_of_row rows m row h = ap (line_back rows m) (sym (row_at rows m row h))

-- what a table tells of a module and a number
pub table_tells : (test : ℕ → ℕ → Bool) (count : ℕ) (sets : List (List ℕ)) (m n : ℕ) (set : List ℕ) → IsTable test count sets → m < count → n < count → set ≡ slice_index_or sets m set → is_in set n ≡ test m n
table_tells test count sets m n set table l k e = ap (λ (x : List ℕ). is_in x n) (e ∙ get_or_default sets m set [] (omega (arith, l, table.all))) ∙ table.marks m n l k

pub table_room : (test : ℕ → ℕ → Bool) (count : ℕ) (sets : List (List ℕ)) (m : ℕ) (set : List ℕ) → IsTable test count sets → m < count → set ≡ slice_index_or sets m set → length set ≡ words_for count
table_room test count sets m set table l e = ap length (e ∙ get_or_default sets m set [] (omega (arith, l, table.all))) ∙ table.room m l

-- the lists of a table
pub listed_direct : (rows : Rows) (m : ℕ) → those (imports rows m) (length rows) ≡ direct_of rows m
unfolding direct_of
listed_direct rows m = refl

pub listed_reached : (rows : Rows) (m : ℕ) → those (reaches rows m) (length rows) ≡ reached_of rows m
unfolding reached_of
listed_reached rows m = refl

pub listed_need : (rows : Rows) (m : ℕ) → those (reaches (cut rows) m) (length rows) ≡ need_of rows m
unfolding need_of reached_of
listed_need rows m = ap (those (reaches (cut rows) m)) (sym (length-cut rows))

pub listed_is : (test : ℕ → ℕ → Bool) (sets : List (List ℕ)) (m : ℕ) (set : List ℕ) → IsTable test (length sets) sets → m < length sets → set ≡ slice_index_or sets m set → those (is_in set) (length sets) ≡ those (test m) (length sets)
listed_is test sets m set table l e = those_same (is_in set) (test m) (length sets) (λ n k. table_tells test (length sets) sets m n set table l k e)

pub listed_of : (test : ℕ → ℕ → Bool) (count m : ℕ) (sets : List (List ℕ)) (ns : List ℕ) → IsTable test count sets → ((t : ℕ → ℕ → Bool) → IsTable t (length sets) sets → ns ≡ those (t m) (length sets)) → ns ≡ those (test m) count
listed_of test count m sets ns table h = h test (subst (λ (c : ℕ). IsTable test c sets) (sym table.all) table) ∙ ap (those (test m)) table.all

-- the table of the rows after the cut
pub table_of_cut : (rows kept : Rows) (sets slice : List (List ℕ)) → kept ≡ cut rows → slice ≡ sets → IsTable (reaches kept) (length kept) sets → IsTable (reaches (cut rows)) (length rows) slice
table_of_cut rows kept sets slice e f table =
    let of_cut_rows : IsTable (reaches (cut rows)) (length (cut rows)) sets = subst (λ (k : Rows). IsTable (reaches k) (length k) sets) e table in
    let counted : IsTable (reaches (cut rows)) (length rows) sets = subst (λ (c : ℕ). IsTable (reaches (cut rows)) c sets) (length-cut rows) of_cut_rows in
    subst (λ (xs : List (List ℕ)). IsTable (reaches (cut rows)) (length rows) xs) (sym f) counted
