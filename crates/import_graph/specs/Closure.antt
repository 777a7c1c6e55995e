-- No definition of the language: how reach, need and cyclic are decided for all numbers by functions. The laws of this crate say that
-- they give what specs/Graph.antt defines.
use Rattle.std.specs.Prelude.{ℕ, zero, suc, ◌||◌, ◌&&◌, Bool, List, [], ◌∷◌, ◌++◌, cond, length, Option, Some, None}
use Rattle.import_graph.specs.declared.rows.DirectImport.{DirectImport}
use Rattle.import_graph.specs.Graph.{Rows, row_of, imports}

-- the number of modules
abbrev pub count : Rows → ℕ
count rows = length rows

-- whether a chain leads from m to n by way of modules below k alone
unfoldable pub reaches_below : Rows → ℕ → ℕ → ℕ → Bool
reaches_below rows zero m n = imports rows m n
reaches_below rows (suc k) m n = reaches_below rows k m n || (reaches_below rows k m k && reaches_below rows k k n)

unfoldable pub reaches : Rows → ℕ → ℕ → Bool
reaches rows m n = reaches_below rows (length rows) m n

abbrev pub is_cyclic : Rows → ℕ → Bool
is_cyclic rows m = reaches rows m m

-- the ascending list of the numbers below the bound that pass the test
abbrev pub those : (ℕ → Bool) → ℕ → List ℕ
those test zero = []
those test (suc k) = those test k ++ cond (test k) (k ∷ []) []

unfoldable pub direct_of : Rows → ℕ → List ℕ
direct_of rows m = those (imports rows m) (length rows)

unfoldable pub reached_of : Rows → ℕ → List ℕ
reached_of rows m = those (reaches rows m) (length rows)

-- these rows from the number m on, without those of cyclic modules
abbrev pub cut_from : Rows → ℕ → Rows → Rows
cut_from rows m [] = []
cut_from rows m (row ∷ rest) = cond (is_cyclic rows m) [] row ∷ cut_from rows (suc m) rest

-- the rows in which cyclic modules import nothing
unfoldable pub cut : Rows → Rows
cut rows = cut_from rows zero rows

unfoldable pub need_of : Rows → ℕ → List ℕ
need_of rows m = reached_of (cut rows) m

-- the line of the first of these imports whose module reaches m
abbrev pub line_back : Rows → ℕ → List DirectImport → Option ℕ
line_back rows m [] = None
line_back rows m (i ∷ rest) = cond (reaches rows i.module m) (Some i.line) (line_back rows m rest)

-- the line at which m is refused where it is cyclic
unfoldable pub cyclic_line : Rows → ℕ → Option ℕ
cyclic_line rows m = line_back rows m (row_of rows m)
