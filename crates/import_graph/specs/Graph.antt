-- The import graph: each module has a number, from 0, and a row, which is the modules that the imports of its top part name.
use Rattle.std.specs.Prelude.{◌≡◌, ◌↔◌, ℕ, ◌==◌, Bool, true, List, [], ◌∷◌, length, nat_lt, slice_index_or, Option, Some, None}
use Rattle.std.specs.List.{list_all, list_any}
use Rattle.std.specs.List.Sorted.{IsStrictlyIncreasing}
use Rattle.import_graph.specs.declared.rows.DirectImport.{DirectImport}

abbrev pub Rows : Type 0
Rows = List (List DirectImport)

-- what m imports, in the order of the text
abbrev pub row_of : Rows → ℕ → List DirectImport
row_of rows m = slice_index_or rows m []

-- whether each import names a module
abbrev pub is_graph : Rows → Bool
is_graph rows = list_all (list_all (λ i. nat_lt i.module (length rows))) rows

-- whether m imports n
abbrev pub imports : Rows → ℕ → ℕ → Bool
imports rows m n = list_any (λ i. i.module == n) (row_of rows m)

-- a chain of one or more imports leads from m to n
pub data Reaches (rows : Rows) : ℕ → ℕ → Type 0 where
  one_import : (m n : ℕ) → imports rows m n ≡ true → Reaches rows m n
  first_import : (m k n : ℕ) → imports rows m k ≡ true → Reaches rows k n → Reaches rows m n

-- m reaches itself
abbrev pub IsCyclic : Rows → ℕ → Type 0
IsCyclic rows m = Reaches rows m m

-- n is met on a way from m by imports that goes on only through modules that aren't cyclic
pub data Meets (rows : Rows) : ℕ → ℕ → Type 0 where
  meets_import : (m n : ℕ) → imports rows m n ≡ true → Meets rows m n
  meets_through : (m k n : ℕ) → imports rows m k ≡ true → ¬ IsCyclic rows k → Meets rows k n → Meets rows m n

-- m needs n to be decided; a cyclic module needs none
pub record Needs (rows : Rows) (m n : ℕ) : Type 0 where
  pub not_cyclic : ¬ IsCyclic rows m
  pub meets : Meets rows m n

-- the line of the first of these imports whose module reaches m
pub data LeadsBackAt (rows : Rows) (m : ℕ) : List DirectImport → ℕ → Type 0 where
  this_import : (i : DirectImport) (rest : List DirectImport) → Reaches rows i.module m → LeadsBackAt rows m (i ∷ rest) i.line
  later_import : (i : DirectImport) (rest : List DirectImport) (line : ℕ) → ¬ Reaches rows i.module m
      → LeadsBackAt rows m rest line → LeadsBackAt rows m (i ∷ rest) line

-- a cyclic module is refused at that line of its row, and no other at any
abbrev pub IsRefusedAt : Rows → ℕ → Option ℕ → Type 0
IsRefusedAt rows m None = ¬ IsCyclic rows m
IsRefusedAt rows m (Some line) = IsCyclic rows m × LeadsBackAt rows m (row_of rows m) line

-- whether n stands in the list
abbrev pub has : ℕ → List ℕ → Bool
has n ns = list_any (λ k. n == k) ns

-- the ascending list of the numbers of which P holds
pub record IsListOf (P : ℕ → Type 0) (ns : List ℕ) : Type 0 where
  pub ascending : IsStrictlyIncreasing ns
  pub exact : (n : ℕ) → (has n ns ≡ true) ↔ P n
