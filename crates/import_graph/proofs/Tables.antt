-- Tables of sets: what one round of the closure makes of them.
use Rattle.std.proofs.Common.{◌≡◌, ℕ, ◌<◌, ◌+◌, ◌||◌, ◌&&◌, Bool, List, [], ◌++◌, length, take, drop, add-one, sym, ap, ◌∙◌, subst, arith}
use Rattle.std.specs.Prelude.{slice_index_or}
use Rattle.std.proofs.lemmas.Grind.{common_steps}
use Rattle.import_graph.specs.Graph.{Rows, imports}
use Rattle.import_graph.specs.Closure.{reaches_below, reaches}
use Rattle.import_graph.specs.Sets.{is_in, IsTable, IsPassedOn}

step : (f : ℕ → ℕ → Bool) (count by : ℕ) (from : List ℕ) (old new : List (List ℕ)) → by < count → from ≡ slice_index_or old by [] → IsTable f count old → IsPassedOn by from old new
    → IsTable (λ m n. f m n || (f m by && f by n)) count new
step f count by from old new within source table passed = record {
  all = passed.all ∙ table.all;
  room = λ m l. passed.room m (inside m l) ∙ table.room m l;
  marks = λ m n l k. passed.marks m n (inside m l)
      ∙ ap (λ b. b || (is_in (slice_index_or old m []) by && is_in from n)) (table.marks m n l k)
      ∙ ap (λ b. f m n || (b && is_in from n)) (table.marks m by l within)
      ∙ ap (λ b. f m n || (f m by && b)) (ap (λ (set : List ℕ). is_in set n) source ∙ table.marks by n within k);
}
  where
    inside : (m : ℕ) → m < count → m < length old
    inside m l = omega (arith, table.all)

-- a table of one test is one of another that gives the same
pub table_same : (f g : ℕ → ℕ → Bool) (count : ℕ) (sets : List (List ℕ)) → ((m n : ℕ) → f m n ≡ g m n) → IsTable f count sets → IsTable g count sets
table_same f g count sets same table = record { all = table.all; room = table.room; marks = λ m n l k. table.marks m n l k ∙ same m n }

pub table_first : (rows : Rows) (sets : List (List ℕ)) → IsTable (imports rows) (length rows) sets → IsTable (reaches_below rows 0) (length rows) sets
unfolding reaches_below
table_first rows sets table = table

below_next : (rows : Rows) (k m n : ℕ) → reaches_below rows k m n || (reaches_below rows k m k && reaches_below rows k k n) ≡ reaches_below rows (k + 1) m n
unfolding reaches_below
below_next rows k m n = sym (ap (λ (j : ℕ). reaches_below rows j m n) (add-one k))

pub table_step : (rows : Rows) (by : ℕ) (from : List ℕ) (old new : List (List ℕ)) → by < length rows → from ≡ slice_index_or old by [] → IsTable (reaches_below rows by) (length rows) old → IsPassedOn by from old new
    → IsTable (reaches_below rows (by + 1)) (length rows) new
table_step rows by from old new within source table passed =
    table_same (λ m n. reaches_below rows by m n || (reaches_below rows by m by && reaches_below rows by by n)) (reaches_below rows (by + 1)) (length rows) new (below_next rows by)
    (step (reaches_below rows by) (length rows) by from old new within source table passed)

pub table_last : (rows : Rows) (by : ℕ) (sets : List (List ℕ)) → by ≡ length rows → IsTable (reaches_below rows by) (length rows) sets → IsTable (reaches rows) (length rows) sets
unfolding reaches
table_last rows by sets e table = subst (λ (k : ℕ). IsTable (reaches_below rows k) (length rows) sets) e table

-- a whole slice that was lent
pub lent_whole : (new items : List (List ℕ)) (len : ℕ) → length new ≡ length items → len ≡ length items → take len (new ++ drop (length new) items) ≡ new
lent_whole new items len a b = grind (arith, common_steps)
