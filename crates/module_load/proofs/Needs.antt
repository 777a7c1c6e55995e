-- Tables of verdicts, and what is known of names.
use Rattle.std.specs.Prelude.{if◌then◌else◌}
use Rattle.std.proofs.Common.{◌≡◌, ◌==◌, ℕ, ◌+◌, ◌<◌, Bool, true, false, cond, List, [], ◌∷◌, ◌++◌, length, take, get_or, Option, Some, None, Bor, refl, sym, ap, ◌∙◌, arith}
use Rattle.std.specs.Arc.{arc_value}
use Rattle.std.specs.List.{find, position}
use Rattle.std.specs.Option.{option_map, option_or}
use Rattle.std.specs.Str.{bytes_eq}
use Rattle.std.proofs.lemmas.List.{take_more}
use Rattle.py_tree.specs.Syntax.{Text}
use Rattle.registry_core.specs.declared.imports.Import.{Import}
use Rattle.module_load.specs.declared.verdict.Verdict.{Verdict}
use Rattle.module_load.specs.Needs.{IsTableOf, in_table, rows_of}
use Rattle.module_load.specs.Right.{decided, decided_of, known_in}
use Rattle.module_load.proofs.NamePlaces.{found_at}

-- ---- one row on

decided_push : (rows : List (Import Verdict)) (row : Import Verdict) (n : ℕ) → decided (rows_of (rows ++ row ∷ [])) n ≡ option_or (decided (rows_of rows) n) (if row.module == n then Some (arc_value row.verdict) else None)
decided_push [] row n = by (row.module == n)
  where
    by : (b : Bool) → option_map (λ (r : ℕ × Verdict). r.1) (cond b (Some (row.module, arc_value row.verdict)) None) ≡ (if b then Some (arc_value row.verdict) else None)
    by true = refl
    by false = refl
decided_push (r ∷ rows) row n = by (r.module == n) (decided_push rows row n)
  where
    by : (b : Bool) → decided (rows_of (rows ++ row ∷ [])) n ≡ option_or (decided (rows_of rows) n) (if row.module == n then Some (arc_value row.verdict) else None)
        → option_map (λ (x : ℕ × Verdict). x.1) (cond b (Some (r.module, arc_value r.verdict)) (find (λ (x : ℕ × Verdict). x.0 == n) (rows_of (rows ++ row ∷ []))))
        ≡ option_or (option_map (λ (x : ℕ × Verdict). x.1) (cond b (Some (r.module, arc_value r.verdict)) (find (λ (x : ℕ × Verdict). x.0 == n) (rows_of rows)))) (if row.module == n then Some (arc_value row.verdict) else None)
    by true rest = refl
    by false rest = rest

pub table_turn : (count : ℕ) (rows : List (Import Verdict)) (k : ℕ) (row : Import Verdict) (old new : List (Option (Bor Verdict))) (v : Verdict) → k < length rows → row ≡ get_or rows k row → v ≡ arc_value row.verdict → length new ≡ length old
    → ((n : ℕ) → in_table new (Some n) ≡ option_or (in_table old (Some n)) (if row.module == n then Some v else None)) → IsTableOf count (take k rows) old → IsTableOf count (take (k + 1) rows) new
table_turn count rows k row old new v lt item is same at before = record {
  all = same ∙ before.all;
  each = λ n within.
      at n ∙ ap (λ o. option_or o (if row.module == n then Some v else None)) (before.each n within)
      ∙ ap (λ x. option_or (decided (rows_of (take k rows)) n) (if row.module == n then Some x else None)) is
      ∙ sym (decided_push (take k rows) row n)
      ∙ ap (λ (r : Import Verdict). decided (rows_of (take k rows ++ r ∷ [])) n) item
      ∙ ap (λ rs. decided (rows_of rs) n) (sym (take_more rows k row lt));
}

-- ---- what is known of names

-- the verdict at the number of a name is what is known of it
pub known_at : (count : ℕ) (rows : List (Import Verdict)) (table : List (Option (Bor Verdict))) (names : List Text) (name : Text) → IsTableOf count rows table → length names ≡ count → in_table table (position (bytes_eq name) names) ≡ known_in names (rows_of rows) name
known_at count rows table names name t many = by (position (bytes_eq name) names) refl
  where
    by : (o : Option ℕ) → position (bytes_eq name) names ≡ o → in_table table o ≡ decided_of (rows_of rows) o
    by None e = refl
    by (Some n) e = t.each n (let lt = (found_at (bytes_eq name) names n e).0 in omega (arith, lt, many))
