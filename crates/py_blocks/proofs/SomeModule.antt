-- Each list of rows has a module or a fault: the machine reads all of them, or stops at one.
use Rattle.std.proofs.Common.{◌≡◌, ◌≤◌, ◌<◌, ◌⊎◌, ℕ, zero, suc, Bool, true, false, [], ◌∷◌, ◌++◌, length, take, slice_get, Option, Some, None, inl, inr, refl, sym, ap, subst, arith}
use Rattle.std.specs.Prelude.{nat_le}
use Rattle.std.specs.List.{last_or}
use Rattle.std.proofs.lemmas.Bool.{leb-true, leb-false}
use Rattle.std.proofs.lemmas.List.{take_all}
use Rattle.py_tree.specs.Syntax.{Statements}
use Rattle.py_tree.specs.declared.code.Code.TheVariants.{BadIndentation, MisplacedForm, TooDeep}
use Rattle.py_blocks.specs.Rows.{Row}
use Rattle.py_blocks.specs.Blocks.{Rows}
use Rattle.py_blocks.specs.EveryRows.{HasFault, HasModule}
use Rattle.py_blocks.specs.Machine.{State, admits, finish, start, step}
use Rattle.py_blocks.proofs.Answering.{Read, all_read, end_fault, fault_in, indentation_fault, level_fault, place_fault, read_next, read_none}

IsRead : Rows → Type 0
IsRead rows = (st : State) × Read rows st

-- the row at a place below the length, with those before it
row_at : (rows : Rows) (n : ℕ) → n < length rows → (t : Row) × (slice_get rows n ≡ Some t) × (take (suc n) rows ≡ take n rows ++ t ∷ [])
row_at [] n h = absurd (omega (arith, h))
row_at (t ∷ rows) zero h = (t, refl, refl)
row_at (t ∷ rows) (suc n) h = let found = row_at rows n (omega (arith, h)) in (found.0, found.1, ap (λ s. t ∷ s) found.2)

next : (rows : Rows) (n : ℕ) (t : Row) (st : State) → slice_get rows n ≡ Some t → take (suc n) rows ≡ take n rows ++ t ∷ [] → Read (take n rows) st → IsRead (take (suc n) rows) ⊎ HasFault rows
unfolding IsRead
next rows n t st get all read = by (admits st t.indent) (step st t) refl refl where
  within : (to : State) (b : Bool) → admits st t.indent ≡ true → step st t ≡ Some to → nat_le (length to.outer) 100 ≡ b → IsRead (take (suc n) rows) ⊎ HasFault rows
  within to true h e d = inl (to, subst (λ s. Read s to) (sym all) (read_next (take n rows) t st to read e (leb-true _ _ d)))
  within to false h e d = inr (t.line, TooDeep, fault_in rows n t TooDeep get (level_fault (take n rows) t st to read h e (leb-false _ _ d)))

  by : (b : Bool) (o : Option State) → admits st t.indent ≡ b → step st t ≡ o → IsRead (take (suc n) rows) ⊎ HasFault rows
  by false o h e = inr (t.line, BadIndentation, fault_in rows n t BadIndentation get (indentation_fault (take n rows) t st read h))
  by true None h e = inr (t.line, MisplacedForm, fault_in rows n t MisplacedForm get (place_fault (take n rows) t st read h e))
  by true (Some to) h e = within to (nat_le (length to.outer) 100) h e refl

read_to : (rows : Rows) (n : ℕ) → n ≤ length rows → IsRead (take n rows) ⊎ HasFault rows
unfolding IsRead
read_to rows zero h = inl (start, read_none)
read_to rows (suc n) h = by (read_to rows n (omega (arith, h))) where
  by : IsRead (take n rows) ⊎ HasFault rows → IsRead (take (suc n) rows) ⊎ HasFault rows
  by (inl r) = let at = row_at rows n (omega (arith, h)) in next rows n at.0 r.0 at.1 at.2 r.1
  by (inr f) = inr f

last_of : (t : Row) (rows : Rows) → (u : Row) × (last_or (Some t) rows ≡ Some u)
last_of t [] = (t, refl)
last_of t (u ∷ rows) = last_of u rows

-- no row leaves the machine where it began, which is an end
ended : (st : State) → Read [] st → finish st ≡ None → ⊥
ended st r e = let same : Some start ≡ Some st = r.runs in let at_start : finish start ≡ None = subst (λ z. finish z ≡ None) (let is : st ≡ start = cc in is) e in absurd cc

whole : (rows : Rows) (st : State) → Read rows st → HasModule rows ⊎ HasFault rows
whole rows st r = by (finish st) refl where
  open_end : (rows : Rows) → Read rows st → finish st ≡ None → HasFault rows
  open_end [] r e = absurd (ended st r e)
  open_end (t ∷ rows) r e = let last = last_of t rows in (last.0.line, MisplacedForm, end_fault (t ∷ rows) last.0 st r e last.1)

  by : (o : Option Statements) → finish st ≡ o → HasModule rows ⊎ HasFault rows
  by (Some body) e = let all = all_read rows st body r e in inl (body, all.0, all.1)
  by None e = inr (open_end rows r e)

pub some_module : (rows : Rows) → HasModule rows ⊎ HasFault rows
unfolding IsRead
some_module rows = by (read_to rows (length rows) (omega arith)) where
  by : IsRead (take (length rows) rows) ⊎ HasFault rows → HasModule rows ⊎ HasFault rows
  by (inl r) = whole rows r.0 (subst (λ s. Read s r.0) (take_all (length rows) rows (omega arith)) r.1)
  by (inr f) = inr f
