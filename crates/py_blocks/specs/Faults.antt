-- The fault of rows that spell no module.
use Rattle.std.specs.Prelude.{◌≡◌, ◌≤◌, ◌<◌, ◌-◌, ℕ, Bool, true, false, if◌then◌else◌, nat_lt, nat_eq, [], ◌∷◌, ◌++◌, length, take, slice_get, Option, Some, None}
use Rattle.std.specs.List.{list_all, list_any, last_or}
use Rattle.py_tree.specs.Syntax.{Statements}
use Rattle.py_tree.specs.declared.code.Code.{Code}
use Rattle.py_tree.specs.declared.code.Code.TheVariants.{BadIndentation, MisplacedForm, TooDeep}
use Rattle.py_expr.specs.Forms as form
use Rattle.py_expr.specs.Forms.{Form}
use Rattle.py_blocks.specs.Rows.{Row}
use Rattle.py_blocks.specs.Blocks.{Rows, ModuleAt}

-- A row encloses a later one where every row behind it, up to that one, is deeper. Of these rows, the last and those that enclose
-- it, the outermost first.
abbrev pub enclosing : Rows → Rows
enclosing [] = []
enclosing (a ∷ s) = if list_all (λ b. nat_lt a.indent b.indent) s then a ∷ enclosing s else enclosing s

-- the level of the last row: the number of rows that enclose it
abbrev pub level : Rows → ℕ
level rows = length (enclosing rows) - 1

-- no row is past level 100
abbrev pub Shallow : Rows → Type 0
Shallow rows = (n : ℕ) → level (take n rows) ≤ 100

-- some longer list with these first rows spells a module
abbrev pub Begins : Rows → Type 0
Begins rows = (more : Rows) × (body : Statements) × ModuleAt (rows ++ more) body

-- they begin a module, levels counted
abbrev pub Starts : Rows → Type 0
Starts rows = Begins rows × Shallow rows

-- a head whose block stands below it
abbrev pub wants_block : Form → Bool
wants_block (form.Header h None) = true
wants_block f = false

-- whether a row of indentation i may stand behind these rows: the first row is not indented, the one behind a head that wants a
-- block is deeper than the head, and any other is as deep as the last row or as one that encloses it
abbrev pub stands_behind : Option Row → Rows → ℕ → Bool
stands_behind None around i = nat_eq i 0
stands_behind (Some t) around i = if wants_block t.form then nat_lt t.indent i else list_any (λ a. nat_eq a.indent i) around

abbrev pub indent_stands : Rows → ℕ → Bool
indent_stands rows i = stands_behind (last_or None rows) (enclosing rows) i

-- why the row t, with which they begin no module, can't stand behind these rows
pub data Refused (rows : Rows) (t : Row) : Code → Type 0 where
  bad_indentation : indent_stands rows t.indent ≡ false → Refused rows t BadIndentation
  misplaced : indent_stands rows t.indent ≡ true → (Begins (rows ++ t ∷ []) → ⊥) → Refused rows t MisplacedForm
  too_deep : indent_stands rows t.indent ≡ true → Begins (rows ++ t ∷ []) → 100 < level (rows ++ t ∷ []) → Refused rows t TooDeep

-- the fault of rows, as a line and a code
pub data FaultIn (rows : Rows) : ℕ → Code → Type 0 where
  -- the first row with which they begin no module
  at_row : (n : ℕ) {t : Row} {code : Code} → slice_get rows n ≡ Some t → Starts (take n rows) → (Starts (take n rows ++ t ∷ []) → ⊥) → Refused (take n rows) t code → FaultIn rows t.line code
  -- the last row, where all begin a module and are none
  at_end : {t : Row} → last_or None rows ≡ Some t → Starts rows → ((body : Statements) → ModuleAt rows body → ⊥) → FaultIn rows t.line MisplacedForm
