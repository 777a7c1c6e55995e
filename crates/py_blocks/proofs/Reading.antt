-- The loop of `build`, over plain variables.
use Rattle.std.proofs.Common.{◌≡◌, ◌≤◌, ℕ, List, [], ◌∷◌, ◌++◌, reverse, take, slice_get, length, Option, Some, None, Result, Ok, Err, refl, sym, ap, subst, ◌∙◌, append_assoc}
use Rattle.std.specs.List.{last_or}
use Rattle.std.proofs.lemmas.List.{reverse-append}
use Rattle.std.proofs.lemmas.Bool.{and_from}
use Rattle.py_tree.specs.Syntax.{end_of_statements}
use Rattle.py_tree.specs.Joined.{module_of}
use Rattle.py_tree.specs.Lawful.{all_stand, module_level}
use Rattle.py_tree.specs.Literals.{statements_fit}
use Rattle.py_tree.specs.declared.code.Code.{Code}
use Rattle.py_tree.specs.declared.code.Code.TheVariants.{BadIndentation, MisplacedForm, TooDeep}
use Rattle.py_tree.specs.declared.fault.Stop.{Stop}
use Rattle.py_tree.specs.declared.fault.Stop.TheVariants.{Fault, Memory}
use Rattle.py_tree.specs.declared.statement.Module.{Module}
use Rattle.py_blocks.specs.Rows.{Row, row_of, rows_of}
use Rattle.py_blocks.specs.Blocks.{Rows}
use Rattle.py_blocks.specs.Faults.{FaultIn}
use Rattle.py_blocks.specs.Answers.{Right, Lawful}
use Rattle.py_blocks.specs.Machine.{State, step, finish, start}
use Rattle.py_blocks.specs.Views.{Stops, ReadsRow}
use Rattle.py_blocks.specs.declared.form_line.FormLine.{FormLine}
use Rattle.py_blocks.proofs.Answering.{Read, read_none, read_next, Faulty, indentation_fault, place_fault, level_fault, fault_in, all_read, end_fault}
use Rattle.py_blocks.proofs.Standing.{module_stands, module_fits}

-- the rows before those that are left, and what is open behind them
pub record SoFar (rows : Rows) (left : List FormLine) (st : State) (line : ℕ) : Type 0 where
  pub before : Rows
  pub join : before ++ rows_of (reverse left) ≡ rows
  pub read : Read before st
  pub last : (t : Row) → last_or None before ≡ Some t → line ≡ t.line

pub at_first : (left : List FormLine) (st : State) (line : ℕ) → st ≡ start → SoFar (rows_of (reverse left)) left st line
at_first left st line s = record {
  before = [];
  join = refl;
  read = subst (Read []) (sym s) read_none;
  last = λ t e. absurd cc;
}

reverse_last : (left : List FormLine) (f : FormLine) → rows_of (reverse (left ++ f ∷ [])) ≡ row_of f ∷ rows_of (reverse left)
reverse_last left f = ap rows_of (reverse-append left (f ∷ []))

last_is : (rows : Rows) (o : Option Row) (t : Row) → last_or o (rows ++ t ∷ []) ≡ Some t
last_is [] o t = refl
last_is (a ∷ rows) o t = last_is rows (Some a) t

pub further : (rows : Rows) (all left : List FormLine) (f : FormLine) (st to : State) (line : ℕ) → SoFar rows all st line → all ≡ left ++ f ∷ []
    → step st (row_of f) ≡ Some to → length to.outer ≤ 100 → SoFar rows left to f.line
further rows all left f st to line s e h deep = record {
  before = s.before ++ row_of f ∷ [];
  join = append_assoc s.before (row_of f ∷ []) (rows_of (reverse left)) ∙ ap (λ r. s.before ++ r) (sym (ap (λ l. rows_of (reverse l)) e ∙ reverse_last left f)) ∙ s.join;
  read = read_next s.before (row_of f) st to s.read h deep;
  last = λ t same. let is : Some (row_of f) ≡ Some t = sym (last_is s.before None (row_of f)) ∙ same in let row : row_of f ≡ t = cc in ap (λ u. u.line) row;
}

stops : (rows : Rows) (t : Row) (st : State) (code : Code) → Read rows st → Stops st t code → Faulty rows t code
stops rows t st BadIndentation r s = indentation_fault rows t st r s
stops rows t st MisplacedForm r s = place_fault rows t st r s.0 s.1
stops rows t st TooDeep r s = level_fault rows t st s.1 r s.0 s.2 s.3
stops rows t st code r s = absurd s

take_before : (before : Rows) (s : Rows) → take (length before) (before ++ s) ≡ before
take_before [] s = refl
take_before (a ∷ before) s = ap (λ r. a ∷ r) (take_before before s)

get_before : (before : Rows) (t : Row) (s : Rows) → slice_get (before ++ t ∷ s) (length before) ≡ Some t
get_before [] t s = refl
get_before (a ∷ before) t s = get_before before t s

faulty_row : (rows before s : Rows) (t : Row) (code : Code) → before ++ t ∷ s ≡ rows → Faulty before t code → FaultIn rows t.line code
faulty_row rows before s t code join faulty =
    subst (λ r. FaultIn r t.line code) join
    (fault_in (before ++ t ∷ s) (length before) t code (get_before before t s) (subst (λ r. Faulty r t code) (sym (take_before before (t ∷ s))) faulty))

pub stopped : (rows : Rows) (all left : List FormLine) (f : FormLine) (st : State) (line at : ℕ) (code : Code) → SoFar rows all st line → all ≡ left ++ f ∷ []
    → at ≡ f.line → Stops st (row_of f) code → FaultIn rows at code
stopped rows all left f st line at code s e same why =
    let join : s.before ++ row_of f ∷ rows_of (reverse left) ≡ rows = ap (λ r. s.before ++ r) (sym (ap (λ l. rows_of (reverse l)) e ∙ reverse_last left f)) ∙ s.join in
    subst (λ n. FaultIn rows n code) (sym same) (faulty_row rows s.before (rows_of (reverse left)) (row_of f) code join (stops s.before (row_of f) st code s.read why))

pub stopped_there : (rows : Rows) (all left : List FormLine) (f : FormLine) (st : State) (line : ℕ) (stop : Stop) → SoFar rows all st line → all ≡ left ++ f ∷ []
    → ReadsRow st (row_of f) (Err stop) → Right rows (Err stop)
stopped_there rows all left f st line (Fault fault) s e why = stopped rows all left f st line fault.line fault.code s e why.0 why.1
stopped_there rows all left f st line (Memory error) s e why = tt

nil_right : (rows : Rows) → rows ++ [] ≡ rows
nil_right [] = refl
nil_right (t ∷ rows) = ap (λ s. t ∷ s) (nil_right rows)

whole : (rows : Rows) (left : List FormLine) (st : State) (line : ℕ) (s : SoFar rows left st line) → left ≡ [] → s.before ≡ rows
whole rows left st line s e = sym (nil_right s.before) ∙ ap (λ l. s.before ++ rows_of (reverse l)) (sym e) ∙ s.join

pub made : (rows : Rows) (left : List FormLine) (st : State) (line : ℕ) (m : Module) → SoFar rows left st line → left ≡ [] → Some (module_of m) ≡ finish st → Right rows (Ok m)
made rows left st line m s e f = all_read rows st (module_of m) (subst (λ r. Read r st) (whole rows left st line s e) s.read) (sym f)

some_last : (a : Row) (rows : Rows) → (t : Row) × (last_or None (a ∷ rows) ≡ Some t)
some_last a [] = (a, refl)
some_last a (b ∷ rows) = let l = some_last b rows in (l.0, l.1)

pub unfinished : (rows : Rows) (left : List FormLine) (st : State) (line : ℕ) → SoFar rows left st line → left ≡ [] → None ≡ finish st → FaultIn rows line MisplacedForm
unfinished rows left st line s e f = go rows (subst (λ r. Read r st) same s.read) (subst (λ r. (t : Row) → last_or None r ≡ Some t → line ≡ t.line) same s.last)
  where
    same : s.before ≡ rows
    same = whole rows left st line s e

    go : (r : Rows) → Read r st → ((t : Row) → last_or None r ≡ Some t → line ≡ t.line) → FaultIn r line MisplacedForm
    go [] read last =
        let e : Some start ≡ Some st = read.runs in
        let is : start ≡ st = cc in
        let no : None ≡ Some end_of_statements = f ∙ ap finish (sym is) in
        absurd cc
    go (a ∷ r) read last =
        let l = some_last a r in
        subst (λ n. FaultIn (a ∷ r) n MisplacedForm) (sym (last l.0 l.1)) (end_fault (a ∷ r) l.0 st read (sym f) l.1)

pub right_lawful : (rows : Rows) (answer : Result Module Stop) → Right rows answer → Lawful rows answer
right_lawful rows (Ok m) right =
    (module_stands rows (module_of m) right.0, λ fit. and_from (all_stand module_level (module_of m)) (statements_fit (module_of m)) (module_stands rows (module_of m) right.0) (module_fits rows (module_of m) right.0 fit))
right_lawful rows (Err stop) right = tt

reverse_reverse : {A : Type 0} (xs : List A) → reverse (reverse xs) ≡ xs
reverse_reverse [] = refl
reverse_reverse (a ∷ xs) = ap reverse (reverse-append (a ∷ []) xs) ∙ reverse-append (reverse xs) (a ∷ []) ∙ ap (λ ys. a ∷ ys) (reverse_reverse xs)

pub right_forms : (forms left : List FormLine) (answer : Result Module Stop) → left ≡ reverse forms → Right (rows_of (reverse left)) answer → Right (rows_of forms) answer
right_forms forms left answer e right = subst (λ fs. Right (rows_of fs) answer) (ap reverse e ∙ reverse_reverse forms) right
