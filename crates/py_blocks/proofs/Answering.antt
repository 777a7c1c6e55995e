-- What the answers say, over plain variables.
use Rattle.std.proofs.Common.{◌≡◌, ◌<◌, ◌≤◌, ℕ, true, false, [], ◌∷◌, ◌++◌, take, slice_get, length, Option, Some, None, Result, Ok, Err, ◌⊎◌, inl, inr, refl, sym, ap, subst, ◌∙◌, arith}
use Rattle.std.specs.List.{last_or}
use Rattle.std.proofs.lemmas.Bool.{cases_order, both_ways}
use Rattle.py_tree.specs.Syntax.{Statements}
use Rattle.py_tree.specs.Joined.{module_of}
use Rattle.py_tree.specs.declared.code.Code.{Code}
use Rattle.py_tree.specs.declared.code.Code.TheVariants.{BadIndentation, MisplacedForm, TooDeep}
use Rattle.py_tree.specs.declared.fault.Stop.{Stop}
use Rattle.py_tree.specs.declared.fault.Stop.TheVariants.{Fault, Memory}
use Rattle.py_tree.specs.declared.statement.Module.{Module}
use Rattle.py_blocks.specs.Rows.{Row}
use Rattle.py_blocks.specs.Blocks.{Rows, ModuleAt}
use Rattle.py_blocks.specs.Faults.{level, indent_stands, Shallow, Begins, Starts, Refused, bad_indentation, misplaced, too_deep, FaultIn, at_row, at_end}
use Rattle.py_blocks.specs.Answers.{Right, Exact}
use Rattle.py_blocks.specs.Machine.{State, and_then, step, run, finish, start, admits}
use Rattle.py_blocks.proofs.Complete.{reads, at_most_one}
use Rattle.py_blocks.proofs.Begins.{spelled, begun, not_begun, run_append}
use Rattle.py_blocks.proofs.Levels.{Shows, none_yet, shows_next, shows_sorted, stepped, level_is, admits_is}
use Rattle.py_blocks.proofs.Fronts.{nil_right, shallow_none, shallow_next, shallow_whole, starts_front, cut, cut_before}

-- ---- the fault of rows is one, and they spell no module

starts_whole : (rows : Rows) (body : Statements) → ModuleAt rows body → Shallow rows → Starts rows
starts_whole rows body d shallow = (([], body, subst (λ s. ModuleAt s body) (sym (nil_right rows)) d), shallow)

starts_up_to : (rows : Rows) (n : ℕ) (t : Row) → slice_get rows n ≡ Some t → Starts rows → Starts (take n rows ++ t ∷ [])
starts_up_to rows n t e h = let c = cut rows n t e in starts_front (take n rows ++ t ∷ []) c.0 (subst Starts c.1 h)

pub not_both : (rows : Rows) (line : ℕ) (code : Code) (body : Statements) → FaultIn rows line code → ModuleAt rows body → Shallow rows → ⊥
not_both rows line code body (at_row n get h none why) d shallow = none (starts_up_to rows n _ get (starts_whole rows body d shallow))
not_both rows line code body (at_end last h none) d shallow = none body d

refused_once : (rows : Rows) (t : Row) (a b : Code) → Refused rows t a → Refused rows t b → a ≡ b
refused_once rows t a b (bad_indentation e) (bad_indentation f) = refl
refused_once rows t a b (bad_indentation e) (misplaced f g) = absurd (both_ways (indent_stands rows t.indent) e f)
refused_once rows t a b (bad_indentation e) (too_deep f g h) = absurd (both_ways (indent_stands rows t.indent) e f)
refused_once rows t a b (misplaced e g) (bad_indentation f) = absurd (both_ways (indent_stands rows t.indent) f e)
refused_once rows t a b (misplaced e g) (misplaced f h) = refl
refused_once rows t a b (misplaced e g) (too_deep f h l) = absurd (g h)
refused_once rows t a b (too_deep e g h) (bad_indentation f) = absurd (both_ways (indent_stands rows t.indent) f e)
refused_once rows t a b (too_deep e g h) (misplaced f l) = absurd (l g)
refused_once rows t a b (too_deep e g h) (too_deep f k l) = refl

earlier : (rows : Rows) (n k : ℕ) (t : Row) → slice_get rows n ≡ Some t → n < k → Starts (take k rows) → Starts (take n rows ++ t ∷ [])
earlier rows n k t e h starts = let c = cut_before rows n k t e h in starts_front (take n rows ++ t ∷ []) c.0 (subst Starts c.1 starts)

record Row_at (rows : Rows) (n : ℕ) (t : Row) (code : Code) : Type 0 where
  get : slice_get rows n ≡ Some t
  before : Starts (take n rows)
  not_with : Starts (take n rows ++ t ∷ []) → ⊥
  why : Refused (take n rows) t code

one_row : (rows : Rows) (n k : ℕ) (t u : Row) (a b : Code) → Row_at rows n t a → Row_at rows k u b → (t ≡ u) × (a ≡ b)
one_row rows n k t u a b x y = go (cases_order n k)
  where
    go : (n ≡ k) ⊎ ((n < k) ⊎ (k < n)) → (t ≡ u) × (a ≡ b)
    go (inl e) =
        let same : Some t ≡ Some u = sym x.get ∙ ap (slice_get rows) e ∙ y.get in
        let row : t ≡ u = cc in
        (row, refused_once (take k rows) u a b (subst (λ v. Refused (take k rows) v a) row (subst (λ i. Refused (take i rows) t a) e x.why)) y.why)
    go (inr (inl h)) = absurd (x.not_with (earlier rows n k t x.get h y.before))
    go (inr (inr h)) = absurd (y.not_with (earlier rows k n u y.get h x.before))

pub one_fault : (rows : Rows) (line other : ℕ) (a b : Code) → FaultIn rows line a → FaultIn rows other b → (line ≡ other) × (a ≡ b)
one_fault rows line other a b (at_row n {t = t} get h none why) (at_row k {t = u} get' h' none' why') =
    let same = one_row rows n k t u a b (record { get = get; before = h; not_with = none; why = why }) (record { get = get'; before = h'; not_with = none'; why = why' }) in
    (ap (λ v. v.line) same.0, same.1)
one_fault rows line other a b (at_row n {t = t} get h none why) (at_end last h' none') = absurd (none (starts_up_to rows n t get h'))
one_fault rows line other a b (at_end last h none) (at_row k {t = u} get' h' none' why') = absurd (none' (starts_up_to rows k u get' h))
one_fault rows line other a b (at_end {t = t} last h none) (at_end {t = u} last' h' none') =
    let same : Some t ≡ Some u = sym last ∙ last' in
    let row : t ≡ u = cc in
    (ap (λ v. v.line) row, refl)

pub exact : (rows : Rows) (answer : Result Module Stop) → Right rows answer → Exact rows answer
exact rows (Ok made) right = (λ body d shallow. at_most_one rows (module_of made) body right.0 d, λ line code fault. not_both rows line code (module_of made) fault right.0 right.1)
exact rows (Err (Fault f)) right = (λ body d shallow. not_both rows f.line f.code body right d shallow, λ line code fault. one_fault rows f.line line f.code code right fault)
exact rows (Err (Memory error)) right = (λ body d shallow. tt, λ line code fault. tt)

-- ---- what the state knows

pub record Read (rows : Rows) (st : State) : Type 0 where
  pub runs : run rows start ≡ Some st
  pub shows : Shows rows st
  pub shallow : Shallow rows

pub read_none : Read [] start
read_none = record { runs = refl; shows = none_yet; shallow = shallow_none }

runs_next : (rows : Rows) (t : Row) (st : State) (to : Option State) → run rows start ≡ Some st → step st t ≡ to → run (rows ++ t ∷ []) start ≡ to
runs_next rows t st to e f = run_append rows (t ∷ []) start ∙ ap (and_then (run (t ∷ []))) e ∙ go (step st t) ∙ f
  where
    go : (mid : Option State) → and_then (run []) mid ≡ mid
    go None = refl
    go (Some mid) = refl

pub read_next : (rows : Rows) (t : Row) (st to : State) → Read rows st → step st t ≡ Some to → length to.outer ≤ 100 → Read (rows ++ t ∷ []) to
read_next rows t st to r e deep =
    let shows = shows_next t to r.shows e in
    record { runs = runs_next rows t st (Some to) r.runs e; shows = shows; shallow = shallow_next rows t r.shallow (omega (arith, level_is shows)) }

begins_read : (rows : Rows) (st : State) → Read rows st → Starts rows
begins_read rows st r = (begun rows st r.runs, r.shallow)

-- why a row has no place behind the rows that were read
pub record Faulty (rows : Rows) (t : Row) (code : Code) : Type 0 where
  pub before : Starts rows
  pub not_with : Starts (rows ++ t ∷ []) → ⊥
  pub why : Refused rows t code

no_step : (rows : Rows) (t : Row) (st : State) → Read rows st → step st t ≡ None → Begins (rows ++ t ∷ []) → ⊥
no_step rows t st r e = not_begun (rows ++ t ∷ []) (runs_next rows t st None r.runs e)

not_admitted : (t : Row) (st : State) (found : Option State) → ((to : State) → found ≡ Some to → admits st t.indent ≡ true) → admits st t.indent ≡ false → found ≡ None
not_admitted t st None h e = refl
not_admitted t st (Some to) h e = absurd (both_ways (admits st t.indent) e (h to refl))

pub indentation_fault : (rows : Rows) (t : Row) (st : State) → Read rows st → admits st t.indent ≡ false → Faulty rows t BadIndentation
indentation_fault rows t st r e =
    let none = not_admitted t st (step st t) (λ to f. (stepped t st to (shows_sorted r.shows) f).admitted) e in
    record { before = begins_read rows st r; not_with = λ h. no_step rows t st r none h.0; why = bad_indentation (admits_is t.indent r.shows ∙ e) }

pub place_fault : (rows : Rows) (t : Row) (st : State) → Read rows st → admits st t.indent ≡ true → step st t ≡ None → Faulty rows t MisplacedForm
place_fault rows t st r e none =
    record { before = begins_read rows st r; not_with = λ h. no_step rows t st r none h.0; why = misplaced (admits_is t.indent r.shows ∙ e) (no_step rows t st r none) }

pub level_fault : (rows : Rows) (t : Row) (st to : State) → Read rows st → admits st t.indent ≡ true → step st t ≡ Some to → 100 < length to.outer → Faulty rows t TooDeep
level_fault rows t st to r e f deep =
    let shows = shows_next t to r.shows f in
    let over : 100 < level (rows ++ t ∷ []) = omega (arith, level_is shows) in
    record {
      before = begins_read rows st r;
      not_with = λ h. let under = shallow_whole (rows ++ t ∷ []) h.1 in absurd (omega arith);
      why = too_deep (admits_is t.indent r.shows ∙ e) (begun (rows ++ t ∷ []) to (runs_next rows t st (Some to) r.runs f)) over;
    }

pub fault_in : (rows : Rows) (n : ℕ) (t : Row) (code : Code) → slice_get rows n ≡ Some t → Faulty (take n rows) t code → FaultIn rows t.line code
fault_in rows n t code get f = at_row n get f.before f.not_with f.why

-- ---- behind all rows

pub all_read : (rows : Rows) (st : State) (body : Statements) → Read rows st → finish st ≡ Some body → ModuleAt rows body × Shallow rows
all_read rows st body r e = (spelled rows st body r.runs e, r.shallow)

pub end_fault : (rows : Rows) (t : Row) (st : State) → Read rows st → finish st ≡ None → last_or None rows ≡ Some t → FaultIn rows t.line MisplacedForm
end_fault rows t st r e last = at_end last (begins_read rows st r) (λ body d. no_module body (ap (and_then finish) (sym r.runs) ∙ reads rows body d))
  where
    no_module : (body : Statements) → finish st ≡ Some body → ⊥
    no_module body f = let no : None ≡ Some body = sym e ∙ f in absurd cc
