-- Bytes prepare to at most one state.
use Rattle.std.proofs.Common.{◌≡◌, ◌≤◌, ◌<◌, ℕ, true, false, List, ◌∷◌, length, Some, None, Ok, Err, inl, inr, refl, sym, ap, subst, ◌∙◌, arith}
use Rattle.std.proofs.lemmas.Bool.{both_ways}
use Rattle.py_tree.specs.Syntax.{Statements}
use Rattle.py_tree.specs.declared.code.Code.{Code}
use Rattle.py_tree.specs.declared.code.Code.TheVariants.{FileTooLarge, MisplacedMarker}
use Rattle.py_tree.specs.declared.fault.Fault.{Fault}
use Rattle.py_lexer.specs.declared.token.LogicalLine.{LogicalLine}
use Rattle.py_lexer.specs.Marker.{IsFirstMarker}
use Rattle.py_lexer.specs.Lexing.{greatest_size, Lexes}
use Rattle.py_lexer.proofs.FirstMarkers.{same_first_marker}
use Rattle.py_lexer.proofs.WholeText as lexing
use Rattle.py_phrases.specs.Grammar.{Tokens}
use Rattle.py_phrases.proofs.Builds.{one_front}
use Rattle.py_expr.specs.Forms.{Form}
use Rattle.py_expr.specs.Lines.{Line}
use Rattle.py_expr.specs.Depth.{form_nesting}
use Rattle.py_expr.specs.LineAnswers.{IsFault, SpellsDeep}
use Rattle.py_expr.proofs.OneForm.{OneFront, one_line}
use Rattle.py_blocks.specs.Blocks.{Rows, row, ModuleAt}
use Rattle.py_blocks.specs.Faults.{Shallow, FaultIn}
use Rattle.py_blocks.proofs.Complete.{at_most_one}
use Rattle.py_blocks.proofs.Answering as blocks
use Rattle.module_load.specs.Sources.{State, plain, faulty, tree}
use Rattle.module_load.specs.Markers.{is_marked}
use Rattle.module_load.specs.Preparing.{fault, Forms, no_line, a_line, FirstFault, here, later, Prepares, too_large, unmarked, bad_text, bad_line, bad_block, misplaced, a_module}

-- ---- the forms of lines

one : OneFront
one k s r q d e y h z h' = let x = one_front y h z h' in record { thing = x.tree; rest = x.rest }

one_form : (s : Tokens) (f g : Form) → Line s f → Line s g → f ≡ g
one_form = one_line one

deep_or_not : (s : Tokens) (f : Form) → Line s f → form_nesting f ≤ 200 → SpellsDeep s → ⊥
deep_or_not s f d few deep =
    let same : deep.form ≡ f = one_form s deep.form f deep.spelled d in
    let over : 200 < form_nesting f = subst (λ g. 200 < form_nesting g) same deep.deep in
    absurd (omega arith)

form_or_fault : (s : Tokens) (line : ℕ) (f : Form) (e : Fault) → Line s f → form_nesting f ≤ 200 → IsFault s line e → ⊥
form_or_fault s line f e d few (inl none) = none.1 f d
form_or_fault s line f e d few (inr deep) = deep_or_not s f d few deep.1

one_line_fault : (s : Tokens) (line : ℕ) (e g : Fault) → IsFault s line e → IsFault s line g → e ≡ g
one_line_fault s line e g (inl a) (inl b) = a.0 ∙ sym b.0
one_line_fault s line e g (inl a) (inr b) = absurd (a.1 b.1.form b.1.spelled)
one_line_fault s line e g (inr a) (inl b) = absurd (b.1 a.1.form a.1.spelled)
one_line_fault s line e g (inr a) (inr b) = a.0 ∙ sym b.0

pub one_rows : {lines : List LogicalLine} {rows other : Rows} → Forms lines rows → Forms lines other → rows ≡ other
one_rows no_line no_line = refl
one_rows (a_line {l = l} {f = f} {rows = rows} s n d) (a_line {f = g} t m e) =
    ap (λ h. row l.indent l.line h ∷ rows) (one_form l.tokens f g s t) ∙ ap (λ more. row l.indent l.line g ∷ more) (one_rows d e)

pub forms_or_fault : {lines : List LogicalLine} {rows : Rows} {e : Fault} → Forms lines rows → FirstFault lines e → ⊥
forms_or_fault no_line why = elim why [ ]
forms_or_fault (a_line {l = l} {f = f} s n d) (here {f = e} why) = form_or_fault l.tokens l.line f e s n why
forms_or_fault (a_line s n d) (later t m e) = forms_or_fault d e

pub one_first : {lines : List LogicalLine} {e g : Fault} → FirstFault lines e → FirstFault lines g → e ≡ g
one_first (here {l = l} {f = e} a) (here {f = g} b) = one_line_fault l.tokens l.line e g a b
one_first (here {l = l} {f = e} a) (later {g = f} s n d) = absurd (form_or_fault l.tokens l.line f e s n a)
one_first (later {l = l} {g = f} s n d) (here {f = e} b) = absurd (form_or_fault l.tokens l.line f e s n b)
one_first (later s n d) (later t m e) = one_first d e

-- ---- the phases, one behind another

data OfModule (n : ℕ) (body : Statements) : State → Type 0 where
  not_in_place : is_marked body ≡ false → OfModule n body (faulty (fault n MisplacedMarker))
  in_place : is_marked body ≡ true → OfModule n body (tree body)

data OfRows (n : ℕ) (rows : Rows) : State → Type 0 where
  no_module : {line : ℕ} {code : Code} → FaultIn rows line code → OfRows n rows (faulty (fault line code))
  of_module : {body : Statements} {s : State} → ModuleAt rows body → Shallow rows → OfModule n body s → OfRows n rows s

data OfLines (n : ℕ) (lines : List LogicalLine) : State → Type 0 where
  no_rows : {f : Fault} → FirstFault lines f → OfLines n lines (faulty f)
  of_rows : {rows : Rows} {s : State} → Forms lines rows → OfRows n rows s → OfLines n lines s

data OfMarked (bytes : List ℕ) (n : ℕ) : State → Type 0 where
  no_lines : {f : Fault} → Lexes bytes (Err f) → OfMarked bytes n (faulty f)
  of_lines : {lines : List LogicalLine} {s : State} → Lexes bytes (Ok lines) → OfLines n lines s → OfMarked bytes n s

data OfFile (bytes : List ℕ) : State → Type 0 where
  no_marker : IsFirstMarker bytes None → OfFile bytes plain
  of_marked : {n : ℕ} {s : State} → IsFirstMarker bytes (Some n) → OfMarked bytes n s → OfFile bytes s

data Phases (bytes : List ℕ) : State → Type 0 where
  no_file : greatest_size < length bytes → Phases bytes (faulty (fault 1 FileTooLarge))
  of_file : {s : State} → length bytes ≤ greatest_size → OfFile bytes s → Phases bytes s

phases : {bytes : List ℕ} {s : State} → Prepares bytes s → Phases bytes s
phases (too_large h) = no_file h
phases (unmarked h m) = of_file h (no_marker m)
phases (bad_text h m l) = of_file h (of_marked m (no_lines l))
phases (bad_line h m l d) = of_file h (of_marked m (of_lines l (no_rows d)))
phases (bad_block h m l d b) = of_file h (of_marked m (of_lines l (of_rows d (no_module b))))
phases (misplaced h m l d b w p) = of_file h (of_marked m (of_lines l (of_rows d (of_module b w (not_in_place p)))))
phases (a_module h m l d b w p) = of_file h (of_marked m (of_lines l (of_rows d (of_module b w (in_place p)))))

one_of_module : {n : ℕ} {body : Statements} {s t : State} → OfModule n body s → OfModule n body t → s ≡ t
one_of_module (not_in_place p) (not_in_place q) = refl
one_of_module {body = body} (not_in_place p) (in_place q) = absurd (both_ways (is_marked body) p q)
one_of_module {body = body} (in_place p) (not_in_place q) = absurd (both_ways (is_marked body) q p)
one_of_module (in_place p) (in_place q) = refl

one_of_rows : {n : ℕ} {rows : Rows} {s t : State} → OfRows n rows s → OfRows n rows t → s ≡ t
one_of_rows {rows = rows} (no_module {line = line} {code = code} a) (no_module {line = other} {code = more} b) =
    let same = blocks.one_fault rows line other code more a b in
    ap (λ k. faulty (fault k code)) same.0 ∙ ap (λ c. faulty (fault other c)) same.1
one_of_rows {rows = rows} (no_module {line = line} {code = code} a) (of_module {body = body} m w p) = absurd (blocks.not_both rows line code body a m w)
one_of_rows {rows = rows} (of_module {body = body} m w p) (no_module {line = line} {code = code} a) = absurd (blocks.not_both rows line code body a m w)
one_of_rows {n = n} {rows = rows} (of_module {body = body} {s = s} m w p) (of_module {body = other} k v q) =
    let same : body ≡ other = at_most_one rows body other m k in
    one_of_module (subst (λ b. OfModule n b s) same p) q

one_of_lines : {n : ℕ} {lines : List LogicalLine} {s t : State} → OfLines n lines s → OfLines n lines t → s ≡ t
one_of_lines (no_rows a) (no_rows b) = ap faulty (one_first a b)
one_of_lines (no_rows a) (of_rows d q) = absurd (forms_or_fault d a)
one_of_lines (of_rows d p) (no_rows b) = absurd (forms_or_fault d b)
one_of_lines {n = n} (of_rows {rows = rows} {s = s} d p) (of_rows {rows = other} e q) =
    let same : rows ≡ other = one_rows d e in
    one_of_rows (subst (λ r. OfRows n r s) same p) q

one_of_marked : {bytes : List ℕ} {n : ℕ} {s t : State} → OfMarked bytes n s → OfMarked bytes n t → s ≡ t
one_of_marked (no_lines {f = f} a) (no_lines {f = g} b) = let same = lexing.one_answer a b in let both : f ≡ g = cc in ap faulty both
one_of_marked (no_lines a) (of_lines b q) = let same = lexing.one_answer a b in absurd cc
one_of_marked (of_lines a p) (no_lines b) = let same = lexing.one_answer a b in absurd cc
one_of_marked {n = n} (of_lines {lines = lines} {s = s} a p) (of_lines {lines = other} b q) =
    let same = lexing.one_answer a b in
    let both : lines ≡ other = cc in
    one_of_lines (subst (λ ls. OfLines n ls s) both p) q

one_of_file : {bytes : List ℕ} {s t : State} → OfFile bytes s → OfFile bytes t → s ≡ t
one_of_file (no_marker a) (no_marker b) = refl
one_of_file {bytes = bytes} (no_marker a) (of_marked {n = n} b q) = let same = same_first_marker bytes None (Some n) a b in absurd cc
one_of_file {bytes = bytes} (of_marked {n = n} a p) (no_marker b) = let same = same_first_marker bytes (Some n) None a b in absurd cc
one_of_file {bytes = bytes} (of_marked {n = n} {s = s} a p) (of_marked {n = m} b q) =
    let same = same_first_marker bytes (Some n) (Some m) a b in
    let both : n ≡ m = cc in
    one_of_marked (subst (λ k. OfMarked bytes k s) both p) q

one_of_phases : {bytes : List ℕ} {s t : State} → Phases bytes s → Phases bytes t → s ≡ t
one_of_phases (no_file h) (no_file k) = refl
one_of_phases (no_file h) (of_file k q) = absurd (omega (arith, h, k))
one_of_phases (of_file h p) (no_file k) = absurd (omega (arith, h, k))
one_of_phases (of_file h p) (of_file k q) = one_of_file p q

pub one_state : (bytes : List ℕ) (s t : State) → Prepares bytes s → Prepares bytes t → s ≡ t
one_state bytes s t a b = one_of_phases (phases a) (phases b)
