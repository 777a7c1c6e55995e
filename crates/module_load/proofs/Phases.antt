-- What the phases give together.
use Rattle.std.proofs.Common.{◌≡◌, ◌≤◌, ◌<◌, ◌&&◌, ℕ, true, false, IfOk, List, length, Some, Result, Ok, Err, refl, sym, ap, subst, ◌∙◌}
use Rattle.std.proofs.lemmas.Bool.{and_parts}
use Rattle.py_tree.specs.Syntax.{Statements}
use Rattle.py_tree.specs.Joined.{module_of}
use Rattle.py_tree.specs.Lawful.{lawful}
use Rattle.py_tree.specs.declared.fault.Stop.{Stop}
use Rattle.py_tree.specs.declared.fault.Stop.TheVariants as stop
use Rattle.py_tree.specs.declared.code.Code.TheVariants.{FileTooLarge, MisplacedMarker}
use Rattle.py_tree.specs.declared.statement.Module.{Module}
use Rattle.py_lexer.specs.declared.token.LogicalLine.{LogicalLine}
use Rattle.py_lexer.specs.Lexing as lexing
use Rattle.py_lexer.specs.Lexing.{Lexes, greatest_size}
use Rattle.py_lexer.specs.Literals.{lines_fit, tokens_fit}
use Rattle.py_lexer.specs.Marker.{IsFirstMarker}
use Rattle.py_lexer.proofs.Fitting.{lexed_fit}
use Rattle.py_expr.proofs.Fitting.{form_fits_there}
use Rattle.py_blocks.specs.declared.form_line.FormLine.{FormLine}
use Rattle.py_blocks.specs.Answers.{Lawful, Right}
use Rattle.py_blocks.specs.Blocks.{Rows}
use Rattle.py_blocks.specs.Fits.{forms_fit}
use Rattle.py_blocks.specs.Rows.{rows_of}
use Rattle.module_load.specs.Markers.{is_marked}
use Rattle.module_load.specs.Preparing.{fault, Forms, no_line, a_line, Prepares, too_large, bad_text, bad_line, bad_block, misplaced, a_module}
use Rattle.module_load.specs.Sources.{tree}
use Rattle.module_load.specs.Parsing.{IsParsed, Spells, Spoilt, by_text, by_line, by_block}
use Rattle.module_load.specs.Views.{IsFormed, IsRead}

-- ---- the module that bytes spell

pub no_lines : (bytes : List ℕ) (o : Stop) → lexing.IsSo bytes (Err o) → IsParsed bytes (Err o)
no_lines bytes (stop.Fault f) why = by_text why
no_lines bytes (stop.Memory error) why = tt

pub no_forms : (bytes : List ℕ) (lines : List LogicalLine) (o : Stop) → Lexes bytes (Ok lines) → IsFormed lines (Err o) → IsParsed bytes (Err o)
no_forms bytes lines (stop.Fault f) lexed why = by_line lexed why
no_forms bytes lines (stop.Memory error) lexed why = tt

pub built : (bytes : List ℕ) (lines : List LogicalLine) (forms : List FormLine) (answer : Result Module Stop) → Lexes bytes (Ok lines) → Forms lines (rows_of forms) → Right (rows_of forms) answer → IsParsed bytes answer
built bytes lines forms (Ok made) lexed formed right =
    record { lines = lines; rows = rows_of forms; lexed = lexed; formed = formed; built = right.0; shallow = right.1 }
built bytes lines forms (Err (stop.Fault f)) lexed formed right = by_block lexed formed right
built bytes lines forms (Err (stop.Memory error)) lexed formed right = tt

-- ---- and that it is lawful

pub rows_fit : {lines : List LogicalLine} {rows : Rows} → Forms lines rows → lines_fit lines ≡ true → forms_fit rows ≡ true
rows_fit no_line e = refl
rows_fit (a_line {l = l} {ls = ls} {rows = rows} s n d) e =
    let parts = and_parts (tokens_fit l.tokens) (lines_fit ls) e in
    ap (λ b. b && forms_fit rows) (form_fits_there s parts.0) ∙ rows_fit d parts.1

pub built_lawful : (bytes : List ℕ) (lines : List LogicalLine) (forms : List FormLine) (answer : Result Module Stop) → Lexes bytes (Ok lines) → Forms lines (rows_of forms) → Lawful (rows_of forms) answer → IfOk answer (λ made. lawful (module_of made) ≡ true)
built_lawful bytes lines forms (Ok made) lexed formed h = h.1 (rows_fit formed (lexed_fit lexed))
built_lawful bytes lines forms (Err o) lexed formed h = tt

-- ---- the state of bytes

pub refused_size : (bytes : List ℕ) (o : Stop) → o ≡ stop.Fault (fault 1 FileTooLarge) → greatest_size < length bytes → IsRead bytes (Err o)
refused_size bytes o is h = subst (λ e. IsRead bytes (Err e)) (sym is) (too_large h)

spoilt : (bytes : List ℕ) (n : ℕ) (f : _) → length bytes ≤ greatest_size → IsFirstMarker bytes (Some n) → Spoilt bytes f → IsRead bytes (Err (stop.Fault f))
spoilt bytes n f h m (by_text l) = bad_text h m l
spoilt bytes n f h m (by_line l d) = bad_line h m l d
spoilt bytes n f h m (by_block l d b) = bad_block h m l d b

pub refused_text : (bytes : List ℕ) (n : ℕ) (o : Stop) → length bytes ≤ greatest_size → IsFirstMarker bytes (Some n) → IsParsed bytes (Err o) → IsRead bytes (Err o)
refused_text bytes n (stop.Fault f) h m why = spoilt bytes n f h m why
refused_text bytes n (stop.Memory error) h m why = tt

pub refused_marker : (bytes : List ℕ) (n : ℕ) (body : Statements) (o : Stop) → o ≡ stop.Fault (fault n MisplacedMarker) → length bytes ≤ greatest_size → IsFirstMarker bytes (Some n) → Spells bytes body → is_marked body ≡ false → IsRead bytes (Err o)
refused_marker bytes n body o is h m p e = subst (λ e. IsRead bytes (Err e)) (sym is) (misplaced h m p.lexed p.formed p.built p.shallow e)

pub taken : (bytes : List ℕ) (n : ℕ) (body : Statements) → length bytes ≤ greatest_size → IsFirstMarker bytes (Some n) → Spells bytes body → is_marked body ≡ true → Prepares bytes (tree body)
taken bytes n body h m p e = a_module h m p.lexed p.formed p.built p.shallow e
