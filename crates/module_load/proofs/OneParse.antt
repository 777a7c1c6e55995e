-- Bytes spell one module, or there is one fault why they spell none.
use Rattle.std.proofs.Common.{◌≡◌, ℕ, List, Result, Ok, Err, subst}
use Rattle.py_tree.specs.Syntax.{Statements}
use Rattle.py_tree.specs.declared.fault.Fault.{Fault}
use Rattle.py_tree.specs.declared.fault.Stop.{Stop}
use Rattle.py_tree.specs.declared.fault.Stop.TheVariants as stop
use Rattle.py_tree.specs.declared.statement.Module.{Module}
use Rattle.py_lexer.proofs.WholeText as lexing
use Rattle.py_blocks.specs.Blocks.{ModuleAt}
use Rattle.py_blocks.specs.Faults.{Shallow, FaultIn}
use Rattle.py_blocks.proofs.Complete.{at_most_one}
use Rattle.py_blocks.proofs.Answering as blocks
use Rattle.module_load.specs.Preparing.{Forms, FirstFault}
use Rattle.module_load.specs.Parsing.{IsParsed, OnlyParse, Spells, Spoilt, by_text, by_line, by_block}
use Rattle.module_load.proofs.OneState.{one_rows, forms_or_fault, one_first}

one_body : {bytes : List ℕ} {body other : Statements} → Spells bytes body → Spells bytes other → body ≡ other
one_body {body = body} {other = other} a b =
    let read = lexing.one_answer a.lexed b.lexed in
    let lines : a.lines ≡ b.lines = cc in
    let rows : a.rows ≡ b.rows = one_rows (subst (λ ls. Forms ls a.rows) lines a.formed) b.formed in
    at_most_one b.rows body other (subst (λ r. ModuleAt r body) rows a.built) b.built

no_fault : {bytes : List ℕ} {body : Statements} {f : Fault} → Spells bytes body → Spoilt bytes f → ⊥
no_fault a (by_text l) = let read = lexing.one_answer a.lexed l in absurd cc
no_fault a (by_line {lines = lines} {f = f} l d) =
    let read = lexing.one_answer a.lexed l in
    let same : a.lines ≡ lines = cc in
    forms_or_fault (subst (λ ls. Forms ls a.rows) same a.formed) d
no_fault {body = body} a (by_block {lines = lines} {rows = rows} {f = f} l d b) =
    let read = lexing.one_answer a.lexed l in
    let lines_are : a.lines ≡ lines = cc in
    let rows_are : a.rows ≡ rows = one_rows (subst (λ ls. Forms ls a.rows) lines_are a.formed) d in
    blocks.not_both rows f.line f.code body b (subst (λ r. ModuleAt r body) rows_are a.built) (subst Shallow rows_are a.shallow)

one_fault : {bytes : List ℕ} {f g : Fault} → Spoilt bytes f → Spoilt bytes g → f ≡ g
one_fault (by_text {f = f} a) (by_text {f = g} b) = let read = lexing.one_answer a b in cc
one_fault (by_text a) (by_line b d) = let read = lexing.one_answer a b in absurd cc
one_fault (by_text a) (by_block b d e) = let read = lexing.one_answer a b in absurd cc
one_fault (by_line a d) (by_text b) = let read = lexing.one_answer a b in absurd cc
one_fault (by_line {lines = lines} {f = f} a d) (by_line {lines = other} {f = g} b e) =
    let read = lexing.one_answer a b in
    let same : lines ≡ other = cc in
    one_first (subst (λ ls. FirstFault ls f) same d) e
one_fault (by_line {lines = lines} {f = f} a d) (by_block {lines = other} b e w) =
    let read = lexing.one_answer a b in
    let same : lines ≡ other = cc in
    absurd (forms_or_fault e (subst (λ ls. FirstFault ls f) same d))
one_fault (by_block a d e) (by_text b) = let read = lexing.one_answer a b in absurd cc
one_fault (by_block {lines = lines} {rows = rows} a d w) (by_line {lines = other} b e) =
    let read = lexing.one_answer a b in
    let same : lines ≡ other = cc in
    absurd (forms_or_fault (subst (λ ls. Forms ls rows) same d) e)
one_fault (by_block {lines = lines} {rows = rows} {f = f} a d v) (by_block {lines = other} {rows = more} {f = g} b e w) =
    let read = lexing.one_answer a b in
    let lines_are : lines ≡ other = cc in
    let rows_are : rows ≡ more = one_rows (subst (λ ls. Forms ls rows) lines_are d) e in
    let same = blocks.one_fault more f.line g.line f.code g.code (subst (λ r. FaultIn r f.line f.code) rows_are v) w in
    λ i. record { line = same.0 i; code = same.1 i }

pub only : (bytes : List ℕ) (answer : Result Module Stop) → IsParsed bytes answer → OnlyParse bytes answer
only bytes (Ok made) is = ((λ body s. one_body s is), (λ f why. no_fault is why))
only bytes (Err (stop.Fault f)) is = ((λ body s. no_fault s is), (λ g why. one_fault why is))
only bytes (Err (stop.Memory error)) is = tt
