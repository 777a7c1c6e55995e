-- Reading lines one by one.
use Rattle.std.proofs.Common.{◌≡◌, List, [], ◌∷◌, ◌++◌, reverse, Ok, Err, sym, ap, subst, ◌∙◌, append_assoc}
use Rattle.std.proofs.lemmas.List.{append-nil, map-append, reverse-append, reverse-reverse}
use Rattle.py_tree.specs.declared.fault.Fault.{Fault}
use Rattle.py_tree.specs.declared.fault.Stop.{Stop}
use Rattle.py_tree.specs.declared.fault.Stop.TheVariants as stop
use Rattle.py_lexer.specs.declared.token.LogicalLine.{LogicalLine}
use Rattle.py_expr.specs.Forms.{form_of}
use Rattle.py_blocks.specs.declared.form_line.FormLine.{FormLine}
use Rattle.py_blocks.specs.Rows.{Row, row_of, rows_of}
use Rattle.py_blocks.specs.Blocks.{Rows}
use Rattle.module_load.specs.Preparing.{Forms, no_line, a_line, FirstFault, here, later}
use Rattle.module_load.specs.Views.{IsFormed, IsLineFormed}

-- what is known of the lines once those before `left` have their forms
pub record Remains (lines : List LogicalLine) (made : Rows) (left : List LogicalLine) : Type 0 where
  pub formed : (rows : Rows) → Forms left rows → Forms lines (made ++ rows)
  pub spoilt : (f : Fault) → FirstFault left f → FirstFault lines f

pub at_first : (lines turned : List LogicalLine) (forms : List FormLine) → turned ≡ reverse lines → forms ≡ [] → Remains lines (rows_of forms) (reverse turned)
at_first lines turned forms is none =
    let all : reverse turned ≡ lines = ap reverse is ∙ reverse-reverse lines in
    let start : Remains lines [] lines = record { formed = λ rows d. d; spoilt = λ f d. d } in
    subst (λ made. Remains lines (rows_of made) (reverse turned)) (sym none) (subst (Remains lines []) (sym all) start)

-- the line of this turn, and those behind it
pub at_line : (lines : List LogicalLine) (made : Rows) (all left : List LogicalLine) (line : LogicalLine) → all ≡ left ++ line ∷ [] → Remains lines made (reverse all) → Remains lines made (line ∷ reverse left)
at_line lines made all left line is h = subst (Remains lines made) (ap reverse is ∙ reverse-append left (line ∷ [])) h

abbrev row_at : LogicalLine → FormLine → Row
row_at line form = record { indent = line.indent; line = line.line; form = form_of form.form }

pub further : (lines left : List LogicalLine) (line : LogicalLine) (forms new : List FormLine) (form : FormLine) → Remains lines (rows_of forms) (line ∷ left) → IsLineFormed line (Ok form) → new ≡ forms ++ form ∷ [] → Remains lines (rows_of new) left
further lines left line forms new form h so is =
    let last = row_at line form in
    let spelled = so.2 in
    let same : row_of form ≡ last = ap (λ n. record { indent = n; line = form.line; form = form_of form.form }) so.0 ∙ ap (λ n. record { indent = line.indent; line = n; form = form_of form.form }) so.1 in
    let next : rows_of new ≡ rows_of forms ++ last ∷ [] = ap rows_of is ∙ map-append row_of forms (form ∷ []) ∙ ap (λ (r : Row). rows_of forms ++ r ∷ []) same in
    record {
      formed = λ rows d. subst (Forms lines) (sym (append_assoc (rows_of forms) (last ∷ []) rows) ∙ ap (λ (made : Rows). made ++ rows) (sym next)) (h.formed (last ∷ rows) (a_line spelled.0 spelled.1 d));
      spoilt = λ f d. h.spoilt f (later spelled.0 spelled.1 d);
    }

-- a line without a form
pub stopped : (lines left : List LogicalLine) (line : LogicalLine) (made : Rows) (o : Stop) → Remains lines made (line ∷ left) → IsLineFormed line (Err o) → IsFormed lines (Err o)
stopped lines left line made (stop.Fault f) h why = h.spoilt f (here why)
stopped lines left line made (stop.Memory error) h why = tt

-- no line is left
pub whole : (lines left : List LogicalLine) (made : Rows) → left ≡ [] → Remains lines made (reverse left) → Forms lines made
whole lines left made none h = subst (Forms lines) (append-nil made) (h.formed [] (subst (λ ls. Forms (reverse ls) []) (sym none) no_line))
