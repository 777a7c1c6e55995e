-- The code of a body is a block of it.
use Rattle.std.proofs.Common.{◌≡◌, ℕ, ◌+◌, ◌<◌, List, [], ◌∷◌, ◌++◌, length, Option, Some, None, refl, ap, ◌∙◌, subst, arith, append_assoc, length-append}
use Rattle.std.proofs.Math.Seq.{get_or-append_seam}
use Rattle.std.proofs.lemmas.Option.{slice_get-get_or}
use Rattle.py_tree.specs.Syntax.{Text, Statements}
use Rattle.gradual_types.specs.declared.py_type.PyType.{PyType}
use Rattle.py_meaning.specs.Acts.{Raised, Refused, Spent, Flow, On, Returned, Broke, Continued, Run, Gives, Halts, and_then, ◌>>=◌}
use Rattle.py_meaning.specs.Modules.{World, Setting, ModuleText, text_of, functions}
use Rattle.py_meaning.specs.Calls.{Oracle}
use Rattle.py_meaning.specs.Runs.{result_of}
use Rattle.py_meaning.specs.Statements.{exec_all}
use Rattle.py_meaning.specs.Standing.{IsBlockOf}
use Rattle.bytecode.specs.declared.instr.Cell.{Cell}
use Rattle.bytecode.specs.declared.instr.Instr.TheVariants as i
use Rattle.bytecode.specs.Moves.{nothing_open}
use Rattle.bytecode.specs.Blocks.{Config, Over, thrown, Leads, here, Does}
use Rattle.compile_plain.specs.Names.{Names}
use Rattle.compile_plain.specs.Cells.{cell}
use Rattle.compile_plain.specs.Statements.{rows_end, rows_code, outermost, body_code}
use Rattle.compile_plain.proofs.Places.{HasAt, has_front, has_behind, rows_length}
use Rattle.compile_plain.proofs.Comes.{Comes, chain, cell_step, flowing}
use Rattle.compile_plain.proofs.Sites.{site, names_at}
use Rattle.compile_plain.proofs.StatementBlocks.{rows_do}

pub has_all : (cs front : List Cell) → HasAt (front ++ cs) (length front) cs
has_all [] front = tt
has_all (c ∷ cs) front =
    let within : length front < length (front ++ c ∷ cs) = omega (arith, length-append front (c ∷ cs)) in
    let first = slice_get-get_or (front ++ c ∷ cs) (length front) c within ∙ ap Some (get_or-append_seam front c cs c) in
    let n : length (front ++ c ∷ []) ≡ length front + 1 = omega (arith, length-append front (c ∷ [])) in
    let rest = subst (λ l. HasAt l (length (front ++ c ∷ [])) cs) (append_assoc front (c ∷ []) cs) (has_all cs (front ++ c ∷ [])) in
    (first, subst (λ m. HasAt (front ++ c ∷ cs) m cs) n rest)

module _ (c : Setting) (call : Oracle) (code : List Cell) (names : Names) (body : Statements) where
  -- the two cells at the end
  closes : {a : Config} (r : Run Flow) → HasAt code (rows_end names 0 body) (cell (outermost names body).raised i.Nil ∷ (cell (outermost names body).raised (i.Return 0) ∷ []))
      → Comes c call code a (flowing c call code (outermost names body) (rows_end names 0 body) nothing_open) (thrown c (outermost names body).raised nothing_open) r → Leads c call code a (Over (and_then r (result_of c)))
  closes (Gives y On) has d = chain c call code d.by (cell_step c call code has.0 (cell_step c call code has.1.0 here))
  closes (Gives y Broke) has d = chain c call code d.by (cell_step c call code has.0 (cell_step c call code has.1.0 here))
  closes (Gives y Continued) has d = chain c call code d.by (cell_step c call code has.0 (cell_step c call code has.1.0 here))
  closes (Gives y (Returned value)) has d = d.by
  closes (Halts y (Raised e)) has d = d.by
  closes (Halts y (Refused why)) has d = d.by
  closes (Halts y Spent) has d = d.by

pub block_of : (w : World) (m : ℕ) (t : ModuleText) → text_of w m ≡ Some t → length (functions t.tree) ≡ length t.facts.signatures → (class : Option ℕ) (locals : Option (List Text)) (result : PyType) (body : Statements)
    → IsBlockOf (List Cell) Does (site w m class locals result) (λ call. exec_all (site w m class locals result) call None body >>= result_of (site w m class locals result)) (body_code (names_at t class locals) body)
block_of w m t text long class locals result body = record {
  does = λ call fuel s.
      let names = names_at t class locals in
      let code = body_code names body in
      let all = has_all code [] in
      closes (site w m class locals result) call code names body (exec_all (site w m class locals result) call None body s)
      (has_behind code _ (rows_length names (outermost names body) body 0) all)
      (rows_do w m t text long class locals result call fuel code None (outermost names body) body 0 nothing_open s refl (has_front code 0 (rows_code names (outermost names body) 0 body) _ all));
}
