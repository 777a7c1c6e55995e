use Rattle.std.proofs.Common.{◌≡◌, ℕ, List, ◌++◌, codes, string_bytes, IfOk, ap, sym, ◌∙◌, append_assoc}
use Rattle.std.specs.Fmt.{decimal}
use Rattle.std.proofs.lemmas.Result.{IfOk-weaker}
use Rattle.py_tree.specs.Codes.{printed}
use Rattle.strict_top.specs.Reports.{verdict_line}
use Rattle.strict_top.proofs.report.line_of.Goals as goal

-- the same parts, grouped the other way
regrouped : (name text : List ℕ) → codes "module " ++ (name ++ (codes " " ++ (text ++ codes "\n"))) ≡ codes "module " ++ name ++ codes " " ++ text ++ codes "\n"
regrouped name text = sym (simp append_assoc)

refused : (name line code : List ℕ) → codes "module " ++ (name ++ (codes " refused line " ++ (line ++ (codes " " ++ (code ++ codes "\n"))))) ≡ codes "module " ++ name ++ codes " " ++ (codes "refused line " ++ line ++ codes " " ++ code) ++ codes "\n"
refused name line code =
    ap (λ rest. codes "module " ++ (name ++ (codes " refused line " ++ rest))) (sym (append_assoc (line ++ codes " ") code (codes "\n") ∙ append_assoc line (codes " ") (code ++ codes "\n")))
    ∙ regrouped name (codes "refused line " ++ line ++ codes " " ++ code)

pub returns-in-Published : goal.returns-in-Published
returns-in-Published c =
    let name = c.args.name.now in
    let written : IfOk c.format.result (λ line. string_bytes line ≡ codes "module " ++ (name ++ (codes " published " ++ (decimal c.len-count.result ++ codes "\n")))) = c.format.ensures.ok in
    IfOk-weaker c.format.result _ (λ line. string_bytes line ≡ verdict_line name c.args.verdict.now)
    (λ line is. is ∙ regrouped name (codes "published " ++ decimal c.len-count.result) ∙ ap (λ n. codes "module " ++ name ++ codes " " ++ (codes "published " ++ decimal n) ++ codes "\n") c.len-count.ensures
    ∙ ap (verdict_line name) (sym c.in-Published.is)) written

pub returns-in-Plain : goal.returns-in-Plain
returns-in-Plain c =
    let name = c.args.name.now in
    let written : IfOk c.format-in-Plain.result (λ line. string_bytes line ≡ codes "module " ++ (name ++ codes " plain\n")) = c.format-in-Plain.ensures.ok in
    IfOk-weaker c.format-in-Plain.result _ (λ line. string_bytes line ≡ verdict_line name c.args.verdict.now)
    (λ line is. is ∙ regrouped name (codes "plain") ∙ ap (verdict_line name) (sym c.in-Plain.is)) written

pub returns-in-Refused : goal.returns-in-Refused
returns-in-Refused c =
    let name = c.args.name.now in
    let fault = c.in-Refused.fault in
    let written : IfOk c.format-in-Refused.result (λ line. string_bytes line ≡ codes "module " ++ (name ++ (codes " refused line " ++ (decimal fault.line ++ (codes " " ++ (printed fault.code ++ codes "\n")))))) = c.format-in-Refused.ensures.ok in
    IfOk-weaker c.format-in-Refused.result _ (λ line. string_bytes line ≡ verdict_line name c.args.verdict.now)
    (λ line is. is ∙ refused name (decimal fault.line) (printed fault.code) ∙ ap (verdict_line name) (sym c.in-Refused.is)) written
