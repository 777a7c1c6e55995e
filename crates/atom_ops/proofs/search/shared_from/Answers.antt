use Rattle.std.proofs.Common.{rules, ◌≡◌, ◌≤◌, ◌+◌, sym, ap, ◌∙◌, arith, drop, length}
use Rattle.atom_ops.specs.Shared.{shared}
use Rattle.atom_ops.proofs.Shared.{behind, within_both}
use Rattle.atom_ops.proofs.search.shared_from.Goals as goal

pub split_at-requires-2 : goal.split_at-requires-2
split_at-requires-2 c =
    let within = within_both (drop c.args.place c.args.text.now) c.args.part.now in
    let here : c.args.known ≤ length (drop c.args.place c.args.text.now) = omega (arith, within.0, c.requires.known) in
    search (rules, here)

pub split_at-requires-3 : goal.split_at-requires-3
split_at-requires-3 c = let within = within_both (drop c.args.place c.args.text.now) c.args.part.now in omega (arith, within.1, c.requires.known)

pub overflow_add-result : goal.overflow_add-result
overflow_add-result c =
    let parts : c.shared.result ≡ shared (drop c.args.known (drop c.args.place c.args.text.now)) (drop c.args.known c.args.part.now) = search rules in
    let total = behind (drop c.args.place c.args.text.now) c.args.part.now c.args.known c.requires.known in
    let within = within_both (drop c.args.place c.args.text.now) c.args.part.now in
    let bound : c.args.known + c.shared.result ≤ length c.args.part.now = omega (arith, parts, total, within.1) in
    search (rules, bound)

pub returns-clause-count : goal.returns-clause-count
returns-clause-count c =
    let parts : c.shared.result ≡ shared (drop c.args.known (drop c.args.place c.args.text.now)) (drop c.args.known c.args.part.now) = search rules in
    ap (λ n. c.args.known + n) parts ∙ sym (behind (drop c.args.place c.args.text.now) c.args.part.now c.args.known c.requires.known)

pub returns-clause-within : goal.returns-clause-within
returns-clause-within c =
    let parts : c.shared.result ≡ shared (drop c.args.known (drop c.args.place c.args.text.now)) (drop c.args.known c.args.part.now) = search rules in
    let total = behind (drop c.args.place c.args.text.now) c.args.part.now c.args.known c.requires.known in
    let within = within_both (drop c.args.place c.args.text.now) c.args.part.now in
    let behind_place : length (drop c.args.place c.args.text.now) + c.args.place ≤ length c.args.text.now = search rules in
    omega (arith, parts, total, within.0, behind_place)
