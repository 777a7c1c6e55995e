use Rattle.std.proofs.Common.{◌∙◌, ap, sym, subst, Some, ℕ, ◌<◌, ◌≤◌}
use Rattle.py_values.specs.declared.class_id.ClassId.{ClassId}
use Rattle.symbols.proofs.Reading.{earlier_named, earlier_none}
use Rattle.symbols.proofs.class_list.FoundClasses.earlier_id.Goals as goal

pub returns-then-number-len : goal.returns-then-number-len
returns-then-number-len c = ap (λ (x : ClassId). Some x) c.in_ok-id.ensures ∙ sym (earlier_named c.args.self.now c.args.number (subst (λ (n : ℕ). c.args.number < n) c.len.ensures c.if-number-len.true))

pub returns : goal.returns
returns c = sym (earlier_none c.args.self.now c.args.number (subst (λ (n : ℕ). n ≤ c.args.number) c.len.ensures c.if-number-len.false))
