use Rattle.symbols.proofs.class_table.ClassTable.into_found.Goals as goal

pub invariant_of-result : goal.invariant_of-result
invariant_of-result c = record { placed = λ number d e. let p = c.self.invariant.placed number d e in (p.0, rw c.into_kinds.ensures p.1) }
