use Rattle.std.proofs.Common.{◌≤◌, subst, sym, drop}
use Rattle.atom_ops.specs.Shared.{shared}
use Rattle.atom_ops.proofs.Shared.{known_is}
use Rattle.atom_ops.proofs.search.shared_at.Goals as goal

pub shared_from-requires-clause-known : goal.shared_from-requires-clause-known
shared_from-requires-clause-known c =
    subst (λ n. n ≤ shared (drop c.args.place c.args.text.now) c.args.part.now) (sym c.known_at-known.ensures)
    (known_is c.args.part.now c.args.text.now c.args.lengths.now c.args.window c.args.place c.requires.behind c.requires.lengths c.requires.window)
