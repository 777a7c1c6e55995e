use Rattle.std.proofs.Common.{◌≡◌, ◌++◌, drop, map}
use Rattle.symbols.specs.Bindings.{member_binding}
use Rattle.symbols.proofs.bindings.put_each_member.Given as goal

abbrev pub invariant-loop-import : goal.invariant-loop-import
invariant-loop-import l = l.all ++ map (member_binding l.line l.from) (drop l.import-index l.imports) ≡ l.initial.all ++ map (member_binding l.line l.from) l.imports
