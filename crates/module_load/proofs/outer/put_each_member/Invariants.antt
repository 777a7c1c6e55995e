use Rattle.std.proofs.Common.{◌≡◌, ◌++◌, drop}
use Rattle.std.specs.List.{flat_map}
use Rattle.std.specs.Option.{option_copied}
use Rattle.module_load.specs.Outers as rule
use Rattle.module_load.proofs.outer.put_each_member.Given as goal

abbrev pub invariant-loop-import : goal.invariant-loop-import
invariant-loop-import l = l.bindings ++ flat_map (rule.member_bindings (λ _. option_copied l.verdict) l.from) (drop l.import-index l.names) ≡ l.initial.bindings ++ flat_map (rule.member_bindings (λ _. option_copied l.verdict) l.from) l.names
