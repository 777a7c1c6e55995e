-- What is decided of the module is what is known under its name.
use Rattle.std.proofs.Common.{◌≡◌, ◌++◌, OnOk, codes, false, sym, subst, ◌∙◌}
use Rattle.std.specs.List.{flat_map}
use Rattle.std.specs.Option.{option_copied}
use Rattle.std.specs.Str.{bytes_eq}
use Rattle.module_load.specs.Outers as rule
use Rattle.module_load.proofs.outer.put_members.Goals as goal

pub returns : goal.returns
returns g c =
    let known = g.K.Known.decisions c.args.known.now in
    let from = c.args.from.now in
    let is : option_copied c.verdict.result ≡ known from = c.verdict.ensures in
    let other : bytes_eq from (codes "__future__") ≡ false = sym c.is_word.ensures ∙ c.if-is_word.false in
    rw other (subst (λ v. OnOk c.put_each_member.result (c.put_each_member.new.bindings ≡ c.args.bindings.now ++ flat_map (rule.member_bindings (λ _. v) from) c.args.names.now)) is c.put_each_member.ensures)
