use Rattle.std.proofs.Common.{◌≡◌, nat_eq, ◌∙◌, rules}
use Rattle.std.specs.List.{list_any}
use Rattle.py_blocks.proofs.Frames.{any_frame}
use Rattle.py_blocks.proofs.builder.has_indent.Goals as goal

pub returns : goal.returns
returns c =
    let found : c.any_at.result ≡ list_any (λ f. nat_eq f.block.indent c.args.indent) c.args.outer.now = search rules in
    found ∙ any_frame c.args.outer.now c.args.indent
