-- One binding on.
use Rattle.std.proofs.Common.{rules, ◌≡◌, ◌∙◌, ◌+◌, ◌++◌, ◌∷◌, [], List, take, length, sym, ap, length-append}
use Rattle.std.proofs.lemmas.List.{take_more}
use Rattle.symbols.specs.declared.outer.OuterBinding.{OuterBinding}
use Rattle.symbols.specs.ClassViews.{kinds_in, kinds_of}
use Rattle.symbols.proofs.ImportedKinds.{starts-push, kinds_of-push}
use Rattle.symbols.proofs.imported.starts_of.Goals as goal

pub loop-binding-preserved : goal.loop-binding-preserved
loop-binding-preserved c =
    let i = c.loop-binding.binding-index in
    let bs = c.args.bindings.now in
    let b = c.binding-item.result in
    let more : take (i + 1) bs ≡ take i bs ++ b ∷ [] = take_more bs i b c.loop-binding-test.true ∙ ap (λ (x : OuterBinding). take i bs ++ x ∷ []) (sym c.binding-item.is) in
    let size : length (kinds_of (take (i + 1) bs)) ≡ length (kinds_of (take i bs)) + length (kinds_in b.kind) = ap (λ (x : List OuterBinding). length (kinds_of x)) more ∙ (ap length (kinds_of-push (take i bs) b) ∙ length-append (kinds_of (take i bs)) (kinds_in b.kind)) in
    let sum : c.in_ok-start.start ≡ c.loop-binding.start + length (kinds_in b.kind) = search rules in
    record {
      start = sum ∙ (ap (λ n. n + length (kinds_in b.kind)) c.loop-binding.invariant.start ∙ sym size);
      count = rw c.in_ok-push.ensures.items (length-append c.loop-binding.starts.items (c.loop-binding.start ∷ []) ∙ ap (λ n. n + 1) c.loop-binding.invariant.count);
      begins = starts-push bs i c.loop-binding.starts.items c.push.new.self.items c.loop-binding.start c.in_ok-push.ensures.items c.loop-binding.invariant.start c.loop-binding.invariant.count c.loop-binding.invariant.begins;
    }
