-- One binding on.
use Rattle.std.proofs.Common.{◌≡◌, ◌∙◌, ◌+◌, ◌++◌, ◌∷◌, [], List, take, length, sym, ap, subst, arith, length-append, ℕ}
use Rattle.std.proofs.lemmas.List.{length-take-le, take_more}
use Rattle.symbols.specs.declared.name_map.NameMap.{NameMap}
use Rattle.symbols.specs.declared.outer.OuterBinding.{OuterBinding}
use Rattle.symbols.specs.Places.{AreMembers}
use Rattle.symbols.proofs.ImportedKinds.{members-push}
use Rattle.symbols.proofs.imported.members_of.Goals as goal

pub loop-binding-preserved : goal.loop-binding-preserved
loop-binding-preserved c =
    let i = c.loop-binding.binding-index in
    let bs = c.args.bindings.now in
    let ms = c.loop-binding.members.items in
    let b = c.binding-item.result in
    let more : take (i + 1) bs ≡ take i bs ++ b ∷ [] = take_more bs i b c.loop-binding-test.true ∙ ap (λ (x : OuterBinding). take i bs ++ x ∷ []) (sym c.binding-item.is) in
    let size : length ms ≡ length (take i bs) = c.loop-binding.invariant.count ∙ sym (length-take-le i bs (omega (arith, c.loop-binding-test.true))) in
    record {
      count = rw c.in_ok-push.ensures.items (length-append ms (_ ∷ []) ∙ ap (λ n. n + 1) c.loop-binding.invariant.count);
      all = subst (λ (xs : List OuterBinding). AreMembers xs c.push.new.self.items) (sym more)
          (subst (λ (xs : List (NameMap ℕ)). AreMembers (take i bs ++ b ∷ []) xs) (sym c.in_ok-push.ensures.items) (members-push (take i bs) ms b _ size c.loop-binding.invariant.all c.in_ok-members_in.ensures));
    }
