-- The name is a method of the class, or of its base.
use Rattle.std.proofs.Common.{◌∙◌, ◌<◌, ap, sym, subst}
use Rattle.symbols.specs.declared.class.BasePlace.{BasePlace}
use Rattle.symbols.specs.Classes.{base_methods}
use Rattle.symbols.specs.Lineages.{kind_of}
use Rattle.symbols.specs.Words.{among}
use Rattle.symbols.proofs.Descents.{rank, rank_above}
use Rattle.symbols.proofs.Reading.{method_above, method_here, method_nowhere}
use Rattle.symbols.proofs.class_list.FoundClasses.has_method.Goals as goal

pub returns-then-has_name : goal.returns-then-has_name
returns-then-has_name c = method_here c.args.self.now c.loop-next.next c.args.name.now (ap (among c.args.name.now) (sym c.methods_at.ensures) ∙ (sym c.has_name.ensures ∙ c.if-has_name.true)) ∙ c.loop-next.invariant

pub loop-next-smaller : goal.loop-next-smaller
loop-next-smaller c = subst (λ (p : BasePlace). rank p < rank c.loop-next.next) (sym c.above-next.ensures) (rank_above c.args.self.now c.loop-next.next (sym c.is_class.ensures ∙ c.loop-next-test.true))

pub loop-next-preserved : goal.loop-next-preserved
loop-next-preserved c =
    ap (λ (p : BasePlace). among c.args.name.now (base_methods (kind_of c.args.self.now p))) c.above-next.ensures
    ∙ (method_above c.args.self.now c.loop-next.next c.args.name.now (ap (among c.args.name.now) (sym c.methods_at.ensures) ∙ (sym c.has_name.ensures ∙ c.if-has_name.false)) ∙ c.loop-next.invariant)

pub returns : goal.returns
returns c = method_nowhere c.args.self.now c.loop-next.next c.args.name.now (sym c.is_class.ensures ∙ c.loop-next-test.false) ∙ c.loop-next.invariant
