-- The name is a slot of the class, or of its base.
use Rattle.std.proofs.Common.{◌∙◌, ◌<◌, ap, sym, subst}
use Rattle.symbols.specs.declared.class.BasePlace.{BasePlace}
use Rattle.symbols.specs.Classes.{base_slots}
use Rattle.symbols.specs.Lineages.{kind_of}
use Rattle.symbols.specs.Words.{among}
use Rattle.symbols.proofs.Descents.{rank, rank_above}
use Rattle.symbols.proofs.Reading.{slot_above, slot_here, slot_nowhere}
use Rattle.symbols.proofs.class_list.FoundClasses.has_slot.Goals as goal

pub returns-then-adds_slot : goal.returns-then-adds_slot
returns-then-adds_slot c = slot_here c.args.self.now c.loop-next.next c.args.name.now (sym c.adds_slot.ensures ∙ c.if-adds_slot.true) ∙ c.loop-next.invariant

pub loop-next-smaller : goal.loop-next-smaller
loop-next-smaller c = subst (λ (p : BasePlace). rank p < rank c.loop-next.next) (sym c.above-next.ensures) (rank_above c.args.self.now c.loop-next.next (sym c.is_class.ensures ∙ c.loop-next-test.true))

pub loop-next-preserved : goal.loop-next-preserved
loop-next-preserved c =
    ap (λ (p : BasePlace). among c.args.name.now (base_slots (kind_of c.args.self.now p))) c.above-next.ensures
    ∙ (slot_above c.args.self.now c.loop-next.next c.args.name.now (sym c.adds_slot.ensures ∙ c.if-adds_slot.false) ∙ c.loop-next.invariant)

pub returns : goal.returns
returns c = slot_nowhere c.args.self.now c.loop-next.next c.args.name.now (sym c.is_class.ensures ∙ c.loop-next-test.false) ∙ c.loop-next.invariant
