-- One class more is visited, and at the end all are.
use Rattle.std.proofs.Common.{◌≡◌, ◌∙◌, ◌<◌, List, ℕ, Bor, length, vec_len, get_or, ap, sym, subst}
use Rattle.std.specs.List.{Contains}
use Rattle.std.proofs.lemmas.List.{length-set, take_all}
use Rattle.std.proofs.lemmas.List.Elements.{Contains-get_or}
use Rattle.symbols.specs.declared.class.BasePlace.TheVariants.{Earlier}
use Rattle.symbols.specs.declared.class_list.FoundClasses.{FoundClasses}
use Rattle.symbols.specs.Lineages.{clash_at}
use Rattle.symbols.proofs.ClassNumbers.{each-step}
use Rattle.symbols.proofs.class_faults.clashes_in.Goals as goal

pub index_mut-requires : goal.index_mut-requires
index_mut-requires c =
    let within : get_or c.args.order.now c.loop-number.number-index 0 < length c.args.classes.now.own = (c.requires.all (get_or c.args.order.now c.loop-number.number-index 0)).1 (Contains-get_or c.args.order.now c.loop-number.number-index 0 c.loop-number-test.true) in
    let room : vec_len c.loop-number.flags ≡ length c.args.classes.now.own = c.loop-number.flags.ok.0 ∙ c.loop-number.invariant.count in
    subst (λ (n : ℕ). get_or c.args.order.now c.loop-number.number-index 0 < n) (sym room) within

pub loop-number-preserved : goal.loop-number-preserved
loop-number-preserved c =
    let i = c.loop-number.number-index in
    let m = get_or c.args.order.now i 0 in
    let flags = c.loop-number.flags.items in
    let own : m < length c.args.classes.now.own = (c.requires.all m).1 (Contains-get_or c.args.order.now i 0 c.loop-number-test.true) in
    let within : m < length flags = subst (λ (n : ℕ). m < n) (sym c.loop-number.invariant.count) own in
    record {
      count = length-set flags m c.in_ok-flags-2.field-0 ∙ c.loop-number.invariant.count;
      classes = ap (λ (b : Bor FoundClasses). b.now) c.in_ok-flags-2.ensures.classes ∙ c.loop-number.invariant.classes;
      args = ap (λ b. b.now) c.in_ok-flags-2.ensures.args ∙ c.loop-number.invariant.args;
      lineage = c.in_ok-flags-2.ensures.lineage;
      each = each-step c.args.classes.now c.args.order.now i flags c.in_ok-flags-2.field-0 c.loop-number-test.true within (c.in_ok-flags-2.ensures.clashes ∙ ap (λ (all : FoundClasses). clash_at all (Earlier m)) c.loop-number.invariant.classes) c.loop-number.invariant.each;
    }

pub returns-clause-each : goal.returns-clause-each
returns-clause-each c = λ number h. c.loop-number.invariant.each number (subst (λ (xs : List ℕ). Contains xs number) (sym (take_all c.loop-number.number-index c.args.order.now c.loop-number-test.false)) ((c.requires.all number).0 h))
