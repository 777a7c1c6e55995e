use Rattle.std.proofs.Common.{◌≡◌, ◌∷◌, [], IfOk, nat_eq, option_map, true, false, refl, sym, ap, subst, ◌∙◌, rules}
use Rattle.std.proofs.lemmas.Bool.{ne_eqb}
use Rattle.py_blocks.specs.Rows.{row_of}
use Rattle.py_blocks.specs.Views.{block_of, frame_of, frames_of, state_of}
use Rattle.py_blocks.proofs.Frames.{shorter, back_end, back_leaves, back_goes, back_here}
use Rattle.py_blocks.proofs.builder.place_back.Goals as goal

pub loop-inner-init : goal.loop-inner-init
loop-inner-init c = refl

pub returns-in_default : goal.returns-in_default
returns-in_default c =
    let other : nat_eq c.loop-inner.inner.indent c.args.row.indent ≡ false = ne_eqb c.loop-inner.inner.indent c.args.row.indent c.loop-inner-test.true in
    let none : frames_of c.loop-inner.outer ≡ [] = search rules in
    back_end (row_of c.args.row) (frames_of c.loop-inner.outer) (block_of c.loop-inner.inner) none other ∙ c.loop-inner.invariant

pub returns-in_default-2 : goal.returns-in_default-2
returns-in_default-2 c =
    let other : nat_eq c.loop-inner.inner.indent c.args.row.indent ≡ false = ne_eqb c.loop-inner.inner.indent c.args.row.indent c.loop-inner-test.true in
    let some : frames_of c.loop-inner.outer ≡ frame_of c.in-Some.frame ∷ frames_of c.take_frame.new.outer = search rules in
    back_leaves (row_of c.args.row) (frames_of c.loop-inner.outer) (frames_of c.take_frame.new.outer) (frame_of c.in-Some.frame) (block_of c.loop-inner.inner) some other
    (ap (option_map block_of) (sym c.in_default-2.is) ∙ c.in_ok-block.ensures)
    ∙ c.loop-inner.invariant

pub loop-inner-smaller : goal.loop-inner-smaller
loop-inner-smaller c =
    let some : frames_of c.loop-inner.outer ≡ frame_of c.in-Some.frame ∷ frames_of c.take_frame.new.outer = search rules in
    shorter (frames_of c.loop-inner.outer) (frames_of c.take_frame.new.outer) (frame_of c.in-Some.frame) some

pub loop-inner-preserved : goal.loop-inner-preserved
loop-inner-preserved c =
    let other : nat_eq c.loop-inner.inner.indent c.args.row.indent ≡ false = ne_eqb c.loop-inner.inner.indent c.args.row.indent c.loop-inner-test.true in
    let some : frames_of c.loop-inner.outer ≡ frame_of c.in-Some.frame ∷ frames_of c.take_frame.new.outer = search rules in
    back_goes (row_of c.args.row) (frames_of c.loop-inner.outer) (frames_of c.take_frame.new.outer) (frame_of c.in-Some.frame) (block_of c.loop-inner.inner) (block_of c.in-Some-2.block) some other
    (ap (option_map block_of) (sym c.in-Some-2.is) ∙ c.in_ok-block.ensures)
    ∙ c.loop-inner.invariant

pub returns : goal.returns
returns c =
    let same : nat_eq c.loop-inner.inner.indent c.args.row.indent ≡ true = search rules in
    let back = back_here (row_of c.args.row) (frames_of c.loop-inner.outer) (block_of c.loop-inner.inner) same in
    subst (λ y. IfOk c.place_in.result (λ next. option_map state_of next ≡ y)) (back ∙ c.loop-inner.invariant) c.place_in.ensures
