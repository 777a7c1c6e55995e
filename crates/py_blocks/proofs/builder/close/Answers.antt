use Rattle.std.proofs.Common.{◌≡◌, ◌∷◌, [], IfOk, option_map, refl, sym, ap, subst, ◌∙◌, rules}
use Rattle.py_tree.specs.Joined.{statements_of}
use Rattle.py_blocks.specs.Views.{block_of, frame_of, frames_of}
use Rattle.py_blocks.proofs.Frames.{shorter, close_end, close_leaves, close_goes}
use Rattle.py_blocks.proofs.builder.close.Goals as goal

pub loop-frame-init : goal.loop-frame-init
loop-frame-init c = refl

pub loop-frame-preserved : goal.loop-frame-preserved
loop-frame-preserved c =
    let some : frames_of c.loop-frame.outer ≡ frame_of c.in-Some.frame ∷ frames_of c.take_frame.new.outer = search rules in
    close_goes (frames_of c.loop-frame.outer) (frames_of c.take_frame.new.outer) (frame_of c.in-Some.frame) (block_of c.loop-frame.inner) (block_of c.in-Some-2.block) some
    (ap (option_map block_of) (sym c.in-Some-2.is) ∙ c.in_ok-block.ensures)
    ∙ c.loop-frame.invariant

pub loop-frame-smaller : goal.loop-frame-smaller
loop-frame-smaller c =
    let some : frames_of c.loop-frame.outer ≡ frame_of c.in-Some.frame ∷ frames_of c.take_frame.new.outer = search rules in
    shorter (frames_of c.loop-frame.outer) (frames_of c.take_frame.new.outer) (frame_of c.in-Some.frame) some

pub returns-in_default-2 : goal.returns-in_default-2
returns-in_default-2 c =
    let some : frames_of c.loop-frame.outer ≡ frame_of c.in-Some.frame ∷ frames_of c.take_frame.new.outer = search rules in
    close_leaves (frames_of c.loop-frame.outer) (frames_of c.take_frame.new.outer) (frame_of c.in-Some.frame) (block_of c.loop-frame.inner) some
    (ap (option_map block_of) (sym c.in_default-2.is) ∙ c.in_ok-block.ensures)
    ∙ c.loop-frame.invariant

pub returns : goal.returns
returns c =
    let none : frames_of c.loop-frame.outer ≡ [] = search rules in
    subst (λ y. IfOk c.body_of.result (λ body. option_map statements_of body ≡ y)) (close_end (frames_of c.loop-frame.outer) (block_of c.loop-frame.inner) none ∙ c.loop-frame.invariant) c.body_of.ensures
