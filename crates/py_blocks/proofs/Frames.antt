-- The outer blocks as the code keeps them, and the steps of the loops over them.
use Rattle.std.proofs.Common.{◌≡◌, ℕ, Bool, true, false, ◌||◌, List, [], ◌∷◌, ◌++◌, map, reverse, Option, Some, None, Result, Ok, Err, IfOk, option_map, nat_eq, length, ◌<◌, refl, sym, ap, subst, ◌∙◌, arith}
use Rattle.std.specs.List.{list_any}
use Rattle.std.proofs.lemmas.List.{reverse-append, map-append}
use Rattle.py_tree.specs.Syntax as x
use Rattle.py_tree.specs.Syntax.{Statement}
use Rattle.py_tree.specs.Joined.{statement_of, statements_of}
use Rattle.py_tree.specs.declared.statement.Stmt.{Stmt}
use Rattle.py_blocks.specs.Rows.{Row}
use Rattle.py_blocks.specs.Machine as machine
use Rattle.py_blocks.specs.Machine.{onto, and_then, settled, put, place_in, place_back, close, left, body}
use Rattle.py_blocks.specs.Views.{done_of, frame_of, frames_of}
use Rattle.py_blocks.specs.declared.builder.Frame.{Frame}
use Rattle.py_blocks.proofs.Whole.{statements_whole}

pub frame_next : (fs : List Frame) (f : Frame) → frames_of (fs ++ f ∷ []) ≡ frame_of f ∷ frames_of fs
frame_next fs f = ap reverse (map-append frame_of fs (f ∷ [])) ∙ reverse-append (map frame_of fs) (frame_of f ∷ [])

or_false : (p : Bool) → (p || false) ≡ p
or_false true = refl
or_false false = refl

or_swap : (p q : Bool) → (p || q) ≡ (q || p)
or_swap true true = refl
or_swap true false = refl
or_swap false true = refl
or_swap false false = refl

or_over : (p q r : Bool) → ((p || q) || r) ≡ (p || (q || r))
or_over true q r = refl
or_over false q r = refl

any_last : {A : Type 0} (p : A → Bool) (xs : List A) (a : A) → list_any p (xs ++ a ∷ []) ≡ (p a || list_any p xs)
any_last p [] a = refl
any_last p (y ∷ xs) a = ap (λ q. p y || q) (any_last p xs a) ∙ sym (or_over (p y) (p a) (list_any p xs)) ∙ ap (λ q. q || list_any p xs) (or_swap (p y) (p a)) ∙ or_over (p a) (p y) (list_any p xs)

any_reverse : {A : Type 0} (p : A → Bool) (xs : List A) → list_any p (reverse xs) ≡ list_any p xs
any_reverse p [] = refl
any_reverse p (y ∷ xs) = ap (list_any p) (reverse-append (y ∷ []) xs) ∙ any_last p (reverse xs) y ∙ ap (λ q. p y || q) (any_reverse p xs)

any_map : {A B : Type 0} (f : A → B) (p : B → Bool) (xs : List A) → list_any p (map f xs) ≡ list_any (λ a. p (f a)) xs
any_map f p [] = refl
any_map f p (a ∷ xs) = ap (λ q. p (f a) || q) (any_map f p xs)

pub any_frame : (fs : List Frame) (i : ℕ) → list_any (λ f. nat_eq f.block.indent i) fs ≡ list_any (λ f. nat_eq f.block.indent i) (frames_of fs)
any_frame fs i = sym (any_map frame_of (λ f. nat_eq f.block.indent i) fs) ∙ sym (any_reverse (λ f. nat_eq f.block.indent i) (map frame_of fs))

pub whole_body : (done : Option (List Stmt)) (b : machine.Block) → option_map done_of done ≡ settled b.done b.last → option_map statements_of done ≡ body b
whole_body None b e = ap (and_then (λ done. Some (onto done x.end_of_statements))) e
whole_body (Some done) b e = ap Some (sym (statements_whole (map statement_of done))) ∙ ap (and_then (λ all. Some (onto all x.end_of_statements))) e

pub whole_answer : {E : Type 0} (answer : Result (Option (List Stmt)) E) (b : machine.Block) → IfOk answer (λ done. option_map done_of done ≡ settled b.done b.last) → IfOk answer (λ done. option_map statements_of done ≡ body b)
whole_answer (Ok done) b e = whole_body done b e
whole_answer (Err error) b e = tt

pub back_on : (t : Row) (f : machine.Frame) (fs : List machine.Frame) (b c : machine.Block) → nat_eq b.indent t.indent ≡ false → Some c ≡ left f b → place_back t (f ∷ fs) b ≡ place_back t fs c
back_on t f fs b c other e = rw other (go (settled b.done b.last) e)
  where
    go : (all : Option (List Statement)) → Some c ≡ and_then (λ ended. Some (put f.owner ended f.block)) (and_then (λ done. Some (onto done x.end_of_statements)) all)
        → and_then (λ done. place_back t fs (put f.owner (onto done x.end_of_statements) f.block)) all ≡ place_back t fs c
    go None h = absurd cc
    go (Some all) h = let same : c ≡ put f.owner (onto all x.end_of_statements) f.block = cc in ap (place_back t fs) (sym same)

pub back_off : (t : Row) (f : machine.Frame) (fs : List machine.Frame) (b : machine.Block) → nat_eq b.indent t.indent ≡ false → None ≡ left f b → place_back t (f ∷ fs) b ≡ None
back_off t f fs b other e = rw other (go (settled b.done b.last) e)
  where
    go : (all : Option (List Statement)) → None ≡ and_then (λ ended. Some (put f.owner ended f.block)) (and_then (λ done. Some (onto done x.end_of_statements)) all)
        → and_then (λ done. place_back t fs (put f.owner (onto done x.end_of_statements) f.block)) all ≡ None
    go None h = refl
    go (Some all) h = absurd cc

pub close_on : (f : machine.Frame) (fs : List machine.Frame) (b c : machine.Block) → Some c ≡ left f b → close (f ∷ fs) b ≡ close fs c
close_on f fs b c e = go (settled b.done b.last) e
  where
    go : (all : Option (List Statement)) → Some c ≡ and_then (λ ended. Some (put f.owner ended f.block)) (and_then (λ done. Some (onto done x.end_of_statements)) all)
        → and_then (λ done. close fs (put f.owner (onto done x.end_of_statements) f.block)) all ≡ close fs c
    go None h = absurd cc
    go (Some all) h = let same : c ≡ put f.owner (onto all x.end_of_statements) f.block = cc in ap (close fs) (sym same)

pub close_off : (f : machine.Frame) (fs : List machine.Frame) (b : machine.Block) → None ≡ left f b → close (f ∷ fs) b ≡ None
close_off f fs b e = go (settled b.done b.last) e
  where
    go : (all : Option (List Statement)) → None ≡ and_then (λ ended. Some (put f.owner ended f.block)) (and_then (λ done. Some (onto done x.end_of_statements)) all)
        → and_then (λ done. close fs (put f.owner (onto done x.end_of_statements) f.block)) all ≡ None
    go None h = refl
    go (Some all) h = absurd cc

-- ---- in the forms in which the loops' goals stand

pub shorter : {A : Type 0} (fs rest : List A) (f : A) → fs ≡ f ∷ rest → length rest < length fs
shorter fs rest f e = let same : length fs ≡ length (f ∷ rest) = ap length e in omega (arith, same)

pub back_end : (t : Row) (fs : List machine.Frame) (b : machine.Block) → fs ≡ [] → nat_eq b.indent t.indent ≡ false → None ≡ place_back t fs b
back_end t fs b e other = subst (λ y. None ≡ place_back t y b) (sym e) (rw other refl)

pub back_leaves : (t : Row) (fs rest : List machine.Frame) (f : machine.Frame) (b : machine.Block) → fs ≡ f ∷ rest → nat_eq b.indent t.indent ≡ false → None ≡ left f b → None ≡ place_back t fs b
back_leaves t fs rest f b e other none = sym (back_off t f rest b other none) ∙ ap (λ y. place_back t y b) (sym e)

pub back_goes : (t : Row) (fs rest : List machine.Frame) (f : machine.Frame) (b c : machine.Block) → fs ≡ f ∷ rest → nat_eq b.indent t.indent ≡ false → Some c ≡ left f b → place_back t rest c ≡ place_back t fs b
back_goes t fs rest f b c e other some = sym (back_on t f rest b c other some) ∙ ap (λ y. place_back t y b) (sym e)

pub back_here : (t : Row) (fs : List machine.Frame) (b : machine.Block) → nat_eq b.indent t.indent ≡ true → place_in t fs b ≡ place_back t fs b
back_here t [] b e = rw e refl
back_here t (f ∷ fs) b e = rw e refl

pub close_end : (fs : List machine.Frame) (b : machine.Block) → fs ≡ [] → body b ≡ close fs b
close_end fs b e = ap (λ y. close y b) (sym e)

pub close_leaves : (fs rest : List machine.Frame) (f : machine.Frame) (b : machine.Block) → fs ≡ f ∷ rest → None ≡ left f b → None ≡ close fs b
close_leaves fs rest f b e none = sym (close_off f rest b none) ∙ ap (λ y. close y b) (sym e)

pub close_goes : (fs rest : List machine.Frame) (f : machine.Frame) (b c : machine.Block) → fs ≡ f ∷ rest → Some c ≡ left f b → close rest c ≡ close fs b
close_goes fs rest f b c e some = sym (close_on f rest b c some) ∙ ap (λ y. close y b) (sym e)

pub step_below : (st : machine.State) (t : Row) (o : machine.Owner) → st.waiting ≡ Some o → machine.below_head t st.outer st.inner o ≡ machine.step st t
step_below st t o e = ap (machine.place_waiting t st.outer st.inner) (sym e)

pub step_back : (st : machine.State) (t : Row) → st.waiting ≡ None → place_back t st.outer st.inner ≡ machine.step st t
step_back st t e = ap (machine.place_waiting t st.outer st.inner) (sym e)
