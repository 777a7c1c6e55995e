-- A token that is read, and one before which the reading stops.
use Rattle.std.proofs.Common.{◌≡◌, ℕ, zero, suc, ◌≤◌, Bool, true, false, drop, [], ◌∷◌, Option, Some, None, refl, sym, ap, ◌∙◌, arith}
use Rattle.std.proofs.lemmas.Bool.{le-leb, leb-true}
use Rattle.std.specs.Prelude.{nat_le, cond, slice_get}
use Rattle.py_lexer.specs.declared.token.Token.{Token}
use Rattle.py_lexer.specs.declared.token.Token.TheVariants as token
use Rattle.py_lexer.specs.declared.token.Keyword.TheVariants as word
use Rattle.py_lexer.specs.declared.token.Mark.TheVariants as mark
use Rattle.py_phrases.specs.Grammar.{Tokens, Level}
use Rattle.py_phrases.specs.Machine as m
use Rattle.py_phrases.specs.Machine.{Frame, Frames, Steps, Mode, State, Done, done, makes, made, close, close_if, closed_before, closes_before, step, finish, ended_at, ends, with_rest, stop, go_on, run, Read}
use Rattle.py_phrases.specs.Views.{Moved, moved}
use Rattle.py_phrases.specs.Readers.{closing}

closed_or : (f : Frame) (fs : Frames) (o : Steps) (level : ℕ) (b : Bool) → (b ≡ true → makes f ≤ level) → level ≤ 8 → close 8 (close level fs (made f o)).frames (close level fs (made f o)).steps ≡ close 8 fs (made f o)
    → let d = cond b (close level fs (made f o)) (done (f ∷ fs) o) in close 8 d.frames d.steps ≡ close 8 (f ∷ fs) o
closed_or f fs o level true h i e = e ∙ sym (ap (λ b. cond b (close 8 fs (made f o)) (done (f ∷ fs) o)) (le-leb (makes f) 8 (omega (arith, h refl, i))))
closed_or f fs o level false h i e = refl

-- what is closed up to a level closes as before
closes_again : (level : ℕ) → level ≤ 8 → (fs : Frames) (o : Steps) → close 8 (close level fs o).frames (close level fs o).steps ≡ close 8 fs o
closes_again level h [] o = refl
closes_again level h (f ∷ fs) o = closed_or f fs o level (nat_le (makes f) level) (leb-true (makes f) level) h (closes_again level h fs (made f o))

abbrev Small : Option ℕ → Type 0
Small None = Unit {0}
Small (Some level) = level ≤ 8

closes_if : (level : Option ℕ) → Small level → (fs : Frames) (o : Steps) → close 8 (close_if level fs o).frames (close_if level fs o).steps ≡ close 8 fs o
closes_if None h fs o = refl
closes_if (Some level) h fs o = closes_again level h fs o

small : (c : Token) → Small (closes_before c)
small (token.Word word.Not) = omega arith
small (token.Word word.Is) = omega arith
small (token.Word word.Else) = omega arith
small (token.Word word.In) = omega arith
small (token.Word word.And) = omega arith
small (token.Word word.Or) = omega arith
small (token.Word word.If) = omega arith
small (token.Mark mark.Comma) = omega arith
small (token.Mark mark.RightParen) = omega arith
small (token.Mark mark.RightBracket) = omega arith
small (token.Mark mark.RightBrace) = omega arith
small (token.Mark mark.Colon) = omega arith
small (token.Mark mark.Star) = omega arith
small (token.Mark mark.DoubleSlash) = omega arith
small (token.Mark mark.Percent) = omega arith
small (token.Mark mark.Plus) = omega arith
small (token.Mark mark.Minus) = omega arith
small (token.Mark mark.EqualEqual) = omega arith
small (token.Mark mark.NotEqual) = omega arith
small (token.Mark mark.Less) = omega arith
small (token.Mark mark.LessEqual) = omega arith
small (token.Mark mark.Greater) = omega arith
small (token.Mark mark.GreaterEqual) = omega arith
small _ = tt

finish_closing : (mode : Mode) (c : Token) (fs : Frames) (o : Steps) → let d = closing mode c fs o in finish mode d.frames d.steps ≡ finish mode fs o
finish_closing m.Have c fs o = ap ended_at (closes_if (closes_before c) (small c) fs o)
finish_closing m.Compared c fs o = ap ended_at (closes_if (closes_before c) (small c) fs o)
finish_closing _ c fs o = refl

record Stays (s : Option State) (frames frames' : Frames) (steps steps' : Steps) : Type 0 where
  none : s ≡ None
  same_frames : frames ≡ frames'
  same_steps : steps ≡ steps'

stays : (s : Option State) (frames frames' : Frames) (steps steps' : Steps) → (let x : Moved = record { next = None; frames = frames; steps = steps } in x) ≡ moved s frames' steps' → Stays s frames frames' steps steps'
stays None frames frames' steps steps' e = record { none = refl; same_frames = ap (λ (x : Moved). x.frames) e; same_steps = ap (λ (x : Moved). x.steps) e }
stays (Some s) frames frames' steps steps' e = let x = ap (λ (x : Moved). x.next) e in absurd cc

-- the reading stops before the token
stops : (w : Level) (mode : Mode) (c : Token) (r : Tokens) (fs frames : Frames) (o steps : Steps) → (let d = closing mode c fs o in (let x : Moved = record { next = None; frames = frames; steps = steps } in x) ≡ moved (step mode fs o c) d.frames d.steps)
    → ends w c ≡ true → with_rest (c ∷ r) (finish mode frames steps) ≡ run w (c ∷ r) mode fs o
stops w mode c r fs frames o steps e h =
    let d = closing mode c fs o in
    let x = stays (step mode fs o c) frames d.frames steps d.steps e in
    ap (λ (y : Frames). with_rest (c ∷ r) (finish mode y steps)) x.same_frames
    ∙ ap (λ (y : Steps). with_rest (c ∷ r) (finish mode d.frames y)) x.same_steps
    ∙ ap (with_rest (c ∷ r)) (finish_closing mode c fs o)
    ∙ sym (ap (λ (y : Option State). go_on y (run w r) (stop (ends w c) mode fs o (c ∷ r))) x.none ∙ ap (λ b. stop b mode fs o (c ∷ r)) h)

pub stopped : (w : Level) (mode : Mode) (tokens : Tokens) (place : ℕ) (c : Token) (fs frames : Frames) (o steps : Steps) → slice_get tokens place ≡ Some c
    → (let d = closing mode c fs o in (let x : Moved = record { next = None; frames = frames; steps = steps } in x) ≡ moved (step mode fs o c) d.frames d.steps)
    → ends w c ≡ true → with_rest (drop place tokens) (finish mode frames steps) ≡ run w (drop place tokens) mode fs o
stopped w mode [] place c fs frames o steps i e h = absurd cc
stopped w mode (t ∷ tokens) zero c fs frames o steps i e h = let same : t ≡ c = cc in rw same (stops w mode c tokens fs frames o steps e h)
stopped w mode (t ∷ tokens) (suc place) c fs frames o steps i e h = stopped w mode tokens place c fs frames o steps i e h
