-- What is read as a whole is spelled.
use Rattle.std.proofs.Common.{◌≡◌, suc, Bool, true, false, [], ◌∷◌, Option, Some, None, refl, sym, ap, subst, ◌∙◌, arith}
use Rattle.py_tree.specs.Syntax.{Expression}
use Rattle.py_lexer.specs.declared.token.Token.{Token}
use Rattle.py_lexer.specs.declared.token.Token.TheVariants as token
use Rattle.py_lexer.specs.declared.token.Keyword.TheVariants as word
use Rattle.py_lexer.specs.declared.token.Mark.TheVariants as mark
use Rattle.py_phrases.specs.Grammar.{Tokens, Level, P, C, E, L, Spells}
use Rattle.py_phrases.specs.Ends.{IsEnd, EndsList, EndsLone}
use Rattle.py_phrases.specs.Machine as m
use Rattle.py_phrases.specs.Machine.{Frame, Frames, Step, Steps, Mode, State, Done, Read, state, done, wants, wants_behind, makes, made, close, after, negation, operand, operand_or_end, no_repeats, called, call, paren_after_comma, bracket_after_comma, brace_after_comma, left_of, stands_at, push, tight, loose, compared_by, other, comma, listed, paren, bracket, brace, colon, in_call, named, equal, joined, follow, behind, dotted, not_in, constant_of, is_constant, is, step, ended, ended_at, ended_after_comma, finish, read_to, with_rest, ends, stop, go_on, run, bottom, read}
use Rattle.py_phrases.specs.Emitted.{emit}
use Rattle.py_phrases.proofs.Sound.{Start, Opened, Phrase, fitting, as_E, Closed, close_ok, wants_some, Whole, last_item, last_comma, Holds, After, step_ok}

record Spelled (k : Level) (s r : Tokens) (out : Steps) : Type 0 where
  tree : Expression
  spells : Spells k s r tree
  steps_are : out ≡ emit spells []

abbrev EndedAt : Start → Tokens → Option Steps → Type 0
EndedAt s0 r None = Unit {0}
EndedAt s0 r (Some out) = Spelled s0.level s0.tokens r out

as_list : (s0 : Start) (r : Tokens) (out : Steps) → s0.level ≡ L → Whole s0.tokens r [] out → Spelled s0.level s0.tokens r out
as_list s0 r out e y = subst (λ (k : Level). Spelled k s0.tokens r out) (sym e) (record { tree = y.tree; spells = y.spells; steps_are = y.steps_are })

ended_ok : (s0 : Start) (r : Tokens) (fs : Frames) (o : Steps) → Phrase E s0 r fs o → EndedAt s0 r (ended fs o)
ended_ok s0 r (m.Line n ∷ []) o p = as_list s0 r (listed n o) p.below.0 (last_item n s0.tokens p.from r [] p.before o p.tree p.below.2 p.spells p.steps_are)
ended_ok s0 r (m.Lone ∷ []) o p =
    let here : Spelled E p.from r o = record { tree = p.tree; spells = p.spells; steps_are = p.steps_are ∙ ap (emit p.spells) p.below.3 } in
    subst (λ (k : Level). Spelled k s0.tokens r o) (sym p.below.0) (subst (λ (y : Tokens). Spelled E y r o) (sym p.below.2) here)
ended_ok s0 r _ o p = tt

ended_after_ok : (s0 : Start) (r : Tokens) (fs : Frames) (o : Steps) → Opened s0 fs o r → EndedAt s0 r (ended_after_comma fs o)
ended_after_ok s0 r (m.Line (suc n) ∷ []) o p = as_list s0 r (m.MakeTuple (suc n) ∷ o) p.0 (last_comma n s0.tokens r [] o p.2)
ended_after_ok s0 r _ o p = tt

closed_end : (s0 : Start) (r : Tokens) (d : Done) → Closed 8 s0 r d → EndedAt s0 r (ended_at d)
closed_end s0 r d y = ended_ok s0 r d.frames d.steps (as_E s0 r d.frames d.steps y.level y.closed y.phrase)

finish_ok : (s0 : Start) (r : Tokens) (mode : Mode) (fs : Frames) (o : Steps) → Holds s0 mode fs o r → EndedAt s0 r (finish mode fs o)
finish_ok s0 r m.Next fs o p = ended_after_ok s0 r fs o p
finish_ok s0 r m.Have fs o p = closed_end s0 r (close 8 fs o) (close_ok 8 (omega arith) s0 r fs o P p (omega arith) (wants_some s0 fs p.before p.from p.below))
finish_ok s0 r m.Compared fs o p = closed_end s0 r (close 8 fs o) (close_ok 8 (omega arith) s0 r fs o C (fitting C 0 s0 r fs o (record { from = p.from; tree = p.tree; before = p.before; spells = p.spells; steps_are = p.steps_are; below = p.below; fit = omega arith }) (omega arith)) (omega arith) p.fit)
finish_ok s0 r _ fs o p = tt

-- read, and ended where a whole may end
abbrev Ended : Start → Option Read → Type 0
Ended s0 None = Unit {0}
Ended s0 (Some y) = Spelled s0.level s0.tokens y.rest y.steps × IsEnd s0.level y.rest

abbrev pub IsWhole : Level → Type 0
IsWhole L = Unit {0}
IsWhole E = Unit {0}
IsWhole _ = ⊥

nothing_ends : (k : Level) → IsWhole k → IsEnd k []
nothing_ends L h = tt
nothing_ends E h = tt
nothing_ends _ h = absurd h

list_ends : (c : Token) (r : Tokens) → m.ends_list c ≡ true → EndsList (c ∷ r)
list_ends (token.Mark mark.Equal) r h = tt
list_ends (token.Mark mark.Colon) r h = tt
list_ends (token.Mark mark.PlusEqual) r h = tt
list_ends (token.Mark mark.MinusEqual) r h = tt
list_ends (token.Mark mark.StarEqual) r h = tt
list_ends (token.Mark mark.DoubleSlashEqual) r h = tt
list_ends (token.Mark mark.PercentEqual) r h = tt
list_ends _ r h = absurd cc

lone_ends : (c : Token) (r : Tokens) → m.ends_lone c ≡ true → EndsLone (c ∷ r)
lone_ends (token.Mark mark.Colon) r h = tt
lone_ends (token.Mark mark.Comma) r h = tt
lone_ends (token.Mark mark.RightParen) r h = tt
lone_ends (token.Mark mark.Equal) r h = tt
lone_ends (token.Mark mark.RightArrow) r h = tt
lone_ends (token.Word word.As) r h = tt
lone_ends _ r h = absurd cc

is_end : (k : Level) → IsWhole k → (c : Token) (r : Tokens) → ends k c ≡ true → IsEnd k (c ∷ r)
is_end L w c r h = list_ends c r h
is_end E w c r h = lone_ends c r h
is_end _ w c r h = absurd w

with_rest_ok : (s0 : Start) (r : Tokens) (out : Option Steps) → IsEnd s0.level r → EndedAt s0 r out → Ended s0 (with_rest r out)
with_rest_ok s0 r None h p = tt
with_rest_ok s0 r (Some o) h p = (p, h)

stop_ok : (s0 : Start) (r : Tokens) (b : Bool) (mode : Mode) (fs : Frames) (o : Steps) → (b ≡ true → IsEnd s0.level r) → Holds s0 mode fs o r → Ended s0 (stop b mode fs o r)
stop_ok s0 r true mode fs o h p = with_rest_ok s0 r (finish mode fs o) (h refl) (finish_ok s0 r mode fs o p)
stop_ok s0 r false mode fs o h p = tt

goes_on : (s0 : Start) (r : Tokens) (next : Option State) (stopped : Option Read) → ((mode : Mode) (fs : Frames) (o : Steps) → Holds s0 mode fs o r → Ended s0 (run s0.level r mode fs o)) → After s0 next r → Ended s0 stopped → Ended s0 (go_on next (run s0.level r) stopped)
goes_on s0 r None stopped rest h h' = h'
goes_on s0 r (Some s) stopped rest h h' = rest s.mode s.frames s.steps h

run_ok : (s0 : Start) → IsWhole s0.level → (r : Tokens) (mode : Mode) (fs : Frames) (o : Steps) → Holds s0 mode fs o r → Ended s0 (run s0.level r mode fs o)
run_ok s0 w [] mode fs o p = with_rest_ok s0 [] (finish mode fs o) (nothing_ends s0.level w) (finish_ok s0 [] mode fs o p)
run_ok s0 w (c ∷ r) mode fs o p =
    goes_on s0 r (step mode fs o c) (stop (ends s0.level c) mode fs o (c ∷ r)) (λ mode fs o p. run_ok s0 w r mode fs o p) (step_ok s0 r mode fs o c p)
    (stop_ok s0 (c ∷ r) (ends s0.level c) mode fs o (is_end s0.level w c r) p)

pub record IsPhrase (k : Level) (s : Tokens) (y : Read) : Type 0 where
  pub tree : Expression
  pub spells : Spells k s y.rest tree
  pub steps_are : y.steps ≡ emit spells []
  pub is_end : IsEnd k y.rest

begun : (k : Level) → IsWhole k → (s : Tokens) → Opened (record { level = k; tokens = s }) (bottom k ∷ []) [] s
begun L w s = (refl, refl, (refl, refl))
begun E w s = (refl, refl, refl, refl)
begun _ w s = absurd w

pub is_spelled : (k : Level) → IsWhole k → (s : Tokens) (y : Read) → read k s ≡ Some y → IsPhrase k s y
is_spelled k w s y e =
    let s0 : Start = record { level = k; tokens = s } in
    let p = subst (Ended s0) e (run_ok s0 w s m.Next (bottom k ∷ []) [] (begun k w s)) in
    record { tree = p.0.tree; spells = p.0.spells; steps_are = p.0.steps_are; is_end = p.1 }
