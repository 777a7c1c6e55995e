-- What is spelled is read.
use Rattle.std.proofs.Common.{◌≡◌, ℕ, zero, suc, ◌+◌, ◌≤◌, Bool, true, false, not, ◌&&◌, ◌||◌, length, List, [], ◌∷◌, Option, Some, None, refl, sym, ap, subst, ◌∙◌, arith}
use Rattle.std.proofs.lemmas.Bool.{le-leb}
use Rattle.std.specs.Prelude.{cond}
use Rattle.std.specs.Str.{bytes_eq}
use Rattle.py_tree.specs.Syntax as x
use Rattle.py_tree.specs.Syntax.{Text, Expression, Expressions, Pairs, Keywords}
use Rattle.py_tree.specs.declared.operator.Const.TheVariants as constant
use Rattle.py_tree.specs.declared.operator.CompareOp.TheVariants as compare
use Rattle.py_lexer.specs.declared.token.Token.{Token}
use Rattle.py_lexer.specs.declared.token.Token.TheVariants as token
use Rattle.py_lexer.specs.declared.token.Keyword.TheVariants as word
use Rattle.py_lexer.specs.declared.token.Mark.TheVariants as mark
use Rattle.py_phrases.specs.Tokens as t
use Rattle.py_phrases.specs.Grammar as g
use Rattle.py_phrases.specs.Grammar.{Tokens, Level, P, U, M, S, C, N, A, O, E, L, Spells, Joined, Items, Entries, Arguments, KeywordsAt, distinct, has_keyword}
use Rattle.py_phrases.specs.Ends.{IsEnd, EndsList, EndsLone}
use Rattle.py_phrases.specs.Machine as m
use Rattle.py_phrases.specs.Machine.{Frame, Frames, Step, Steps, Mode, State, Done, Read, state, done, wants, makes, made, close, after, negation, operand, operand_or_end, has_name, no_repeats, called, call, paren_after_comma, bracket_after_comma, brace_after_comma, left_of, stands_at, push, operator, compared_by, other, comma, listed, paren, bracket, brace, colon, in_call, named, equal, joined, follow, behind, step, ended, ended_at, finish, read_to, with_rest, ends, stop, go_on, run, bottom, read}
use Rattle.py_phrases.specs.Emitted.{count, count_pairs, count_keywords, emit, emit_text, emit_items, emit_entries, emit_arguments, emit_keywords}

abbrev start : Bool → Mode
start false = m.Want
start true = m.Next

abbrev pub rank : Level → ℕ
rank P = 1
rank U = 1
rank M = 2
rank S = 3
rank C = 4
rank N = 5
rank A = 6
rank O = 7
rank E = 8
rank L = 9

-- where a phrase of level C or looser may have been read
abbrev Behind : Mode → Type 0
Behind m.Have = Unit {0}
Behind m.Compared = Unit {0}
Behind _ = ⊥

-- ---- closing

same_2 : (fs : Frames) (o : Steps) → 2 ≤ wants fs → close 2 fs o ≡ done fs o
same_2 [] o h = refl
same_2 (m.Sign op ∷ fs) o h = absurd (omega arith)
same_2 (m.Product op ∷ fs) o h = absurd (omega arith)
same_2 _ o h = refl

same_3 : (fs : Frames) (o : Steps) → 3 ≤ wants fs → close 3 fs o ≡ done fs o
same_3 [] o h = refl
same_3 (m.Sign op ∷ fs) o h = absurd (omega arith)
same_3 (m.Product op ∷ fs) o h = absurd (omega arith)
same_3 (m.Sum op ∷ fs) o h = absurd (omega arith)
same_3 _ o h = refl

same_6 : (fs : Frames) (o : Steps) → 6 ≤ wants fs → close 6 fs o ≡ done fs o
same_6 [] o h = refl
same_6 (m.Sign op ∷ fs) o h = absurd (omega arith)
same_6 (m.Product op ∷ fs) o h = absurd (omega arith)
same_6 (m.Sum op ∷ fs) o h = absurd (omega arith)
same_6 (m.Compare op ∷ fs) o h = absurd (omega arith)
same_6 (m.Negation ∷ fs) o h = absurd (omega arith)
same_6 (m.And ∷ fs) o h = absurd (omega arith)
same_6 _ o h = refl

same_7 : (fs : Frames) (o : Steps) → 7 ≤ wants fs → close 7 fs o ≡ done fs o
same_7 [] o h = refl
same_7 (m.Sign op ∷ fs) o h = absurd (omega arith)
same_7 (m.Product op ∷ fs) o h = absurd (omega arith)
same_7 (m.Sum op ∷ fs) o h = absurd (omega arith)
same_7 (m.Compare op ∷ fs) o h = absurd (omega arith)
same_7 (m.Negation ∷ fs) o h = absurd (omega arith)
same_7 (m.And ∷ fs) o h = absurd (omega arith)
same_7 (m.Or ∷ fs) o h = absurd (omega arith)
same_7 _ o h = refl

closes_one : (f : Frame) (fs : Frames) (o : Steps) (j : ℕ) → makes f ≤ j → close j (f ∷ fs) o ≡ close j fs (made f o)
closes_one f fs o j h = ap (λ b. cond b (close j fs (made f o)) (done (f ∷ fs) o)) (le-leb (makes f) j h)

-- ---- lists in brackets

data Bracket : Type 0 where
  line round square list : Bracket

abbrev open_at : Bracket → ℕ → Frame
open_at line n = m.Line n
open_at round n = m.Group n
open_at square n = m.Index n
open_at list n = m.Listed n

open_wants : (g : Bracket) (n : ℕ) (fs : Frames) → 8 ≤ wants (open_at g n ∷ fs)
open_wants line n fs = omega arith
open_wants round n fs = omega arith
open_wants square n fs = omega arith
open_wants list n fs = omega arith

open_closed : (g : Bracket) (n : ℕ) (fs : Frames) (o : Steps) → close 8 (open_at g n ∷ fs) o ≡ done (open_at g n ∷ fs) o
open_closed line n fs o = refl
open_closed round n fs o = refl
open_closed square n fs o = refl
open_closed list n fs o = refl

listed_many : (k : ℕ) (o : Steps) → 1 ≤ k → listed k o ≡ m.MakeTuple (suc k) ∷ o
listed_many zero o h = absurd (omega arith)
listed_many (suc k) o h = refl

paren_many : (k : ℕ) (fs : Frames) (o : Steps) → 1 ≤ k → paren_after_comma (m.Group k ∷ fs) o ≡ Some (state m.Have fs (m.Grouped ∷ m.MakeTuple k ∷ o))
paren_many zero fs o h = absurd (omega arith)
paren_many (suc k) fs o h = refl

bracket_many : (k : ℕ) (fs : Frames) (o : Steps) → 1 ≤ k → bracket_after_comma (m.Index k ∷ fs) o ≡ Some (state m.Have fs (m.MakeIndex ∷ m.MakeTuple k ∷ o))
bracket_many zero fs o h = absurd (omega arith)
bracket_many (suc k) fs o h = refl

-- ---- keyword arguments

abbrev pub names_of : Keywords → List Text
names_of x.end_of_keywords = []
names_of (x.more_keywords (x.Named n e) ks) = n ∷ names_of ks

has_keyword_is : (n : Text) (ks : Keywords) → has_keyword n ks ≡ has_name n (names_of ks)
has_keyword_is n x.end_of_keywords = refl
has_keyword_is n (x.more_keywords (x.Named other_ e) ks) = ap (λ b. bytes_eq n other_ || b) (has_keyword_is n ks)

pub distinct_is : (ks : Keywords) → distinct ks ≡ no_repeats (names_of ks)
distinct_is x.end_of_keywords = refl
distinct_is (x.more_keywords (x.Named n e) ks) =
    ap (λ b. not b && distinct ks) (has_keyword_is n ks) ∙ ap (λ b. not (has_name n (names_of ks)) && b) (distinct_is ks)

pub names_length : (ks : Keywords) → length (names_of ks) ≡ count_keywords ks
names_length x.end_of_keywords = refl
names_length (x.more_keywords (x.Named n e) ks) = ap suc (names_length ks)

-- the frames of keyword arguments, newest first
abbrev under : List Text → Frames → Frames
under [] fs = fs
under (n ∷ ns) fs = m.Named n ∷ under ns fs

abbrev onto : List Text → List Text → List Text
onto [] names = names
onto (n ∷ ns) names = onto ns (n ∷ names)

calls : (ns names : List Text) (n : ℕ) (fs : Frames) (o : Steps) → call names (under ns (m.Call n ∷ fs)) o ≡ called n (onto ns names) fs o
calls [] names n fs o = refl
calls (name ∷ ns) names n fs o = calls ns (name ∷ names) n fs o

is_in_call : (ns : List Text) (n : ℕ) (fs : Frames) → in_call (under ns (m.Call n ∷ fs)) ≡ true
is_in_call [] n fs = refl
is_in_call (name ∷ ns) n fs = refl

after_comma_calls : (ns : List Text) (n : ℕ) (fs : Frames) (o : Steps) → paren_after_comma (under ns (m.Call n ∷ fs)) o ≡ called n (onto ns []) fs o
after_comma_calls [] n fs o = refl
after_comma_calls (name ∷ ns) n fs o = calls ns (name ∷ []) n fs o

is_called : (n : ℕ) (names : List Text) (fs : Frames) (o : Steps) → no_repeats names ≡ true → called n names fs o ≡ Some (state m.Have fs (m.MakeCall n (length names) ∷ o))
is_called n names fs o h = ap (λ b. cond b (Some (state m.Have fs (m.MakeCall n (length names) ∷ o))) None) h

-- a text joins a text
joins : {s r : Tokens} {u : Text} (j : Joined s r u) (v : Text) (fs : Frames) (o : Steps) → joined v fs (emit_text j o) ≡ Some (state m.Have fs (m.JoinText v ∷ emit_text j o))
joins g.one_text v fs o = refl
joins (g.next_text j) v fs o = refl

module _ (w : Level) where
  -- from the frames fs the machine comes to behind the phrase, with frames that close to what fs with the phrase's steps close to
  record Reaches (level : ℕ) (mode : Mode) (s r : Tokens) (fs : Frames) (o out : Steps) : Type 0 where
    frames : Frames
    steps : Steps
    reached : run w s mode fs o ≡ run w r m.Have frames steps
    closes : (j : ℕ) → level ≤ j → close j frames steps ≡ close j fs out

  record ReachesLoose (level : ℕ) (mode : Mode) (s r : Tokens) (fs : Frames) (o out : Steps) : Type 0 where
    to : Mode
    is_behind : Behind to
    frames : Frames
    steps : Steps
    reached : run w s mode fs o ≡ run w r to frames steps
    closes : (j : ℕ) → level ≤ j → close j frames steps ≡ close j fs out

  -- items in a bracket, all of them counted
  data ReachesItems (g : Bracket) (n : ℕ) (s r : Tokens) (fs : Frames) (o : Steps) (total : ℕ) (out : Steps) : Type 0 where
    behind_item : (k : ℕ) (to : Mode) (frames : Frames) (steps : Steps) → Behind to → run w s m.Next (open_at g n ∷ fs) o ≡ run w r to frames steps
        → close 8 frames steps ≡ done (open_at g k ∷ fs) out → suc k ≡ total → n ≤ k → ReachesItems g n s r fs o total out
    behind_comma : (k : ℕ) → run w s m.Next (open_at g n ∷ fs) o ≡ run w r m.Next (open_at g k ∷ fs) out → k ≡ total → n ≤ k → ReachesItems g n s r fs o total out

  data ReachesList (g : Bracket) (s r : Tokens) (fs : Frames) (o out : Steps) : Type 0 where
    behind_one : (to : Mode) (frames : Frames) (steps : Steps) → Behind to → run w s m.Next (open_at g 0 ∷ fs) o ≡ run w r to frames steps
        → close 8 frames steps ≡ done (open_at g 0 ∷ fs) out → ReachesList g s r fs o out
    behind_tuple : (s' : Tokens) (o' : Steps) (total : ℕ) (out' : Steps) → run w s m.Next (open_at g 0 ∷ fs) o ≡ run w s' m.Next (open_at g 1 ∷ fs) o'
        → ReachesItems g 1 s' r fs o' total out' → m.MakeTuple total ∷ out' ≡ out → ReachesList g s r fs o out

  data ReachesEntries (n : ℕ) (s r : Tokens) (fs : Frames) (o : Steps) (total : ℕ) (out : Steps) : Type 0 where
    behind_value : (k : ℕ) (to : Mode) (frames : Frames) (steps : Steps) → Behind to → run w s m.Next (m.Entry n ∷ fs) o ≡ run w r to frames steps
        → close 8 frames steps ≡ done (m.Value k ∷ fs) out → suc k ≡ total → ReachesEntries n s r fs o total out
    behind_pair : (k : ℕ) → run w s m.Next (m.Entry n ∷ fs) o ≡ run w r m.Next (m.Entry k ∷ fs) out → k ≡ total → ReachesEntries n s r fs o total out

  abbrev Claim : (k : Level) {s r : Tokens} {e : Expression} → Spells k s r e → Type 0
  Claim P {s} {r} d = (next : Bool) (fs : Frames) (o : Steps) → run w s (start next) fs o ≡ run w r m.Have fs (emit d o)
  Claim U {s} {r} d = (next : Bool) (fs : Frames) (o : Steps) → 1 ≤ wants fs → Reaches 1 (start next) s r fs o (emit d o)
  Claim M {s} {r} d = (next : Bool) (fs : Frames) (o : Steps) → 2 ≤ wants fs → Reaches 2 (start next) s r fs o (emit d o)
  Claim S {s} {r} d = (next : Bool) (fs : Frames) (o : Steps) → 3 ≤ wants fs → Reaches 3 (start next) s r fs o (emit d o)
  Claim L {s} {r} d = (g : Bracket) (fs : Frames) (o : Steps) → ReachesList g s r fs o (emit d o)
  Claim k {s} {r} d = (next : Bool) (fs : Frames) (o : Steps) → rank k ≤ wants fs → ReachesLoose (rank k) (start next) s r fs o (emit d o)

  -- ---- a token

  goes_on : (r : Tokens) (stopped : Option Read) (next : Option State) (s : State) → next ≡ Some s → go_on next (run w r) stopped ≡ run w r s.mode s.frames s.steps
  goes_on r stopped next s e = ap (λ (x : Option State). go_on x (run w r) stopped) e

  started : (next : Bool) (c : Token) (r : Tokens) (fs : Frames) (o : Steps) (s : State) → operand fs o c ≡ Some s → operand_or_end fs o c ≡ Some s
      → run w (c ∷ r) (start next) fs o ≡ run w r s.mode s.frames s.steps
  started false c r fs o s e e' = goes_on r (stop (ends w c) m.Want fs o (c ∷ r)) (operand fs o c) s e
  started true c r fs o s e e' = goes_on r (stop (ends w c) m.Next fs o (c ∷ r)) (operand_or_end fs o c) s e'

  operated : (f : Frame) (r : Tokens) (stopped : Option Read) (frames fs : Frames) (steps o : Steps) → close (left_of f) frames steps ≡ done fs o → stands_at f ≤ wants fs
      → go_on (operator f frames steps) (run w r) stopped ≡ run w r m.Want (f ∷ fs) o
  operated f r stopped frames fs steps o e h =
      ap (λ (d : Done). go_on (after (push f) d) (run w r) stopped) e
      ∙ ap (λ b. go_on (cond b (Some (state m.Want (f ∷ fs) o)) None) (run w r) stopped) (le-leb (stands_at f) (wants fs) h)

  at_negation : (next : Bool) (r : Tokens) (fs : Frames) (o : Steps) → 5 ≤ wants fs → run w (t.not_ ∷ r) (start next) fs o ≡ run w r m.Want (m.Negation ∷ fs) o
  at_negation next r fs o h =
      let e : negation fs o ≡ Some (state m.Want (m.Negation ∷ fs) o) = ap (λ b. cond b (Some (state m.Want (m.Negation ∷ fs) o)) None) (le-leb 5 (wants fs) h) in
      started next t.not_ r fs o (state m.Want (m.Negation ∷ fs) o) e e

  at_sign : {c : Token} {op : _} → g.Sign c op → (next : Bool) (r : Tokens) (fs : Frames) (o : Steps) → run w (c ∷ r) (start next) fs o ≡ run w r m.Want (m.Sign op ∷ fs) o
  at_sign g.minus next r fs o = started next t.minus r fs o (state m.Want (m.Sign _ ∷ fs) o) refl refl
  at_sign g.plus next r fs o = started next t.plus r fs o (state m.Want (m.Sign _ ∷ fs) o) refl refl

  at_product : {c : Token} {op : _} → g.Product c op → (r : Tokens) (frames fs : Frames) (steps o : Steps) → close 2 frames steps ≡ done fs o → 2 ≤ wants fs
      → run w (c ∷ r) m.Have frames steps ≡ run w r m.Want (m.Product op ∷ fs) o
  at_product g.times r frames fs steps o e h = operated (m.Product _) r _ frames fs steps o e h
  at_product g.floor_division r frames fs steps o e h = operated (m.Product _) r _ frames fs steps o e h
  at_product g.remainder r frames fs steps o e h = operated (m.Product _) r _ frames fs steps o e h

  at_sum : {c : Token} {op : _} → g.Sum c op → (r : Tokens) (frames fs : Frames) (steps o : Steps) → close 3 frames steps ≡ done fs o → 3 ≤ wants fs
      → run w (c ∷ r) m.Have frames steps ≡ run w r m.Want (m.Sum op ∷ fs) o
  at_sum g.addition r frames fs steps o e h = operated (m.Sum _) r _ frames fs steps o e h
  at_sum g.subtraction r frames fs steps o e h = operated (m.Sum _) r _ frames fs steps o e h

  at_comparison : {c : Token} {op : _} → g.Comparison c op → (r : Tokens) (frames fs : Frames) (steps o : Steps) → close 3 frames steps ≡ done fs o → 4 ≤ wants fs
      → run w (c ∷ r) m.Have frames steps ≡ run w r m.Want (m.Compare op ∷ fs) o
  at_comparison g.equal r frames fs steps o e h = operated (m.Compare _) r _ frames fs steps o e h
  at_comparison g.unequal r frames fs steps o e h = operated (m.Compare _) r _ frames fs steps o e h
  at_comparison g.less r frames fs steps o e h = operated (m.Compare _) r _ frames fs steps o e h
  at_comparison g.less_or_equal r frames fs steps o e h = operated (m.Compare _) r _ frames fs steps o e h
  at_comparison g.greater r frames fs steps o e h = operated (m.Compare _) r _ frames fs steps o e h
  at_comparison g.greater_or_equal r frames fs steps o e h = operated (m.Compare _) r _ frames fs steps o e h
  at_comparison g.member r frames fs steps o e h = operated (m.Compare _) r _ frames fs steps o e h

  compares : (mode : Mode) (r : Tokens) (stopped : Option Read) (frames fs : Frames) (steps o : Steps) → close 3 frames steps ≡ done fs o → 4 ≤ wants fs
      → go_on (after (compared_by mode) (close 3 frames steps)) (run w r) stopped ≡ run w r mode fs o
  compares mode r stopped frames fs steps o e h =
      ap (λ (d : Done). go_on (after (compared_by mode) d) (run w r) stopped) e
      ∙ ap (λ b. go_on (cond b (Some (state mode fs o)) None) (run w r) stopped) (le-leb 4 (wants fs) h)

  at_constant : {c : Token} {k : _} → g.Constant c k → (r : Tokens) (fs : Frames) (o : Steps) → run w (c ∷ r) m.Is fs o ≡ run w r m.Compared fs (m.MakeIs false k ∷ o)
  at_constant g.is_none r fs o = refl
  at_constant g.is_true r fs o = refl
  at_constant g.is_false r fs o = refl

  at_constant_not : {c : Token} {k : _} → g.Constant c k → (r : Tokens) (fs : Frames) (o : Steps) → run w (c ∷ r) m.IsNot fs o ≡ run w r m.Compared fs (m.MakeIs true k ∷ o)
  at_constant_not g.is_none r fs o = refl
  at_constant_not g.is_true r fs o = refl
  at_constant_not g.is_false r fs o = refl

  -- behind a comparison, as behind a primary
  module _ (c : Token) (as_loose : (fs : Frames) (o : Steps) → behind fs o c ≡ follow fs o c) where
    at_loose : (to : Mode) → Behind to → (r : Tokens) (fs : Frames) (o : Steps) (s : State) → follow fs o c ≡ Some s → run w (c ∷ r) to fs o ≡ run w r s.mode s.frames s.steps
    at_loose m.Have h r fs o s e = goes_on r (stop (ends w c) m.Have fs o (c ∷ r)) (behind fs o c) s (as_loose fs o ∙ e)
    at_loose m.Compared h r fs o s e = goes_on r (stop (ends w c) m.Compared fs o (c ∷ r)) (follow fs o c) s e
    at_loose _ h r fs o s e = absurd h

  pushes : (f : Frame) (frames fs : Frames) (steps o : Steps) → close (left_of f) frames steps ≡ done fs o → stands_at f ≤ wants fs → operator f frames steps ≡ Some (state m.Want (f ∷ fs) o)
  pushes f frames fs steps o e h =
      ap (λ (d : Done). after (push f) d) e ∙ ap (λ b. cond b (Some (state m.Want (f ∷ fs) o)) None) (le-leb (stands_at f) (wants fs) h)

  at_and : (to : Mode) → Behind to → (r : Tokens) (frames fs : Frames) (steps o : Steps) → close 6 frames steps ≡ done fs o → 6 ≤ wants fs → run w (t.and_ ∷ r) to frames steps ≡ run w r m.Want (m.And ∷ fs) o
  at_and to b r frames fs steps o e h = at_loose t.and_ (λ fs o. refl) to b r frames steps (state m.Want (m.And ∷ fs) o) (pushes m.And frames fs steps o e h)

  at_or : (to : Mode) → Behind to → (r : Tokens) (frames fs : Frames) (steps o : Steps) → close 7 frames steps ≡ done fs o → 7 ≤ wants fs → run w (t.or_ ∷ r) to frames steps ≡ run w r m.Want (m.Or ∷ fs) o
  at_or to b r frames fs steps o e h = at_loose t.or_ (λ fs o. refl) to b r frames steps (state m.Want (m.Or ∷ fs) o) (pushes m.Or frames fs steps o e h)

  at_if : (to : Mode) → Behind to → (r : Tokens) (frames fs : Frames) (steps o : Steps) → close 7 frames steps ≡ done fs o → 8 ≤ wants fs → run w (t.if_ ∷ r) to frames steps ≡ run w r m.Want (m.Test ∷ fs) o
  at_if to b r frames fs steps o e h = at_loose t.if_ (λ fs o. refl) to b r frames steps (state m.Want (m.Test ∷ fs) o) (pushes m.Test frames fs steps o e h)

  at_else : (to : Mode) → Behind to → (r : Tokens) (frames fs : Frames) (steps o : Steps) → close 7 frames steps ≡ done (m.Test ∷ fs) o → run w (t.else_ ∷ r) to frames steps ≡ run w r m.Want (m.Other ∷ fs) o
  at_else to b r frames fs steps o e = at_loose t.else_ (λ fs o. refl) to b r frames steps (state m.Want (m.Other ∷ fs) o) (ap (λ (d : Done). after other d) e)

  at_comma : (to : Mode) → Behind to → (r : Tokens) (frames fs : Frames) (steps o : Steps) (s : State) → close 8 frames steps ≡ done fs o → comma fs o ≡ Some s → run w (t.comma ∷ r) to frames steps ≡ run w r s.mode s.frames s.steps
  at_comma to b r frames fs steps o s e h = at_loose t.comma (λ fs o. refl) to b r frames steps s (ap (λ (d : Done). after comma d) e ∙ h)

  at_paren : (to : Mode) → Behind to → (r : Tokens) (frames fs : Frames) (steps o : Steps) (s : State) → close 8 frames steps ≡ done fs o → paren fs o ≡ Some s → run w (t.right_paren ∷ r) to frames steps ≡ run w r s.mode s.frames s.steps
  at_paren to b r frames fs steps o s e h = at_loose t.right_paren (λ fs o. refl) to b r frames steps s (ap (λ (d : Done). after paren d) e ∙ h)

  at_bracket : (to : Mode) → Behind to → (r : Tokens) (frames fs : Frames) (steps o : Steps) (s : State) → close 8 frames steps ≡ done fs o → bracket fs o ≡ Some s → run w (t.right_bracket ∷ r) to frames steps ≡ run w r s.mode s.frames s.steps
  at_bracket to b r frames fs steps o s e h = at_loose t.right_bracket (λ fs o. refl) to b r frames steps s (ap (λ (d : Done). after bracket d) e ∙ h)

  at_brace : (to : Mode) → Behind to → (r : Tokens) (frames fs : Frames) (steps o : Steps) (s : State) → close 8 frames steps ≡ done fs o → brace fs o ≡ Some s → run w (t.right_brace ∷ r) to frames steps ≡ run w r s.mode s.frames s.steps
  at_brace to b r frames fs steps o s e h = at_loose t.right_brace (λ fs o. refl) to b r frames steps s (ap (λ (d : Done). after brace d) e ∙ h)

  at_colon : (to : Mode) → Behind to → (r : Tokens) (frames fs : Frames) (steps o : Steps) (s : State) → close 8 frames steps ≡ done fs o → colon fs o ≡ Some s → run w (t.colon ∷ r) to frames steps ≡ run w r s.mode s.frames s.steps
  at_colon to b r frames fs steps o s e h = at_loose t.colon (λ fs o. refl) to b r frames steps s (ap (λ (d : Done). after colon d) e ∙ h)

  -- ---- closing brackets

  next_item : (g : Bracket) (n : ℕ) (fs : Frames) (o : Steps) → comma (open_at g n ∷ fs) o ≡ Some (state m.Next (open_at g (suc n) ∷ fs) o)
  next_item line n fs o = refl
  next_item round n fs o = refl
  next_item square n fs o = refl
  next_item list n fs o = refl

  ahead : (g : Bracket) (n n' : ℕ) {s s' r : Tokens} {fs : Frames} {o o' out : Steps} {total : ℕ} → run w s m.Next (open_at g n ∷ fs) o ≡ run w s' m.Next (open_at g n' ∷ fs) o' → n ≤ n'
      → ReachesItems g n' s' r fs o' total out → ReachesItems g n s r fs o total out
  ahead g n n' e h (behind_item k to frames steps b e' c l h') = behind_item k to frames steps b (e ∙ e') c l (omega (arith, h, h'))
  ahead g n n' e h (behind_comma k e' l h') = behind_comma k (e ∙ e') l (omega (arith, h, h'))

  recount : (g : Bracket) (n : ℕ) {s r : Tokens} {fs : Frames} {o out : Steps} (total total' : ℕ) → total ≡ total' → ReachesItems g n s r fs o total out → ReachesItems g n s r fs o total' out
  recount g n total total' e (behind_item k to frames steps b e' c l h') = behind_item k to frames steps b e' c (l ∙ e) h'
  recount g n total total' e (behind_comma k e' l h') = behind_comma k e' (l ∙ e) h'

  tuple_group : {s r : Tokens} {fs : Frames} {o out : Steps} {total : ℕ} → ReachesItems round 1 s (t.right_paren ∷ r) fs o total out
      → run w s m.Next (m.Group 1 ∷ fs) o ≡ run w r m.Have fs (m.Grouped ∷ m.MakeTuple total ∷ out)
  tuple_group {r = r} {fs = fs} {out = out} (behind_item k to frames steps b e c l h) =
      e ∙ at_paren to b r frames (m.Group k ∷ fs) steps out (state m.Have fs (m.Grouped ∷ listed k out)) c refl
      ∙ ap (λ (x : Steps). run w r m.Have fs (m.Grouped ∷ x)) (listed_many k out h ∙ ap (λ i. m.MakeTuple i ∷ out) l)
  tuple_group {r = r} {fs = fs} {out = out} (behind_comma k e l h) =
      e ∙ goes_on r _ (paren_after_comma (m.Group k ∷ fs) out) (state m.Have fs (m.Grouped ∷ m.MakeTuple k ∷ out)) (paren_many k fs out h)
      ∙ ap (λ (i : ℕ). run w r m.Have fs (m.Grouped ∷ m.MakeTuple i ∷ out)) l

  closed_group : {s r : Tokens} {fs : Frames} {o out : Steps} → ReachesList round s (t.right_paren ∷ r) fs o out → run w s m.Next (m.Group 0 ∷ fs) o ≡ run w r m.Have fs (m.Grouped ∷ out)
  closed_group {r = r} {fs = fs} {out = out} (behind_one to frames steps b e c) = e ∙ at_paren to b r frames (m.Group 0 ∷ fs) steps out (state m.Have fs (m.Grouped ∷ out)) c refl
  closed_group {r = r} {fs = fs} (behind_tuple s' o' total out' e i l) = e ∙ tuple_group i ∙ ap (λ (x : Steps). run w r m.Have fs (m.Grouped ∷ x)) l

  tuple_index : {s r : Tokens} {fs : Frames} {o out : Steps} {total : ℕ} → ReachesItems square 1 s (t.right_bracket ∷ r) fs o total out
      → run w s m.Next (m.Index 1 ∷ fs) o ≡ run w r m.Have fs (m.MakeIndex ∷ m.MakeTuple total ∷ out)
  tuple_index {r = r} {fs = fs} {out = out} (behind_item k to frames steps b e c l h) =
      e ∙ at_bracket to b r frames (m.Index k ∷ fs) steps out (state m.Have fs (m.MakeIndex ∷ listed k out)) c refl
      ∙ ap (λ (x : Steps). run w r m.Have fs (m.MakeIndex ∷ x)) (listed_many k out h ∙ ap (λ i. m.MakeTuple i ∷ out) l)
  tuple_index {r = r} {fs = fs} {out = out} (behind_comma k e l h) =
      e ∙ goes_on r _ (bracket_after_comma (m.Index k ∷ fs) out) (state m.Have fs (m.MakeIndex ∷ m.MakeTuple k ∷ out)) (bracket_many k fs out h)
      ∙ ap (λ (i : ℕ). run w r m.Have fs (m.MakeIndex ∷ m.MakeTuple i ∷ out)) l

  closed_index : {s r : Tokens} {fs : Frames} {o out : Steps} → ReachesList square s (t.right_bracket ∷ r) fs o out → run w s m.Next (m.Index 0 ∷ fs) o ≡ run w r m.Have fs (m.MakeIndex ∷ out)
  closed_index {r = r} {fs = fs} {out = out} (behind_one to frames steps b e c) = e ∙ at_bracket to b r frames (m.Index 0 ∷ fs) steps out (state m.Have fs (m.MakeIndex ∷ out)) c refl
  closed_index {r = r} {fs = fs} (behind_tuple s' o' total out' e i l) = e ∙ tuple_index i ∙ ap (λ (x : Steps). run w r m.Have fs (m.MakeIndex ∷ x)) l

  closed_list : {s r : Tokens} {fs : Frames} {o out : Steps} {total : ℕ} → ReachesItems list 0 s (t.right_bracket ∷ r) fs o total out → run w s m.Next (m.Listed 0 ∷ fs) o ≡ run w r m.Have fs (m.MakeList total ∷ out)
  closed_list {r = r} {fs = fs} {out = out} (behind_item k to frames steps b e c l h) =
      e ∙ at_bracket to b r frames (m.Listed k ∷ fs) steps out (state m.Have fs (m.MakeList (suc k) ∷ out)) c refl ∙ ap (λ (i : ℕ). run w r m.Have fs (m.MakeList i ∷ out)) l
  closed_list {r = r} {fs = fs} {out = out} (behind_comma k e l h) = e ∙ ap (λ (i : ℕ). run w r m.Have fs (m.MakeList i ∷ out)) l

  closed_dict : {s r : Tokens} {fs : Frames} {o out : Steps} {total : ℕ} → ReachesEntries 0 s (t.right_brace ∷ r) fs o total out → run w s m.Next (m.Entry 0 ∷ fs) o ≡ run w r m.Have fs (m.MakeDict total ∷ out)
  closed_dict {r = r} {fs = fs} {out = out} (behind_value k to frames steps b e c l) =
      e ∙ at_brace to b r frames (m.Value k ∷ fs) steps out (state m.Have fs (m.MakeDict (suc k) ∷ out)) c refl ∙ ap (λ (i : ℕ). run w r m.Have fs (m.MakeDict i ∷ out)) l
  closed_dict {r = r} {fs = fs} {out = out} (behind_pair k e l) = e ∙ ap (λ (i : ℕ). run w r m.Have fs (m.MakeDict i ∷ out)) l

  at_keyword : (ns : List Text) (name : Text) (n : ℕ) (r : Tokens) (fs : Frames) (o : Steps)
      → run w (token.Name name ∷ t.equal ∷ r) m.Next (under ns (m.Call n ∷ fs)) o ≡ run w r m.Want (m.Key name ∷ under ns (m.Call n ∷ fs)) (m.PutName name ∷ o)
  at_keyword ns name n r fs o =
      let frames : Frames = under ns (m.Call n ∷ fs) in
      let named_ : Option State = Some (state m.Want (m.Key name ∷ frames) (m.PutName name ∷ o)) in
      ap (λ b. go_on (cond b named_ None) (run w r) (stop (ends w t.equal) m.Have frames (m.PutName name ∷ o) (t.equal ∷ r))) (is_in_call ns n fs)

  pair_ahead : (n n' total total' : ℕ) {s s' r : Tokens} {fs : Frames} {o o' out : Steps} → total ≡ total' → run w s m.Next (m.Entry n ∷ fs) o ≡ run w s' m.Next (m.Entry n' ∷ fs) o'
      → ReachesEntries n' s' r fs o' total out → ReachesEntries n s r fs o total' out
  pair_ahead n n' total total' q e (behind_value k to frames steps b e' c l) = behind_value k to frames steps b (e ∙ e') c (l ∙ q)
  pair_ahead n n' total total' q e (behind_pair k e' l) = behind_pair k (e ∙ e') (l ∙ q)

  -- ---- one clause for each alternative

  loosen : {level : ℕ} {mode : Mode} {s r : Tokens} {fs : Frames} {o out : Steps} (looser : ℕ) → level ≤ looser → Reaches level mode s r fs o out → ReachesLoose looser mode s r fs o out
  loosen looser h x = record { to = m.Have; is_behind = tt; frames = x.frames; steps = x.steps; reached = x.reached; closes = λ j i. x.closes j (omega (arith, h, i)) }

  widen : {level : ℕ} {mode : Mode} {s r : Tokens} {fs : Frames} {o out : Steps} (looser : ℕ) → level ≤ looser → Reaches level mode s r fs o out → Reaches looser mode s r fs o out
  widen looser h x = record { frames = x.frames; steps = x.steps; reached = x.reached; closes = λ j i. x.closes j (omega (arith, h, i)) }

  widen_loose : {level : ℕ} {mode : Mode} {s r : Tokens} {fs : Frames} {o out : Steps} (looser : ℕ) → level ≤ looser → ReachesLoose level mode s r fs o out → ReachesLoose looser mode s r fs o out
  widen_loose looser h x = record { to = x.to; is_behind = x.is_behind; frames = x.frames; steps = x.steps; reached = x.reached; closes = λ j i. x.closes j (omega (arith, h, i)) }

  put : {mode : Mode} {s r : Tokens} {fs : Frames} {o out : Steps} → run w s mode fs o ≡ run w r m.Have fs out → Reaches 1 mode s r fs o out
  put {fs = fs} {out = out} e = record { frames = fs; steps = out; reached = e; closes = λ j h. refl }

  complete_text : {s r : Tokens} {u : Text} (j : Joined s r u) → (next : Bool) (fs : Frames) (o : Steps) → run w s (start next) fs o ≡ run w r m.Have fs (emit_text j o)
  complete_text (g.one_text {u = u} {r = r}) = λ next fs o. started next (token.Str u) r fs o (state m.Have fs (m.PutText u ∷ o)) refl refl
  complete_text (g.next_text {r = r} {v = v} j) = λ next fs o. complete_text j next fs o ∙ goes_on r _ (joined v fs (emit_text j o)) (state m.Have fs (m.JoinText v ∷ emit_text j o)) (joins j v fs o)

  mutual
    complete : {k : Level} {s r : Tokens} {e : Expression} (d : Spells k s r e) → Claim k d
    complete (g.a_name {n = n} {r = r}) = λ next fs o. started next (token.Name n) r fs o (state m.Have fs (m.PutName n ∷ o)) refl refl
    complete (g.an_int {n = n} {r = r}) = λ next fs o. started next (token.Int n) r fs o (state m.Have fs (m.PutInt n ∷ o)) refl refl
    complete (g.a_text j) = λ next fs o. complete_text j next fs o
    complete (g.a_none {r = r}) = λ next fs o. started next t.none r fs o (state m.Have fs (m.PutConstant constant.Nil ∷ o)) refl refl
    complete (g.a_true {r = r}) = λ next fs o. started next t.true_ r fs o (state m.Have fs (m.PutConstant constant.True ∷ o)) refl refl
    complete (g.a_false {r = r}) = λ next fs o. started next t.false_ r fs o (state m.Have fs (m.PutConstant constant.False ∷ o)) refl refl
    complete (g.a_group {s = s} d) = λ next fs o. started next t.left_paren s fs o (state m.Next (m.Group 0 ∷ fs) o) refl refl ∙ closed_group (complete d round fs o)
    complete (g.a_unit {r = r}) = λ next fs o. started next t.left_paren (t.right_paren ∷ r) fs o (state m.Next (m.Group 0 ∷ fs) o) refl refl
    complete (g.a_list {s = s} {es = es} i) = λ next fs o.
        started next t.left_bracket s fs o (state m.Next (m.Listed 0 ∷ fs) o) refl refl ∙ closed_list (recount list 0 (0 + count es) (count es) (omega arith) (complete_items i list 0 fs o))
    complete (g.a_dict {s = s} {r = r} {ps = ps} i) = λ next fs o.
        started next t.left_brace s fs o (state m.Next (m.Entry 0 ∷ fs) o) refl refl ∙ closed_dict (complete_entries i 0 fs o)
        ∙ ap (λ (k : ℕ). run w r m.Have fs (m.MakeDict k ∷ emit_entries i o)) (omega arith)
    complete (g.an_attribute d) = λ next fs o. complete d next fs o
    complete (g.an_index {m = m'} d i) = λ next fs o. complete d next fs o ∙ closed_index (complete i square fs (emit d o))
    complete (g.a_call {m = m'} {r = r} {es = es} {ks = ks} d i q) = λ next fs o.
        complete d next fs o ∙ complete_arguments i r refl (sym (distinct_is ks) ∙ q) 0 fs (emit d o)
        ∙ ap (λ (k : ℕ). run w r m.Have fs (m.MakeCall k (count_keywords ks) ∷ emit_arguments i (emit d o))) (omega arith)
    complete (g.a_sign {s = s} {op = op} c d) = λ next fs o h.
        let x = complete d false (m.Sign op ∷ fs) o (omega arith) in
        record { frames = x.frames; steps = x.steps; reached = at_sign c next s fs o ∙ x.reached; closes = λ j i. x.closes j i ∙ closes_one (m.Sign op) fs (emit d o) j i }
    complete (g.a_primary d) = λ next fs o h. put (complete d next fs o)
    complete (g.a_product {m = m'} {op = op} c d i) = λ next fs o h.
        let x = complete d next fs o h in
        let y = complete i false (m.Product op ∷ fs) (emit d o) (omega arith) in
        record {
          frames = y.frames;
          steps = y.steps;
          reached = x.reached ∙ at_product c m' x.frames fs x.steps (emit d o) (x.closes 2 (omega arith) ∙ same_2 fs (emit d o) h) h ∙ y.reached;
          closes = λ j q. y.closes j (omega (arith, q)) ∙ closes_one (m.Product op) fs (emit i (emit d o)) j q;
        }
    complete (g.a_factor d) = λ next fs o h. widen 2 (omega arith) (complete d next fs o (omega (arith, h)))
    complete (g.a_sum {m = m'} {op = op} c d i) = λ next fs o h.
        let x = complete d next fs o h in
        let y = complete i false (m.Sum op ∷ fs) (emit d o) (omega arith) in
        record {
          frames = y.frames;
          steps = y.steps;
          reached = x.reached ∙ at_sum c m' x.frames fs x.steps (emit d o) (x.closes 3 (omega arith) ∙ same_3 fs (emit d o) h) h ∙ y.reached;
          closes = λ j q. y.closes j (omega (arith, q)) ∙ closes_one (m.Sum op) fs (emit i (emit d o)) j q;
        }
    complete (g.a_term d) = λ next fs o h. widen 3 (omega arith) (complete d next fs o (omega (arith, h)))
    complete (g.a_comparison {m = m'} {op = op} c d i) = λ next fs o h.
        let x = complete d next fs o (omega (arith, h)) in
        let y = complete i false (m.Compare op ∷ fs) (emit d o) (omega arith) in
        record {
          to = m.Have;
          is_behind = tt;
          frames = y.frames;
          steps = y.steps;
          reached = x.reached ∙ at_comparison c m' x.frames fs x.steps (emit d o) (x.closes 3 (omega arith) ∙ same_3 fs (emit d o) (omega (arith, h))) h ∙ y.reached;
          closes = λ j q. y.closes j (omega (arith, q)) ∙ closes_one (m.Compare op) fs (emit i (emit d o)) j q;
        }
    complete (g.a_not_in {m = m'} d i) = λ next fs o h.
        let x = complete d next fs o (omega (arith, h)) in
        let y = complete i false (m.Compare compare.NotIn ∷ fs) (emit d o) (omega arith) in
        record {
          to = m.Have;
          is_behind = tt;
          frames = y.frames;
          steps = y.steps;
          reached = x.reached ∙ compares m.NotIn (t.in_ ∷ m') _ x.frames fs x.steps (emit d o) (x.closes 3 (omega arith) ∙ same_3 fs (emit d o) (omega (arith, h))) h ∙ y.reached;
          closes = λ j q. y.closes j (omega (arith, q)) ∙ closes_one (m.Compare compare.NotIn) fs (emit i (emit d o)) j q;
        }
    complete (g.an_is {r = r} {c = c} {k = k} q d) = λ next fs o h.
        let x = complete d next fs o (omega (arith, h)) in
        record {
          to = m.Compared;
          is_behind = tt;
          frames = fs;
          steps = m.MakeIs false k ∷ emit d o;
          reached = x.reached ∙ compares m.Is (c ∷ r) _ x.frames fs x.steps (emit d o) (x.closes 3 (omega arith) ∙ same_3 fs (emit d o) (omega (arith, h))) h ∙ at_constant q r fs (emit d o);
          closes = λ j q. refl;
        }
    complete (g.an_is_not {r = r} {c = c} {k = k} q d) = λ next fs o h.
        let x = complete d next fs o (omega (arith, h)) in
        record {
          to = m.Compared;
          is_behind = tt;
          frames = fs;
          steps = m.MakeIs true k ∷ emit d o;
          reached = x.reached ∙ compares m.Is (t.not_ ∷ c ∷ r) _ x.frames fs x.steps (emit d o) (x.closes 3 (omega arith) ∙ same_3 fs (emit d o) (omega (arith, h))) h ∙ at_constant_not q r fs (emit d o);
          closes = λ j q. refl;
        }
    complete (g.uncompared d) = λ next fs o h. loosen 4 (omega arith) (complete d next fs o (omega (arith, h)))
    complete (g.a_negation {s = s} d) = λ next fs o h.
        let x = complete d false (m.Negation ∷ fs) o (omega arith) in
        record {
          to = x.to;
          is_behind = x.is_behind;
          frames = x.frames;
          steps = x.steps;
          reached = at_negation next s fs o h ∙ x.reached;
          closes = λ j i. x.closes j i ∙ closes_one m.Negation fs (emit d o) j i;
        }
    complete (g.affirmed d) = λ next fs o h. widen_loose 5 (omega arith) (complete d next fs o (omega (arith, h)))
    complete (g.a_conjunction {m = m'} d i) = λ next fs o h.
        let x = complete d next fs o h in
        let y = complete i false (m.And ∷ fs) (emit d o) (omega arith) in
        record {
          to = y.to;
          is_behind = y.is_behind;
          frames = y.frames;
          steps = y.steps;
          reached = x.reached ∙ at_and x.to x.is_behind m' x.frames fs x.steps (emit d o) (x.closes 6 (omega arith) ∙ same_6 fs (emit d o) h) h ∙ y.reached;
          closes = λ j q. y.closes j (omega (arith, q)) ∙ closes_one m.And fs (emit i (emit d o)) j q;
        }
    complete (g.a_conjunct d) = λ next fs o h. widen_loose 6 (omega arith) (complete d next fs o (omega (arith, h)))
    complete (g.a_disjunction {m = m'} d i) = λ next fs o h.
        let x = complete d next fs o h in
        let y = complete i false (m.Or ∷ fs) (emit d o) (omega arith) in
        record {
          to = y.to;
          is_behind = y.is_behind;
          frames = y.frames;
          steps = y.steps;
          reached = x.reached ∙ at_or x.to x.is_behind m' x.frames fs x.steps (emit d o) (x.closes 7 (omega arith) ∙ same_7 fs (emit d o) h) h ∙ y.reached;
          closes = λ j q. y.closes j (omega (arith, q)) ∙ closes_one m.Or fs (emit i (emit d o)) j q;
        }
    complete (g.a_disjunct d) = λ next fs o h. widen_loose 7 (omega arith) (complete d next fs o (omega (arith, h)))
    complete (g.a_conditional {m = m'} {n = n} d i l) = λ next fs o h.
        let x = complete d next fs o (omega (arith, h)) in
        let y = complete i false (m.Test ∷ fs) (emit d o) (omega arith) in
        let z = complete l false (m.Other ∷ fs) (emit i (emit d o)) (omega arith) in
        record {
          to = z.to;
          is_behind = z.is_behind;
          frames = z.frames;
          steps = z.steps;
          reached = x.reached ∙ at_if x.to x.is_behind m' x.frames fs x.steps (emit d o) (x.closes 7 (omega arith) ∙ same_7 fs (emit d o) (omega (arith, h))) h
              ∙ y.reached ∙ at_else y.to y.is_behind n y.frames fs y.steps (emit i (emit d o)) (y.closes 7 (omega arith)) ∙ z.reached;
          closes = λ j q. z.closes j q ∙ closes_one m.Other fs (emit l (emit i (emit d o))) j q;
        }
    complete (g.unconditional d) = λ next fs o h. widen_loose 8 (omega arith) (complete d next fs o (omega (arith, h)))
    complete (g.a_tuple {m = m'} {es = es} d i) = λ b fs o.
        let x = complete d true (open_at b 0 ∷ fs) o (open_wants b 0 fs) in
        behind_tuple m' (emit d o) (1 + count es) (emit_items i (emit d o))
        (x.reached ∙ at_comma x.to x.is_behind m' x.frames (open_at b 0 ∷ fs) x.steps (emit d o) (state m.Next (open_at b 1 ∷ fs) (emit d o)) (x.closes 8 (omega arith) ∙ open_closed b 0 fs (emit d o)) (next_item b 0 fs (emit d o)))
        (complete_items i b 1 fs (emit d o)) (ap (λ k. m.MakeTuple k ∷ emit_items i (emit d o)) (omega arith))
    complete (g.single d) = λ b fs o.
        let x = complete d true (open_at b 0 ∷ fs) o (open_wants b 0 fs) in
        behind_one x.to x.frames x.steps x.is_behind x.reached (x.closes 8 (omega arith) ∙ open_closed b 0 fs (emit d o))

    complete_items : {s r : Tokens} {es : Expressions} (i : Items s r es) → (b : Bracket) (n : ℕ) (fs : Frames) (o : Steps) → ReachesItems b n s r fs o (n + count es) (emit_items i o)
    complete_items g.no_item = λ b n fs o. behind_comma n refl (omega arith) (omega arith)
    complete_items (g.last_item d) = λ b n fs o.
        let x = complete d true (open_at b n ∷ fs) o (open_wants b n fs) in
        behind_item n x.to x.frames x.steps x.is_behind x.reached (x.closes 8 (omega arith) ∙ open_closed b n fs (emit d o)) (omega arith) (omega arith)
    complete_items (g.next_item {m = m'} {es = es} d i) = λ b n fs o.
        let x = complete d true (open_at b n ∷ fs) o (open_wants b n fs) in
        recount b n (suc n + count es) (n + suc (count es)) (omega arith)
        (ahead b n (suc n) (x.reached ∙ at_comma x.to x.is_behind m' x.frames (open_at b n ∷ fs) x.steps (emit d o) (state m.Next (open_at b (suc n) ∷ fs) (emit d o)) (x.closes 8 (omega arith) ∙ open_closed b n fs (emit d o)) (next_item b n fs (emit d o)))
        (omega arith) (complete_items i b (suc n) fs (emit d o)))

    complete_entries : {s r : Tokens} {ps : Pairs} (i : Entries s r ps) → (n : ℕ) (fs : Frames) (o : Steps) → ReachesEntries n s r fs o (n + count_pairs ps) (emit_entries i o)
    complete_entries g.no_pair = λ n fs o. behind_pair n refl (omega arith)
    complete_entries (g.last_pair {m = m'} d v) = λ n fs o.
        let x = complete d true (m.Entry n ∷ fs) o (omega arith) in
        let y = complete v false (m.Value n ∷ fs) (emit d o) (omega arith) in
        behind_value n y.to y.frames y.steps y.is_behind
        (x.reached ∙ at_colon x.to x.is_behind m' x.frames (m.Entry n ∷ fs) x.steps (emit d o) (state m.Want (m.Value n ∷ fs) (emit d o)) (x.closes 8 (omega arith)) refl ∙ y.reached)
        (y.closes 8 (omega arith)) (omega arith)
    complete_entries (g.next_pair {m = m'} {n = m''} {ps = ps} d v i) = λ n fs o.
        let x = complete d true (m.Entry n ∷ fs) o (omega arith) in
        let y = complete v false (m.Value n ∷ fs) (emit d o) (omega arith) in
        pair_ahead n (suc n) (suc n + count_pairs ps) (n + suc (count_pairs ps)) (omega arith)
        (x.reached ∙ at_colon x.to x.is_behind m' x.frames (m.Entry n ∷ fs) x.steps (emit d o) (state m.Want (m.Value n ∷ fs) (emit d o)) (x.closes 8 (omega arith)) refl
        ∙ y.reached ∙ at_comma y.to y.is_behind m'' y.frames (m.Value n ∷ fs) y.steps (emit v (emit d o)) (state m.Next (m.Entry (suc n) ∷ fs) (emit v (emit d o))) (y.closes 8 (omega arith)) refl)
        (complete_entries i (suc n) fs (emit v (emit d o)))

    complete_arguments : {s q : Tokens} {es : Expressions} {ks : Keywords} (i : Arguments s q es ks) → (r : Tokens) → q ≡ t.right_paren ∷ r → no_repeats (names_of ks) ≡ true → (n : ℕ) (fs : Frames) (o : Steps)
        → run w s m.Next (m.Call n ∷ fs) o ≡ run w r m.Have fs (m.MakeCall (n + count es) (count_keywords ks) ∷ emit_arguments i o)
    complete_arguments g.no_argument = λ r e h n fs o.
        ap (λ (q : Tokens). run w q m.Next (m.Call n ∷ fs) o) e ∙ ap (λ (k : ℕ). run w r m.Have fs (m.MakeCall k 0 ∷ o)) (omega arith)
    complete_arguments (g.last_argument d) = λ r e h n fs o.
        let x = complete d true (m.Call n ∷ fs) o (omega arith) in
        x.reached ∙ ap (λ (q : Tokens). run w q x.to x.frames x.steps) e
        ∙ at_paren x.to x.is_behind r x.frames (m.Call n ∷ fs) x.steps (emit d o) (state m.Have fs (m.MakeCall (suc n) 0 ∷ emit d o)) (x.closes 8 (omega arith)) refl
        ∙ ap (λ (k : ℕ). run w r m.Have fs (m.MakeCall k 0 ∷ emit d o)) (omega arith)
    complete_arguments (g.next_argument {m = m'} {es = es} {ks = ks} d i) = λ r e h n fs o.
        let x = complete d true (m.Call n ∷ fs) o (omega arith) in
        x.reached ∙ at_comma x.to x.is_behind m' x.frames (m.Call n ∷ fs) x.steps (emit d o) (state m.Next (m.Call (suc n) ∷ fs) (emit d o)) (x.closes 8 (omega arith)) refl
        ∙ complete_arguments i r e h (suc n) fs (emit d o)
        ∙ ap (λ (k : ℕ). run w r m.Have fs (m.MakeCall k (count_keywords ks) ∷ emit_arguments i (emit d o))) (omega arith)
    complete_arguments (g.only_keywords {n = name} {ks = ks} {e = v} i) = λ r e h n fs o.
        complete_keywords i r e [] h n fs o
        ∙ ap (λ (k : ℕ). run w r m.Have fs (m.MakeCall n k ∷ emit_keywords i o)) (names_length (x.more_keywords (x.Named name v) ks))
        ∙ ap (λ (k : ℕ). run w r m.Have fs (m.MakeCall k (suc (count_keywords ks)) ∷ emit_keywords i o)) (omega arith)

    complete_keywords : {s q : Tokens} {ks : Keywords} (i : KeywordsAt s q ks) → (r : Tokens) → q ≡ t.right_paren ∷ r → (ns : List Text) → no_repeats (onto ns (names_of ks)) ≡ true → (n : ℕ) (fs : Frames) (o : Steps)
        → run w s m.Next (under ns (m.Call n ∷ fs)) o ≡ run w r m.Have fs (m.MakeCall n (length (onto ns (names_of ks))) ∷ emit_keywords i o)
    complete_keywords g.no_keyword = λ r e ns h n fs o.
        ap (λ (q : Tokens). run w q m.Next (under ns (m.Call n ∷ fs)) o) e
        ∙ goes_on r _ (paren_after_comma (under ns (m.Call n ∷ fs)) o) (state m.Have fs (m.MakeCall n (length (onto ns [])) ∷ o)) (after_comma_calls ns n fs o ∙ is_called n (onto ns []) fs o h)
    complete_keywords (g.last_keyword {s = s} {n = name} d) = λ r e ns h n fs o.
        let frames : Frames = under ns (m.Call n ∷ fs) in
        let out : Steps = emit d (m.PutName name ∷ o) in
        let x = complete d false (m.Key name ∷ frames) (m.PutName name ∷ o) (omega arith) in
        at_keyword ns name n s fs o ∙ x.reached ∙ ap (λ (q : Tokens). run w q x.to x.frames x.steps) e
        ∙ at_paren x.to x.is_behind r x.frames (m.Key name ∷ frames) x.steps out (state m.Have fs (m.MakeCall n (length (onto ns (name ∷ []))) ∷ out)) (x.closes 8 (omega arith))
        (calls ns (name ∷ []) n fs out ∙ is_called n (onto ns (name ∷ [])) fs out h)
    complete_keywords (g.next_keyword {s = s} {m = m'} {n = name} d i) = λ r e ns h n fs o.
        let frames : Frames = under ns (m.Call n ∷ fs) in
        let out : Steps = emit d (m.PutName name ∷ o) in
        let x = complete d false (m.Key name ∷ frames) (m.PutName name ∷ o) (omega arith) in
        at_keyword ns name n s fs o ∙ x.reached
        ∙ at_comma x.to x.is_behind m' x.frames (m.Key name ∷ frames) x.steps out (state m.Next (m.Named name ∷ frames) out) (x.closes 8 (omega arith)) refl
        ∙ complete_keywords i r e (name ∷ ns) h n fs out

-- ---- where a whole ends

finishes : (w : Level) (to : Mode) → Behind to → (frames : Frames) (steps : Steps) → finish to frames steps ≡ ended_at (close 8 frames steps)
finishes w m.Have b frames steps = refl
finishes w m.Compared b frames steps = refl
finishes w _ b frames steps = absurd b

stopped : (w : Level) (c : Token) (r : Tokens) (to : Mode) → Behind to → (frames : Frames) (steps : Steps) → step to frames steps c ≡ None → ends w c ≡ true
    → run w (c ∷ r) to frames steps ≡ with_rest (c ∷ r) (ended_at (close 8 frames steps))
stopped w c r to b frames steps e q =
    ap (λ (x : Option State). go_on x (run w r) (stop (ends w c) to frames steps (c ∷ r))) e
    ∙ ap (λ (x : Bool). stop x to frames steps (c ∷ r)) q ∙ ap (with_rest (c ∷ r)) (finishes w to b frames steps)

-- no token of that name goes on behind the phrase
module _ (c : Token) (f : Frame) (out : Steps) (as_loose : (fs : Frames) (o : Steps) → behind fs o c ≡ follow fs o c) where
  no_step : (to : Mode) → Behind to → (frames : Frames) (steps : Steps) → follow frames steps c ≡ None → step to frames steps c ≡ None
  no_step m.Have b frames steps e = as_loose frames steps ∙ e
  no_step m.Compared b frames steps e = e
  no_step _ b frames steps e = absurd b

abbrev IsBottom : Frame → Type 0
IsBottom (m.Line n) = Unit {0}
IsBottom m.Lone = Unit {0}
IsBottom _ = ⊥

abbrev bottom_frame : Done → Frame
bottom_frame d = go d.frames
  where
    go : Frames → Frame
    go [] = m.Test
    go (f ∷ fs) = f

not_in_call : (f : Frame) → IsBottom f → (frames : Frames) (steps out : Steps) → close 8 frames steps ≡ done (f ∷ []) out → in_call frames ≡ false
not_in_call f b [] steps out e = refl
not_in_call f b (m.Call n ∷ fs) steps out e = absurd (subst IsBottom (sym (ap bottom_frame e)) b)
not_in_call f b (m.Named n ∷ fs) steps out e = absurd (subst IsBottom (sym (ap bottom_frame e)) b)
not_in_call f b _ steps out e = refl

no_equal : (f : Frame) → IsBottom f → (to : Mode) → Behind to → (frames : Frames) (steps out : Steps) → close 8 frames steps ≡ done (f ∷ []) out → step to frames steps t.equal ≡ None
no_equal f b m.Have h frames steps out e = ap (λ x. cond x (named frames steps) None) (not_in_call f b frames steps out e)
no_equal f b m.Compared h frames steps out e = refl
no_equal f b _ h frames steps out e = absurd h

no_colon_at : (f : Frame) → IsBottom f → (out : Steps) → colon (f ∷ []) out ≡ None
no_colon_at (m.Line n) b out = refl
no_colon_at m.Lone b out = refl
no_colon_at _ b out = absurd b

no_colon : (f : Frame) → IsBottom f → (to : Mode) → Behind to → (frames : Frames) (steps out : Steps) → close 8 frames steps ≡ done (f ∷ []) out → step to frames steps t.colon ≡ None
no_colon f b to h frames steps out e = no_step t.colon f out (λ fs o. refl) to h frames steps (ap (λ (d : Done). after colon d) e ∙ no_colon_at f b out)

no_comma : (to : Mode) → Behind to → (frames : Frames) (steps out : Steps) → close 8 frames steps ≡ done (m.Lone ∷ []) out → step to frames steps t.comma ≡ None
no_comma to h frames steps out e = no_step t.comma m.Lone out (λ fs o. refl) to h frames steps (ap (λ (d : Done). after comma d) e)

no_paren : (to : Mode) → Behind to → (frames : Frames) (steps out : Steps) → close 8 frames steps ≡ done (m.Lone ∷ []) out → step to frames steps t.right_paren ≡ None
no_paren to h frames steps out e = no_step t.right_paren m.Lone out (λ fs o. refl) to h frames steps (ap (λ (d : Done). after paren d) e)

at_list_end : (r : Tokens) → EndsList r → (k : ℕ) (to : Mode) → Behind to → (frames : Frames) (steps out : Steps) → close 8 frames steps ≡ done (m.Line k ∷ []) out
    → run L r to frames steps ≡ Some (read_to (listed k out) r)
at_list_end [] h k to b frames steps out e = ap (with_rest []) (finishes L to b frames steps ∙ ap ended_at e)
at_list_end (token.Mark mark.Equal ∷ r) h k to b frames steps out e = stopped L t.equal r to b frames steps (no_equal (m.Line k) tt to b frames steps out e) refl ∙ ap (λ d. with_rest (t.equal ∷ r) (ended_at d)) e
at_list_end (token.Mark mark.Colon ∷ r) h k to b frames steps out e = stopped L t.colon r to b frames steps (no_colon (m.Line k) tt to b frames steps out e) refl ∙ ap (λ d. with_rest (t.colon ∷ r) (ended_at d)) e
at_list_end (token.Mark mark.PlusEqual ∷ r) h k to b frames steps out e = stopped L t.plus_equal r to b frames steps (no_step t.plus_equal m.Lone out (λ fs o. refl) to b frames steps refl) refl ∙ ap (λ d. with_rest (t.plus_equal ∷ r) (ended_at d)) e
at_list_end (token.Mark mark.MinusEqual ∷ r) h k to b frames steps out e = stopped L t.minus_equal r to b frames steps (no_step t.minus_equal m.Lone out (λ fs o. refl) to b frames steps refl) refl ∙ ap (λ d. with_rest (t.minus_equal ∷ r) (ended_at d)) e
at_list_end (token.Mark mark.StarEqual ∷ r) h k to b frames steps out e = stopped L t.star_equal r to b frames steps (no_step t.star_equal m.Lone out (λ fs o. refl) to b frames steps refl) refl ∙ ap (λ d. with_rest (t.star_equal ∷ r) (ended_at d)) e
at_list_end (token.Mark mark.DoubleSlashEqual ∷ r) h k to b frames steps out e = stopped L t.double_slash_equal r to b frames steps (no_step t.double_slash_equal m.Lone out (λ fs o. refl) to b frames steps refl) refl ∙ ap (λ d. with_rest (t.double_slash_equal ∷ r) (ended_at d)) e
at_list_end (token.Mark mark.PercentEqual ∷ r) h k to b frames steps out e = stopped L t.percent_equal r to b frames steps (no_step t.percent_equal m.Lone out (λ fs o. refl) to b frames steps refl) refl ∙ ap (λ d. with_rest (t.percent_equal ∷ r) (ended_at d)) e
at_list_end (_ ∷ r) h k to b frames steps out e = absurd h

after_list_comma : (r : Tokens) → EndsList r → (k : ℕ) (out : Steps) → run L r m.Next (m.Line (suc k) ∷ []) out ≡ Some (read_to (m.MakeTuple (suc k) ∷ out) r)
after_list_comma [] h k out = refl
after_list_comma (token.Mark mark.Equal ∷ r) h k out = refl
after_list_comma (token.Mark mark.Colon ∷ r) h k out = refl
after_list_comma (token.Mark mark.PlusEqual ∷ r) h k out = refl
after_list_comma (token.Mark mark.MinusEqual ∷ r) h k out = refl
after_list_comma (token.Mark mark.StarEqual ∷ r) h k out = refl
after_list_comma (token.Mark mark.DoubleSlashEqual ∷ r) h k out = refl
after_list_comma (token.Mark mark.PercentEqual ∷ r) h k out = refl
after_list_comma (_ ∷ r) h k out = absurd h

after_list_commas : (r : Tokens) → EndsList r → (k : ℕ) (out : Steps) → 1 ≤ k → run L r m.Next (m.Line k ∷ []) out ≡ Some (read_to (m.MakeTuple k ∷ out) r)
after_list_commas r h zero out i = absurd (omega arith)
after_list_commas r h (suc k) out i = after_list_comma r h k out

at_lone_end : (r : Tokens) → EndsLone r → (to : Mode) → Behind to → (frames : Frames) (steps out : Steps) → close 8 frames steps ≡ done (m.Lone ∷ []) out
    → run E r to frames steps ≡ Some (read_to out r)
at_lone_end [] h to b frames steps out e = ap (with_rest []) (finishes E to b frames steps ∙ ap ended_at e)
at_lone_end (token.Mark mark.Equal ∷ r) h to b frames steps out e = stopped E t.equal r to b frames steps (no_equal m.Lone tt to b frames steps out e) refl ∙ ap (λ d. with_rest (t.equal ∷ r) (ended_at d)) e
at_lone_end (token.Mark mark.Colon ∷ r) h to b frames steps out e = stopped E t.colon r to b frames steps (no_colon m.Lone tt to b frames steps out e) refl ∙ ap (λ d. with_rest (t.colon ∷ r) (ended_at d)) e
at_lone_end (token.Mark mark.Comma ∷ r) h to b frames steps out e = stopped E t.comma r to b frames steps (no_comma to b frames steps out e) refl ∙ ap (λ d. with_rest (t.comma ∷ r) (ended_at d)) e
at_lone_end (token.Mark mark.RightParen ∷ r) h to b frames steps out e = stopped E t.right_paren r to b frames steps (no_paren to b frames steps out e) refl ∙ ap (λ d. with_rest (t.right_paren ∷ r) (ended_at d)) e
at_lone_end (token.Mark mark.RightArrow ∷ r) h to b frames steps out e = stopped E t.arrow r to b frames steps (no_step t.arrow m.Lone out (λ fs o. refl) to b frames steps refl) refl ∙ ap (λ d. with_rest (t.arrow ∷ r) (ended_at d)) e
at_lone_end (token.Word word.As ∷ r) h to b frames steps out e = stopped E t.as_ r to b frames steps (no_step t.as_ m.Lone out (λ fs o. refl) to b frames steps refl) refl ∙ ap (λ d. with_rest (t.as_ ∷ r) (ended_at d)) e
at_lone_end (_ ∷ r) h to b frames steps out e = absurd h

list_items : {s r : Tokens} {o out : Steps} {total : ℕ} → EndsList r → ReachesItems L line 1 s r [] o total out → run L s m.Next (m.Line 1 ∷ []) o ≡ Some (read_to (m.MakeTuple total ∷ out) r)
list_items {r = r} {out = out} h (behind_item k to frames steps b e c l i) =
    e ∙ at_list_end r h k to b frames steps out c ∙ ap (λ (x : Steps). Some (read_to x r)) (listed_many k out i ∙ ap (λ j. m.MakeTuple j ∷ out) l)
list_items {r = r} {out = out} h (behind_comma k e l i) = e ∙ after_list_commas r h k out i ∙ ap (λ j. Some (read_to (m.MakeTuple j ∷ out) r)) l

list_ends : {s r : Tokens} {out : Steps} → EndsList r → ReachesList L line s r [] [] out → run L s m.Next (m.Line 0 ∷ []) [] ≡ Some (read_to out r)
list_ends {r = r} {out = out} h (behind_one to frames steps b e c) = e ∙ at_list_end r h 0 to b frames steps out c
list_ends {r = r} h (behind_tuple s' o' total out' e i l) = e ∙ list_items h i ∙ ap (λ (x : Steps). Some (read_to x r)) l

pub is_read : {k : Level} {s r : Tokens} {e : Expression} (d : Spells k s r e) → IsEnd k r → read k s ≡ Some (read_to (emit d []) r)
is_read {k = L} d h = list_ends h (complete L d line [] [])
is_read {k = E} {r = r} d h =
    let x = complete E d true (m.Lone ∷ []) [] (omega arith) in
    x.reached ∙ at_lone_end r h x.to x.is_behind x.frames x.steps (emit d []) (x.closes 8 (omega arith))
is_read {k = _} d h = absurd h
