-- What the machine's state shows of the indentations and levels of the rows that it read.
use Rattle.std.proofs.Common.{◌≡◌, ◌<◌, ◌≤◌, ◌+◌, ℕ, Bool, true, false, ◌&&◌, ◌||◌, cond, List, [], ◌∷◌, ◌++◌, map, filter, length, Option, Some, None, is_some, refl, sym, ap, subst, ◌∙◌, arith, eqb-true, eq-eqb, ltb-true, lt-ltb, le-ltb, if◌then◌else◌, nat_eq, nat_lt}
use Rattle.std.specs.List.{list_all, list_any, last_or}
use Rattle.std.proofs.lemmas.List.{length-map}
use Rattle.py_tree.specs.Syntax as x
use Rattle.py_tree.specs.Syntax.{Kind, Statement}
use Rattle.py_expr.specs.Forms as form
use Rattle.py_expr.specs.Forms.{Form, Head}
use Rattle.py_blocks.specs.Rows.{Row}
use Rattle.py_blocks.specs.Blocks.{Rows, Context, behind, simple_stands}
use Rattle.py_blocks.specs.Faults.{enclosing, level, wants_block, indent_stands}
use Rattle.py_blocks.specs.Machine.{Owner, Block, Frame, State, Placed, onto, alone, inside, fresh, put, settled, starts, started, continued, head_stands, and_then, beside_head, begin, place, above, place_in, place_back, below_head, place_waiting, step, start, admits, admits_in}
use Rattle.py_blocks.proofs.Remains.{Sorted}
use Rattle.py_blocks.proofs.Complete.{put_indent}

-- ---- the rows that enclose the last

abbrev shallower : ℕ → Row → Bool
shallower i a = nat_lt a.indent i

all_and_last : (i : ℕ) (s : Rows) (t : Row) → list_all (λ b. nat_lt i b.indent) (s ++ t ∷ []) ≡ (list_all (λ b. nat_lt i b.indent) s && nat_lt i t.indent)
all_and_last i [] t = go (nat_lt i t.indent)
  where
    go : (test : Bool) → (test && true) ≡ test
    go true = refl
    go false = refl
all_and_last i (a ∷ s) t = go (nat_lt i a.indent) (all_and_last i s t)
  where
    go : (test : Bool) → list_all (λ b. nat_lt i b.indent) (s ++ t ∷ []) ≡ (list_all (λ b. nat_lt i b.indent) s && nat_lt i t.indent)
        → (test && list_all (λ b. nat_lt i b.indent) (s ++ t ∷ [])) ≡ ((test && list_all (λ b. nat_lt i b.indent) s) && nat_lt i t.indent)
    go true e = e
    go false e = refl

pub enclosing_next : (s : Rows) (t : Row) → enclosing (s ++ t ∷ []) ≡ filter (shallower t.indent) (enclosing s) ++ t ∷ []
enclosing_next [] t = refl
enclosing_next (a ∷ s) t = rw (all_and_last a.indent s t) (go (list_all (λ b. nat_lt a.indent b.indent) s) (nat_lt a.indent t.indent) refl (enclosing_next s t))
  where
    go : (all one : Bool) → nat_lt a.indent t.indent ≡ one → enclosing (s ++ t ∷ []) ≡ filter (shallower t.indent) (enclosing s) ++ t ∷ []
        → (if all && one then a ∷ enclosing (s ++ t ∷ []) else enclosing (s ++ t ∷ [])) ≡ filter (shallower t.indent) (if all then a ∷ enclosing s else enclosing s) ++ t ∷ []
    go true true e h = rw (e, h) refl
    go true false e h = rw (e, h) refl
    go false one e h = h

-- ---- the indentations of the open blocks, the outermost first, and then `more`

abbrev pub lined : List Frame → List ℕ → List ℕ
lined [] is = is
lined (f ∷ fs) is = lined fs (f.block.indent ∷ is)

lined_append : (fs : List Frame) (is js : List ℕ) → lined fs (is ++ js) ≡ lined fs is ++ js
lined_append [] is js = refl
lined_append (f ∷ fs) is js = lined_append fs (f.block.indent ∷ is) js

length_lined : (fs : List Frame) (is : List ℕ) → length (lined fs is) ≡ length fs + length is
length_lined [] is = omega arith
length_lined (f ∷ fs) is = let e = length_lined fs (f.block.indent ∷ is) in omega (arith, e)

abbrev under : ℕ → ℕ → Bool
under t j = nat_lt j t

-- blocks less deep than t all pass
filter_lined : (t i : ℕ) (fs : List Frame) (is : List ℕ) → i ≤ t → Sorted i fs → filter (under t) (lined fs is) ≡ lined fs (filter (under t) is)
filter_lined t i [] is h deep = refl
filter_lined t i (f ∷ fs) is h deep =
    let e : nat_lt f.block.indent t ≡ true = lt-ltb f.block.indent t (omega (arith, deep.0)) in
    let next = filter_lined t f.block.indent fs (f.block.indent ∷ is) (omega (arith, deep.0)) deep.1 in
    next ∙ ap (λ test. lined fs (cond test (f.block.indent ∷ filter (under t) is) (filter (under t) is))) e

-- ---- a row in its block

record Stands (i : ℕ) (f : Form) (p : Placed) : Type 0 where
  indent : p.block.indent ≡ i
  waits : wants_block f ≡ is_some p.waiting

abbrev StandsIf : ℕ → Form → Option Placed → Type 0
StandsIf i f None = Unit {0}
StandsIf i f (Some p) = Stands i f p

stands_if : (i : ℕ) (f : Form) (test : Bool) (p : Option Placed) → StandsIf i f p → StandsIf i f (if test then p else None)
stands_if i f true p h = h
stands_if i f false p h = tt

head_stands_there : (n : ℕ) (h : Head) (l : Option Kind) (b : Block) (o : Option Owner) → StandsIf b.indent (form.Header h l) (and_then (beside_head b n l) o)
head_stands_there n h l b None = tt
head_stands_there n h None b (Some o) = record { indent = refl; waits = refl }
head_stands_there n h (Some k) b (Some o) = stands_if b.indent (form.Header h (Some k)) (simple_stands (inside b.context o) k) _ (record { indent = put_indent o (alone (x.On n k)) b; waits = refl })

begins_there : (i : ℕ) (c : Context) (done : List Statement) (n : ℕ) (f : Form) → StandsIf i f (begin i c done n f)
begins_there i c done n (form.Simple k) = stands_if i (form.Simple k) (simple_stands c k) _ (record { indent = refl; waits = refl })
begins_there i c done n (form.Header h l) = stands_if i (form.Header h l) (head_stands c h) _ (head_stands_there n h l (fresh i (behind c) done) (started n h))

settled_there : (i : ℕ) (f : Form) (g : List Statement → Option Placed) (all : Option (List Statement)) → ((k : List Statement) → StandsIf i f (g k)) → StandsIf i f (and_then g all)
settled_there i f g None h = tt
settled_there i f g (Some k) h = h k

stands_there : (b : Block) (n : ℕ) (f : Form) → StandsIf b.indent f (place b n f)
stands_there b n (form.Simple k) = settled_there b.indent (form.Simple k) (λ all. begin b.indent b.context all n (form.Simple k)) (settled b.done b.last) (λ all. begins_there b.indent b.context all n (form.Simple k))
stands_there b n (form.Header h l) = go (starts h)
  where
    go : (test : Bool) → StandsIf b.indent (form.Header h l) (if test then and_then (λ all. begin b.indent b.context all n (form.Header h l)) (settled b.done b.last) else and_then (beside_head (fresh b.indent b.context b.done) n l) (continued b.last n h))
    go true = settled_there b.indent (form.Header h l) (λ all. begin b.indent b.context all n (form.Header h l)) (settled b.done b.last) (λ all. begins_there b.indent b.context all n (form.Header h l))
    go false = head_stands_there n h l (fresh b.indent b.context b.done) (continued b.last n h)

-- ---- a row in a state

abbrev among : ℕ → List Frame → ℕ → Bool
among j fs i = nat_eq j i || list_any (λ f. nat_eq f.block.indent i) fs

-- the state behind a row t, which was placed in one of the blocks b and fs
record Left (t : Row) (fs : List Frame) (b : Block) (st : State) : Type 0 where
  at_most : t.indent ≤ b.indent
  one_of : among b.indent fs t.indent ≡ true
  inner : st.inner.indent ≡ t.indent
  waits : wants_block t.form ≡ is_some st.waiting
  sorted : Sorted st.inner.indent st.outer
  levels : (is : List ℕ) → filter (under t.indent) is ≡ [] → filter (under t.indent) (lined fs (b.indent ∷ is)) ≡ lined st.outer []

abbrev LeftIf : Row → List Frame → Block → Option State → Type 0
LeftIf t fs b None = Unit {0}
LeftIf t fs b (Some st) = Left t fs b st

left_here : (t : Row) (fs : List Frame) (b : Block) → Sorted b.indent fs → b.indent ≡ t.indent → LeftIf t fs b (place_in t fs b)
left_here t fs b deep e = go (place b t.line t.form) (stands_there b t.line t.form)
  where
    not_under : nat_lt b.indent t.indent ≡ false
    not_under = le-ltb b.indent t.indent (omega (arith, e))

    go : (p : Option Placed) → StandsIf b.indent t.form p → LeftIf t fs b (and_then (above fs) p)
    go None h = tt
    go (Some p) h = record {
      at_most = omega (arith, e);
      one_of = rw (eq-eqb b.indent t.indent e) refl;
      inner = h.indent ∙ e;
      waits = h.waits;
      sorted = subst (λ i. Sorted i fs) (sym h.indent) deep;
      levels = λ is none. filter_lined t.indent b.indent fs (b.indent ∷ is) (omega (arith, e)) deep ∙ ap (lined fs) (ap (λ test. cond test (b.indent ∷ filter (under t.indent) is) (filter (under t.indent) is)) not_under ∙ none);
    }

or_true : (p q : Bool) → q ≡ true → (p || q) ≡ true
or_true true q e = refl
or_true false q e = e

left_further : (t : Row) (f : Frame) (fs : List Frame) (b c : Block) (st : State) → f.block.indent < b.indent → c.indent ≡ f.block.indent → Left t fs c st → Left t (f ∷ fs) b st
left_further t f fs b c st deep same h = record {
  at_most = omega (arith, h.at_most, same);
  one_of = or_true (nat_eq b.indent t.indent) (among f.block.indent fs t.indent) (subst (λ j. among j fs t.indent ≡ true) same h.one_of);
  inner = h.inner;
  waits = h.waits;
  sorted = h.sorted;
  levels = λ is none.
      let over : nat_lt b.indent t.indent ≡ false = le-ltb b.indent t.indent (omega (arith, h.at_most, same)) in
      let none_yet : filter (under t.indent) (b.indent ∷ is) ≡ [] = ap (λ test. cond test (b.indent ∷ filter (under t.indent) is) (filter (under t.indent) is)) over ∙ none in
      subst (λ j. filter (under t.indent) (lined fs (j ∷ b.indent ∷ is)) ≡ lined st.outer []) same (h.levels (b.indent ∷ is) none_yet);
}

left_back : (t : Row) (fs : List Frame) (b : Block) → Sorted b.indent fs → LeftIf t fs b (place_back t fs b)
left_back t [] b deep = go (nat_eq b.indent t.indent) (λ e. left_here t [] b deep (eqb-true b.indent t.indent e))
  where
    go : (test : Bool) → (test ≡ true → LeftIf t [] b (place_in t [] b)) → LeftIf t [] b (if test then place_in t [] b else None)
    go true h = h refl
    go false h = tt
left_back t (f ∷ fs) b deep =
    go (nat_eq b.indent t.indent) (λ e. left_here t (f ∷ fs) b deep (eqb-true b.indent t.indent e))
    (λ k. left_back t fs (put f.owner (onto k x.end_of_statements) f.block) (subst (λ i. Sorted i fs) (sym (put_indent f.owner (onto k x.end_of_statements) f.block)) deep.1))
  where
    further : (c : Block) → c.indent ≡ f.block.indent → (st : Option State) → LeftIf t fs c st → LeftIf t (f ∷ fs) b st
    further c same None h = tt
    further c same (Some st) h = left_further t f fs b c st deep.0 same h

    ends : (all : Option (List Statement)) → ((k : List Statement) → LeftIf t fs (put f.owner (onto k x.end_of_statements) f.block) (place_back t fs (put f.owner (onto k x.end_of_statements) f.block)))
        → LeftIf t (f ∷ fs) b (and_then (λ k. place_back t fs (put f.owner (onto k x.end_of_statements) f.block)) all)
    ends None h = tt
    ends (Some k) h = further (put f.owner (onto k x.end_of_statements) f.block) (put_indent f.owner (onto k x.end_of_statements) f.block) (place_back t fs (put f.owner (onto k x.end_of_statements) f.block)) (h k)

    go : (test : Bool) → (test ≡ true → LeftIf t (f ∷ fs) b (place_in t (f ∷ fs) b)) → ((k : List Statement) → LeftIf t fs (put f.owner (onto k x.end_of_statements) f.block) (place_back t fs (put f.owner (onto k x.end_of_statements) f.block)))
        → LeftIf t (f ∷ fs) b (if test then place_in t (f ∷ fs) b else and_then (λ k. place_back t fs (put f.owner (onto k x.end_of_statements) f.block)) (settled b.done b.last))
    go true here h = here refl
    go false here h = ends (settled b.done b.last) h

-- ---- a row behind a state

abbrev inmost : State → List ℕ
inmost st = st.inner.indent ∷ []

pub record Stepped (t : Row) (st to : State) : Type 0 where
  pub inner : to.inner.indent ≡ t.indent
  pub waits : wants_block t.form ≡ is_some to.waiting
  pub sorted : Sorted to.inner.indent to.outer
  pub levels : filter (under t.indent) (lined st.outer (inmost st)) ≡ lined to.outer []
  pub admitted : admits st t.indent ≡ true

abbrev SteppedIf : Row → State → Option State → Type 0
SteppedIf t st None = Unit {0}
SteppedIf t st (Some to) = Stepped t st to

below_stepped : (t : Row) (fs : List Frame) (b : Block) (o : Owner) → Sorted b.indent fs → SteppedIf t (record { inner = b; outer = fs; waiting = Some o }) (below_head t fs b o)
below_stepped t fs b o deep = go (nat_lt b.indent t.indent) refl (place (fresh t.indent (inside b.context o) []) t.line t.form) (stands_there (fresh t.indent (inside b.context o) []) t.line t.form)
  where
    go : (test : Bool) → nat_lt b.indent t.indent ≡ test → (p : Option Placed) → StandsIf t.indent t.form p
        → SteppedIf t (record { inner = b; outer = fs; waiting = Some o }) (if test then and_then (above (record { block = b; owner = o } ∷ fs)) p else None)
    go false e p h = tt
    go true e None h = tt
    go true e (Some p) h =
        let deeper = ltb-true b.indent t.indent e in
        record {
          inner = h.indent;
          waits = h.waits;
          sorted = (rw h.indent deeper, deep);
          levels = filter_lined t.indent b.indent fs (b.indent ∷ []) (omega (arith, deeper)) deep ∙ ap (lined fs) (ap (λ test. cond test (b.indent ∷ []) []) e);
          admitted = e;
        }

stepped_if : (t : Row) (fs : List Frame) (b : Block) (o : Option Owner) → Sorted b.indent fs → SteppedIf t (record { inner = b; outer = fs; waiting = o }) (place_waiting t fs b o)
stepped_if t fs b None deep = go (place_back t fs b) (left_back t fs b deep)
  where
    go : (to : Option State) → LeftIf t fs b to → SteppedIf t (record { inner = b; outer = fs; waiting = None }) to
    go None h = tt
    go (Some to) h = record { inner = h.inner; waits = h.waits; sorted = h.sorted; levels = h.levels [] refl; admitted = h.one_of }
stepped_if t fs b (Some o) deep = below_stepped t fs b o deep

pub stepped : (t : Row) (st to : State) → Sorted st.inner.indent st.outer → step st t ≡ Some to → Stepped t st to
stepped t st to deep e = subst (SteppedIf t st) e (stepped_if t st.outer st.inner st.waiting deep)

-- ---- the rows that were read

pub data Shows : Rows → State → Type 0 where
  none_yet : Shows [] start
  some_rows : {rows : Rows} {st : State} (t : Row) → last_or None rows ≡ Some t → t.indent ≡ st.inner.indent → wants_block t.form ≡ is_some st.waiting
      → map (λ a. a.indent) (enclosing rows) ≡ lined st.outer (inmost st) → Sorted st.inner.indent st.outer → Shows rows st

pub shows_sorted : {rows : Rows} {st : State} → Shows rows st → Sorted st.inner.indent st.outer
shows_sorted none_yet = tt
shows_sorted (some_rows t last indent waits levels sorted) = sorted

last_of : (rows : Rows) (o : Option Row) (t : Row) → last_or o (rows ++ t ∷ []) ≡ Some t
last_of [] o t = refl
last_of (a ∷ rows) o t = last_of rows (Some a) t

map_filter : (i : ℕ) (s : Rows) → map (λ a. a.indent) (filter (shallower i) s) ≡ filter (under i) (map (λ a. a.indent) s)
map_filter i [] = refl
map_filter i (a ∷ s) = go (nat_lt a.indent i) (map_filter i s)
  where
    go : (test : Bool) → map (λ a. a.indent) (filter (shallower i) s) ≡ filter (under i) (map (λ a. a.indent) s)
        → map (λ a. a.indent) (cond test (a ∷ filter (shallower i) s) (filter (shallower i) s)) ≡ cond test (a.indent ∷ filter (under i) (map (λ a. a.indent) s)) (filter (under i) (map (λ a. a.indent) s))
    go true e = ap (λ is. a.indent ∷ is) e
    go false e = e

map_and_last : (s : Rows) (t : Row) → map (λ a. a.indent) (s ++ t ∷ []) ≡ map (λ a. a.indent) s ++ t.indent ∷ []
map_and_last [] t = refl
map_and_last (a ∷ s) t = ap (λ is. a.indent ∷ is) (map_and_last s t)

levels_next : (rows : Rows) (t : Row) (st to : State) → filter (under t.indent) (map (λ a. a.indent) (enclosing rows)) ≡ lined to.outer [] → to.inner.indent ≡ t.indent
    → map (λ a. a.indent) (enclosing (rows ++ t ∷ [])) ≡ lined to.outer (inmost to)
levels_next rows t st to levels same =
    ap (map (λ a. a.indent)) (enclosing_next rows t) ∙ map_and_last (filter (shallower t.indent) (enclosing rows)) t
    ∙ ap (λ is. is ++ t.indent ∷ []) (map_filter t.indent (enclosing rows) ∙ levels)
    ∙ ap (λ i. lined to.outer [] ++ i ∷ []) (sym same) ∙ sym (lined_append to.outer [] (inmost to))

or_false : (p : Bool) → (p || false) ≡ p
or_false true = refl
or_false false = refl

pub shows_next : {rows : Rows} {st : State} (t : Row) (to : State) → Shows rows st → step st t ≡ Some to → Shows (rows ++ t ∷ []) to
shows_next t to none_yet e =
    let s = stepped t start to tt e in
    let first : 0 ≡ t.indent = eqb-true 0 t.indent (sym (or_false (nat_eq 0 t.indent)) ∙ s.admitted) in
    let over : nat_lt 0 t.indent ≡ false = le-ltb 0 t.indent (omega (arith, first)) in
    let levels : [] ≡ lined to.outer [] = sym (ap (λ test. cond test (0 ∷ []) []) over) ∙ s.levels in
    some_rows t refl (sym s.inner) s.waits (levels_next [] t start to levels s.inner) s.sorted
shows_next {rows = rows} {st = st} t to (some_rows u last indent waits levels sorted) e =
    let s = stepped t st to sorted e in
    some_rows t (last_of rows None t) (sym s.inner) s.waits (levels_next rows t st to (ap (filter (under t.indent)) levels ∙ s.levels) s.inner) s.sorted

-- ---- levels

pub level_is : {rows : Rows} {st : State} → Shows rows st → level rows ≡ length st.outer
level_is none_yet = refl
level_is {rows = rows} {st = st} (some_rows t last indent waits levels sorted) =
    let a : length (enclosing rows) ≡ length (map (λ a. a.indent) (enclosing rows)) = sym (length-map (enclosing rows) (λ a. a.indent)) in
    let b : length (map (λ a. a.indent) (enclosing rows)) ≡ length (lined st.outer (inmost st)) = ap length levels in
    let c : length (lined st.outer (inmost st)) ≡ length st.outer + 1 = length_lined st.outer (inmost st) in
    omega (arith, a, b, c)

-- ---- indentations

same_tests : (p q : Bool) → (p ≡ true → q ≡ true) → (q ≡ true → p ≡ true) → p ≡ q
same_tests true true f g = refl
same_tests true false f g = sym (f refl)
same_tests false true f g = g refl
same_tests false false f g = refl

any_map : (i : ℕ) (s : Rows) → list_any (λ a. nat_eq a.indent i) s ≡ list_any (λ j. nat_eq j i) (map (λ a. a.indent) s)
any_map i [] = refl
any_map i (a ∷ s) = ap (λ test. nat_eq a.indent i || test) (any_map i s)

or_move : (p q r : Bool) → ((p || q) || r) ≡ (q || (p || r))
or_move true true r = refl
or_move true false r = refl
or_move false true r = refl
or_move false false r = refl

any_lined : (i : ℕ) (fs : List Frame) (is : List ℕ) → list_any (λ j. nat_eq j i) (lined fs is) ≡ (list_any (λ j. nat_eq j i) is || list_any (λ f. nat_eq f.block.indent i) fs)
any_lined i [] is = sym (or_false (list_any (λ j. nat_eq j i) is))
any_lined i (f ∷ fs) is = any_lined i fs (f.block.indent ∷ is) ∙ or_move (nat_eq f.block.indent i) (list_any (λ j. nat_eq j i) is) (list_any (λ f. nat_eq f.block.indent i) fs)

pub admits_is : {rows : Rows} {st : State} (i : ℕ) → Shows rows st → indent_stands rows i ≡ admits st i
admits_is i none_yet = same_tests (nat_eq i 0) (nat_eq 0 i || false) (λ e. rw (eq-eqb 0 i (sym (eqb-true i 0 e))) refl) (λ e. eq-eqb i 0 (sym (eqb-true 0 i (sym (or_false (nat_eq 0 i)) ∙ e))))
admits_is {rows = rows} {st = st} i (some_rows t last indent waits levels sorted) = rw last (go st.waiting waits)
  where
    go : (o : Option Owner) → wants_block t.form ≡ is_some o → (if wants_block t.form then nat_lt t.indent i else list_any (λ a. nat_eq a.indent i) (enclosing rows)) ≡ admits_in st.outer st.inner o i
    go None e = rw e (any_map i (enclosing rows) ∙ ap (list_any (λ j. nat_eq j i)) levels ∙ any_lined i st.outer (inmost st) ∙ ap (λ test. test || list_any (λ f. nat_eq f.block.indent i) st.outer) (or_false (nat_eq st.inner.indent i)))
    go (Some o) e = rw e (ap (λ j. nat_lt j i) indent)
