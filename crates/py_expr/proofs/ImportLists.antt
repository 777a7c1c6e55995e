-- Import items, as they are read and as the grammar has them.
use Rattle.std.proofs.Common.{◌≡◌, Bool, true, false, List, [], ◌∷◌, ◌++◌, length, Option, Some, None, Result, Ok, Err, IfOk, refl, sym, ap, subst, ◌∙◌, append_assoc, arith}
use Rattle.std.proofs.lemmas.List.{append-nil}
use Rattle.std.specs.declared.alloc.AllocError.{AllocError}
use Rattle.py_tree.specs.Syntax.{Text}
use Rattle.py_tree.specs.declared.statement.Import.{Import}
use Rattle.py_lexer.specs.declared.token.Token.TheVariants as token
use Rattle.py_lexer.specs.declared.token.Keyword.TheVariants as word
use Rattle.py_lexer.specs.declared.token.Mark.TheVariants as mark
use Rattle.py_phrases.specs.Tokens as t
use Rattle.py_phrases.specs.Grammar.{Tokens}
use Rattle.py_expr.specs.Lines as l
use Rattle.py_expr.specs.Lines.{Item, ImportItems, Taken}
use Rattle.py_expr.specs.LineEnds.{EndsItem}
use Rattle.py_expr.specs.ImportRuns.{ItemList, item_list, items_at, behind_items, item_and, IsItem, AreImported, AreTaken, AreAll}

abbrev import_of : Text → Option Text → Import
import_of n a = record { name = n; alias = a }

-- ---- an item

pub no_item : (s : Tokens) → ((n : Text) (r : Tokens) → s ≡ token.Name n ∷ r → ⊥) → (comma : Bool) → items_at comma s ≡ item_list [] comma s
no_item (token.Name n ∷ r) h comma = absurd (h n r refl)
no_item s h comma = refl

alone : (n : Text) (m : Tokens) → ((a : Text) (r : Tokens) → m ≡ t.as_ ∷ token.Name a ∷ r → ⊥) → (comma : Bool) → items_at comma (token.Name n ∷ m) ≡ item_and (import_of n None) m
alone n (token.Word word.As ∷ token.Name a ∷ r) h comma = absurd (h a r refl)
alone n (token.Mark mark.Comma ∷ r) h comma = refl
alone n m h comma = refl

renamed : (n a : Text) (r : Tokens) (comma : Bool) → items_at comma (token.Name n ∷ t.as_ ∷ token.Name a ∷ r) ≡ item_and (import_of n (Some a)) r
renamed n a (token.Mark mark.Comma ∷ r) comma = refl
renamed n a r comma = refl

pub item_alone : (s m : Tokens) (n copy : Text) → s ≡ token.Name n ∷ m → ((a : Text) (r : Tokens) → m ≡ t.as_ ∷ token.Name a ∷ r → ⊥) → copy ≡ n → IsItem s (record { name = copy; alias = None }) m
item_alone s m n copy h none same =
    let e : length s ≡ length (token.Name n ∷ m) = ap length h in
    record {
      is_read = λ comma. ap (items_at comma) h ∙ alone n m none comma ∙ ap (λ z. item_and (import_of z None) m) (sym same);
      shorter = omega (arith, e);
    }

pub item_renamed : (s m r : Tokens) (n a copy other : Text) → s ≡ token.Name n ∷ m → m ≡ t.as_ ∷ token.Name a ∷ r → copy ≡ n → other ≡ a → IsItem s (record { name = copy; alias = Some other }) r
item_renamed s m r n a copy other h k same same' =
    let whole : s ≡ token.Name n ∷ t.as_ ∷ token.Name a ∷ r = h ∙ ap (λ z. token.Name n ∷ z) k in
    let e : length s ≡ length (token.Name n ∷ t.as_ ∷ token.Name a ∷ r) = ap length whole in
    record {
      is_read = λ comma. ap (items_at comma) whole ∙ renamed n a r comma ∙ ap (λ z. item_and (import_of z (Some a)) r) (sym same) ∙ ap (λ z. item_and (import_of copy (Some z)) r) (sym same');
      shorter = omega (arith, e);
    }

-- ---- the loop

-- an item with a comma behind it, taken over
pub next_item : (before after : List Import) (i : Import) (comma : Bool) (s m r : Tokens) (total : ItemList) → IsItem s i m → m ≡ t.comma ∷ r → after ≡ before ++ i ∷ [] → behind_items before (items_at comma s) ≡ total → behind_items after (items_at true r) ≡ total
next_item before after i comma s m r total item is_comma is_after h =
    let taken : items_at comma s ≡ behind_items (i ∷ []) (items_at true r) = item.is_read comma ∙ ap (item_and i) is_comma in
    let more : after ++ (items_at true r).items ≡ before ++ i ∷ (items_at true r).items = rw is_after (append_assoc before (i ∷ []) (items_at true r).items) in
    ap (λ z. record (items_at true r) { items = z }) more ∙ sym (ap (behind_items before) taken) ∙ h

uncontinued : (i : Import) (m : Tokens) → ((r : Tokens) → m ≡ t.comma ∷ r → ⊥) → item_and i m ≡ item_list (i ∷ []) false m
uncontinued i (token.Mark mark.Comma ∷ r) h = absurd (h r refl)
uncontinued i m h = refl

-- an item with none behind it
pub last_item : (before after : List Import) (i : Import) (comma : Bool) (s m : Tokens) (total : ItemList) → IsItem s i m → ((r : Tokens) → m ≡ t.comma ∷ r → ⊥) → after ≡ before ++ i ∷ [] → behind_items before (items_at comma s) ≡ total → item_list after false m ≡ total
last_item before after i comma s m total item none is_after h =
    ap (λ z. item_list z false m) is_after ∙ sym (ap (behind_items before) (item.is_read comma ∙ uncontinued i m none)) ∙ h

pub no_more : (before : List Import) (comma : Bool) (s : Tokens) (total : ItemList) → ((c : Bool) → items_at c s ≡ item_list [] c s) → behind_items before (items_at comma s) ≡ total → item_list before comma s ≡ total
no_more before comma s total none h = ap (λ z. item_list z comma s) (sym (append-nil before)) ∙ sym (ap (behind_items before) (none comma)) ∙ h

-- ---- what was read stands there

abbrev behind_comma : Bool → Tokens → Tokens
behind_comma true r = t.comma ∷ r
behind_comma false r = r

data Shape (comma : Bool) : Tokens → ItemList → Type 0 where
  nothing : {s : Tokens} → Shape comma s (item_list [] comma s)
  some_items : {i : Import} {is : List Import} {last : Bool} {s r : Tokens} → ImportItems s (behind_comma last r) (i ∷ is) → Shape comma s (item_list (i ∷ is) last r)

grown : (comma : Bool) (i : Import) (s m : Tokens) (l' : ItemList) → Item s (t.comma ∷ m) i → Shape true m l' → Shape comma s (behind_items (i ∷ []) l')
grown comma i s m _ u nothing = some_items (l.last_import u)
grown comma i s m _ u (some_items us) = some_items (l.next_import u us)

shape : (comma : Bool) (s : Tokens) → Shape comma s (items_at comma s)
shape comma (token.Name n ∷ token.Word word.As ∷ token.Name a ∷ token.Mark mark.Comma ∷ s) = grown comma (import_of n (Some a)) (token.Name n ∷ t.as_ ∷ token.Name a ∷ t.comma ∷ s) s (items_at true s) l.an_item_as (shape true s)
shape comma (token.Name n ∷ token.Word word.As ∷ token.Name a ∷ s) = some_items (l.last_import l.an_item_as)
shape comma (token.Name n ∷ token.Mark mark.Comma ∷ s) = grown comma (import_of n None) (token.Name n ∷ t.comma ∷ s) s (items_at true s) l.an_item (shape true s)
shape comma (token.Name n ∷ s) = some_items (l.last_import l.an_item)
shape comma s = nothing

stand : (comma last : Bool) (s r : Tokens) (items : List Import) (l' : ItemList) → Shape comma s l' → item_list items last r ≡ l' → (items ≡ [] → ⊥) → ImportItems s (behind_comma last r) items
stand comma last s r items _ nothing h some_there = absurd (some_there (ap (λ (l : ItemList). l.items) h))
stand comma last s r items _ (some_items {i = i} {is = is} {last = w} {r = q} u) h some_there =
    let e : items ≡ i ∷ is = ap (λ (l : ItemList). l.items) h in
    let c : last ≡ w = ap (λ (l : ItemList). l.comma) h in
    let p : r ≡ q = ap (λ (l : ItemList). l.rest) h in
    subst (λ z. ImportItems s (behind_comma z r) items) (sym c) (subst (λ z. ImportItems s (behind_comma w z) items) (sym p) (subst (λ z. ImportItems s (behind_comma w q) z) (sym e) u))

-- ---- what stands there is read

item_is_read : (comma : Bool) (s r : Tokens) (i : Import) → Item s r i → EndsItem r → items_at comma s ≡ item_and i r
item_is_read comma _ r _ (l.an_item {n = n}) h = alone n r (λ a q e. subst EndsItem e h) comma
item_is_read comma _ r _ (l.an_item_as {n = n} {a = a}) h = renamed n a r comma

-- what is read behind items
abbrev after : Tokens → ItemList
after (token.Mark mark.Comma ∷ q) = items_at true q
after r = item_list [] false r

goes_on : (i : Import) (r : Tokens) → item_and i r ≡ behind_items (i ∷ []) (after r)
goes_on i (token.Mark mark.Comma ∷ q) = refl
goes_on i r = refl

are_read : (comma : Bool) (s r : Tokens) (is : List Import) → ImportItems s r is → EndsItem r → items_at comma s ≡ behind_items is (after r)
are_read comma s r _ (l.last_import {i = i} u) h = item_is_read comma s r i u h ∙ goes_on i r
are_read comma s r _ (l.next_import {m = m} {i = i} {is = is} u us) h = item_is_read comma s (t.comma ∷ m) i u tt ∙ ap (behind_items (i ∷ [])) (are_read true m r is us h)

all_read : (s r q : Tokens) (is : List Import) (last : Bool) → ImportItems s r is → EndsItem r → after r ≡ item_list [] last q → items_at false s ≡ item_list is last q
all_read s r q is last u h e = are_read false s r is u h ∙ ap (behind_items is) e ∙ ap (λ z. item_list z last q) (append-nil is)

some_there : (s r : Tokens) (is : List Import) → ImportItems s r is → is ≡ [] → ⊥
some_there s r _ (l.last_import u) h = cc
some_there s r _ (l.next_import u us) h = cc

-- ---- without parentheses

pub bare_comma : (s rest : Tokens) (items : List Import) (comma : Bool) → item_list items comma rest ≡ items_at false s → comma ≡ true → AreImported s None
bare_comma s rest items comma read h is u =
    let both : item_list items comma rest ≡ item_list is false [] = read ∙ all_read s [] [] is false u tt refl in
    let c : comma ≡ false = ap (λ (l : ItemList). l.comma) both in
    absurd cc

pub bare_all : (s rest : Tokens) (items : List Import) (comma : Bool) (o : Option (List Import)) → item_list items comma rest ≡ items_at false s → comma ≡ false → AreAll items rest o → AreImported s o
bare_all s rest items comma None read h none = λ is u.
    let both : item_list items comma rest ≡ item_list is false [] = read ∙ all_read s [] [] is false u tt refl in
    some_there s [] is u (sym (ap (λ (l : ItemList). l.items) both) ∙ none (ap (λ (l : ItemList). l.rest) both))
bare_all s rest items comma (Some all) read h are =
    let here : item_list items false [] ≡ items_at false s = ap (λ z. item_list items false z) (sym are.1) ∙ ap (λ z. item_list items z rest) (sym h) ∙ read in
    subst (λ z. ImportItems s [] z) (sym are.0) (stand false false s [] items (items_at false s) (shape false s) here are.2)

-- ---- in parentheses

record ReadsTaken (s : Tokens) (is : List Import) : Type 0 where
  last : Bool
  is_read : items_at false s ≡ item_list is last (t.right_paren ∷ [])
  some_items_there : is ≡ [] → ⊥

items_begin : {r : Tokens} {is : List Import} {s : Tokens} → ImportItems (t.left_paren ∷ s) r is → ⊥
items_begin (l.last_import u) = elim u [ ]
items_begin (l.next_import u us) = elim u [ ]

reads_taken : (s : Tokens) (is : List Import) → Taken (t.left_paren ∷ s) is → ReadsTaken s is
reads_taken s is (l.taken u) = absurd (items_begin u)
reads_taken s is (l.taken_in_parentheses u) = record { last = false; is_read = all_read s (t.right_paren ∷ []) (t.right_paren ∷ []) is false u tt refl; some_items_there = some_there s (t.right_paren ∷ []) is u }
reads_taken s is (l.taken_with_comma u) = record { last = true; is_read = all_read s (t.comma ∷ t.right_paren ∷ []) (t.right_paren ∷ []) is true u tt refl; some_items_there = some_there s (t.comma ∷ t.right_paren ∷ []) is u }

pub unclosed : (s rest : Tokens) (items : List Import) (comma : Bool) → item_list items comma rest ≡ items_at false s → ((r : Tokens) → rest ≡ t.right_paren ∷ r → ⊥) → AreTaken (t.left_paren ∷ s) None
unclosed s rest items comma read none is u =
    let x = reads_taken s is u in
    none [] (ap (λ (l : ItemList). l.rest) (read ∙ x.is_read))

taken_stands : (s : Tokens) (is : List Import) (last : Bool) → ImportItems s (behind_comma last (t.right_paren ∷ [])) is → Taken (t.left_paren ∷ s) is
taken_stands s is true u = l.taken_with_comma u
taken_stands s is false u = l.taken_in_parentheses u

pub closed_all : (s rest behind : Tokens) (items : List Import) (comma : Bool) (o : Option (List Import)) → item_list items comma rest ≡ items_at false s → rest ≡ t.right_paren ∷ behind → AreAll items behind o → AreTaken (t.left_paren ∷ s) o
closed_all s rest behind items comma None read h none = λ is u.
    let x = reads_taken s is u in
    let both : item_list items comma rest ≡ item_list is x.last (t.right_paren ∷ []) = read ∙ x.is_read in
    let ends : t.right_paren ∷ behind ≡ t.right_paren ∷ [] = sym h ∙ ap (λ (l : ItemList). l.rest) both in
    let end : behind ≡ [] = cc in
    x.some_items_there (sym (ap (λ (l : ItemList). l.items) both) ∙ none end)
closed_all s rest behind items comma (Some all) read h are =
    let here : item_list items comma (t.right_paren ∷ []) ≡ items_at false s = ap (λ z. item_list items comma (t.right_paren ∷ z)) (sym are.1) ∙ ap (item_list items comma) (sym h) ∙ read in
    subst (λ z. Taken (t.left_paren ∷ s) z) (sym are.0) (taken_stands s items comma (stand false comma s (t.right_paren ∷ []) items (items_at false s) (shape false s) here are.2))

-- no parenthesis at the front
taken_bare : (s : Tokens) (o : Option (List Import)) → ((r : Tokens) → s ≡ t.left_paren ∷ r → ⊥) → AreImported s o → AreTaken s o
taken_bare s None none h = λ is u. at s is u none h where
  at : (s : Tokens) (is : List Import) → Taken s is → ((r : Tokens) → s ≡ t.left_paren ∷ r → ⊥) → AreImported s None → ⊥
  at s is (l.taken u) none h = h is u
  at _ is (l.taken_in_parentheses {s = s} u) none h = none s refl
  at _ is (l.taken_with_comma {s = s} u) none h = none s refl
taken_bare s (Some all) none h = l.taken h

pub taken_bare_ok : (s : Tokens) (o : Result (Option (List Import)) AllocError) → ((r : Tokens) → s ≡ t.left_paren ∷ r → ⊥) → IfOk o (AreImported s) → IfOk o (AreTaken s)
taken_bare_ok s (Ok found) none h = taken_bare s found none h
taken_bare_ok s (Err e) none h = tt
