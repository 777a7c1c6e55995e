-- Names with commas between, as they are read and as the grammar has them.
use Rattle.std.proofs.Common.{◌≡◌, Bool, true, false, List, [], ◌∷◌, ◌++◌, refl, sym, ap, ◌∙◌, append_assoc}
use Rattle.py_tree.specs.Syntax.{Text}
use Rattle.py_lexer.specs.declared.token.Token.TheVariants as token
use Rattle.py_lexer.specs.declared.token.Mark.TheVariants as mark
use Rattle.py_phrases.specs.Tokens as t
use Rattle.py_phrases.specs.Grammar.{Tokens}
use Rattle.py_expr.specs.LineEnds.{EndsNames}
use Rattle.py_expr.specs.Runs.{NameList, name_list, names_at, behind_names, with_name}
use Rattle.py_phrases.specs.Targets as target
use Rattle.py_phrases.specs.Targets.{Many}

-- lists that are the same have the same parts
pub same_names : {a b : NameList} → a ≡ b → a.names ≡ b.names
same_names h = ap (λ l. l.names) h

pub same_comma : {a b : NameList} → a ≡ b → a.comma ≡ b.comma
same_comma h = ap (λ l. l.comma) h

pub same_rest : {a b : NameList} → a ≡ b → a.rest ≡ b.rest
same_rest h = ap (λ l. l.rest) h

-- a name with a comma behind it, taken over
pub next_name : (before after : List Text) (name copy : Text) (comma : Bool) (s m r : Tokens) (total : NameList) → s ≡ token.Name name ∷ m → m ≡ t.comma ∷ r → copy ≡ name → after ≡ before ++ copy ∷ [] → behind_names before (names_at comma s) ≡ total → behind_names after (names_at true r) ≡ total
next_name before after name copy comma s m r total is_name is_comma is_copy is_after h =
    let taken : names_at comma s ≡ with_name name (names_at true r) = ap (names_at comma) (is_name ∙ ap (λ z. token.Name name ∷ z) is_comma) in
    let more : after ++ (names_at true r).names ≡ before ++ name ∷ (names_at true r).names = rw (is_after, is_copy) (append_assoc before (name ∷ []) (names_at true r).names) in
    ap (λ z. record (names_at true r) { names = z }) more ∙ sym (ap (behind_names before) taken) ∙ h

-- what was read, by how many names there are
pub data Shape (comma : Bool) : Tokens → NameList → Type 0 where
  nothing : {s : Tokens} → Shape comma s (name_list [] comma s)
  single : {a : Text} {r : Tokens} → Shape comma (token.Name a ∷ r) (name_list (a ∷ []) false r)
  single_and_comma : {a : Text} {r : Tokens} → Shape comma (token.Name a ∷ t.comma ∷ r) (name_list (a ∷ []) true r)
  several : {a b : Text} {ns : List Text} {last : Bool} {s r : Tokens} → Many s r (a ∷ b ∷ ns) → Shape comma s (name_list (a ∷ b ∷ ns) last r)

grown : (comma : Bool) (n : Text) (s : Tokens) (l : NameList) → Shape true s l → Shape comma (token.Name n ∷ t.comma ∷ s) (with_name n l)
grown comma n _ _ nothing = single_and_comma
grown comma n _ _ single = several target.two_names
grown comma n _ _ single_and_comma = several target.two_names_and_comma
grown comma n _ _ (several m) = several (target.another_name m)

pub shape : (comma : Bool) (s : Tokens) → Shape comma s (names_at comma s)
shape comma (token.Name n ∷ token.Mark mark.Comma ∷ s) = grown comma n s (names_at true s) (shape true s)
shape comma (token.Name n ∷ s) = single
shape comma s = nothing

pub last_name : (comma : Bool) (b : Text) (r : Tokens) → EndsNames r → names_at comma (token.Name b ∷ r) ≡ name_list (b ∷ []) false r
last_name comma b (token.Mark mark.Comma ∷ r) h = absurd h
last_name comma b r h = refl

no_name : (comma : Bool) (r : Tokens) → EndsNames r → names_at comma r ≡ name_list [] comma r
no_name comma (token.Name n ∷ r) h = absurd h
no_name comma r h = refl

-- what the grammar has is read
pub record ReadsMany (comma : Bool) (s r : Tokens) (names : List Text) : Type 0 where
  pub last : Bool
  pub is_read : names_at comma s ≡ name_list names last r

pub many_is_read : (comma : Bool) (s r : Tokens) (names : List Text) → Many s r names → EndsNames r → ReadsMany comma s r names
many_is_read comma _ r _ (target.two_names {a = a} {b = b}) h = record { last = false; is_read = ap (with_name a) (last_name true b r h) }
many_is_read comma _ r _ (target.two_names_and_comma {a = a} {b = b}) h = record { last = true; is_read = ap (λ z. with_name a (with_name b z)) (no_name true r h) }
many_is_read comma _ r _ (target.another_name {s = s} {a = a} {names = names} m) h =
    let x = many_is_read true s r names m h in record { last = x.last; is_read = ap (with_name a) x.is_read }
