-- The token that is read is the one that stands, and no other.
use Rattle.std.proofs.Common.{◌≡◌, ℕ, ◌-◌, ◌≤◌, ◌<◌, Bool, true, false, cond, not, List, [], ◌∷◌, take, drop, length, get_or, Option, Some, None, Result, Ok, Err, refl, sym, ap, subst, ◌∙◌, arith}
use Rattle.std.proofs.Math.Seq.{take-length}
use Rattle.std.specs.Prelude.{◌||◌, nat_le}
use Rattle.std.specs.Option.{option_map}
use Rattle.std.proofs.lemmas.Bool.{le-leb, lt-leb}
use Rattle.unicode_ident.specs.Ident.{is_xid_continue}
use Rattle.unicode_normalization.specs.Forms.{is_in_form}
use Rattle.unicode_normalization.specs.declared.Form.TheVariants.{Nfkc}
use Rattle.py_tree.specs.Literals.{greatest_int}
use Rattle.py_tree.specs.declared.code.Code.{Code}
use Rattle.py_tree.specs.declared.code.Code.TheVariants as code
use Rattle.py_tree.specs.declared.fault.Stop.{Stop}
use Rattle.py_tree.specs.declared.fault.Stop.TheVariants as stop
use Rattle.py_lexer.specs.declared.string_literal.Quotes.{Quotes}
use Rattle.py_lexer.specs.declared.token.Keyword.{Keyword}
use Rattle.std.specs.Borrow.{Bor}
use Rattle.py_lexer.specs.declared.character.CharKind.{CharKind}
use Rattle.py_lexer.specs.declared.character.CharKind.TheVariants as kind
use Rattle.py_lexer.specs.declared.character.TokenKind.TheVariants as token_kind
use Rattle.py_lexer.specs.declared.token.Token.{Token}
use Rattle.py_lexer.specs.declared.token.Token.TheVariants as token
use Rattle.py_lexer.specs.Characters.{Text, kind_of, front, behind}
use Rattle.py_lexer.specs.Integers.{in_number}
use Rattle.py_lexer.specs.Strings.{onto, Opening, opening, Parts, closing, part}
use Rattle.py_lexer.specs.Tokens.{keyword_of, named, named_or, MarkAt, first_mark, marks, begins_with_quote, TokenAt, a_name, an_integer, a_string, a_mark}
use Rattle.py_lexer.specs.Pieces.{fault, fits}
use Rattle.py_lexer.specs.Reading.{Lexeme, lexeme, kind_at, lexeme_or_bad, name_at, mark_lexeme, mark_lexeme_at, sized, integer_in, integer_at, capped, Part}
use Rattle.py_lexer.specs.Views.{NoToken, none, too_large, GivesLexeme, IsTokenAt}
use Rattle.py_lexer.proofs.Quoted.{a_part, part_is, same_part}
use Rattle.py_lexer.proofs.Digits.{integer_is, integer_stands}

same_kind : {k k' : CharKind} → Some k ≡ Some k' → k ≡ k'
same_kind e = cc

no_integer : (cs : List ℕ) (x : Lexeme) (y : ℕ → Lexeme) → (n : ℕ) × (integer_in cs ≡ Some n) × (x ≡ y n) → integer_in cs ≡ None → ⊥
no_integer cs x y (n, e, f) h = absurd cc

-- ---- by the code

uncapped : (o : Option ℕ) (v : ℕ) → Some v ≡ option_map capped o → v ≤ greatest_int → o ≡ Some v
uncapped None v e h = absurd cc
uncapped (Some n) v e h = let same : v ≡ capped n = cc in ap Some (below n same)
  where
    below : (n : ℕ) → v ≡ capped n → n ≡ v
    below n e = grind arith

pub sized_fits : (o : Option ℕ) (v : ℕ) (r : Text) → Some v ≡ option_map capped o → v ≤ greatest_int → sized o r ≡ Ok (lexeme (token.Int v) r)
sized_fits o v r e h = ap (λ o. sized o r) (uncapped o v e h) ∙ ap (λ b. cond b (Ok (lexeme (token.Int v) r)) (Err code.IntegerTooLarge)) (le-leb v greatest_int h)

pub sized_large : (o : Option ℕ) (v : ℕ) (r : Text) → Some v ≡ option_map capped o → greatest_int < v → sized o r ≡ Err code.IntegerTooLarge
sized_large None v r e h = absurd cc
sized_large (Some n) v r e h = let same : v ≡ capped n = cc in ap (λ b. cond b (Ok (lexeme (token.Int n) r)) (Err code.IntegerTooLarge)) (lt-leb n greatest_int (above n same))
  where
    above : (n : ℕ) → v ≡ capped n → greatest_int < n
    above n e = grind arith

pub sized_none : (o : Option ℕ) (r : Text) → None ≡ option_map capped o → sized o r ≡ Err code.BadToken
sized_none None r e = refl
sized_none (Some n) r e = absurd cc

-- ---- a token that stands is read

name_is : (c : ℕ) (s : Text) → is_in_form Nfkc (c ∷ front is_xid_continue s) ≡ true → begins_with_quote (behind is_xid_continue s) ≡ false
    → name_at (c ∷ s) ≡ Ok (lexeme (named (c ∷ front is_xid_continue s)) (behind is_xid_continue s))
name_is c s n q = go (is_in_form Nfkc (c ∷ front is_xid_continue s)) (begins_with_quote (behind is_xid_continue s)) n q
  where
    go : (a b : Bool) → a ≡ true → b ≡ false → lexeme_or_bad (cond (b || not a) None (Some (named (c ∷ front is_xid_continue s)))) (behind is_xid_continue s) ≡ Ok (lexeme (named (c ∷ front is_xid_continue s)) (behind is_xid_continue s))
    go a b e f = rw (e, f) refl

name_inverted : {c : ℕ} {s r : Text} {t : Token} → kind_of c ≡ kind.Token token_kind.Name → TokenAt (c ∷ s) r t → name_at (c ∷ s) ≡ Ok (lexeme t r)
name_inverted k (a_name {c = c} {s = s} e n q) = name_is c s n q
name_inverted k (an_integer e d) = absurd cc
name_inverted k (a_string e d) = absurd cc
name_inverted k (a_mark e d) = absurd cc

name_conditions : {c : ℕ} {s r : Text} {t : Token} → kind_of c ≡ kind.Token token_kind.Name → TokenAt (c ∷ s) r t
    → (is_in_form Nfkc (c ∷ front is_xid_continue s) ≡ true) × (begins_with_quote (behind is_xid_continue s) ≡ false)
name_conditions k (a_name e n q) = (n, q)
name_conditions k (an_integer e d) = absurd cc
name_conditions k (a_string e d) = absurd cc
name_conditions k (a_mark e d) = absurd cc

integer_inverted : {c : ℕ} {s r : Text} {t : Token} → kind_of c ≡ kind.Token token_kind.Integer → TokenAt (c ∷ s) r t
    → (n : ℕ) × (integer_in (c ∷ front in_number s) ≡ Some n) × (lexeme t r ≡ lexeme (token.Int n) (behind in_number s))
integer_inverted k (a_name e n q) = absurd cc
integer_inverted k (an_integer {n = n} e d) = (n, integer_is d, refl)
integer_inverted k (a_string e d) = absurd cc
integer_inverted k (a_mark e d) = absurd cc

string_inverted : {c : ℕ} {s r : Text} {t : Token} → kind_of c ≡ kind.Token token_kind.String → TokenAt (c ∷ s) r t → (cs : List ℕ) × Parts (opening c s).quotes (opening c s).rest r cs × (t ≡ token.Str cs)
string_inverted k (a_name e n q) = absurd cc
string_inverted k (an_integer e d) = absurd cc
string_inverted k (a_string {cs = cs} e d) = (cs, d, refl)
string_inverted k (a_mark e d) = absurd cc

mark_inverted : {c : ℕ} {s r : Text} {t : Token} → kind_of c ≡ kind.Token token_kind.Mark → TokenAt (c ∷ s) r t → mark_lexeme_at (c ∷ s) ≡ Ok (lexeme t r)
mark_inverted k (a_name e n q) = absurd cc
mark_inverted k (an_integer e d) = absurd cc
mark_inverted k (a_string e d) = absurd cc
mark_inverted k (a_mark e d) = ap mark_lexeme d

-- ---- what is read stands, or no token does

abbrev IsRead : ℕ → Text → Result Lexeme Code → Type 0
IsRead line s (Ok x) = TokenAt s x.rest x.token × (fits x.token ≡ true)
IsRead line s (Err k) = NoToken line s (fault line k)

named_fits_or : (o : Option Keyword) (name : List ℕ) → fits (named_or o name) ≡ true
named_fits_or None name = refl
named_fits_or (Some word) name = refl

named_fits : (name : List ℕ) → fits (named name) ≡ true
named_fits name = named_fits_or (keyword_of name) name

right_name : (line c : ℕ) (s : Text) → kind_of c ≡ kind.Token token_kind.Name → IsRead line (c ∷ s) (name_at (c ∷ s))
right_name line c s k = go (is_in_form Nfkc name) (begins_with_quote rest) refl refl
  where
    name : List ℕ
    name = c ∷ front is_xid_continue s

    rest : Text
    rest = behind is_xid_continue s

    nothing_else : (a b : Bool) → is_in_form Nfkc (c ∷ front is_xid_continue s) ≡ a → begins_with_quote (behind is_xid_continue s) ≡ b → (b || not a) ≡ true → (r : Text) (t : Token) → TokenAt (c ∷ s) r t → ⊥
    nothing_else a b n q h r t d = let x = name_conditions k d in contradicted a b (sym n ∙ x.0) (sym q ∙ x.1) h
      where
        contradicted : (a b : Bool) → a ≡ true → b ≡ false → (b || not a) ≡ true → ⊥
        contradicted true false e f h = absurd cc
        contradicted true true e f h = absurd cc
        contradicted false b e f h = absurd cc

    go : (a b : Bool) → is_in_form Nfkc (c ∷ front is_xid_continue s) ≡ a → begins_with_quote (behind is_xid_continue s) ≡ b
        → IsRead line (c ∷ s) (lexeme_or_bad (cond (b || not a) None (Some (named (c ∷ front is_xid_continue s)))) (behind is_xid_continue s))
    go true false n q = (a_name k n q, named_fits (c ∷ front is_xid_continue s))
    go true true n q = none (nothing_else true true n q refl)
    go false true n q = none (nothing_else false true n q refl)
    go false false n q = none (nothing_else false false n q refl)

right_integer : (line c : ℕ) (s : Text) → kind_of c ≡ kind.Token token_kind.Integer → IsRead line (c ∷ s) (integer_at (c ∷ s))
right_integer line c s k = go (integer_in (c ∷ front in_number s)) refl
  where
    sized_right : (n : ℕ) → integer_in (c ∷ front in_number s) ≡ Some n → (b : Bool) → nat_le n greatest_int ≡ b → IsRead line (c ∷ s) (cond b (Ok (lexeme (token.Int n) (behind in_number s))) (Err code.IntegerTooLarge))
    sized_right n e true h = (an_integer k (integer_stands c (front in_number s) n e), h)
    sized_right n e false h = too_large (an_integer k (integer_stands c (front in_number s) n e)) h

    nothing_else : integer_in (c ∷ front in_number s) ≡ None → (r : Text) (t : Token) → TokenAt (c ∷ s) r t → ⊥
    nothing_else e r t d = no_integer (c ∷ front in_number s) (lexeme t r) (λ n. lexeme (token.Int n) (behind in_number s)) (integer_inverted k d) e

    go : (o : Option ℕ) → integer_in (c ∷ front in_number s) ≡ o → IsRead line (c ∷ s) (sized o (behind in_number s))
    go None e = none (nothing_else e)
    go (Some n) e = sized_right n e (nat_le n greatest_int) refl

right_mark : (line c : ℕ) (s : Text) → kind_of c ≡ kind.Token token_kind.Mark → IsRead line (c ∷ s) (mark_lexeme_at (c ∷ s))
right_mark line c s k = go (first_mark marks (c ∷ s)) refl
  where
    nothing_else : first_mark marks (c ∷ s) ≡ None → (r : Text) (t : Token) → TokenAt (c ∷ s) r t → ⊥
    nothing_else e r t d = let x = mark_inverted k d in let y = ap mark_lexeme e in absurd cc

    go : (o : Option MarkAt) → first_mark marks (c ∷ s) ≡ o → IsRead line (c ∷ s) (mark_lexeme o)
    go None e = none (nothing_else e)
    go (Some x) e = (a_mark k e, refl)

pub right_name_in : (line : ℕ) (s : Text) → kind_at s ≡ Some (kind.Token token_kind.Name) → IsRead line s (name_at s)
right_name_in line [] k = absurd cc
right_name_in line (c ∷ s) k = right_name line c s (same_kind k)

pub right_integer_in : (line : ℕ) (s : Text) → kind_at s ≡ Some (kind.Token token_kind.Integer) → IsRead line s (integer_at s)
right_integer_in line [] k = absurd cc
right_integer_in line (c ∷ s) k = right_integer line c s (same_kind k)

pub right_mark_in : (line : ℕ) (s : Text) → kind_at s ≡ Some (kind.Token token_kind.Mark) → IsRead line s (mark_lexeme_at s)
right_mark_in line [] k = absurd cc
right_mark_in line (c ∷ s) k = right_mark line c s (same_kind k)

pub gives : (line : ℕ) (s : Text) (read : Result Lexeme Code) (o : Result (Token × Bor Text) Stop) → GivesLexeme line read o → IsRead line s read → IsTokenAt line s o
gives line s read (Ok x) e h = subst (IsRead line s) e h
gives line s read (Err (stop.Memory e')) e h = tt
gives line s read (Err (stop.Fault f)) e h = let y = subst (IsRead line s) e.0 h in subst (λ l. NoToken line s (fault l f.code)) (sym e.1) y

-- ---- strings

others_are : (c : ℕ) (s : Text) → take (length (c ∷ s) - 1) s ≡ s
others_are c s = let e : length (c ∷ s) - 1 ≡ length s = omega arith in rw e (take-length s)

opening_is : (c : ℕ) (s : Text) (first : ℕ) (others : Text) (x : Opening) → first ≡ c → others ≡ take (length (c ∷ s) - 1) s → x ≡ opening first others → x ≡ opening c s
opening_is c s first others x f o e = e ∙ ap (λ c. opening c others) f ∙ ap (opening c) (o ∙ others_are c s)

pub string_stands : (s : Text) (first : ℕ) (others : Text) (x : Opening) (r : Text) (cs : List ℕ) → kind_at s ≡ Some (kind.Token token_kind.String) → first ≡ get_or s 0 first → others ≡ take (length s - 1) (drop 1 s) → x ≡ opening first others
    → Parts x.quotes x.rest r cs → TokenAt s r (token.Str cs)
string_stands [] first others x r cs k f o e d = absurd cc
string_stands (c ∷ s) first others x r cs k f o e d = a_string (same_kind k) (subst (λ (x : Opening). Parts x.quotes x.rest r cs) (opening_is c s first others x f o e) d)

pub no_string : (line : ℕ) (s : Text) (first : ℕ) (others : Text) (x : Opening) → kind_at s ≡ Some (kind.Token token_kind.String) → first ≡ get_or s 0 first → others ≡ take (length s - 1) (drop 1 s) → x ≡ opening first others
    → ((r : Text) (cs : List ℕ) → Parts x.quotes x.rest r cs → ⊥) → NoToken line s (fault line code.BadToken)
no_string line [] first others x k f o e n = absurd cc
no_string line (c ∷ s) first others x k f o e n = none nothing_else
  where
    refuted : (r : Text) (t : Token) → (cs : List ℕ) × Parts (opening c s).quotes (opening c s).rest r cs × (t ≡ token.Str cs) → ⊥
    refuted r t (cs, d, same) = n r cs (subst (λ (x : Opening). Parts x.quotes x.rest r cs) (sym (opening_is c s first others x f o e)) d)

    nothing_else : (r : Text) (t : Token) → TokenAt (c ∷ s) r t → ⊥
    nothing_else r t d = refuted r t (string_inverted (same_kind k) d)

-- ---- one token

one_parts : {q : Quotes} {s r r' : Text} {cs cs' : List ℕ} → Parts q s r cs → Parts q s r' cs' → (r ≡ r') × (cs ≡ cs')
one_parts (closing {r = r} h) (closing {r = r'} h') = let same : r ≡ r' = cc in (same, refl)
one_parts (closing h) (part n d rest) = absurd cc
one_parts (part n d rest) (closing h) = absurd cc
one_parts {q = q} (part {m = m} {r = r} {v = v} {cs = cs} n d rest) (part {m = m'} {v = v'} {cs = cs'} n' d' rest') =
    let same : a_part v m ≡ a_part v' m' = same_part (part_is d) (part_is d') in
    let moved : Parts q m' r cs = subst (λ (x : Part). Parts q x.rest r cs) same rest in
    let others = one_parts moved rest' in
    (others.0, ap (λ (x : Part). onto x.character cs) same ∙ ap (onto v') others.1)

pub one_token : {s r r' : Text} {t t' : Token} → TokenAt s r t → TokenAt s r' t' → lexeme t r ≡ lexeme t' r'
one_token (a_name {c = c} {s = s} e n q) d' = let x = name_is c s n q in let y = name_inverted e d' in cc
one_token (an_integer {c = c} {s = s} e d) d' = same_integer (integer_is d) (integer_inverted e d')
  where
    same_integer : {n : ℕ} {x : Lexeme} → integer_in (c ∷ front in_number s) ≡ Some n → (m : ℕ) × (integer_in (c ∷ front in_number s) ≡ Some m) × (x ≡ lexeme (token.Int m) (behind in_number s)) → lexeme (token.Int n) (behind in_number s) ≡ x
    same_integer {n = n} a (m, b, e) = let same : n ≡ m = cc in ap (λ n. lexeme (token.Int n) (behind in_number s)) same ∙ sym e
one_token (a_string {r = r} {cs = cs} e d) d' = same_string d (string_inverted e d')
  where
    same_string : {o : Opening} {r' : Text} {t' : Token} → Parts o.quotes o.rest r cs → (cs' : List ℕ) × Parts o.quotes o.rest r' cs' × (t' ≡ token.Str cs') → lexeme (token.Str cs) r ≡ lexeme t' r'
    same_string {r' = r'} a (cs', b, e) = let both = one_parts a b in ap (λ cs. lexeme (token.Str cs) r) both.1 ∙ ap (lexeme (token.Str cs')) both.0 ∙ ap (λ t. lexeme t r') (sym e)
one_token (a_mark e d) d' = let x = ap mark_lexeme d in let y = mark_inverted e d' in cc
