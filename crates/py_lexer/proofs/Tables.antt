-- A name in a table of names.
use Rattle.std.proofs.Common.{◌≡◌, ◌<◌, ℕ, Bool, true, false, nat_lt, length, List, [], ◌∷◌, None, map, refl, sym, ap, Bor, arith}
use Rattle.std.proofs.lemmas.Slice.Eq.{bytes_eq-Decides}
use Rattle.std.specs.Cmp.Lexicographic.{nat_list_eq_equiv}
use Rattle.std.specs.List.{list_all, list_any}
use Rattle.std.specs.Str.{bytes_eq}
use Rattle.py_lexer.specs.Tokens.{keyword_among, keyword_of, keywords}
use Rattle.py_lexer.specs.declared.token.Keyword.{Keyword}

-- the texts that a table points to are compared in either order
pub list_any-pointed : (name : List ℕ) (table : List (Bor (List ℕ))) → list_any (λ entry. bytes_eq entry.now name) table ≡ list_any (bytes_eq name) (map (λ entry. entry.now) table)
list_any-pointed name [] = refl
list_any-pointed name (entry ∷ table) = cc (nat_list_eq_equiv.symm entry.now name, list_any-pointed name table)

-- a name that is longer than each spelling is no keyword

abbrev is_short : List ℕ × Keyword → Bool
is_short e = nat_lt (length e.0) 9

longer_among : (rows : List (List ℕ × Keyword)) (name : List ℕ) → 8 < length name → list_all is_short rows ≡ true → keyword_among rows name ≡ None
longer_among [] name long short = refl
longer_among (e ∷ rows) name long short = by (is_short e) refl (bytes_eq e.0 name) refl short (longer_among rows name long)
  where
    by : (s : Bool) → is_short e ≡ s → (b : Bool) → bytes_eq e.0 name ≡ b → list_all is_short (e ∷ rows) ≡ true → (list_all is_short rows ≡ true → keyword_among rows name ≡ None) → keyword_among (e ∷ rows) name ≡ None
    by true h true same all rest = let equal : length e.0 ≡ length name = ap length ((bytes_eq-Decides e.0 name).0 same) in grind (arith, h, equal, long)
    by true h false other all rest = rw other (rest (rw h at all))
    by false h b is all rest = grind (arith, rw h at all)

pub longer_is_none : (name : List ℕ) → 8 < length name → None ≡ keyword_of name
longer_is_none name long = sym (longer_among keywords name long refl)
