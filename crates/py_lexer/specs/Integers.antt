-- Integer literals (Python reference: lexical analysis, integer literals).
use Rattle.std.specs.Prelude.{◌≡◌, ℕ, ◌+◌, ◌*◌, ◌<◌, ◌==◌, ◌||◌, Bool, if◌then◌else◌, List, [], ◌∷◌, Option, Some, None}
use Rattle.std.specs.Char.{digit_value}
use Rattle.unicode_ident.specs.Ident.{is_xid_continue}

-- a literal is the longest run of these behind its first digit
abbrev pub in_number : ℕ → Bool
in_number c = is_xid_continue c || c == 46

-- `Digits base n cs m`: behind a prefix or digits of the value n stand more digits, each with `_` before it or without, and the value of all is m
pub data Digits (base : ℕ) : ℕ → List ℕ → ℕ → Type 0 where
  no_more : {n : ℕ} → Digits base n [] n
  digit : {n m c : ℕ} {cs : List ℕ} → digit_value c < base → Digits base (n * base + digit_value c) cs m → Digits base n (c ∷ cs) m
  underscore : {n m c : ℕ} {cs : List ℕ} → digit_value c < base → Digits base (n * base + digit_value c) cs m → Digits base n (95 ∷ c ∷ cs) m

-- the base that a letter behind a first 0 names: `x`, `o` or `b` in either case
abbrev pub base_of : ℕ → Option ℕ
base_of c =
    if c == 120 || c == 88 then Some 16
    else (if c == 111 || c == 79 then Some 8
    else (if c == 98 || c == 66 then Some 2
    else None))

-- the base that the prefix of a literal names, where it has one
abbrev pub prefix_base : List ℕ → Option ℕ
prefix_base (c ∷ d ∷ cs) = if c == 48 then base_of d else None
prefix_base _ = None

-- `Integer cs n`: cs spells n
pub data Integer : List ℕ → ℕ → Type 0 where
  -- the first digit is 0 only where all are 0, so only where the value is
  decimal : {c n : ℕ} {cs : List ℕ} → prefix_base (c ∷ cs) ≡ None → digit_value c < 10 → (c ≡ 48 → n ≡ 0) → Digits 10 (digit_value c) cs n → Integer (c ∷ cs) n
  prefixed : {c d e base n : ℕ} {cs : List ℕ} → prefix_base (c ∷ d ∷ e ∷ cs) ≡ Some base → Digits base 0 (e ∷ cs) n → Integer (c ∷ d ∷ e ∷ cs) n
