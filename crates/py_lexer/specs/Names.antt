-- Identifiers and keywords (Python reference: lexical analysis, identifiers and keywords).
use Rattle.std.specs.Prelude.{ℕ, ◌==◌, ◌||◌, ◌&&◌, Bool, false, List, [], ◌∷◌, codes}
use Rattle.std.specs.List.{list_any, list_all}
use Rattle.std.specs.Str.{bytes_eq}
use Rattle.unicode_ident.specs.Ident.{is_xid_start, is_xid_continue}
use Rattle.unicode_normalization.specs.Forms.{is_in_form}
use Rattle.unicode_normalization.specs.declared.Form.TheVariants.{Nfkc}

abbrev pub may_start_identifier : ℕ → Bool
may_start_identifier character = is_xid_start character || (character == 95)

-- One character that may start an identifier, then those that may continue it.
abbrev pub is_spelled_as_identifier : List ℕ → Bool
is_spelled_as_identifier [] = false
is_spelled_as_identifier (first ∷ rest) = may_start_identifier first && list_all is_xid_continue rest

-- An identifier, as characters: it is spelled as one, and the whole is in the form NFKC.
abbrev pub is_identifier : List ℕ → Bool
is_identifier name = is_spelled_as_identifier name && is_in_form Nfkc name

abbrev pub keywords : List (List ℕ)
keywords =
    codes "False" ∷ codes "None" ∷ codes "True" ∷ codes "and" ∷ codes "as" ∷ codes "assert" ∷ codes "async" ∷ codes "await" ∷ codes "break"
    ∷ codes "class" ∷ codes "continue" ∷ codes "def" ∷ codes "del" ∷ codes "elif" ∷ codes "else" ∷ codes "except" ∷ codes "finally" ∷ codes "for"
    ∷ codes "from" ∷ codes "global" ∷ codes "if" ∷ codes "import" ∷ codes "in" ∷ codes "is" ∷ codes "lambda" ∷ codes "nonlocal" ∷ codes "not"
    ∷ codes "or" ∷ codes "pass" ∷ codes "raise" ∷ codes "return" ∷ codes "try" ∷ codes "while" ∷ codes "with" ∷ codes "yield" ∷ []

abbrev pub is_keyword : List ℕ → Bool
is_keyword name = list_any (bytes_eq name) keywords
