-- The names that were seen, as a set.
use Rattle.std.proofs.Common.{◌≡◌, ◌<◌, ◌+◌, ℕ, Bool, true, false, not, cond, ◌||◌, List, [], ◌∷◌, ◌++◌, length, get_or, take, drop, map, reverse, refl, sym, ap, ◌∙◌, Bor, Ordering}
use Rattle.std.specs.Ordering.{is_eq, nat_cmp}
use Rattle.std.specs.Cmp.Lexicographic.{slice_cmp}
use Rattle.std.specs.List.{list_any}
use Rattle.std.specs.BTreeSet.{BTreeSet, contains, Updates, IsEmpty}
use Rattle.std.specs.Str.{bytes_eq}
use Rattle.std.proofs.lemmas.Bool.{and_from, and_left, and_right, not-false, not-true}
use Rattle.std.proofs.lemmas.Cmp.{nat_list_eq_equiv}
use Rattle.std.proofs.lemmas.List.{reverse-append, map-append, take-append-drop, take_more}
use Rattle.std.proofs.lemmas.Map.Text.{is_eq-slice_cmp}
use Rattle.py_tree.specs.Syntax.{Text}
use Rattle.py_phrases.specs.Machine.{has_name, no_repeats}
use Rattle.py_phrases.specs.Views.{texts_of}
use Rattle.py_phrases.proofs.Names.{newest_first}

abbrev pub by_text : Bor Text → Bor Text → Ordering
by_text a b = slice_cmp nat_cmp a.now b.now

-- the set has these texts, and they differ
pub record Seen (texts : List Text) (seen : BTreeSet (Bor Text)) : Type 0 where
  pub has : (n : Bor Text) → contains by_text seen n ≡ has_name n.now texts
  pub distinct : no_repeats texts ≡ true

pub none_seen : (seen : BTreeSet (Bor Text)) → IsEmpty seen → Seen [] seen
none_seen seen h = record { has = λ n. ap (λ ks. list_any (λ k. is_eq (by_text n k)) ks) h; distinct = refl }

either : (a b : Bool) → cond a true b ≡ a || b
either true b = refl
either false b = refl

pub seen_next : (texts : List Text) (key : Bor Text) (seen more : BTreeSet (Bor Text)) (is_new : Bool) → Seen texts seen → is_new ≡ not (contains by_text seen key) → is_new ≡ true → Updates by_text seen more key true → Seen (key.now ∷ texts) more
seen_next texts key seen more is_new h added was_new updates =
    let fresh : contains by_text seen key ≡ false = not-true (contains by_text seen key) (sym added ∙ was_new) in
    record {
      has = λ n.
          updates.0 n
          ∙ ap (λ b. cond b true (contains by_text seen n)) (is_eq-slice_cmp key.now n.now ∙ nat_list_eq_equiv.symm key.now n.now)
          ∙ ap (λ b. cond (bytes_eq n.now key.now) true b) (h.has n)
          ∙ either (bytes_eq n.now key.now) (has_name n.now texts);
      distinct = and_from (not (has_name key.now texts)) (no_repeats texts) (ap not (sym (h.has key) ∙ fresh)) h.distinct;
    }

repeats_stay : (xs ys : List Text) → no_repeats ys ≡ false → no_repeats (xs ++ ys) ≡ false
repeats_stay [] ys h = h
repeats_stay (x ∷ xs) ys h = and_right (not (has_name x (xs ++ ys))) (no_repeats (xs ++ ys)) (repeats_stay xs ys h)

pub seen_again : (texts newer : List Text) (key : Bor Text) (seen : BTreeSet (Bor Text)) (is_new : Bool) → Seen texts seen → is_new ≡ not (contains by_text seen key) → is_new ≡ false → no_repeats (newer ++ key.now ∷ texts) ≡ false
seen_again texts newer key seen is_new h added was_there =
    let again : contains by_text seen key ≡ true = not-false (contains by_text seen key) (sym added ∙ was_there) in
    repeats_stay newer (key.now ∷ texts) (and_left (not (has_name key.now texts)) (no_repeats texts) (ap not (sym (h.has key) ∙ again)))

-- ---- the texts of names, newest first

pub next_text : (names : List (Bor Text)) (i : ℕ) (name : Bor Text) (key : Text) → i < length names → name ≡ get_or names i name → key ≡ name.now → texts_of (take (i + 1) names) ≡ key ∷ texts_of (take i names)
next_text names i name key h is same =
    ap texts_of (take_more names i name h ∙ ap (λ n. take i names ++ n ∷ []) (sym is)) ∙ newest_first (λ n. n.now) (take i names) name ∙ ap (λ u. u ∷ texts_of (take i names)) (sym same)

pub newer_texts : (names : List (Bor Text)) (i : ℕ) → texts_of names ≡ texts_of (drop i names) ++ texts_of (take i names)
newer_texts names i =
    ap texts_of (sym (take-append-drop i names)) ∙ ap (map (λ n. n.now)) (reverse-append (take i names) (drop i names)) ∙ map-append (λ n. n.now) (reverse (drop i names)) (reverse (take i names))
