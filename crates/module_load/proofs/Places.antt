-- The place of a marker.
use Rattle.std.proofs.Common.{◌≡◌, ◌<◌, ℕ, zero, suc, Bool, true, false, ◌&&◌, ◌||◌, ◌↔◌, List, [], ◌∷◌, Some, slice_get, refl, sym, ap, ◌∙◌, arith}
use Rattle.std.proofs.lemmas.Bool.{both_ways}
use Rattle.py_tree.specs.Syntax.{Statement}
use Rattle.module_load.specs.Markers.{is_marker, is_from_future, marker_leads, Leads}

-- at the first of the imports
at_front : (t : Statement) (ts : List Statement) → is_marker t ≡ true → Leads (t ∷ ts)
at_front t ts is = record { place = 0; marker = t; there = refl; marks = is; before = before }
  where
    before : (k : ℕ) (u : Statement) → slice_get (t ∷ ts) k ≡ Some u → is_marker u ≡ false → is_from_future u ≡ false → 0 < k
    before zero u e unmarked other = let same : t ≡ u = cc in absurd (both_ways (is_marker u) unmarked (ap is_marker (sym same) ∙ is))
    before (suc k) u e unmarked other = omega arith

-- behind one from `__future__`
behind : (t : Statement) (ts : List Statement) → is_from_future t ≡ true → Leads ts → Leads (t ∷ ts)
behind t ts is l = record { place = suc l.place; marker = l.marker; there = l.there; marks = l.marks; before = before }
  where
    before : (k : ℕ) (u : Statement) → slice_get (t ∷ ts) k ≡ Some u → is_marker u ≡ false → is_from_future u ≡ false → suc l.place < k
    before zero u e unmarked other = let same : t ≡ u = cc in absurd (both_ways (is_from_future u) other (ap is_from_future (sym same) ∙ is))
    before (suc k) u e unmarked other = let h = l.before k u e unmarked other in omega arith

leads : (ts : List Statement) → marker_leads ts ≡ true → Leads ts
leads [] e = absurd cc
leads (t ∷ ts) e = go (is_marker t) (is_from_future t) refl refl e (leads ts)
  where
    go : (b c : Bool) → is_marker t ≡ b → is_from_future t ≡ c → (b || (c && marker_leads ts)) ≡ true → (marker_leads ts ≡ true → Leads ts) → Leads (t ∷ ts)
    go true c is f e more = at_front t ts is
    go false true is f e more = behind t ts f (more e)
    go false false is f e more = absurd cc

-- where the first is no marker, it is from `__future__`, and the marker stands behind it
rest : (t : Statement) (ts : List Statement) → is_marker t ≡ false → Leads (t ∷ ts) → (is_from_future t ≡ true) × Leads ts
rest t ts unmarked l = go l.place l.marker l.there l.marks l.before
  where
    go : (n : ℕ) (m : Statement) → slice_get (t ∷ ts) n ≡ Some m → is_marker m ≡ true → ((k : ℕ) (u : Statement) → slice_get (t ∷ ts) k ≡ Some u → is_marker u ≡ false → is_from_future u ≡ false → n < k) → (is_from_future t ≡ true) × Leads ts
    go zero m e is before = let same : t ≡ m = cc in absurd (both_ways (is_marker m) (ap is_marker (sym same) ∙ unmarked) is)
    go (suc n) m e is before = (future (is_from_future t) refl, record { place = n; marker = m; there = e; marks = is; before = λ k u g a b. let h = before (suc k) u g a b in omega arith })
      where
        future : (b : Bool) → is_from_future t ≡ b → is_from_future t ≡ true
        future true f = f
        future false f = let h = before 0 t refl unmarked f in absurd (omega arith)

leads_back : (ts : List Statement) → Leads ts → marker_leads ts ≡ true
leads_back [] l = let none = l.there in absurd cc
leads_back (t ∷ ts) l = go (is_marker t) refl (leads_back ts)
  where
    go : (b : Bool) → is_marker t ≡ b → (Leads ts → marker_leads ts ≡ true) → (b || (is_from_future t && marker_leads ts)) ≡ true
    go true is more = refl
    go false is more = let r = rest t ts is l in ap (λ c. c && marker_leads ts) r.0 ∙ more r.1

pub one_place : (ts : List Statement) → (marker_leads ts ≡ true) ↔ Leads ts
one_place ts = (leads ts, leads_back ts)
