-- What every run keeps: of each law one instance of what steps keep.
use Rattle.std.proofs.Common.{arith, sym, ap, subst, ◌∙◌}
use Rattle.std.proofs.lemmas.Bool.{eqb-true, eq-eqb}
use Rattle.std.proofs.lemmas.List.{append_assoc, append-nil, length-append, length-set}
use Rattle.std.specs.Prelude.{◌≡◌, ◌≢◌, refl, ◌<◌, ℕ, ◌≤◌, ◌^◌, length, List, [], ◌∷◌, ◌++◌, slice_set, Bool, true, false, if◌then◌else◌}
use Rattle.py_tree.specs.Syntax.{Text}
use Rattle.py_tree.specs.declared.code.Code.TheVariants.{Effect, ForeignWrite}
use Rattle.py_values.specs.declared.exception.ExcKind.TheVariants.{FrozenError}
use Rattle.py_values.specs.declared.value.Home.{Home}
use Rattle.py_values.specs.declared.value.Home.TheVariants as home
use Rattle.heap_seg.specs.declared.rules.Answer.{Answer}
use Rattle.heap_seg.specs.declared.rules.Answer.TheVariants as rules
use Rattle.heap_seg.specs.Modes.{Mode}
use Rattle.gradual_types.specs.Values.{Content}
use Rattle.gradual_types.specs.States.{State}
use Rattle.py_meaning.specs.Modules.{World}
use Rattle.py_meaning.specs.Looks.{same_home, put_other, put_content}
use Rattle.py_meaning.specs.Laws.{FuelNeverRises, OutputOnlyGrows, ChecksNeverFall, ObjectsStay, WritesItsOwn, PrintsNothing, OthersUnchanged, OutputUnchanged, ImportsKeepIn, EntriesKeepIn}
use Rattle.py_meaning.proofs.Keeps.{Steady, in_runs}

-- ---- a write to an object changes the objects of one home

module _ (P : State → Type 0) (w : World) (n : ℕ) (content : Content) (s : State) (of_own : P (record s { own = slice_set s.own n content }))
    (of_others : (others : List (List Content)) → P (record s { others = others })) where
  other_written : (h : Home) → P (put_other h n content s)
  other_written (home.Module m) = of_others _
  other_written home.Host = of_others s.others
  other_written home.Run = of_others s.others

  written : (h : Home) → P (put_content w h n content s)
  written h = by (same_home h w.home) where
    by : (own : Bool) → P (if own then record s { own = slice_set s.own n content } else put_other h n content s)
    by true = of_own
    by false = other_written h

-- ---- fuel

pub fuel_falls : (w : World) → Steady w (λ s t. t.fuel ≤ s.fuel)
fuel_falls w = record {
  stays = λ s. omega arith;
  joins = λ a b c ab bc. omega (arith, ab, bc);
  spends = λ fuel s less. less;
  makes = λ content s. omega arith;
  puts = λ h n content s lets. written (λ t. t.fuel ≤ s.fuel) w n content s (omega arith) (λ others. omega arith) h;
  prints = λ text s lets. omega arith;
  counts = λ s. omega arith;
  binds_global = λ name value s. omega arith;
  binds_local = λ name value s. omega arith;
  sets_default = λ function param value s. omega arith;
  sets_line = λ line s. omega arith;
  frames = λ locals s t kept. kept;
}

pub fuel_never_rises : FuelNeverRises
fuel_never_rises w = in_runs (fuel_falls w)

-- ---- output

abbrev Longer : State → State → Type 0
Longer s t = (more : Text) × (t.output ≡ s.output ++ more)

same_output : (s : State) → Longer s s
same_output s = ([], sym (append-nil s.output))

output_grows : (w : World) → Steady w Longer
output_grows w = record {
  stays = same_output;
  joins = λ a b c ab bc. (ab.0 ++ bc.0, bc.1 ∙ ap (λ output. output ++ bc.0) ab.1 ∙ append_assoc a.output ab.0 bc.0);
  spends = λ fuel s less. same_output s;
  makes = λ content s. same_output s;
  puts = λ h n content s lets. written (Longer s) w n content s (same_output s) (λ others. same_output s) h;
  prints = λ text s lets. (text, refl);
  counts = same_output;
  binds_global = λ name value s. same_output s;
  binds_local = λ name value s. same_output s;
  sets_default = λ function param value s. same_output s;
  sets_line = λ line s. same_output s;
  frames = λ locals s t kept. kept;
}

pub output_only_grows : OutputOnlyGrows
output_only_grows w = in_runs (output_grows w)

-- ---- checks

abbrev MoreChecks : State → State → Type 0
MoreChecks s t = s.checks < 2 ^ 64 → (s.checks ≤ t.checks) × (t.checks < 2 ^ 64)

same_checks : (s : State) → MoreChecks s s
same_checks s within = (omega arith, within)

checks_rise : (w : World) → Steady w MoreChecks
checks_rise w = record {
  stays = same_checks;
  joins = λ a b c ab bc within. let first = ab within in let next = bc first.1 in (omega (arith, first.0, next.0), next.1);
  spends = λ fuel s less. same_checks s;
  makes = λ content s. same_checks s;
  puts = λ h n content s lets. written (MoreChecks s) w n content s (same_checks s) (λ others. same_checks s) h;
  prints = λ text s lets. same_checks s;
  counts = λ s within. (omega (arith, within), omega arith);
  binds_global = λ name value s. same_checks s;
  binds_local = λ name value s. same_checks s;
  sets_default = λ function param value s. same_checks s;
  sets_line = λ line s. same_checks s;
  frames = λ locals s t kept. kept;
}

pub checks_never_fall : ChecksNeverFall
checks_never_fall w = in_runs (checks_rise w)

-- ---- objects

abbrev MoreObjects : State → State → Type 0
MoreObjects s t = length s.own ≤ length t.own

objects_rise : (w : World) → Steady w MoreObjects
objects_rise w = record {
  stays = λ s. omega arith;
  joins = λ a b c ab bc. omega (arith, ab, bc);
  spends = λ fuel s less. omega arith;
  makes = λ content s. rw (length-append s.own (content ∷ [])) (omega arith);
  puts = λ h n content s lets. written (MoreObjects s) w n content s (rw (length-set s.own n content) (omega arith)) (λ others. omega arith) h;
  prints = λ text s lets. omega arith;
  counts = λ s. omega arith;
  binds_global = λ name value s. omega arith;
  binds_local = λ name value s. omega arith;
  sets_default = λ function param value s. omega arith;
  sets_line = λ line s. omega arith;
  frames = λ locals s t kept. kept;
}

pub objects_stay : ObjectsStay
objects_stay w = in_runs (objects_rise w)

-- ---- the objects of other homes

abbrev SameOthers : State → State → Type 0
SameOthers s t = t.others ≡ s.others

is_itself : (h : Home) → same_home h h ≡ true
is_itself (home.Module m) = eq-eqb m m refl
is_itself home.Host = refl
is_itself home.Run = refl

own_written : (w : World) (n : ℕ) (content : Content) (s : State) → SameOthers s (put_content w w.home n content s)
own_written w n content s = by (same_home w.home w.home) (is_itself w.home) where
  by : (own : Bool) → own ≡ true → SameOthers s (if own then record s { own = slice_set s.own n content } else put_other w.home n content s)
  by true e = refl
  by false e = absurd cc

others_stay : (w : World) → WritesItsOwn w → Steady w SameOthers
others_stay w own = record {
  stays = λ s. refl;
  joins = λ a b c ab bc. bc ∙ ab;
  spends = λ fuel s less. refl;
  makes = λ content s. refl;
  puts = λ h n content s lets. subst (λ i. SameOthers s (put_content w i n content s)) (sym (own h lets)) (own_written w n content s);
  prints = λ text s lets. refl;
  counts = λ s. refl;
  binds_global = λ name value s. refl;
  binds_local = λ name value s. refl;
  sets_default = λ function param value s. refl;
  sets_line = λ line s. refl;
  frames = λ locals s t kept. kept;
}

pub others_unchanged : OthersUnchanged
others_unchanged w own = in_runs (others_stay w own)

-- ---- no output

abbrev SameOutput : State → State → Type 0
SameOutput s t = t.output ≡ s.output

output_stays : (w : World) → PrintsNothing w → Steady w SameOutput
output_stays w none = record {
  stays = λ s. refl;
  joins = λ a b c ab bc. bc ∙ ab;
  spends = λ fuel s less. refl;
  makes = λ content s. refl;
  puts = λ h n content s lets. written (SameOutput s) w n content s refl (λ others. refl) h;
  prints = λ text s lets. absurd (none lets);
  counts = λ s. refl;
  binds_global = λ name value s. refl;
  binds_local = λ name value s. refl;
  sets_default = λ function param value s. refl;
  sets_line = λ line s. refl;
  frames = λ locals s t kept. kept;
}

pub output_unchanged : OutputUnchanged
output_unchanged w none = in_runs (output_stays w none)

-- ---- the rules of imports and of entries

same_homes : (h i : Home) → same_home h i ≡ true → h ≡ i
same_homes (home.Module m) (home.Module n) e = ap home.Module (eqb-true m n e)
same_homes home.Host home.Host e = refl
same_homes home.Run home.Run e = refl
same_homes _ _ e = absurd cc

let_to_own : (h own : Home) (other : Answer) → other ≢ rules.Go → (if same_home h own then rules.Go else other) ≡ rules.Go → h ≡ own
let_to_own h own other refused lets = by (same_home h own) refl lets where
  by : (same : Bool) → same_home h own ≡ same → (if same then rules.Go else other) ≡ rules.Go → h ≡ own
  by true e lets = same_homes h own e
  by false e lets = absurd (refused lets)

pub imports_keep_in : ImportsKeepIn
imports_keep_in w e = (writes, prints) where
  writes : WritesItsOwn w
  writes h lets = let_to_own h w.home (rules.Refuse ForeignWrite) (λ same. cc) (sym (ap (λ (mode : Mode). mode.on_write h) e) ∙ lets)

  prints : PrintsNothing w
  prints lets = let refused : rules.Refuse Effect ≡ rules.Go = sym (ap (λ (mode : Mode). mode.on_print) e) ∙ lets in cc

pub entries_keep_in : EntriesKeepIn
entries_keep_in w e at_run h lets = let_to_own h home.Run (rules.Raise FrozenError) (λ same. cc) (sym (ap (λ (mode : Mode). mode.on_write h) e) ∙ lets) ∙ sym at_run
