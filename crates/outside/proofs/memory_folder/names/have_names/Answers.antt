use Rattle.std.proofs.Common.{◌≡◌, ◌∙◌, [], refl, sym, ap, subst}
use Rattle.std.specs.Bool.{IsTrue}
use Rattle.std.specs.List.{list_any}
use Rattle.std.specs.Str.{IsUtf8, bytes_eq}
use Rattle.std.proofs.lemmas.List.{nil_from_length}
use Rattle.outside.proofs.NameLists.{AreNamed, AreNamed-nil, AreNamed-rest, IsUtf8-front, absent-front}
use Rattle.outside.proofs.memory_folder.names.have_names.Goals as goal
use Rattle.outside.proofs.memory_folder.names.have_names.Goals.{then-not-is_text-via-then-not-is_text, then-not-is_text-via-else-not-is_text+then-is_among}

pub returns-then-not-is_text : goal.returns-then-not-is_text
returns-then-not-is_text g c =
    let name = g.R.Named.name in
    let first = c.in-Some.first.now in
    let others = c.in-Some.others.now in
    elim c.then-not-is_text.branch [
      | then-not-is_text-via-then-not-is_text w ↦ (
        λ e. absurd (cc),
        λ named.
            let text : IsTrue c.is_text.result = c.is_text.ensures.1 (subst IsUtf8 (sym c.name.ensures) (IsUtf8-front name _ _ first others c.loop-first.invariant c.in-Some.ensures.cases.0 named)) in
            sym w.if-not-is_text.true ∙ text,
      )
      | then-not-is_text-via-else-not-is_text+then-is_among w ↦ (
        λ e. absurd (cc),
        λ named.
            let absent = absent-front name _ _ first others c.loop-first.invariant c.in-Some.ensures.cases.0 named in
            sym absent ∙ ap (λ bytes. list_any (λ other. bytes_eq bytes (name other)) others) (sym w.name-else-not-is_text.ensures) ∙ sym w.is_among.ensures ∙ w.if-is_among.true,
      )
    ]

pub loop-first-preserved : goal.loop-first-preserved
loop-first-preserved g c =
    let name = g.R.Named.name in
    let others = c.in-Some.others.now in
    AreNamed-rest name _ _ c.in-Some.first.now others c.loop-first.invariant c.in-Some.ensures.cases.0
    (subst IsUtf8 c.name.ensures (c.is_text.ensures.0 c.if-not-is_text.false))
    (ap (λ bytes. list_any (λ other. bytes_eq bytes (name other)) others) (sym c.name-else-not-is_text.ensures) ∙ sym c.is_among.ensures ∙ c.if-is_among.false)

pub returns : goal.returns
returns g c =
    let empty : c.loop-first.rest.now ≡ [] = nil_from_length c.loop-first.rest.now c.in_default.ensures.cases in
    (λ _. c.loop-first.invariant.1 (subst (AreNamed g.R.Named.name) (sym empty) (AreNamed-nil g.R.Named.name)), λ _. refl)
