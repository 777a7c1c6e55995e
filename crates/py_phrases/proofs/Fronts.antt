-- What is read at a front is the phrase there, or there is none.
use Rattle.std.proofs.Common.{◌≡◌, [], Option, Some, None, Result, Ok, Err, IfOk, refl, sym, ◌∙◌}
use Rattle.std.specs.declared.alloc.AllocError.{AllocError}
use Rattle.py_phrases.specs.declared.phrase.Phrase.{Phrase}
use Rattle.py_phrases.specs.Grammar.{Tokens, Level}
use Rattle.py_phrases.specs.Machine.{read, read_to}
use Rattle.py_phrases.specs.Emitted.{emit}
use Rattle.py_phrases.specs.Phrases.{AtFront}
use Rattle.py_phrases.specs.Readers.{as_read}
use Rattle.py_phrases.proofs.Complete.{is_read}
use Rattle.py_phrases.proofs.WholeSound.{IsWhole, is_spelled}

at_front : (k : Level) → IsWhole k → (s : Tokens) (found : Option Phrase) → as_read found ≡ read k s → AtFront k s found
at_front k w s None e = λ r x d h. let both : None ≡ Some (read_to (emit d []) r) = e ∙ is_read d h in absurd cc
at_front k w s (Some phrase) e =
    let y = is_spelled k w s _ (sym e) in
    (y.tree, record { spells = y.spells; ends = y.is_end; rest = refl; steps = y.steps_are })

pub fronts : (k : Level) → IsWhole k → (s : Tokens) (r : Result (Option Phrase) AllocError) → IfOk r (λ found. as_read found ≡ read k s) → IfOk r (AtFront k s)
fronts k w s (Ok found) e = at_front k w s found e
fronts k w s (Err f) e = tt
