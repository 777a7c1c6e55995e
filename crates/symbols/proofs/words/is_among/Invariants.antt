use Rattle.std.proofs.Common.{◌≡◌, drop}
use Rattle.symbols.specs.Views.{spellings}
use Rattle.symbols.specs.Words.{among}
use Rattle.symbols.proofs.words.is_among.Given as goal

abbrev pub invariant-loop-word : goal.invariant-loop-word
invariant-loop-word l = among l.name (spellings (drop l.word-index l.words)) ≡ among l.name (spellings l.words)
