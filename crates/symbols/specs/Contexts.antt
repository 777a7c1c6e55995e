-- No definition of the language: what the contexts of the code stand for.
use Rattle.symbols.specs.declared.context.Context.{Context as Known}
use Rattle.symbols.specs.Names.{found}
use Rattle.symbols.specs.SpecialNames.{Context}

abbrev pub context_of : Known → Context
context_of c = record { in_class = c.in_class; in_method = c.in_method; statics = found c.statics.now; locals = c.locals.now }
