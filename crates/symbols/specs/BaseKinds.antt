-- What the base of a class is.
use Rattle.symbols.specs.declared.class.ClassKind.{ClassKind}

pub data Base : Type 0 where
  None : Base
  Class : ClassKind → Base
  Bad : Base  -- it names no class
