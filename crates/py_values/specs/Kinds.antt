-- The kind of a value.
use Rattle.py_values.specs.declared.value.Value.{Value}
use Rattle.py_values.specs.declared.value.Value.TheVariants as value
use Rattle.py_values.specs.declared.kind.ValueKind.{ValueKind}
use Rattle.py_values.specs.declared.kind.ValueKind.TheVariants as kind

abbrev pub kind_of : Value → ValueKind
kind_of value.Nil = kind.Nil
kind_of (value.Bool b) = kind.Bool
kind_of (value.Int n) = kind.Int
kind_of (value.Prim64 n) = kind.Prim64
kind_of (value.PrimBool b) = kind.PrimBool
kind_of (value.Str r) = kind.Str
kind_of (value.Tuple r) = kind.Tuple
kind_of (value.Bound r) = kind.Bound
kind_of (value.Range r) = kind.Range
kind_of (value.Obj r) = kind.Object
kind_of (value.Class c) = kind.Class
kind_of (value.Function home number) = kind.Function
kind_of (value.Module number) = kind.Module
kind_of (value.Builtin b) = kind.Builtin
kind_of (value.Host home slot) = kind.Host
