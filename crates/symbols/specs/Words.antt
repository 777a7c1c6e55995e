-- The names that have a meaning of their own.
use Rattle.std.specs.Prelude.{Bool, not, ◌&&◌, ◌||◌, nat_eq, if◌then◌else◌, List, [], ◌∷◌, codes, Option, Some, None, is_some}
use Rattle.std.specs.List.{find, list_any, starts_with, ends_with}
use Rattle.std.specs.Str.{bytes_eq}
use Rattle.py_tree.specs.Syntax.{Text}
use Rattle.py_values.specs.Exceptions.{name_of}
use Rattle.py_values.specs.declared.exception.ExcKind.{ExcKind}
use Rattle.py_values.specs.declared.exception.ExcKind.TheVariants as exception
use Rattle.symbols.specs.declared.binding.StaticName.{StaticName}
use Rattle.symbols.specs.declared.binding.StaticName.TheVariants as static

-- whether a name is among these
abbrev pub among : Text → List Text → Bool
among name names = list_any (bytes_eq name) names

abbrev pub builtins : List Text
builtins =
    codes "object" ∷ codes "print" ∷ codes "len" ∷ codes "range" ∷ codes "str" ∷ codes "repr" ∷ codes "bool" ∷ codes "list" ∷ codes "tuple"
    ∷ codes "dict" ∷ codes "int" ∷ codes "abs" ∷ codes "min" ∷ codes "max" ∷ codes "ord" ∷ codes "chr" ∷ codes "isinstance" ∷ []

abbrev pub exceptions : List ExcKind
exceptions =
    exception.Exception ∷ exception.ArithmeticError ∷ exception.ZeroDivisionError ∷ exception.OverflowError ∷ exception.LookupError
    ∷ exception.IndexError ∷ exception.KeyError ∷ exception.NameError ∷ exception.UnboundLocalError ∷ exception.AttributeError
    ∷ exception.TypeError ∷ exception.ValueError ∷ exception.RuntimeError ∷ exception.RecursionError ∷ exception.FrozenError ∷ []

-- the exception class of that name
abbrev pub exception_named : Text → Option ExcKind
exception_named name = find (λ kind. bytes_eq name (name_of kind)) exceptions

-- a builtin's or an exception's name
abbrev pub is_builtin : Text → Bool
is_builtin name = among name builtins || is_some (exception_named name)

-- two underscores at the front, and at the end
abbrev pub begins_special : Text → Bool
begins_special name = starts_with nat_eq name (codes "__")

abbrev pub ends_special : Text → Bool
ends_special name = ends_with nat_eq name (codes "__")

abbrev pub is_special : Text → Bool
is_special name = begins_special name && ends_special name

abbrev pub is_private : Text → Bool
is_private name = begins_special name && not (ends_special name)

-- the markers, by which a module asks for the strict rules
abbrev pub is_marker : Text → Bool
is_marker name = bytes_eq name (codes "__strict__") || bytes_eq name (codes "__static__")

-- the static name that `from typing import name` binds, if it is one
abbrev pub typing_name : Text → Option StaticName
typing_name name =
    if bytes_eq name (codes "Optional") then Some static.Optional
    else (if bytes_eq name (codes "Any") then Some static.Any
    else None)

-- and that of `from __static__ import name`
abbrev pub own_static_name : Text → Option StaticName
own_static_name name =
    if bytes_eq name (codes "int64") then Some static.Int64
    else (if bytes_eq name (codes "cbool") then Some static.CBool
    else (if bytes_eq name (codes "box") then Some static.Box
    else (if bytes_eq name (codes "cast") then Some static.Cast
    else None)))

abbrev pub static_name : Text → Text → Option StaticName
static_name from name =
    if bytes_eq from (codes "typing") then typing_name name
    else (if bytes_eq from (codes "__static__") then own_static_name name
    else None)
