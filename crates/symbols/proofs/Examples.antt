-- What the definitions give for some modules.
use Rattle.std.proofs.Common.{◌≡◌, refl, [], ◌∷◌, Some, None, codes}
use Rattle.py_tree.specs.Syntax as x
use Rattle.py_tree.specs.Syntax.{Text, Expression, Kind, Statement, Statements}
use Rattle.symbols.specs.declared.outer.Outer.{Outer}
use Rattle.symbols.specs.Bindings.{locals}
use Rattle.symbols.specs.Classes.{classes}
use Rattle.symbols.specs.SpecialNames.{special_lines, module_context}
use Rattle.symbols.specs.Faults.{bad_bases, member_clashes, bound_twice, late_imports}
use Rattle.std.specs.Prelude.{map}

abbrev outer : Outer
outer = record { name = codes "m"; number = 0; bindings = [] }

abbrev name : Expression
name = x.Name (codes "a")

abbrev alone : Statement → Statements
alone s = x.more_statements s x.end_of_statements

abbrev assign : Text → Kind
assign n = x.Assign (x.ToName n) (x.Int 1)

abbrev def_of : Text → Statements → Kind
def_of n body = x.Def (x.Defined n [] None body)

-- def f(): pass, and f = 1
abbrev twice : Statements
twice = x.more_statements (x.On 2 (def_of (codes "f") (alone (x.On 2 x.Pass)))) (alone (x.On 3 (assign (codes "f"))))

at_the_second : bound_twice twice ≡ 3 ∷ []
at_the_second = refl

-- f = 1, f = 2, def f(): the fault is at the second of the three
of_three : bound_twice (x.more_statements (x.On 1 (assign (codes "f"))) (x.more_statements (x.On 2 (assign (codes "f"))) (alone (x.On 3 (def_of (codes "f") (alone (x.On 3 x.Pass))))))) ≡ 2 ∷ []
of_three = refl

-- only assigned
no_definition : bound_twice (x.more_statements (x.On 1 (assign (codes "f"))) (alone (x.On 2 (assign (codes "f"))))) ≡ []
no_definition = refl

-- X = a.__class__
a_special_attribute : special_lines (module_context x.end_of_statements) (alone (x.On 2 (x.Assign (x.ToName (codes "X")) (x.Attr name (codes "__class__"))))) ≡ 2 ∷ []
a_special_attribute = refl

-- if __name__ == ..: reading it is none
its_own_name : special_lines (module_context x.end_of_statements) (alone (x.On 2 (x.Eval (x.Name (codes "__name__"))))) ≡ []
its_own_name = refl

-- len = 1
a_builtin : special_lines (module_context x.end_of_statements) (alone (x.On 1 (assign (codes "len")))) ≡ 1 ∷ []
a_builtin = refl

-- def f(): import a
in_a_function : late_imports (alone (x.On 2 (def_of (codes "f") (alone (x.On 3 (x.Imports [])))))) ≡ 3 ∷ []
in_a_function = refl

-- class C(int)
no_class : bad_bases outer (alone (x.On 2 (x.Class (x.Classed (codes "C") (Some (x.Name (codes "int"))) (alone (x.On 2 x.Pass)))))) ≡ 2 ∷ []
no_class = refl

-- class C: `__init__` assigns self.m, and m is a method
abbrev clashing : Statements
clashing =
    alone (x.On 2 (x.Class (x.Classed (codes "C") None
    (x.more_statements (x.On 3 (x.Def (x.Defined (codes "__init__") [] None (alone (x.On 4 (x.Assign (x.ToAttr (x.Name (codes "self")) (codes "m")) (x.Int 1)))))))
    (alone (x.On 5 (def_of (codes "m") (alone (x.On 5 x.Pass)))))))))

a_clash : member_clashes outer clashing ≡ 2 ∷ []
a_clash = refl

-- class C(Exception): x: int has the slots args and x
an_exception : map (λ c. c.kind.slots) (classes outer (alone (x.On 1 (x.Class (x.Classed (codes "C") (Some (x.Name (codes "Exception"))) (alone (x.On 2 (x.Annotate (x.ToName (codes "x")) name None)))))))) ≡ (codes "args" ∷ codes "x" ∷ []) ∷ []
an_exception = refl

-- for a in a: b = 1
its_locals : locals (x.Defined (codes "f") (record { name = codes "p"; kind = None; default = None } ∷ []) None (alone (x.On 2 (x.For (x.ToName (codes "a")) name (alone (x.On 3 (assign (codes "b")))))))) ≡ codes "p" ∷ codes "a" ∷ codes "b" ∷ []
its_locals = refl
