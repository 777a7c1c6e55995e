-- The code of a module stands for its trees.
use Rattle.std.proofs.Common.{◌≡◌, ℕ, suc, List, [], ◌∷◌, ◌++◌, map, length, Option, Some, None, refl, sym, ap, ◌∙◌, subst}
use Rattle.std.proofs.lemmas.List.{append_assoc, append-nil}
use Rattle.std.proofs.lemmas.Option.{slice_get-map}
use Rattle.std.specs.Prelude.{slice_get}
use Rattle.std.specs.Option.{option_map}
use Rattle.py_tree.specs.Syntax.{Text, Statements}
use Rattle.symbols.specs.Bindings.{locals}
use Rattle.symbols.specs.Classes.{classes}
use Rattle.symbols.specs.declared.class.Class.{Class}
use Rattle.symbols.specs.declared.outer.Outer.{Outer}
use Rattle.gradual_types.specs.declared.facts.ClassFacts.{ClassFacts}
use Rattle.gradual_types.specs.declared.facts.Facts.{Facts}
use Rattle.gradual_types.specs.declared.facts.Signature.{Signature}
use Rattle.gradual_types.specs.declared.py_type.PyType.TheVariants.{Dynamic}
use Rattle.py_meaning.specs.ModuleFacts.{signature, facts_of_class, facts_of_classes}
use Rattle.py_meaning.specs.Modules.{World, ModuleText, FunctionIn, KnownFunction, functions, function_of, known_function, function_in, text_of}
use Rattle.py_meaning.specs.Runs.{body_of}
use Rattle.py_meaning.specs.Standing.{IsBlockOf, function_setting, function_job, body_job}
use Rattle.py_meaning.specs.Runs.{body_setting}
use Rattle.bytecode.specs.declared.instr.Cell.{Cell}
use Rattle.bytecode.specs.Blocks.{Does}
use Rattle.compile_plain.specs.Statements.{body_code}
use Rattle.compile_plain.specs.Standing.{names_in, module_code, function_code, text_in, CodeStands}
use Rattle.compile_plain.proofs.Sites.{names_at}
use Rattle.compile_plain.proofs.Whole.{block_of}

as_long : {A B : Type 0} (f : A → B) (xs : List A) → length (map f xs) ≡ length xs
as_long f [] = refl
as_long f (x ∷ xs) = ap suc (as_long f xs)

abbrev name_of : ClassFacts → Text
name_of facts = facts.name

abbrev class_name : Class → Text
class_name class = class.name

map_joined : (a b : List ClassFacts) → map name_of (a ++ b) ≡ map name_of a ++ map name_of b
map_joined [] b = refl
map_joined (x ∷ a) b = ap (λ l. x.name ∷ l) (map_joined a b)

class_names : (own : ℕ) (others : List (Option Facts)) (fs : List FunctionIn) (earlier : List ClassFacts) (cs : List Class)
    → map name_of (facts_of_classes own others fs earlier cs) ≡ map name_of earlier ++ map class_name cs
class_names own others fs earlier [] = sym (append-nil (map name_of earlier))
class_names own others fs earlier (k ∷ cs) =
    class_names own others fs (earlier ++ facts_of_class own others fs earlier k ∷ []) cs
    ∙ ap (λ l. l ++ map class_name cs) (map_joined earlier (facts_of_class own others fs earlier k ∷ []))
    ∙ append_assoc (map name_of earlier) (k.name ∷ []) (map class_name cs)

-- the function of a number is the one that is written there
written : (f : Option FunctionIn) (s : Option Signature) (k : KnownFunction) → known_function f s ≡ Some k → f ≡ Some (record { function = k.function; class = k.class })
written (Some f) (Some s) k e =
    let same : record { function = f.function; class = f.class; signature = s } ≡ k = cc (e) in
    ap (λ (k : KnownFunction). Some (record { function = k.function; class = k.class })) same
written None s k e = cc (e)
written (Some f) None k e = cc (e)

module _ (o : Outer) (tree : Statements) (others : List (Option Facts)) where
  abbrev t : ModuleText
  t = text_in others o tree

  same_names : (class : Option ℕ) (locals : Option (List Text)) → names_at t class locals ≡ names_in o tree class locals
  same_names class locals = ap (λ classes. record { tree = tree; classes = classes; class = class; locals = locals }) (class_names o.number others (functions tree) [] (classes o tree))

  long : length (functions t.tree) ≡ length t.facts.signatures
  long = sym (as_long (λ (f : FunctionIn). signature f.function) (functions tree))

  body_stands : (w : World) → text_of w o.number ≡ Some t → IsBlockOf (List Cell) Does (body_setting w o.number) (body_job w o.number tree) (module_code o tree)
  body_stands w text =
      subst (λ names. IsBlockOf (List Cell) Does (body_setting w o.number) (body_job w o.number tree) (body_code names tree)) (same_names None None)
      (block_of w o.number t text long None None Dynamic tree)

  function_stands : (w : World) → text_of w o.number ≡ Some t → (f : KnownFunction)
      → IsBlockOf (List Cell) Does (function_setting w o.number f) (function_job w o.number f) (function_code o tree (record { function = f.function; class = f.class }))
  function_stands w text f =
      subst (λ names. IsBlockOf (List Cell) Does (function_setting w o.number f) (function_job w o.number f) (body_code names (body_of f.function))) (same_names f.class (Some (locals f.function)))
      (block_of w o.number t text long f.class (Some (locals f.function)) f.signature.result (body_of f.function))

  each_stands : (w : World) → text_of w o.number ≡ Some t → (n : ℕ) (f : KnownFunction) (b : List Cell) → function_of w o.number n ≡ Some f → slice_get (map (function_code o tree) (functions tree)) n ≡ Some b
      → IsBlockOf (List Cell) Does (function_setting w o.number f) (function_job w o.number f) b
  each_stands w text n f b known at =
      let there : function_in (Some t) n ≡ Some f = subst (λ x. function_in x n ≡ Some f) text known in
      let is = written (slice_get (functions tree) n) (slice_get t.facts.signatures n) f there in
      let same : Some (function_code o tree (record { function = f.function; class = f.class })) ≡ Some b = ap (option_map (function_code o tree)) (sym is) ∙ sym (slice_get-map (function_code o tree) (functions tree) n) ∙ at in
      let code : function_code o tree (record { function = f.function; class = f.class }) ≡ b = cc (same) in
      subst (λ b. IsBlockOf (List Cell) Does (function_setting w o.number f) (function_job w o.number f) b) code (function_stands w text f)

pub code_stands : CodeStands
code_stands o tree others need images = record {
  as_many = as_long (function_code o tree) (functions tree);
  body = λ w a own. body_stands o tree others w a.text;
  each_function = λ w a n f b known at. each_stands o tree others w a.text n f b known at;
}
