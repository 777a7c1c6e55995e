-- Which binding a use of a name has.
use Rattle.std.specs.Prelude.{◌≡◌, ℕ, suc, true, false, if◌then◌else◌, List, [], ◌∷◌, codes, Option, Some, None}
use Rattle.std.specs.Str.{bytes_eq}
use Rattle.py_tree.specs.Syntax.{Text}
use Rattle.symbols.specs.declared.binding.StaticName.{StaticName}
use Rattle.symbols.specs.Words.{is_builtin}
use Rattle.symbols.specs.SpecialNames.{Context, static_of}

pub data Bound : Type 0 where
  local : ℕ → Bound  -- by its place among the function's locals
  static_name : StaticName → Bound
  global : ℕ → Bound  -- by its place among the module's globals
  builtin : Bound
  module_name : Bound  -- `__name__`
  nothing : Bound  -- nowhere: a read raises NameError

-- ---- as a rule for each binding

-- the place of a name among others, its first
pub data StandsAt (name : Text) : List Text → ℕ → Type 0 where
  here : {names : List Text} → StandsAt name (name ∷ names) 0
  behind : {other : Text} {names : List Text} {n : ℕ} → ¬ (name ≡ other) → StandsAt name names n → StandsAt name (other ∷ names) (suc n)

abbrev pub IsAbsent : Text → List Text → Type 0
IsAbsent name names = (n : ℕ) → StandsAt name names n → ⊥

-- neither a local, nor a static name, nor a global
pub record IsUnbound (c : Context) (globals : List Text) (name : Text) : Type 0 where
  pub no_local : IsAbsent name c.locals
  pub no_static_name : c.statics name ≡ None
  pub no_global : IsAbsent name globals

-- In that context, in a module with these globals, a use of the name has that binding. A local hides what the module binds.
pub data IsBoundTo (c : Context) (globals : List Text) (name : Text) : Bound → Type 0 where
  to_local : {n : ℕ} → StandsAt name c.locals n → IsBoundTo c globals name (local n)
  to_static_name : {s : StaticName} → IsAbsent name c.locals → c.statics name ≡ Some s → IsBoundTo c globals name (static_name s)
  to_global : {n : ℕ} → IsAbsent name c.locals → c.statics name ≡ None → StandsAt name globals n → IsBoundTo c globals name (global n)
  to_module_name : IsUnbound c globals name → name ≡ codes "__name__" → IsBoundTo c globals name module_name
  to_builtin : IsUnbound c globals name → ¬ (name ≡ codes "__name__") → is_builtin name ≡ true → IsBoundTo c globals name builtin
  to_nothing : IsUnbound c globals name → ¬ (name ≡ codes "__name__") → is_builtin name ≡ false → IsBoundTo c globals name nothing

-- ---- as a function

abbrev pub one_more : Option ℕ → Option ℕ
one_more None = None
one_more (Some n) = Some (suc n)

abbrev pub place_of : Text → List Text → Option ℕ
place_of name [] = None
place_of name (other ∷ names) = if bytes_eq name other then Some 0 else one_more (place_of name names)

abbrev pub local_or : Option ℕ → Bound → Bound
local_or (Some n) other = local n
local_or None other = other

abbrev pub static_or : Option StaticName → Bound → Bound
static_or (Some s) other = static_name s
static_or None other = other

abbrev pub global_or : Option ℕ → Bound → Bound
global_or (Some n) other = global n
global_or None other = other

-- the locals of its function, the module's static names, its globals, `__name__`, the builtins
abbrev pub use_of : Context → List Text → Text → Bound
use_of c globals name =
    local_or (place_of name c.locals) (static_or (static_of c name) (global_or (place_of name globals)
    (if bytes_eq name (codes "__name__") then module_name else (if is_builtin name then builtin else nothing))))

-- ---- every use of a name has exactly one binding

pub record OneBinding (c : Context) (globals : List Text) (name : Text) : Type 0 where
  pub there : IsBoundTo c globals name (use_of c globals name)
  pub alone : (b : Bound) → IsBoundTo c globals name b → b ≡ use_of c globals name

abbrev pub EachUseIsBound : Type 0
EachUseIsBound = (c : Context) (globals : List Text) (name : Text) → OneBinding c globals name
