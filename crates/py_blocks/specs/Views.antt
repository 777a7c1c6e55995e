-- No definition of the language: what `build` keeps, as the plain data of the machine.
use Rattle.std.specs.Prelude.{◌≡◌, ◌<◌, ◌≤◌, true, false, List, length, map, reverse, Option, Some, None, Result, Ok, Err}
use Rattle.py_tree.specs.Syntax as x
use Rattle.py_tree.specs.Syntax.{Statement}
use Rattle.py_tree.specs.Joined.{expression_of, maybe_of, param_of, target_of, statement_of, statements_of, branch_of, clause_of}
use Rattle.py_tree.specs.Lawful as lawful
use Rattle.py_tree.specs.declared.code.Code.{Code}
use Rattle.py_tree.specs.declared.code.Code.TheVariants.{BadIndentation, MisplacedForm, TooDeep}
use Rattle.py_tree.specs.declared.fault.Stop.{Stop}
use Rattle.py_tree.specs.declared.fault.Stop.TheVariants.{Fault, Memory}
use Rattle.py_tree.specs.declared.statement.Stmt.{Stmt}
use Rattle.py_tree.specs.declared.statement.Branch as branch
use Rattle.py_tree.specs.declared.statement.Clause as clause
use Rattle.py_blocks.specs.Rows.{Row}
use Rattle.py_blocks.specs.Blocks as spec
use Rattle.py_blocks.specs.Machine as machine
use Rattle.py_blocks.specs.declared.builder.Builder.{Builder}
use Rattle.py_blocks.specs.declared.builder.Frame.{Frame}
use Rattle.py_blocks.specs.declared.context.Place.{Place}
use Rattle.py_blocks.specs.declared.context.Context.{Context}
use Rattle.py_blocks.specs.declared.context.Context.TheVariants as a_context
use Rattle.py_blocks.specs.declared.open_block.Block.{Block}
use Rattle.py_blocks.specs.declared.placing.Placed.{Placed}
use Rattle.py_blocks.specs.declared.open_block.Last.{Last}
use Rattle.py_blocks.specs.declared.open_block.Last.TheVariants as a_last
use Rattle.py_blocks.specs.declared.open_block.Owner.{Owner}
use Rattle.py_blocks.specs.declared.open_block.Owner.TheVariants as an_owner

abbrev pub place_of : Place → lawful.Place
place_of p = record { in_function = p.in_function; in_loop = p.in_loop; in_clause = p.in_clause }

abbrev pub context_of : Context → spec.Context
context_of (a_context.Code p) = spec.Code (place_of p)
context_of a_context.ClassFront = spec.ClassFront
context_of a_context.ClassRest = spec.ClassRest

abbrev pub done_of : List Stmt → List Statement
done_of done = reverse (map statement_of done)

abbrev pub branches_of : List branch.Branch → List x.Branch
branches_of branches = reverse (map branch_of branches)

abbrev pub clauses_of : List clause.Clause → List x.Clause
clauses_of clauses = reverse (map clause_of clauses)

abbrev pub last_of : Last → machine.Last
last_of a_last.Whole = machine.Whole
last_of (a_last.If line branches) = machine.OpenIf line (branches_of branches)
last_of (a_last.Try line body clauses) = machine.OpenTry line (statements_of body) (clauses_of clauses)

abbrev pub owner_of : Owner → machine.Owner
owner_of (an_owner.Branch line branches at test) = machine.Branch line (branches_of branches) at (expression_of test)
owner_of (an_owner.Else line branches) = machine.Orelse line (branches_of branches)
owner_of (an_owner.While line test) = machine.While line (expression_of test)
owner_of (an_owner.For line target iterable) = machine.For line (target_of target) (expression_of iterable)
owner_of (an_owner.Try line) = machine.Try line
owner_of (an_owner.Except line body clauses matches bind) = machine.Except line (statements_of body) (clauses_of clauses) (maybe_of matches) bind
owner_of (an_owner.Def line name params result) = machine.Def line name (map param_of params) (maybe_of result)
owner_of (an_owner.Class line name base) = machine.Class line name (maybe_of base)

abbrev pub block_of : Block → machine.Block
block_of b = record { indent = b.indent; context = context_of b.context; done = done_of b.done; last = last_of b.last }

abbrev pub maybe_owner_of : Option Owner → Option machine.Owner
maybe_owner_of None = None
maybe_owner_of (Some o) = Some (owner_of o)

abbrev pub placed_of : Placed → machine.Placed
placed_of p = record { block = block_of p.block; waiting = maybe_owner_of p.waiting }

abbrev pub frame_of : Frame → machine.Frame
frame_of f = record { block = block_of f.block; owner = owner_of f.owner }

abbrev pub frames_of : List Frame → List machine.Frame
frames_of fs = reverse (map frame_of fs)

abbrev pub state_of : Builder → machine.State
state_of b = record { inner = block_of b.inner; outer = frames_of b.outer; waiting = maybe_owner_of b.waiting }

-- why `read` stops at a row
abbrev pub Stops : machine.State → Row → Code → Type 0
Stops st t BadIndentation = machine.admits st t.indent ≡ false
Stops st t MisplacedForm = (machine.admits st t.indent ≡ true) × (machine.step st t ≡ None)
Stops st t TooDeep = (machine.admits st t.indent ≡ true) × (to : machine.State) × (machine.step st t ≡ Some to) × (100 < length to.outer)
Stops st t code = ⊥

abbrev pub ReadsRow : machine.State → Row → Result Builder Stop → Type 0
ReadsRow st t (Ok next) = (machine.step st t ≡ Some (state_of next)) × (length (state_of next).outer ≤ 100)
ReadsRow st t (Err (Fault f)) = (f.line ≡ t.line) × Stops st t f.code
ReadsRow st t (Err (Memory error)) = Unit {0}
