-- Trees and faults may cross threads.
use denote.RattleType.{RattleType}
use denote.Enum.Declared.{shape}
use denote.Param.Send.{sendable, enum_send, enum_sync, IsSend, IsSync}
use denote.Param.SendFields.{declared_send, declared_sync, variants_send, variants_sync, as_row_send, as_row_sync}
use Rattle.std.proofs.Crossing.{crosses}
use Rattle.std.specs.contracts.option.Option as Option
use Rattle.sqlite_items.specs.contracts.items.Items as Items
use Rattle.sqlite_items.specs.contracts.boxed.Boxed as Boxed
use Rattle.py_tree.specs.contracts.code.Code as Code
use Rattle.py_tree.specs.contracts.fault.Fault as Fault
use Rattle.py_tree.specs.contracts.text.Text as Text
use Rattle.py_tree.specs.contracts.operator.BinaryOp as BinaryOp
use Rattle.py_tree.specs.contracts.operator.CompareOp as CompareOp
use Rattle.py_tree.specs.contracts.operator.Const as Const
use Rattle.py_tree.specs.contracts.operator.UnaryOp as UnaryOp
use Rattle.py_tree.specs.contracts.expression.Expr as Expr
use Rattle.py_tree.specs.contracts.expression.Param as Param
use Rattle.py_tree.specs.contracts.expression.Target as Target
use Rattle.py_tree.specs.contracts.statement.Import as Import
use Rattle.py_tree.specs.contracts.statement.Module as Module
use Rattle.py_tree.specs.contracts.statement.Stmt as Stmt
use Rattle.py_tree.proofs.expression.Expr.TheLaws.TheKnot as expr
use Rattle.py_tree.proofs.statement.StmtKind.TheLaws.TheKnot as stmt

pub text_send : IsSend Text.the_row
text_send = search (sendable, crosses) depth 20

pub items_send : (T : RattleType) → IsSend T → IsSend (Items.the_row T)
items_send T s = search (sendable, crosses) depth 20

pub boxed_send : (T : RattleType) → IsSend T → IsSend (Boxed.the_row T)
boxed_send T s = search (sendable, crosses) depth 20

pub option_send : (T : RattleType) → IsSend T → IsSend (Option.the_field T).row
option_send T s = enum_send (shape (Option.the_type T)) (search (sendable))

pub expr_send : IsSend (Expr.the_field).row
expr_send = expr.send-Expr (search sendable) text_send items_send (enum_send (shape UnaryOp.the_type) (search (tt))) boxed_send (enum_send (shape BinaryOp.the_type) (search (tt)))
    (enum_send (shape CompareOp.the_type) (search (tt))) (search sendable) (enum_send (shape Const.the_type) (search (tt)))

pub expr_row_send : IsSend Expr.the_row
expr_row_send = as_row_send Expr.the_field expr_send

pub import_send : IsSend Import.the_row
import_send = declared_send Import.the_type (text_send, (as_row_send (Option.the_field Text.the_row) (option_send Text.the_row text_send), tt))

pub param_row_send : IsSend Param.the_row
param_row_send =
    let optional = as_row_send (Option.the_field Expr.the_row) (option_send Expr.the_row expr_row_send) in
    declared_send Param.the_type (text_send, (optional, (optional, tt)))

pub target_send : IsSend (Target.the_field).row
target_send =
    let boxed = boxed_send Expr.the_row expr_row_send in
    enum_send (shape Target.the_type) ((text_send, tt), ((boxed, (text_send, tt)), ((boxed, (boxed, tt)), ((items_send Text.the_row text_send, tt), tt))))

pub stmt_send : IsSend Stmt.the_row
stmt_send =
    let boxed = boxed_send Expr.the_row expr_row_send in
    as_row_send Stmt.the_field (stmt.send-Stmt (option_send Expr.the_row expr_row_send) (items_send Import.the_row import_send) text_send expr_send target_send
    boxed (option_send (Boxed.the_row Expr.the_row) boxed) (enum_send (shape BinaryOp.the_type) (search (tt))) items_send boxed_send (search sendable) (option_send Text.the_row text_send)
    (items_send Param.the_row param_row_send))

pub module_send : IsSend Module.the_row
module_send = declared_send Module.the_type (as_row_send (Items.the_field Stmt.the_row) (items_send Stmt.the_row stmt_send), tt)

pub fault_send : IsSend Fault.the_row
fault_send = declared_send Fault.the_type (search (sendable, as_row_send), (variants_send Code.enum (search (tt)), tt))

pub text_sync : IsSync Text.the_row
text_sync = search (sendable, crosses) depth 20

pub items_sync : (T : RattleType) → IsSync T → IsSync (Items.the_row T)
items_sync T s = search (sendable, crosses) depth 20

pub boxed_sync : (T : RattleType) → IsSync T → IsSync (Boxed.the_row T)
boxed_sync T s = search (sendable, crosses) depth 20

pub option_sync : (T : RattleType) → IsSync T → IsSync (Option.the_field T).row
option_sync T s = enum_sync (shape (Option.the_type T)) (search (sendable))

pub expr_sync : IsSync (Expr.the_field).row
expr_sync = expr.sync-Expr (search sendable) text_sync items_sync (enum_sync (shape UnaryOp.the_type) (search (tt))) boxed_sync (enum_sync (shape BinaryOp.the_type) (search (tt)))
    (enum_sync (shape CompareOp.the_type) (search (tt))) (search sendable) (enum_sync (shape Const.the_type) (search (tt)))

pub expr_row_sync : IsSync Expr.the_row
expr_row_sync = as_row_sync Expr.the_field expr_sync

pub import_sync : IsSync Import.the_row
import_sync = declared_sync Import.the_type (text_sync, (as_row_sync (Option.the_field Text.the_row) (option_sync Text.the_row text_sync), tt))

pub param_row_sync : IsSync Param.the_row
param_row_sync =
    let optional = as_row_sync (Option.the_field Expr.the_row) (option_sync Expr.the_row expr_row_sync) in
    declared_sync Param.the_type (text_sync, (optional, (optional, tt)))

pub target_sync : IsSync (Target.the_field).row
target_sync =
    let boxed = boxed_sync Expr.the_row expr_row_sync in
    enum_sync (shape Target.the_type) ((text_sync, tt), ((boxed, (text_sync, tt)), ((boxed, (boxed, tt)), ((items_sync Text.the_row text_sync, tt), tt))))

pub stmt_sync : IsSync Stmt.the_row
stmt_sync =
    let boxed = boxed_sync Expr.the_row expr_row_sync in
    as_row_sync Stmt.the_field (stmt.sync-Stmt (option_sync Expr.the_row expr_row_sync) (items_sync Import.the_row import_sync) text_sync expr_sync target_sync
    boxed (option_sync (Boxed.the_row Expr.the_row) boxed) (enum_sync (shape BinaryOp.the_type) (search (tt))) items_sync boxed_sync (search sendable) (option_sync Text.the_row text_sync)
    (items_sync Param.the_row param_row_sync))

pub module_sync : IsSync Module.the_row
module_sync = declared_sync Module.the_type (as_row_sync (Items.the_field Stmt.the_row) (items_sync Stmt.the_row stmt_sync), tt)

pub fault_sync : IsSync Fault.the_row
fault_sync = declared_sync Fault.the_type (search (sendable, as_row_sync), (variants_sync Code.enum (search (tt)), tt))
