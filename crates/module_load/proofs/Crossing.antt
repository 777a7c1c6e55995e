-- A source may cross threads.
use denote.Param.Send.{IsSend, IsSync}
use denote.Param.SendFields.{declared_send, declared_sync, variants_send, variants_sync}
use Rattle.py_tree.proofs.Crossing.{fault_send, fault_sync, module_send, module_sync, text_send, text_sync}
use Rattle.module_load.specs.contracts.source.SourceState as State
use Rattle.module_load.specs.contracts.source.Source as Source

state_send : IsSend State.the_row
state_send = variants_send State.enum (tt, ((fault_send, tt), ((module_send, tt), tt)))

pub source_send : IsSend Source.the_row
source_send = declared_send Source.the_type (text_send, (state_send, tt))

state_sync : IsSync State.the_row
state_sync = variants_sync State.enum (tt, ((fault_sync, tt), ((module_sync, tt), tt)))

pub source_sync : IsSync Source.the_row
source_sync = declared_sync Source.the_type (text_sync, (state_sync, tt))
