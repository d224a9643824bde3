-- Answers, states and faults as numbers, and the text that is read separately.
use Rattle.std.specs.Prelude.{ℕ, ℤ, pos, true, false, List, [], length, Some, None, string_bytes}
use Rattle.zk_nodes.specs.declared.side.Side.{Side}
use Rattle.zk_nodes.specs.declared.side.Side.TheVariants.{Data, Child}
use Rattle.zk_nodes.specs.declared.stat.Stat.{Stat}
use Rattle.zk_records.specs.Codes.{code_number}
use Rattle.zk_records.specs.Events.{event_number}
use Rattle.zk_client.specs.declared.call_result.CallResult.{CallResult}
use Rattle.zk_client.specs.declared.call_result.CallResult.TheVariants as result
use Rattle.zk_client.specs.declared.fault.Fault.{Fault}
use Rattle.zk_client.specs.declared.fault.Fault.TheVariants as fault
use Rattle.zk_client.specs.declared.output.Outcome.{Outcome}
use Rattle.zk_client.specs.declared.output.Outcome.TheVariants as outcome
use Rattle.zk_client.specs.declared.output.Output.{Output}
use Rattle.zk_client.specs.declared.output.Output.TheVariants as output
use Rattle.zk_client.specs.FaultText.{fault_code}
use Rattle.zk_client.specs.Views.{fault_view}
use Rattle.ffi_device.specs.declared.flat.Flat.{Flat}
use Rattle.ffi_device.specs.declared.flat.FlatStat.{FlatStat}
use Rattle.ffi_device.specs.Sessions.{state_number}

-- no stat: zeros
abbrev pub no_stat : FlatStat
no_stat = record {
  czxid = pos 0;
  mzxid = pos 0;
  ctime = pos 0;
  mtime = pos 0;
  ephemeral_owner = pos 0;
  pzxid = pos 0;
  version = pos 0;
  cversion = pos 0;
  aversion = pos 0;
  data_length = pos 0;
  num_children = pos 0;
}

-- the same eleven fields
abbrev pub stat_of : Stat → FlatStat
stat_of stat = record {
  czxid = stat.czxid;
  mzxid = stat.mzxid;
  ctime = stat.ctime;
  mtime = stat.mtime;
  ephemeral_owner = stat.ephemeral_owner;
  pzxid = stat.pzxid;
  version = stat.version;
  cversion = stat.cversion;
  aversion = stat.aversion;
  data_length = stat.data_length;
  num_children = stat.num_children;
}

-- an output of this kind, and nothing else
abbrev pub plain : (kind detail : ℤ) → Flat
plain kind detail = record {
  kind = kind;
  detail = detail;
  result = pos 0;
  code = pos 0;
  ticket = 0;
  zxid = pos 0;
  length = 0;
  names = 0;
  is_null = false;
  has_stat = false;
  stat = no_stat;
}

-- a reply with what it brings
abbrev pub with_result : {A : Type 0} → Flat → CallResult A → Flat
with_result flat (result.Code code) = record flat { result = pos 1; code = code_number code }
with_result flat (result.Stat stat) = record flat { result = pos 2; has_stat = true; stat = stat_of stat }
with_result flat (result.Data (Some bytes) stat) =
    record flat { result = pos 3; has_stat = true; stat = stat_of stat; length = length bytes.items }
with_result flat (result.Data None stat) = record flat { result = pos 3; has_stat = true; stat = stat_of stat; is_null = true }
with_result flat (result.Names names stat) =
    record flat { result = pos 4; has_stat = true; stat = stat_of stat; names = length names }
with_result flat (result.Created path) = record flat { result = pos 5; length = length (string_bytes path) }
with_result flat result.Done = record flat { result = pos 6 }
with_result flat (result.Raw bytes) = record flat { result = pos 7; length = length bytes.items }

-- a reply, or why there is none: 1 to 7
abbrev pub outcome_flat : {A : Type 0} → Outcome A → Flat
outcome_flat (outcome.Replied zxid brought) = with_result (record (plain (pos 2) (pos 0)) { zxid = zxid }) brought
outcome_flat outcome.ConnectionLoss = plain (pos 2) (pos 1)
outcome_flat outcome.SessionExpired = plain (pos 2) (pos 2)
outcome_flat outcome.SessionClosed = plain (pos 2) (pos 3)
outcome_flat outcome.NotConnected = plain (pos 2) (pos 4)
outcome_flat outcome.TooManyWatches = plain (pos 2) (pos 5)
outcome_flat outcome.TooLarge = plain (pos 2) (pos 6)
outcome_flat outcome.TooManyPending = plain (pos 2) (pos 7)

-- why a connection is given up
abbrev pub fault_flat : Fault → Flat
fault_flat (fault.Framed why) = plain (pos 5) (pos 1)
fault_flat (fault.Talked why) = plain (pos 5) (pos 2)
fault_flat fault.Silent = plain (pos 5) (pos 3)
fault_flat (fault.Behind seen came) = record (plain (pos 5) (pos 4)) { zxid = came }
fault_flat (fault.WatchesRefused code) = record (plain (pos 5) (pos 5)) { code = code }

-- the number of a side
abbrev pub side_number : Side → ℤ
side_number Data = pos 1
side_number Child = pos 2

-- the text of what a reply brings
abbrev pub result_text : {A : Type 0} → CallResult A → List ℕ
result_text (result.Data (Some bytes) stat) = bytes.items
result_text (result.Created path) = string_bytes path
result_text (result.Raw bytes) = bytes.items
result_text _ = []

-- the text of an answer
abbrev pub outcome_text : {A : Type 0} → Outcome A → List ℕ
outcome_text (outcome.Replied zxid brought) = result_text brought
outcome_text _ = []
