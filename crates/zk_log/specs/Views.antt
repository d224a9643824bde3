-- What operations and entries say, without where it lies in memory.
use Rattle.std.specs.Prelude.{ℕ, ℤ, List, map, Option}
use Rattle.std.specs.Option.{option_map}
use Rattle.zk_jute.specs.Layout.{vector, Value}
use Rattle.zk_jute.specs.declared.lent.TextRef.{TextRef}
use Rattle.zk_jute.specs.declared.lent.BytesRef.{BytesRef}
use Rattle.zk_jute.specs.declared.then.Then.{Then}
use Rattle.zk_jute.specs.declared.list.List.{List as Listed}
use Rattle.zk_log.specs.declared.kind.TxnKind.{TxnKind}
use Rattle.zk_log.specs.declared.kind.TxnKind.TheVariants as kind
use Rattle.zk_log.specs.declared.txn_fields.CreateTxn.{CreateTxn}
use Rattle.zk_log.specs.declared.txn_fields.CreateContainerTxn.{CreateContainerTxn}
use Rattle.zk_log.specs.declared.txn_fields.CreateTtlTxn.{CreateTtlTxn}
use Rattle.zk_log.specs.declared.txn_fields.SetDataTxn.{SetDataTxn}
use Rattle.zk_log.specs.declared.txn_fields.SetAclTxn.{SetAclTxn}
use Rattle.zk_log.specs.declared.txn_fields.CheckVersionTxn.{CheckVersionTxn}
use Rattle.zk_log.specs.declared.txn.Txn.{Txn}
use Rattle.zk_log.specs.declared.txn.Txn.TheVariants as txn
use Rattle.zk_log.specs.declared.entry.LogEntry.{LogEntry}
use Rattle.zk_log.specs.declared.entry.TreeDigest.{TreeDigest}
use Rattle.zk_log.specs.declared.record.FoundRecord.{FoundRecord}
use Rattle.zk_log.specs.declared.record.FoundRecord.TheVariants as found
use Rattle.zk_log.specs.declared.log.PlacedEntry.{PlacedEntry}
use Rattle.zk_log.specs.declared.log.Log.{Log}
use Rattle.zk_log.specs.Reading.{Found, Zeros, Torn, Holds, Placed, ReadLog}
use Rattle.zk_log.specs.Kinds.{acl, node, container, ttl, node_data, node_acl, node_version, part, fields}
use Rattle.zk_log.specs.Format.{Logged, digest}

abbrev pub text_of : TextRef → Option (List ℕ)
text_of t = option_map (λ s. s.now) t.text

abbrev pub bytes_of : BytesRef → Option (List ℕ)
bytes_of b = option_map (λ s. s.now) b.bytes

abbrev pub acl_of : Then ℤ (Then (Option (List ℕ)) (Option (List ℕ))) → Value acl
acl_of a = (a.0, (a.1.0, a.1.1))

abbrev pub acls_of : {A : Type 0} → Listed (Then ℤ (Then (Option (List ℕ)) (Option (List ℕ)))) A → Value (vector acl)
acls_of acls = option_map (λ v. map acl_of v.items) acls.elements

abbrev pub node_of : {A : Type 0} → CreateTxn A → Value node
node_of t = (t.path, (t.bytes, (acls_of t.acl, (t.ephemeral, t.parent_cversion))))

abbrev pub container_of : {A : Type 0} → CreateContainerTxn A → Value container
container_of t = (t.path, (t.bytes, (acls_of t.acl, t.parent_cversion)))

abbrev pub ttl_of : {A : Type 0} → CreateTtlTxn A → Value ttl
ttl_of t = (t.path, (t.bytes, (acls_of t.acl, (t.parent_cversion, t.ttl))))

abbrev pub node_data_of : SetDataTxn → Value node_data
node_data_of t = (text_of t.path, (bytes_of t.bytes, t.version))

abbrev pub node_acl_of : {A : Type 0} → SetAclTxn A → Value node_acl
node_acl_of t = (text_of t.path, (acls_of t.acl, t.version))

abbrev pub node_version_of : CheckVersionTxn → Value node_version
node_version_of t = (text_of t.path, t.version)

abbrev pub part_of : Then ℤ (Option (List ℕ)) → Value part
part_of p = (p.0, p.1)

abbrev pub kind_of : {A : Type 0} → Txn A → TxnKind
kind_of (txn.Create t) = kind.Create
kind_of (txn.Create2 t) = kind.Create2
kind_of (txn.CreateContainer t) = kind.CreateContainer
kind_of (txn.CreateTtl t) = kind.CreateTtl
kind_of (txn.Delete path) = kind.Delete
kind_of (txn.DeleteContainer path) = kind.DeleteContainer
kind_of (txn.Set t) = kind.Set
kind_of (txn.Reconfig t) = kind.Reconfig
kind_of (txn.SetAcl t) = kind.SetAcl
kind_of (txn.Check t) = kind.Check
kind_of (txn.Multi parts) = kind.Multi
kind_of (txn.CreateSession timeout) = kind.CreateSession
kind_of (txn.CloseSession paths) = kind.CloseSession
kind_of txn.CloseSessionAlone = kind.CloseSessionAlone
kind_of (txn.Error code) = kind.Error

abbrev pub body_of : {A : Type 0} → (t : Txn A) → Value (fields (kind_of t))
body_of (txn.Create t) = node_of t
body_of (txn.Create2 t) = node_of t
body_of (txn.CreateContainer t) = container_of t
body_of (txn.CreateTtl t) = ttl_of t
body_of (txn.Delete path) = text_of path
body_of (txn.DeleteContainer path) = text_of path
body_of (txn.Set t) = node_data_of t
body_of (txn.Reconfig t) = node_data_of t
body_of (txn.SetAcl t) = node_acl_of t
body_of (txn.Check t) = node_version_of t
body_of (txn.Multi parts) = option_map (λ v. map part_of v.items) parts.elements
body_of (txn.CreateSession timeout) = timeout
body_of (txn.CloseSession paths) = option_map (λ v. map (λ t. t) v.items) paths.elements
body_of txn.CloseSessionAlone = tt
body_of (txn.Error code) = code

abbrev pub told_of : TreeDigest → Value digest
told_of d = (d.version, d.digest)

abbrev pub digest_of : Option TreeDigest → Option (Value digest)
digest_of digest = option_map told_of digest

abbrev pub entry_of : {A : Type 0} → LogEntry A → Logged
entry_of e = record {
  session = e.session;
  cxid = e.cxid;
  zxid = e.zxid;
  time = e.time;
  kind = kind_of e.txn;
  body = body_of e.txn;
  digest = digest_of e.digest;
}

abbrev pub found_of : FoundRecord → Found
found_of found.End = Zeros
found_of found.Torn = Torn
found_of (found.Holds entry behind) = Holds entry.now behind.now

abbrev pub placed_of : {A : Type 0} → PlacedEntry A → Placed
placed_of p = record { place = p.place; entry = entry_of p.entry }

abbrev pub log_of : {A : Type 0} → Log A → ReadLog
log_of l = record { dbid = l.dbid; entries = map placed_of l.entries.items; torn = l.torn }
