-- The digest of a tree: a number that is made of all its nodes.
use Rattle.std.specs.Prelude.{ℕ, ℤ, pos, ◌&&◌, ◌%◌, ◌^◌, nat_eq, Bool, not, List, [], ◌++◌, codes, bytes_eq, Option, if◌then◌else◌, String}
use Rattle.std.specs.List.{sum_by, starts_with}
use Rattle.std.specs.Ordering.{int_eq}
use Rattle.std.specs.Map.{values_of}
use Rattle.std.specs.BTreeMap.{BTreeMap}
use Rattle.zk_jute.specs.Layout.{Layout, int, long, ◌⨾◌, Value}
use Rattle.zk_jute.specs.Lenient.{or_empty}
use Rattle.zk_jute.specs.Spelling.{spelling}
use Rattle.zk_log.specs.declared.digest_node.DigestNode.{DigestNode}
use Rattle.zk_log.specs.Format.{digest}
use Rattle.zk_log.specs.Crc.{crc_after, crc_begun, crc_ended}

-- czxid, mzxid, pzxid, ctime, mtime, version, cversion, aversion, ephemeralOwner
abbrev pub stat_fields : Layout
stat_fields = long ⨾ (long ⨾ (long ⨾ (long ⨾ (long ⨾ (int ⨾ (int ⨾ (int ⨾ long)))))))

abbrev pub fields_of : DigestNode → Value stat_fields
fields_of node =
    (node.czxid, (node.mzxid, (node.pzxid, (node.ctime, (node.mtime, (node.version, (node.cversion, (node.aversion, node.owner))))))))

-- no digest counts what is below /zookeeper
abbrev pub counts : List ℕ → Bool
counts path = not (starts_with nat_eq path (codes "/zookeeper/"))

-- the root has no name in a digest
abbrev pub name_of : List ℕ → List ℕ
name_of path = if bytes_eq path (codes "/") then [] else path

-- the CRC so far of a path and its data, of which null has no bytes
unfoldable pub head_of : List ℕ → Option (List ℕ) → ℕ
head_of path content = crc_after (name_of path ++ or_empty content) crc_begun

-- The digest of a node: the CRC of its path, its data and its fields, of which that of path and data is kept.
unfoldable pub node_digest : DigestNode → ℕ
node_digest node = if node.counts then crc_ended (crc_after (spelling stat_fields (fields_of node)) node.head) else 0

-- The digest of a tree: the sum of those of its nodes, as a number of 64 bits.
unfoldable pub nodes_digest : {A : Type 0} → BTreeMap (String A) DigestNode → ℕ
nodes_digest nodes = sum_by node_digest (values_of nodes.entries) % 2 ^ 64

-- a record's digest, by its version and its number, is not this one
abbrev pub departs : Value digest → ℤ → Bool
departs told found = int_eq told.0 (pos 2) && not (int_eq told.1 found)
