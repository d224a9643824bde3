-- The digest of a node, without what is kept of it.
use Rattle.std.specs.Prelude.{ℕ, List, ◌++◌, Option, if◌then◌else◌}
use Rattle.zk_jute.specs.Layout.{Value}
use Rattle.zk_jute.specs.Lenient.{or_empty}
use Rattle.zk_jute.specs.Spelling.{spelling}
use Rattle.zk_log.specs.Crc.{crc_after, crc_begun, crc_ended}
use Rattle.zk_log.specs.Digests.{stat_fields, counts, name_of}

-- the CRC of these bytes
abbrev pub crc32 : List ℕ → ℕ
crc32 bytes = crc_ended (crc_after bytes crc_begun)

-- that of a path, its data and its fields, one after another
abbrev pub digest_of : (path : List ℕ) (content : Option (List ℕ)) → Value stat_fields → ℕ
digest_of path content fields =
    if counts path then crc32 ((name_of path ++ or_empty content) ++ spelling stat_fields fields) else 0
