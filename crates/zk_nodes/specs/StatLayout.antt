-- The fields of a Stat, in wire order.
use Rattle.zk_jute.specs.Layout.{Layout, int, long, ◌⨾◌}

-- czxid, mzxid, ctime, mtime, version, cversion, aversion, ephemeralOwner, dataLength, numChildren, pzxid
abbrev pub stat : Layout
stat = long ⨾ (long ⨾ (long ⨾ (long ⨾ (int ⨾ (int ⨾ (int ⨾ (long ⨾ (int ⨾ (int ⨾ long)))))))))
