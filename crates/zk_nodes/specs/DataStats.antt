-- What data watches keep true of a node.
use Rattle.zk_nodes.specs.declared.stat.Stat.{Stat}
use Rattle.zk_nodes.specs.declared.data_stat.DataStat.{DataStat}

-- the seven fields of a Stat that change only where a data watch fires
abbrev pub data_stat_of : Stat → DataStat
data_stat_of s = record {
  czxid = s.czxid;
  mzxid = s.mzxid;
  ctime = s.ctime;
  mtime = s.mtime;
  version = s.version;
  ephemeral_owner = s.ephemeral_owner;
  data_length = s.data_length;
}
