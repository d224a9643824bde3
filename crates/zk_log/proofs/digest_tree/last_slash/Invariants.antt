-- What is left of the bytes, from the last slash so far on, gives the last slash of all of them.
use Rattle.std.proofs.Common.{◌≡◌, ◌<◌, drop, length, get_or, IfSome, None}
use Rattle.zk_log.specs.Trees.{last_slash}
use Rattle.zk_log.proofs.digest_tree.last_slash.Given as goal

abbrev pub invariant-loop-place : goal.invariant-loop-place
invariant-loop-place l = record {
  left : last_slash (drop l.place l.bytes) l.place l.last ≡ last_slash l.bytes 0 None;
  within : IfSome l.last (λ place. place < length l.bytes);
  slash : IfSome l.last (λ place. get_or l.bytes place 0 ≡ 47);
}
