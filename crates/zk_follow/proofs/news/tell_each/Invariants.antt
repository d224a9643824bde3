-- The loop over the places: those before what comes after the last one were told of, the rest are as they were. At the end none is left.
use Rattle.std.proofs.Common.{◌≡◌, length}
use Rattle.zk_client.specs.Clients.{view_of}
use Rattle.zk_client.specs.Views.{said}
use Rattle.zk_follow.specs.Following.{news_in, told_of}
use Rattle.zk_follow.proofs.Skipping.{start_of, Told}
use Rattle.zk_follow.proofs.news.tell_each.Given as goal

-- those up to the last place were told of
abbrev pub invariant-loop-place : goal.invariant-loop-place
invariant-loop-place g l = record {
  size : length l.subjects ≡ length l.fn.subjects;
  told : Told (told_of (view_of l.client)) (news_in (view_of l.client) (said l.outputs)) l.fn.subjects l.subjects l.fn.all.items l.all.items
      (start_of l.places l.place-index);
}
