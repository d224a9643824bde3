-- The loop of `push_news`: told is what was told before, then the news before the index; at the slice's end these are all.
use Rattle.std.proofs.Common.{◌≡◌, ◌++◌, map, take}
use Rattle.zk_agent.specs.Telling.{news_told, told_by}
use Rattle.zk_agent.proofs.action.push_news.Given as goal

-- those so far were told
abbrev pub invariant-loop-one : goal.invariant-loop-one
invariant-loop-one g l = told_by l.actions.items ≡ told_by l.fn.actions.items ++ map news_told (take l.one-index l.news)
