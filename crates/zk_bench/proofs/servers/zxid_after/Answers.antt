-- The zxid is that of the last transaction taken (`zxid_is`), fits 64 bits (`zxid_fits`), and is there if any was taken (`has_last`). The
-- tree at it is that of the transactions taken, since zxids rise: `held_tree`.
use Rattle.std.proofs.Common.{refl, ◌∙◌}
use Rattle.std.proofs.lemmas.Int.{to_z-of_z}
use Rattle.zk_bench.proofs.Placed.{held_tree, zxid_is, has_last, zxid_fits}
use Rattle.zk_bench.proofs.servers.zxid_after.Goals as goal
use Rattle.std.specs.Int.{w64}
use Rattle.zk_history.specs.HistoryView.{history_of}

pub returns-in-Some-clause-zxid : goal.returns-in-Some-clause-zxid
returns-in-Some-clause-zxid g c = λ low.
    to_z-of_z w64 c.in-Some.zxid (zxid_fits c.args.history.now.transactions c.args.taken c.in-Some.zxid _
    c.last_zxid-last.ensures.history.rising c.if-taken-eq0.false c.in-Some.ensures refl) ∙ zxid_is c.args.history.now.transactions
    c.args.taken c.in-Some.zxid _ c.last_zxid-last.ensures.history.rising c.if-taken-eq0.false c.in-Some.ensures refl

pub returns-in-None-clause-zxid : goal.returns-in-None-clause-zxid
returns-in-None-clause-zxid g c =
    λ low. absurd (has_last c.args.history.now.transactions c.args.taken low c.if-taken-eq0.false c.in-None.ensures)

pub returns-then-taken-eq0-clause-held : goal.returns-then-taken-eq0-clause-held
returns-then-taken-eq0-clause-held g c = held_tree (history_of c.args.history.now) c.args.taken c.last_zxid-last.ensures.history.rising

pub returns-in-Some-clause-held : goal.returns-in-Some-clause-held
returns-in-Some-clause-held g c = held_tree (history_of c.args.history.now) c.args.taken c.last_zxid-last.ensures.history.rising

pub returns-in-None-clause-held : goal.returns-in-None-clause-held
returns-in-None-clause-held g c = held_tree (history_of c.args.history.now) c.args.taken c.last_zxid-last.ensures.history.rising
