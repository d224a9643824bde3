-- What a getChildren is answered with lists each name that is there: such an answer is a true read of the tree at its zxid, where servers
-- keep to the model at the directory.
use Rattle.std.proofs.Common.{refl}
use Rattle.zk_nodes.specs.Path.{path_of}
use Rattle.zk_nodes.specs.History.{Tree, tree_at}
use Rattle.zk_conversation.specs.Questions.{GetChildren}
use Rattle.zk_conversation.specs.Results.{Listing}
use Rattle.zk_turns.specs.Past.{names_of}
use Rattle.zk_laws.specs.Messages.{from_zero}
use Rattle.theory_local.proofs.Following.{about_listing}
use Rattle.theory_local.proofs.Headlines_at.{reads_at}
use Rattle.zk_conclusions.specs.Seen.{Is}
use Rattle.zk_conclusions.specs.Standings.{ListingIsTrue}
use Rattle.zk_conclusions.proofs.Sets.{set_among}
use Rattle.zk_conclusions.proofs.Truths.{names_there}

pub listing_here : ListingIsTrue
listing_here h view dir seen ticket watch zxid names stat among name there =
    let tree : Tree = tree_at h (from_zero zxid) in
    let read = reads_at (Is dir) h seen.history seen.start seen.items seen.stands.asked seen.served ticket (GetChildren dir watch) zxid
    (Listing names stat) among in
    let reads = read.3 (about_listing (Is dir) dir watch read.0 read.2 refl) in
    set_among names name (names_there (names_of names stat) tree (path_of dir) (tree (path_of dir)) reads.0 name there)
