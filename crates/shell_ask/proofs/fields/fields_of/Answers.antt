-- Each number of the Stat comes back unchanged from its machine word, of 32 or of 64 bits; the rest is by computation.
use Rattle.std.proofs.Common.{rules, ◌≡◌, refl, to_z, of_z, w32, w64}
use Rattle.shell_ask.proofs.fields.fields_of.Goals as goal

pub returns : goal.returns
returns c =
    let czxid : to_z w64 (of_z w64 c.args.stat.now.czxid) ≡ c.args.stat.now.czxid = search rules in
    let mzxid : to_z w64 (of_z w64 c.args.stat.now.mzxid) ≡ c.args.stat.now.mzxid = search rules in
    let ctime : to_z w64 (of_z w64 c.args.stat.now.ctime) ≡ c.args.stat.now.ctime = search rules in
    let mtime : to_z w64 (of_z w64 c.args.stat.now.mtime) ≡ c.args.stat.now.mtime = search rules in
    let owner : to_z w64 (of_z w64 c.args.stat.now.ephemeral_owner) ≡ c.args.stat.now.ephemeral_owner = search rules in
    let pzxid : to_z w64 (of_z w64 c.args.stat.now.pzxid) ≡ c.args.stat.now.pzxid = search rules in
    let version : to_z w64 (of_z w64 (to_z w32 (of_z w32 c.args.stat.now.version))) ≡ c.args.stat.now.version = search rules in
    let cversion : to_z w64 (of_z w64 (to_z w32 (of_z w32 c.args.stat.now.cversion))) ≡ c.args.stat.now.cversion = search rules in
    let aversion : to_z w64 (of_z w64 (to_z w32 (of_z w32 c.args.stat.now.aversion))) ≡ c.args.stat.now.aversion = search rules in
    let data_length : to_z w64 (of_z w64 (to_z w32 (of_z w32 c.args.stat.now.data_length))) ≡ c.args.stat.now.data_length = search rules in
    let num_children : to_z w64 (of_z w64 (to_z w32 (of_z w32 c.args.stat.now.num_children)))
    ≡ c.args.stat.now.num_children = search rules in
    rw (czxid, mzxid, ctime, mtime, owner, pzxid, version, cversion, aversion, data_length, num_children) refl
