-- A CRC goes on from piece to piece.
use Rattle.std.proofs.Common.{◌≡◌, ℕ, ℤ, true, cond, List, [], ◌∷◌, ◌++◌, Option, refl, sym, ap, ◌∙◌, FitsSigned, w32, w64, to_z, of_z}
use Rattle.std.proofs.lemmas.Int.{to_z-of_z}
use Rattle.std.specs.Prelude.{bit_xor}
use Rattle.zk_jute.specs.Spelling.{spelling, int_bytes, long_bytes}
use Rattle.zk_jute.specs.Lenient.{or_empty}
use Rattle.zk_log.specs.Crc.{crc_after, crc_byte, crc_begun, crc_ended}
use Rattle.zk_log.specs.Digests.{stat_fields, fields_of, counts, name_of, head_of, node_digest}
use Rattle.zk_log.specs.inner.Digests.{digest_of}
use Rattle.zk_log.specs.declared.digest_node.DigestNode.{DigestNode}

pub after-append : (a b : List ℕ) (crc : ℕ) → crc_after (a ++ b) crc ≡ crc_after b (crc_after a crc)
after-append [] b crc = refl
after-append (byte ∷ a) b crc = after-append a b (crc_byte crc byte)

pub fields_after : (node : DigestNode) (crc : ℕ)
    → crc_after (spelling stat_fields (fields_of node)) crc
    ≡ crc_after (long_bytes node.owner) (crc_after (int_bytes node.aversion) (crc_after (int_bytes node.cversion)
    (crc_after (int_bytes node.version) (crc_after (long_bytes node.mtime) (crc_after (long_bytes node.ctime)
    (crc_after (long_bytes node.pzxid) (crc_after (long_bytes node.mzxid) (crc_after (long_bytes node.czxid) crc))))))))
fields_after node crc = simp after-append refl

pub digest_is : (node : DigestNode) (c1 c2 c3 c4 c5 c6 c7 c8 c9 : ℕ) → node.counts ≡ true
    → c1 ≡ crc_after (long_bytes node.czxid) node.head → c2 ≡ crc_after (long_bytes node.mzxid) c1
    → c3 ≡ crc_after (long_bytes node.pzxid) c2 → c4 ≡ crc_after (long_bytes node.ctime) c3
    → c5 ≡ crc_after (long_bytes node.mtime) c4 → c6 ≡ crc_after (int_bytes node.version) c5
    → c7 ≡ crc_after (int_bytes node.cversion) c6 → c8 ≡ crc_after (int_bytes node.aversion) c7
    → c9 ≡ crc_after (long_bytes node.owner) c8 → bit_xor c9 4294967295 ≡ node_digest node
unfolding node_digest
digest_is node c1 c2 c3 c4 c5 c6 c7 c8 c9 counted e1 e2 e3 e4 e5 e6 e7 e8 e9 =
    let whole : c9 ≡ crc_after (spelling stat_fields (fields_of node)) node.head =
    e9 ∙ ap (crc_after (long_bytes node.owner)) (e8 ∙ ap (crc_after (int_bytes node.aversion)) (e7
    ∙ ap (crc_after (int_bytes node.cversion)) (e6 ∙ ap (crc_after (int_bytes node.version)) (e5
    ∙ ap (crc_after (long_bytes node.mtime)) (e4 ∙ ap (crc_after (long_bytes node.ctime)) (e3
    ∙ ap (crc_after (long_bytes node.pzxid)) (e2 ∙ ap (crc_after (long_bytes node.mzxid)) e1))))))) ∙ sym (fields_after node node.head) in
    rw counted (ap (λ crc. bit_xor crc 4294967295) whole)

-- a number is seen as its bits
pub long_passed : (z : ℤ) (crc found : ℕ) → FitsSigned w64 z → found ≡ crc_after (long_bytes (to_z w64 (of_z w64 z))) crc
    → found ≡ crc_after (long_bytes z) crc
long_passed z crc found fits is = is ∙ ap (λ n. crc_after (long_bytes n) crc) (to_z-of_z w64 z fits)

pub int_passed : (z : ℤ) (crc found : ℕ) → FitsSigned w32 z → found ≡ crc_after (int_bytes (to_z w32 (of_z w32 z))) crc
    → found ≡ crc_after (int_bytes z) crc
int_passed z crc found fits is = is ∙ ap (λ n. crc_after (int_bytes n) crc) (to_z-of_z w32 z fits)

pub head_is : (name bytes : List ℕ) (crc : ℕ) → crc ≡ crc_after name 4294967295 → crc_after bytes crc ≡ crc_after (name ++ bytes) 4294967295
head_is name bytes crc is = ap (crc_after bytes) is ∙ sym (after-append name bytes 4294967295)

-- the CRC that is kept goes on over the fields
pub whole_is : (node : DigestNode) (path : List ℕ) (content : Option (List ℕ)) → node.counts ≡ counts path
    → node.head ≡ head_of path content → node_digest node ≡ digest_of path content (fields_of node)
unfolding node_digest head_of
whole_is node path content counted head =
    let fields = spelling stat_fields (fields_of node) in
    ap (λ b. cond b (crc_ended (crc_after fields node.head)) 0) counted
    ∙ ap (λ crc. cond (counts path) (crc_ended crc) 0)
    (ap (crc_after fields) head ∙ sym (after-append (name_of path ++ or_empty content) fields crc_begun))
