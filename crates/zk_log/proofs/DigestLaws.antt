-- What becomes of the sum of digests as a node is put or taken away.
use Rattle.std.proofs.Common.{◌≡◌, ℕ, ◌+◌, ◌-◌, ◌%◌, ◌^◌, ◌<◌, List, [], Option, Some, None, sym, ap, ◌∙◌, arith, String, BTreeMap}
use Rattle.std.specs.List.{sum_by}
use Rattle.std.specs.Map.{values_of, remove_entry, set_value}
use Rattle.std.specs.Option.{option_map, unwrap_or}
use Rattle.std.specs.BTreeMap.{insert_entry, is_at, get, get_by, IsOrdered}
use Rattle.std.specs.String.{string_cmp, string_bytes, string_cmp_total}
use Rattle.std.specs.Ordering.{nat_cmp}
use Rattle.std.specs.Cmp.Lexicographic.{slice_cmp}
use Rattle.std.proofs.lemmas.Map.Entries.{sum_by-insert_entry, sum_by-remove_entry, sum_by-set_value}
use Rattle.zk_log.specs.declared.digest_node.DigestNode.{DigestNode}
use Rattle.zk_log.specs.Digests.{node_digest, nodes_digest}

-- the digest of a node that may be there
abbrev pub digest_or_none : Option DigestNode → ℕ
digest_or_none node = unwrap_or (option_map node_digest node) 0

wraps_put : (old new before added : ℕ) → new + before ≡ old + added → before < 2 ^ 64
    → ((old % 2 ^ 64 + (18446744073709551616 - before)) % 18446744073709551616 + added) % 18446744073709551616 ≡ new % 2 ^ 64
wraps_put old new before added is fits = omega (arith, is, fits)

wraps_removed : (old new before : ℕ) → new + before ≡ old → before < 2 ^ 64
    → (old % 2 ^ 64 + (18446744073709551616 - before)) % 18446744073709551616 ≡ new % 2 ^ 64
wraps_removed old new before is fits = omega (arith, is, fits)

-- the same entries have the same digest
pub same_sum : {Y : Type 0} (m n : BTreeMap (String Y) DigestNode) (sum : ℕ) → n.entries ≡ m.entries → sum ≡ nodes_digest m
    → sum ≡ nodes_digest n
unfolding nodes_digest
same_sum m n sum same is = is ∙ ap (λ es. sum_by node_digest (values_of es) % 2 ^ 64) (sym same)

pub put_sum : {Y : Type 0} (m n : BTreeMap (String Y) DigestNode) (key : String Y) (node : DigestNode) (old : Option DigestNode)
    (sum before added : ℕ)
    → n.entries ≡ insert_entry string_cmp m.entries key node → IsOrdered string_cmp m → old ≡ get string_cmp m key
    → before ≡ digest_or_none old → before < 2 ^ 64 → added ≡ node_digest node → sum ≡ nodes_digest m
    → ((sum + (18446744073709551616 - before)) % 18446744073709551616 + added) % 18446744073709551616 ≡ nodes_digest n
unfolding nodes_digest
put_sum m n key node old sum before added put ordered found is fits adds was =
    let totals : sum_by node_digest (values_of n.entries) + before ≡ sum_by node_digest (values_of m.entries) + added =
    rw (put, is, found, adds) (sum_by-insert_entry node_digest string_cmp_total m.entries key node ordered) in
    rw was (wraps_put _ _ before added totals fits)

pub removed_sum : {Y : Type 0} (m n : BTreeMap (String Y) DigestNode) (path : List ℕ) (node : DigestNode) (sum before : ℕ)
    → n.entries ≡ remove_entry (is_at (λ k. slice_cmp nat_cmp path (string_bytes k))) m.entries
    → Some node ≡ get_by (λ k. slice_cmp nat_cmp path (string_bytes k)) m → before ≡ node_digest node → before < 2 ^ 64
    → sum ≡ nodes_digest m → (sum + (18446744073709551616 - before)) % 18446744073709551616 ≡ nodes_digest n
unfolding nodes_digest
removed_sum m n path node sum before removed found is fits was =
    let totals : sum_by node_digest (values_of n.entries) + before ≡ sum_by node_digest (values_of m.entries) =
    rw (removed, is)
    (ap (λ o. sum_by node_digest (values_of (remove_entry (is_at (λ k. slice_cmp nat_cmp path (string_bytes k))) m.entries))
    + digest_or_none o) found
    ∙ sum_by-remove_entry node_digest (is_at (λ k. slice_cmp nat_cmp path (string_bytes k))) m.entries) in
    rw was (wraps_removed _ _ before totals fits)

pub set_sum : {Y : Type 0} (m n : BTreeMap (String Y) DigestNode) (path : List ℕ) (old node : DigestNode) (sum before added : ℕ)
    → n.entries ≡ set_value (is_at (λ k. slice_cmp nat_cmp path (string_bytes k))) m.entries node
    → Some old ≡ get_by (λ k. slice_cmp nat_cmp path (string_bytes k)) m → before ≡ node_digest old → before < 2 ^ 64
    → added ≡ node_digest node → sum ≡ nodes_digest m
    → ((sum + (18446744073709551616 - before)) % 18446744073709551616 + added) % 18446744073709551616 ≡ nodes_digest n
unfolding nodes_digest
set_sum m n path old node sum before added written found is fits adds was =
    let totals : sum_by node_digest (values_of n.entries) + before ≡ sum_by node_digest (values_of m.entries) + added =
    rw (written, is, adds)
    (sum_by-set_value node_digest (is_at (λ k. slice_cmp nat_cmp path (string_bytes k))) m.entries old node (sym found)) in
    rw was (wraps_put _ _ before added totals fits)

pub empty_sum : {Y : Type 0} (m : BTreeMap (String Y) DigestNode) → m.entries ≡ [] → 0 ≡ nodes_digest m
unfolding nodes_digest
empty_sum m empty = sym (ap (λ es. sum_by node_digest (values_of es) % 2 ^ 64) empty)
