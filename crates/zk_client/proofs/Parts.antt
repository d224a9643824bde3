-- The parts of setWatches, one after the other: by their index, each of them asks one question more and sends one frame more.
use Rattle.std.proofs.Common.{◌≡◌, ℕ, ℤ, zero, nat_lt, suc, ◌+◌, ◌≤◌, ◌<◌, Bool, false, List, [], ◌∷◌, ◌++◌, map, take, length, eqb, get_or}
use Rattle.std.proofs.Common.{refl, ap, sym, subst, ◌∙◌, arith, add-one, All}
use Rattle.std.proofs.Math.Dec.{eqb-suc-suc, eqb-zero-suc}
use Rattle.std.proofs.lemmas.List.Sums.{sum_by-cons}
use Rattle.std.proofs.lemmas.Bool.{lt-ltb}
use Rattle.std.proofs.lemmas.List.{length-map, get_or-map, take_more, take_all}
use Rattle.std.proofs.lemmas.List.Elements.{All-append, All-map, All-get_or}
use Rattle.zk_nodes.specs.Path.{Text}
use Rattle.zk_conversation.specs.Calls.{part_payload}
use Rattle.zk_conversation.proofs.Lengths.{weights, length-part as spelt-part}
use Rattle.zk_conversation.specs.Pending.{Pending, part_waits}
use Rattle.zk_watches.specs.Lists.{Lists}
use Rattle.zk_watches.specs.Parts.{Watch, OnData, OnExist, OnChild, path_of, watches_of, weight_of, total_of, parts}
use Rattle.zk_watches.specs.Lists.{IsSound}
use Rattle.zk_watches.specs.Lent.{lists_of}
use Rattle.zk_watches.proofs.GreedyLemmas.{parts_are_full}
use Rattle.zk_records.specs.declared.set_watches.SetWatchesRef.{SetWatchesRef}
use Rattle.zk_conversation.specs.Views.{payload_of_part}
use Rattle.zk_frames.specs.Frame.{frame}
use Rattle.zk_turns.specs.Turns.{Output, Send}
use Rattle.zk_turns.specs.Rule.{part_frame}
use Rattle.zk_client.specs.inner.Steps.{has_any}
use Rattle.zk_turns.specs.Past.{pending_for, parts_asked}
use Rattle.zk_limits.specs.declared.limits.TheConstants.{LONGEST_OUTGOING, LONGEST_PATH, MOST_WEIGHT}

pub one-more : (ps : List Lists) (at : ℕ) → at < length ps → take (suc at)
    (map pending_for (parts_asked ps)) ≡ take at (map pending_for (parts_asked ps)) ++ part_waits (eqb (suc at) (length ps)) ∷ []
one-more [] at lt = absurd (omega arith)
one-more (p ∷ []) zero lt = refl
one-more (p ∷ []) (suc at) lt = absurd (omega arith)
one-more (p ∷ q ∷ more) zero lt =
    ap (λ (b : Bool). part_waits b ∷ []) (sym (eqb-suc-suc 0 (suc (length more)) ∙ eqb-zero-suc (length more)))
one-more (p ∷ q ∷ more) (suc at) lt =
    ap (λ (t : List Pending). part_waits false ∷ t) (one-more (q ∷ more) at (omega arith))
    ∙ ap (λ (b : Bool). part_waits false ∷ (take at (map pending_for (parts_asked (q ∷ more))) ++ part_waits b ∷ []))
    (sym (eqb-suc-suc (suc at) (length (q ∷ more))))

pub all-asked : (ps : List Lists) → length (map pending_for (parts_asked ps)) ≡ length ps
all-asked [] = refl
all-asked (p ∷ []) = refl
all-asked (p ∷ q ∷ more) = ap suc (all-asked (q ∷ more))

-- ---- lengths

total-data : (texts : List Text) (more : List Watch) → total_of (map OnData texts ++ more) ≡ weights texts + total_of more
total-data [] more = omega arith
total-data (t ∷ ts) more = let h = total-data ts more in let s = sum_by-cons weight_of (OnData t) (map OnData ts ++ more) in omega arith

total-exist : (texts : List Text) (more : List Watch) → total_of (map OnExist texts ++ more) ≡ weights texts + total_of more
total-exist [] more = omega arith
total-exist (t ∷ ts) more = let h = total-exist ts more in let s = sum_by-cons weight_of (OnExist t) (map OnExist ts ++ more) in omega arith

total-child : (texts : List Text) → total_of (map OnChild texts) ≡ weights texts
total-child [] = refl
total-child (t ∷ ts) = let h = total-child ts in let s = sum_by-cons weight_of (OnChild t) (map OnChild ts) in omega arith

total-is : (d e c : List Text)
    → total_of (watches_of (record { data_watches = d; exist_watches = e; child_watches = c })) ≡ weights d + (weights e + weights c)
total-is d e c = total-data d (map OnExist e ++ map OnChild c)
    ∙ ap (λ (n : ℕ). weights d + n) (total-exist e (map OnChild c) ∙ ap (λ (n : ℕ). weights e + n) (total-child c))

pub length-part : (relative : ℤ) (d e c : List Text)
    → length (part_payload relative d e c) ≡ 28 + total_of (watches_of (record { data_watches = d; exist_watches = e; child_watches = c }))
length-part relative d e c = spelt-part relative d e c ∙ ap (λ (n : ℕ). 28 + n) (sym (total-is d e c))

-- ---- the parts of a registry, as they are lent

watches-short : (lists : Lists) → IsSound lists → All (λ watch. length (path_of watch) ≤ LONGEST_PATH) (watches_of lists)
watches-short lists sound =
    let P : Watch → Type 0 = λ watch. length (path_of watch) ≤ LONGEST_PATH in
    All-append P (map OnData lists.data_watches) (map OnExist lists.exist_watches ++ map OnChild lists.child_watches)
    (All-map P OnData lists.data_watches sound.data_short)
    (All-append P (map OnExist lists.exist_watches) (map OnChild lists.child_watches)
    (All-map P OnExist lists.exist_watches sound.exist_short) (All-map P OnChild lists.child_watches sound.child_short))

pub part-at : (items : List SetWatchesRef) (ps : List Lists) (at : ℕ) (item : SetWatchesRef)
    → map lists_of items ≡ ps → at < length items → item ≡ get_or items at item → get_or ps at (lists_of item) ≡ lists_of item
part-at items ps at item same lt is = ap (λ (l : List Lists). get_or l at (lists_of item)) (sym same)
    ∙ get_or-map lists_of items at item (lists_of item) lt ∙ ap lists_of (sym is)

pub part-small : (lists : Lists) (items : List SetWatchesRef) (at : ℕ) (item : SetWatchesRef) → IsSound lists
    → map lists_of items ≡ parts lists → at < length items → item ≡ get_or items at item → length (payload_of_part item) ≤ LONGEST_OUTGOING
part-small lists items at item sound same lt is =
    let full = parts_are_full lists (watches-short lists sound) in
    let within : at < length (parts lists) = subst (λ (n : ℕ). at < n) (sym (length-map items lists_of) ∙ ap length same) lt in
    let light : total_of (watches_of (get_or (parts lists) at (lists_of item))) ≤ MOST_WEIGHT =
    All-get_or (λ part. total_of (watches_of part) ≤ MOST_WEIGHT) (parts lists) at (lists_of item) within full.within in
    let here : total_of (watches_of (lists_of item)) ≤ MOST_WEIGHT =
    subst (λ (part : Lists). total_of (watches_of part) ≤ MOST_WEIGHT) (part-at items (parts lists) at item same lt is) light in
    let long = length-part item.relative_zxid (map (λ s. s.now) item.data_watches.now) (map (λ s. s.now) item.exist_watches.now)
    (map (λ s. s.now) item.child_watches.now) in
    omega arith

-- one more is asked and sent
pub record OneMore (ps : List Lists) (at : ℕ) (relative : ℤ) (item : SetWatchesRef) : Type 0 where
  pub asked : take (at + 1)
      (map pending_for (parts_asked ps)) ≡ take at (map pending_for (parts_asked ps)) ++ part_waits (eqb (at + 1) (length ps)) ∷ []
  pub sent : take (at + 1)
      (map (part_frame relative) ps) ≡ take at (map (part_frame relative) ps) ++ Send (frame (payload_of_part item)) ∷ []

pub next-part : (items : List SetWatchesRef) (ps : List Lists) (at : ℕ) (relative : ℤ) (item : SetWatchesRef) → map lists_of items ≡ ps
    → All (λ part. part.relative_zxid ≡ relative) items → at < length items → item ≡ get_or items at item → OneMore ps at relative item
next-part items ps at relative item same all lt is =
    let within : at < length ps = subst (λ (n : ℕ). at < n) (sym (length-map items lists_of) ∙ ap length same) lt in
    let framed : List Output = map (part_frame relative) ps in
    let inside : at < length framed = subst (λ (n : ℕ). at < n) (sym (length-map ps (part_frame relative))) within in
    let own : item.relative_zxid ≡ relative = subst (λ (x : SetWatchesRef). x.relative_zxid ≡ relative) (sym is)
    (All-get_or (λ part. part.relative_zxid ≡ relative) items at item lt all) in
    record {
      asked = rw add-one (one-more ps at within);
      sent = take_more framed at (part_frame relative (lists_of item)) inside
          ∙ ap (λ (o : Output). take at framed ++ o ∷ [])
          (get_or-map (part_frame relative) ps at (lists_of item) (part_frame relative (lists_of item)) within
          ∙ ap (part_frame relative) (part-at items ps at item same lt is) ∙ ap (λ (z : ℤ). part_frame z (lists_of item)) (sym own));
    }

pub all-parts : (ps : List Lists) (at : ℕ) → length ps ≤ at → take at (map pending_for (parts_asked ps)) ≡ map pending_for (parts_asked ps)
all-parts ps at le = take_all at (map pending_for (parts_asked ps)) (let e = all-asked ps in omega arith)

pub all-frames : (relative : ℤ) (ps : List Lists) (at : ℕ)
    → length ps ≤ at → take at (map (part_frame relative) ps) ≡ map (part_frame relative) ps
all-frames relative ps at le = take_all at (map (part_frame relative) ps) (let e = length-map ps (part_frame relative) in omega arith)

pub any-part : (ps : List Lists) → nat_lt 0 (length ps) ≡ has_any ps
any-part [] = refl
any-part (p ∷ ps) = lt-ltb 0 (length (p ∷ ps)) (omega arith)

-- where nothing is watched there is no part
pub no-parts : (lists : Lists) → length lists.data_watches + length lists.exist_watches + length lists.child_watches ≡ 0 → parts lists ≡ []
no-parts lists e = none lists.data_watches lists.exist_watches lists.child_watches e
  where
    none : (d e c : List Text)
        → length d + length e + length c ≡ 0 → parts (record { data_watches = d; exist_watches = e; child_watches = c }) ≡ []
    none [] [] [] e = refl
    none (x ∷ d) e c h = absurd (omega arith)
    none [] (x ∷ e) c h = absurd (omega arith)
    none [] [] (x ∷ c) h = absurd (omega arith)
