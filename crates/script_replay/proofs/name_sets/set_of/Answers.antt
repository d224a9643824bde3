-- One more name in the set is one more in the list that the set is made of: `names_of-insert`, then `from_list_push` and `take_found`.
-- There is one at each index below their number: `one_found`.
use Rattle.std.proofs.Common.{◌≡◌, ◌∙◌, ℕ, ◌+◌, List, true, ap, sym, take, arith}
use Rattle.std.specs.BTreeSet.{BTreeSet, UpdatesBy}
use Rattle.std.specs.FinSet as set
use Rattle.std.specs.Prelude.{String, string_bytes, Some, slice_get}
use Rattle.std.specs.String.{string_cmp}
use Rattle.std.proofs.lemmas.Cmp.{nat_list_cmp_total}
use Rattle.zk_nodes.proofs.NamesLemmas.{names_of-insert}
use Rattle.zk_nodes.specs.inner.Names.{names_of}
use Rattle.script_replay.proofs.SetLemmas.{one_found, take_found}
use Rattle.script_replay.proofs.name_sets.set_of.Goals as goal
use Rattle.script_replay.proofs.name_sets.set_of.Goals.{in-Some+in_ok-from_str+in_ok-insert, in_default}

-- where the set is made of the names so far, it is so after one name more
one_kept : {A : Type 0} (names : List (List ℕ)) (index : ℕ) (name : List ℕ) (key : String A) (before after last : BTreeSet (String A))
    → Some name ≡ slice_get names index → string_bytes key ≡ name → last ≡ after → UpdatesBy string_cmp (string_cmp key) before after true
    → names_of before ≡ set.from_list (take index names) → names_of last ≡ set.from_list (take (index + 1) names)
one_kept names index name key before after last is spells same updates made =
    ap names_of same
    ∙ names_of-insert before after key updates
    ∙ (λ i. set.insert (made i) (spells i))
    ∙ sym (set.from_list_push nat_list_cmp_total (set.slice_cmp-IsAntisymmetric set.nat_cmp-IsAntisymmetric) (take index names) name)
    ∙ ap set.from_list (sym (take_found names index name is))

pub loop-index-preserved : goal.loop-index-preserved
loop-index-preserved g c =
    let names = c.args.names.now in
    let index = c.loop-index.index in
    elim c.match-get.branch [
      | in-Some+in_ok-from_str+in_ok-insert w ↦
          one_kept names index w.in-Some.name.now w.in_ok-from_str.field-0 c.loop-index.set w.insert.new.self c.match-get.set
          w.in-Some.ensures w.in_ok-from_str.ensures.ok w.set-is w.in_ok-insert.ensures.updates c.loop-index.invariant
      | in_default w ↦ absurd (one_found names index (omega (arith, c.loop-index-test.true, c.len-index-end.ensures)) w.in_default.ensures)
    ]
