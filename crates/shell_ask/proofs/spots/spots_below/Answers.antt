-- The children come in the order of their names, each once: the set's keys are sorted (`sorted_map`) and have the list's members
-- (`same_members`). That each becomes a node, or which has no path, is what `spots_of` ensures. Of no names there is no child
-- (`none_in_order`).
use Rattle.std.proofs.Common.{◌≡◌, [], ap, map, subst}
use Rattle.std.specs.Prelude.{bytes_eq, string_bytes}
use Rattle.std.specs.FinSet as set
use Rattle.std.specs.List.{list_any}
use Rattle.std.specs.List.Sorted.{IsStrictlySortedBy}
use Rattle.std.specs.Cmp.Lexicographic.{slice_cmp}
use Rattle.std.specs.Ordering.{nat_cmp}
use Rattle.std.proofs.lemmas.Result.{IfErr-weaker, IfOk-weaker}
use Rattle.zk_nodes.specs.Names.{Names as NameSet}
use Rattle.zk_nodes.specs.Path.{Text}
use Rattle.script_words.proofs.NamesLemmas.{sorted_map}
use Rattle.script_replay.proofs.SetLemmas.{same_listed, same_members}
use Rattle.shell_ask.specs.Trees.{name_set, AreInOrder}
use Rattle.shell_ask.specs.inner.Trees.{spot_view}
use Rattle.shell_ask.proofs.spots.spots_below.Goals as goal

-- the names of an empty list, in order, are none
none_in_order : AreInOrder [] []
unfolding IsStrictlySortedBy
none_in_order = record { ascending = tt; same = same_listed [] }

pub returns-in_default-clause-ok : goal.returns-in_default-clause-ok
returns-in_default-clause-ok g c = rw c.in_default.is ([], none_in_order, ap (map spot_view) c.new.ensures.items)

pub returns : goal.returns
returns g c =
    let found = c.in_ok-set.set in
    let each = map string_bytes found.keys in
    let names = c.in-Some.names.now in
    let same : (name : Text) → list_any (bytes_eq name) each ≡ set.contains (name_set names) name
    = subst (λ (s : NameSet). (name : Text) → list_any (bytes_eq name) each ≡ set.contains s name)
    c.in_ok-set.ensures (same_members found) in
    let are : AreInOrder each names
    = record { ascending = sorted_map string_bytes (slice_cmp nat_cmp) found.keys c.spots_of.ensures.ordered; same = same } in
    rw c.in-Some.is (record {
      ok = IfOk-weaker c.spots_of.result _ _ (λ spots made. (each, are, made)) c.spots_of.ensures.ok;
      err = IfErr-weaker c.spots_of.result _ _
          (λ fault missing is. let why = missing is in (each, why.0, are, why.1, why.2)) c.spots_of.ensures.err;
    })
