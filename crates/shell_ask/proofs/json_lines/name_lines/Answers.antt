-- The lines are those of the keys, which ascend (`sorted_map`) and are the names (`same_members`): from both clauses of `set_lines`.
use Rattle.std.proofs.Common.{◌≡◌, Result, Ok, Err, IfOk, OnOk, map, subst}
use Rattle.std.specs.Prelude.{bytes_eq, string_bytes}
use Rattle.std.specs.FinSet as set
use Rattle.std.specs.List.{list_any}
use Rattle.std.specs.Cmp.Lexicographic.{slice_cmp}
use Rattle.std.specs.Ordering.{nat_cmp}
use Rattle.zk_nodes.specs.Names.{Names as NameSet}
use Rattle.zk_nodes.specs.Path.{Text}
use Rattle.script_words.proofs.NamesLemmas.{sorted_map}
use Rattle.script_replay.proofs.SetLemmas.{same_members}
use Rattle.shell_ask.proofs.json_lines.name_lines.Goals as goal

-- what follows from two clauses of a call that has not failed
with_ok : {X E : Type 0} {P R : X → Type 0} {Q : Type 0} (r : Result X E) → IfOk r P → OnOk r Q → ((x : X) → P x → Q → R x) → IfOk r R
with_ok (Ok x) p q f = f x p q
with_ok (Err e) p q f = tt

pub returns : goal.returns
returns g c =
    let found = c.in_ok-set.set in
    let each = map string_bytes found.keys in
    let names : NameSet = set.from_list c.args.names.now in
    let same : (name : Text) → list_any (bytes_eq name) each ≡ set.contains names name = subst
    (λ (s : NameSet). (name : Text) → list_any (bytes_eq name) each ≡ set.contains s name) c.in_ok-set.ensures (same_members found) in
    with_ok c.set_lines.result c.set_lines.ensures.lines c.set_lines.ensures.ordered (λ lines printed ordered. record {
      each = each;
      are = record { ascending = sorted_map string_bytes (slice_cmp nat_cmp) found.keys ordered; same = same };
      printed = printed;
    })
