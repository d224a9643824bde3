-- A name that is written is the first of those that were left: `drop_found`. There is one at each index below their number: `one_found`.
use Rattle.std.proofs.Common.{◌≡◌, ◌∙◌, ℕ, ◌+◌, List, ◌++◌, ap, sym, drop, append_assoc, arith}
use Rattle.std.specs.Prelude.{String, string_bytes, Some, slice_get}
use Rattle.script_words.specs.Values.{name_text, names_text}
use Rattle.script_replay.proofs.SetLemmas.{drop_found, one_found}
use Rattle.script_replay.proofs.names.push_sorted.Goals as goal
use Rattle.script_replay.proofs.names.push_sorted.Goals.{in-Some+in_ok-push_name, in_default}

-- where what is written, and what the names add that are left, is the whole, it is so after one name more
one_written : {A : Type 0} (names : List (List ℕ)) (index : ℕ) (name bytes before whole : List ℕ) (after last : String A)
    → Some name ≡ slice_get names index → bytes ≡ name → last ≡ after → string_bytes after ≡ before ++ name_text bytes
    → before ++ names_text (drop index names) ≡ whole → string_bytes last ++ names_text (drop (index + 1) names) ≡ whole
one_written names index name bytes before whole after last is spells same written left =
    let rest = names_text (drop (index + 1) names) in
    ap (λ text. string_bytes text ++ rest) same
    ∙ ap (λ text. text ++ rest) (written ∙ ap (λ word. before ++ name_text word) spells)
    ∙ append_assoc before (name_text name) rest
    ∙ ap (λ others. before ++ names_text others) (sym (drop_found names index name is))
    ∙ left

pub loop-index-preserved : goal.loop-index-preserved
loop-index-preserved g c =
    let names = c.args.names.now in
    let index = c.loop-index.index in
    elim c.match-get.branch [
      | in-Some+in_ok-push_name w ↦
          one_written names index w.in-Some.name.now w.as_bytes.result.now (string_bytes c.loop-index.text) (string_bytes c.args.text.now
          ++ names_text names) w.push_name.new.text c.match-get.text w.in-Some.ensures w.as_bytes.ensures.value w.text-is
          w.in_ok-push_name.ensures
          c.loop-index.invariant
      | in_default w ↦
          absurd (one_found names index (omega (arith, c.loop-index-test.true, c.len-index-end.ensures.len)) w.in_default.ensures)
    ]
