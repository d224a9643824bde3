-- A name that is written is the first of those that were left: `drop_found`. There is one at each index below their number: `one_found`.
use Rattle.std.proofs.Common.{◌≡◌, ◌∙◌, ℕ, ◌+◌, List, [], ◌∷◌, ◌++◌, ap, sym, drop, map, append_assoc, arith}
use Rattle.std.specs.Prelude.{Some, slice_get}
use Rattle.json.specs.Token as json
use Rattle.script_replay.proofs.SetLemmas.{drop_found, one_found}
use Rattle.shell_watch.proofs.kept_object.put_each.Goals as goal
use Rattle.shell_watch.proofs.kept_object.put_each.Goals.{in-Some+in_ok-string, in_default}

-- where what is written, and the names that are left, are the whole, it is so after one name more
one_written : (names : List (List ℕ)) (index : ℕ) (name : List ℕ) (before after last whole : List json.Token)
    → Some name ≡ slice_get names index → last ≡ after → after ≡ before ++ json.string name ∷ []
    → before ++ map json.string (drop index names) ≡ whole → last ++ map json.string (drop (index + 1) names) ≡ whole
one_written names index name before after last whole is same written left =
    let rest = map json.string (drop (index + 1) names) in
    ap (λ tokens. tokens ++ rest) (same ∙ written)
    ∙ append_assoc before (json.string name ∷ []) rest
    ∙ ap (λ others. before ++ map json.string others) (sym (drop_found names index name is))
    ∙ left

pub loop-index-preserved : goal.loop-index-preserved
loop-index-preserved g c =
    let names = c.args.names.now in
    let index = c.loop-index.index in
    elim c.match-get.branch [
      | in-Some+in_ok-string w ↦ (
        ap (λ writer. writer.before) w.writer-is ∙ w.in_ok-string.ensures.room.0 ∙ c.loop-index.invariant.0,
        one_written names index w.in-Some.name.now c.loop-index.writer.tokens w.string.new.self.tokens c.match-get.writer.tokens
            (c.args.writer.now.tokens ++ map json.string names)
            w.in-Some.ensures
            (ap (λ writer. writer.tokens) w.writer-is)
            w.in_ok-string.ensures.ok
            c.loop-index.invariant.1,
      )
      | in_default w ↦
          absurd (one_found names index (omega (arith, c.loop-index-test.true, c.len-index-end.ensures.len)) w.in_default.ensures)
    ]
