-- The version after a change: its node by the kind of the change, from what `after_create`, `after_set` and `after_delete` ensure, and its
-- number of children by what `counted_after` ensures. Times and owners stay themselves as 64-bit values.
use Rattle.std.proofs.Common.{◌≡◌, ap, sym, ◌∙◌, Option, option_map, ℕ, ℤ, to_z, of_z, w64, arith}
use Rattle.std.proofs.lemmas.Int.{ints}
use Rattle.zk_nodes.specs.Path.{path_of}
use Rattle.zk_nodes.specs.History.{Creates, Sets, Deletes}
use Rattle.zk_history.specs.Made.{change_of}
use Rattle.zk_history.specs.Replay.{count_after}
use Rattle.zk_history.specs.declared.version.Entry.{Entry}
use Rattle.zk_history.specs.declared.version.Version.{Version}
use Rattle.zk_history.specs.inner.Versions.{entry_after}
use Rattle.zk_history.specs.Versions.{entry_of, children_of}
use Rattle.zk_history.proofs.replay.version_after.Goals as goal
use Rattle.zk_history.proofs.replay.version_after.Goals.{in-Create, in-Set, in-Delete}

pub returns : goal.returns
returns g c =
    let p = path_of c.args.at.now in
    let s = c.args.spot in
    let t : to_z w64 (of_z w64 s.time) ≡ s.time = omega (arith, ints) in
    let same : c.match-change.entry ≡ entry_after s.zxid s.time s.origin p (change_of c.args.change.now) (entry_of p c.args.held) =
    elim c.match-change.branch [
      | in-Create w ↦
          w.entry-is ∙ w.after_create-entry.ensures (option_map (λ v. v.items) w.in-Create.field-1)
          ∙ ap (λ (time : ℤ). entry_after s.zxid time s.origin p (Creates (path_of w.in-Create.path)
          (option_map (λ v. v.items) w.in-Create.field-1) (to_z w64 (of_z w64 w.in-Create.owner))) c.entry_of-before.result) t
          ∙ ap (λ (owner : ℤ). entry_after s.zxid s.time s.origin p
          (Creates (path_of w.in-Create.path) (option_map (λ v. v.items) w.in-Create.field-1) owner) c.entry_of-before.result)
          (let o : to_z w64 (of_z w64 w.in-Create.owner) ≡ w.in-Create.owner = omega (arith, ints) in o)
          ∙ ap (entry_after s.zxid s.time s.origin p (Creates (path_of w.in-Create.path)
          (option_map (λ v. v.items) w.in-Create.field-1) w.in-Create.owner)) c.entry_of-before.ensures
          ∙ ap (λ change. entry_after s.zxid s.time s.origin p (change_of change) (entry_of p c.args.held)) (sym w.in-Create.is)
      | in-Set w ↦
          w.entry-is ∙ w.after_set-entry.ensures (option_map (λ v. v.items) w.in-Set.field-1)
          ∙ ap (λ (time : ℤ). entry_after s.zxid time s.origin p
          (Sets (path_of w.in-Set.path) (option_map (λ v. v.items) w.in-Set.field-1)) c.entry_of-before.result) t
          ∙ ap (entry_after s.zxid s.time s.origin p (Sets (path_of w.in-Set.path) (option_map (λ v. v.items) w.in-Set.field-1)))
          c.entry_of-before.ensures
          ∙ ap (λ change. entry_after s.zxid s.time s.origin p (change_of change) (entry_of p c.args.held)) (sym w.in-Set.is)
      | in-Delete w ↦
          w.entry-is ∙ w.after_delete-entry.ensures s.time s.origin
          ∙ ap (entry_after s.zxid s.time s.origin p (Deletes (path_of w.in-Delete.path))) c.entry_of-before.ensures
          ∙ ap (λ change. entry_after s.zxid s.time s.origin p (change_of change) (entry_of p c.args.held)) (sym w.in-Delete.is)
    ] in
    let n : c.counted_after-children.result ≡ count_after p (change_of c.args.change.now) (children_of c.args.held) =
    c.counted_after-children.ensures ∙ ap (count_after p (change_of c.args.change.now)) c.children_of.ensures in
    let made : Option Entry → ℕ → Version = λ e n. record { zxid = s.zxid; origin = s.origin; entry = e; children = n } in
    ap (λ e. made e c.counted_after-children.result) same
    ∙ ap (made (entry_after s.zxid s.time s.origin p (change_of c.args.change.now) (entry_of p c.args.held))) n
