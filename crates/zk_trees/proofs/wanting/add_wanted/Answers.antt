-- Where it can be told what a tree lacks, that is what is wanted of it: what `Lacking::of` and `add_lacking` ensure, by `ok_all`.
use Rattle.std.proofs.Common.{◌≡◌, ◌++◌, ℕ, List, ap}
use Rattle.std.specs.Prelude.{Result, Ok, Err, OnOk}
use Rattle.zk_client.specs.Clients.{view_of}
use Rattle.zk_conclusions.specs.Lacks.{lacks_data, lacks_names, AreLacking, HasNoMoreNodes}
use Rattle.zk_nodes.specs.Path.{Text}
use Rattle.zk_nodes.specs.declared.side.Side.{Side}
use Rattle.zk_nodes.specs.declared.side.Side.TheVariants.{Data, Child}
use Rattle.zk_turns.specs.View.{View}
use Rattle.zk_trees.specs.Trees.{aims_at, all, wants_of, IsWanted, Wants}
use Rattle.zk_trees.specs.Trees.{aims_of}
use Rattle.zk_trees.proofs.wanting.add_wanted.Goals as goal

-- what lacks an answer was added
ok_all : {X E : Type 0} (result : Result X E) (view : View) (most : ℕ) (root : Text) (old : Wants) (aims : List (Side × Text))
    (nodes names : List Text)
    → HasNoMoreNodes view.cache root most → AreLacking view.cache root (lacks_data view.cache) nodes
    → AreLacking view.cache root (lacks_names view.cache) names
    → OnOk result (aims ≡ old.aims ++ (aims_at Data nodes ++ aims_at Child names))
    → OnOk result (IsWanted view most root old (record old { aims = aims }))
ok_all (Ok x) view most root old aims nodes names few first second adds =
    all nodes names few first second (ap (λ l. record old { aims = l }) adds)
ok_all (Err e) view most root old aims nodes names few first second adds = tt

pub returns-in-Ok : goal.returns-in-Ok
returns-in-Ok g c =
    ok_all c.add_lacking.result (view_of c.args.client.now) c.args.most c.args.root.now (wants_of c.args.wanted.now)
    (aims_of c.add_lacking.new.subjects.items)
    c.in-Ok.lacking.data.items c.in-Ok.lacking.names.items c.in-Ok.ensures.fits c.in-Ok.ensures.data
    c.in-Ok.ensures.names c.add_lacking.ensures
