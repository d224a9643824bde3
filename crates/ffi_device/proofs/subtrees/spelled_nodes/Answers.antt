-- After the loop no path is left (`drop_all`), so by the invariant the text spells what is kept of every node, and all of it fits.
use Rattle.std.proofs.Common.{◌≡◌, ◌++◌, ◌∙◌, [], ap, append-nil, drop, subst, sym}
use Rattle.std.proofs.lemmas.List.{drop_all}
use Rattle.std.specs.List.{AllByRecursion, flat_map}
use Rattle.zk_jute.specs.Spelling.{Fits, spelling}
use Rattle.zk_client.specs.Clients.{view_of}
use Rattle.ffi_device.specs.Subtrees.{node_kept, node_layout}
use Rattle.ffi_device.proofs.subtrees.spelled_nodes.Goals as goal

pub returns : goal.returns
returns c =
    let none : drop c.loop-path.path-index c.args.paths.now ≡ [] =
    drop_all c.loop-path.path-index c.args.paths.now c.loop-path-test.false in
    record {
      fits = c.loop-path.invariant.fits
          (subst (AllByRecursion (λ path. Fits node_layout (node_kept (view_of c.args.client.now).cache path))) (sym none) tt);
      is = sym (append-nil c.loop-path.text.items) ∙ ap (λ rest. c.loop-path.text.items ++ flat_map
          (λ path. spelling node_layout (node_kept (view_of c.args.client.now).cache path)) rest) (sym none) ∙ c.loop-path.invariant.whole;
    }
