-- After the loop no path is left (`drop_all`), so by the invariant the text spells every path with its side, and all of it fits.
use Rattle.std.proofs.Common.{◌≡◌, ◌++◌, ◌∙◌, [], ap, append-nil, drop, subst, sym}
use Rattle.std.proofs.lemmas.List.{drop_all}
use Rattle.std.specs.List.{AllByRecursion, flat_map}
use Rattle.zk_jute.specs.Spelling.{Fits, spelling}
use Rattle.ffi_device.specs.Subtrees.{read_layout, read_value}
use Rattle.ffi_device.proofs.subtrees.spelled_reads.Goals as goal

pub returns : goal.returns
returns c =
    let none : drop c.loop-path.path-index c.args.paths.now ≡ [] =
    drop_all c.loop-path.path-index c.args.paths.now c.loop-path-test.false in
    record {
      fits = c.loop-path.invariant.fits (subst (AllByRecursion (λ path. Fits read_layout (read_value c.args.side path))) (sym none) tt);
      is = sym (append-nil c.loop-path.text.items)
          ∙ ap (λ rest. c.loop-path.text.items ++ flat_map (λ path. spelling read_layout (read_value c.args.side path)) rest) (sym none)
          ∙ c.loop-path.invariant.whole;
    }
