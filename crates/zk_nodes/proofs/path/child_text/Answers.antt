-- By whether the path above is the root: the bytes pushed are those of `child_text-below`, with a slash between, or of `child_text-root`.
use Rattle.std.proofs.Common.{[], ◌∷◌, ◌++◌, sym, ap, ◌∙◌, append_assoc, arith}
use Rattle.std.specs.Prelude.{string_bytes}
use Rattle.zk_nodes.proofs.Children.{child_text-root, child_text-below, below_root, at_root}
use Rattle.zk_nodes.proofs.PathTexts.{root_alone}
use Rattle.zk_nodes.proofs.path.child_text.Goals.{then-above-gt1+in_ok-push_str-2, else-above-gt1}
use Rattle.zk_nodes.proofs.path.child_text.Goals as goal

pub returns : goal.returns
returns g c =
    let first = c.in_ok-push_str.ensures.bytes ∙ ap (λ t. t ++ c.args.above.now) c.in_ok-text.ensures.bytes in
    elim c.if-above-gt1.branch [
      | then-above-gt1+in_ok-push_str-2 w ↦
          c.in_ok-push_str-3.ensures.bytes
          ∙ ap (λ t. string_bytes t ++ c.args.name.now) w.text-is
          ∙ ap (λ t. t ++ c.args.name.now) (w.in_ok-push_str-2.ensures.bytes ∙ ap (λ t. t ++ 47 ∷ []) first)
          ∙ append_assoc c.args.above.now (47 ∷ []) c.args.name.now
          ∙ sym (child_text-below c.args.above.now c.args.name.now c.requires
          (below_root c.args.above.now c.requires (λ e. omega (arith, w.if-above-gt1, e))))
      | else-above-gt1 w ↦
          let root = root_alone c.args.above.now c.requires (at_root c.args.above.now c.requires (omega (arith, w.if-above-gt1))) in
          c.in_ok-push_str-3.ensures.bytes
          ∙ ap (λ t. string_bytes t ++ c.args.name.now) w.text-is
          ∙ ap (λ t. t ++ c.args.name.now) (first ∙ root.1)
          ∙ sym (child_text-root c.args.above.now c.args.name.now root.0)
    ]
